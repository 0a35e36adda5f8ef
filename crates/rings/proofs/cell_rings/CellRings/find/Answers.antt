use Rattle.std.proofs.Common.{sym, ◌∙◌, arith}
use Rattle.rings.proofs.RingSteps.{goes_on_less, answers_later}
use Rattle.rings.proofs.cell_rings.CellRings.find.Goals as goal
use Rattle.shape.specs.Grids.{grid_of}

pub loop-place-preserved : goal.loop-place-preserved
loop-place-preserved c =
    let r = c.args.self.now in
    let p = c.loop-place.place in
    let none = sym c.if-is_some.ensures in
    let next = sym c.side_after.ensures ∙ c.in-Some.is in
    let less = goes_on_less p.0 p.1.0 c.args.last (c.in-Some.ring, c.in-Some.side) next in (
      answers_later (grid_of r.field.grid.now) r.field.statuses.data.now r.center.0 r.center.1 c.args.last
          p.0 p.1.0 p.1.1.0 _ _ c.find_on_side-found.ensures.found none (c.find_on_side-found.ensures.none none)
          (c.in-Some.ring, c.in-Some.side) next ∙ c.loop-place.invariant.0,
      omega (arith, less.1),
      omega (arith, less.1),
    )
