use Rattle.std.proofs.Common.{◌≡◌, None, sym, ◌∙◌}
use Rattle.rings.proofs.CursorSteps.{found_next}
use Rattle.rings.proofs.radial.HeightFieldRadialTriangles.next.Goals as goal
use Rattle.shape.specs.Grids.{grid_of}

pub returns-in_err-standing : goal.returns-in_err-standing
returns-in_err-standing c =
    let w = c.self.inside in
    let r = w.rings in
    let none_waits : w.pending ≡ None = sym c.take.ensures.value ∙ c.in_default.is in
    let answer = rw c.in_err-standing.was at c.find-found.ensures.answer in
    rw (← c.self.view_is, c.take.ensures.after, c.from_residual.ensures)
    (found_next (grid_of r.field.grid.now) r.field.statuses.data.now r.center.0 r.center.1 c.args.reach w.place.ring
    c.last_ring-last.result c.find-found.result.1.ring w.pending None _ _ none_waits c.last_ring-last.ensures.last answer)

pub returns : goal.returns
returns c =
    let w = c.self.inside in
    let r = w.rings in
    let none_waits : w.pending ≡ None = sym c.take.ensures.value ∙ c.in_default.is in
    let answer = rw c.in_ok-standing.was at c.find-found.ensures.answer in
    rw (← c.self.view_is)
    (found_next (grid_of r.field.grid.now) r.field.statuses.data.now r.center.0 r.center.1 c.args.reach w.place.ring
    c.last_ring-last.result c.find-found.result.1.ring w.pending _ _ _ none_waits c.last_ring-last.ensures.last answer)
