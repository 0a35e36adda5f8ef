use Rattle.std.proofs.Common.{◌≡◌, ℕ, ◌+◌, ◌≤◌, [], ◌++◌, sym, ◌∙◌, arith}
use Rattle.rings.proofs.SideSteps.{side_skips, side_ends, side_step}
use Rattle.rings.proofs.cell_rings.CellRings.find_on_side.Goals as goal
use Rattle.rings.proofs.cell_rings.CellRings.find_on_side.Goals.{After-is_some, After-max}
use Rattle.rings.specs.Around.{side_left}
use Rattle.rings.specs.RingLists.{side_from}
use Rattle.shape.specs.Grids.{grid_of}
use Rattle.walks.proofs.ColumnSteps.{none_standing}
use Rattle.walks.specs.Standing.{standing_list}

pub loop-step-init : goal.loop-step-init
loop-step-init c =
    let r = c.args.self.now in
    let skips = side_skips (grid_of r.field.grid.now) r.field.statuses.data.now r.center.0 r.center.1
    c.args.place.ring c.args.place.side _ _ c.span-on_grid.ensures c.args.place.step in
    rw c.max-first.ensures (sym skips)

-- from the step to the one after it: what was found comes first
found_first :
    (c : After-is_some)
    → side_from (grid_of c.args.self.now.field.grid.now) c.args.self.now.field.statuses.data.now c.args.self.now.center.0
    c.args.self.now.center.1 c.args.place.ring c.args.place.side c.loop-step.step
    ≡ standing_list c.standing_at-found.result ++ side_left c.args.self.now (record (c.args.place) { step = c.loop-step.step + 1 })
found_first c =
    let r = c.args.self.now in
    let cell = rw c.at.ensures at c.cell_at-i.ensures in
    side_step (grid_of r.field.grid.now) r.field.statuses.data.now r.center.0 r.center.1 c.args.place.ring c.args.place.side
    _ _ c.span-on_grid.ensures c.loop-step.step _ _ (standing_list c.standing_at-found.result)
    (omega (arith, c.max-first.ensures, c.loop-step.auto.step)) c.loop-step-test.true cell c.standing_at-found.ensures

pub returns-then-is_some-clause-found : goal.returns-then-is_some-clause-found
returns-then-is_some-clause-found c = sym c.loop-step.invariant ∙ found_first c.before

pub loop-step-preserved : goal.loop-step-preserved
loop-step-preserved c =
    let none = none_standing c.standing_at-found.result (sym c.if-is_some.ensures) in
    sym (rw none at (found_first c.before)) ∙ c.loop-step.invariant

-- from the end of the part on the grid nothing is left
ends : (c : After-max) (step : ℕ) → c.span-on_grid.result.end ≤ step → side_left c.args.self.now (record (c.args.place) { step = step }) ≡ []
ends c step h =
    let r = c.args.self.now in
    side_ends (grid_of r.field.grid.now) r.field.statuses.data.now r.center.0 r.center.1 c.args.place.ring c.args.place.side
    _ _ c.span-on_grid.ensures step h

pub returns-clause-found : goal.returns-clause-found
returns-clause-found c =
    sym c.loop-step.invariant ∙ ends c c.loop-step.step c.loop-step-test.false ∙ sym (ends c c.max.result (omega arith))

pub returns-clause-none : goal.returns-clause-none
returns-clause-none c = λ h. ends c c.max.result (omega arith)
