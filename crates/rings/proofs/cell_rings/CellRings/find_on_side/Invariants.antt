use Rattle.std.proofs.Common.{◌≡◌}
use Rattle.rings.proofs.cell_rings.CellRings.find_on_side.Given as goal
use Rattle.rings.specs.RingLists.{side_from}
use Rattle.shape.specs.Grids.{grid_of}

-- what is still to come of the side is what was to come at the start
abbrev pub invariant-loop-step : goal.invariant-loop-step
invariant-loop-step l =
    let r = l.self in
    let side = side_from (grid_of r.field.grid.now) r.field.statuses.data.now r.center.0 r.center.1 l.place.ring l.place.side in
    side l.step ≡ side l.place.step
