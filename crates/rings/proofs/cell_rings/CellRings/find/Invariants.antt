use Rattle.std.proofs.Common.{◌≡◌, ◌+◌, ◌-◌, ◌*◌, ◌^◌, ◌<◌, ◌≤◌, max}
use Rattle.rings.proofs.RingSteps.{sides_left, from_place}
use Rattle.rings.proofs.cell_rings.CellRings.find.Given as goal
use Rattle.shape.specs.Grids.{grid_of}

-- what will be answered from here is what was to be answered at the start
abbrev pub invariant-loop-place : goal.invariant-loop-place
invariant-loop-place l =
    let r = l.self in
    let answer = from_place (grid_of r.field.grid.now) r.field.statuses.data.now r.center.0 r.center.1 l.last in
    (answer l.place.0 l.place.1.0 l.place.1.1.0 ≡ answer l.fn.start.ring l.fn.start.side l.fn.start.step)
    × (l.place.0 ≤ max l.fn.start.ring l.last) × (l.place.0 < 2 ^ 24)

abbrev pub decreases-loop-place : goal.decreases-loop-place
decreases-loop-place l = 4 * (l.last - l.place.0) + sides_left l.place.1.0
