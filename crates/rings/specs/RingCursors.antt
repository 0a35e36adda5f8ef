-- The state of a walk by rings, and what asking it does.
-- Assumes nothing.
use Rattle.std.specs.Prelude.{ℕ, ◌-◌, List, Option}
use Rattle.points.specs.Points.{closest_cell}
use Rattle.rings.specs.Asking.{asked, to_come}
use Rattle.rings.specs.Reaches.{last_ring}
use Rattle.rings.specs.RingLists.{ring_of}
use Rattle.rings.specs.declared.reach.Reach.{Reach}
use Rattle.math.specs.declared.vector.Vector.{Vector}
use Rattle.shape.specs.Grids.{Grid}
use Rattle.takers.specs.declared.triangle.NumberedTriangle.{NumberedTriangle}

-- the grid and its statuses, the centre, the ring entered last and what is left of it
pub record RingCursor : Type 0 where
  pub grid : Grid
  pub flags : List ℕ
  pub row : ℕ
  pub column : ℕ
  pub ring : ℕ
  pub left : List NumberedTriangle

-- round the cell closest to a point, with ring 0 entered
abbrev pub fresh_cursor : Grid → List ℕ → Vector → RingCursor
fresh_cursor g flags p =
    let center = closest_cell g p in
    record { grid = g; flags = flags; row = center.0; column = center.1; ring = 0; left = ring_of g flags center.0 center.1 0 }

-- the rings that a cursor goes through
abbrev pub rings_of : RingCursor → ℕ → List NumberedTriangle
rings_of w = ring_of w.grid w.flags w.row w.column

-- the last ring that it enters with a reach
abbrev pub last_ring_of : RingCursor → Reach → ℕ
last_ring_of w reach = last_ring w.grid w.row w.column reach

-- what it answers to a reach, and its state then
abbrev pub asked_of : RingCursor → Reach → Option NumberedTriangle × RingCursor
asked_of w reach =
    let answer = asked (rings_of w) (last_ring_of w reach - w.ring) w.ring w.left in
    (answer.0, record { grid = w.grid; flags = w.flags; row = w.row; column = w.column; ring = answer.1; left = answer.2 })

-- what is to come as long as it is asked with one reach
abbrev pub to_come_within : RingCursor → Reach → List NumberedTriangle
to_come_within w reach = to_come (rings_of w) w.ring w.left (last_ring_of w reach)
