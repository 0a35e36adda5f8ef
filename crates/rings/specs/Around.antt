-- What is left of the rings around a cell from a place on.
-- Assumes nothing.
use Rattle.std.specs.Prelude.{ℕ, List, [], Some, None, Option}
use Rattle.std.specs.Option.{option_to_list}
use Rattle.rings.specs.RingLists.{side_from, ring_from, ring_of}
use Rattle.rings.specs.declared.cell_rings.CellRings.{CellRings}
use Rattle.rings.specs.declared.place.RingPlace.{RingPlace}
use Rattle.shape.specs.Flagged.{grid_in, flags_in}
use Rattle.takers.specs.declared.triangle.NumberedTriangle.{NumberedTriangle}
use Rattle.walks.specs.declared.standing.Standing.{Standing}

-- of the side
abbrev pub side_left : CellRings → RingPlace → List NumberedTriangle
side_left r p = side_from (grid_in r.field) (flags_in r.field) r.center.0 r.center.1 p.ring p.side p.step

-- of the ring
abbrev pub ring_left : CellRings → RingPlace → List NumberedTriangle
ring_left r p = ring_from (grid_in r.field) (flags_in r.field) r.center.0 r.center.1 p.ring p.side p.step

-- a whole ring
abbrev pub ring_around : CellRings → ℕ → List NumberedTriangle
ring_around r = ring_of (grid_in r.field) (flags_in r.field) r.center.0 r.center.1

-- the second of what was found in a cell
abbrev pub second_list : Option Standing → List NumberedTriangle
second_list None = []
second_list (Some s) = option_to_list s.second
