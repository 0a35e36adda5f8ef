-- The state that the program holds of a walk by rings.
-- Assumes nothing.
use Rattle.std.specs.Prelude.{◌≤◌, ◌++◌}
use Rattle.rings.specs.Around.{ring_left}
use Rattle.rings.specs.RingCursors.{RingCursor}
use Rattle.rings.specs.RingLists.{farthest_ring}
use Rattle.rings.specs.declared.radial.HeightFieldRadialTriangles.TheInside.{Inside}
use Rattle.shape.specs.Flagged.{grid_in, flags_in}
use Rattle.std.specs.Option.{option_to_list}

abbrev pub cursor_of : Inside → RingCursor
cursor_of w =
    record {
      grid = grid_in w.rings.field;
      flags = flags_in w.rings.field;
      row = w.rings.center.0;
      column = w.rings.center.1;
      ring = w.place.ring;
      left = option_to_list w.pending ++ ring_left w.rings w.place;
    }

-- the ring entered last has a cell of the grid, or is nearer than one that has
abbrev pub IsNear : Inside → Type 0
IsNear w =
    let g = grid_in w.rings.field in
    w.place.ring ≤ farthest_ring g.rows g.columns w.rings.center.0 w.rings.center.1
