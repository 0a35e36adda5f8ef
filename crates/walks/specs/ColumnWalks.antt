-- What is left of a walk by columns.
-- Assumes nothing.
use Rattle.std.specs.Prelude.{◌<◌, ◌≤◌, List, ◌++◌}
use Rattle.std.specs.Option.{option_to_list}
use Rattle.shape.specs.Flagged.{grid_in, flags_in}
use Rattle.takers.specs.declared.triangle.NumberedTriangle.{NumberedTriangle}
use Rattle.walks.specs.ColumnLists.{columns_from, first_slot}
use Rattle.walks.specs.declared.columns.HeightFieldTriangles.TheInside.{Inside}

-- the other triangle of the last cell, and those from its next cell on
abbrev pub columns_left : Inside → List NumberedTriangle
columns_left w =
    let g = grid_in w.field in
    option_to_list w.pending ++ columns_from g (flags_in w.field) (first_slot g w.next_cell.0 w.next_cell.1)

-- the next cell is in a row of the grid, and in a column or past the last
pub record IsColumnWalk (w : Inside) : Type 0 where
  pub row : w.next_cell.0 < (grid_in w.field).rows
  pub column : w.next_cell.1 ≤ (grid_in w.field).columns
