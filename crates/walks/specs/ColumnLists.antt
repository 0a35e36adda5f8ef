-- The column list of a grid: its standing triangles, column after column, rows rising, the left one of a cell first.
-- Assumes nothing.
use Rattle.std.specs.Prelude.{ℕ, ◌+◌, ◌-◌, ◌*◌, ◌/◌, ◌%◌, Bool, List, ◌==◌}
use Rattle.search.specs.BoxLists.{numbered_at, from_on}
use Rattle.search.specs.Triangles.{corners_at}
use Rattle.shape.specs.Grids.{Grid}
use Rattle.takers.specs.declared.triangle.NumberedTriangle.{NumberedTriangle}

-- the triangle of a cell on the left or the right, as it is drawn by its own lines, if it stands
abbrev pub drawn_at : Grid → List ℕ → ℕ → ℕ → Bool → List NumberedTriangle
drawn_at g flags i j left = numbered_at g flags (corners_at g i j) i j left

-- the k-th of all triangles in this order, standing or removed, if it stands
abbrev pub column_slot : Grid → List ℕ → ℕ → List NumberedTriangle
column_slot g flags k = drawn_at g flags (k / 2 % g.rows) (k / 2 / g.rows) (k % 2 == 0)

-- how many there are
abbrev pub slots : Grid → ℕ
slots g = 2 * (g.rows * g.columns)

-- those from the k-th on
abbrev pub columns_from : Grid → List ℕ → ℕ → List NumberedTriangle
columns_from g flags k = from_on (column_slot g flags) k (slots g - k)

abbrev pub column_list : Grid → List ℕ → List NumberedTriangle
column_list g flags = columns_from g flags 0

-- which of all triangles is the left one of a cell
abbrev pub first_slot : Grid → ℕ → ℕ → ℕ
first_slot g i j = 2 * (j * g.rows + i)
