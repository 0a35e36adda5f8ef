-- The triangles that a box search hands over, in order.
-- Assumes nothing.
use Rattle.std.specs.Prelude.{ℕ, zero, suc, ◌+◌, ◌-◌, Bool, true, false, cond, not, ◌&&◌, ◌||◌, List, [], ◌++◌, Option, Float}
use Rattle.std.specs.Float.{binary32}
use Rattle.std.specs.Float.Ieee.{div, neg, lt, le}
use Rattle.std.specs.Option.{is_none, option_map, option_to_list}
use Rattle.math.specs.Constants.{half}
use Rattle.math.specs.declared.aabb.Aabb.{Aabb}
use Rattle.numbering.specs.Numbers.{triangle_number}
use Rattle.quantize.specs.Quantize.{floor_cell, ceil_cell}
use Rattle.takers.specs.declared.triangle.NumberedTriangle.{NumberedTriangle}
use Rattle.search.specs.Corners.{triangle_of}
use Rattle.shape.specs.Grids.{Grid, height_at}
use Rattle.points.specs.Points.{unscaled_x, unscaled_z}
use Rattle.shape.specs.Tables.{table_refusal, pattern_at}
use Rattle.search.specs.Triangles.{box_corners_at}
use Rattle.search.specs.declared.corners.CellCorners.{CellCorners}

-- the left or the right triangle of a cell with these corners, with its number, if the cell has that pattern
abbrev pub numbered_of : Grid → CellCorners → ℕ → ℕ → Bool → Option Bool → Option NumberedTriangle
numbered_of g q i j left pattern =
    option_map (λ z. record { id = triangle_number g.rows g.columns i j left; triangle = triangle_of q z left }) pattern

-- the same, if it stands
abbrev pub numbered_at : Grid → List ℕ → CellCorners → ℕ → ℕ → Bool → List NumberedTriangle
numbered_at g flags q i j left = option_to_list (numbered_of g q i j left (pattern_at g.rows g.columns flags i j left))

-- the standing triangles of a cell with these corners, the left one first
abbrev pub cell_list : Grid → List ℕ → CellCorners → ℕ → ℕ → List NumberedTriangle
cell_list g flags q i j = numbered_at g flags q i j true ++ numbered_at g flags q i j false

-- a height that the box ends below, and one that it begins above; a NaN is neither
abbrev pub over : Grid → Aabb → Float → Bool
over g b y = lt (div binary32 b.maxs.y g.scale.y) y

abbrev pub under : Grid → Aabb → Float → Bool
under g b y = lt y (div binary32 b.mins.y g.scale.y)

-- a test that all four corners of a cell pass
abbrev pub all_corners : Grid → ℕ → ℕ → (Float → Bool) → Bool
all_corners g i j p =
    p (height_at g i j) && (p (height_at g (i + 1) j) && (p (height_at g i (j + 1)) && p (height_at g (i + 1) (j + 1))))

-- the triangles of the cell in column j and row i, unless it lies over or under the box
abbrev pub box_cell : Grid → List ℕ → Aabb → ℕ → ℕ → List NumberedTriangle
box_cell g flags b j i =
    cond (all_corners g i j (over g b) || all_corners g i j (under g b)) [] (cell_list g flags (box_corners_at g i j) i j)

-- n rows or columns from k on, each with what f gives of it
abbrev pub from_on : {X : Type 0} → (ℕ → List X) → ℕ → ℕ → List X
from_on f k zero = []
from_on f k (suc n) = f k ++ from_on f (k + 1) n

-- the triangles of a column, from a row up to another that does not count, rows rising
abbrev pub rows_between : Grid → List ℕ → Aabb → ℕ → ℕ → ℕ → List NumberedTriangle
rows_between g flags b first end j = from_on (box_cell g flags b j) first (end - first)

-- those of the columns from one up to another that does not count, one after the other
abbrev pub columns_between : Grid → List ℕ → Aabb → ℕ → ℕ → ℕ → ℕ → List NumberedTriangle
columns_between g flags b first_row end_row first end = from_on (rows_between g flags b first_row end_row) first (end - first)

-- a box that ends before the grid begins, or begins past its end, or ends at a NaN
abbrev pub misses : Grid → Aabb → Bool
misses g b =
    not (le (neg half) (unscaled_x g b.maxs)) || (not (le (neg half) (unscaled_z g b.maxs))
    || (lt half (unscaled_x g b.mins) || lt half (unscaled_z g b.mins)))

-- the first and the last column and row that a box touches
abbrev pub first_column : Grid → Aabb → ℕ
first_column g b = ceil_cell (unscaled_x g b.mins) g.columns - 1

abbrev pub last_column : Grid → Aabb → ℕ
last_column g b = floor_cell (unscaled_x g b.maxs) g.columns

abbrev pub first_row : Grid → Aabb → ℕ
first_row g b = ceil_cell (unscaled_z g b.mins) g.rows - 1

abbrev pub last_row : Grid → Aabb → ℕ
last_row g b = floor_cell (unscaled_z g b.maxs) g.rows

-- the triangles of the cells that the box touches
abbrev pub box_list : Grid → List ℕ → Aabb → List NumberedTriangle
box_list g flags b =
    cond (misses g b) [] (columns_between g flags b (first_row g b) (last_row g b + 1) (first_column g b) (last_column g b + 1))

-- what a search is handed: nothing where the status table has a wrong length
abbrev pub visited : Grid → List ℕ → Aabb → List NumberedTriangle
visited g flags b = cond (is_none (table_refusal g flags)) (box_list g flags b) []
