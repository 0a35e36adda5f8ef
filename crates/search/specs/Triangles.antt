-- Where the triangles of a grid are drawn. Each operation is rounded once.
-- Assumes nothing.
use Rattle.std.specs.Prelude.{ℕ, ◌+◌, Bool, List, pos, Option, Float}
use Rattle.std.specs.Float.{binary32}
use Rattle.std.specs.Float.Ieee.{add, mul, of_int}
use Rattle.std.specs.Option.{option_map}
use Rattle.math.specs.Lines.{unit_width, unit_line}
use Rattle.math.specs.declared.triangle.Triangle.{Triangle}
use Rattle.math.specs.declared.vector.Vector.{Vector}
use Rattle.numbering.specs.Numbers.{row_of, column_of, is_left}
use Rattle.search.specs.Corners.{triangle_of}
use Rattle.shape.specs.Grids.{Grid, height_at}
use Rattle.shape.specs.Tables.{pattern_at}
use Rattle.search.specs.declared.corners.CellCorners.{CellCorners}

-- a point before it is scaled, scaled
abbrev pub scaled_by : Vector → Float → Float → Float → Vector
scaled_by scale x y z = record { x = mul binary32 x scale.x; y = mul binary32 y scale.y; z = mul binary32 z scale.z }

-- the corners of the cell (i, j) between two lines along x and two along z
abbrev pub corners_between : Grid → ℕ → ℕ → Float → Float → Float → Float → CellCorners
corners_between g i j x0 x1 z0 z1 =
    record {
      p00 = scaled_by g.scale x0 (height_at g i j) z0;
      p10 = scaled_by g.scale x0 (height_at g (i + 1) j) z1;
      p01 = scaled_by g.scale x1 (height_at g i (j + 1)) z0;
      p11 = scaled_by g.scale x1 (height_at g (i + 1) (j + 1)) z1;
    }

-- line k among n cells, before it is scaled
abbrev pub line_of : ℕ → ℕ → Float
line_of n k = unit_line (unit_width (of_int binary32 (pos n))) (of_int binary32 (pos k))

-- the corners of a cell, each on its own lines
abbrev pub corners_at : Grid → ℕ → ℕ → CellCorners
corners_at g i j =
    corners_between g i j (line_of g.columns j) (line_of g.columns (j + 1)) (line_of g.rows i) (line_of g.rows (i + 1))

-- the corners of a cell as a box search draws them: the second line is the first with a width added
abbrev pub line_after : ℕ → ℕ → Float
line_after n k = add binary32 (line_of n k) (unit_width (of_int binary32 (pos n)))

abbrev pub box_corners_at : Grid → ℕ → ℕ → CellCorners
box_corners_at g i j =
    corners_between g i j (line_of g.columns j) (line_after g.columns j) (line_of g.rows i) (line_after g.rows i)

-- a triangle that stands; none where it does not
abbrev pub triangle_at : Grid → List ℕ → ℕ → ℕ → Bool → Option Triangle
triangle_at g flags i j left = option_map (λ z. triangle_of (corners_at g i j) z left) (pattern_at g.rows g.columns flags i j left)

-- the same of a triangle by its number
abbrev pub triangle_by_id : Grid → List ℕ → ℕ → Option Triangle
triangle_by_id g flags n =
    triangle_at g flags (row_of g.rows g.columns n) (column_of g.rows g.columns n) (is_left g.rows g.columns n)
