-- From a point or a box to cells of a grid.
-- Assumes nothing.
use Rattle.std.specs.Prelude.{ℕ, Bool, cond, ◌&&◌, ℤ, pos, ◌+ℤ◌, ◌-ℤ◌, Some, None, Option, is_nan, Float}
use Rattle.std.specs.Float.Ieee.{neg, le}
use Rattle.std.specs.Int.{saturate_to_bits}
use Rattle.std.specs.Float.{ratio_floor, ratio_ceil}
use Rattle.math.specs.Constants.{half}
use Rattle.math.specs.Lines.{unscaled_by}
use Rattle.math.specs.declared.aabb.Aabb.{Aabb}
use Rattle.math.specs.declared.vector.Vector.{Vector}
use Rattle.quantize.specs.Quantize.{held64, position, floor_cell}
use Rattle.shape.specs.Grids.{Grid}

-- a coordinate without the scale, along x and along z
abbrev pub unscaled_x : Grid → Vector → Float
unscaled_x g p = unscaled_by g.scale.x p.x

abbrev pub unscaled_z : Grid → Vector → Float
unscaled_z g p = unscaled_by g.scale.z p.z

-- the row and the column of the cell at a point, or of the closest where none is
abbrev pub closest_cell : Grid → Vector → ℕ × ℕ
closest_cell g p = (floor_cell (unscaled_z g p) g.rows, floor_cell (unscaled_x g p) g.columns)

-- from -0.5 to 0.5, which no NaN is
abbrev pub on_grid : Float → Bool
on_grid v = le (neg half) v && le v half

-- the row and the column of the cell at a point, if there is one
abbrev pub cell_at : Grid → Vector → Option (ℕ × ℕ)
cell_at g p = cond (on_grid (unscaled_x g p) && on_grid (unscaled_z g p)) (Some (closest_cell g p)) None

-- the row and the column at a point, on the grid or off it
abbrev pub unclamped_cell : Grid → Vector → ℤ × ℤ
unclamped_cell g p = (held64 ratio_floor ratio_ceil (position (unscaled_z g p) g.rows), held64 ratio_floor ratio_ceil (position (unscaled_x g p) g.columns))

-- the ends of a range of cells: one below the first line at the position or past it, and one above the cell at the position
abbrev pub first_cell : Float → ℤ
first_cell q = cond (is_nan q) (pos 0) (saturate_to_bits 63 (held64 ratio_ceil ratio_floor q -ℤ pos 1))

abbrev pub end_cell : Float → ℤ
end_cell q = cond (is_nan q) (pos 0) (saturate_to_bits 63 (held64 ratio_floor ratio_ceil q +ℤ pos 1))

-- the ranges of rows and of columns that a box touches: each first, and the end that it does not include
abbrev pub box_ranges : Grid → Aabb → ℤ × ℤ × ℤ × ℤ
box_ranges g b = (
  first_cell (position (unscaled_z g b.mins) g.rows),
  end_cell (position (unscaled_z g b.maxs) g.rows),
  first_cell (position (unscaled_x g b.mins) g.columns),
  end_cell (position (unscaled_x g b.maxs) g.columns),
)
