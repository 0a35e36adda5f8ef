-- What a heightfield is, and what making and rescaling give.
-- Assumes nothing.
use Rattle.std.specs.Prelude.{◌≡◌, ℕ, ◌+◌, ◌-◌, cond, List, slice_index_or, Option, Float}
use Rattle.std.specs.Float.{nan}
use Rattle.std.specs.Option.{is_none, option_or}
use Rattle.utils.specs.Tables.{place, inside, length_refusal}
use Rattle.math.specs.Boxes.{box_of}
use Rattle.math.specs.Heights.{lowest_of, highest_of}
use Rattle.math.specs.Scales.{scale_refusal}
use Rattle.math.specs.declared.aabb.Aabb.{Aabb}
use Rattle.math.specs.declared.vector.Vector.{Vector}
use Rattle.numbering.specs.Numbers.{size_refusal}
use Rattle.shape.specs.declared.heightfield3.HeightField.{HeightField}
use Rattle.utils.specs.declared.error.HeightFieldError.{HeightFieldError}

-- rows and columns of cells, the heights of the points column after column, and what is kept of the heights and the scale
pub record Grid : Type 0 where
  pub rows : ℕ
  pub columns : ℕ
  pub heights : List Float
  pub scale : Vector
  pub lowest : Float
  pub highest : Float
  pub box : Aabb

abbrev pub grid_of : HeightField → Grid
grid_of g =
    record {
      rows = g.size.nrows;
      columns = g.size.ncols;
      heights = g.heights.data.now;
      scale = g.scale;
      lowest = g.lowest;
      highest = g.highest;
      box = g.aabb;
    }

-- the grid of that many rows and columns of points
abbrev pub made : ℕ → ℕ → List Float → Vector → Grid
made rows columns heights scale =
    record {
      rows = rows - 1;
      columns = columns - 1;
      heights = heights;
      scale = scale;
      lowest = lowest_of heights;
      highest = highest_of heights;
      box = box_of (lowest_of heights) (highest_of heights) scale;
    }

-- the grid under another scale
abbrev pub rescaled : Grid → Vector → Grid
rescaled g scale =
    record {
      rows = g.rows;
      columns = g.columns;
      heights = g.heights;
      scale = scale;
      lowest = g.lowest;
      highest = g.highest;
      box = box_of g.lowest g.highest scale;
    }

-- the first check that making fails, given the lengths of the heights and of the status table: the
-- size, either length, the scale
abbrev pub making_refusal : ℕ → ℕ → ℕ → ℕ → Vector → Option HeightFieldError
making_refusal rows columns points cells scale =
    option_or (size_refusal rows columns)
    (option_or (length_refusal rows columns points) (option_or (length_refusal (rows - 1) (columns - 1) cells) (scale_refusal scale)))

-- the grid after a rescaling: as it was where the scale is refused
abbrev pub rescaling_leaves : Grid → Vector → Grid
rescaling_leaves g scale = cond (is_none (scale_refusal scale)) (rescaled g scale) g

-- rescaling a grid gives what making it under the new scale gives
abbrev pub RescalingIsMaking : Type 0
RescalingIsMaking =
    (rows columns : ℕ) (heights : List Float) (old new : Vector)
    → rescaled (made rows columns heights old) new ≡ made rows columns heights new

-- the height of the grid point (i, j); NaN off the grid
abbrev pub height_at : Grid → ℕ → ℕ → Float
height_at g i j =
    cond (inside (g.rows + 1) (g.columns + 1) i j) (slice_index_or g.heights (place (g.rows + 1) i j) nan) nan
