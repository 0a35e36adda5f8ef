-- The widths of cells and the lines between them, along an axis with n cells. Each operation is rounded once.
-- Assumes nothing.
use Rattle.std.specs.Prelude.{ℕ, ◌^◌, cond, ℤ, pos, negsuc, nat_le, nat_lt, Some, None, Option, Float}
use Rattle.std.specs.Float.{binary32}
use Rattle.std.specs.Float.Ieee.{add, mul, div, neg, of_int}
use Rattle.math.specs.Constants.{half, one}
use Rattle.utils.specs.declared.error.HeightFieldError.{HeightFieldError}
use Rattle.utils.specs.declared.error.HeightFieldError.TheVariants.{IndexOutOfRange}

-- 1 / n
abbrev pub unit_width : Float → Float
unit_width n = div binary32 one n

-- -0.5 + width × j
abbrev pub unit_line : Float → Float → Float
unit_line width j = add binary32 (neg half) (mul binary32 width j)

-- the width of a cell: 1 / n, scaled
abbrev pub cell_width : ℕ → Float → Float
cell_width n scale = mul binary32 (unit_width (of_int binary32 (pos n))) scale

-- the coordinate of line j: -0.5 + 1 / n × j, scaled
abbrev pub line_at : ℕ → ℤ → Float → Float
line_at n j scale = mul binary32 (unit_line (unit_width (of_int binary32 (pos n))) (of_int binary32 j)) scale

-- of a line past the last, n
abbrev pub line_refusal : ℕ → ℕ → Option HeightFieldError
line_refusal n j = cond (nat_le j n) None (Some IndexOutOfRange)

-- of a line below -2 ^ 24 or above 2 ^ 24
abbrev pub signed_line_refusal : ℤ → Option HeightFieldError
signed_line_refusal (pos j) = cond (nat_le j (2 ^ 24)) None (Some IndexOutOfRange)
signed_line_refusal (negsuc j) = cond (nat_lt j (2 ^ 24)) None (Some IndexOutOfRange)

-- a coordinate without the scale
abbrev pub unscaled_by : Float → Float → Float
unscaled_by scale v = div binary32 v scale
