-- A coordinate that is not less has no lesser cell. `le` holds of no NaN.
-- Assumes nothing.
use Rattle.std.specs.Prelude.{ℕ, ◌^◌, ◌<◌, ◌≤◌, T, Float}
use Rattle.std.specs.Float.{binary32}
use Rattle.std.specs.Float.Ieee.{div, le}
use Rattle.math.specs.Scales.{in_range}
use Rattle.quantize.specs.Quantize.{floor_cell, ceil_cell}

-- dividing by a scale keeps the order
abbrev pub ScalingIsMonotone : Type 0
ScalingIsMonotone = (x y scale : Float) → T (in_range scale) → T (le x y) → T (le (div binary32 x scale) (div binary32 y scale))

-- and so do the cell at a coordinate and the first line at it or past it, for any number of cells of a grid
abbrev pub CellsAreMonotone : Type 0
CellsAreMonotone =
    (v w : Float) (n : ℕ) → 0 < n → n < 2 ^ 24 → T (le v w) → (floor_cell v n ≤ floor_cell w n) × (ceil_cell v n ≤ ceil_cell w n)
