-- From a coordinate to a cell: the whole numbers next to a float, held to a range.
-- Assumes nothing.
use Rattle.std.specs.Prelude.{◌≡◌, ℕ, ◌-◌, ◌*◌, ◌^◌, ◌≤◌, min, true, false, cond, T, ◌⊎◌, ℤ, pos, neg_ℤ, is_nan, Float}
use Rattle.std.specs.Float.Ieee.{up, down, add, div, le, of_int}
use Rattle.std.specs.Float.{ratio_floor, ratio_ceil, nan, inf, fin, binary32}
use Rattle.math.specs.Constants.{half}
use Rattle.math.specs.Lines.{unit_width}

-- The whole number that p makes of a float, held to 0 .. top: `ratio_floor` goes down and `ratio_ceil` up. A NaN gives 0.
abbrev pub held : (ℕ → ℕ → ℕ) → Float → ℕ → ℕ
held p nan top = 0
held p (inf s) top = cond s 0 top
held p (fin s m e) top = cond s 0 (min (p (m * up e) (down e)) top)

-- The same at the ends of signed 64 bits: p makes numbers from 0 on whole, and q the sizes of those below.
abbrev pub held64 : (ℕ → ℕ → ℕ) → (ℕ → ℕ → ℕ) → Float → ℤ
held64 p q nan = pos 0
held64 p q (inf s) = cond s (neg_ℤ (pos (2 ^ 63))) (pos (2 ^ 63 - 1))
held64 p q (fin s m e) =
    cond s (neg_ℤ (pos (min (q (m * up e) (down e)) (2 ^ 63)))) (pos (min (p (m * up e) (down e)) (2 ^ 63 - 1)))

-- k is the greatest whole number of 0 .. top that is not above x; 0 where there is none
pub record IsFloorHeld (x : Float) (top k : ℕ) : Type 0 where
  pub within : k ≤ top
  pub greatest : (j : ℕ) → j ≤ top → T (le (of_int binary32 (pos j)) x) → j ≤ k
  pub not_above : (k ≡ 0) ⊎ T (le (of_int binary32 (pos k)) x)

-- k is the least whole number of 0 .. top that is not below x; top where there is none, and 0 for a NaN
pub record IsCeilHeld (x : Float) (top k : ℕ) : Type 0 where
  pub within : k ≤ top
  pub least : (j : ℕ) → j ≤ top → T (le x (of_int binary32 (pos j))) → k ≤ j
  pub not_below : is_nan x ≡ false → (k ≡ top) ⊎ T (le x (of_int binary32 (pos k)))
  pub of_nan : is_nan x ≡ true → k ≡ 0

-- where v lies among cells of that width, counted in cells: (v + 0.5) / width
abbrev pub position_among : Float → Float → Float
position_among v width = div binary32 (add binary32 v half) width

-- the same along an axis of n cells, each 1 / n wide
abbrev pub position : Float → ℕ → Float
position v n = position_among v (unit_width (of_int binary32 (pos n)))

-- the cell at v, and the first line at v or past it
abbrev pub floor_cell : Float → ℕ → ℕ
floor_cell v n = held ratio_floor (position v n) (n - 1)

abbrev pub ceil_cell : Float → ℕ → ℕ
ceil_cell v n = held ratio_ceil (position v n) n

-- what the held numbers are, whatever the float, for ranges that floats count without a gap
abbrev pub HeldNumbersAreNext : Type 0
HeldNumbersAreNext =
    (x : Float) (top : ℕ) → top ≤ 2 ^ 24 → IsFloorHeld x top (held ratio_floor x top) × IsCeilHeld x top (held ratio_ceil x top)
