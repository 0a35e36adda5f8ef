-- The numbers that are held to a range and the cells of a coordinate keep the order `le` of floats, and so does the
-- division by a scale.
-- Assumes nothing.
use Rattle.std.proofs.Common.{◌≡◌, ℕ, ◌+◌, ◌-◌, ◌*◌, ◌^◌, ◌<◌, ◌≤◌, true, false, T, pos, negsuc, mul-le-mul_right, le_of_mul-le-mul_right, arith}
use lib.Ieee.{Float, nan, inf, fin, binary32, up, down, add, div, le, of_bits, of_int}
use lib.Ieee.Fits.{down_pos, and_l, and_r}
use lib.Ieee.Nearest.{div_mono}
use lib.Ieee.Order.{round_mono}
use lib.Ieee.Positive.{positive, between}
use native.Mathlib.Nat.{lt-div-mul-add, zero-div}
use Rattle.math.proofs.Literals.{half_is}
use Rattle.math.specs.Constants.{half, one, min_scale, max_scale}
use Rattle.math.specs.Lines.{unit_width}
use Rattle.math.specs.Scales.{in_range}
use Rattle.quantize.proofs.FloatLe.{le→at-most}
use Rattle.quantize.proofs.Rounding.{add_le, div_le, div_turns_le}
use Rattle.quantize.specs.Monotone.{CellsAreMonotone, ScalingIsMonotone}
use Rattle.quantize.specs.Quantize.{held, position}
use Rattle.std.proofs.lemmas.Nat.{div_below}
use Rattle.std.specs.Float.{ratio_floor, ratio_ceil}

-- ---- scales

pub scale_positive : (s : Float) → T (in_range s) → T (positive s)
unfolding of_bits
scale_positive s h =
    between min_scale s max_scale tt tt
    (and_l (le min_scale s) (le s max_scale) h) (and_r (le min_scale s) (le s max_scale) h)

pub scaling_keeps_order : ScalingIsMonotone
scaling_keeps_order x y scale r = div_le binary32 x y scale (scale_positive scale r)

-- ---- the width of a cell

pub count_le : (a b : ℕ) → a ≤ b → T (le (of_int binary32 (pos a)) (of_int binary32 (pos b)))
unfolding of_int
count_le a b h = round_mono binary32 a 1 b 1 (omega arith) (omega arith) (omega arith)

pub count_positive : (n : ℕ) → 0 < n → n ≤ 2 ^ 24 → T (positive (of_int binary32 (pos n)))
unfolding of_int
count_positive n h k =
    between (of_int binary32 (pos 1)) (of_int binary32 (pos n)) (of_int binary32 (pos (2 ^ 24))) tt tt
    (count_le 1 n h) (count_le n (2 ^ 24) k)

module _ (n : ℕ) (some : 0 < n) (few : n < 2 ^ 24) where
  -- it lies between 1 / 2 ^ 24 and 1 / 1
  pub width_positive : T (positive (unit_width (of_int binary32 (pos n))))
  unfolding of_bits of_int div
  width_positive =
      let l : n ≤ 2 ^ 24 = omega arith in
      let turns = div_turns_le binary32 one in
      let count : ℕ → Float = λ k. of_int binary32 (pos k) in
      let here = count_positive n some l in
      between (unit_width (count (2 ^ 24))) (unit_width (count n)) (unit_width (count 1)) tt tt
      (turns (count n) (count (2 ^ 24)) tt here tt (count_le n (2 ^ 24) l))
      (turns (count 1) (count n) tt tt here (count_le 1 n some))

  position_le : (v w : Float) → T (le v w) → T (le (position v n) (position w n))
  position_le v w h =
      div_le binary32 (add binary32 v half) (add binary32 w half) (unit_width (of_int binary32 (pos n))) width_positive
      (rw half_is (add_le binary32 false 1 (negsuc 0) v w h))

-- ---- held numbers

-- p makes whole numbers of fractions, 0 of 0, and of more no less
module _
    (p : ℕ → ℕ → ℕ) (of_zero : (b : ℕ) → 0 < b → p 0 b ≡ 0)
    (rises : (a b c d : ℕ) → 0 < b → 0 < d → a * d ≤ c * b → p a b ≤ p c d) where
  pub held_le : (x y : Float) (top : ℕ) → T (le x y) → held p x top ≤ held p y top
  unfolding le
  held_le nan y top h = absurd h
  held_le (inf true) y top h = omega arith
  held_le (inf false) nan top h = absurd h
  held_le (inf false) (inf true) top h = absurd h
  held_le (inf false) (inf false) top h = omega arith
  held_le (inf false) (fin t n d) top h = absurd h
  held_le (fin true m e) y top h = omega arith
  held_le (fin false m e) nan top h = absurd h
  held_le (fin false m e) (inf true) top h = absurd h
  held_le (fin false m e) (inf false) top h = omega arith
  held_le (fin false m e) (fin true n d) top h =
      let l = le→at-most false m e true n d h in
      let r = rises (m * up e) (down e) 0 (down d) (down_pos e) (down_pos d) (omega arith) in
      omega (arith, of_zero (down d) (down_pos d))
  held_le (fin false m e) (fin false n d) top h =
      let l = le→at-most false m e false n d h in
      let r = rises (m * up e) (down e) (n * up d) (down d) (down_pos e) (down_pos d) (omega arith) in
      omega arith

-- a / b ≤ c / d ≤ k
reaches : (a b c d k : ℕ) → 0 < d → a * d ≤ c * b → c ≤ k * d → a ≤ k * b
reaches a b c d k D h r =
    let l : a * d ≤ k * b * d = omega (arith, mul-le-mul_right b r) in
    le_of_mul-le-mul_right l D

pub raised_least : (a b k : ℕ) → 0 < b → a ≤ k * b → ratio_ceil a b ≤ k
raised_least a b k B h = let l : ratio_ceil a b < k + 1 = div_below (a + b - 1) b (k + 1) B (omega arith) in omega arith

pub raised_reaches : (c d : ℕ) → 0 < d → c ≤ ratio_ceil c d * d
raised_reaches c d D = omega (arith, lt-div-mul-add {a = c + d - 1} D)

pub raised_rises : (a b c d : ℕ) → 0 < b → 0 < d → a * d ≤ c * b → ratio_ceil a b ≤ ratio_ceil c d
raised_rises a b c d B D h = raised_least a b (ratio_ceil c d) B (reaches a b c d (ratio_ceil c d) D h (raised_reaches c d D))

pub raised_zero : (b : ℕ) → 0 < b → ratio_ceil 0 b ≡ 0
raised_zero b B = let l : ratio_ceil 0 b ≤ 0 = raised_least 0 b 0 B (omega arith) in omega arith

-- ---- cells

pub cells_keep_order : CellsAreMonotone
cells_keep_order v w n some few h =
    let l : T (le (position v n) (position w n)) = position_le n some few v w h in (
      held_le ratio_floor (λ b B. zero-div b) div_mono (position v n) (position w n) (n - 1) l,
      held_le ratio_ceil raised_zero raised_rises (position v n) (position w n) n l,
    )
