-- The order of floats.
-- A finite value ±a / b is (plus s a - minus s a) / b, a difference of whole numbers, so `lt` of two such values is one
-- inequality of cross products, whatever their signs.
-- From it: `lt` goes one way only, and "not less" is passed on through any number. Both hold for zeros of either sign,
-- subnormals and infinities, and `lt` is false where a NaN stands.
-- Assumes nothing.
use Rattle.std.proofs.Common.{◌≡◌, ℕ, ◌+◌, ◌*◌, ◌<◌, ◌≤◌, Bool, true, false, ltb, ℤ, refl, inl, inr, mul-le-mul_right, le_of_mul-le-mul_right, arith}
use lib.Ieee.{Float, nan, inf, fin, up, down, below, lt, is_nan}
use lib.Ieee.Fits.{down_pos}
use Rattle.std.proofs.lemmas.Bool.{cases_Bool, true≢false}
use Rattle.std.proofs.lemmas.Bool.Decides.{nat_tests}

-- ---- signed fractions, ±a / b for a sign that is true below zero

-- ±a is plus s a - minus s a
abbrev pub plus : Bool → ℕ → ℕ
plus false a = a
plus true a = 0

abbrev pub minus : Bool → ℕ → ℕ
minus false a = 0
minus true a = a

-- ±a / b against ±c / d, both times b * d, with what either takes away moved over: the side of ±a / b
abbrev pub side : Bool → ℕ → ℕ → Bool → ℕ → ℕ → ℕ
side s a b t c d = plus s a * d + minus t c * b

-- ±a / b ≤ ±c / d
abbrev pub AtMost : Bool → ℕ → ℕ → Bool → ℕ → ℕ → Type 0
AtMost s a b t c d = side s a b t c d ≤ side t c d s a b

-- (p - q) / b ≤ (r - t) / d ≤ (v - w) / g, and so the first is at most the last
through :
    (p q b r t d v w g : ℕ) → 0 < d → p * d + t * b ≤ r * b + q * d → r * g + w * d ≤ v * d + t * g
    → p * g + w * b ≤ v * b + q * g
through p q b r t d v w g pos h k =
    let l : (p * g + w * b) * d ≤ (v * b + q * g) * d = omega (arith, mul-le-mul_right g h, mul-le-mul_right b k) in
    le_of_mul-le-mul_right l pos

pub at_most_trans :
    (s : Bool) (a b : ℕ) (t : Bool) (c d : ℕ) (u : Bool) (e g : ℕ)
    → 0 < d → AtMost s a b t c d → AtMost t c d u e g → AtMost s a b u e g
at_most_trans s a b t c d u e g = through (plus s a) (minus s a) b (plus t c) (minus t c) d (plus u e) (minus u e) g

-- ---- `lt` of finite values

below_is :
    (s : Bool) (a b : ℕ) (t : Bool) (c d : ℕ) → below s (a * d) t (c * b) ≡ ltb (side s a b t c d) (side t c d s a b)
below_is false a b false c d = grind (arith, nat_tests)
below_is false a b true c d = grind (arith, nat_tests)
below_is true a b false c d = grind (arith, nat_tests)
below_is true a b true c d = grind (arith, nat_tests)

module _ (s : Bool) (m : ℕ) (e : ℤ) (t : Bool) (n : ℕ) (d : ℤ) where
  pub lt_fin :
      lt (fin s m e) (fin t n d)
      ≡ ltb (side s (m * up e) (down e) t (n * up d) (down d)) (side t (n * up d) (down d) s (m * up e) (down e))
  unfolding lt
  lt_fin = below_is s (m * up e) (down e) t (n * up d) (down d)

  pub not-lt→at-most : lt (fin s m e) (fin t n d) ≡ false → AtMost t (n * up d) (down d) s (m * up e) (down e)
  not-lt→at-most h = let f = lt_fin in grind (arith, nat_tests)

  pub at-most→not-lt : AtMost t (n * up d) (down d) s (m * up e) (down e) → lt (fin s m e) (fin t n d) ≡ false
  at-most→not-lt h = let f = lt_fin in grind (arith, nat_tests)

  pub lt→at-most : lt (fin s m e) (fin t n d) ≡ true → AtMost s (m * up e) (down e) t (n * up d) (down d)
  lt→at-most h = let f = lt_fin in grind (arith, nat_tests)

-- ---- `lt` of all values

pub lt_nan_left : (y : Float) → lt nan y ≡ false
unfolding lt
lt_nan_left y = refl

pub lt_nan_right : (x : Float) → lt x nan ≡ false
unfolding lt
lt_nan_right nan = refl
lt_nan_right (inf s) = refl
lt_nan_right (fin s m e) = refl

pub lt_one_way : (x y : Float) → lt x y ≡ true → lt y x ≡ false
unfolding lt
lt_one_way nan y h = lt_nan_right y
lt_one_way (inf s) nan h = refl
lt_one_way (inf s) (inf t) h = grind arith
lt_one_way (inf s) (fin t n d) h = grind arith
lt_one_way (fin s m e) nan h = refl
lt_one_way (fin s m e) (inf t) h = grind arith
lt_one_way (fin s m e) (fin t n d) h = at-most→not-lt t n d s m e (lt→at-most s m e t n d h)

pub lt_irrefl : (x : Float) → lt x x ≡ false
lt_irrefl x = elim (cases_Bool (lt x x)) [ inl h ↦ lt_one_way x x h | inr h ↦ h ]

-- the middle one alone has to be a number
pub not_lt_trans : (x y z : Float) → is_nan y ≡ false → lt x y ≡ false → lt y z ≡ false → lt x z ≡ false
unfolding lt is_nan
not_lt_trans x nan z i h k = absurd (true≢false i)
not_lt_trans nan (inf t) z i h k = refl
not_lt_trans nan (fin t n d) z i h k = refl
not_lt_trans (inf s) (inf t) nan i h k = refl
not_lt_trans (inf s) (fin t n d) nan i h k = refl
not_lt_trans (fin s m e) (inf t) nan i h k = refl
not_lt_trans (fin s m e) (fin t n d) nan i h k = refl
not_lt_trans (inf s) (inf t) (inf u) i h k = grind arith
not_lt_trans (inf s) (inf t) (fin u l c) i h k = grind arith
not_lt_trans (inf s) (fin t n d) (inf u) i h k = grind arith
not_lt_trans (inf s) (fin t n d) (fin u l c) i h k = h
not_lt_trans (fin s m e) (inf t) (inf u) i h k = grind arith
not_lt_trans (fin s m e) (inf t) (fin u l c) i h k = grind arith
not_lt_trans (fin s m e) (fin t n d) (inf u) i h k = k
not_lt_trans (fin s m e) (fin t n d) (fin u l c) i h k =
    at-most→not-lt s m e u l c
    (at_most_trans u (l * up c) (down c) t (n * up d) (down d) s (m * up e) (down e) (down_pos d)
    (not-lt→at-most t n d u l c k) (not-lt→at-most s m e t n d h))
