-- The whole numbers next to a float of a format: the float that `floor` or `ceil` makes has exactly the whole number's
-- value, so a saturating cast of it gives that number, held to the range of the type.
-- Assumes nothing.
use Rattle.std.proofs.Common.{◌≡◌, ℕ, zero, suc, ◌+◌, ◌-◌, ◌*◌, ◌/◌, ◌^◌, ◌<◌, ◌≤◌, min, Bool, true, false, cond, T, ℤ, pos, negsuc, neg_ℤ, sym, refl, ap, ◌∙◌, subst, mul-le-mul_left, mul-lt-mul_of_pos_right, mul-pos, mul-one, div-le_self, div-one, mul-div_cancel, arith, ltb→lt}
use lib.Ieee.{Float, nan, inf, fin, Format, binary32, prec, emax, low, up, down, round, fits, to_unsigned, to_signed}
use lib.Ieee.Back.{round_whole}
use lib.Ieee.Exact.{HasValue, round_exact}
use lib.Ieee.Fits.{down_pos, and_r}
use Rattle.std.specs.Float.{ratio_floor, ratio_ceil, round_with}
use Rattle.std.proofs.lemmas.Nat.{div_below, pow-add, pow_pos}
use Rattle.std.proofs.lemmas.Bool.Decides.{nat_tests}
use Rattle.quantize.specs.Quantize.{held, held64}

-- ---- ways to a whole number from the fraction n / d

-- a whole number stays, and the result is at most n
pub record MakesWhole (p : ℕ → ℕ → ℕ) : Type 0 where
  pub of_whole : (n : ℕ) → p n 1 ≡ n
  pub at_most : (n d : ℕ) → 0 < d → p n d ≤ n

pub cut_makes_whole : MakesWhole ratio_floor
cut_makes_whole = record { of_whole = div-one; at_most = λ n d h. div-le_self n d }

pub raised_makes_whole : MakesWhole ratio_ceil
raised_makes_whole = record { of_whole = λ n. omega arith; at_most = raised_le }
  where
    raised_le : (n d : ℕ) → 0 < d → ratio_ceil n d ≤ n
    raised_le n d h =
        let k : n * 1 ≤ n * d = mul-le-mul_left n h in
        let b = div_below (n + d - 1) d (n + 1) h (omega arith) in
        omega arith

-- ---- the whole number that p makes of a float of the format is itself a value of the format

significand_below : (f : Format) (s : Bool) (m : ℕ) (e : ℤ) → fits f (fin s m e) ≡ true → m < 2 ^ prec f
unfolding fits
significand_below f s zero e h = pow_pos (prec f)
significand_below f s (suc m) e h = grind (arith, nat_tests)

size_below :
    (f : Format) (s : Bool) (m : ℕ) (e : ℤ) → fits f (fin s m e) ≡ true → m * up e < 2 ^ suc (emax f) * down e
unfolding fits
size_below f s zero e h = omega (arith, mul-pos (pow_pos (suc (emax f))) (down_pos e))
size_below f s (suc m) e h = ltb→lt _ _ (and_r _ _ (subst T (sym h) tt))

pub whole_exact :
    {p : ℕ → ℕ → ℕ} → MakesWhole p → (f : Format) (s : Bool) (m : ℕ) (e : ℤ) → fits f (fin s m e) ≡ true
    → HasValue (round f s (p (m * up e) (down e)) 1) s (p (m * up e) (down e)) 1
whole_exact w f s m (pos k) h =
    let l = mul-lt-mul_of_pos_right (size_below f s m (pos k) h) (pow_pos (low f)) in
    let split : m * 2 ^ (k + low f) ≡ m * (2 ^ k * 2 ^ low f) = ap (λ x. m * x) (pow-add 2 k (low f)) in
    subst (λ n. HasValue (round f s n 1) s n 1) (sym (w.of_whole (m * 2 ^ k)))
    (round_exact f s (m * 2 ^ k) 1 m (k + low f) (omega arith) (significand_below f s m (pos k) h)
    (omega (arith, pow-add 2 (low f) (suc (emax f)))) (omega arith))
whole_exact {p} w f s m (negsuc k) h =
    round_whole f s (p (m * 1) (2 ^ suc k))
    (omega (arith, w.at_most (m * 1) (2 ^ suc k) (pow_pos (suc k)), significand_below f s m (negsuc k) h))

-- ---- what has the value of a whole number is cast to that number, held to the range of the type

size_is : (m : ℕ) (e : ℤ) (n : ℕ) → m * up e * 1 ≡ n * down e → m * up e / down e ≡ n
size_is m e n h = ap (λ x. x / down e) (sym (mul-one (m * up e)) ∙ h) ∙ mul-div_cancel n (down_pos e)

whole→unsigned :
    (w : ℕ) (y : Float) (s : Bool) (n : ℕ) → HasValue y s n 1 → to_unsigned w y ≡ cond s 0 (min n (2 ^ w - 1))
unfolding to_unsigned
whole→unsigned w nan s n v = absurd v
whole→unsigned w (inf t) s n v = absurd v
whole→unsigned w (fin t m e) s n v = λ i. cond (v.0 i) 0 (min (size_is m e n v.1 i) (2 ^ w - 1))

whole→signed :
    (h : ℕ) (y : Float) (s : Bool) (n : ℕ) → HasValue y s n 1
    → to_signed h y ≡ cond s (neg_ℤ (pos (min n (2 ^ h)))) (pos (min n (2 ^ h - 1)))
unfolding to_signed
whole→signed h nan s n v = absurd v
whole→signed h (inf t) s n v = absurd v
whole→signed h (fin t m e) s n v =
    let k = size_is m e n v.1 in
    λ i. cond (v.0 i) (neg_ℤ (pos (min (k i) (2 ^ h)))) (pos (min (k i) (2 ^ h - 1)))

-- ---- a float cast as it is

pub cut→held : (w : ℕ) (x : Float) → to_unsigned w x ≡ held ratio_floor x (2 ^ w - 1)
unfolding to_unsigned
cut→held w nan = refl
cut→held w (inf s) = refl
cut→held w (fin s m e) = refl

-- ---- an f32 x made whole, by p from 0 on and by q below, and cast
module _ {p q : ℕ → ℕ → ℕ} (by-p : MakesWhole p) (by-q : MakesWhole q) where
  pub whole→held :
      (x : Float) {y : Float} → fits binary32 x ≡ true → y ≡ round_with p q binary32 x
      → to_unsigned 64 y ≡ held p x (2 ^ 64 - 1)
  unfolding round_with to_unsigned
  whole→held nan h is = ap (to_unsigned 64) is
  whole→held (inf s) h is = ap (to_unsigned 64) is
  whole→held (fin false m e) h is =
      ap (to_unsigned 64) is ∙ whole→unsigned 64 _ false _ (whole_exact by-p binary32 false m e h)
  whole→held (fin true m e) h is =
      ap (to_unsigned 64) is ∙ whole→unsigned 64 _ true _ (whole_exact by-q binary32 true m e h)

  pub whole→held64 :
      (x : Float) {y : Float} → fits binary32 x ≡ true → y ≡ round_with p q binary32 x → to_signed 63 y ≡ held64 p q x
  unfolding round_with to_signed
  whole→held64 nan h is = ap (to_signed 63) is
  whole→held64 (inf s) h is = ap (to_signed 63) is
  whole→held64 (fin false m e) h is =
      ap (to_signed 63) is ∙ whole→signed 63 _ false _ (whole_exact by-p binary32 false m e h)
  whole→held64 (fin true m e) h is =
      ap (to_signed 63) is ∙ whole→signed 63 _ true _ (whole_exact by-q binary32 true m e h)

-- ---- held to a range and then to a shorter one

pub held_shorter :
    (p : ℕ → ℕ → ℕ) (x : Float) (a b : ℕ) {n r : ℕ} → b ≤ a → n ≡ held p x a → r ≡ min n b → r ≡ held p x b
held_shorter p nan a b l h k = omega arith
held_shorter p (inf true) a b l h k = omega arith
held_shorter p (inf false) a b l h k = omega arith
held_shorter p (fin true m e) a b l h k = omega arith
held_shorter p (fin false m e) a b l h k = omega arith
