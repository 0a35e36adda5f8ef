-- Rounding, the addition of a finite number and the division by a positive number keep the order `le`, in either format
-- and for all signs, zeros, subnormals and infinities.
-- A value is a difference of whole numbers over a whole number, (p - q) / b, as in `Rattle.math.proofs.Order`, so each
-- order of two values is one inequality of products.
-- Assumes nothing.
use Rattle.std.proofs.Common.{◌≡◌, ℕ, zero, suc, ◌+◌, ◌-◌, ◌*◌, ◌^◌, ◌<◌, ◌≤◌, Bool, true, false, cond, T, eqb, ltb, ℤ, pos, refl, ap, ◌∙◌, mul-le-mul_right, mul-pos, le_of_mul-le-mul_right, arith, ltb→lt}
use lib.Ieee.{Float, nan, inf, fin, Format, binary32, binary64, prec, emax, low, up, down}
use lib.Ieee.{odd, units, round, sum, add, div, le}
use lib.Ieee.Fits.{down_pos, up_pos}
use lib.Ieee.Order.{round_mono, drop, kept}
use lib.Ieee.Positive.{positive, num, den, den_pos, le→cross, value_pos, own_value}
use lib.Ieee.Scale.{round_same}
use Rattle.math.proofs.Order.{plus, minus, AtMost}
use Rattle.quantize.proofs.FloatLe.{le→at-most, at-most→le}
use Rattle.std.proofs.lemmas.Bool.{cond_both, cond-false}
use Rattle.std.proofs.lemmas.Bool.Decides.{nat_tests}

-- ---- rounding, for both signs

-- an infinity, or a finite value, with the sign s
abbrev sized : Bool → Bool → ℕ → ℤ → Float
sized true s m e = inf s
sized false s m e = fin s m e

-- the infinity or the finite value that g gives for each sign
record Sized (g : Bool → Float) : Type 0 where
  infinite : Bool
  m : ℕ
  e : ℤ
  is : (s : Bool) → g s ≡ sized infinite s m e

odd_sized : (d q k l : ℕ) → Sized (λ s. odd d s q k l)
unfolding odd
odd_sized d zero k l = record { infinite = false; m = zero; e = pos zero; is = λ s. refl }
odd_sized d (suc q) k l = record { infinite = false; m = _; e = _; is = λ s. refl }

units_sized : (f : Format) (q k : ℕ) → Sized (λ s. units f s q k)
unfolding units
units_sized f q k = go (ltb (q * 2 ^ k) (2 ^ (low f + suc (emax f))))
  where
    go : (b : Bool) → Sized (λ s. cond b (odd (suc (prec f)) s q k (low f)) (inf s))
    go true = odd_sized (suc (prec f)) q k (low f)
    go false = record { infinite = true; m = 0; e = pos 0; is = λ s. refl }

-- only the sign of a rounded number turns on the sign of the number
rounded : (f : Format) (a b : ℕ) → Sized (λ s. round f s a b)
unfolding round
rounded f a b = units_sized f (kept (prec f) (a * 2 ^ low f) b) (drop (prec f) (a * 2 ^ low f) b)

negatives_le :
    (i j : Bool) (m : ℕ) (e : ℤ) (n : ℕ) (d : ℤ)
    → T (le (sized i false m e) (sized j false n d)) → T (le (sized j true n d) (sized i true m e))
unfolding le
negatives_le true true m e n d h = tt
negatives_le true false m e n d h = absurd h
negatives_le false true m e n d h = tt
negatives_le false false m e n d h =
    let l = le→at-most false m e false n d h in at-most→le true n d true m e (omega arith)

negative_le_positive : (i j : Bool) (m : ℕ) (e : ℤ) (n : ℕ) (d : ℤ) → T (le (sized i true m e) (sized j false n d))
unfolding le
negative_le_positive true true m e n d = tt
negative_le_positive true false m e n d = tt
negative_le_positive false true m e n d = tt
negative_le_positive false false m e n d = at-most→le true m e false n d (omega arith)

zero_of_one : (f : Format) (s : Bool) → round f s 0 1 ≡ fin s 0 (pos 0)
unfolding round
zero_of_one binary32 s = refl
zero_of_one binary64 s = refl

round_zero : (f : Format) (s : Bool) (a b k : ℕ) → 0 < b → 0 < k → a * k ≤ 0 * k → round f s a b ≡ fin s 0 (pos 0)
round_zero f s a b k B K h =
    let z : a ≤ 0 = le_of_mul-le-mul_right h K in
    round_same f s a b 0 1 B (omega arith) (omega arith) ∙ zero_of_one f s

pub round_le :
    (f : Format) (s : Bool) (a b : ℕ) (t : Bool) (c d : ℕ)
    → 0 < b → 0 < d → AtMost s a b t c d → T (le (round f s a b) (round f t c d))
round_le f false a b false c d B D h = round_mono f a b c d B D (omega arith)
round_le f true a b true c d B D h =
    let x = rounded f a b in
    let y = rounded f c d in
    let l : T (le (round f false c d) (round f false a b)) = round_mono f c d a b D B (omega arith) in
    rw (x.is true, y.is true)
    (negatives_le y.infinite x.infinite y.m y.e x.m x.e (rw (x.is false, y.is false) at l))
round_le f true a b false c d B D h =
    let x = rounded f a b in
    let y = rounded f c d in
    rw (x.is true, y.is false) (negative_le_positive x.infinite y.infinite x.m x.e y.m y.e)
round_le f false a b true c d B D h =
    let p : round f false a b ≡ fin false 0 (pos 0) = round_zero f false a b d B D (omega arith) in
    let q : round f true c d ≡ fin true 0 (pos 0) = round_zero f true c d b D B (omega arith) in
    rw (p, q) (at-most→le false 0 (pos 0) true 0 (pos 0) (omega arith))

-- ---- the number that a value rounds: x is (p - q) / b, rounded

record Rounds (f : Format) (p q b : ℕ) (x : Float) : Type 0 where
  s : Bool
  a : ℕ
  is : x ≡ round f s a b
  value : plus s a + q ≡ minus s a + p

-- (a - a') / b and (c - c') / d are those numbers too
same_order :
    (p q b r t d a a' c c' : ℕ) → a + q ≡ a' + p → c + t ≡ c' + r → p * d + t * b ≤ r * b + q * d
    → a * d + c' * b ≤ c * b + a' * d
same_order p q b r t d a a' c c' x y h =
    let xd : (a + q) * d ≡ (a' + p) * d = ap (λ (z : ℕ). z * d) x in
    let yb : (c + t) * b ≡ (c' + r) * b = ap (λ (z : ℕ). z * b) y in
    omega arith

rounds_le :
    (f : Format) (p q b r t d : ℕ) (x y : Float) → 0 < b → 0 < d → Rounds f p q b x → Rounds f r t d y
    → p * d + t * b ≤ r * b + q * d → T (le x y)
rounds_le f p q b r t d x y B D u v h =
    rw (u.is, v.is)
    (round_le f u.s u.a b v.s v.a d B D
    (same_order p q b r t d (plus u.s u.a) (minus u.s u.a) (plus v.s v.a) (minus v.s v.a)
    u.value v.value h))

mixed_value :
    (t : Bool) (a b : ℕ) → ltb b a ≡ t → ltb a b ≡ false → plus t (a - b) + (a + 0) ≡ minus t (a - b) + (0 + b)
mixed_value false a b h k = grind (arith, nat_tests)
mixed_value true a b h k = grind (arith, nat_tests)

sum_rounds :
    (f : Format) (s : Bool) (a : ℕ) (t : Bool) (b c : ℕ)
    → Rounds f (plus s a + plus t b) (minus s a + minus t b) c (sum f s a t b c)
unfolding sum
sum_rounds f false a false b c = record { s = false; a = a + b; is = refl; value = omega arith }
sum_rounds f true a true b c = record { s = true; a = a + b; is = refl; value = omega arith }
sum_rounds f false a true b c =
    cond_both (ltb a b) (round f true (b - a) c) (round f false (a - b) c) (Rounds f (a + 0) (0 + b) c)
    (λ h. record { s = true; a = b - a; is = refl; value = grind (arith, nat_tests) })
    (λ h. record { s = false; a = a - b; is = refl; value = grind (arith, nat_tests) })
sum_rounds f true a false b c =
    cond_both (ltb a b) (round f false (b - a) c) (round f (ltb b a) (a - b) c) (Rounds f (0 + b) (a + 0) c)
    (λ h. record { s = false; a = b - a; is = refl; value = grind (arith, nat_tests) })
    (λ h. record { s = ltb b a; a = a - b; is = refl; value = mixed_value (ltb b a) a b refl h })

-- ---- from the finite values to all

infinite_le : (y : Float) → T (le y y) → T (le (inf true) y) × T (le y (inf false))
unfolding le
infinite_le nan h = absurd h
infinite_le (inf true) h = (tt, tt)
infinite_le (inf false) h = (tt, tt)
infinite_le (fin s m e) h = (tt, tt)

-- what leaves the infinities as they are and keeps the order of the finite values keeps the order of all
keeps_le :
    (g : Float → Float) → ((s : Bool) → g (inf s) ≡ inf s)
    → ((s : Bool) (m : ℕ) (e : ℤ) (t : Bool) (n : ℕ) (d : ℤ)
    → AtMost s (m * up e) (down e) t (n * up d) (down d) → T (le (g (fin s m e)) (g (fin t n d))))
    → (x y : Float) → T (le x y) → T (le (g x) (g y))
unfolding le
keeps_le g i k nan y h = absurd h
keeps_le g i k (inf s) nan h = absurd h
keeps_le g i k (inf s) (inf t) h = rw (i s, i t) h
keeps_le g i k (inf true) (fin t n d) h = rw (i true) (infinite_le (g (fin t n d)) (k t n d t n d (omega arith))).0
keeps_le g i k (inf false) (fin t n d) h = absurd h
keeps_le g i k (fin s m e) nan h = absurd h
keeps_le g i k (fin s m e) (inf true) h = absurd h
keeps_le g i k (fin s m e) (inf false) h = rw (i false) (infinite_le (g (fin s m e)) (k s m e s m e (omega arith))).1
keeps_le g i k (fin s m e) (fin t n d) h = k s m e t n d (le→at-most s m e t n d h)

-- ---- the addition of a finite number

plus_mul : (s : Bool) (a k : ℕ) → plus s (a * k) ≡ plus s a * k
plus_mul false a k = refl
plus_mul true a k = omega arith

minus_mul : (s : Bool) (a k : ℕ) → minus s (a * k) ≡ minus s a * k
minus_mul false a k = omega arith
minus_mul true a k = refl

add_order :
    (p q b r t d v w g : ℕ) → p * d + t * b ≤ r * b + q * d
    → (p * g + v * b) * (d * g) + (t * g + w * d) * (b * g) ≤ (r * g + v * d) * (b * g) + (q * g + w * b) * (d * g)
add_order p q b r t d v w g h = omega (arith, mul-le-mul_right (g * g) h)

-- ±a / b + ±k / g and ±c / d + ±k / g
sum_le :
    (f : Format) (s : Bool) (a b : ℕ) (t : Bool) (c d : ℕ) (u : Bool) (k g : ℕ) → 0 < b → 0 < d → 0 < g
    → AtMost s a b t c d → T (le (sum f s (a * g) u (k * b) (b * g)) (sum f t (c * g) u (k * d) (d * g)))
sum_le f s a b t c d u k g B D G h =
    rounds_le f _ _ (b * g) _ _ (d * g) _ _ (mul-pos B G) (mul-pos D G)
    (sum_rounds f s (a * g) u (k * b) (b * g)) (sum_rounds f t (c * g) u (k * d) (d * g))
    (simp (plus_mul, minus_mul)
    (add_order (plus s a) (minus s a) b (plus t c) (minus t c) d (plus u k) (minus u k) g h))

pub add_le :
    (f : Format) (u : Bool) (k : ℕ) (g : ℤ) (x y : Float)
    → T (le x y) → T (le (add f x (fin u k g)) (add f y (fin u k g)))
unfolding add
add_le f u k g =
    keeps_le (λ x. add f x (fin u k g)) (λ s. refl)
    (λ s m e t n d.
    sum_le f s (m * up e) (down e) t (n * up d) (down d) u (k * up g) (down g)
    (down_pos e) (down_pos d) (down_pos g))

-- ---- the division by a positive number

div_inf : (f : Format) (s : Bool) (k : ℕ) (g : ℤ) → div f (inf s) (fin false k g) ≡ inf s
unfolding div
div_inf f false k g = refl
div_inf f true k g = refl

div_fin :
    (f : Format) (s : Bool) (m : ℕ) (e : ℤ) (k : ℕ) (g : ℤ)
    → 0 < k → div f (fin s m e) (fin false k g) ≡ round f s (m * up e * down g) (k * up g * down e)
unfolding div
div_fin f false m e k g h = cond-false (eqb k 0) _ _ (grind (arith, nat_tests))
div_fin f true m e k g h = cond-false (eqb k 0) _ _ (grind (arith, nat_tests))

div_order :
    (p q b r t d k g : ℕ) → p * d + t * b ≤ r * b + q * d
    → p * g * (k * d) + t * g * (k * b) ≤ r * g * (k * b) + q * g * (k * d)
div_order p q b r t d k g h = omega (arith, mul-le-mul_right (g * k) h)

-- (±a / b) / (k / g) and (±c / d) / (k / g)
quotient_le :
    (f : Format) (s : Bool) (a b : ℕ) (t : Bool) (c d k g : ℕ) → 0 < b → 0 < d → 0 < k
    → AtMost s a b t c d → T (le (round f s (a * g) (k * b)) (round f t (c * g) (k * d)))
quotient_le f s a b t c d k g B D K h =
    round_le f s (a * g) (k * b) t (c * g) (k * d) (mul-pos K B) (mul-pos K D)
    (simp (plus_mul, minus_mul) (div_order (plus s a) (minus s a) b (plus t c) (minus t c) d k g h))

pub div_le : (f : Format) (x y z : Float) → T (positive z) → T (le x y) → T (le (div f x z) (div f y z))
div_le f x y nan p = absurd p
div_le f x y (inf u) p = absurd p
div_le f x y (fin true k g) p = absurd p
div_le f x y (fin false k g) p =
    let K : 0 < k = ltb→lt 0 k p in
    keeps_le (λ x. div f x (fin false k g)) (λ s. div_inf f s k g)
    (λ s m e t n d h.
    rw (div_fin f s m e k g K, div_fin f t n d k g K)
    (quotient_le f s (m * up e) (down e) t (n * up d) (down d) (k * up g) (down g)
    (down_pos e) (down_pos d) (mul-pos K (up_pos g)) h))
    x y

div_positive :
    (f : Format) (x y : Float) → T (positive x) → T (positive y)
    → div f x y ≡ round f false (num x * den y) (num y * den x)
div_positive f nan y p q = absurd p
div_positive f (inf s) y p q = absurd p
div_positive f (fin true m e) y p q = absurd p
div_positive f (fin false m e) nan p q = absurd q
div_positive f (fin false m e) (inf t) p q = absurd q
div_positive f (fin false m e) (fin true n d) p q = absurd q
div_positive f (fin false m e) (fin false n d) p q = div_fin f false m e n d (ltb→lt 0 n q)

num_above : (x : Float) → T (positive x) → 0 < num x
num_above x p = value_pos x (num x) (den x) p (den_pos x) (own_value x p)

turned_order : (a b c d k g : ℕ) → a * d ≤ c * b → k * d * (a * g) ≤ k * b * (c * g)
turned_order a b c d k g h = omega (arith, mul-le-mul_right (k * g) h)

-- of a positive number, more of a divisor gives no more
pub div_turns_le :
    (f : Format) (x y z : Float) → T (positive x) → T (positive y) → T (positive z)
    → T (le y z) → T (le (div f x z) (div f x y))
div_turns_le f x y z p q r h =
    rw (div_positive f x y p q, div_positive f x z p r)
    (round_mono f (num x * den z) (num z * den x) (num x * den y) (num y * den x)
    (mul-pos (num_above z r) (den_pos x)) (mul-pos (num_above y q) (den_pos x))
    (turned_order (num y) (den y) (num z) (den z) (num x) (den x) (le→cross y z q r h)))
