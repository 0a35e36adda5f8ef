-- The order of all floats that are numbers, with -0 below +0: of two that f32 holds, one comes before the other or they are the same.
-- Assumes nothing.
use Rattle.std.proofs.Common.{◌≡◌, ℕ, ◌+◌, ◌-◌, ◌*◌, ◌/◌, ◌^◌, ◌<◌, Bool, true, false, cond, T, ℤ, sym, refl, ap, ◌∙◌, arith}
use lib.Ieee.{Float, Format, nan, inf, fin, prec, low, up, down, size, lt, is_nan, fits, of_bits, to_bits, top, hid}
use lib.Ieee.Bits.{of_bits-to_bits}
use lib.Ieee.Fits.{down_pos}
use native.Mathlib.Nat.{mul-div-mul_right}
use Rattle.std.proofs.lemmas.Bool.{true≢false}
use Rattle.std.proofs.lemmas.Bool.Decides.{nat_tests}
use Rattle.std.specs.Float.{total_cmp, is_sign_negative}
use Rattle.std.specs.Ordering.{is_lt}
use Rattle.math.proofs.Order.{lt_fin, lt_one_way, not_lt_trans, lt_nan_left, lt_nan_right}

abbrev pub before : Float → Float → Bool
before x y = is_lt (total_cmp x y)

-- equal fractions, times a number, have equal whole parts
same_quotient : (a b c d k : ℕ) → 0 < b → 0 < d → a * d ≡ c * b → a * k / b ≡ c * k / d
same_quotient a b c d k p q e =
    let f : a * k * d ≡ c * k * b = omega (arith, ap (λ n. n * k) e) in
    let g : b * d ≡ d * b = omega arith in
    let middle : a * k * d / (b * d) ≡ c * k * b / (d * b) = cc in
    sym (mul-div-mul_right (a * k) b q) ∙ middle ∙ mul-div-mul_right (c * k) d p

-- a float that its format holds is known by its sign and its value
pub same_value :
    (f : Format) (s : Bool) (m : ℕ) (e : ℤ) (n : ℕ) (d : ℤ) → T (fits f (fin s m e)) → T (fits f (fin s n d))
    → m * up e * down d ≡ n * up d * down e → fin s m e ≡ fin s n d
unfolding to_bits
same_value f s m e n d p q h =
    let k = same_quotient (m * up e) (down e) (n * up d) (down d) (2 ^ low f) (down_pos e) (down_pos d) h in
    sym (of_bits-to_bits f (fin s m e) p)
    ∙ ap (λ a. of_bits f (cond s (top f) 0 + (size a - prec f) * hid f + a / 2 ^ (size a - prec f))) k
    ∙ of_bits-to_bits f (fin s n d) q

-- two finite values neither of which is less are equal
neither_less :
    (s : Bool) (m : ℕ) (e : ℤ) (t : Bool) (n : ℕ) (d : ℤ) → s ≡ t → lt (fin s m e) (fin t n d) ≡ false → lt (fin t n d) (fin s m e) ≡ false
    → m * up e * down d ≡ n * up d * down e
neither_less true m e true n d same h k =
    let f = lt_fin true m e true n d in let g = lt_fin true n d true m e in grind (arith, nat_tests)
neither_less false m e false n d same h k =
    let f = lt_fin false m e false n d in let g = lt_fin false n d false m e in grind (arith, nat_tests)
neither_less true m e false n d same h k = absurd (true≢false same)
neither_less false m e true n d same h k = absurd (true≢false (sym same))

-- where neither comes before the other, neither is less and the signs are the same
level : (x y : Float) → before x y ≡ false → before y x ≡ false → (lt x y ≡ false) × (lt y x ≡ false) × (is_sign_negative x ≡ is_sign_negative y)
level x y h k = grind arith

same_finite :
    (f : Format) (s : Bool) (m : ℕ) (e : ℤ) (t : Bool) (n : ℕ) (d : ℤ) → T (fits f (fin s m e)) → T (fits f (fin t n d)) → s ≡ t
    → m * up e * down d ≡ n * up d * down e → fin s m e ≡ fin t n d
same_finite f true m e true n d p q same h = same_value f true m e n d p q h
same_finite f false m e false n d p q same h = same_value f false m e n d p q h
same_finite f true m e false n d p q same h = absurd (true≢false same)
same_finite f false m e true n d p q same h = absurd (true≢false (sym same))

finite_connected :
    (f : Format) (s : Bool) (m : ℕ) (e : ℤ) (t : Bool) (n : ℕ) (d : ℤ) → T (fits f (fin s m e)) → T (fits f (fin t n d))
    → before (fin s m e) (fin t n d) ≡ false → before (fin t n d) (fin s m e) ≡ false → fin s m e ≡ fin t n d
unfolding is_sign_negative
finite_connected f s m e t n d p q h k =
    let l = level (fin s m e) (fin t n d) h k in
    same_finite f s m e t n d p q l.2 (neither_less s m e t n d l.2 l.0 l.1)

-- of two numbers that a format holds, one comes before the other or they are the same
pub connected :
    (f : Format) (x y : Float) → T (fits f x) → T (fits f y) → is_nan x ≡ false → is_nan y ≡ false
    → before x y ≡ false → before y x ≡ false → x ≡ y
unfolding lt is_nan is_sign_negative
connected f nan y p q i j h k = absurd (true≢false i)
connected f (inf s) nan p q i j h k = absurd (true≢false j)
connected f (inf s) (inf t) p q i j h k = grind arith
connected f (inf s) (fin t n d) p q i j h k = grind arith
connected f (fin s m e) nan p q i j h k = absurd (true≢false j)
connected f (fin s m e) (inf t) p q i j h k = grind arith
connected f (fin s m e) (fin t n d) p q i j h k = finite_connected f s m e t n d p q h k

-- what is less than a number below zero is below zero
less_negative : (x y : Float) → lt x y ≡ true → is_sign_negative y ≡ true → is_sign_negative x ≡ true
unfolding lt is_sign_negative
less_negative nan y h k = absurd (true≢false (sym h))
less_negative (inf s) nan h k = absurd (true≢false (sym h))
less_negative (inf s) (inf t) h k = grind arith
less_negative (inf s) (fin t n d) h k = grind arith
less_negative (fin s m e) nan h k = absurd (true≢false (sym h))
less_negative (fin s m e) (inf t) h k = grind arith
less_negative (fin true m e) (fin t n d) h k = refl
less_negative (fin false m e) (fin true n d) h k = absurd (true≢false (sym h))
less_negative (fin false m e) (fin false n d) h k = absurd (true≢false (sym k))

pub before_one_way : (x y : Float) → before x y ≡ true → before y x ≡ false
before_one_way x y h = let f = lt_one_way x y in let g = lt_one_way y x in grind arith

-- a NaN comes before nothing
nan_before : (x y : Float) → is_nan x ≡ true → before x y ≡ false
unfolding is_nan is_sign_negative lt
nan_before nan nan i = refl
nan_before nan (inf true) i = refl
nan_before nan (inf false) i = refl
nan_before nan (fin true n d) i = refl
nan_before nan (fin false n d) i = refl
nan_before (inf s) y i = absurd (true≢false (sym i))
nan_before (fin s m e) y i = absurd (true≢false (sym i))

lt_to_nan : (x y : Float) → is_nan y ≡ true → (lt x y ≡ false) × (lt y x ≡ false)
unfolding is_nan
lt_to_nan x nan i = (lt_nan_right x, lt_nan_left x)
lt_to_nan x (inf s) i = absurd (true≢false (sym i))
lt_to_nan x (fin s m e) i = absurd (true≢false (sym i))

pub before_trans : (x y z : Float) → is_nan y ≡ false → before x y ≡ true → before y z ≡ true → before x z ≡ true
before_trans x y z i h k =
    let n = nan_before x y in
    let a = not_lt_trans x z y in
    let b = not_lt_trans y x z in
    let c = less_negative x y in
    let d = lt_to_nan x z in
    let e = lt_to_nan y z in
    let f = lt_one_way y z in
    let g = lt_one_way x y in
    let l = lt_one_way x z in
    let m = lt_one_way z x in
    grind arith
