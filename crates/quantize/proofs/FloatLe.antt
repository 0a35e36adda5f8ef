-- `le` of two finite floats is one inequality of cross products, whatever their signs: `AtMost` of the two fractions.
-- So is `le` of two floats of which the values are known, and `le` beside an infinity or a NaN turns on that one alone.
-- Assumes nothing.
use Rattle.std.proofs.Common.{◌≡◌, ℕ, ◌*◌, ◌<◌, Bool, true, false, not, ◌||◌, T, leb, ℤ, sym, refl, subst, arith, le→leb, leb→le}
use lib.Ieee.{Float, nan, inf, fin, up, down, below, level, le}
use lib.Ieee.Exact.{HasValue}
use lib.Ieee.Fits.{down_pos}
use Rattle.math.proofs.Order.{side, AtMost, at_most_trans}
use Rattle.std.proofs.lemmas.Bool.Decides.{nat_tests}

at_most_is :
    (s : Bool) (a b : ℕ) (t : Bool) (c d : ℕ)
    → (below s (a * d) t (c * b) || level s (a * d) t (c * b)) ≡ leb (side s a b t c d) (side t c d s a b)
at_most_is false a b false c d = grind (arith, nat_tests)
at_most_is false a b true c d = grind (arith, nat_tests)
at_most_is true a b false c d = grind (arith, nat_tests)
at_most_is true a b true c d = grind (arith, nat_tests)

module _ (s : Bool) (m : ℕ) (e : ℤ) (t : Bool) (n : ℕ) (d : ℤ) where
  le_fin :
      le (fin s m e) (fin t n d)
      ≡ leb (side s (m * up e) (down e) t (n * up d) (down d)) (side t (n * up d) (down d) s (m * up e) (down e))
  unfolding le
  le_fin = at_most_is s (m * up e) (down e) t (n * up d) (down d)

  pub le→at-most : T (le (fin s m e) (fin t n d)) → AtMost s (m * up e) (down e) t (n * up d) (down d)
  le→at-most h = leb→le _ _ (subst T le_fin h)

  pub at-most→le : AtMost s (m * up e) (down e) t (n * up d) (down d) → T (le (fin s m e) (fin t n d))
  at-most→le h = subst T (sym le_fin) (le→leb _ _ h)

-- ---- floats of which the values are known

same_value : {s t : Bool} (a b c d : ℕ) → s ≡ t → a * d ≡ c * b → AtMost s a b t c d
same_value {s} a b c d p h = subst (λ t. AtMost s a b t c d) p (same s)
  where
    same : (s : Bool) → AtMost s a b s c d
    same false = omega arith
    same true = omega arith

-- x is ±a / b and y is ±c / d
pub le→values :
    (x y : Float) (s : Bool) (a b : ℕ) (t : Bool) (c d : ℕ)
    → HasValue x s a b → HasValue y t c d → T (le x y) → AtMost s a b t c d
le→values nan y s a b t c d v w h = absurd v
le→values (inf _) y s a b t c d v w h = absurd v
le→values (fin _ _ _) nan s a b t c d v w h = absurd w
le→values (fin _ _ _) (inf _) s a b t c d v w h = absurd w
le→values (fin s' m e) (fin t' n g) s a b t c d v w h =
    at_most_trans s a b s' (m * up e) (down e) t c d (down_pos e)
    (same_value a b (m * up e) (down e) (sym v.0) (sym v.1))
    (at_most_trans s' (m * up e) (down e) t' (n * up g) (down g) t c d (down_pos g) (le→at-most s' m e t' n g h)
    (same_value (n * up g) (down g) c d w.0 w.1))

pub values→le :
    (x y : Float) (s : Bool) (a b : ℕ) (t : Bool) (c d : ℕ)
    → 0 < b → 0 < d → HasValue x s a b → HasValue y t c d → AtMost s a b t c d → T (le x y)
values→le nan y s a b t c d B D v w h = absurd v
values→le (inf _) y s a b t c d B D v w h = absurd v
values→le (fin _ _ _) nan s a b t c d B D v w h = absurd w
values→le (fin _ _ _) (inf _) s a b t c d B D v w h = absurd w
values→le (fin s' m e) (fin t' n g) s a b t c d B D v w h =
    at-most→le s' m e t' n g
    (at_most_trans s' (m * up e) (down e) s a b t' (n * up g) (down g) B
    (same_value (m * up e) (down e) a b v.0 v.1)
    (at_most_trans s a b t c d t' (n * up g) (down g) D h
    (same_value c d (n * up g) (down g) (sym w.0) (sym w.1))))

-- ---- beside an infinity or a NaN

pub le_nan_right : (x : Float) → T (le x nan) → ⊥
unfolding le
le_nan_right nan h = h
le_nan_right (inf s) h = h
le_nan_right (fin s m e) h = h

pub le_inf_right : (x : Float) (s : Bool) (a b : ℕ) (t : Bool) → HasValue x s a b → le x (inf t) ≡ not t
unfolding le
le_inf_right nan s a b t v = absurd v
le_inf_right (inf _) s a b t v = absurd v
le_inf_right (fin _ m e) s a b true v = refl
le_inf_right (fin _ m e) s a b false v = refl

pub le_inf_left : (t : Bool) (y : Float) (s : Bool) (a b : ℕ) → HasValue y s a b → le (inf t) y ≡ t
unfolding le
le_inf_left t nan s a b v = absurd v
le_inf_left t (inf _) s a b v = absurd v
le_inf_left true (fin _ m e) s a b v = refl
le_inf_left false (fin _ m e) s a b v = refl
