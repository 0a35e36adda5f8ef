-- The band of heights does not depend on the order in which they come.
-- Assumes nothing.
use Rattle.std.proofs.Common.{◌≡◌, false, T, List, [], ◌∷◌, Some, None, fold, Option, refl, ap, ◌∙◌, inl, inr, arith}
use lib.Ieee.{Float, binary32, is_nan, fits}
use Rattle.std.proofs.lemmas.Bool.{cases_Bool}
use Rattle.std.specs.List.{AllByRecursion as All}
use Rattle.takers.proofs.TotalOrder.{before, connected, before_one_way, before_trans}
use Rattle.takers.specs.Bands.{Heights, earlier, later, widened, joined_by, corner_heights, banded}
use Rattle.takers.specs.Totals.{IsTriangle}
use Rattle.takers.specs.declared.triangle.NumberedTriangle.{NumberedTriangle}

-- two values of f32 that are numbers
module _ (y z : Float) (p : T (fits binary32 y)) (q : T (fits binary32 z)) (i : is_nan y ≡ false) (j : is_nan z ≡ false) where
  same : before y z ≡ false → before z y ≡ false → y ≡ z
  same = connected binary32 y z p q i j

  earlier_swap : earlier y z ≡ earlier z y
  earlier_swap = let a = same in let b = before_one_way y z in let c = before_one_way z y in grind arith

  later_swap : later y z ≡ later z y
  later_swap = let a = same in let b = before_one_way y z in let c = before_one_way z y in grind arith

  earlier_either : (x : Float) → earlier (earlier x y) z ≡ earlier (earlier x z) y
  earlier_either x =
      let a = same in
      let b = before_one_way y z in
      let c = before_one_way z y in
      let d = before_trans z y x i in
      let e = before_trans y z x j in
      grind arith

  later_either : (x : Float) → later (later x y) z ≡ later (later x z) y
  later_either x =
      let a = same in
      let b = before_one_way y z in
      let c = before_one_way z y in
      let d = before_trans x y z i in
      let e = before_trans x z y j in
      grind arith

  widened_either : (h : Option Heights) → widened (widened h y) z ≡ widened (widened h z) y
  widened_either None = let a = earlier_swap in let b = later_swap in cc
  widened_either (Some h) = let a = earlier_either h.lowest in let b = later_either h.highest in cc

-- a NaN is passed over, so the two come in either order whatever they are
joined_either :
    (y z : Float) → T (fits binary32 y) → T (fits binary32 z) → (h : Option Heights) → joined_by (joined_by h y) z ≡ joined_by (joined_by h z) y
joined_either y z p q h =
    elim (cases_Bool (is_nan y)) [
      | inl i ↦ rw i refl
      | inr i ↦
          elim (cases_Bool (is_nan z)) [
            | inl j ↦ rw j refl
            | inr j ↦ rw (i, j) (widened_either y z p q i j h)
          ]
    ]

-- one more height before or after a list of others
joined_past :
    (y : Float) → T (fits binary32 y) → (zs : List Float) → All (λ z. T (fits binary32 z)) zs → (h : Option Heights)
    → fold joined_by (joined_by h y) zs ≡ joined_by (fold joined_by h zs) y
joined_past y p [] a h = refl
joined_past y p (z ∷ zs) (q, a) h =
    ap (λ k. fold joined_by k zs) (joined_either y z p q h) ∙ joined_past y p zs a (joined_by h z)

-- two lists of heights, in either order
lists_either :
    (ys : List Float) → All (λ y. T (fits binary32 y)) ys → (zs : List Float) → All (λ z. T (fits binary32 z)) zs → (h : Option Heights)
    → fold joined_by (fold joined_by h ys) zs ≡ fold joined_by (fold joined_by h zs) ys
lists_either [] a zs b h = refl
lists_either (y ∷ ys) (p, a) zs b h =
    lists_either ys a zs b (joined_by h y) ∙ ap (λ k. fold joined_by k ys) (joined_past y p zs b h)

corners_fit : (t : NumberedTriangle) → IsTriangle t → All (λ y. T (fits binary32 y)) (corner_heights t)
corners_fit t f = (f.0.1.0, (f.1.0.1.0, (f.1.1.1.0, tt)))

pub banded_either :
    (h : Option Heights) (t u : NumberedTriangle) → IsTriangle t → IsTriangle u → banded (banded h t) u ≡ banded (banded h u) t
banded_either h t u f g = lists_either (corner_heights t) (corners_fit t f) (corner_heights u) (corners_fit u g) h
