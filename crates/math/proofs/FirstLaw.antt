-- The height that a fold by `first_of` keeps is the first number of the list, of equal ones the last, in any order of
-- numbers that a NaN does not disturb; so it is with the lowest and the highest.
-- Assumes nothing.
use Rattle.std.proofs.Common.{◌≡◌, ℕ, ◌<◌, Bool, true, false, ◌||◌, List, [], ◌∷◌, ◌++◌, length, get_or, fold, refl, ap, ◌∙◌, subst, inl, inr, append_assoc, append-nil, arith}
use lib.Ieee.{Float, nan, lt, is_nan}
use Rattle.std.proofs.lemmas.List.{length_push, get_or_push, get_or_append_left}
use Rattle.std.proofs.lemmas.Bool.{cases_lt, cond_both, both_ways}
use Rattle.math.specs.Heights.{first_of, lowest_of, highest_of, FirstAt, IsFirst, IsLowest, IsHighest}
use Rattle.math.proofs.Order.{lt_nan_left, lt_nan_right, lt_one_way, lt_irrefl, not_lt_trans}

-- a NaN comes before nothing, no two come before each other, and "not before" is passed on through any number
record Orders (before : Float → Float → Bool) : Type 0 where
  after_nan : (y : Float) → before nan y ≡ false
  itself : (x : Float) → before x x ≡ false
  one_way : (x y : Float) → before x y ≡ true → before y x ≡ false
  through : (x y z : Float) → is_nan y ≡ false → before x y ≡ false → before y z ≡ false → before x z ≡ false

-- what holds at each place of a list, and of one more height behind it, holds at each place of the longer list
each_more :
    (P : ℕ → Float → Type 0) (xs : List Float) (z : Float)
    → ((m : ℕ) → m < length xs → P m (get_or xs m nan)) → P (length xs) z
    → (m : ℕ) → m < length (xs ++ z ∷ []) → P m (get_or (xs ++ z ∷ []) m nan)
each_more P xs z all here m h =
    elim (cases_lt m (length xs)) [
      | inl l ↦ rw (get_or_append_left xs (z ∷ []) nan m l) (all m l)
      | inr l ↦
          let e : length xs ≡ m = omega (arith, length_push xs z) in
          rw (get_or_push xs z nan m e) (subst (λ (k : ℕ). P k z) e here)
    ]

-- one more height z
module _ (before : Float → Float → Bool) (o : Orders before) (xs : List Float) (z : Float) where
  -- the first so far stays the first where it comes before z, or z is a NaN
  kept :
      (y : Float) (k : ℕ) → FirstAt before xs y k → (is_nan z ≡ false → before y z ≡ true)
      → FirstAt before (xs ++ z ∷ []) y k
  kept y k f h = record {
    within = simp length_push (omega arith);
    there = get_or_append_left xs (z ∷ []) nan k f.within ∙ f.there;
    number = f.number;
    none_before = each_more (λ m v. is_nan v ≡ false → before v y ≡ false) xs z f.none_before (λ n. o.one_way y z (h n));
    last = λ m l w.
        each_more (λ i v. k < i → is_nan v ≡ false → before y v ≡ true) xs z (λ i u g. f.last i g u) (λ g. h) m w l;
  }

  -- z is the first where no number comes before it
  taken :
      is_nan z ≡ false → ((m : ℕ) → m < length xs → is_nan (get_or xs m nan) ≡ false → before (get_or xs m nan) z ≡ false)
      → FirstAt before (xs ++ z ∷ []) z (length xs)
  taken n h = record {
    within = simp length_push (omega arith);
    there = get_or_push xs z nan (length xs) refl;
    number = n;
    none_before = each_more (λ m v. is_nan v ≡ false → before v z ≡ false) xs z h (λ v. o.itself z);
    last = λ m l w. absurd (omega (arith, length_push xs z));
  }

  first_push : (best : Float) → IsFirst before xs best → IsFirst before (xs ++ z ∷ []) (first_of before best z)
  first_push best (inl (e, none)) =
      let b : before best z ≡ false = ap (λ y. before y z) e ∙ o.after_nan z in
      cond_both (before best z || is_nan z) best z (IsFirst before (xs ++ z ∷ []))
      (λ h. inl (e, each_more (λ m v. is_nan v ≡ true) xs z none (grind arith)))
      (λ h. inr (length xs, taken (grind arith) (λ m l n. absurd (both_ways (is_nan (get_or xs m nan)) n (none m l)))))
  first_push best (inr (k, f)) =
      cond_both (before best z || is_nan z) best z (IsFirst before (xs ++ z ∷ []))
      (λ h. inr (k, kept best k f (λ n. grind arith)))
      (λ h. inr (
        length xs,
        taken (grind arith)
            (λ m l n. o.through (get_or xs m nan) best z f.number (f.none_before m l n) (grind arith)),
      ))

module _ (before : Float → Float → Bool) (o : Orders before) where
  first_on :
      (xs ys : List Float) (best : Float)
      → IsFirst before xs best → IsFirst before (xs ++ ys) (fold (first_of before) best ys)
  first_on xs [] best h = rw append-nil h
  first_on xs (y ∷ ys) best h =
      rw append_assoc at (first_on (xs ++ y ∷ []) ys (first_of before best y) (first_push before o xs y best h))

  first_is : (ys : List Float) (y : Float) → y ≡ fold (first_of before) nan ys → IsFirst before ys y
  first_is ys y e = rw e (first_on [] ys nan (inl (refl, λ k l. absurd (omega arith))))

pub lowest_is : (ys : List Float) (y : Float) → y ≡ lowest_of ys → IsLowest ys y
lowest_is =
    first_is lt (record { after_nan = lt_nan_left; itself = lt_irrefl; one_way = lt_one_way; through = not_lt_trans })

pub highest_is : (ys : List Float) (y : Float) → y ≡ highest_of ys → IsHighest ys y
highest_is =
    first_is (λ a b. lt b a)
    (record {
      after_nan = lt_nan_right;
      itself = lt_irrefl;
      one_way = λ x y. lt_one_way y x;
      through = λ x y z n h k. not_lt_trans z y x n k h;
    })
