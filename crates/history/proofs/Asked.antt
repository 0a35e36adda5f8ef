-- Asking a walk once more: what it gives comes first of what is left to be asked for.
-- Assumes nothing.
use Rattle.std.proofs.Common.{◌≡◌, ℕ, zero, suc, ◌+◌, ◌-◌, ◌≤◌, List, [], ◌∷◌, ◌++◌, length, take, Some, None, fold, Option, sym, refl, subst, arith, length-append}
use Rattle.emptying.specs.ByNumber.{where_fits}
use Rattle.rings.specs.Asking.{asked}
use Rattle.rings.specs.RingCursors.{RingCursor, asked_of}
use Rattle.rings.specs.Reaches.{last_ring}
use Rattle.rings.specs.RingLists.{ring_of}
use Rattle.rings.specs.declared.reach.Reach.{Reach}
use Rattle.search.proofs.Handing.{folded_append}
use Rattle.shape.specs.Grids.{Grid}
use Rattle.shape.specs.Tables.{table_refusal}
use Rattle.std.specs.Option.{option_to_list}
use Rattle.takers.specs.declared.triangle.NumberedTriangle.{NumberedTriangle}
use Rattle.walk_laws.specs.Reaching.{given}
use Rattle.walks.specs.Walks.{Gives}

-- what a cursor gives when it is asked with one reach after the other
abbrev pub given_from : RingCursor → List Reach → List NumberedTriangle
given_from w reaches = given w.grid w.flags w.row w.column reaches w.ring w.left

pub cursor_asked :
    (w w' : RingCursor) (reach : Reach) (reaches : List Reach) (r : Option NumberedTriangle)
    → ◌≡◌ {A = Option NumberedTriangle × RingCursor} (r, w') (asked_of w reach)
    → given_from w (reach ∷ reaches) ≡ option_to_list r ++ given_from w' reaches
cursor_asked w w' reach reaches r e =
    subst (λ a. given_from w (reach ∷ reaches) ≡ option_to_list a.0 ++ given_from a.1 reaches) (sym e) refl

option_most : {X : Type 0} (r : Option X) → length (option_to_list r) ≤ 1
option_most None = omega arith
option_most (Some x) = omega arith

-- a cursor gives no more triangles than it is asked for
pub given_most :
    (g : Grid) (flags : List ℕ) (ci cj : ℕ) (reaches : List Reach) (k : ℕ) (xs : List NumberedTriangle)
    → length (given g flags ci cj reaches k xs) ≤ length reaches
given_most g flags ci cj [] k xs = omega arith
given_most g flags ci cj (reach ∷ reaches) k xs =
    let answer = asked (ring_of g flags ci cj) (last_ring g ci cj reach - k) k xs in
    let more = given_most g flags ci cj reaches answer.1 answer.2 in
    rw (length-append (option_to_list answer.0) (given g flags ci cj reaches answer.1 answer.2)) (omega (arith, option_most answer.0))

module _ {X : Type 0} where
  take_of_none : (n : ℕ) → ◌≡◌ {A = List X} (take n []) []
  take_of_none zero = refl
  take_of_none (suc n) = refl

  pub walk_asked : (xs ys : List X) (r : Option X) (n : ℕ) → Gives xs r ys → take (suc n) xs ≡ option_to_list r ++ take n ys
  walk_asked [] ys r n (none, rest) = rw (none, rest) (sym (take_of_none n))
  walk_asked (x ∷ xs) ys r n (some, rest) = rw (some, rest) refl

  -- what was given counts, and what is left counts less
  module _ {S : Type 0} (adds : S → X → S) (left rest : List X) (r : Option X) (asked : left ≡ option_to_list r ++ rest) where
    pub asked_added : (s s' : S) → s' ≡ fold adds s (option_to_list r) → fold adds s' rest ≡ fold adds s left
    asked_added s s' e = rw (asked, e) (sym (folded_append adds s (option_to_list r) rest))

    pub asked_counts : length (option_to_list r) + length rest ≡ length left
    asked_counts = rw asked (sym (length-append (option_to_list r) rest))

-- where the table has the right length
pub where_it_fits :
    (g : Grid) (flags : List ℕ) (xs : List NumberedTriangle) → table_refusal g flags ≡ None
    → xs ≡ where_fits g flags xs
where_it_fits g flags xs fits = rw fits refl
