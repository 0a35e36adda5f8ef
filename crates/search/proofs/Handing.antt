-- Handing over the triangles of row after row, or column after column.
-- Assumes nothing.
use Rattle.std.proofs.Common.{◌≡◌, ℕ, ◌+◌, ◌-◌, ◌<◌, ◌≤◌, Bool, true, false, cond, ◌||◌, List, [], ◌∷◌, ◌++◌, Some, fold, sym, refl, arith}
use Rattle.std.proofs.lemmas.Bool.Decides.{nat_tests}
use Rattle.math.specs.declared.aabb.Aabb.{Aabb}
use Rattle.shape.specs.Grids.{Grid}
use Rattle.utils.specs.Tables.{inside, index_refusal}
use Rattle.utils.specs.declared.error.HeightFieldError.{HeightFieldError}
use Rattle.search.proofs.FromOn.{from_on_first, from_on_none}
use Rattle.search.specs.BoxLists.{from_on, box_cell, over, under, all_corners}

module _ {S X : Type 0} (adds : S → X → S) where
  pub folded_append : (s : S) (xs ys : List X) → fold adds s (xs ++ ys) ≡ fold adds (fold adds s xs) ys
  folded_append s [] ys = refl
  folded_append s (x ∷ xs) ys = folded_append (adds s x) xs ys

  -- one more is handed over: what is left brings the new total to the same end
  pub handed_more :
      (f : ℕ → List X) (i end : ℕ) (s s' : S) → i < end → s' ≡ fold adds s (f i)
      → fold adds s' (from_on f (i + 1) (end - (i + 1))) ≡ fold adds s (from_on f i (end - i))
  handed_more f i end s s' h e =
      rw (from_on_first f i end h, e) (sym (folded_append s (f i) (from_on f (i + 1) (end - (i + 1)))))

  -- at the end nothing is left
  pub handed_all : (f : ℕ → List X) (i end : ℕ) (s : S) → end ≤ i → fold adds s (from_on f i (end - i)) ≡ s
  handed_all f i end s h = rw (from_on_none f i end h) refl

pub either_way : {X : Type 0} (b : Bool) (x : X) → cond b x x ≡ x
either_way true x = refl
either_way false x = refl

-- off the grid a box search hands over nothing
pub none_off_grid :
    (g : Grid) (flags : List ℕ) (b : Aabb) (j i : ℕ) (e : HeightFieldError) → index_refusal g.rows g.columns i j ≡ Some e
    → box_cell g flags b j i ≡ []
none_off_grid g flags b j i e refused =
    let off : inside g.rows g.columns i j ≡ false = grind (arith, nat_tests) in
    let over_or_under = all_corners g i j (over g b) || all_corners g i j (under g b) in
    rw off (either_way over_or_under [])
