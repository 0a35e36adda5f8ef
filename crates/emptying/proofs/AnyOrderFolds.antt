-- Where triangles may be added in any order, lists that hold the same triangles lead to the same total.
-- Assumes nothing.
use Rattle.std.proofs.Common.{◌≡◌, ℕ, List, [], ◌∷◌, ◌++◌, fold, sym, refl, ap, ◌∙◌, subst, ⊎_elim}
use base.Stored.{Coded-set}
use lib.Dec.{T_prop}
use lib.Ieee.{binary32, fits}
use mathlib.Core.HLevel.{¬_prop, ×_prop}
use mathlib.Core.List.Perm
use mathlib.Core.List.{Perm, perm_middle}
use mathlib.Core.List.Memᴰ
use mathlib.Core.List.{Mem, not-mem-nil, mem-cons_self, mem-cons_of_mem, mem-append_left}
use mathlib.Core.List.Pairwise
use mathlib.Core.List.{Pairwise, Pairwise-middle, rel_of_Pairwise-cons}
use mathlib.Core.Logic.{∥∥₁_elim, ∥∥₁_map}
use Rattle.std.proofs.lemmas.Bool.{cases_eq}
use Rattle.emptying.proofs.DrawnFit.{walked_is_triangle}
use Rattle.emptying.proofs.NumberOrder.{numbers_hold}
use Rattle.emptying.specs.ByNumber.{by_number, AnyOrder, OrderDoesNotCount}
use Rattle.math.specs.declared.vector.Vector.{Vector}
use Rattle.shape.specs.Grids.{Grid}
use Rattle.takers.specs.Totals.{IsVector, IsTriangle}
use Rattle.takers.specs.contracts.triangle.NumberedTriangle.{the_row}
use Rattle.takers.specs.declared.triangle.NumberedTriangle.{NumberedTriangle}
use Rattle.walk_laws.proofs.ColumnMembers.{columns_hold, rings_are_columns}
use Rattle.walk_laws.proofs.OnceLists.{holds_perm}
use Rattle.walks.specs.ColumnLists.{column_list}

-- ---- lists in which no two elements have one id

module _ {X : Type 0} (set : IsSet X) (id : X → ℕ) where
  abbrev Apart : List X → Type 0
  Apart xs = Pairwise (λ s t. id s ≡ id t → ⊥) xs

  -- a member with the first one's id is the first one
  first_by_id : (x y : X) (ys : List X) → Apart (y ∷ ys) → Mem x (y ∷ ys) → id x ≡ id y → x ≡ y
  first_by_id x y ys apart m same =
      ∥∥₁_elim m (set x y) (λ d. ⊎_elim
      (λ e. e) (λ later. absurd (rel_of_Pairwise-cons apart ∣ later ∣₁ (sym same))) (Memᴰ.cases_cons d))

  -- a member with another id is a later one
  later_by_id : (x y : X) (ys : List X) → Mem x (y ∷ ys) → (id x ≡ id y → ⊥) → Mem x ys
  later_by_id x y ys m differ =
      ∥∥₁_map m (λ d. ⊎_elim (λ e. absurd (differ (ap id e))) (λ later. later) (Memᴰ.cases_cons d))

  -- where a member stands: ids are compared, so the place is found and not only there
  cut_at :
      (x : X) (ys : List X) → Apart ys → Mem x ys → (before : List X) × (after : List X) × (ys ≡ before ++ x ∷ after)
  cut_at x [] apart m = absurd (not-mem-nil m)
  cut_at x (y ∷ ys) apart m =
      ⊎_elim
      (λ same. ([], ys, ap (λ z. z ∷ ys) (sym (first_by_id x y ys apart m same))))
      (λ differ.
      let (before, after, e) = cut_at x ys (Pairwise.of_cons apart) (later_by_id x y ys m differ) in
      (y ∷ before, after, ap (λ zs. y ∷ zs) e))
      (cases_eq (id x) (id y))

  -- ---- adding in any order elements of which P holds

  module _ {Total : Type 0} (adds : Total → X → Total) (P : X → Type 0)
      (any : (s : Total) (t u : X) → P t → P u → adds (adds s t) u ≡ adds (adds s u) t) where
    -- one from the midst may be added first
    add_first :
        (x : X) (before after : List X) → P x → ((t : X) → Mem t before → P t) → (s : Total)
        → fold adds s (before ++ x ∷ after) ≡ fold adds (adds s x) (before ++ after)
    add_first x [] after p each s = refl
    add_first x (t ∷ before) after p each s =
        add_first x before after p (λ u m. each u (mem-cons_of_mem t m)) (adds s t)
        ∙ ap (λ u. fold adds u (before ++ after)) (any s t x (each t mem-cons_self) p)

    same_total :
        (xs ys : List X) → Perm xs ys → Apart ys → ((t : X) → Mem t ys → P t) → (s : Total)
        → fold adds s xs ≡ fold adds s ys
    same_total [] ys same apart each s = ap (fold adds s) (Perm.nil-eq same)
    same_total (x ∷ xs) ys same apart each s =
        let has = (Perm.mem_iff same).0 mem-cons_self in
        let (before, after, e) = cut_at x ys apart has in
        let middle = perm_middle {a = x} before after in
        same_total xs (before ++ after) (Perm.cons_inv (Perm.trans (rw e at same) middle))
        (Pairwise.of_cons ((Pairwise-middle (λ s t. ¬_prop) (λ s t differ e. differ (sym e)) before after).0 (rw e at apart)))
        (λ t m. each t (rw e ((Perm.mem_iff middle).1 (mem-cons_of_mem x m)))) (adds s x)
        ∙ sym (add_first x before after (each x has) (λ t m. each t (rw e (mem-append_left (x ∷ after) m))) s)
        ∙ ap (fold adds s) (sym e)

-- ---- the triangles by rising number

vector_prop : (p : Vector) → IsProp (IsVector p)
vector_prop p =
    ×_prop (T_prop (fits binary32 p.x)) (×_prop (T_prop (fits binary32 p.y)) (T_prop (fits binary32 p.z)))

triangle_prop : (t : NumberedTriangle) → IsProp (IsTriangle t)
triangle_prop t =
    ×_prop (vector_prop t.triangle.a) (×_prop (vector_prop t.triangle.b) (vector_prop t.triangle.c))

module _ (g : Grid) (flags : List ℕ) where
  numbers_are_triangles : (t : NumberedTriangle) → Mem t (by_number g flags) → IsTriangle t
  numbers_are_triangles t m =
      ∥∥₁_elim ((numbers_hold g flags).only t m) (triangle_prop t)
      (λ s. subst IsTriangle (sym s.is) (walked_is_triangle g flags s.row s.column s.left))

  columns_are_numbers : Perm (column_list g flags) (by_number g flags)
  columns_are_numbers = holds_perm (λ t. t.id) (columns_hold g flags) (numbers_hold g flags)

pub order_does_not_count :
    {Total : Type 0} (adds : Total → NumberedTriangle → Total) → AnyOrder adds → (g : Grid) (flags : List ℕ)
    → OrderDoesNotCount adds g flags
order_does_not_count {Total} adds any g flags =
    record {
      columns = as_numbers (column_list g flags) (columns_are_numbers g flags);
      rings = λ ci cj row_lt column_lt.
          as_numbers _ (Perm.trans (rings_are_columns g flags ci cj row_lt column_lt) (columns_are_numbers g flags));
    }
  where
    as_numbers :
        (xs : List NumberedTriangle) → Perm xs (by_number g flags) → (first : Total)
        → fold adds first xs ≡ fold adds first (by_number g flags)
    as_numbers xs same =
        same_total (Coded-set the_row.coded) (λ t. t.id) adds IsTriangle any xs (by_number g flags) same
        (Pairwise.of_map' (λ t. t.id) (numbers_hold g flags).once) (numbers_are_triangles g flags)
