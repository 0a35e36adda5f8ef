-- A triangle's number gives back its cell and its side, so lists of the triangles of cells can be joined as the cells are.
-- Assumes nothing.
use Rattle.std.proofs.Common.{◌≡◌, ℕ, ◌+◌, ◌<◌, ◌≤◌, Bool, true, false, cond, ◌⊎◌, List, ◌++◌, Some, None, sym, refl, ap, ◌∙◌, subst₂, inl, inr, ⊎_elim, arith}
use mathlib.Core.List.Memᴰ
use mathlib.Core.List.{Pairwise-singleton}
use mathlib.Core.Logic.{∥∥₁_map}
use Rattle.std.proofs.lemmas.Nat.{div-mul-add, mod-mul-add}
use Rattle.std.proofs.lemmas.Bool.{true≢false, false≢true}
use Rattle.std.proofs.lemmas.Bool.Decides.{nat_tests}
use Rattle.std.specs.Option.{option_map, option_to_list}
use Rattle.numbering.proofs.Bounds.{cell_lt}
use Rattle.numbering.specs.Numbers.{triangle_number, row_of, column_of, is_left}
use Rattle.search.specs.BoxLists.{cell_list, from_on, numbered_at}
use Rattle.search.specs.Triangles.{corners_at}
use Rattle.shape.specs.Grids.{Grid}
use Rattle.shape.specs.Tables.{standing}
use Rattle.takers.specs.declared.triangle.NumberedTriangle.{NumberedTriangle}
use Rattle.walk_laws.proofs.OnceLists.{Holds, holds_same, holds_none, holds_append, holds_from_on}
use Rattle.walk_laws.specs.Walked.{walked_at, StandingOf, HoldsEachOnce}

-- ---- a triangle's number

module _ (r c i j : ℕ) (row_lt : i < r) (column_lt : j < c) where
  pub left_of_number : (left : Bool) → is_left r c (triangle_number r c i j left) ≡ left
  left_of_number left = grind (arith, nat_tests, cell_lt r c i j row_lt column_lt)

  pub row_of_number : (left : Bool) → row_of r c (triangle_number r c i j left) ≡ i
  row_of_number left = grind (arith, nat_tests, cell_lt r c i j row_lt column_lt, mod-mul-add j r i row_lt)

  pub column_of_number : (left : Bool) → column_of r c (triangle_number r c i j left) ≡ j
  column_of_number left = grind (arith, nat_tests, cell_lt r c i j row_lt column_lt, div-mul-add j r i row_lt)

-- no two triangles of the grid have one number
number_names_one :
    (r c i j i' j' : ℕ) (left left' : Bool) → i < r → j < c → i' < r → j' < c
    → triangle_number r c i j left ≡ triangle_number r c i' j' left' → (i ≡ i') × (j ≡ j') × (left ≡ left')
number_names_one r c i j i' j' left left' p q p' q' e = (
  sym (row_of_number r c i j p q left) ∙ ap (row_of r c) e ∙ row_of_number r c i' j' p' q' left',
  sym (column_of_number r c i j p q left) ∙ ap (column_of r c) e ∙ column_of_number r c i' j' p' q' left',
  sym (left_of_number r c i j p q left) ∙ ap (is_left r c) e ∙ left_of_number r c i' j' p' q' left',
)

-- ---- one triangle

-- a list of one element, or of none
holds_one_if :
    {X Z : Type 0} (id : X → ℕ) (b : Bool) (f : Z → X) (z : Z)
    → Holds id (λ t. (b ≡ true) × (t ≡ f z)) (option_to_list (option_map f (cond b (Some z) None)))
holds_one_if id true f z =
    record {
      every = λ t (p, e). ∣ Memᴰ.head e ∣₁;
      only = λ t m. ∥∥₁_map m (λ d. (refl, Memᴰ.eq_of_singleton d));
      once = Pairwise-singleton _ (id (f z));
    }
holds_one_if id false f z = holds_none id (λ t (p, e). false≢true p)

module _ (g : Grid) (flags : List ℕ) where
  -- t is the left or the right triangle of the cell (i, j), and stands
  abbrev pub Stands : ℕ → ℕ → Bool → NumberedTriangle → Type 0
  Stands i j left t = (standing g.rows g.columns flags i j left ≡ true) × (t ≡ walked_at g flags i j left)

  pub one_triangle :
      (i j : ℕ) (left : Bool) → Holds (λ t. t.id) (Stands i j left) (numbered_at g flags (corners_at g i j) i j left)
  one_triangle i j left = holds_one_if (λ t. t.id) _ _ _

  pub standing_inside :
      (i j : ℕ) (left : Bool) → standing g.rows g.columns flags i j left ≡ true → (i < g.rows) × (j < g.columns)
  standing_inside i j left h = grind (arith, nat_tests)

  -- triangles with one number are of one cell, on one side
  pub id_names_one :
      (i j i' j' : ℕ) (left left' : Bool) (s t : NumberedTriangle) → Stands i j left s → Stands i' j' left' t → s.id ≡ t.id
      → (i ≡ i') × (j ≡ j') × (left ≡ left')
  id_names_one i j i' j' left left' s t p q e =
      let a = standing_inside i j left p.0 in
      let b = standing_inside i' j' left' q.0 in
      number_names_one g.rows g.columns i j i' j' left left' a.0 a.1 b.0 b.1
      (sym (ap (λ u. u.id) p.1) ∙ e ∙ ap (λ u. u.id) q.1)

  -- ---- the triangles of cells

  -- xs holds each standing triangle of the cells of which P holds, and no other
  abbrev pub HoldsCells : (ℕ → ℕ → Type 0) → List NumberedTriangle → Type 0
  HoldsCells P xs = Holds (λ t. t.id) (StandingOf g flags P) xs

  -- a standing triangle of the cell (i, j) is its left or its right one
  stands_at :
      (i j row column : ℕ) (left : Bool) (t : NumberedTriangle) → row ≡ i → column ≡ j → Stands row column left t
      → Stands i j true t ⊎ Stands i j false t
  stands_at i j row column true t p q s = inl (subst₂ (λ i j. Stands i j true t) p q s)
  stands_at i j row column false t p q s = inr (subst₂ (λ i j. Stands i j false t) p q s)

  pub one_cell : (i j : ℕ) → HoldsCells (λ row column. (row ≡ i) × (column ≡ j)) (cell_list g flags (corners_at g i j) i j)
  one_cell i j =
      holds_same (λ t. t.id)
      (λ t. ⊎_elim
      (λ s. record { row = i; column = j; left = true; stands = s.0; within = (refl, refl); is = s.1 })
      (λ s. record { row = i; column = j; left = false; stands = s.0; within = (refl, refl); is = s.1 }))
      (λ t s. stands_at i j s.row s.column s.left t s.within.0 s.within.1 (s.stands, s.is))
      (holds_append (λ t. t.id) (λ s t p q e. true≢false (id_names_one i j i j true false s t p q e).2)
      (one_triangle i j true) (one_triangle i j false))

  -- the fact of a triangle's cell, by the triangle's number
  pub fact_by_number :
      {P : ℕ → ℕ → Type 0} (t : NumberedTriangle) → StandingOf g flags P t
      → P (row_of g.rows g.columns t.id) (column_of g.rows g.columns t.id)
  fact_by_number {P} t s =
      let inside = standing_inside s.row s.column s.left s.stands in
      let number = ap (λ u. u.id) s.is in
      subst₂ P
      (sym (ap (row_of g.rows g.columns) number ∙ row_of_number _ _ _ _ inside.0 inside.1 s.left))
      (sym (ap (column_of g.rows g.columns) number ∙ column_of_number _ _ _ _ inside.0 inside.1 s.left))
      s.within

  -- what holds of the cells of triangles with one number holds of one cell
  shared_cell :
      {P Q : ℕ → ℕ → Type 0} (s t : NumberedTriangle) → StandingOf g flags P s → StandingOf g flags Q t → s.id ≡ t.id
      → (i : ℕ) × (j : ℕ) × P i j × Q i j
  shared_cell {P} {Q} s t p q e =
      let row = row_of g.rows g.columns in
      let column = column_of g.rows g.columns in
      (_, _, fact_by_number s p, subst₂ Q (ap row (sym e)) (ap column (sym e)) (fact_by_number t q))

  -- of facts with numbers, where no cell has two, no triangle's number has two
  pub facts_differ :
      {P : ℕ → ℕ → ℕ → Type 0} → ((k l i j : ℕ) → P k i j → P l i j → k ≡ l)
      → (k l : ℕ) (s t : NumberedTriangle) → StandingOf g flags (P k) s → StandingOf g flags (P l) t → s.id ≡ t.id → k ≡ l
  facts_differ differ k l s t p q e = let (i, j, x, y) = shared_cell s t p q e in differ k l i j x y

  -- the same triangle, with another fact of its cell
  with_fact :
      {P Q : ℕ → ℕ → Type 0} (t : NumberedTriangle) (s : StandingOf g flags P t) → Q s.row s.column → StandingOf g flags Q t
  with_fact t s q =
      record { row = s.row; column = s.column; left = s.left; stands = s.stands; within = q; is = s.is }

  -- a fact that follows for the cells of the grid
  change_fact :
      {P Q : ℕ → ℕ → Type 0} → ((i j : ℕ) → i < g.rows → j < g.columns → P i j → Q i j)
      → (t : NumberedTriangle) → StandingOf g flags P t → StandingOf g flags Q t
  change_fact to t s =
      let inside = standing_inside s.row s.column s.left s.stands in
      with_fact t s (to s.row s.column inside.0 inside.1 s.within)

  pub cells_same :
      {P Q : ℕ → ℕ → Type 0} {xs : List NumberedTriangle} → ((i j : ℕ) → i < g.rows → j < g.columns → P i j → Q i j)
      → ((i j : ℕ) → i < g.rows → j < g.columns → Q i j → P i j) → HoldsCells P xs → HoldsCells Q xs
  cells_same to from = holds_same (λ t. t.id) (change_fact to) (change_fact from)

  pub cells_append :
      {P Q : ℕ → ℕ → Type 0} {xs ys : List NumberedTriangle} → ((i j : ℕ) → P i j → Q i j → ⊥)
      → HoldsCells P xs → HoldsCells Q ys → HoldsCells (λ i j. P i j ⊎ Q i j) (xs ++ ys)
  cells_append differ h k =
      holds_same (λ t. t.id)
      (λ t. ⊎_elim (λ s. with_fact t s (inl s.within)) (λ s. with_fact t s (inr s.within)))
      (λ t s. ⊎_elim (λ p. inl (with_fact t s p)) (λ p. inr (with_fact t s p)) s.within)
      (holds_append (λ t. t.id) (λ s t p q e. let (i, j, x, y) = shared_cell s t p q e in differ i j x y) h k)

  pub cells_from_on :
      {P : ℕ → ℕ → ℕ → Type 0} {f : ℕ → List NumberedTriangle} → ((k l i j : ℕ) → P k i j → P l i j → k ≡ l)
      → (a n : ℕ) → ((k : ℕ) → a ≤ k → k < a + n → HoldsCells (P k) (f k))
      → HoldsCells (λ i j. (k : ℕ) × (a ≤ k) × (k < a + n) × P k i j) (from_on f a n)
  cells_from_on differ a n each =
      holds_same (λ t. t.id)
      (λ t (k, l, m, s). with_fact t s (k, l, m, s.within))
      (λ t s. let (k, l, m, p) = s.within in (k, l, m, with_fact t s p))
      (holds_from_on (λ t. t.id) (facts_differ differ) a n each)

  pub each_once : {P : ℕ → ℕ → Type 0} {xs : List NumberedTriangle} → HoldsCells P xs → HoldsEachOnce g flags P xs
  each_once h = record { every = h.every; only = h.only; once = h.once }
