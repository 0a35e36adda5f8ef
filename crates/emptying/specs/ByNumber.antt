-- The standing triangles by rising number, and adding them up.
-- Assumes nothing.
use Rattle.std.specs.Prelude.{◌≡◌, ℕ, ◌*◌, ◌<◌, cond, List, [], fold}
use mathlib.Core.List.{Pairwise}
use Rattle.std.specs.Option.{is_none}
use Rattle.numbering.specs.Numbers.{row_of, column_of, is_left}
use Rattle.rings.specs.RingLists.{unlimited_rings}
use Rattle.search.specs.BoxLists.{from_on}
use Rattle.shape.specs.Grids.{Grid}
use Rattle.shape.specs.Tables.{table_refusal}
use Rattle.takers.specs.Totals.{IsTriangle}
use Rattle.takers.specs.declared.triangle.NumberedTriangle.{NumberedTriangle}
use Rattle.walk_laws.specs.Walked.{HoldsEachOnce}
use Rattle.walks.specs.ColumnLists.{drawn_at, column_list}

-- the triangle with number n, if it stands
abbrev pub number_slot : Grid → List ℕ → ℕ → List NumberedTriangle
number_slot g flags n =
    drawn_at g flags (row_of g.rows g.columns n) (column_of g.rows g.columns n) (is_left g.rows g.columns n)

-- the standing triangles, number after number
abbrev pub by_number : Grid → List ℕ → List NumberedTriangle
by_number g flags = from_on (number_slot g flags) 0 (2 * (g.rows * g.columns))

-- they are each standing triangle once, and the numbers rise
pub record RisesOverEach (g : Grid) (flags : List ℕ) (xs : List NumberedTriangle) : Type 0 where
  pub each : HoldsEachOnce g flags (λ i j. Unit {0}) xs
  pub rises : Pairwise (λ s t. s.id < t.id) xs

-- a list of triangles where the table has the right length; none where it is refused
abbrev pub where_fits : Grid → List ℕ → List NumberedTriangle → List NumberedTriangle
where_fits g flags xs = cond (is_none (table_refusal g flags)) xs []

-- adding any two triangles, in either order, to any total ends alike
abbrev pub AnyOrder : {Total : Type 0} → (Total → NumberedTriangle → Total) → Type 0
AnyOrder {Total} adds = (s : Total) (t u : NumberedTriangle) → IsTriangle t → IsTriangle u → adds (adds s t) u ≡ adds (adds s u) t

-- whatever is added up so, the column list and all rings round any cell of the grid lead where the triangles by rising number lead
pub record OrderDoesNotCount {Total : Type 0} (adds : Total → NumberedTriangle → Total) (g : Grid) (flags : List ℕ) : Type 0 where
  pub columns : (first : Total) → fold adds first (column_list g flags) ≡ fold adds first (by_number g flags)
  pub rings :
      (ci cj : ℕ) → ci < g.rows → cj < g.columns → (first : Total)
      → fold adds first (unlimited_rings g flags ci cj) ≡ fold adds first (by_number g flags)
