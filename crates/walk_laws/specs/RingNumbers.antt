-- Rings by distance: a cell lies in the ring whose number is the larger of its row's and its column's difference from the centre's.
-- Assumes nothing.
use Rattle.std.specs.Prelude.{ℕ, ◌+◌, ◌-◌, ◌<◌, ◌≤◌, max, List}
use mathlib.Core.List.{Perm, Pairwise}
use Rattle.numbering.specs.Numbers.{row_of, column_of}
use Rattle.rings.specs.RingLists.{rings_up_to, unlimited_rings}
use Rattle.shape.specs.Grids.{Grid}
use Rattle.takers.specs.declared.triangle.NumberedTriangle.{NumberedTriangle}
use Rattle.walk_laws.specs.Walked.{HoldsEachOnce}
use Rattle.walks.specs.ColumnLists.{column_list}

-- the difference of two numbers
abbrev pub apart : ℕ → ℕ → ℕ
apart a b = a - b + (b - a)

-- the ring round the cell (ci, cj) in which the cell (i, j) lies
abbrev pub ring_number : ℕ → ℕ → ℕ → ℕ → ℕ
ring_number ci cj i j = max (apart i ci) (apart j cj)

-- the ring in which a triangle lies
abbrev pub ring_of_triangle : Grid → ℕ → ℕ → NumberedTriangle → ℕ
ring_of_triangle g ci cj t = ring_number ci cj (row_of g.rows g.columns t.id) (column_of g.rows g.columns t.id)

-- no triangle comes before one of a nearer ring
abbrev pub RingByRing : Grid → ℕ → ℕ → List NumberedTriangle → Type 0
RingByRing g ci cj xs = Pairwise (λ s t. ring_of_triangle g ci cj s ≤ ring_of_triangle g ci cj t) xs

-- the rings 0 up to the last hold each standing triangle at most that far from the centre, once, ring by ring
abbrev pub RingsHoldEachOnce : Grid → Type 0
RingsHoldEachOnce g =
    (flags : List ℕ) (ci cj last : ℕ)
    → HoldsEachOnce g flags (λ i j. ring_number ci cj i j ≤ last) (rings_up_to g flags ci cj last)
    × RingByRing g ci cj (rings_up_to g flags ci cj last)

-- all rings round a cell of the grid hold the triangles of the column list, in another order
abbrev pub RingsAreColumnsInAnotherOrder : Grid → Type 0
RingsAreColumnsInAnotherOrder g =
    (flags : List ℕ) (ci cj : ℕ) → ci < g.rows → cj < g.columns → Perm (unlimited_rings g flags ci cj) (column_list g flags)
