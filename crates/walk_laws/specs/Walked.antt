-- Lists of walked triangles: which they hold, and that they hold each once.
-- Assumes nothing.
use Rattle.std.specs.Prelude.{◌≡◌, ℕ, Bool, true, List, map}
use mathlib.Core.List.{Mem, Nodup}
use Rattle.cells.specs.Statuses.{zigzag}
use Rattle.numbering.specs.Numbers.{triangle_number}
use Rattle.search.specs.Corners.{triangle_of}
use Rattle.search.specs.Triangles.{corners_at}
use Rattle.shape.specs.Grids.{Grid}
use Rattle.shape.specs.Tables.{byte_at, standing}
use Rattle.takers.specs.declared.triangle.NumberedTriangle.{NumberedTriangle}
use Rattle.walks.specs.ColumnLists.{column_list}

-- the left or the right triangle of the cell (i, j), with its number and its corners
abbrev pub walked_at : Grid → List ℕ → ℕ → ℕ → Bool → NumberedTriangle
walked_at g flags i j left =
    record {
      id = triangle_number g.rows g.columns i j left;
      triangle = triangle_of (corners_at g i j) (zigzag (byte_at g.rows flags i j)) left;
    }

-- t is a standing triangle of a cell of which P holds
pub record StandingOf (g : Grid) (flags : List ℕ) (P : ℕ → ℕ → Type 0) (t : NumberedTriangle) : Type 0 where
  pub row : ℕ
  pub column : ℕ
  pub left : Bool
  pub stands : standing g.rows g.columns flags row column left ≡ true
  pub within : P row column
  pub is : t ≡ walked_at g flags row column left

-- xs holds every standing triangle of the cells of which P holds, no other, and each once
pub record HoldsEachOnce (g : Grid) (flags : List ℕ) (P : ℕ → ℕ → Type 0) (xs : List NumberedTriangle) : Type 0 where
  pub every : (t : NumberedTriangle) → StandingOf g flags P t → Mem t xs
  pub only : (t : NumberedTriangle) → Mem t xs → ∥ StandingOf g flags P t ∥₁
  pub once : Nodup (map (λ t. t.id) xs)

-- under any statuses the column list holds each standing triangle once
abbrev pub ColumnsHoldEachOnce : Grid → Type 0
ColumnsHoldEachOnce g = (flags : List ℕ) → HoldsEachOnce g flags (λ i j. Unit {0}) (column_list g flags)
