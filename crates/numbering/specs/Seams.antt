-- Seams: the pairs of grid points that sides of triangles join, and the numbers that they carry.
-- A grid has r rows and c columns of cells, and a list of their status bytes, column after column.
-- Assumes nothing.
use Rattle.std.specs.Prelude.{◌≡◌, ℕ, ◌+◌, ◌%◌, ◌<◌, Bool, ◌⊎◌, List, slice_index}
use Rattle.utils.specs.Tables.{place}
use Rattle.cells.specs.Cells.{rows_past, columns_past, corner}
use Rattle.numbering.specs.Numbers.{converted}
use Rattle.cells.specs.Statuses.{zigzag}
use Rattle.cells.specs.declared.feature_id.FeatureId.TheVariants.{Edge}

-- the row and the column of a grid point
abbrev pub Point : Type 0
Point = ℕ × ℕ

-- one of the three sides of one of the two triangles of a cell, standing or removed
pub record TriangleSide (r c : ℕ) : Type 0 where
  pub row : ℕ
  pub column : ℕ
  pub left : Bool
  pub which : ℕ
  pub row_lt : row < r
  pub column_lt : column < c
  pub which_lt : which < 3

-- whether the cell of a side has the zigzag pattern
abbrev pub zigzag_at : {r c : ℕ} → List ℕ → TriangleSide r c → Bool
zigzag_at {r} flags s = zigzag (slice_index flags (place r s.row s.column))

-- the grid point at the local corner k of a side's triangle
abbrev pub point_at : {r c : ℕ} → List ℕ → TriangleSide r c → ℕ → Point
point_at flags s k =
    (s.row + rows_past (corner (zigzag_at flags s) s.left k), s.column + columns_past (corner (zigzag_at flags s) s.left k))

-- two pairs of points are the same, in whichever order
abbrev pub SamePair : Point → Point → Point → Point → Type 0
SamePair p q p' q' = ((p ≡ p') × (q ≡ q')) ⊎ ((p ≡ q') × (q ≡ p'))

-- side 0 joins the corners 0 and 1, side 1 the corners 1 and 2, side 2 the corners 2 and 0
abbrev pub Joins : {r c : ℕ} → List ℕ → TriangleSide r c → Point → Point → Type 0
Joins flags s p q = SamePair (point_at flags s s.which) (point_at flags s ((s.which + 1) % 3)) p q

-- the side converts to the edge number n
abbrev pub ConvertsTo : {r c : ℕ} → List ℕ → TriangleSide r c → ℕ → Type 0
ConvertsTo {r} {c} flags s n =
    converted r c (zigzag_at flags s) s.row s.column s.left (Edge s.which) ≡ Edge n

-- some side joins the two points
abbrev pub Seam : ℕ → ℕ → List ℕ → Point → Point → Type 0
Seam r c flags p q = (s : TriangleSide r c) × Joins flags s p q

-- some side that joins the two points converts to n
abbrev pub Carries : ℕ → ℕ → List ℕ → Point → Point → ℕ → Type 0
Carries r c flags p q n = (s : TriangleSide r c) × (Joins flags s p q × ConvertsTo flags s n)

-- of one size and one list of flags: a seam carries a number, and no second one
abbrev pub SeamsCarryOneNumber : ℕ → ℕ → List ℕ → Type 0
SeamsCarryOneNumber r c flags =
    (p q : Point) → Seam r c flags p q
    → (n : ℕ) × (Carries r c flags p q n × ((m : ℕ) → Carries r c flags p q m → m ≡ n))

-- and two sides convert to equal numbers exactly when they join the same two points
abbrev pub NumbersJoinPoints : ℕ → ℕ → List ℕ → Type 0
NumbersJoinPoints r c flags =
    (s t : TriangleSide r c) (m n : ℕ) → ConvertsTo flags s m → ConvertsTo flags t n
    → (m ≡ n → Joins flags s (point_at flags t t.which) (point_at flags t ((t.which + 1) % 3)))
    × (Joins flags s (point_at flags t t.which) (point_at flags t ((t.which + 1) % 3)) → m ≡ n)

-- whatever the size and the flags
abbrev pub EachSeamCarriesOneNumber : Type 0
EachSeamCarriesOneNumber = (r c : ℕ) (flags : List ℕ) → SeamsCarryOneNumber r c flags

abbrev pub EqualNumbersJoinEqualPoints : Type 0
EqualNumbersJoinEqualPoints = (r c : ℕ) (flags : List ℕ) → NumbersJoinPoints r c flags
