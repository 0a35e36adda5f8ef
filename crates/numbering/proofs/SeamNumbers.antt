-- Sides of triangles convert to equal edge numbers exactly when they join the same two points:
-- a side's two points can be read off its number, and its number off the two points, in whichever order.
-- Assumes nothing.
use Rattle.std.proofs.Common.{◌≡◌, ℕ, ◌+◌, ◌-◌, ◌*◌, ◌/◌, ◌%◌, ◌<◌, Bool, true, cond, eqb, ltb, List, get_or, sym, refl, ◌∙◌, add-mul, arith}
use Rattle.std.proofs.lemmas.Nat.{div-mul-add, mod-mul-add}
use Rattle.std.proofs.lemmas.Bool.Decides.{nat_tests}
use Rattle.utils.specs.Tables.{place}
use Rattle.numbering.proofs.Bounds.{cell_lt}
use Rattle.cells.specs.Cells.{rows_past, columns_past, corner, side}
use Rattle.numbering.specs.Numbers.{edge_number}
use Rattle.numbering.specs.Seams.{Point, TriangleSide, zigzag_at, point_at, SamePair, Joins, ConvertsTo}
use Rattle.numbering.specs.Seams.{EachSeamCarriesOneNumber, EqualNumbersJoinEqualPoints}
use Rattle.cells.specs.Statuses.{zigzag}
use Rattle.cells.specs.declared.cell.Side.{Side}
use Rattle.cells.specs.declared.cell.Side.TheVariants.{Left, Right, Top, Bottom, Diagonal}

-- the two points that a side of the cell (i, j) joins, by whether the cell has the zigzag pattern
abbrev ends : Bool → ℕ → ℕ → Side → Point × Point
ends z i j Left = ((i, j), (i + 1, j))
ends z i j Right = ((i, j + 1), (i + 1, j + 1))
ends z i j Top = ((i, j), (i, j + 1))
ends z i j Bottom = ((i + 1, j), (i + 1, j + 1))
ends z i j Diagonal = cond z ((i, j), (i + 1, j + 1)) ((i + 1, j), (i, j + 1))

-- the two corners between which a triangle has its side k are the ends of that side
corners_are_ends : (i j : ℕ) (z left : Bool) (k : ℕ) → k < 3
    → SamePair (i + rows_past (corner z left k), j + columns_past (corner z left k))
    (i + rows_past (corner z left ((k + 1) % 3)), j + columns_past (corner z left ((k + 1) % 3)))
    (ends z i j (side z left k)).0 (ends z i j (side z left k)).1
corners_are_ends i j z left k h = grind arith

-- the points read off a number, as the ends of the left side, the top or the diagonal of a cell, or of one past the last
abbrev ends_from_number : ℕ → ℕ → List ℕ → ℕ → Point × Point
ends_from_number r c flags n =
    let k = n - r * (c + 1) in
    let d = k - (r + 1) * c in
    cond (ltb n (r * (c + 1))) (ends true (n % r) (n / r) Left)
    (cond (ltb k ((r + 1) * c)) (ends true (k % (r + 1)) (k / (r + 1)) Top)
    (ends (zigzag (get_or flags d 0)) (d % r) (d / r) Diagonal))

-- the place of a cell tells its row and its column, and is below the number of cells
place_parts : (r c i j : ℕ) → i < r → j < c → (place r i j % r ≡ i) × (place r i j / r ≡ j) × (place r i j < r * c)
place_parts r c i j p q = grind (arith, mod-mul-add j r i p, div-mul-add j r i p, cell_lt r c i j p q)

ends_from_number_lem : (r c : ℕ) (flags : List ℕ) (i j : ℕ) (s : Side) → i < r → j < c
    → ends_from_number r c flags (edge_number r c i j s) ≡ ends (zigzag (get_or flags (place r i j) 0)) i j s
ends_from_number_lem r c flags i j Left p q = grind (arith, nat_tests, place_parts r (c + 1) i j)
ends_from_number_lem r c flags i j Right p q = grind (arith, nat_tests, place_parts r (c + 1) i (j + 1))
ends_from_number_lem r c flags i j Top p q = grind (arith, nat_tests, place_parts (r + 1) c i j)
ends_from_number_lem r c flags i j Bottom p q = grind (arith, nat_tests, place_parts (r + 1) c (i + 1) j)
ends_from_number_lem r c flags i j Diagonal p q = grind (arith, nat_tests, place_parts r c i j)

-- the number read off two points: the sum of their rows or columns is odd where these differ, and half the sums is the cell
-- of which they are the ends of the top, the left side or the diagonal
abbrev number_from_ends : ℕ → ℕ → Point → Point → ℕ
number_from_ends r c p q =
    let u = p.0 + q.0 in
    let v = p.1 + q.1 in
    edge_number r c (u / 2) (v / 2) (cond (eqb (u % 2) 0) Top (cond (eqb (v % 2) 0) Left Diagonal))

number_from_ends_lem : (r c : ℕ) (z : Bool) (i j : ℕ) (s : Side)
    → number_from_ends r c (ends z i j s).0 (ends z i j s).1 ≡ edge_number r c i j s
number_from_ends_lem r c z i j s = grind (arith, nat_tests, add-mul j 1 r)

-- the order of the two points does not count
number_from_same_pair : (r c : ℕ) {p q p' q' : Point} → SamePair p q p' q' → number_from_ends r c p q ≡ number_from_ends r c p' q'
number_from_same_pair r c h = grind arith

-- two pairs that are the same as a third are the same
same_as_third : {p q p' q' x y : Point} → SamePair p q x y → SamePair p' q' x y → SamePair p q p' q'
same_as_third h k = grind arith

-- of a side that converts to n
module _ {r c : ℕ} (flags : List ℕ) (s : TriangleSide r c) (n : ℕ) (converts : ConvertsTo flags s n) where
  number_is : edge_number r c s.row s.column (side (zigzag_at flags s) s.left s.which) ≡ n
  number_is = cc

  joins_ends_from_number : Joins flags s (ends_from_number r c flags n).0 (ends_from_number r c flags n).1
  joins_ends_from_number =
      rw (← number_is, ends_from_number_lem r c flags _ _ _ s.row_lt s.column_lt)
      (corners_are_ends _ _ _ s.left _ s.which_lt)

  number_from_points : number_from_ends r c (point_at flags s s.which) (point_at flags s ((s.which + 1) % 3)) ≡ n
  number_from_points =
      number_from_same_pair r c (corners_are_ends _ _ (zigzag_at flags s) s.left _ s.which_lt)
      ∙ number_from_ends_lem r c _ _ _ _ ∙ number_is

pub equal_numbers_join_equal_points : EqualNumbersJoinEqualPoints
equal_numbers_join_equal_points r c flags s t m n es et = (
  λ e. same_as_third (joins_ends_from_number flags s m es) (rw e (joins_ends_from_number flags t n et)),
  λ h. sym (number_from_points flags s m es) ∙ number_from_same_pair r c h ∙ number_from_points flags t n et,
)

pub each_seam_carries_one_number : EachSeamCarriesOneNumber
each_seam_carries_one_number r c flags p q (s, h) =
    (_, ((s, (h, refl)), λ m (t, (k, e)). (equal_numbers_join_equal_points r c flags t s m _ e refl).1 (same_as_third k h)))
