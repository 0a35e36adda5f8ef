-- Every triangle draws a point of the grid at that point's one spot, and a vertex number tells its point.
-- Assumes nothing.
use Rattle.std.proofs.Common.{◌≡◌, ℕ, ◌+◌, ◌<◌, ◌≤◌, Bool, true, List, Some, sym, refl, ap, ◌∙◌, add-zero, arith}
use base.Stored.{Coded-set}
use mathlib.Core.Logic.{∥∥₁_elim, ∥∥₁_map}
use Rattle.cells.specs.Cells.{rows_past, columns_past, corner}
use Rattle.cells.specs.Statuses.{zigzag}
use Rattle.cells.specs.declared.cell.Corner.{Corner}
use Rattle.cells.specs.declared.cell.Corner.TheVariants.{P00, P10, P01, P11}
use Rattle.cells.specs.declared.vids.TriangleVids.{TriangleVids}
use Rattle.math.specs.contracts.vector.Vector.{the_row}
use Rattle.math.specs.declared.vector.Vector.{Vector}
use Rattle.numbering.specs.Numbers.{triangle_number, vertex_number, corner_number, vids_of}
use Rattle.search.specs.Corners.{corner_of, triangle_of}
use Rattle.search.specs.Triangles.{scaled_by, line_of, corners_at}
use Rattle.search.specs.declared.corners.CellCorners.{CellCorners}
use Rattle.shape.specs.Grids.{Grid, height_at}
use Rattle.shape.specs.Tables.{byte_at, standing, vids_at, vids_by_id}
use Rattle.takers.specs.declared.triangle.NumberedTriangle.{NumberedTriangle}
use Rattle.utils.proofs.Tables.{place_tells}
use Rattle.walk_laws.proofs.WalkedCells.{row_of_number, column_of_number, left_of_number, standing_inside}
use Rattle.walk_laws.specs.RingNumbers.{RingsHoldEachOnce}
use Rattle.walk_laws.specs.SharedVertices.{InSomeWalk, by_columns, by_rings, vertex_at, corner_at, SharedVerticesAreInOneSpot}
use Rattle.walk_laws.specs.Walked.{StandingOf, ColumnsHoldEachOnce}

-- ---- spots

-- where the point (i, j) is drawn
abbrev spot : Grid → ℕ → ℕ → Vector
spot g i j = scaled_by g.scale (line_of g.columns j) (height_at g i j) (line_of g.rows i)

corner_spot : (g : Grid) (i j : ℕ) (p : Corner) → corner_of (corners_at g i j) p ≡ spot g (i + rows_past p) (j + columns_past p)
corner_spot g i j P00 = rw (add-zero i, add-zero j)
corner_spot g i j P10 = rw (add-zero j)
corner_spot g i j P01 = rw (add-zero i)
corner_spot g i j P11 = refl

-- the corner k of a triangle, by its number and by its coordinates
vertex_of : (r : ℕ) (z : Bool) (i j : ℕ) (left : Bool) (k : ℕ) → k < 3
    → vertex_at (vids_of r z i j left) k ≡ corner_number r i j (corner z left k)
vertex_of r z i j left k h = grind arith

corner_of_lem : (q : CellCorners) (z left : Bool) (k : ℕ) → k < 3 → corner_at (triangle_of q z left) k ≡ corner_of q (corner z left k)
corner_of_lem q z left k h = grind arith

-- n is the number of a point of the grid, and x is its spot
record Drawn (g : Grid) (n : ℕ) (x : Vector) : Type 0 where
  row : ℕ
  column : ℕ
  within : row ≤ g.rows
  number : n ≡ vertex_number g.rows row column
  is : x ≡ spot g row column

drawn_once : (g : Grid) (m n : ℕ) (x y : Vector) → Drawn g m x → Drawn g n y → m ≡ n → x ≡ y
drawn_once g m n x y p q e =
    let numbers = sym p.number ∙ e ∙ q.number in
    let same = place_tells (g.rows + 1) p.row p.column q.row q.column (omega (arith, p.within)) (omega (arith, q.within)) numbers in
    p.is ∙ rw (same.0, same.1) (sym q.is)

-- ---- standing triangles

-- a standing triangle's number has the vertex numbers of its corners
standing_vids :
    (g : Grid) (flags : List ℕ) (i j : ℕ) (left : Bool) → standing g.rows g.columns flags i j left ≡ true
    → vids_by_id g.rows g.columns flags (triangle_number g.rows g.columns i j left)
    ≡ Some (vids_of g.rows (zigzag (byte_at g.rows flags i j)) i j left)
standing_vids g flags i j left h =
    let cell = standing_inside g flags i j left h in
    let row = row_of_number g.rows g.columns i j cell.0 cell.1 left in
    let column = column_of_number g.rows g.columns i j cell.0 cell.1 left in
    let side = left_of_number g.rows g.columns i j cell.0 cell.1 left in
    let n = triangle_number g.rows g.columns i j left in
    let same : vids_by_id g.rows g.columns flags n ≡ vids_at g.rows g.columns flags i j left = cc in
    same ∙ rw h

rows_past_few : (p : Corner) → rows_past p ≤ 1
rows_past_few p = grind arith

-- a standing triangle draws its corners at the spots of the points that its vertex numbers tell
standing_drawn :
    (g : Grid) (flags : List ℕ) (P : ℕ → ℕ → Type 0) (t : NumberedTriangle) → StandingOf g flags P t
    → (v : TriangleVids) → vids_by_id g.rows g.columns flags t.id ≡ Some v → (k : ℕ) → k < 3
    → Drawn g (vertex_at v k) (corner_at t.triangle k)
standing_drawn g flags P t s v e k h =
    let z = zigzag (byte_at g.rows flags s.row s.column) in
    let p = corner z s.left k in
    let cell = standing_inside g flags s.row s.column s.left s.stands in
    let few = rows_past_few p in
    let vids = standing_vids g flags s.row s.column s.left s.stands in
    let id = ap (λ u. vids_by_id g.rows g.columns flags u.id) s.is in
    let own : v ≡ vids_of g.rows z s.row s.column s.left = cc in
    record {
      row = s.row + rows_past p;
      column = s.column + columns_past p;
      within = omega arith;
      number = ap (λ u. vertex_at u k) own ∙ vertex_of g.rows z s.row s.column s.left k h;
      is =
          ap (λ u. corner_at u.triangle k) s.is
          ∙ corner_of_lem (corners_at g s.row s.column) z s.left k h
          ∙ corner_spot g s.row s.column p;
    }

-- ---- walks

module _ (g : Grid) (columns : ColumnsHoldEachOnce g) (rings : RingsHoldEachOnce g) where
  -- so does a triangle that comes up in a walk
  walked_drawn :
      (flags : List ℕ) (t : NumberedTriangle) → InSomeWalk g flags t
      → (v : TriangleVids) → vids_by_id g.rows g.columns flags t.id ≡ Some v → (k : ℕ) → k < 3
      → ∥ Drawn g (vertex_at v k) (corner_at t.triangle k) ∥₁
  walked_drawn flags t (by_columns m) v e k h =
      ∥∥₁_map ((columns flags).only t m) (λ s. standing_drawn g flags _ t s v e k h)
  walked_drawn flags t (by_rings ci cj last m) v e k h =
      ∥∥₁_map ((rings flags ci cj last).0.only t m) (λ s. standing_drawn g flags _ t s v e k h)

  pub one_spot : SharedVerticesAreInOneSpot g
  one_spot flags flags' s t p q v w e e' a b h h' same =
      let x = corner_at s.triangle a in
      let y = corner_at t.triangle b in
      ∥∥₁_elim (walked_drawn flags s p v e a h) (Coded-set the_row.coded x y) (λ d.
      ∥∥₁_elim (walked_drawn flags' t q w e' b h') (Coded-set the_row.coded x y) (λ d'.
      drawn_once g (vertex_at v a) (vertex_at w b) x y d d' same))
