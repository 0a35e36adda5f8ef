-- The rings of cells round a cell (ci, cj), and their triangles in the order of a walk.
-- Ring k is a square of 2k + 1 by 2k + 1 cells without its inside: it starts at (ci - k, cj - k) and has 2k places with the row
-- rising, 2k with the column rising, 2k with the row falling and 2k with the column falling. Ring 0 is the cell alone.
-- Assumes nothing.
use Rattle.std.specs.Prelude.{ℕ, zero, suc, ◌+◌, ◌-◌, ◌*◌, max, Bool, cond, ◌&&◌, List, [], ◌++◌, Some, None, Option, nat_le, nat_lt}
use Rattle.search.specs.BoxLists.{cell_list, from_on}
use Rattle.search.specs.Triangles.{corners_at}
use Rattle.shape.specs.Grids.{Grid}
use Rattle.takers.specs.declared.triangle.NumberedTriangle.{NumberedTriangle}
use Rattle.rings.specs.declared.place.RingSide.{RingSide}
use Rattle.rings.specs.declared.place.RingSide.TheVariants.{RowRising, ColumnRising, RowFalling, ColumnFalling}

-- how many places a side of ring k has
abbrev pub side_length : ℕ → RingSide → ℕ
side_length zero RowRising = 1
side_length zero ColumnRising = 0
side_length zero RowFalling = 0
side_length zero ColumnFalling = 0
side_length (suc k) side = 2 * suc k

-- the row and the column of a place of ring k, each counted from k before the grid's first, so that none is negative
abbrev pub place_of : ℕ → ℕ → ℕ → RingSide → ℕ → ℕ × ℕ
place_of ci cj k RowRising step = (ci + step, cj)
place_of ci cj k ColumnRising step = (ci + 2 * k, cj + step)
place_of ci cj k RowFalling step = (ci + 2 * k - step, cj + 2 * k)
place_of ci cj k ColumnFalling step = (ci, cj + 2 * k - step)

-- whether a place so counted is a cell of a grid of r rows and c columns
abbrev pub on_grid : ℕ → ℕ → ℕ → ℕ × ℕ → Bool
on_grid r c k p = nat_le k p.0 && (nat_lt p.0 (r + k) && (nat_le k p.1 && nat_lt p.1 (c + k)))

-- the farthest ring that has a cell of the grid
abbrev pub farthest_ring : ℕ → ℕ → ℕ → ℕ → ℕ
farthest_ring r c ci cj = max (max ci (r - 1 - ci)) (max cj (c - 1 - cj))

-- where the walk goes on after a side of ring k: at the next side, or at the next ring, if it is not past the last
abbrev pub side_after : ℕ → RingSide → ℕ → Option (ℕ × RingSide)
side_after k RowRising last = Some (k, ColumnRising)
side_after k ColumnRising last = Some (k, RowFalling)
side_after k RowFalling last = Some (k, ColumnFalling)
side_after k ColumnFalling last = cond (nat_lt k last) (Some (k + 1, RowRising)) None

module _ (g : Grid) (flags : List ℕ) where
  -- the standing triangles of the cell at a place of ring k, the left one first; none off the grid
  abbrev pub place_list : ℕ → ℕ × ℕ → List NumberedTriangle
  place_list k p =
      cond (on_grid g.rows g.columns k p) (cell_list g flags (corners_at g (p.0 - k) (p.1 - k)) (p.0 - k) (p.1 - k)) []

  module _ (ci cj : ℕ) where
    -- those of a side of ring k, from a step on
    abbrev pub side_from : ℕ → RingSide → ℕ → List NumberedTriangle
    side_from k side step = from_on (λ t. place_list k (place_of ci cj k side t)) step (side_length k side - step)

    -- those of the sides of ring k after a side
    abbrev pub sides_after : ℕ → RingSide → List NumberedTriangle
    sides_after k RowRising = side_from k ColumnRising 0 ++ (side_from k RowFalling 0 ++ side_from k ColumnFalling 0)
    sides_after k ColumnRising = side_from k RowFalling 0 ++ side_from k ColumnFalling 0
    sides_after k RowFalling = side_from k ColumnFalling 0
    sides_after k ColumnFalling = []

    -- those of ring k from a step of a side on
    abbrev pub ring_from : ℕ → RingSide → ℕ → List NumberedTriangle
    ring_from k side step = side_from k side step ++ sides_after k side

    -- those of ring k
    abbrev pub ring_of : ℕ → List NumberedTriangle
    ring_of k = ring_from k RowRising 0

    -- those of the rings from k up to the last, each ring after the one before
    abbrev pub rings_between : ℕ → ℕ → List NumberedTriangle
    rings_between k last = from_on ring_of k (last + 1 - k)

    -- those of the rings 0 up to the last
    abbrev pub rings_up_to : ℕ → List NumberedTriangle
    rings_up_to last = rings_between 0 last

    -- those of all rings
    abbrev pub unlimited_rings : List NumberedTriangle
    unlimited_rings = rings_up_to (farthest_ring g.rows g.columns ci cj)
