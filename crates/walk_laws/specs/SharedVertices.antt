-- Walked triangles that share a vertex number share its coordinates.
-- Assumes nothing.
use Rattle.std.specs.Prelude.{◌≡◌, ℕ, zero, suc, ◌<◌, List, Some}
use mathlib.Core.List.{Mem}
use Rattle.cells.specs.declared.vids.TriangleVids.{TriangleVids}
use Rattle.math.specs.declared.triangle.Triangle.{Triangle}
use Rattle.math.specs.declared.vector.Vector.{Vector}
use Rattle.rings.specs.RingLists.{rings_up_to}
use Rattle.shape.specs.Grids.{Grid}
use Rattle.shape.specs.Tables.{vids_by_id}
use Rattle.takers.specs.declared.triangle.NumberedTriangle.{NumberedTriangle}
use Rattle.walks.specs.ColumnLists.{column_list}

-- t comes up in a walk by columns, or in a walk by rings round some cell up to some ring
pub data InSomeWalk (g : Grid) (flags : List ℕ) (t : NumberedTriangle) : Type 0 where
  by_columns : Mem t (column_list g flags) → InSomeWalk g flags t
  by_rings : (ci cj last : ℕ) → Mem t (rings_up_to g flags ci cj last) → InSomeWalk g flags t

-- the corner k of a triangle, from 0 to 2: its vertex number and its coordinates
abbrev pub vertex_at : TriangleVids → ℕ → ℕ
vertex_at v zero = v.a
vertex_at v (suc zero) = v.b
vertex_at v (suc (suc k)) = v.c

abbrev pub corner_at : Triangle → ℕ → Vector
corner_at t zero = t.a
corner_at t (suc zero) = t.b
corner_at t (suc (suc k)) = t.c

-- two walked triangles, of a grid each, that share a vertex number share its coordinates
abbrev pub ShareSpots : Grid → List ℕ → Grid → List ℕ → Type 0
ShareSpots g flags g' flags' =
    (s t : NumberedTriangle) → InSomeWalk g flags s → InSomeWalk g' flags' t
    → (v w : TriangleVids) → vids_by_id g.rows g.columns flags s.id ≡ Some v
    → vids_by_id g'.rows g'.columns flags' t.id ≡ Some w
    → (a b : ℕ) → a < 3 → b < 3 → vertex_at v a ≡ vertex_at w b → corner_at s.triangle a ≡ corner_at t.triangle b

-- so it is on one grid, whatever the statuses of either walk
abbrev pub SharedVerticesAreInOneSpot : Grid → Type 0
SharedVerticesAreInOneSpot g = (flags flags' : List ℕ) → ShareSpots g flags g flags'
