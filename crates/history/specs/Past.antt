-- The past of a grid: what was called since it was made, and what was answered.
-- Assumes nothing.
use Rattle.std.specs.Prelude.{◌≡◌, ℕ, Bool, List, [], ◌∷◌, ◌++◌, length, take, replicate, Some, None, Option, Result, Float}
use Rattle.std.specs.Borrow.{Bor}
use Rattle.cells.specs.declared.feature_id.FeatureId.{FeatureId}
use Rattle.cells.specs.declared.status.HeightFieldCellStatus.{HeightFieldCellStatus}
use Rattle.cells.specs.declared.vids.TriangleVids.{TriangleVids}
use Rattle.history.specs.declared.call.Answer.{Answer}
use Rattle.history.specs.declared.call.Answer.TheVariants.{Done, Feature, Given, Status, Vids, Drawn, Cell, BoundingBox}
use Rattle.history.specs.declared.call.Call.{Call}
use Rattle.history.specs.declared.call.Event.{Event}
use Rattle.history.specs.declared.call.Call.TheVariants.{SetCellStatus, SetScale, ConvertTriangleFeatureId, MapElementsInLocalAabb, Triangles, TrianglesAroundPoint, EmptyTriangles, EmptyTrianglesWithin, CellStatus, TriangleVidsAtId, TriangleAtId, CellAtPoint, RootAabb}
use Rattle.math.specs.Scales.{scale_refusal}
use Rattle.math.specs.declared.aabb.Aabb.{Aabb}
use Rattle.math.specs.declared.triangle.Triangle.{Triangle}
use Rattle.math.specs.declared.vector.Vector.{Vector}
use Rattle.points.specs.Points.{cell_at, closest_cell}
use Rattle.rings.specs.RingLists.{ring_of}
use Rattle.rings.specs.declared.reach.Reach.{Reach}
use Rattle.search.specs.Triangles.{triangle_by_id}
use Rattle.shape.specs.Grids.{Grid, made, making_refusal, rescaling_leaves}
use Rattle.shape.specs.Tables.{table_refusal, byte_at, status_refusal, setting_refusal, setting_leaves, vids_by_id, convert_refusal, converted_at}
use Rattle.takers.specs.declared.triangle.NumberedTriangle.{NumberedTriangle}
use Rattle.utils.specs.Errors.{Answers}
use Rattle.utils.specs.declared.error.HeightFieldError.{HeightFieldError}
use Rattle.walk_laws.specs.Reaching.{given}
use Rattle.walks.specs.ColumnLists.{column_list}

-- a grid and its table of statuses
pub record State : Type 0 where
  pub grid : Grid
  pub flags : List ℕ

-- a making that is accepted, of a grid of that many rows and columns of points, with a table of so many cells
pub record Making : Type 0 where
  pub rows : ℕ
  pub columns : ℕ
  pub heights : List Float
  pub cells : ℕ
  pub scale : Vector
  pub accepted : making_refusal rows columns (length heights) cells scale ≡ None

-- what it makes
abbrev pub start : Making → State
start m = record { grid = made m.rows m.columns m.heights m.scale; flags = replicate m.cells 0 }

-- a call and what was answered
abbrev pub answered : Call → Answer → Event
answered call answer = record { call = call; answer = Some answer }

-- what a walk around a point gives that is asked with one reach after the other
abbrev pub given_around : State → Vector → List Reach → List NumberedTriangle
given_around s p reaches =
    let center = closest_cell s.grid p in
    given s.grid s.flags center.0 center.1 reaches 0 (ring_of s.grid s.flags center.0 center.1 0)

-- What each call answers in a state, and the state that it leaves.
pub data Step (s : State) : Event → State → Type 0 where
  sets_status :
      (i j : ℕ) (status : HeightFieldCellStatus) (r : Result (Unit {0}) HeightFieldError)
      → Answers r (setting_refusal s.grid.rows s.grid.columns s.flags i j status.0) (λ _. Unit {0})
      → Step s (answered (SetCellStatus i j status) (Done r))
      (record { grid = s.grid; flags = setting_leaves s.grid.rows s.grid.columns s.flags i j status.0 })
  rescales :
      (scale : Vector) (r : Result (Unit {0}) HeightFieldError) → Answers r (scale_refusal scale) (λ _. Unit {0})
      → Step s (answered (SetScale scale) (Done r)) (record { grid = rescaling_leaves s.grid scale; flags = s.flags })
  converts :
      (i j : ℕ) (left : Bool) (fid : FeatureId) (r : Result FeatureId HeightFieldError)
      → Answers r (convert_refusal s.grid.rows s.grid.columns s.flags i j fid)
      (λ f. f ≡ converted_at s.grid.rows s.grid.columns s.flags i j left fid)
      → Step s (answered (ConvertTriangleFeatureId i j left fid) (Feature r)) s
  searches_box :
      (b : Aabb) (r : Result (Unit {0}) HeightFieldError) → Answers r (table_refusal s.grid s.flags) (λ _. Unit {0})
      → Step s (answered (MapElementsInLocalAabb b) (Done r)) s
  walks_columns :
      (times : ℕ) (r : Result ℕ HeightFieldError)
      → Answers r (table_refusal s.grid s.flags) (λ n. n ≡ length (take times (column_list s.grid s.flags)))
      → Step s (answered (Triangles times) (Given r)) s
  walks_around :
      (p : Vector) (reaches : Bor (List Reach)) (r : Result ℕ HeightFieldError)
      → Answers r (table_refusal s.grid s.flags) (λ n. n ≡ length (given_around s p reaches.now))
      → Step s (answered (TrianglesAroundPoint p reaches) (Given r)) s
  empties_columns :
      (r : Result (Unit {0}) HeightFieldError) → Answers r (table_refusal s.grid s.flags) (λ _. Unit {0}) → Step s (answered EmptyTriangles (Done r)) s
  empties_rings :
      (p : Vector) (reach : Reach) (r : Result (Unit {0}) HeightFieldError) → Answers r (table_refusal s.grid s.flags) (λ _. Unit {0})
      → Step s (answered (EmptyTrianglesWithin p reach) (Done r)) s
  asks_status :
      (i j : ℕ) (r : Result HeightFieldCellStatus HeightFieldError)
      → Answers r (status_refusal s.grid.rows s.grid.columns s.flags i j) (λ b. b.0 ≡ byte_at s.grid.rows s.flags i j)
      → Step s (answered (CellStatus i j) (Status r)) s
  asks_vids :
      (id : ℕ) (r : Result (Option TriangleVids) HeightFieldError)
      → Answers r (table_refusal s.grid s.flags) (λ v. v ≡ vids_by_id s.grid.rows s.grid.columns s.flags id)
      → Step s (answered (TriangleVidsAtId id) (Vids r)) s
  asks_triangle :
      (id : ℕ) (r : Result (Option Triangle) HeightFieldError)
      → Answers r (table_refusal s.grid s.flags) (λ t. t ≡ triangle_by_id s.grid s.flags id) → Step s (answered (TriangleAtId id) (Drawn r)) s
  asks_cell : (p : Vector) → Step s (answered (CellAtPoint p) (Cell (cell_at s.grid p))) s
  asks_box : Step s (answered RootAabb (BoundingBox s.grid.box)) s

-- the events since a making, the oldest first, and the state that they end in
pub data Past (m : Making) : List Event → State → Type 0 where
  begins : Past m [] (start m)
  goes_on : {es : List Event} {s s' : State} {e : Event} → Past m es s → Step s e s' → Past m (es ++ e ∷ []) s'
