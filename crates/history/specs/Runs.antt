-- Calls performed one after the other, and the triangles that they hand to a tally.
-- Assumes nothing.
use Rattle.std.specs.Prelude.{◌≡◌, ℕ, List, [], ◌∷◌, ◌++◌, take, fold, Float}
use Rattle.emptying.specs.ByNumber.{where_fits}
use Rattle.history.specs.Past.{State, Making, start, Step, Past, given_around}
use Rattle.history.specs.Law.{GridLaw}
use Rattle.history.specs.declared.call.Call.{Call}
use Rattle.history.specs.declared.call.Call.TheVariants.{SetCellStatus, SetScale, ConvertTriangleFeatureId, MapElementsInLocalAabb, Triangles, TrianglesAroundPoint, EmptyTriangles, EmptyTrianglesWithin, CellStatus, TriangleVidsAtId, TriangleAtId, CellAtPoint, RootAabb}
use Rattle.history.specs.declared.call.Event.{Event}
use Rattle.math.specs.declared.vector.Vector.{Vector}
use Rattle.rings.specs.Reaches.{rings_within}
use Rattle.search.specs.BoxLists.{visited}
use Rattle.shape.specs.Grids.{grid_of}
use Rattle.shape.specs.declared.heightfield3.HeightField.{HeightField}
use Rattle.takers.specs.declared.triangle.NumberedTriangle.{NumberedTriangle}
use Rattle.walks.specs.ColumnLists.{column_list}

-- a grid of the program with its table
abbrev pub state_of : HeightField → List ℕ → State
state_of g flags = record { grid = grid_of g; flags = flags }

-- the triangles that a call hands over
abbrev pub handed : State → Call → List NumberedTriangle
handed s (SetCellStatus row column status) = []
handed s (SetScale scale) = []
handed s (ConvertTriangleFeatureId row column left fid) = []
handed s (MapElementsInLocalAabb b) = visited s.grid s.flags b
handed s (Triangles times) = where_fits s.grid s.flags (take times (column_list s.grid s.flags))
handed s (TrianglesAroundPoint p reaches) = where_fits s.grid s.flags (given_around s p reaches.now)
handed s EmptyTriangles = where_fits s.grid s.flags (column_list s.grid s.flags)
handed s (EmptyTrianglesWithin p reach) = where_fits s.grid s.flags (rings_within s.grid s.flags p reach)
handed s (CellStatus row column) = []
handed s (TriangleVidsAtId id) = []
handed s (TriangleAtId id) = []
handed s (CellAtPoint p) = []
handed s RootAabb = []

-- the events from one state to another, the oldest first, and all that they hand over
pub data Run (s : State) : List Event → List NumberedTriangle → State → Type 0 where
  nothing : Run s [] [] s
  one_more :
      {es : List Event} {xs : List NumberedTriangle} {s' s'' : State} {e : Event} → Run s es xs s' → Step s' e s''
      → Run s (es ++ e ∷ []) (xs ++ handed s' e.call) s''

-- The events lead from one state to another, and what they hand over leads from one total to another.
pub record Performed
    {Total : Type 0} (adds : Total → NumberedTriangle → Total) (es : List Event) (s s' : State) (first last : Total) : Type 0 where
  pub triangles : List NumberedTriangle
  pub run : Run s es triangles s'
  pub total : last ≡ fold adds first triangles

-- Whatever came before, the events prolong the past, and the law holds at its end.
abbrev pub KeepsLaw : {Total : Type 0} → (Total → NumberedTriangle → Total) → List Event → State → State → Type 0
KeepsLaw adds performed s s' =
    (m : Making) (es : List Event) → Past m es s → Past m (es ++ performed) s' × GridLaw adds m (es ++ performed) s'

-- A heightfield that was made of these heights under that scale and has performed the events since: they are its past, the law holds at
-- its end, and what they handed over leads from one total to another.
pub record KeptSinceMaking
    {Total : Type 0} (adds : Total → NumberedTriangle → Total) (rows columns : ℕ) (heights : List Float) (cells : ℕ) (scale : Vector)
    (es : List Event) (s : State) (first last : Total) : Type 0 where
  pub making : Making
  pub of_these : (making.rows ≡ rows) × (making.columns ≡ columns) × (making.heights ≡ heights) × (making.cells ≡ cells) × (making.scale ≡ scale)
  pub performed : Performed adds es (start making) s first last
  pub past : Past making es s
  pub law : GridLaw adds making es s
