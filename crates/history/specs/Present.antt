-- What is present at the end of a past: each cell's last accepted setting, and the last granted scale.
-- Assumes nothing.
use Rattle.std.specs.Prelude.{ℕ, Bool, true, false, cond, ◌&&◌, List, is_ok, fold, ◌==◌, Some, None, Option}
use Rattle.history.specs.Past.{State, Making}
use Rattle.history.specs.declared.call.Answer.{Answer}
use Rattle.history.specs.declared.call.Answer.TheVariants.{Done, Feature, Given, Status, Vids, Drawn, Cell, BoundingBox}
use Rattle.history.specs.declared.call.Call.{Call}
use Rattle.history.specs.declared.call.Event.{Event}
use Rattle.history.specs.declared.call.Call.TheVariants.{SetCellStatus, SetScale, ConvertTriangleFeatureId, MapElementsInLocalAabb, Triangles, TrianglesAroundPoint, EmptyTriangles, EmptyTrianglesWithin, CellStatus, TriangleVidsAtId, TriangleAtId, CellAtPoint, RootAabb}
use Rattle.math.specs.declared.vector.Vector.{Vector}

-- an answer that grants what was asked for
abbrev pub grants : Answer → Bool
grants (Done r) = is_ok r
grants (Feature r) = false
grants (Given r) = false
grants (Status r) = false
grants (Vids r) = false
grants (Drawn r) = false
grants (Cell c) = false
grants (BoundingBox b) = false

-- a call that was answered so
abbrev pub granted : Option Answer → Bool
granted None = false
granted (Some answer) = grants answer

-- the byte of the cell (i, j) where a call was granted, from the byte before: another only where the call sets this cell's
abbrev pub byte_set_by : ℕ → ℕ → ℕ → Call → ℕ
byte_set_by i j byte (SetCellStatus row column status) = cond (row == i && column == j) status.0 byte
byte_set_by i j byte (SetScale scale) = byte
byte_set_by i j byte (ConvertTriangleFeatureId row column left fid) = byte
byte_set_by i j byte (MapElementsInLocalAabb b) = byte
byte_set_by i j byte (Triangles times) = byte
byte_set_by i j byte (TrianglesAroundPoint p reaches) = byte
byte_set_by i j byte EmptyTriangles = byte
byte_set_by i j byte (EmptyTrianglesWithin p reach) = byte
byte_set_by i j byte (CellStatus row column) = byte
byte_set_by i j byte (TriangleVidsAtId id) = byte
byte_set_by i j byte (TriangleAtId id) = byte
byte_set_by i j byte (CellAtPoint p) = byte
byte_set_by i j byte RootAabb = byte

-- the scale where a call was granted, from the scale before
abbrev pub scale_set_by : Vector → Call → Vector
scale_set_by old (SetCellStatus row column status) = old
scale_set_by old (SetScale scale) = scale
scale_set_by old (ConvertTriangleFeatureId row column left fid) = old
scale_set_by old (MapElementsInLocalAabb b) = old
scale_set_by old (Triangles times) = old
scale_set_by old (TrianglesAroundPoint p reaches) = old
scale_set_by old EmptyTriangles = old
scale_set_by old (EmptyTrianglesWithin p reach) = old
scale_set_by old (CellStatus row column) = old
scale_set_by old (TriangleVidsAtId id) = old
scale_set_by old (TriangleAtId id) = old
scale_set_by old (CellAtPoint p) = old
scale_set_by old RootAabb = old

-- the byte of the last accepted setting of the cell (i, j), or 0 from making
abbrev pub present_flag : List Event → ℕ → ℕ → ℕ
present_flag es i j = fold (λ byte e. cond (granted e.answer) (byte_set_by i j byte e.call) byte) 0 es

-- the last scale that was granted, or that of making
abbrev pub present_scale : Making → List Event → Vector
present_scale m es = fold (λ scale e. cond (granted e.answer) (scale_set_by scale e.call) scale) m.scale es

-- the scale and the statuses of a state
abbrev pub moment_of : State → Vector × List ℕ
moment_of s = (s.grid.scale, s.flags)

-- an event that may move the moment: a setting or a rescaling
abbrev pub settles : Call → Bool
settles (SetCellStatus row column status) = true
settles (SetScale scale) = true
settles (ConvertTriangleFeatureId row column left fid) = false
settles (MapElementsInLocalAabb b) = false
settles (Triangles times) = false
settles (TrianglesAroundPoint p reaches) = false
settles EmptyTriangles = false
settles (EmptyTrianglesWithin p reach) = false
settles (CellStatus row column) = false
settles (TriangleVidsAtId id) = false
settles (TriangleAtId id) = false
settles (CellAtPoint p) = false
settles RootAabb = false
