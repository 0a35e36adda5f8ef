-- The numbers of triangles, faces, vertices and edges of a grid with r rows and c columns of cells.
-- There are r + 1 rows and c + 1 columns of points.
-- Assumes nothing.
use Rattle.std.specs.Prelude.{ℕ, ◌+◌, ◌-◌, ◌*◌, ◌/◌, ◌%◌, ◌^◌, Bool, true, false, cond, ◌||◌, ◌==◌, nat_lt, Some, None, Option}
use Rattle.std.specs.Option.{option_or}
use Rattle.utils.specs.Tables.{index_refusal}
use Rattle.cells.specs.Cells.{rows_past, columns_past, corner, side}
use Rattle.cells.specs.declared.cell.Corner.{Corner}
use Rattle.cells.specs.declared.cell.Side.{Side}
use Rattle.cells.specs.declared.cell.Side.TheVariants.{Left, Right, Top, Bottom, Diagonal}
use Rattle.cells.specs.declared.feature_id.FeatureId.{FeatureId}
use Rattle.cells.specs.declared.feature_id.FeatureId.TheVariants.{Vertex, Edge, Face, Unknown}
use Rattle.cells.specs.declared.vids.TriangleVids.{TriangleVids}
use Rattle.utils.specs.declared.error.HeightFieldError.{HeightFieldError}
use Rattle.utils.specs.declared.error.HeightFieldError.TheVariants.{TooFewPoints, TooManyPoints, InvalidLocalIndex}

-- the first check that a grid of that many rows and columns of points fails: too few, then too many
abbrev pub size_refusal : ℕ → ℕ → Option HeightFieldError
size_refusal rows columns =
    cond (nat_lt rows 2 || nat_lt columns 2) (Some TooFewPoints)
    (cond (nat_lt (2 ^ 24) rows || (nat_lt (2 ^ 24) columns || nat_lt (2 ^ 28) (rows * columns))) (Some TooManyPoints) None)

-- the left or the right triangle of the cell (i, j)
abbrev pub triangle_number : ℕ → ℕ → ℕ → ℕ → Bool → ℕ
triangle_number r c i j true = j * r + i
triangle_number r c i j false = j * r + i + r * c

-- the triangle's front or back face
abbrev pub face_number : ℕ → ℕ → ℕ → ℕ → Bool → Bool → ℕ
face_number r c i j left true = triangle_number r c i j left
face_number r c i j left false = triangle_number r c i j left + 2 * (r * c)

-- whether a triangle's number is that of a left one, and its place among the left or the right ones
abbrev pub is_left : ℕ → ℕ → ℕ → Bool
is_left r c n = nat_lt n (r * c)

abbrev pub among_side : ℕ → ℕ → ℕ → ℕ
among_side r c n = cond (is_left r c n) n (n - r * c)

-- the row and the column of the cell that a triangle's number names
abbrev pub row_of : ℕ → ℕ → ℕ → ℕ
row_of r c n = among_side r c n % r

abbrev pub column_of : ℕ → ℕ → ℕ → ℕ
column_of r c n = among_side r c n / r

-- the grid point (i, j)
abbrev pub vertex_number : ℕ → ℕ → ℕ → ℕ
vertex_number r i j = i + j * (r + 1)

-- a corner of the cell (i, j)
abbrev pub corner_number : ℕ → ℕ → ℕ → Corner → ℕ
corner_number r i j p = vertex_number r (i + rows_past p) (j + columns_past p)

-- a side of the cell (i, j): first all that run along a column, then all that run along a row, then the diagonals
abbrev pub edge_number : ℕ → ℕ → ℕ → ℕ → Side → ℕ
edge_number r c i j Left = i + j * r
edge_number r c i j Right = i + j * r + r
edge_number r c i j Top = r * (c + 1) + (i + j * (r + 1))
edge_number r c i j Bottom = r * (c + 1) + (i + j * (r + 1)) + 1
edge_number r c i j Diagonal = r * (c + 1) + (r + 1) * c + (i + j * r)

-- the vertex numbers of a triangle
abbrev pub vids_of : ℕ → Bool → ℕ → ℕ → Bool → TriangleVids
vids_of r zigzag i j left =
    record {
      a = corner_number r i j (corner zigzag left 0);
      b = corner_number r i j (corner zigzag left 1);
      c = corner_number r i j (corner zigzag left 2);
    }

-- the local numbers of a triangle's vertices and edges are 0, 1 and 2
abbrev pub local_number : FeatureId → Bool
local_number (Vertex k) = nat_lt k 3
local_number (Edge k) = nat_lt k 3
local_number (Face k) = true
local_number Unknown = true

-- of a local number above 2
abbrev pub local_refusal : FeatureId → Option HeightFieldError
local_refusal fid = cond (local_number fid) None (Some InvalidLocalIndex)

-- the first check that a conversion fails: off the grid, then the local number
abbrev pub conversion_refusal : ℕ → ℕ → ℕ → ℕ → FeatureId → Option HeightFieldError
conversion_refusal r c i j fid = option_or (index_refusal r c i j) (local_refusal fid)

-- the number in the whole grid of a triangle's own vertex, edge or face
abbrev pub converted : ℕ → ℕ → Bool → ℕ → ℕ → Bool → FeatureId → FeatureId
converted r c zigzag i j left (Vertex k) = Vertex (corner_number r i j (corner zigzag left k))
converted r c zigzag i j left (Edge k) = Edge (edge_number r c i j (side zigzag left k))
converted r c zigzag i j left (Face k) = Face (face_number r c i j left (k == 0))
converted r c zigzag i j left Unknown = Unknown
