-- The status table of a grid with r rows and c columns of cells, and what is read from it.
-- Assumes nothing.
use Rattle.std.specs.Prelude.{ℕ, Bool, cond, not, ◌&&◌, List, length, Some, None, Option, nat_lt, slice_index, slice_set}
use Rattle.std.specs.Option.{is_none, option_map, option_or}
use Rattle.utils.specs.Tables.{place, inside, length_refusal, entry_refusal}
use Rattle.numbering.specs.Numbers.{vids_of, row_of, column_of, is_left, local_refusal, converted}
use Rattle.cells.specs.Statuses.{zigzag, removed}
use Rattle.cells.specs.declared.feature_id.FeatureId.{FeatureId}
use Rattle.cells.specs.declared.vids.TriangleVids.{TriangleVids}
use Rattle.shape.specs.Grids.{Grid}
use Rattle.utils.specs.declared.error.HeightFieldError.{HeightFieldError}
use Rattle.utils.specs.declared.error.HeightFieldError.TheVariants.{InvalidStatus}

-- of a table of a wrong length
abbrev pub table_refusal : Grid → List ℕ → Option HeightFieldError
table_refusal g flags = length_refusal g.rows g.columns (length flags)

-- the status byte of the cell (i, j)
abbrev pub byte_at : ℕ → List ℕ → ℕ → ℕ → ℕ
byte_at r flags i j = slice_index flags (place r i j)

-- the first check that reading a status fails: the length of the table, then the cell
abbrev pub status_refusal : ℕ → ℕ → List ℕ → ℕ → ℕ → Option HeightFieldError
status_refusal r c flags i j = entry_refusal r c (length flags) i j

-- the first check that setting a status fails: those of reading it, then a byte above 7
abbrev pub setting_refusal : ℕ → ℕ → List ℕ → ℕ → ℕ → ℕ → Option HeightFieldError
setting_refusal r c flags i j byte = option_or (status_refusal r c flags i j) (cond (nat_lt byte 8) None (Some InvalidStatus))

-- the table after a setting: as it was where the setting is refused
abbrev pub setting_leaves : ℕ → ℕ → List ℕ → ℕ → ℕ → ℕ → List ℕ
setting_leaves r c flags i j byte = cond (is_none (setting_refusal r c flags i j byte)) (slice_set flags (place r i j) byte) flags

-- a triangle of a cell of the grid that the cell's status does not remove
abbrev pub standing : ℕ → ℕ → List ℕ → ℕ → ℕ → Bool → Bool
standing r c flags i j left = inside r c i j && not (removed (byte_at r flags i j) left)

-- whether a standing triangle has the zigzag pattern; none of any other
abbrev pub pattern_at : ℕ → ℕ → List ℕ → ℕ → ℕ → Bool → Option Bool
pattern_at r c flags i j left = cond (standing r c flags i j left) (Some (zigzag (byte_at r flags i j))) None

-- the same in a cell of that status
abbrev pub pattern_of : ℕ → Bool → Option Bool
pattern_of byte left = cond (removed byte left) None (Some (zigzag byte))

-- the vertex numbers of a standing triangle; none of any other
abbrev pub vids_at : ℕ → ℕ → List ℕ → ℕ → ℕ → Bool → Option TriangleVids
vids_at r c flags i j left = option_map (λ z. vids_of r z i j left) (pattern_at r c flags i j left)

-- the same of a triangle by its number
abbrev pub vids_by_id : ℕ → ℕ → List ℕ → ℕ → Option TriangleVids
vids_by_id r c flags n = vids_at r c flags (row_of r c n) (column_of r c n) (is_left r c n)

-- the first check that a conversion fails: those of reading the status, then the local number
abbrev pub convert_refusal : ℕ → ℕ → List ℕ → ℕ → ℕ → FeatureId → Option HeightFieldError
convert_refusal r c flags i j fid = option_or (status_refusal r c flags i j) (local_refusal fid)

-- what a feature of a triangle is called in the whole grid
abbrev pub converted_at : ℕ → ℕ → List ℕ → ℕ → ℕ → Bool → FeatureId → FeatureId
converted_at r c flags i j left fid = converted r c (zigzag (byte_at r flags i j)) i j left fid
