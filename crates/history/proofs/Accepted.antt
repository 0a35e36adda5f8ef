-- What an accepted setting of a status leaves, and what an accepted making has checked.
-- Assumes nothing.
use Rattle.std.proofs.Common.{◌≡◌, ℕ, ◌-◌, ◌*◌, ◌^◌, ◌<◌, cond, ◌&&◌, eqb, List, length, set, None, arith}
use Rattle.math.specs.Scales.{scale_refusal}
use Rattle.math.specs.declared.vector.Vector.{Vector}
use Rattle.numbering.specs.Numbers.{size_refusal}
use Rattle.shape.specs.Grids.{making_refusal}
use Rattle.shape.specs.Tables.{byte_at, setting_refusal, status_refusal}
use Rattle.std.proofs.lemmas.List.{get_or-set_same, get_or-set_other}
use Rattle.std.proofs.lemmas.Bool.Decides.{nat_tests}
use Rattle.utils.proofs.Errors.{both_pass}
use Rattle.utils.proofs.Tables.{place_tells}
use Rattle.utils.specs.Tables.{place, length_refusal, index_refusal}

-- ---- settings

-- an accepted setting is of a cell of the grid
pub setting_inside :
    (r c : ℕ) (flags : List ℕ) (i j byte : ℕ) → setting_refusal r c flags i j byte ≡ None → (i < r) × (j < c)
setting_inside r c flags i j byte h =
    let read = (both_pass (status_refusal r c flags i j) _ h).0 in
    let on : index_refusal r c i j ≡ None = (both_pass (length_refusal r c (length flags)) _ read).1 in
    grind (arith, nat_tests)

-- what is written at one cell is read there, and every other cell reads as before
pub read_back :
    (r : ℕ) (flags : List ℕ) (row column byte i j : ℕ) → row < r → i < r → place r row column < length flags
    → byte_at r (set flags (place r row column) byte) i j ≡ cond (eqb row i && eqb column j) byte (byte_at r flags i j)
read_back r flags row column byte i j row_lt i_lt within =
    let here = get_or-set_same flags (place r row column) byte 0 within in
    let there = get_or-set_other flags (place r row column) (place r i j) byte 0 in
    let told = place_tells r i j row column i_lt row_lt in
    grind (arith, nat_tests)

-- ---- makings

-- what the checks of an accepted making tell
pub record Checked (rows columns cells : ℕ) (scale : Vector) : Type 0 where
  pub some_rows : 0 < rows - 1
  pub few_rows : rows - 1 < 2 ^ 24
  pub some_columns : 0 < columns - 1
  pub few_columns : columns - 1 < 2 ^ 24
  pub table : cells ≡ (rows - 1) * (columns - 1)
  pub ranged : scale_refusal scale ≡ None

pub making_checked :
    (rows columns points cells : ℕ) (scale : Vector) → making_refusal rows columns points cells scale ≡ None
    → Checked rows columns cells scale
making_checked rows columns points cells scale h =
    let size = both_pass (size_refusal rows columns) _ h in
    let lengths = both_pass (length_refusal rows columns points) _ size.1 in
    let table = both_pass (length_refusal (rows - 1) (columns - 1) cells) _ lengths.1 in
    let sized : size_refusal rows columns ≡ None = size.0 in
    let counted : length_refusal (rows - 1) (columns - 1) cells ≡ None = table.0 in
    record {
      some_rows = grind (arith, nat_tests);
      few_rows = grind (arith, nat_tests);
      some_columns = grind (arith, nat_tests);
      few_columns = grind (arith, nat_tests);
      table = grind (arith, nat_tests);
      ranged = table.1;
    }
