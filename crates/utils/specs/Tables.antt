-- A table of rows and columns, which lies in a list column after column.
-- Assumes nothing.
use Rattle.std.specs.Prelude.{ℕ, ◌+◌, ◌*◌, Bool, cond, ◌&&◌, List, length, ◌==◌, nat_lt, slice_set, Some, None, Option}
use Rattle.std.specs.Option.{is_none, option_or}
use Rattle.utils.specs.declared.error.HeightFieldError.{HeightFieldError}
use Rattle.utils.specs.declared.error.HeightFieldError.TheVariants.{LengthMismatch, IndexOutOfRange}

-- the place of entry (i, j) in a table of that many rows
abbrev pub place : ℕ → ℕ → ℕ → ℕ
place rows i j = i + j * rows

-- whether a table of that many rows and columns has an entry (i, j)
abbrev pub inside : ℕ → ℕ → ℕ → ℕ → Bool
inside rows columns i j = nat_lt i rows && nat_lt j columns

-- of a list of that length, which has to be rows × columns long, as a whole number
abbrev pub length_refusal : ℕ → ℕ → ℕ → Option HeightFieldError
length_refusal rows columns len = cond (len == rows * columns) None (Some LengthMismatch)

-- where there is no entry (i, j)
abbrev pub index_refusal : ℕ → ℕ → ℕ → ℕ → Option HeightFieldError
index_refusal rows columns i j = cond (inside rows columns i j) None (Some IndexOutOfRange)

-- the first check that an entry of a list as a table fails: the length, then the index
abbrev pub entry_refusal : ℕ → ℕ → ℕ → ℕ → ℕ → Option HeightFieldError
entry_refusal rows columns len i j = option_or (length_refusal rows columns len) (index_refusal rows columns i j)

-- the table with v at (i, j), and as it was where that is refused
abbrev pub written : {X : Type 0} → ℕ → ℕ → List X → ℕ → ℕ → X → List X
written rows columns xs i j v =
    cond (is_none (entry_refusal rows columns (length xs) i j)) (slice_set xs (place rows i j) v) xs
