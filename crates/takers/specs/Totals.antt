-- What takers add up.
-- Assumes nothing.
use Rattle.std.specs.Prelude.{ℕ, ◌+◌, ◌-◌, ◌*◌, ◌^◌, min, cond, T, List, length, nat_lt, slice_set, Some, None, Option}
use Rattle.std.specs.Float.{binary32}
use Rattle.std.specs.Float.Ieee.{fits}
use Rattle.math.specs.declared.vector.Vector.{Vector}
use Rattle.takers.specs.declared.triangle.NumberedTriangle.{NumberedTriangle}
use Rattle.utils.specs.declared.error.HeightFieldError.{HeightFieldError}
use Rattle.utils.specs.declared.error.HeightFieldError.TheVariants.{BufferTooShort}

-- the coordinates are values of f32, as those of every triangle of the program are
abbrev pub IsVector : Vector → Type 0
IsVector p = T (fits binary32 p.x) × (T (fits binary32 p.y) × T (fits binary32 p.z))

abbrev pub IsTriangle : NumberedTriangle → Type 0
IsTriangle t = IsVector t.triangle.a × (IsVector t.triangle.b × IsVector t.triangle.c)

-- one more, stopping at the largest u32
abbrev pub counted : ℕ → ℕ
counted n = min (n + 1) (2 ^ 32 - 1)

-- of a sheet of that many bytes, where a grid of r rows and c columns of cells has more triangles
abbrev pub sheet_refusal : ℕ → ℕ → ℕ → Option HeightFieldError
sheet_refusal r c len = cond (nat_lt len (2 * (r * c))) (Some BufferTooShort) None

-- a list of numbers: the table, how many of its places are filled, and how many numbers found no place
pub record Listed : Type 0 where
  pub ids : List ℕ
  pub len : ℕ
  pub rest : ℕ

-- one more number
abbrev pub listed : Listed → ℕ → Listed
listed s n =
    cond (nat_lt s.len (length s.ids))
    (record { ids = slice_set s.ids s.len n; len = s.len + 1; rest = s.rest })
    (record { ids = s.ids; len = s.len; rest = counted s.rest })
