-- How large the numbers of a grid become.
-- Assumes nothing.
use Rattle.std.proofs.Common.{ℕ, ◌+◌, ◌*◌, ◌<◌, Bool, true, false, arith}
use Rattle.std.proofs.lemmas.Nat.{mul-add-lt}
use Rattle.numbering.specs.Numbers.{triangle_number}

-- the place of a cell is below the number of cells
pub cell_lt : (r c i j : ℕ) → i < r → j < c → i + j * r < r * c
cell_lt r c i j p q = omega (arith, mul-add-lt j r i c q p)

pub triangle_lt : (r c i j : ℕ) (left : Bool) → i < r → j < c → triangle_number r c i j left < 2 * (r * c)
triangle_lt r c i j true p q = omega (arith, cell_lt r c i j p q)
triangle_lt r c i j false p q = omega (arith, cell_lt r c i j p q)
