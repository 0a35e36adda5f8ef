-- The status byte of a cell, by its bits.
-- Assumes nothing.
use Rattle.std.specs.Prelude.{ℕ, Bool, true, false, eqb}
use Rattle.std.specs.Int.Bits.{bit_and}

-- whether the byte has every bit of the mask
abbrev pub has_all : ℕ → ℕ → Bool
has_all byte mask = eqb (bit_and byte mask) mask

-- whether the cell has the zigzag pattern
abbrev pub zigzag : ℕ → Bool
zigzag byte = has_all byte 1

-- whether the left or the right triangle is removed
abbrev pub removed : ℕ → Bool → Bool
removed byte true = has_all byte 2
removed byte false = has_all byte 4
