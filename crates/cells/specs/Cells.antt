-- A cell of the grid: its four corners, its sides, and the two triangles it is cut into.
-- Assumes nothing.
use Rattle.std.specs.Prelude.{ℕ, Bool, true, false, [], ◌∷◌, get_or}
use Rattle.cells.specs.declared.cell.Corner.{Corner}
use Rattle.cells.specs.declared.cell.Corner.TheVariants.{P00, P10, P01, P11}
use Rattle.cells.specs.declared.cell.Side.{Side}
use Rattle.cells.specs.declared.cell.Side.TheVariants.{Left, Right, Top, Bottom, Diagonal}
use Rattle.cells.specs.declared.cell.CellTriangle.{CellTriangle}

-- how many rows and how many columns a corner lies past the cell's first
abbrev pub rows_past : Corner → ℕ
rows_past P00 = 0
rows_past P10 = 1
rows_past P01 = 0
rows_past P11 = 1

abbrev pub columns_past : Corner → ℕ
columns_past P00 = 0
columns_past P10 = 0
columns_past P01 = 1
columns_past P11 = 1

-- the triangle of a cell, by whether the cell has the zigzag pattern and whether it is the left one
abbrev pub triangle : Bool → Bool → CellTriangle
triangle false true = record { corners = P00 ∷ P10 ∷ P01 ∷ []; sides = Left ∷ Diagonal ∷ Top ∷ [] }
triangle false false = record { corners = P10 ∷ P11 ∷ P01 ∷ []; sides = Bottom ∷ Right ∷ Diagonal ∷ [] }
triangle true true = record { corners = P00 ∷ P10 ∷ P11 ∷ []; sides = Left ∷ Bottom ∷ Diagonal ∷ [] }
triangle true false = record { corners = P00 ∷ P11 ∷ P01 ∷ []; sides = Diagonal ∷ Right ∷ Top ∷ [] }

-- the corner and the side of a triangle by their local number, from 0 to 2
abbrev pub corner : Bool → Bool → ℕ → Corner
corner zigzag left k = get_or (triangle zigzag left).corners k P00

abbrev pub side : Bool → Bool → ℕ → Side
side zigzag left k = get_or (triangle zigzag left).sides k Left
