-- The triangles of a cell, from its four corners.
-- Assumes nothing.
use Rattle.std.specs.Prelude.{Bool}
use Rattle.cells.specs.Cells.{corner}
use Rattle.cells.specs.declared.cell.Corner.{Corner}
use Rattle.cells.specs.declared.cell.Corner.TheVariants.{P00, P10, P01, P11}
use Rattle.math.specs.declared.triangle.Triangle.{Triangle}
use Rattle.math.specs.declared.vector.Vector.{Vector}
use Rattle.search.specs.declared.corners.CellCorners.{CellCorners}

abbrev pub corner_of : CellCorners → Corner → Vector
corner_of q P00 = q.p00
corner_of q P10 = q.p10
corner_of q P01 = q.p01
corner_of q P11 = q.p11

abbrev pub triangle_of : CellCorners → Bool → Bool → Triangle
triangle_of q zigzag left =
    record {
      a = corner_of q (corner zigzag left 0);
      b = corner_of q (corner zigzag left 1);
      c = corner_of q (corner zigzag left 2);
    }
