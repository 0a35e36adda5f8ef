-- The coordinates of every drawn triangle are values of f32.
-- Assumes nothing.
use Rattle.std.proofs.Common.{ℕ, Bool, List}
use lib.Ieee.{Float, binary32}
use lib.Ieee.Fits.{mul-fits}
use Rattle.cells.specs.declared.cell.Corner.{Corner}
use Rattle.cells.specs.declared.cell.Corner.TheVariants.{P00, P10, P01, P11}
use Rattle.math.specs.declared.vector.Vector.{Vector}
use Rattle.search.specs.Corners.{corner_of}
use Rattle.search.specs.Triangles.{scaled_by, corners_at}
use Rattle.shape.specs.Grids.{Grid}
use Rattle.takers.specs.Totals.{IsVector, IsTriangle}
use Rattle.walk_laws.specs.Walked.{walked_at}

-- a product is rounded to an f32
scaled_fits : (scale : Vector) (x y z : Float) → IsVector (scaled_by scale x y z)
scaled_fits scale x y z = (mul-fits binary32 x scale.x, (mul-fits binary32 y scale.y, mul-fits binary32 z scale.z))

corner_fits : (g : Grid) (i j : ℕ) (p : Corner) → IsVector (corner_of (corners_at g i j) p)
corner_fits g i j P00 = scaled_fits g.scale _ _ _
corner_fits g i j P10 = scaled_fits g.scale _ _ _
corner_fits g i j P01 = scaled_fits g.scale _ _ _
corner_fits g i j P11 = scaled_fits g.scale _ _ _

pub walked_is_triangle : (g : Grid) (flags : List ℕ) (i j : ℕ) (left : Bool) → IsTriangle (walked_at g flags i j left)
walked_is_triangle g flags i j left = (corner_fits g i j _, (corner_fits g i j _, corner_fits g i j _))
