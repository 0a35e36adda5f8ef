-- The box that a heightfield fills. Each operation on floats is rounded once.
-- Assumes nothing.
use Rattle.std.specs.Prelude.{Float}
use Rattle.std.specs.Float.{binary32}
use Rattle.std.specs.Float.Ieee.{mul, neg}
use Rattle.math.specs.Constants.{half}
use Rattle.math.specs.declared.vector.Vector.{Vector}
use Rattle.math.specs.declared.aabb.Aabb.{Aabb}

-- from half the scale below 0 to half above it along x and z, and from the lowest to the highest height, scaled, along y
abbrev pub box_of : Float → Float → Vector → Aabb
box_of lowest highest scale =
    record {
      mins = record { x = neg (mul binary32 scale.x half); y = mul binary32 lowest scale.y; z = neg (mul binary32 scale.z half) };
      maxs = record { x = mul binary32 scale.x half; y = mul binary32 highest scale.y; z = mul binary32 scale.z half };
    }
