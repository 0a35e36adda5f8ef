-- The scales that a heightfield takes.
-- Assumes nothing.
use Rattle.std.specs.Prelude.{Bool, cond, ◌&&◌, Some, None, Option, Float}
use Rattle.std.specs.Float.Ieee.{le}
use Rattle.math.specs.Constants.{min_scale, max_scale}
use Rattle.math.specs.declared.vector.Vector.{Vector}
use Rattle.utils.specs.declared.error.HeightFieldError.{HeightFieldError}
use Rattle.utils.specs.declared.error.HeightFieldError.TheVariants.{ScaleOutOfRange}

-- from 2 ^ -20 to 2 ^ 20, which no NaN is
abbrev pub in_range : Float → Bool
in_range s = le min_scale s && le s max_scale

-- in range along every axis
abbrev pub in_scale : Vector → Bool
in_scale scale = in_range scale.x && (in_range scale.y && in_range scale.z)

-- where some component is out of range
abbrev pub scale_refusal : Vector → Option HeightFieldError
scale_refusal scale = cond (in_scale scale) None (Some ScaleOutOfRange)
