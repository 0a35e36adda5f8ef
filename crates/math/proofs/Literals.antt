-- The values of the float constants.
-- Assumes nothing.
use lib.Ieee.{fin, nan, binary32, of_bits}
use Rattle.std.proofs.Common.{◌≡◌, false, pos, negsuc, refl}
use Rattle.math.specs.Constants.{half, one, min_scale, max_scale}

pub half_is : half ≡ fin false 1 (negsuc 0)
unfolding of_bits
half_is = refl

pub one_is : one ≡ fin false 1 (pos 0)
unfolding of_bits
one_is = refl

pub min_scale_is : min_scale ≡ fin false 1 (negsuc 19)
unfolding of_bits
min_scale_is = refl

pub max_scale_is : max_scale ≡ fin false 1 (pos 20)
unfolding of_bits
max_scale_is = refl

pub nan_literal : of_bits binary32 2143289344 ≡ nan
unfolding of_bits
nan_literal = refl
