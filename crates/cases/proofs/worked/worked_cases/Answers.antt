use lib.Ieee.{of_bits, of_int, add, mul, div, neg, lt, le, is_nan}
use Rattle.std.proofs.Common.{refl}
use Rattle.math.proofs.Literals.{half_is, one_is, min_scale_is, max_scale_is}
use Rattle.cases.proofs.worked.worked_cases.Goals as goal

pub returns : goal.returns
unfolding of_bits of_int add mul div neg lt le is_nan
returns c =
    record {
      constants = (half_is, one_is);
      scales = (min_scale_is, max_scale_is);
      left_triangle = refl;
      right_triangle = refl;
      plain_left = refl;
      plain_right = refl;
      zigzag_left = refl;
      zigzag_right = refl;
      front = refl;
      back = refl;
      quarter = (refl, refl);
      eighth = (refl, refl);
      border = refl;
      past_border = refl;
      box = refl;
      ring_round_middle = refl;
      rings_round_corner = refl;
      all_round_corner = refl;
    }
