use Rattle.numbering.proofs.SeamNumbers.{each_seam_carries_one_number, equal_numbers_join_equal_points}
use Rattle.numbering.proofs.seams.seam_numbers.Goals as goal

pub returns : goal.returns
returns c = record { one_number = each_seam_carries_one_number; equal_numbers = equal_numbers_join_equal_points }
