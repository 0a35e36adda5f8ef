use Rattle.quantize.proofs.NextWhole.{held_numbers_are_next}
use Rattle.quantize.proofs.laws.held_numbers_are_next.Goals as goal

pub returns : goal.returns
returns c = held_numbers_are_next
