use Rattle.history.proofs.Moving.{only_settling_moves}
use Rattle.history.proofs.law.only_settling_moves.Goals as goal

pub returns : goal.returns
returns c = only_settling_moves
