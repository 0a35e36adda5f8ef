use lib.Ieee.{lt}
use Rattle.math.proofs.heights.lowest.Given as goal

abbrev pub ghost-first : goal.ghost-first
ghost-first a = lt
