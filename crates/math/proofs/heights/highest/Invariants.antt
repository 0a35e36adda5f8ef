use lib.Ieee.{lt}
use Rattle.math.proofs.heights.highest.Given as goal

abbrev pub ghost-first : goal.ghost-first
ghost-first a = λ x y. lt y x
