use Rattle.std.proofs.Common.{length}
use Rattle.blade.proofs.give_all.Given as goal
use Rattle.rings.specs.RingCursors.{to_come_within}

abbrev pub decreases-loop-reach : goal.decreases-loop-reach
decreases-loop-reach l = length (to_come_within l.walk l.reach)
