use Rattle.std.proofs.Common.{◌≡◌, take, fold}
use Rattle.std.specs.Float.{nan}
use Rattle.math.specs.Heights.{first_of}
use Rattle.math.proofs.heights.first.Given as goal

abbrev pub invariant-loop-y : goal.invariant-loop-y
invariant-loop-y g l = l.best ≡ fold (first_of g.order) nan (take l.y-index l.heights)
