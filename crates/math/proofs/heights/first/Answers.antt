use Rattle.std.proofs.Common.{arith}
use Rattle.math.proofs.Firsts.{first_more, first_all}
use Rattle.math.proofs.Literals.{nan_literal}
use Rattle.math.proofs.heights.first.Goals as goal

pub loop-y-init : goal.loop-y-init
loop-y-init g c = nan_literal

pub loop-y-preserved : goal.loop-y-preserved
loop-y-preserved g c =
    let test = c.requires.1.1 _ _ _ c.before-in-loop-y.ensures in
    first_more g.order c.args.heights.now c.loop-y.y-index c.loop-y.best c.if-is_nan.best
    c.loop-y-test.true c.loop-y.invariant (grind arith)

pub returns : goal.returns
returns g c =
    first_all g.order c.args.heights.now c.loop-y.y-index c.loop-y.best c.loop-y-test.false c.loop-y.invariant
