use Rattle.blade.proofs.Asking.{shorter, spent}
use Rattle.blade.proofs.give_all.Goals as goal
use Rattle.rings.proofs.CursorSteps.{cursor_gives}
use Rattle.rings.specs.RingCursors.{to_come_within}

pub loop-reach-smaller : goal.loop-reach-smaller
loop-reach-smaller c =
    shorter (to_come_within c.loop-reach.walk c.args.reach) (to_come_within c.next.new.self c.args.reach)
    c.next.result c.loop-reach-test.ensures
    (cursor_gives c.loop-reach.walk c.next.new.self c.args.reach c.next.result c.next.ensures)

pub returns : goal.returns
returns c =
    spent (to_come_within c.loop-reach.walk c.args.reach) (to_come_within c.next.new.self c.args.reach)
    c.next.result c.loop-reach-test.ensures
    (cursor_gives c.loop-reach.walk c.next.new.self c.args.reach c.next.result c.next.ensures)
