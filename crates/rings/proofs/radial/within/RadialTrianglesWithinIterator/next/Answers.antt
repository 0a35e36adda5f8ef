use Rattle.rings.proofs.CursorSteps.{cursor_gives}
use Rattle.rings.proofs.radial.within.RadialTrianglesWithinIterator.next.Goals as goal
use Rattle.walks.proofs.Progress.{gives_progress}

pub returns-clause-steps : goal.returns-clause-steps
returns-clause-steps c =
    rw (← c.self.view_is)
    (cursor_gives c.self.inside.triangles c.next.new.self c.self.inside.reach c.next.result c.next.ensures)

pub returns-clause-goes : goal.returns-clause-goes
returns-clause-goes c = gives_progress _ _ _ (returns-clause-steps c)
