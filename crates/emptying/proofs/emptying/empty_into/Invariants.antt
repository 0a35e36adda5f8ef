use Rattle.emptying.proofs.emptying.empty_into.Given as goal
use Rattle.std.proofs.Common.{◌≡◌, length, fold}

-- what is still to come brings the total to where it has to end
abbrev pub invariant-loop-triangle : goal.invariant-loop-triangle
invariant-loop-triangle g l =
    let t = g.T.Taker in
    let w = g.W.Walk in
    (fold t.adds (t.total l.taker) (w.rest l.walk)
    ≡ fold t.adds (t.total l.initial.taker) (w.rest l.initial.walk))
    × (t.place l.taker ≡ t.place l.initial.taker)

abbrev pub decreases-loop-triangle : goal.decreases-loop-triangle
decreases-loop-triangle g l = length (g.W.Walk.rest l.walk)
