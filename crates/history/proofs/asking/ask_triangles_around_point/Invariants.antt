use Rattle.std.proofs.Common.{◌≡◌, ◌+◌, length, drop, fold}
use Rattle.history.proofs.Asked.{given_from}
use Rattle.history.proofs.asking.ask_triangles_around_point.Given as goal

-- what is left to be asked for brings the total, and the count, to where they have to end
abbrev pub invariant-loop-reach : goal.invariant-loop-reach
invariant-loop-reach g l =
    let t = g.T.Taker in
    let left = given_from l.walk (drop l.reach-index l.reaches) in
    let all = given_from l.initial.walk l.reaches in
    (fold t.adds (t.total l.taker) left ≡ fold t.adds (t.total l.initial.taker) all)
    × (l.given + length left ≡ length all) × (t.place l.taker ≡ t.place l.initial.taker)
