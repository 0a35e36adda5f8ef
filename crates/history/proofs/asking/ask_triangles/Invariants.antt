use Rattle.std.proofs.Common.{◌≡◌, ◌+◌, ◌-◌, ◌≤◌, length, take, fold}
use Rattle.history.proofs.asking.ask_triangles.Given as goal

-- what is left to be asked for brings the total, and the count, to where they have to end
abbrev pub invariant-loop-given : goal.invariant-loop-given
invariant-loop-given g l =
    let t = g.T.Taker in
    let left = take (l.times - l.given) l.walk in
    let all = take l.times l.initial.walk in
    (fold t.adds (t.total l.taker) left ≡ fold t.adds (t.total l.initial.taker) all)
    × (l.given + length left ≡ length all) × (t.place l.taker ≡ t.place l.initial.taker) × (l.given ≤ l.times)
