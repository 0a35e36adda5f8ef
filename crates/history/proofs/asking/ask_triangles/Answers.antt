use Rattle.std.proofs.Common.{◌≡◌, suc, ◌+◌, ◌-◌, ◌∷◌, length, take, Some, ap, ◌∙◌, arith}
use Rattle.history.proofs.Asked.{walk_asked, asked_added}
use Rattle.history.proofs.asking.ask_triangles.Goals as goal

pub loop-given-preserved : goal.loop-given-preserved
loop-given-preserved g c =
    let more : c.args.times - c.loop-given.given ≡ suc (c.args.times - (c.loop-given.given + 1)) = omega arith in
    let asked = walk_asked c.loop-given.walk c.next.new.self (Some c.in-Some.triangle)
    (c.args.times - (c.loop-given.given + 1)) c.in-Some.ensures.steps in
    let first : take (c.args.times - c.loop-given.given) c.loop-given.walk
    ≡ c.in-Some.triangle ∷ take (c.args.times - (c.loop-given.given + 1)) c.next.new.self =
    rw more asked in (
      asked_added g.T.Taker.adds _ _ (Some c.in-Some.triangle) first _ _ c.add.ensures.added ∙ c.loop-given.invariant.0,
      omega (arith, c.loop-given.invariant.1, ap length first),
      c.add.ensures.lender ∙ c.loop-given.invariant.2,
      omega arith,
    )
