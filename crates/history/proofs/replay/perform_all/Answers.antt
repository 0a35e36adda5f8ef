use Rattle.std.proofs.Common.{refl, ◌∙◌, subst, arith}
use Rattle.history.proofs.Performing.{performed_none, performed_more, performed_keeps_law, calls_stay}
use Rattle.history.proofs.replay.perform_all.Goals as goal
use Rattle.history.specs.Runs.{state_of, Performed}
use Rattle.std.proofs.lemmas.List.{take_all}

pub loop-event-init : goal.loop-event-init
loop-event-init g c =
    (performed_none g.T.Taker.adds (state_of c.args.grid.now c.args.flags.now) (g.T.Taker.total c.args.tally.now), refl, refl)

pub loop-event-preserved : goal.loop-event-preserved
loop-event-preserved g c = (
  performed_more g.T.Taker.adds (state_of c.args.grid.now c.args.flags.now) (g.T.Taker.total c.args.tally.now)
      c.loop-event.log c.loop-event.event-index _ _ _ _ _ (omega arith) c.loop-event.invariant.0 c.perform.ensures.step
      c.perform.ensures.added,
  calls_stay c.loop-event.log c.loop-event.event-index _ _ refl ∙ c.loop-event.invariant.1,
  c.perform.ensures.lender ∙ c.loop-event.invariant.2,
)

pub returns-clause-law : goal.returns-clause-law
returns-clause-law g c =
    let adds = g.T.Taker.adds in
    let start = state_of c.args.grid.now c.args.flags.now in
    let end = state_of c.loop-event.grid c.loop-event.flags in
    let first = g.T.Taker.total c.args.tally.now in
    let last = g.T.Taker.total c.loop-event.tally in
    let all =
    subst (λ es. Performed adds es start end first last) (take_all c.loop-event.event-index c.loop-event.log (omega arith))
    c.loop-event.invariant.0 in
    performed_keeps_law adds start first c.any_order.ensures c.loop-event.log end last all
