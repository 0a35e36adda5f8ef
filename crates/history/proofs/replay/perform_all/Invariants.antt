use Rattle.std.proofs.Common.{◌≡◌, map, take}
use Rattle.history.proofs.replay.perform_all.Given as goal
use Rattle.history.specs.Runs.{state_of, Performed}

-- the calls so far are performed, and those after them are as they were
abbrev pub invariant-loop-event : goal.invariant-loop-event
invariant-loop-event g l =
    let t = g.T.Taker in
    Performed t.adds (take l.event-index l.log) (state_of l.initial.grid l.initial.flags) (state_of l.grid l.flags)
    (t.total l.initial.tally) (t.total l.tally)
    × (map (λ e. e.call) l.log ≡ map (λ e. e.call) l.initial.log)
    × (t.place l.tally ≡ t.place l.initial.tally)
