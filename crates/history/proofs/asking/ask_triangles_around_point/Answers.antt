use Rattle.std.proofs.Common.{◌≡◌, ◌+◌, ◌++◌, length, drop, fold, ap, ◌∙◌, arith}
use Rattle.history.proofs.Asked.{given_from, cursor_asked, given_most, asked_added, asked_counts, where_it_fits}
use Rattle.history.proofs.asking.ask_triangles_around_point.Given as given
use Rattle.history.proofs.asking.ask_triangles_around_point.Goals as goal
use Rattle.rings.specs.declared.reach.Reach.TheVariants.{Unlimited}
use Rattle.shape.specs.Grids.{grid_of}
use Rattle.std.proofs.lemmas.List.{at_drop_more, at_drop_all}
use Rattle.std.specs.Option.{option_to_list}

-- of what is left to be asked for, this answer comes first
first_asked :
    (g : given.Over) (c : goal.After-hand_over-given g)
    → given_from c.loop-reach.walk (drop c.loop-reach.reach-index c.args.reaches.now)
    ≡ option_to_list c.next.result ++ given_from c.next.new.self (drop (c.loop-reach.reach-index + 1) c.args.reaches.now)
first_asked g c =
    at_drop_more (given_from c.loop-reach.walk) c.args.reaches.now c.loop-reach.reach-index Unlimited
    c.loop-reach-test.true
    ∙ cursor_asked c.loop-reach.walk c.next.new.self _ _ c.next.result c.next.ensures

pub overflow_add-given : goal.overflow_add-given
overflow_add-given g c =
    let start = c.in_ok-walk.walk in
    let counts = asked_counts g.T.Taker.adds _ _ c.next.result (first_asked g c) in
    omega (
      arith,
      c.loop-reach.invariant.1,
      c.hand_over-given.ensures.count,
      given_most start.grid start.flags start.row start.column c.args.reaches.now start.ring start.left,
    )

pub loop-reach-preserved : goal.loop-reach-preserved
loop-reach-preserved g c =
    let first = first_asked g c in
    let counts = asked_counts g.T.Taker.adds _ _ c.next.result first in (
      asked_added g.T.Taker.adds _ _ c.next.result first _ _ c.hand_over-given.ensures.added ∙ c.loop-reach.invariant.0,
      omega (arith, c.loop-reach.invariant.1, c.hand_over-given.ensures.count),
      c.hand_over-given.ensures.lender ∙ c.loop-reach.invariant.2,
    )

pub returns : goal.returns
returns g c =
    let opened = c.in_ok-walk.ensures in
    let none = at_drop_all (given_from c.loop-reach.walk) c.args.reaches.now c.loop-reach.reach-index
    c.loop-reach-test.false in
    let total = rw none at c.loop-reach.invariant.0 in
    let count = rw none at c.loop-reach.invariant.1 in
    let all = ap (λ w. given_from w c.args.reaches.now) opened.1 in
    record {
      answer = (opened.0, omega (arith, count, ap length all));
      added =
          total
          ∙ ap (fold g.T.Taker.adds (g.T.Taker.total c.args.taker.now))
          (all ∙ where_it_fits (grid_of c.args.grid.now) c.args.flags.now _ opened.0);
      lender = c.loop-reach.invariant.2;
    }
