use Rattle.history.proofs.LawHolds.{grid_law}
use Rattle.history.proofs.law.grid_keeps_the_law.Goals as goal

pub returns : goal.returns
returns g c = grid_law g.T.Taker.adds c.any_order.ensures
