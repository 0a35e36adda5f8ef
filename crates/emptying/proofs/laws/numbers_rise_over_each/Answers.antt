use Rattle.shape.specs.Grids.{grid_of}
use Rattle.emptying.proofs.NumberOrder.{numbers_rise_over_each}
use Rattle.emptying.proofs.laws.numbers_rise_over_each.Goals as goal

pub returns : goal.returns
returns c = numbers_rise_over_each (grid_of c.args._grid.now)
