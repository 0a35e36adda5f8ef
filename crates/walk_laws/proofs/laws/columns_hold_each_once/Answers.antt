use Rattle.shape.specs.Grids.{grid_of}
use Rattle.walk_laws.proofs.ColumnMembers.{columns_hold_each_once}
use Rattle.walk_laws.proofs.laws.columns_hold_each_once.Goals as goal

pub returns : goal.returns
returns c = columns_hold_each_once (grid_of c.args._grid.now)
