use Rattle.shape.specs.Grids.{grid_of}
use Rattle.walk_laws.proofs.ColumnMembers.{rings_are_columns}
use Rattle.walk_laws.proofs.RingMembers.{rings_hold_each_once}
use Rattle.walk_laws.proofs.laws.rings_hold_each_once.Goals as goal

pub returns : goal.returns
returns c =
    let grid = grid_of c.args._grid.now in
    record { each = rings_hold_each_once grid; order = rings_are_columns grid }
