use Rattle.shape.specs.Grids.{grid_of}
use Rattle.walk_laws.proofs.ColumnMembers.{columns_hold_each_once}
use Rattle.walk_laws.proofs.RingMembers.{rings_hold_each_once}
use Rattle.walk_laws.proofs.VertexSpots.{one_spot}
use Rattle.walk_laws.proofs.laws.shared_vertices_are_in_one_spot.Goals as goal

pub returns : goal.returns
returns c =
    let grid = grid_of c.args._grid.now in
    one_spot grid (columns_hold_each_once grid) (rings_hold_each_once grid)
