use Rattle.shape.specs.Grids.{grid_of}
use Rattle.walk_laws.proofs.Prefixes.{shorter_reach, given_begins_all, none_leaves}
use Rattle.walk_laws.proofs.laws.shorter_reach_begins.Goals as goal

pub returns : goal.returns
returns c =
    let grid = c.args._grid.now in
    record {
      shorter =
          shorter_reach (grid_of grid) grid.size.rows grid.size.lines grid.size.columns grid.size.files
          grid.ranged;
      given = given_begins_all (grid_of grid);
      stays = none_leaves;
    }
