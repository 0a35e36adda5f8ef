use Rattle.std.proofs.Common.{refl}
use Rattle.search.proofs.Handing.{none_off_grid}
use Rattle.utils.proofs.Errors.{refused}
use Rattle.shape.specs.Grids.{grid_of}
use Rattle.search.proofs.boxes.map_cell.Goals as goal

pub returns-in_default-clause-added : goal.returns-in_default-clause-added
returns-in_default-clause-added g c =
    rw (none_off_grid (grid_of c.args.field.now.grid.now) c.args.field.now.statuses.data.now c.args.aabb.now c.args.j c.args.i _ (refused _ _ c.in_default.ensures)) refl
