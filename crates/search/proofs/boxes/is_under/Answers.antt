use Rattle.std.proofs.Common.{rules}
use Rattle.shape.specs.Grids.{grid_of}
use Rattle.search.specs.BoxLists.{under}
use Rattle.search.proofs.boxes.is_under.Goals as goal

pub returns : goal.returns
returns c = c.all_corners.ensures (under (grid_of c.args.cell.now.grid.now) c.args.aabb.now) (λ y r met. search rules)
