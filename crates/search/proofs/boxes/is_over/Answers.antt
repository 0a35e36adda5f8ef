use Rattle.std.proofs.Common.{rules}
use Rattle.shape.specs.Grids.{grid_of}
use Rattle.search.specs.BoxLists.{over}
use Rattle.search.proofs.boxes.is_over.Goals as goal

pub returns : goal.returns
returns c = c.all_corners.ensures (over (grid_of c.args.cell.now.grid.now) c.args.aabb.now) (λ y r met. search rules)
