use Rattle.std.proofs.Common.{◌∙◌}
use Rattle.emptying.proofs.WholeWalks.{columns_by_number}
use Rattle.emptying.proofs.tallying.tally_triangles.Goals as goal
use Rattle.shape.specs.Grids.{grid_of}

pub returns-clause-added : goal.returns-clause-added
returns-clause-added g c =
    c.empty_triangles.ensures.added
    ∙ columns_by_number g.T.Taker.adds c.any_order.ensures (grid_of c.args.grid.now) c.args.flags.now
    (g.T.Taker.total c.args.tally.now)
