use Rattle.std.proofs.Common.{◌∙◌}
use Rattle.emptying.proofs.WholeWalks.{rings_by_number}
use Rattle.emptying.proofs.tallying.tally_triangles_around_point.Goals as goal
use Rattle.shape.specs.Grids.{grid_of}

pub returns-clause-added : goal.returns-clause-added
returns-clause-added g c =
    let grid = c.args.grid.now in
    c.empty_triangles_within.ensures.added
    ∙ rings_by_number g.T.Taker.adds c.any_order.ensures (grid_of grid) c.args.flags.now
    (g.T.Taker.total c.args.tally.now) grid.size.rows grid.size.lines grid.size.columns grid.size.files c.args.point
