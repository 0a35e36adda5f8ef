use Rattle.rings.proofs.CursorSteps.{fresh_to_come}
use Rattle.rings.proofs.radial.within.triangles_within.Goals as goal
use Rattle.shape.specs.Grids.{grid_of}

pub returns : goal.returns
returns c =
    let opened = c.in_ok-triangles.ensures in (
      opened.0,
      fresh_to_come (grid_of c.args.grid.now) c.args.flags.now c.args.point c.args.reach c.in_ok-triangles.triangles opened.1,
    )
