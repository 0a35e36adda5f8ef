use Rattle.shape.specs.Grids.{grid_of}
use Rattle.search.proofs.WiderBoxes.{wider_box}
use Rattle.search.proofs.widening.wider_box_loses_nothing.Goals as goal

pub returns : goal.returns
returns c =
    let grid = c.args._grid.now in
    wider_box (grid_of grid) grid.size.rows grid.size.lines grid.size.columns grid.size.files grid.ranged
