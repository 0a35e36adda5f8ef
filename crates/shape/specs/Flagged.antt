-- What a heightfield with its table is made of.
-- Assumes nothing.
use Rattle.std.specs.Prelude.{ℕ, List}
use Rattle.shape.specs.Grids.{Grid, grid_of}
use Rattle.shape.specs.declared.heightfield3.flagged.FlaggedHeightField.{FlaggedHeightField}

abbrev pub grid_in : FlaggedHeightField → Grid
grid_in f = grid_of f.grid.now

abbrev pub flags_in : FlaggedHeightField → List ℕ
flags_in f = f.statuses.data.now
