use Rattle.std.proofs.Common.{◌∙◌, ap}
use Rattle.std.specs.Result.{result_unwrap_or}
use Rattle.math.proofs.Literals.{nan_literal}
use Rattle.shape.proofs.Reading.{height_read}
use Rattle.shape.proofs.heightfield3.HeightField.height_at.Goals as goal

pub returns : goal.returns
returns c =
    let g = c.args.self.now in
    c.unwrap_or.ensures ∙ ap (result_unwrap_or c.get.result) nan_literal
    ∙ height_read g.size.nrows g.size.ncols g.heights.nrows g.heights.ncols c.args.i c.args.j g.heights.data.now c.get.result
    g.rows g.columns c.get.ensures
