use Rattle.std.proofs.Common.{◌∙◌, arith}
use Rattle.std.specs.Float.{ratio_ceil}
use Rattle.quantize.proofs.Whole.{cut_makes_whole, raised_makes_whole, whole→held, held_shorter}
use Rattle.quantize.proofs.held.ceil_held.Goals as goal

pub returns : goal.returns
returns c =
    held_shorter ratio_ceil c.args.x _ c.args.top (omega arith)
    (c.saturating_f32_to_usize.ensures
    ∙ whole→held raised_makes_whole cut_makes_whole c.args.x c.well_formed.0.1 assumption)
    c.min.ensures
