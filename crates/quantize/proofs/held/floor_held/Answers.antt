use Rattle.std.proofs.Common.{◌∙◌, arith}
use Rattle.std.specs.Float.{ratio_floor}
use Rattle.quantize.proofs.Whole.{cut→held, held_shorter}
use Rattle.quantize.proofs.held.floor_held.Goals as goal

pub returns : goal.returns
returns c =
    held_shorter ratio_floor c.args.x _ c.args.top (omega arith)
    (c.saturating_f32_to_usize.ensures ∙ cut→held 64 c.args.x)
    c.min.ensures
