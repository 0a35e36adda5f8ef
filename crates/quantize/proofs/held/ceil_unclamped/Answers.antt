use Rattle.std.proofs.Common.{◌∙◌, w64}
use Rattle.std.proofs.lemmas.Int.{to_z-of_z}
use Rattle.quantize.proofs.Whole.{cut_makes_whole, raised_makes_whole, whole→held64}
use Rattle.quantize.proofs.held.ceil_unclamped.Goals as goal

pub returns : goal.returns
returns c =
    to_z-of_z w64 c.saturating_f32_to_isize.result (record { sfits = c.saturating_f32_to_isize.type_inv })
    ∙ c.saturating_f32_to_isize.ensures
    ∙ whole→held64 raised_makes_whole cut_makes_whole c.args.x c.well_formed.0.1 assumption
