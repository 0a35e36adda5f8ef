use Rattle.quantize.proofs.CellOrder.{cells_keep_order, scaling_keeps_order}
use Rattle.quantize.proofs.laws.cells_are_monotone.Goals as goal

pub returns : goal.returns
returns c = record { scaling = scaling_keeps_order; cells = cells_keep_order }
