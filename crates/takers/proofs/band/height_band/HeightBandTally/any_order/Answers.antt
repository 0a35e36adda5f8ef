use Rattle.takers.proofs.BandOrder.{banded_either}
use Rattle.takers.proofs.band.height_band.HeightBandTally.any_order.Goals as goal

pub returns : goal.returns
returns c = banded_either
