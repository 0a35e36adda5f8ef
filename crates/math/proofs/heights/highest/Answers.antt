use Rattle.math.proofs.FirstLaw.{highest_is}
use Rattle.math.proofs.heights.highest.Goals as goal

pub returns-clause-greatest : goal.returns-clause-greatest
returns-clause-greatest c = highest_is c.args.heights.now c.first.result c.first.ensures
