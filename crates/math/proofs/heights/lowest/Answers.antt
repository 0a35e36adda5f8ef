use Rattle.math.proofs.FirstLaw.{lowest_is}
use Rattle.math.proofs.heights.lowest.Goals as goal

pub returns-clause-least : goal.returns-clause-least
returns-clause-least c = lowest_is c.args.heights.now c.first.result c.first.ensures
