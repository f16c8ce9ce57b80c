-- `capabilities::death::base_lives` meets its contract: a base in a range that is not empty lies between two numbers (`by_last`).
use mathlib.Core.Bool.{not}
use mathlib.Core.Path.{ap}
use Rattle.capabilities.proofs.Deaths.{by_last}
use Rattle.capabilities.proofs.death.base_lives.Goals as goal

pub returns : goal.returns
returns c = λ cell some el eb. ap not (by_last c.args.range c.args.last c.args.base cell some el eb)
