-- `capabilities::death::last_of` meets its contract.
use Rattle.capabilities.specs.Death.{last_of}
use Rattle.std.proofs.Common.{rules}
use Rattle.capabilities.proofs.death.last_of.Goals as goal

pub returns : goal.returns
unfolding last_of
returns c = search rules
