-- `capabilities::death::dies` meets its contract: by the contracts of the two callees.
use Rattle.capabilities.specs.Death.{dies}
use Rattle.capabilities.proofs.death.dies.Goals as goal

pub returns : goal.returns
unfolding dies
returns c = rw (c.inside.ensures, c.base_of.ensures)
