-- `capabilities::capability::narrowed` meets its contract. By the contracts of the three callees.
use Rattle.capabilities.proofs.capability.narrowed.Goals as goal

pub returns : goal.returns
returns c = cc
