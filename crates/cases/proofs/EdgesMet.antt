-- Document 01's K cases: the rules give the codes that it names, by one computation over the list.
use mathlib.Core.Bool.{true}
use mathlib.Core.Path.{◌≡◌, refl}
use Rattle.capabilities.specs.Lists.{same, all}
use Rattle.cases.specs.Edges.{codes_from, codes, meets, cases}
use Rattle.machine.proofs.Computing.{computing}

pub all_meet : all meets cases ≡ true
unfolding all meets cases same codes codes_from computing
all_meet = refl
