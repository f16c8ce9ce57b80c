-- What a question of a cost is answered. Assumes nothing.
use Rattle.std.specs.Prelude.{Result, Ok, Err}
use Rattle.capabilities.specs.declared.refusal.Refusal.{Refusal}
use Rattle.capabilities.specs.Refusals.{number_of}
use Rattle.claims.specs.Cost.{cost}
use Rattle.machine.specs.Cost.{Costed, costed, uncosted}
use Rattle.cost.specs.declared.Cost.{Cost}

-- The code, with share and remainder, 0 and 0 where it is refused.
abbrev pub told : Result Cost Refusal → Costed
told (Ok c) = costed 0 (cost c.share c.remainder)
told (Err r) = uncosted (number_of r)
