-- `claims::sound::claims_sound`: after p turns the first p principals are tested and their limits summed.
use mathlib.Core.Bool.{◌&&◌}
use mathlib.Core.Path.{◌≡◌}
use lib.ListN.{take}
use Rattle.capabilities.specs.Lists.{each}
use Rattle.claims.specs.Claims.{limit_of, sum}
use Rattle.claims.specs.Sound.{root_sound}
use Rattle.claims.specs.Numbers.{claims_in}
use Rattle.claims.specs.Lent.{principal_in}
use Rattle.claims.proofs.Testing.{tested}
use Rattle.claims.proofs.sound.claims_sound.Given as goal

abbrev pub invariant-loop-p : goal.invariant-loop-p
invariant-loop-p l =
    (l.sound ≡ (root_sound (principal_in l.principals 0) && each (tested l.v l.principals l.counts) 0 (take l.p l.principals))) × (l.total ≡ sum l.p (limit_of (claims_in l.principals l.counts)))
