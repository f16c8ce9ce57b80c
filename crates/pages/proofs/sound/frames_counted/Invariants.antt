-- `pages::sound::frames_counted` meets its contract: after k turns the first k frames are tested.
use mathlib.Core.Path.{◌≡◌}
use lib.ListN.{take}
use Rattle.capabilities.specs.Lists.{each}
use Rattle.pages.specs.Sound.{is_counted}
use Rattle.pages.proofs.sound.frames_counted.Given as goal

abbrev pub invariant-loop-k : goal.invariant-loop-k
invariant-loop-k l = l.sound ≡ each (is_counted l.tally) 0 (take l.k l.frames)
