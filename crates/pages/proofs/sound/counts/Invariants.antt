-- `pages::sound::counts` meets its contract. After p turns the tally has the counts over the first p pages.
use mathlib.Core.Path.{◌≡◌}
use mathlib.Core.Bool.{true}
use mathlib.Core.List.{map}
use lib.ListN.{length, take}
use Rattle.capabilities.specs.Lists.{each}
use Rattle.pages.specs.Layer.{Tally}
use Rattle.pages.specs.Numbers.{page_in}
use Rattle.pages.specs.Sound.{shows_below}
use Rattle.pages.proofs.sound.counts.Given as goal

abbrev pub invariant-loop-number : goal.invariant-loop-number
invariant-loop-number l = (length l.tally ≡ 128) × (each (shows_below l.f) 0 (take l.number-index l.pages) ≡ true) × Tally l.tally (take l.number-index (map page_in l.pages))
