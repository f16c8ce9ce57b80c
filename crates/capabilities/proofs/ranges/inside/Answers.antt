-- `capabilities::ranges::inside` meets its contract. By computing.
use mathlib.Core.Path.{refl}
use Rattle.capabilities.specs.Range.{inside}
use Rattle.capabilities.proofs.ranges.inside.Goals as goal

pub returns : goal.returns
unfolding inside
returns c = refl
