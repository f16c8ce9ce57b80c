-- `calls_in_place::word_calls::addressed` meets its contract: the layer's own.
use mathlib.Core.List.{[]}
use mathlib.Core.Path.{sym}
use Rattle.calls_in_place.proofs.word_calls.addressed.Goals as goal

pub returns : goal.returns
returns c = rw (sym c.base_of.ensures) (c.lookup.ensures 0 [])
