-- `words::collecting::collect_words` meets its contract. After i turns the marks beside the first i words are replaced.
use mathlib.Core.Path.{◌≡◌}
use lib.ListN.{take}
use Rattle.words.specs.Lent.{map_beside, collected_mark}
use Rattle.words.proofs.collecting.collect_words.Given as goal

abbrev pub invariant-loop-i : goal.invariant-loop-i
invariant-loop-i l = l.marks ≡ map_beside (collected_mark l.range) (take l.i l.words) l.initial.marks
