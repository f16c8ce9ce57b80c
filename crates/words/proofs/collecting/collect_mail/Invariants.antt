-- `words::collecting::collect_mail` meets its contract. After i turns the first i mailboxes are replaced, cell and tag.
use mathlib.Core.Path.{◌≡◌}
use lib.ListN.{take}
use Rattle.words.specs.Lent.{map_beside, collected_mark, collected_cell}
use Rattle.words.proofs.collecting.collect_mail.Given as goal

abbrev pub invariant-loop-i : goal.invariant-loop-i
invariant-loop-i l = record {
  cells : l.mail ≡ map_beside (collected_cell l.range) (take l.i l.initial.flags) l.initial.mail;
  marks : l.flags ≡ map_beside (collected_mark l.range) (take l.i l.initial.mail) l.initial.flags;
}
