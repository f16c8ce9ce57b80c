-- `words::registers::mailboxes_sound` meets its contract: the mailboxes before the index are tested.
use mathlib.Core.Path.{◌≡◌}
use lib.ListN.{length, take}
use Rattle.capabilities.specs.Lists.{each}
use Rattle.words.specs.Words.{mailbox_sound}
use Rattle.words.specs.Lent.{slots_of}
use Rattle.words.proofs.registers.mailboxes_sound.Given as goal

abbrev pub invariant-loop-cell : goal.invariant-loop-cell
invariant-loop-cell l = l.sound ≡ each mailbox_sound 0 (take (length l.yielded) (slots_of l.mail l.flags))
