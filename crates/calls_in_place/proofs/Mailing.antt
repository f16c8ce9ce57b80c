-- 0F and 10 in place. Assumes nothing.
use Prim.Native.Nat.{ℕ, ◌+◌, ◌*◌}
use mathlib.Core.List.{List}
use mathlib.Core.Path.{◌≡◌, refl, sym, ap, ◌∙◌}
use lib.ListN.{set}
use Rattle.capabilities.specs.declared.refusal.Refusal.{Refusal}
use Rattle.capabilities.specs.Refusals.{number_of, first}
use Rattle.capabilities.proofs.Refusals.{number_some}
use Rattle.calls.specs.declared.Call.{Call}
use Rattle.calls.specs.declared.Call.TheVariants.{Grant, Receive}
use Rattle.words.specs.declared.Slot.{Slot}
use Rattle.words.specs.Words.{empty, byte_of, register_of, mailbox_of, word_at}
use Rattle.words.specs.WordReasons.{grant_reasons, receive_reasons}
use Rattle.words.specs.Lent.{register_in}
use Rattle.machine.specs.Reasons.{reasons}
use Rattle.machine.specs.Effects.{effect, effect_of, keep_registers, put_register, put_mailbox, keep_memory}
use Rattle.machine.specs.Step.{reasons_on, effect_on, ruled}
use Rattle.arrays.specs.declared.Arrays.{Arrays}
use Rattle.arrays.specs.Reading.{state_of, Formed}
use Rattle.arrays.specs.Steps.{answer, leaving, left_of, with_mail, with_mails}
use Rattle.arrays.proofs.Ruling.{down, mailed, moved}
use Rattle.calls_in_place.proofs.Reading.{register_read, mailbox_read}

-- 0F: a copy of the register goes into the mailbox of `to`.
module _ (b : Arrays) (f : Formed b) (p s to : ℕ) (from here : Slot)
    (e1 : from ≡ register_in b.words b.marks p s) (e2 : here ≡ word_at b.mail b.flags to) where
  abbrev granting : Call
  granting = Grant p s to

  from_is : from ≡ register_of (state_of b).registers p s
  from_is = e1 ∙ sym (register_read b f p s)

  grant_is : (cells tags : List ℕ) → first (grant_reasons p s to from here) ≡ first (reasons_on (state_of b) granting cells tags)
  unfolding reasons
  grant_is cells tags =
      ap (λ w. first (grant_reasons p s to w here)) from_is
      ∙ ap (λ w. first (grant_reasons p s to (register_of (state_of b).registers p s) w)) (e2 ∙ sym (mailbox_read b f to))

  granted_is : (cells tags : List ℕ) → effect_on (state_of b) granting cells tags ≡ effect_of (state_of b).core keep_registers (put_mailbox to from) keep_memory empty
  unfolding effect
  granted_is cells tags = sym (ap (λ w. effect_of (state_of b).core keep_registers (put_mailbox to w) keep_memory empty) from_is)

  module _ (cells tags : List ℕ) where
    pub grant_down : (r : Refusal) → number_of r ≡ first (grant_reasons p s to from here)
        → leaving (answer (number_of r) empty) b cells tags ≡ left_of (ruled (state_of b) granting cells tags)
    grant_down r e = down b f granting cells tags (number_of r) (e ∙ grant_is cells tags) (number_some r)

    pub grant_done : 0 ≡ first (grant_reasons p s to from here)
        → (mail flags : List ℕ) → mail ≡ set b.mail to from.cell → flags ≡ set b.flags to (byte_of from.tag)
        → leaving (answer 0 empty) (with_mail b mail flags) cells tags ≡ left_of (ruled (state_of b) granting cells tags)
    grant_done e mail flags em ef = rw (em, ef) (mailed b f granting cells tags 0 (e ∙ grant_is cells tags) to from empty refl (granted_is cells tags))

-- 10: the mailbox goes into a register and is empty.
module _ (b : Arrays) (f : Formed b) (p d : ℕ) (here : Slot) (e1 : here ≡ word_at b.mail b.flags p) where
  abbrev receiving : Call
  receiving = Receive p d

  here_is : here ≡ mailbox_of (state_of b).mailboxes p
  here_is = e1 ∙ sym (mailbox_read b f p)

  receive_is : (cells tags : List ℕ) → first (receive_reasons p d here) ≡ first (reasons_on (state_of b) receiving cells tags)
  unfolding reasons
  receive_is cells tags = ap (λ w. first (receive_reasons p d w)) here_is

  received_is : (cells tags : List ℕ) → effect_on (state_of b) receiving cells tags ≡ effect_of (state_of b).core (put_register p d here) (put_mailbox p empty) keep_memory here
  unfolding effect
  received_is cells tags = sym (ap (λ w. effect_of (state_of b).core (put_register p d w) (put_mailbox p empty) keep_memory w) here_is)

  module _ (cells tags : List ℕ) where
    pub receive_down : (r : Refusal) → number_of r ≡ first (receive_reasons p d here)
        → leaving (answer (number_of r) empty) b cells tags ≡ left_of (ruled (state_of b) receiving cells tags)
    receive_down r e = down b f receiving cells tags (number_of r) (e ∙ receive_is cells tags) (number_some r)

    pub receive_done : 0 ≡ first (receive_reasons p d here)
        → (words marks : List ℕ) → words ≡ set b.words (8 * p + d) here.cell → marks ≡ set b.marks (8 * p + d) (byte_of here.tag)
        → (none : Slot) → none ≡ empty → (mail flags : List ℕ) → mail ≡ set b.mail p none.cell → flags ≡ set b.flags p (byte_of none.tag)
        → leaving (answer 0 here) (with_mails b words marks mail flags) cells tags ≡ left_of (ruled (state_of b) receiving cells tags)
    receive_done e words marks ew em none en mail flags el ef =
        rw (ew, em, el, ef, en) (moved b f receiving cells tags 0 (e ∙ receive_is cells tags) p d here p empty here refl (received_is cells tags))
