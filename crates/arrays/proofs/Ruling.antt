-- The ways in which a call on arrays returns: turned down, or done. Assumes nothing.
use Prim.Native.Nat.{ℕ, ◌+◌, ◌*◌}
use mathlib.Core.List.{List, [], ◌∷◌}
use mathlib.Core.Path.{◌≡◌, sym, ap, ◌∙◌}
use lib.ListN.{set}
use Rattle.capabilities.specs.Refusals.{first}
use Rattle.reservations.specs.Core.{Core}
use Rattle.calls.specs.declared.Call.{Call}
use Rattle.words.specs.declared.Slot.{Slot}
use Rattle.words.specs.Words.{empty, byte_of}
use Rattle.machine.specs.State.{State}
use Rattle.machine.specs.Formed.{answered}
use Rattle.machine.specs.Effects.{effect_of, keep_registers, put_register, keep_mailboxes, put_mailbox, keep_memory, write, write_words}
use Rattle.machine.specs.Step.{outcome_with, done, reasons_on, effect_on, ruled, with_core}
use Rattle.machine.proofs.Ruled.{ruled_down, ruled_done, done_core, done_register, done_mailbox, done_both, done_write}
use Rattle.arrays.specs.declared.Arrays.{Arrays}
use Rattle.arrays.specs.Reading.{state_of, arrays_of, Formed}
use Rattle.arrays.specs.Steps.{answer, leaving, left_of, with_words, with_mail, with_mails}
use Rattle.arrays.proofs.Writing.{put_register_lem, put_mailbox_lem, put_words, write_core_register}

-- What an outcome with a state is written as.
pub wrote : (code : ℕ) (w : Slot) (s : State) (a : Arrays) (cells tags : List ℕ) → a ≡ arrays_of s → leaving (answer code w) a cells tags ≡ left_of (outcome_with (answered code w s) cells tags)
unfolding left_of
wrote code w s a cells tags e = ap (λ b. leaving (answer code w) b cells tags) e

module _ (a : Arrays) (f : Formed a) (c : Call) (cells tags : List ℕ) (k : ℕ) (e : k ≡ first (reasons_on (state_of a) c cells tags)) where
  -- A refusal keeps every number.
  pub down : (k ≡ 0 → ⊥) → leaving (answer k empty) a cells tags ≡ left_of (ruled (state_of a) c cells tags)
  down h = wrote k empty (state_of a) a cells tags (sym f.kept) ∙ ap left_of (ruled_down (state_of a) c cells tags k e h)

  -- A call that changes the core alone.
  pub cored : (x : Core) (after : Arrays) → k ≡ 0 → effect_on (state_of a) c cells tags ≡ effect_of x keep_registers keep_mailboxes keep_memory empty
      → after ≡ arrays_of (with_core (state_of a) x) → leaving (answer 0 empty) after cells tags ≡ left_of (ruled (state_of a) c cells tags)
  cored x after z g d =
      wrote 0 empty (with_core (state_of a) x) after cells tags d
      ∙ ap left_of (ruled_done (state_of a) c cells tags k e z _ (done_core (state_of a) x empty cells tags ∙ sym (ap (λ y. done (state_of a) y cells tags) g)))

  -- One that puts a word into a register.
  pub registered : (p r : ℕ) (x : Slot) (w : Slot) → k ≡ 0 → effect_on (state_of a) c cells tags ≡ effect_of (state_of a).core (put_register p r x) keep_mailboxes keep_memory w
      → leaving (answer 0 w) (with_words a (set a.words (8 * p + r) x.cell) (set a.marks (8 * p + r) (byte_of x.tag))) cells tags
      ≡ left_of (ruled (state_of a) c cells tags)
  registered p r x w z g =
      wrote 0 w _ _ cells tags (put_register_lem a f.kept (8 * p + r) x)
      ∙ ap left_of (ruled_done (state_of a) c cells tags k e z _ (done_register (state_of a) (state_of a).core w cells tags p r x ∙ sym (ap (λ y. done (state_of a) y cells tags) g)))

  -- One that changes the core too; b is the arrays with that core.
  pub core_registered : (y : Core) (b : Arrays) → b ≡ arrays_of (with_core (state_of a) y) → (p r : ℕ) (x : Slot) (w : Slot) → k ≡ 0
      → effect_on (state_of a) c cells tags ≡ effect_of y (put_register p r x) keep_mailboxes keep_memory w
      → leaving (answer 0 w) (with_words b (set b.words (8 * p + r) x.cell) (set b.marks (8 * p + r) (byte_of x.tag))) cells tags
      ≡ left_of (ruled (state_of a) c cells tags)
  core_registered y b d p r x w z g =
      ap (λ v. leaving (answer 0 w) (with_words v (set v.words (8 * p + r) x.cell) (set v.marks (8 * p + r) (byte_of x.tag))) cells tags) d
      ∙ wrote 0 w _ _ cells tags (write_core_register (state_of a) y (8 * p + r) x)
      ∙ ap left_of (ruled_done (state_of a) c cells tags k e z _ (done_register (state_of a) y w cells tags p r x ∙ sym (ap (λ y. done (state_of a) y cells tags) g)))

  -- One that puts a word into a mailbox, or into a register and a mailbox.
  pub mailed : (p : ℕ) (x : Slot) (w : Slot) → k ≡ 0 → effect_on (state_of a) c cells tags ≡ effect_of (state_of a).core keep_registers (put_mailbox p x) keep_memory w
      → leaving (answer 0 w) (with_mail a (set a.mail p x.cell) (set a.flags p (byte_of x.tag))) cells tags
      ≡ left_of (ruled (state_of a) c cells tags)
  mailed p x w z g =
      wrote 0 w _ _ cells tags (put_mailbox_lem a f.kept p x)
      ∙ ap left_of (ruled_done (state_of a) c cells tags k e z _ (done_mailbox (state_of a) (state_of a).core w cells tags p x ∙ sym (ap (λ y. done (state_of a) y cells tags) g)))

  pub moved : (p r : ℕ) (x : Slot) (q : ℕ) (y : Slot) (w : Slot) → k ≡ 0
      → effect_on (state_of a) c cells tags ≡ effect_of (state_of a).core (put_register p r x) (put_mailbox q y) keep_memory w
      → leaving (answer 0 w) (with_mails a (set a.words (8 * p + r) x.cell) (set a.marks (8 * p + r) (byte_of x.tag)) (set a.mail q y.cell) (set a.flags q (byte_of y.tag))) cells tags
      ≡ left_of (ruled (state_of a) c cells tags)
  moved p r x q y w z g =
      wrote 0 w _ _ cells tags (put_words a f.kept (8 * p + r) x q y)
      ∙ ap left_of (ruled_done (state_of a) c cells tags k e z _ (done_both (state_of a) (state_of a).core w cells tags p r x q y ∙ sym (ap (λ o. done (state_of a) o cells tags) g)))

  -- One that writes a word into lent memory.
  pub written : (at : ℕ) (x : Slot) → k ≡ 0 → effect_on (state_of a) c cells tags ≡ effect_of (state_of a).core keep_registers keep_mailboxes (write_words (write at x ∷ [])) empty
      → leaving (answer 0 empty) a (set cells at x.cell) (set tags at (byte_of x.tag)) ≡ left_of (ruled (state_of a) c cells tags)
  unfolding with_core
  written at x z g =
      wrote 0 empty (state_of a) a (set cells at x.cell) (set tags at (byte_of x.tag)) (sym f.kept)
      ∙ ap left_of (ruled_done (state_of a) c cells tags k e z _ (done_write (state_of a) (state_of a).core empty cells tags at x ∙ sym (ap (λ y. done (state_of a) y cells tags) g)))
