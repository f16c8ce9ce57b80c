-- The two ways in which a call returns: turned down, or done. Assumes nothing.
use Prim.Native.Nat.{ℕ, ◌+◌, ◌*◌}
use mathlib.Core.Bool.{Bool, true, false}
use mathlib.Core.List.{List, [], ◌∷◌, map}
use mathlib.Core.Path.{◌≡◌, refl, sym, ap, ◌∙◌}
use lib.ListN.{set}
use borrow.Author.Tests.{ne_eqb, eqb-true, eqb-false}
use lib.Dec.{eqb}
use Rattle.capabilities.specs.declared.Range.{Range}
use Rattle.capabilities.specs.Lists.{pick}
use Rattle.capabilities.specs.Refusals.{first}
use Rattle.capabilities.proofs.Choice.{pick_yes, pick_no}
use Rattle.pages.specs.declared.Frame.{Frame}
use Rattle.pages.specs.Mapping.{cleared}
use Rattle.sweep.specs.Sweep.{swept_tags}
use Rattle.reservations.specs.Core.{Core}
use Rattle.calls.specs.declared.Call.{Call}
use Rattle.words.specs.declared.Slot.{Slot}
use Rattle.words.specs.Words.{empty, byte_of, collected_register, collected_mailbox}
use Rattle.machine.specs.State.{State}
use Rattle.machine.specs.State.{Answered}
use Rattle.machine.specs.Formed.{answered}
use Rattle.machine.specs.Effects.{effect_of, keep_registers, put_register, collect_registers, keep_mailboxes, put_mailbox, collect_mailboxes, keep_memory, write, write_words, clear_frame, sweep_cells}
use Rattle.machine.specs.Step.{Outcome, outcome_with, done, registers_after, mailboxes_after, written_cells, written_tags, cells_after, tags_after, reasons_on, effect_on, ruled, with_core}

module _ (s : State) (c : Call) (cells tags : List ℕ) (k : ℕ) (e : k ≡ first (reasons_on s c cells tags)) where
  pub ruled_down : (k ≡ 0 → ⊥) → outcome_with (answered k empty s) cells tags ≡ ruled s c cells tags
  unfolding ruled
  ruled_down h = rw (← e, ne_eqb k 0 h)

  pub ruled_done : k ≡ 0 → (x : Outcome) → x ≡ done s (effect_on s c cells tags) cells tags → x ≡ ruled s c cells tags
  unfolding ruled
  ruled_done h x d = rw (← e, h) d

-- What an effect comes to, by what it changes besides the core.
module _ (s : State) (c : Core) (w : Slot) (cells tags : List ℕ) where
  pub done_core : outcome_with (answered 0 w (with_core s c)) cells tags ≡ done s (effect_of c keep_registers keep_mailboxes keep_memory w) cells tags
  unfolding done registers_after mailboxes_after cells_after tags_after with_core
  done_core = refl

  pub done_register : (p r : ℕ) (x : Slot)
      → outcome_with (answered 0 w (record { core = c; registers = set s.registers (8 * p + r) x; mailboxes = s.mailboxes })) cells tags
      ≡ done s (effect_of c (put_register p r x) keep_mailboxes keep_memory w) cells tags
  unfolding done registers_after mailboxes_after cells_after tags_after
  done_register p r x = refl

  pub done_mailbox : (p : ℕ) (x : Slot)
      → outcome_with (answered 0 w (record { core = c; registers = s.registers; mailboxes = set s.mailboxes p x })) cells tags
      ≡ done s (effect_of c keep_registers (put_mailbox p x) keep_memory w) cells tags
  unfolding done registers_after mailboxes_after cells_after tags_after
  done_mailbox p x = refl

  pub done_both : (p r : ℕ) (x : Slot) (q : ℕ) (y : Slot)
      → outcome_with (answered 0 w (record { core = c; registers = set s.registers (8 * p + r) x; mailboxes = set s.mailboxes q y })) cells tags
      ≡ done s (effect_of c (put_register p r x) (put_mailbox q y) keep_memory w) cells tags
  unfolding done registers_after mailboxes_after cells_after tags_after
  done_both p r x q y = refl

  pub done_write : (at : ℕ) (x : Slot)
      → outcome_with (answered 0 w (with_core s c)) (set cells at x.cell) (set tags at (byte_of x.tag))
      ≡ done s (effect_of c keep_registers keep_mailboxes (write_words (write at x ∷ [])) w) cells tags
  unfolding done registers_after mailboxes_after written_cells written_tags cells_after tags_after with_core
  done_write at x = refl

  pub done_clear : (f : Frame)
      → outcome_with (answered 0 w (with_core s c)) (cleared f cells) (cleared f tags)
      ≡ done s (effect_of c keep_registers keep_mailboxes (clear_frame f) w) cells tags
  unfolding done registers_after mailboxes_after cells_after tags_after with_core
  done_clear f = refl

  pub done_sweep : (r : Range) (from upto : ℕ)
      → outcome_with (answered 0 w (with_core s c)) cells (swept_tags s.core.pages.frames r from upto cells tags)
      ≡ done s (effect_of c keep_registers keep_mailboxes (sweep_cells r from upto) w) cells tags
  unfolding done registers_after mailboxes_after cells_after tags_after with_core
  done_sweep r from upto = refl

-- A call whose effect is a new core: that one where nothing refuses it, or else all as it was.
pub ruled_core :
    (s : State) (c : Call) (cells tags : List ℕ) (k : ℕ) (x : Core) → k ≡ first (reasons_on s c cells tags)
    → effect_on s c cells tags ≡ effect_of x keep_registers keep_mailboxes keep_memory empty → (r : Answered)
    → r ≡ pick (eqb k 0) (answered 0 empty (with_core s x)) (answered k empty s) → outcome_with r cells tags ≡ ruled s c cells tags
ruled_core s c cells tags k x e f r d = go (eqb k 0) refl
  where
    go : (b : Bool) → eqb k 0 ≡ b → outcome_with r cells tags ≡ ruled s c cells tags
    go true z =
        ruled_done s c cells tags k e (eqb-true k 0 z) (outcome_with r cells tags)
        (ap (λ a. outcome_with a cells tags) (d ∙ pick_yes _ _ _ z) ∙ done_core s x empty cells tags ∙ sym (ap (λ y. done s y cells tags) f))
    go false z = ap (λ a. outcome_with a cells tags) (d ∙ pick_no _ _ _ z) ∙ ruled_down s c cells tags k e (eqb-false k 0 z)

-- A granted collect, with the two lists of words as the loops leave them.
pub done_collect :
    (s : State) (c : Core) (cells tags : List ℕ)
    → outcome_with (answered 0 empty (record { core = c; registers = map (collected_register s.core) s.registers; mailboxes = map (collected_mailbox s.core) s.mailboxes }))
    cells tags
    ≡ done s (effect_of c collect_registers collect_mailboxes keep_memory empty) cells tags
unfolding done registers_after mailboxes_after cells_after tags_after
done_collect s c cells tags = refl
