-- 0D in place. Assumes nothing.
use Prim.Native.Nat.{ℕ, ◌+◌, ◌*◌}
use mathlib.Core.Bool.{true}
use mathlib.Core.List.{List}
use mathlib.Core.Path.{◌≡◌, refl, sym, ap, ◌∙◌}
use lib.ListN.{set}
use Rattle.capabilities.specs.Capability.{narrowed}
use Rattle.capabilities.specs.declared.refusal.Refusal.{Refusal}
use Rattle.capabilities.specs.Refusals.{number_of, first}
use Rattle.capabilities.proofs.Refusals.{number_some}
use Rattle.calls.specs.declared.Call.{Call}
use Rattle.calls.specs.declared.Call.TheVariants.{Narrow}
use Rattle.words.specs.declared.Slot.{Slot}
use Rattle.words.specs.Words.{slot, empty, register_of}
use Rattle.words.specs.WordReasons.{narrow_reasons}
use Rattle.words.specs.Lent.{register_in}
use Rattle.machine.specs.Reasons.{reasons}
use Rattle.machine.specs.Effects.{effect, effect_of, put_register, keep_mailboxes, keep_memory}
use Rattle.machine.specs.Step.{reasons_on, effect_on, ruled}
use Rattle.arrays.specs.declared.Arrays.{Arrays}
use Rattle.arrays.specs.Reading.{state_of, Formed}
use Rattle.arrays.specs.Steps.{answer, leaving, left_of, with_words}
use Rattle.arrays.proofs.Ruling.{down, registered}
use Rattle.calls_in_place.proofs.Reading.{register_read}

module _ (b : Arrays) (f : Formed b) (p s off len mask d : ℕ) (from : Slot) (e1 : from ≡ register_in b.words b.marks p s) where
  abbrev call : Call
  call = Narrow p s off len mask d

  from_is : from ≡ register_of (state_of b).registers p s
  from_is = e1 ∙ sym (register_read b f p s)

  code_is : (cells tags : List ℕ) → first (narrow_reasons p s d from off len) ≡ first (reasons_on (state_of b) call cells tags)
  unfolding reasons
  code_is cells tags = ap (λ w. first (narrow_reasons p s d w off len)) from_is

  effect_is : (cells tags : List ℕ) → effect_on (state_of b) call cells tags ≡ effect_of (state_of b).core (put_register p d (slot (narrowed from.cell off len mask) true)) keep_mailboxes keep_memory empty
  unfolding effect
  effect_is cells tags = sym (ap (λ w. effect_of (state_of b).core (put_register p d (slot (narrowed w.cell off len mask) true)) keep_mailboxes keep_memory empty) from_is)

  module _ (cells tags : List ℕ) where
    pub narrow_down : (r : Refusal) → number_of r ≡ first (narrow_reasons p s d from off len)
        → leaving (answer (number_of r) empty) b cells tags ≡ left_of (ruled (state_of b) call cells tags)
    narrow_down r e = down b f call cells tags (number_of r) (e ∙ code_is cells tags) (number_some r)

    pub narrow_done : 0 ≡ first (narrow_reasons p s d from off len) → (n : ℕ) → n ≡ narrowed from.cell off len mask
        → (words marks : List ℕ) → words ≡ set b.words (8 * p + d) n → marks ≡ set b.marks (8 * p + d) 1
        → leaving (answer 0 empty) (with_words b words marks) cells tags ≡ left_of (ruled (state_of b) call cells tags)
    narrow_done e n x words marks ew em =
        rw (ew, em, x) (registered b f call cells tags 0 (e ∙ code_is cells tags) p d (slot (narrowed from.cell off len mask) true) empty refl (effect_is cells tags))
