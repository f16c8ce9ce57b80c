-- 0C in place. Assumes nothing.
use Rattle.std.specs.Prelude.{Option, unwrap_or}
use Prim.Native.Nat.{ℕ, ◌+◌}
use mathlib.Core.Bool.{Bool, not}
use mathlib.Core.List.{List, [], ◌∷◌}
use mathlib.Core.Path.{◌≡◌, refl, sym, ap, ◌∙◌}
use lib.ListN.{set}
use Rattle.capabilities.specs.Capability.{base_of}
use Rattle.capabilities.specs.declared.refusal.Refusal.{Refusal}
use Rattle.capabilities.specs.Refusals.{number_of, first}
use Rattle.capabilities.proofs.Refusals.{number_some}
use Rattle.calls.specs.declared.Call.{Call}
use Rattle.calls.specs.declared.Call.TheVariants.{Store}
use Rattle.words.specs.declared.Slot.{Slot}
use Rattle.words.specs.Words.{empty, byte_of, keep_tag, stored, register_of, place_number}
use Rattle.words.specs.WordReasons.{store_reasons}
use Rattle.words.specs.Lent.{register_in}
use Rattle.machine.specs.Reasons.{addressed, reasons}
use Rattle.machine.specs.Effects.{effect, effect_of, keep_registers, keep_mailboxes, write, write_words}
use Rattle.machine.specs.Step.{reasons_on, effect_on, ruled}
use Rattle.arrays.specs.declared.Arrays.{Arrays}
use Rattle.arrays.specs.declared.Numbers.{Numbers}
use Rattle.arrays.specs.Reading.{state_of, Formed}
use Rattle.arrays.specs.Steps.{answer, leaving, left_of}
use Rattle.arrays.proofs.Ruling.{down, written}
use Rattle.calls_in_place.specs.Parts.{lookup_in, dies_in}
use Rattle.calls_in_place.proofs.Reading.{register_read, addressed_by, unwrapped}
use Rattle.calls_in_place.proofs.Cached.{dies_cached}

module _ (b : Arrays) (f : Formed b) (n : Numbers) (pages words marks : List ℕ)
    (en : b.nums ≡ n) (ep : b.pages ≡ pages) (ew : b.words ≡ words) (em : b.marks ≡ marks)
    (p a off s : ℕ) (to from : Slot) (place : Option ℕ)
    (e1 : to ≡ register_in words marks p a) (e2 : from ≡ register_in words marks p s) (e3 : place ≡ lookup_in n.v pages (base_of to.cell + off)) where
  abbrev call : Call
  call = Store p a off s

  register_is : (r : ℕ) → register_in words marks p r ≡ register_of (state_of b).registers p r
  register_is r = ap (λ (l : List ℕ). register_in l marks p r) (sym ew) ∙ ap (λ (l : List ℕ). register_in b.words l p r) (sym em) ∙ sym (register_read b f p r)

  place_is : place ≡ addressed (state_of b).core (register_of (state_of b).registers p a) off
  place_is = e3 ∙ addressed_by b n pages en ep to off ∙ ap (λ w. addressed (state_of b).core w off) (e1 ∙ register_is a)

  code_is : (cells tags : List ℕ) → first (store_reasons p a s to from off place) ≡ first (reasons_on (state_of b) call cells tags)
  unfolding reasons
  code_is cells tags =
      ap (λ w. first (store_reasons p a s w from off place)) (e1 ∙ register_is a)
      ∙ ap (λ w. first (store_reasons p a s (register_of (state_of b).registers p a) w off place)) (e2 ∙ register_is s)
      ∙ ap (λ q. first (store_reasons p a s (register_of (state_of b).registers p a) (register_of (state_of b).registers p s) off q)) place_is

  abbrev word : Slot
  word = keep_tag from (not (dies_in n from.cell))

  word_is : word ≡ stored (state_of b).core (register_of (state_of b).registers p s)
  word_is = ap (λ (q : Bool). keep_tag from (not q)) (dies_cached b f n en from.cell) ∙ ap (stored (state_of b).core) (e2 ∙ register_is s)

  effect_is : (cells tags : List ℕ) → effect_on (state_of b) call cells tags ≡ effect_of (state_of b).core keep_registers keep_mailboxes (write_words (write (place_number place) word ∷ [])) empty
  unfolding effect
  effect_is cells tags =
      sym (ap (λ w. effect_of (state_of b).core keep_registers keep_mailboxes (write_words (write (place_number place) w ∷ [])) empty) word_is
      ∙ ap (λ q. effect_of (state_of b).core keep_registers keep_mailboxes (write_words (write (place_number q) (stored (state_of b).core (register_of (state_of b).registers p s)) ∷ [])) empty) place_is)

  module _ (cells tags : List ℕ) where
    pub store_down : (r : Refusal) → number_of r ≡ first (store_reasons p a s to from off place)
        → leaving (answer (number_of r) empty) b cells tags ≡ left_of (ruled (state_of b) call cells tags)
    store_down r e = down b f call cells tags (number_of r) (e ∙ code_is cells tags) (number_some r)

    pub store_done : 0 ≡ first (store_reasons p a s to from off place) → (at : ℕ) → at ≡ unwrap_or place 0
        → (dying : Bool) → dying ≡ dies_in n from.cell → (x : Slot) → x ≡ keep_tag from (not dying)
        → (cells' tags' : List ℕ) → cells' ≡ set cells at x.cell → tags' ≡ set tags at (byte_of x.tag)
        → leaving (answer 0 empty) b cells' tags' ≡ left_of (ruled (state_of b) call cells tags)
    store_done e at ea dying ed x ex cells' tags' ec et =
        rw (ec, et, ex, ed, ea, unwrapped place) (written b f call cells tags 0 (e ∙ code_is cells tags) (place_number place) word refl (effect_is cells tags))
