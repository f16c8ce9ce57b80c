-- 0B in place. Assumes nothing.
use Rattle.std.specs.Prelude.{Option, unwrap_or}
use Prim.Native.Nat.{ℕ, ◌+◌, ◌*◌}
use native.Mathlib.Omega.{arith}
use mathlib.Core.Bool.{Bool, not, ◌&&◌}
use mathlib.Core.List.{List}
use mathlib.Core.Path.{◌≡◌, refl, sym, ap, ◌∙◌}
use lib.ListN.{set}
use Rattle.capabilities.specs.Capability.{base_of, permits}
use Rattle.capabilities.specs.declared.refusal.Refusal.{Refusal}
use Rattle.capabilities.specs.Refusals.{number_of, first}
use Rattle.capabilities.proofs.Refusals.{number_some, first_clear}
use Rattle.calls.specs.declared.Call.{Call}
use Rattle.calls.specs.declared.Call.TheVariants.{Load}
use Rattle.words.specs.declared.Slot.{Slot}
use Rattle.words.specs.Words.{empty, byte_of, keep_tag, word_at, loaded, register_of, place_number}
use Rattle.words.specs.WordReasons.{may_not_load, cell_reasons, load_reasons}
use Rattle.machine.specs.Reasons.{addressed, reasons}
use Rattle.machine.specs.Effects.{effect, effect_of, put_register, keep_mailboxes, keep_memory}
use Rattle.machine.specs.Step.{reasons_on, effect_on, ruled}
use Rattle.machine.proofs.Deeds.{found_fetched}
use Rattle.arrays.specs.declared.Arrays.{Arrays}
use Rattle.arrays.specs.declared.Numbers.{Numbers}
use Rattle.arrays.specs.Reading.{state_of, Formed}
use Rattle.arrays.specs.Steps.{answer, leaving, left_of, with_words}
use Rattle.arrays.proofs.Ruling.{down, registered}
use Rattle.words.specs.Lent.{register_in}
use Rattle.calls_in_place.specs.Parts.{lookup_in, dies_in}
use Rattle.calls_in_place.proofs.Reading.{register_read, addressed_by, unwrapped}
use Rattle.calls_in_place.proofs.Cached.{dies_cached}

module _ (b : Arrays) (f : Formed b) (n : Numbers) (pages : List ℕ) (en : b.nums ≡ n) (ep : b.pages ≡ pages) (p a off d : ℕ) (from : Slot) (place : Option ℕ)
    (e1 : from ≡ register_in b.words b.marks p a) (e2 : place ≡ lookup_in n.v pages (base_of from.cell + off)) where
  abbrev call : Call
  call = Load p a off d

  from_is : from ≡ register_of (state_of b).registers p a
  from_is = e1 ∙ sym (register_read b f p a)

  place_is : place ≡ addressed (state_of b).core (register_of (state_of b).registers p a) off
  place_is = e2 ∙ addressed_by b n pages en ep from off ∙ ap (λ w. addressed (state_of b).core w off) from_is

  code_is : (cells tags : List ℕ) → first (load_reasons p a d from off place) ≡ first (reasons_on (state_of b) call cells tags)
  unfolding reasons
  code_is cells tags = ap (λ w. first (load_reasons p a d w off place)) from_is ∙ ap (λ q. first (load_reasons p a d (register_of (state_of b).registers p a) off q)) place_is

  -- A granted load reads the word at the place.
  effect_is : (cells tags : List ℕ) → first (load_reasons p a d from off place) ≡ 0 → (x : Slot) → x ≡ loaded (state_of b).core from (word_at cells tags (place_number place))
      → effect_on (state_of b) call cells tags ≡ effect_of (state_of b).core (put_register p d x) keep_mailboxes keep_memory x
  unfolding reasons effect
  effect_is cells tags z x ex =
      let k = (state_of b).core in
      let w = register_of (state_of b).registers p a in
      let free : first (cell_reasons (may_not_load w) w off (addressed k w off)) ≡ 0 = (first_clear 4 _ _ (λ n. omega arith) (sym (code_is cells tags) ∙ z)).1 in
      ap (λ y. effect_of k (put_register p d y) keep_mailboxes keep_memory y)
      (found_fetched k cells tags w off free
      ∙ sym (ex ∙ ap (λ y. loaded k y (word_at cells tags (place_number place))) from_is ∙ ap (λ q. loaded k w (word_at cells tags (place_number q))) place_is))

  module _ (cells tags : List ℕ) where
    pub load_down : (r : Refusal) → number_of r ≡ first (load_reasons p a d from off place)
        → leaving (answer (number_of r) empty) b cells tags ≡ left_of (ruled (state_of b) call cells tags)
    load_down r e = down b f call cells tags (number_of r) (e ∙ code_is cells tags) (number_some r)

    pub load_done : 0 ≡ first (load_reasons p a d from off place) → (at : ℕ) → at ≡ unwrap_or place 0 → (w : Slot) → w ≡ word_at cells tags at
        → (dying : Bool) → dying ≡ dies_in n w.cell → (x : Slot) → x ≡ keep_tag w (permits from.cell 4 && not dying)
        → (words marks : List ℕ) → words ≡ set b.words (8 * p + d) x.cell → marks ≡ set b.marks (8 * p + d) (byte_of x.tag)
        → leaving (answer 0 x) (with_words b words marks) cells tags ≡ left_of (ruled (state_of b) call cells tags)
    load_done e at ea w eh dying ed x ex words marks ew em =
        let here : w ≡ word_at cells tags (place_number place) = eh ∙ ap (word_at cells tags) (ea ∙ unwrapped place) in
        rw (ew, em)
        (registered b f call cells tags 0 (e ∙ code_is cells tags) p d x x refl
        (effect_is cells tags (sym e) x (ex ∙ ap (λ (q : Bool). keep_tag w (permits from.cell 4 && not q)) (ed ∙ dies_cached b f n en w.cell) ∙ ap (loaded (state_of b).core from) here)))
