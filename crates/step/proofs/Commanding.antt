-- A command on well-formed arrays: read, and then its call or refusal 3. And on any arrays: refusals 1 and 2. Assumes nothing.
use Rattle.std.specs.Prelude.{Option, Some, None}
use Prim.Native.Nat.{ℕ, ◌*◌}
use mathlib.Core.Bool.{true, false}
use mathlib.Core.List.{List}
use mathlib.Core.Path.{◌≡◌, refl, sym, ap, ◌∙◌}
use lib.ListN.{length, drop}
use lib.Dec.{eqb}
use borrow.Author.Tests.{eq-eqb, eqb-true}
use Rattle.capabilities.proofs.Choice.{pick_yes, pick_no, and_left, and_right}
use Rattle.table.proofs.Truth.{both}
use Rattle.pages.specs.Layer.{serves}
use Rattle.calls.specs.declared.Call.{Call}
use Rattle.calls.specs.Reader.{read_of}
use Rattle.words.specs.Words.{empty}
use Rattle.machine.specs.Step.{refused, ruled, judged}
use Rattle.machine.specs.Command.{used, on_reading, command_judged}
use Rattle.arrays.specs.declared.Arrays.{Arrays}
use Rattle.arrays.specs.Reading.{core_of, state_of, Formed}
use Rattle.arrays.specs.Lent.{fits}
use Rattle.arrays.specs.Steps.{Leaving, answer, leaving, left_of}
use Rattle.arrays.proofs.Ruling.{wrote}
use Rattle.formed.specs.Test.{formed_of}
use Rattle.step.specs.Entries.{ruled_on, judged_on, step_on, RanOn, ran_on, ran_of, command_judged_on, command_on}

pub fitting : (a : Arrays) (cells tags : List ℕ) → length cells ≡ 16 * a.nums.f → length tags ≡ 16 * a.nums.f → fits a cells tags ≡ true
fitting a cells tags hc ht =
    both (eqb (length cells) (16 * a.nums.f)) (eqb (length tags) (16 * a.nums.f)) (eq-eqb (length cells) (16 * a.nums.f) hc) (eq-eqb (length tags) (16 * a.nums.f) ht)

served : (a : Arrays) (cells tags : List ℕ) → serves (state_of a).core.pages (length cells) (length tags) ≡ fits a cells tags
unfolding state_of core_of
served a cells tags = refl

module _ (a : Arrays) (cells tags : List ℕ) (e : fits a cells tags ≡ true) where
  pub call_fits : (c : Call) (x : Leaving) → x ≡ ruled_on a c cells tags → x ≡ judged_on a c cells tags
  unfolding ruled_on judged_on judged
  call_fits c x d =
      d ∙ ap left_of (sym (pick_yes (serves (state_of a).core.pages (length cells) (length tags)) (ruled (state_of a) c cells tags) (refused 2 (state_of a) cells tags) (served a cells tags ∙ e)))

  module _ (input : List ℕ) (at : ℕ) where
    command_fits : (t : Option (Call × ℕ)) → read_of (drop at input) ≡ t → ran_of (on_reading (state_of a) t cells tags) ≡ command_judged_on a input at cells tags
    unfolding command_judged_on command_judged
    command_fits t r =
        ap (λ (x : Option (Call × ℕ)). ran_of (on_reading (state_of a) x cells tags)) (sym r)
        ∙ ap ran_of (sym (pick_yes (serves (state_of a).core.pages (length cells) (length tags)) (on_reading (state_of a) (read_of (drop at input)) cells tags) (used 0 (refused 2 (state_of a) cells tags)) (served a cells tags ∙ e)))

    pub command_reads : (c : Call) (n : ℕ) → read_of (drop at input) ≡ Some (c, n) → (x : Leaving) → x ≡ ruled_on a c cells tags → ran_on x n ≡ command_judged_on a input at cells tags
    unfolding ran_of on_reading judged_on
    command_reads c n r x d = ap (λ (y : Leaving). ran_on y n) (call_fits c x d) ∙ command_fits (Some (c, n)) r

    pub command_none : Formed a → read_of (drop at input) ≡ None → ran_on (leaving (answer 3 empty) a cells tags) 0 ≡ command_judged_on a input at cells tags
    unfolding ran_of on_reading
    command_none f r = ap (λ (y : Leaving). ran_on y 0) (wrote 3 empty (state_of a) a cells tags (sym f.kept)) ∙ command_fits None r

-- Refusal 2.
module _ (a : Arrays) (f : Formed a) (cells tags : List ℕ) (e : fits a cells tags ≡ false) where
  pub call_unfit : (c : Call) → leaving (answer 2 empty) a cells tags ≡ judged_on a c cells tags
  unfolding judged_on judged
  call_unfit c =
      wrote 2 empty (state_of a) a cells tags (sym f.kept)
      ∙ ap left_of (sym (pick_no (serves (state_of a).core.pages (length cells) (length tags)) (ruled (state_of a) c cells tags) (refused 2 (state_of a) cells tags) (served a cells tags ∙ e)))

  pub command_unfit : (input : List ℕ) (at : ℕ) → ran_on (leaving (answer 2 empty) a cells tags) 0 ≡ command_judged_on a input at cells tags
  unfolding command_judged_on command_judged ran_of
  command_unfit input at =
      ap (λ (y : Leaving). ran_on y 0) (wrote 2 empty (state_of a) a cells tags (sym f.kept))
      ∙ ap ran_of (sym (pick_no (serves (state_of a).core.pages (length cells) (length tags)) (on_reading (state_of a) (read_of (drop at input)) cells tags) (used 0 (refused 2 (state_of a) cells tags)) (served a cells tags ∙ e)))

-- Refusal 1, and what comes after it.
module _ (a : Arrays) (cells tags : List ℕ) where
  pub call_unformed : (c : Call) → formed_of a ≡ false → leaving (answer 1 empty) a cells tags ≡ step_on a c cells tags
  unfolding step_on
  call_unformed c e = sym (pick_no (formed_of a) (judged_on a c cells tags) (leaving (answer 1 empty) a cells tags) e)

  pub call_formed : (c : Call) → formed_of a ≡ true → (x : Leaving) → x ≡ judged_on a c cells tags → x ≡ step_on a c cells tags
  unfolding step_on
  call_formed c e x d = d ∙ sym (pick_yes (formed_of a) (judged_on a c cells tags) (leaving (answer 1 empty) a cells tags) e)

  module _ (input : List ℕ) (at : ℕ) where
    pub command_unformed : formed_of a ≡ false → ran_on (leaving (answer 1 empty) a cells tags) 0 ≡ command_on a input at cells tags
    unfolding command_on
    command_unformed e = sym (pick_no (formed_of a) (command_judged_on a input at cells tags) (ran_on (leaving (answer 1 empty) a cells tags) 0) e)

    pub command_formed : formed_of a ≡ true → (x : RanOn) → x ≡ command_judged_on a input at cells tags → x ≡ command_on a input at cells tags
    unfolding command_on
    command_formed e x d = d ∙ sym (pick_yes (formed_of a) (command_judged_on a input at cells tags) (ran_on (leaving (answer 1 empty) a cells tags) 0) e)

-- What a test of the sizes says.
pub fitted : (a : Arrays) (cells tags : List ℕ) → fits a cells tags ≡ true → (length cells ≡ 16 * a.nums.f) × (length tags ≡ 16 * a.nums.f)
fitted a cells tags e = (
  eqb-true (length cells) (16 * a.nums.f) (and_left (eqb (length cells) (16 * a.nums.f)) (eqb (length tags) (16 * a.nums.f)) e),
  eqb-true (length tags) (16 * a.nums.f) (and_right (eqb (length cells) (16 * a.nums.f)) (eqb (length tags) (16 * a.nums.f)) e),
)
