-- One command, as it is done: a run of one, or a refusal where no byte is left. Assumes nothing.
use Prim.Native.Nat.{ℕ, ◌+◌, ◌/◌, ◌≤◌, ◌<◌}
use native.Mathlib.Omega.{arith}
use mathlib.Core.Bool.{Bool, true, false, not, ◌&&◌, true≢false}
use mathlib.Core.List.{List, ◌++◌}
use mathlib.Core.Path.{◌≡◌, refl, sym, ap, ap₂, ◌∙◌}
use Rattle.std.specs.Prelude.{Result, Ok, Err}
use Rattle.std.specs.Result.{result_err}
use Rattle.std.specs.Option.{unwrap_or}
use Rattle.capabilities.specs.declared.refusal.Refusal.{Refusal}
use Rattle.capabilities.specs.declared.refusal.Refusal.TheVariants.{Command}
use Rattle.capabilities.specs.Refusals.{number_of}
use Rattle.entries.specs.Fit.{Fit}
use lib.ListN.{length, drop, drop_of_length-le}
use Rattle.capabilities.specs.Lists.{pick}
use Rattle.calls.proofs.Inputs.{past_the_end}
use Rattle.words.specs.Words.{empty}
use Rattle.arrays.specs.declared.Arrays.{Arrays}
use Rattle.arrays.specs.Steps.{answer, leaving}
use Rattle.formed.specs.Test.{formed_of}
use Rattle.formed.proofs.Tested.{tested}
use Rattle.step.specs.Entries.{RanOn, ran_on, command_on}
use Rattle.entries.specs.Runs.{Run, answer_numbers, run_of, run_on, run_in}
use Rattle.arrays.specs.Lent.{fits}
use Rattle.step.proofs.Commanding.{command_none, command_unfit, command_unformed, command_formed}
use Rattle.entries.proofs.Composing.{once, run_one}
use Rattle.cetomuhi.specs.Exports.{end_code}

module _ (a : Arrays) (input : List ℕ) (at : ℕ) (cells tags : List ℕ) where
  abbrev t : RanOn
  t = command_on a input at cells tags

  -- A run with room for one answer is the command.
  pub run_of_one : at < length input → (buffer : List ℕ) → length buffer ≡ 4 → run_in a input at cells tags buffer ≡ once at (command_on a input at cells tags)
  unfolding run_in
  run_of_one h buffer e =
      ap (λ (n : ℕ). laid (run_on (n / 4) a input at cells tags)) e
      ∙ ap laid (run_one input a at cells tags h)
      ∙ ap (λ (l : List ℕ). run_of 1 (at + t.used) t.left.arrays t.left.cells t.left.tags (answer_numbers t.left.answer t.used ++ l))
      (drop_of_length-le buffer {i = 4} (omega (arith, e)))
    where
      laid : Run → Run
      laid r = run_of r.done r.at r.arrays r.cells r.tags (r.answers ++ drop (length r.answers) buffer)

  -- A refusal that leaves all as it is.
  abbrev turned : ℕ → RanOn
  turned code = ran_on (leaving (answer code empty) a cells tags) 0

  code_is : (b d : Bool) → formed_of a ≡ b → fits a cells tags ≡ d → end_code (formed_of a) a.nums.f cells tags ≡ pick (not b) 1 (pick (not d) 2 3)
  unfolding end_code
  code_is b d p q =
      ap (λ (x : Bool). pick (not x) 1 (pick (not (fits a cells tags)) 2 3)) p ∙ ap (λ (x : Bool). pick (not b) 1 (pick (not x) 2 3)) q

  -- Where no byte is left, a command is refused.
  pub command_ended : length input ≤ at → turned (end_code (formed_of a) a.nums.f cells tags) ≡ command_on a input at cells tags
  command_ended h = go (formed_of a) (fits a cells tags) refl refl
    where
      go : (b d : Bool) → formed_of a ≡ b → fits a cells tags ≡ d → turned (end_code (formed_of a) a.nums.f cells tags) ≡ t
      go true true p q =
          ap turned (code_is true true p q)
          ∙ command_formed a cells tags input at p (turned 3) (command_none a cells tags q input at (tested a p) (sym (past_the_end (drop_of_length-le input h)).is))
      go true false p q = ap turned (code_is true false p q) ∙ command_formed a cells tags input at p (turned 2) (command_unfit a (tested a p) cells tags q input at)
      go false d p q = ap turned (code_is false d p q) ∙ command_unformed a cells tags input at p

-- Which refusal that is: the first of 1 and 2 that applies, or else 3.
pub end_is : {A : Type 0} (a : Arrays) (cells tags : List ℕ) (r : Result A Refusal) → Fit r a cells tags
    → number_of (unwrap_or (result_err r) Command) ≡ end_code (formed_of a) a.nums.f cells tags
unfolding end_code
end_is a cells tags (Ok x) f = sym (ap₂ (λ b d. pick (not b) 1 (pick (not d) 2 3)) f.0 f.1)
end_is a cells tags (Err e) f = f.1 ∙ go (formed_of a) (fits a cells tags) f.0
  where
    go : (b d : Bool) → b && d ≡ false → ◌≡◌ {A = ℕ} (pick b 2 1) (pick (not b) 1 (pick (not d) 2 3))
    go true true z = absurd (true≢false z)
    go true false z = refl
    go false d z = refl
