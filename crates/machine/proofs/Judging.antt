-- The ways in which a call comes out: done, or turned down with everything kept. Assumes nothing.
use Prim.Native.Nat.{ℕ}
use native.Mathlib.Omega.{arith}
use mathlib.Core.Bool.{Bool, true, false}
use mathlib.Core.List.{List}
use mathlib.Core.Path.{◌≡◌, refl, sym}
use lib.ListN.{length}
use lib.Dec.{eqb}
use borrow.Author.Tests.{eqb-true, eqb-false}
use Rattle.capabilities.specs.Lists.{pick}
use Rattle.capabilities.specs.Refusals.{first}
use Rattle.capabilities.proofs.Choice.{pick_yes}
use Rattle.pages.specs.Layer.{serves}
use Rattle.calls.specs.declared.Call.{Call}
use Rattle.machine.specs.State.{State}
use Rattle.machine.specs.Formed.{well_formed}
use Rattle.machine.specs.Step.{Outcome, refused, done, reasons_on, effect_on, ruled, judged, step_of}
use Rattle.machine.specs.Command.{used, command_judged, command_of}
use Rattle.machine.specs.Demands.{RefusedKeeps}

-- What holds of a choice holds if it holds of each side under its test.
pub pick_by : {A : Type 0} (P : A → Type 0) (b : Bool) (x y : A) → (b ≡ true → P x) → (b ≡ false → P y) → P (pick b x y)
pick_by P true x y f g = f refl
pick_by P false x y f g = g refl

-- A call that nothing speaks against.
pub record Granted (s : State) (c : Call) (cells tags : List ℕ) : Type 0 where
  pub formed : well_formed s ≡ true
  pub served : serves s.core.pages (length cells) (length tags) ≡ true
  pub clear : first (reasons_on s c cells tags) ≡ 0

module _ (s : State) (c : Call) (cells tags : List ℕ) (P : Outcome → Type 0) where
  -- What holds of a call that is done, and of one turned down by whatever number, holds of every call.
  pub ruled_by :
      (first (reasons_on s c cells tags) ≡ 0 → P (done s (effect_on s c cells tags) cells tags)) → ((k : ℕ) → (k ≡ 0 → ⊥) → P (refused k s cells tags))
      → P (ruled s c cells tags)
  unfolding ruled
  ruled_by granted down =
      let code = first (reasons_on s c cells tags) in
      pick_by P (eqb code 0) (done s (effect_on s c cells tags) cells tags) (refused code s cells tags) (λ e. granted (eqb-true code 0 e))
      (λ e. down code (eqb-false code 0 e))

  -- The same by refusal 2 first.
  pub judged_by :
      (serves s.core.pages (length cells) (length tags) ≡ true → first (reasons_on s c cells tags) ≡ 0 → P (done s (effect_on s c cells tags) cells tags))
      → ((k : ℕ) → (k ≡ 0 → ⊥) → P (refused k s cells tags)) → P (judged s c cells tags)
  unfolding judged
  judged_by granted down =
      pick_by P (serves s.core.pages (length cells) (length tags)) (ruled s c cells tags) (refused 2 s cells tags)
      (λ e. ruled_by (granted e) down) (λ e. down 2 (λ z. omega arith))

  -- The same by refusals 1 and 2 first.
  pub step_by :
      (Granted s c cells tags → P (done s (effect_on s c cells tags) cells tags)) → ((k : ℕ) → (k ≡ 0 → ⊥) → P (refused k s cells tags))
      → P (step_of s c cells tags)
  unfolding step_of
  step_by granted down =
      pick_by P (well_formed s) (judged s c cells tags) (refused 1 s cells tags)
      (λ w. judged_by (λ m e. granted (record { formed = w; served = m; clear = e })) down) (λ e. down 1 (λ z. omega arith))

module _ (s : State) (c : Call) (cells tags : List ℕ) where
  done_zero : (done s (effect_on s c cells tags) cells tags).answer.code ≡ 0
  unfolding done
  done_zero = refl

  -- For runs of many commands: on a well-formed state the step that looks no more at it is the step.
  pub judged_step : well_formed s ≡ true → judged s c cells tags ≡ step_of s c cells tags
  unfolding step_of
  judged_step h = sym (pick_yes (well_formed s) (judged s c cells tags) (refused 1 s cells tags) h)

-- The same of a command.
pub judged_command : (s : State) (input : List ℕ) (at : ℕ) (cells tags : List ℕ) → well_formed s ≡ true
    → command_judged s input at cells tags ≡ command_of s input at cells tags
unfolding command_of
judged_command s input at cells tags h =
    sym (pick_yes (well_formed s) (command_judged s input at cells tags) (used 0 (refused 1 s cells tags)) h)

pub refused_keeps : RefusedKeeps
refused_keeps s c cells tags =
    step_by s c cells tags (λ o. (o.answer.code ≡ 0 → ⊥) → o ≡ refused o.answer.code s cells tags)
    (λ g n. absurd (n (done_zero s c cells tags))) (λ k n m. refl)
