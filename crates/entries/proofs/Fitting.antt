-- A call and a command on any arrays and lent memory, by whether they are fit. Assumes nothing.
use Prim.Native.Nat.{ℕ}
use mathlib.Core.Bool.{Bool, true, false, ◌&&◌}
use mathlib.Core.List.{List}
use mathlib.Core.Path.{◌≡◌, refl, sym, subst}
use Rattle.capabilities.specs.Lists.{pick}
use Rattle.calls.specs.declared.Call.{Call}
use Rattle.words.specs.Words.{empty}
use Rattle.arrays.specs.declared.Arrays.{Arrays}
use Rattle.arrays.specs.Steps.{Leaving, answer, leaving}
use Rattle.arrays.specs.Lent.{fits}
use Rattle.session_rules.specs.Session.{ends_session}
use Rattle.formed.specs.Test.{formed_of}
use Rattle.formed.proofs.Tested.{tested}
use Rattle.step.specs.Entries.{OnFormed, ruled_on, step_on, RanOn, ran_on, command_judged_on, command_on}
use Rattle.step.proofs.Commanding.{call_fits, call_unformed, call_formed, call_unfit, command_unformed, command_formed, command_unfit, fitted}

module _ (a : Arrays) (cells tags : List ℕ) where
  module _ (well : formed_of a ≡ true) (fit : fits a cells tags ≡ true) where
    pub fit_call : (c : Call) (x : Leaving) → OnFormed a cells tags (x ≡ ruled_on a c cells tags) → x ≡ step_on a c cells tags
    fit_call c x p = call_formed a cells tags c well x (call_fits a cells tags fit c x (p (tested a well) (fitted a cells tags fit)))

    pub fit_command : (input : List ℕ) (at : ℕ) (x : RanOn) → OnFormed a cells tags (x ≡ command_judged_on a input at cells tags) → x ≡ command_on a input at cells tags
    fit_command input at x p = command_formed a cells tags input at well x (p (tested a well) (fitted a cells tags fit))

  -- Refused, a call changes nothing, whichever of the two refusals it is.
  module _ (code : ℕ) (unfit : formed_of a && fits a cells tags ≡ false) (e : code ≡ pick (formed_of a) 2 1) where
    by_refusal : (P : ℕ → Type 0) → (formed_of a ≡ false → P 1) → (formed_of a ≡ true → fits a cells tags ≡ false → P 2) → P code
    by_refusal P one two = go (formed_of a) refl (unfit) e
      where
        go : (b : Bool) → formed_of a ≡ b → b && fits a cells tags ≡ false → code ≡ pick b 2 1 → P code
        go true f z d = subst P (sym d) (two f z)
        go false f z d = subst P (sym d) (one f)

    pub unfit_call : (c : Call) → leaving (answer code empty) a cells tags ≡ step_on a c cells tags
    unfit_call c =
        by_refusal (λ k. leaving (answer k empty) a cells tags ≡ step_on a c cells tags) (call_unformed a cells tags c)
        (λ f z. call_formed a cells tags c f _ (call_unfit a (tested a f) cells tags z c))

    pub unfit_command : (input : List ℕ) (at : ℕ) → ran_on (leaving (answer code empty) a cells tags) 0 ≡ command_on a input at cells tags
    unfit_command input at =
        by_refusal (λ k. ran_on (leaving (answer k empty) a cells tags) 0 ≡ command_on a input at cells tags) (command_unformed a cells tags input at)
        (λ f z. command_formed a cells tags input at f _ (command_unfit a (tested a f) cells tags z input at))

    -- It ends a run.
    pub unfit_ends : ends_session code ≡ true
    unfit_ends = by_refusal (λ k. ends_session k ≡ true) (λ f. refl) (λ f z. refl)
