-- Commands one after another on arrays: a command on arrays is a command of the session on the state read. Assumes nothing.
use Prim.Native.Nat.{ℕ}
use mathlib.Core.Bool.{true}
use mathlib.Core.List.{List}
use mathlib.Core.Path.{◌≡◌, sym, ap, subst, ◌∙◌}
use lib.ListN.{length}
use Rattle.machine.specs.State.{State}
use Rattle.machine.specs.State.{Commanded}
use Rattle.machine.specs.Formed.{well_formed}
use Rattle.machine.specs.Command.{Ran, ran, command_of}
use Rattle.machine.proofs.Judging.{judged_command}
use Rattle.machine.proofs.Commands.{command_keeps}
use Rattle.machine.proofs.Unchanged.{command_same}
use Rattle.arrays.specs.declared.Arrays.{Arrays}
use Rattle.arrays.specs.declared.Answer.{Answer}
use Rattle.arrays.specs.Reading.{core_of, state_of, arrays_of, Formed}
use Rattle.arrays.specs.Steps.{leaving, left_of}
use Rattle.arrays.proofs.RoundTrip.{state_back_again, written_formed}
use Rattle.arrays.proofs.Facts.{lengths}
use Rattle.step.specs.Entries.{RanOn, ran_on, ran_of, command_judged_on}

-- What a command on arrays leaves, said as the session says it.
abbrev pub commanded : Answer → Arrays → ℕ → Commanded
commanded r a n = record { answered = record { code = r.code; number = r.number; tag = r.tag; state = state_of a }; used = n }

module _ (a : Arrays) (f : Formed a) (input : List ℕ) (at : ℕ) (cells tags : List ℕ) (r : Answer) (a' : Arrays) (cells' tags' : List ℕ) (n : ℕ)
    (e : ran_on (leaving r a' cells' tags') n ≡ command_judged_on a input at cells tags) where
  abbrev o : Ran
  o = command_of (state_of a) input at cells tags

  told : ran_on (leaving r a' cells' tags') n ≡ ran_of o
  unfolding command_judged_on
  told = e ∙ ap ran_of (judged_command (state_of a) input at cells tags f.well)

  well : well_formed o.command.answered.state ≡ true
  well = command_keeps (state_of a) input at cells tags f.well

  written : a' ≡ arrays_of o.command.answered.state
  unfolding ran_of left_of
  written = ap (λ (x : RanOn). x.left.arrays) told

  pub ran_formed : Formed a'
  ran_formed = subst Formed (sym written) (written_formed o.command.answered.state well)

  back : state_of a' ≡ o.command.answered.state
  back = ap state_of written ∙ state_back_again o.command.answered.state well

  pub ran_on_lem : ran (commanded r a' n) cells' tags' ≡ command_of (state_of a) input at cells tags
  unfolding ran_of left_of
  ran_on_lem =
      ap (λ (s : State). ran (record { answered = record { code = r.code; number = r.number; tag = r.tag; state = s }; used = n }) cells' tags') back
      ∙ ap (λ (x : RanOn). ran (record { answered = record { code = x.left.answer.code; number = x.left.answer.number; tag = x.left.answer.tag; state = o.command.answered.state }; used = x.used }) x.left.cells x.left.tags) told

  pub ran_sized : a'.nums.f ≡ a.nums.f
  unfolding state_of core_of
  ran_sized = ap (λ (s : State). s.core.pages.f) back ∙ (command_same (state_of a) input at cells tags).of_f
