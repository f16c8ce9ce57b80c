-- One command on the writing of a machine that a history leaves: the step of the call that its bytes read as, or refusal 3 with all kept.
-- Refusals 1 and 2 do not come, since such a machine is well formed and its memory of the right size. Assumes nothing.
use Rattle.std.specs.Prelude.{Option, Some, None}
use Prim.Native.Nat.{ℕ, ◌<◌}
use mathlib.Core.Bool.{Bool, true, false, ◌&&◌}
use mathlib.Core.List.{List}
use mathlib.Core.Logic.{⊎_elim}
use mathlib.Core.Path.{◌≡◌, sym, ap, ◌∙◌}
use lib.ListN.{length, drop}
use lib.Dec.{leb}
use borrow.Author.Tests.{lt-leb}
use Rattle.capabilities.proofs.Choice.{pick_yes, never}
use Rattle.pages.specs.Layer.{serves}
use Rattle.calls.specs.declared.Call.{Call}
use Rattle.calls.specs.Reader.{read_of}
use Rattle.words.specs.Words.{empty}
use Rattle.machine.specs.State.{State}
use Rattle.machine.specs.Step.{Outcome, refused}
use Rattle.machine.specs.Command.{used, on_reading, command_judged, command_of}
use Rattle.machine.proofs.Judging.{judged_step, judged_command}
use Rattle.machine.proofs.Order.{late_code}
use Rattle.arrays.specs.Reading.{arrays_of}
use Rattle.arrays.specs.Steps.{answer, leaving, left_of}
use Rattle.arrays.proofs.RoundTrip.{state_back_again, written_formed}
use Rattle.formed.specs.Test.{formed_of}
use Rattle.formed.proofs.Tested.{passing}
use Rattle.session_rules.specs.Session.{ends_session}
use Rattle.step.specs.Entries.{ran_on, ran_of, command_judged_on, command_on}
use Rattle.histories.specs.Runs.{Machine, outcome, next}
use Rattle.histories.specs.Forming.{Standing}
use Rattle.histories.proofs.Forming.{standing_serves, standing_code}
use Rattle.refinement.specs.Calls.{written}

module _ (m : Machine) (v f : ℕ) (k : Standing m v f) where
  -- Its writing passes the test, and reads back as it was.
  pub passes : formed_of (arrays_of m.state) ≡ true
  passes = passing (arrays_of m.state) (written_formed m.state k.formed)

  -- An answer of a history ends no run.
  late : (n : ℕ) → 3 < n → ends_session n ≡ false
  late n h = ap (λ (b : Bool). leb 1 n && b) (lt-leb n 3 h) ∙ never (leb 1 n)

  pub goes_on_lem : (c : Call) → ends_session (outcome m c).answer.code ≡ false
  goes_on_lem c =
      ap (λ (n : ℕ). ends_session n) (standing_code m v f c k) ∙ ⊎_elim (λ z. ap (λ (n : ℕ). ends_session n) z) (λ z. late _ z) (late_code m.state c m.cells m.tags)

  module _ (input : List ℕ) (at : ℕ) where
    judged_reading : command_judged m.state input at m.cells m.tags ≡ on_reading m.state (read_of (drop at input)) m.cells m.tags
    unfolding command_judged
    judged_reading =
        pick_yes (serves m.state.core.pages (length m.cells) (length m.tags)) (on_reading m.state (read_of (drop at input)) m.cells m.tags)
        (used 0 (refused 2 m.state m.cells m.tags)) (standing_serves m v f k)

    -- By value, and in place.
    pub command_reading : command_of m.state input at m.cells m.tags ≡ on_reading m.state (read_of (drop at input)) m.cells m.tags
    command_reading = sym (judged_command m.state input at m.cells m.tags k.formed) ∙ judged_reading

    by_reading : command_on (arrays_of m.state) input at m.cells m.tags ≡ ran_of (on_reading m.state (read_of (drop at input)) m.cells m.tags)
    unfolding command_on command_judged_on
    by_reading =
        pick_yes (formed_of (arrays_of m.state)) (command_judged_on (arrays_of m.state) input at m.cells m.tags) (ran_on (leaving (answer 1 empty) (arrays_of m.state) m.cells m.tags) 0) passes
        ∙ ap (λ (s : State). ran_of (command_judged s input at m.cells m.tags)) (state_back_again m.state k.formed) ∙ ap ran_of judged_reading

    pub command_call : (c : Call) (n : ℕ) → read_of (drop at input) ≡ Some (c, n)
        → command_on (arrays_of m.state) input at m.cells m.tags
        ≡ ran_on (leaving (written (outcome m c).answer) (arrays_of (next m c).state) (next m c).cells (next m c).tags) n
    unfolding ran_of on_reading left_of outcome next
    command_call c n e =
        by_reading ∙ ap (λ (r : Option (Call × ℕ)). ran_of (on_reading m.state r m.cells m.tags)) e
        ∙ ap (λ (o : Outcome). ran_on (left_of o) n) (judged_step m.state c m.cells m.tags k.formed)

    pub command_none : read_of (drop at input) ≡ None
        → command_on (arrays_of m.state) input at m.cells m.tags ≡ ran_on (leaving (answer 3 empty) (arrays_of m.state) m.cells m.tags) 0
    unfolding ran_of on_reading left_of
    command_none e = by_reading ∙ ap (λ (r : Option (Call × ℕ)). ran_of (on_reading m.state r m.cells m.tags)) e
