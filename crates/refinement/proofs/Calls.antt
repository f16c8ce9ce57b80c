-- Calls in place are histories: a well-formed state, written as arrays, reads back as itself, so that the entry does the rule's step, and
-- every state of a history is well formed. Assumes nothing.
use Prim.Native.Nat.{ℕ}
use mathlib.Core.Bool.{true}
use mathlib.Core.List.{List, [], ◌∷◌}
use mathlib.Core.Path.{◌≡◌, refl, ap, ◌∙◌}
use Rattle.calls.specs.declared.Call.{Call}
use Rattle.machine.specs.State.{State}
use Rattle.machine.specs.Formed.{well_formed}
use Rattle.machine.specs.Step.{step_of}
use Rattle.histories.specs.Runs.{Machine, outcome, next, run, answers, begun}
use Rattle.histories.specs.Forming.{Standing}
use Rattle.histories.proofs.Forming.{standing_next, standing_begun}
use Rattle.arrays.specs.Reading.{arrays_of}
use Rattle.arrays.specs.Steps.{Leaving, left_of}
use Rattle.arrays.proofs.RoundTrip.{state_back_again, written_formed}
use Rattle.formed.proofs.Tested.{passing}
use Rattle.step.specs.Entries.{judged_on, step_on}
use Rattle.entries.specs.ByValue.{start_on}
use Rattle.refinement.specs.Calls.{preceding, steps_on, written, trace_of, CallsAreHistories}

step_written : (s : State) (c : Call) (cells tags : List ℕ) → well_formed s ≡ true → step_on (arrays_of s) c cells tags ≡ left_of (step_of s c cells tags)
unfolding step_on judged_on step_of
step_written s c cells tags w = rw (passing (arrays_of s) (written_formed s w), state_back_again s w, w)

steps_run : (calls : List Call) (m : Machine) (v f : ℕ) → Standing m v f → steps_on (arrays_of m.state) calls m.cells m.tags ≡ trace_of m calls
unfolding steps_on run answers next outcome left_of
steps_run [] m v f k = refl
steps_run (c ∷ calls) m v f k =
    ap (λ (l : Leaving). preceding l.answer (steps_on l.arrays calls l.cells l.tags)) (step_written m.state c m.cells m.tags k.formed)
    ∙ ap (preceding (written (outcome m c).answer)) (steps_run calls (next m c) v f (standing_next m v f c k))

pub calls_are_histories : CallsAreHistories
unfolding start_on begun
calls_are_histories v f cells tags b calls = steps_run calls (begun v f cells tags) v f (standing_begun v f cells tags b)
