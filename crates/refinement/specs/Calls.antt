-- A list of calls, each by the entry in place on the arrays, cells and tags that the one before left, is a history of the rules: the same
-- answers, and the history's state written as arrays. Assumes nothing.
use Rattle.std.specs.Prelude.{ℕ, List, [], ◌∷◌, map, ◌≡◌}
use Rattle.calls.specs.declared.Call.{Call}
use Rattle.machine.specs.State.{Answered}
use Rattle.histories.specs.Runs.{Machine, run, answers, begun, Begins}
use Rattle.arrays.specs.declared.Answer.{Answer}
use Rattle.arrays.specs.declared.Arrays.{Arrays}
use Rattle.arrays.specs.Reading.{arrays_of}
use Rattle.step.specs.Entries.{step_on}
use Rattle.entries.specs.ByValue.{start_on}

-- What calls leave: their answers in order, the arrays, and the lent cells and tags.
pub record Trace : Type 0 where
  pub answers : List Answer
  pub arrays : Arrays
  pub cells : List ℕ
  pub tags : List ℕ

abbrev pub trace : List Answer → Arrays → List ℕ → List ℕ → Trace
trace l a cells tags = record { answers = l; arrays = a; cells = cells; tags = tags }

-- A trace with an answer before it.
abbrev pub preceding : Answer → Trace → Trace
preceding r t = trace (r ∷ t.answers) t.arrays t.cells t.tags

-- By the entry, call after call.
unfoldable pub steps_on : Arrays → List Call → List ℕ → List ℕ → Trace
steps_on a [] cells tags = trace [] a cells tags
steps_on a (c ∷ calls) cells tags =
    let l = step_on a c cells tags in
    preceding l.answer (steps_on l.arrays calls l.cells l.tags)

-- By the history: its answers without their states, and what it leaves, written.
abbrev pub written : Answered → Answer
written a = record { code = a.code; number = a.number; tag = a.tag }

abbrev pub trace_of : Machine → List Call → Trace
trace_of m calls = trace (map written (answers m calls)) (arrays_of (run m calls).state) (run m calls).cells (run m calls).tags

abbrev pub CallsAreHistories : Type 0
CallsAreHistories =
    (v f : ℕ) (cells tags : List ℕ) → Begins v f cells tags → (calls : List Call)
    → steps_on (start_on v f).arrays calls cells tags ≡ trace_of (begun v f cells tags) calls
