-- Document 02, 2026-04: "From a fresh start no answer changes." For every list of calls from a start, over any lent memory, the machine
-- with takers answers, and leaves in registers, mailboxes, cells and tags, what the machine without them does (machine, Forgetting); and
-- so in the core, but for the takers. Assumes nothing.
use Rattle.std.specs.Prelude.{ℕ, List, [], ◌∷◌, map, ◌≡◌}
use Rattle.reservations.specs.Revocation.{forget_core}
use Rattle.calls.specs.declared.Call.{Call}
use Rattle.machine.specs.State.{Answered}
use Rattle.machine.specs.Formed.{start_of}
use Rattle.machine.specs.Step.{Outcome}
use Rattle.machine.specs.Forgetting.{forget_answer, start_bare, step_bare}
use Rattle.histories.specs.Runs.{Machine, machine, run, answers, begun}

-- A history of the machine without takers, as of the machine (Runs).
unfoldable pub outcome_bare : Machine → Call → Outcome
outcome_bare m c = step_bare m.state c m.cells m.tags

unfoldable pub next_bare : Machine → Call → Machine
next_bare m c = machine (outcome_bare m c).answer.state (outcome_bare m c).cells (outcome_bare m c).tags

unfoldable pub run_bare : Machine → List Call → Machine
run_bare m [] = m
run_bare m (c ∷ calls) = run_bare (next_bare m c) calls

unfoldable pub answers_bare : Machine → List Call → List Answered
answers_bare m [] = []
answers_bare m (c ∷ calls) = (outcome_bare m c).answer ∷ answers_bare (next_bare m c) calls

unfoldable pub begun_bare : ℕ → ℕ → List ℕ → List ℕ → Machine
begun_bare v f cells tags = machine (start_bare v f).state cells tags

-- What a history and the history without takers have in common. An answer is code, number, tag and the state handed back.
pub record Unchanged (v f : ℕ) (cells tags : List ℕ) (calls : List Call) : Type 0 where
  pub start : forget_answer (start_of v f) ≡ start_bare v f
  pub same : map forget_answer (answers (begun v f cells tags) calls) ≡ answers_bare (begun_bare v f cells tags) calls
  pub registers : (run (begun v f cells tags) calls).state.registers ≡ (run_bare (begun_bare v f cells tags) calls).state.registers
  pub mailboxes : (run (begun v f cells tags) calls).state.mailboxes ≡ (run_bare (begun_bare v f cells tags) calls).state.mailboxes
  pub of_cells : (run (begun v f cells tags) calls).cells ≡ (run_bare (begun_bare v f cells tags) calls).cells
  pub of_tags : (run (begun v f cells tags) calls).tags ≡ (run_bare (begun_bare v f cells tags) calls).tags
  pub core : forget_core (run (begun v f cells tags) calls).state.core ≡ (run_bare (begun_bare v f cells tags) calls).state.core

-- Whatever V and F are, and however long the lent memory is.
abbrev pub NoAnswerChanges : Type 0
NoAnswerChanges = (v f : ℕ) (cells tags : List ℕ) (calls : List Call) → Unchanged v f cells tags calls
