-- Document 02, 2026-04: "From a fresh start no answer changes". The machine without takers, by erasure: a state of it has 0 for every
-- taker, its rules are the machine's own, and what they write as a taker is forgotten again. Of a well-formed state it asks document 01's
-- lines alone. So no rule is written twice, and a call of it finds 0 for each taker, whatever was written before. Assumes nothing.
use Rattle.std.specs.Prelude.{ℕ, List}
use Rattle.capabilities.specs.Lists.{pick}
use Rattle.reservations.specs.Revocation.{forget_core}
use Rattle.calls.specs.declared.Call.{Call}
use Rattle.machine.specs.State.{State}
use Rattle.machine.specs.State.{Answered}
use Rattle.machine.specs.Formed.{formed_bare, start_of}
use Rattle.machine.specs.Step.{Outcome, outcome_with, refused, judged}

-- A state without takers.
abbrev pub forget : State → State
forget s = record { core = forget_core s.core; registers = s.registers; mailboxes = s.mailboxes }

-- An answer, and what a call leaves: the state handed back is without takers, and all else as it is.
abbrev pub forget_answer : Answered → Answered
forget_answer a = record { code = a.code; number = a.number; tag = a.tag; state = forget a.state }

abbrev pub forget_outcome : Outcome → Outcome
forget_outcome o = outcome_with (forget_answer o.answer) o.cells o.tags

-- A start and a call of the machine without takers.
unfoldable pub start_bare : ℕ → ℕ → Answered
start_bare v f = forget_answer (start_of v f)

unfoldable pub step_bare : State → Call → List ℕ → List ℕ → Outcome
step_bare s c cells tags = forget_outcome (pick (formed_bare s) (judged s c cells tags) (refused 1 s cells tags))
