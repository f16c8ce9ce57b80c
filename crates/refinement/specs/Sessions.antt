-- A session is a history: `desk` prints the line of its start and then the lines of the answers to the calls that its bytes read as,
-- from the start on over zeroed memory. Assumes nothing.
use Rattle.std.specs.Prelude.{ℕ, ◌+◌, ◌*◌, ◌≤◌, false, List, [], ◌∷◌, ◌++◌, ◌≡◌, length, get_or, take, ltb, eqb}
use Rattle.capabilities.specs.Lists.{pick}
use Rattle.machine.specs.State.{Answered}
use Rattle.machine.specs.Formed.{start_of}
use Rattle.lines.specs.Lines.{line_of}
use Rattle.session_rules.specs.Session.{zeroed, lines_of}
use Rattle.histories.specs.Runs.{Machine, answers, begun}
use Rattle.refinement.specs.Inputs.{Parse, parse_from}

-- A line for each answer.
unfoldable pub answer_lines : List Answered → List ℕ
answer_lines [] = []
answer_lines (a ∷ l) = line_of a.code a.number a.tag ++ answer_lines l

-- The lines of a history, and `3 0 0` where bytes are left that read as no call.
abbrev pub history_lines : Machine → Parse → List ℕ
history_lines m p = answer_lines (answers m p.calls) ++ pick p.stuck (line_of 3 0 false) []

-- A start that is granted, and the history of the bytes from place 3 on; or refused.
abbrev pub started_lines : ℕ → List ℕ → ℕ → ℕ → List ℕ
started_lines room input v f =
    pick (eqb (start_of v f).code 0) (line_of 0 0 false ++ history_lines (begun v f (zeroed f) (zeroed f)) (parse_from room input 3)) (line_of 1 0 false)

-- An input that is too short for V and F has the line of a refused start.
unfoldable pub session_lines : ℕ → List ℕ → List ℕ
session_lines room input =
    pick (ltb (length input) 3) (line_of 1 0 false) (started_lines room input (256 * get_or input 0 0 + get_or input 1 0) (get_or input 2 0))

-- Of every input, with its first 32,768 bytes; and with room for any number of calls from as many as there are bytes on.
abbrev pub SessionsAreHistories : Type 0
SessionsAreHistories = (input : List ℕ) (room : ℕ) → length input ≤ room → lines_of input ≡ session_lines room (take 32768 input)
