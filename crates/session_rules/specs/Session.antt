-- Document 01, 'One session in full': "The program `desk` reads up to 32,768 bytes of standard input: V/2, F, then
-- commands, over zeroed memory of its own. It prints a decimal line `code number tag` for the start and each command, with
-- no header, and ends at the input's end or after a refusal 1 to 3. A short V or F prints `1 0 0`." Assumes nothing.
use Rattle.std.specs.Prelude.{ℕ, zero, suc, ◌+◌, ◌*◌, ◌≤◌, Bool, false, ◌&&◌, List, [], ◌++◌, length, get_or, take, drop, replicate, ltb, leb}
use Rattle.capabilities.specs.Lists.{pick}
use Rattle.machine.specs.State.{State}
use Rattle.machine.specs.State.{Answered}
use Rattle.machine.specs.Formed.{start_of}
use Rattle.machine.specs.Command.{command_of}
use Rattle.lines.specs.Lines.{line_of}

-- Refusals 1 to 3 end a session.
abbrev pub ends_session : ℕ → Bool
ends_session code = leb 1 code && leb code 3

-- An answer's line, and the lines that follow it if the session goes on.
abbrev pub line_then : Answered → List ℕ → List ℕ
line_then a rest = line_of a.code a.number a.tag ++ pick (ends_session a.code) [] rest

-- The lines of the commands from a place on, of which there are at most so many as the first number says.
unfoldable pub lines_from : ℕ → State → List ℕ → ℕ → List ℕ → List ℕ → List ℕ
lines_from zero s input at cells tags = []
lines_from (suc most) s input at cells tags =
    let r = command_of s input at cells tags in
    pick (ltb at (length input))
    (line_then r.command.answered (lines_from most r.command.answered.state input (at + r.command.used) r.cells r.tags)) []

-- "16 × F cells and 16 × F tag bytes", all 0.
abbrev pub zeroed : ℕ → List ℕ
zeroed f = replicate (16 * f) 0

-- The lines of commands on a fresh state. There are no more commands than bytes: one that goes on uses two at least.
abbrev pub lines_started : List ℕ → ℕ → ℕ → List ℕ
lines_started input v f = line_then (start_of v f) (lines_from (length input) (start_of v f).state input 3 (zeroed f) (zeroed f))

unfoldable pub lines_read : List ℕ → List ℕ
lines_read input = pick (ltb (length input) 3) (line_of 1 0 false) (lines_started input (256 * get_or input 0 0 + get_or input 1 0) (get_or input 2 0))

-- The lines that an input prints.
unfoldable pub lines_of : List ℕ → List ℕ
lines_of input = lines_read (take 32768 input)

-- The bytes written to a lent buffer, and the buffer then.
pub record Printed : Type 0 where
  pub count : ℕ
  pub buffer : List ℕ

abbrev pub printed : ℕ → List ℕ → Printed
printed count buffer = record { count = count; buffer = buffer }

-- Lines first in a lent buffer with its rest kept, or the buffer as it was if they do not fit.
unfoldable pub print_of : List ℕ → List ℕ → Printed
print_of lines out = pick (leb (length lines) (length out)) (printed (length lines) (lines ++ drop (length lines) out)) (printed 0 out)

-- A length that no buffer of both six bytes and 13 for each byte of the input is too short for.
abbrev pub Spared : ℕ → List ℕ → Type 0
Spared end input = (room : ℕ) → 6 ≤ room → 13 * length input ≤ room → end ≤ room
