-- Document 01, 'Commands': a call read from bytes. "Each call hands back the whole state, changed or as given, and how
-- many bytes it used: the command's length, or 0 under refusals 1 to 3." Assumes nothing.
use Rattle.std.specs.Prelude.{ℕ, List, length, drop, Option, Some, None}
use Rattle.capabilities.specs.Lists.{pick}
use Rattle.pages.specs.Layer.{serves}
use Rattle.calls.specs.declared.Call.{Call}
use Rattle.calls.specs.Reader.{read_of}
use Rattle.machine.specs.State.{State}
use Rattle.machine.specs.State.{Commanded}
use Rattle.machine.specs.Formed.{well_formed}
use Rattle.machine.specs.Step.{Outcome, refused, judged}

-- What a command leaves.
pub record Ran : Type 0 where
  pub command : Commanded
  pub cells : List ℕ
  pub tags : List ℕ

abbrev pub ran : Commanded → List ℕ → List ℕ → Ran
ran command cells tags = record { command = command; cells = cells; tags = tags }

abbrev pub used : ℕ → Outcome → Ran
used n o = ran (record { answered = o.answer; used = n }) o.cells o.tags

-- 3: "No byte is found at the place, the first byte is no command, or the input ends before its operands do."
unfoldable pub on_reading : State → Option (Call × ℕ) → List ℕ → List ℕ → Ran
on_reading s (Some (call, n)) cells tags = used n (judged s call cells tags)
on_reading s None cells tags = used 0 (refused 3 s cells tags)

-- The command at a place of the input, by refusals 2 and 3 and then its call.
unfoldable pub command_judged : State → List ℕ → ℕ → List ℕ → List ℕ → Ran
command_judged s input at cells tags =
    pick (serves s.core.pages (length cells) (length tags)) (on_reading s (read_of (drop at input)) cells tags) (used 0 (refused 2 s cells tags))

-- The same by refusal 1 before all others.
unfoldable pub command_of : State → List ℕ → ℕ → List ℕ → List ℕ → Ran
command_of s input at cells tags = pick (well_formed s) (command_judged s input at cells tags) (used 0 (refused 1 s cells tags))
