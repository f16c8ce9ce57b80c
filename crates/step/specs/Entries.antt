-- What the entries promise: a call or a command on arrays is the rule on the state read, written back. Assumes nothing.
use Rattle.std.specs.Prelude.{ℕ, ◌*◌, List, ◌≡◌, length}
use Rattle.capabilities.specs.Lists.{pick}
use Rattle.calls.specs.declared.Call.{Call}
use Rattle.words.specs.Words.{empty}
use Rattle.machine.specs.Step.{outcome_with, ruled, judged}
use Rattle.machine.specs.Command.{Ran, command_judged}
use Rattle.arrays.specs.declared.Arrays.{Arrays}
use Rattle.arrays.specs.Reading.{state_of, Formed}
use Rattle.arrays.specs.Steps.{Leaving, answer, leaving, left_of}
use Rattle.formed.specs.Test.{formed_of}

-- What is promised on well-formed arrays and lent memory of the right size, and on no other.
abbrev pub OnFormed : Arrays → List ℕ → List ℕ → Type 0 → Type 0
OnFormed a cells tags p = Formed a → (length cells ≡ 16 * a.nums.f) × (length tags ≡ 16 * a.nums.f) → p

-- A call on well-formed arrays, by refusals from 4 on; and by refusal 2 first.
unfoldable pub ruled_on : Arrays → Call → List ℕ → List ℕ → Leaving
ruled_on a c cells tags = left_of (ruled (state_of a) c cells tags)

unfoldable pub judged_on : Arrays → Call → List ℕ → List ℕ → Leaving
judged_on a c cells tags = left_of (judged (state_of a) c cells tags)

-- A call on any arrays: those that are not well formed get refusal 1 and are kept, every number.
unfoldable pub step_on : Arrays → Call → List ℕ → List ℕ → Leaving
step_on a c cells tags = pick (formed_of a) (judged_on a c cells tags) (leaving (answer 1 empty) a cells tags)

-- What a command leaves, and how many bytes it used.
pub record RanOn : Type 0 where
  pub left : Leaving
  pub used : ℕ

abbrev pub ran_on : Leaving → ℕ → RanOn
ran_on l n = record { left = l; used = n }

unfoldable pub ran_of : Ran → RanOn
ran_of r = ran_on (left_of (outcome_with r.command.answered r.cells r.tags)) r.command.used

-- The command at a place of the input, on well-formed arrays; and on any.
unfoldable pub command_judged_on : Arrays → List ℕ → ℕ → List ℕ → List ℕ → RanOn
command_judged_on a input at cells tags = ran_of (command_judged (state_of a) input at cells tags)

unfoldable pub command_on : Arrays → List ℕ → ℕ → List ℕ → List ℕ → RanOn
command_on a input at cells tags =
    pick (formed_of a) (command_judged_on a input at cells tags) (ran_on (leaving (answer 1 empty) a cells tags) 0)
