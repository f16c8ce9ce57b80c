-- What the walk puts: the lines of all histories that go on from some arrays. Assumes nothing.
use Rattle.std.specs.Prelude.{ℕ, zero, suc, eqb, Option, Some, None}
use mathlib.Core.List.{List, [], ◌++◌, map, flatten}
use Rattle.capabilities.specs.Lists.{pick}
use Rattle.calls.specs.Commands.{bytes_of}
use Rattle.calls.specs.declared.Call.{Call}
use Rattle.arrays.specs.declared.Arrays.{Arrays}
use Rattle.arrays.specs.Steps.{Leaving}
use Rattle.step.specs.Entries.{step_on}
use Rattle.short_histories.specs.Listed.{listed}
use Rattle.short_histories.specs.Text.{hex_line}

-- Where a granted call led.
pub record Led : Type 0 where
  pub arrays : Arrays
  pub cells : List ℕ
  pub tags : List ℕ

abbrev pub leading : Arrays → List ℕ → List ℕ → Led
leading a cells tags = record { arrays = a; cells = cells; tags = tags }

unfoldable pub led_by : Leaving → Option Led
led_by l = pick (eqb l.answer.code 0) (Some (leading l.arrays l.cells l.tags)) None

-- The lines that go on behind a call, if it was granted: its bytes stand behind the earlier ones.
unfoldable pub onward : (List ℕ → Arrays → List ℕ → List ℕ → List ℕ) → List ℕ → Call → Option Led → List ℕ
onward lines bytes c (Some t) = lines (bytes ++ bytes_of c) t.arrays t.cells t.tags
onward lines bytes c None = []

-- The lines of all histories that begin with some bytes and go on from some arrays and lent memory with n listed commands.
unfoldable pub lines_on : ℕ → List ℕ → Arrays → List ℕ → List ℕ → List ℕ
lines_on zero bytes a cells tags = hex_line bytes
lines_on (suc n) bytes a cells tags = flatten (map (λ c. onward (lines_on n) bytes c (led_by (step_on a c cells tags))) listed)
