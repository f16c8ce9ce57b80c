-- What the state by value promises beside the entries in place. Assumes nothing.
use Rattle.std.specs.Prelude.{ℕ}
use Rattle.words.specs.Words.{empty}
use Rattle.machine.specs.Formed.{start_of}
use Rattle.arrays.specs.declared.Arrays.{Arrays}
use Rattle.arrays.specs.declared.Answer.{Answer}
use Rattle.arrays.specs.Reading.{arrays_of}
use Rattle.arrays.specs.Steps.{answer}

-- A start: its answer, and the arrays that the state is written as.
pub record Begun : Type 0 where
  pub answer : Answer
  pub arrays : Arrays

abbrev pub beginning : Answer → Arrays → Begun
beginning r a = record { answer = r; arrays = a }

unfoldable pub start_on : ℕ → ℕ → Begun
start_on v f = beginning (answer (start_of v f).code empty) (arrays_of (start_of v f).state)
