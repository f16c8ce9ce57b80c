-- A start over lent arrays. Assumes nothing.
use Rattle.std.specs.Prelude.{ℕ, ◌+◌, ◌*◌, length, replicate, set}
use Rattle.capabilities.specs.Lists.{pick}
use Rattle.machine.specs.Formed.{start_of}
use Rattle.arrays.specs.declared.Arrays.{Arrays}
use Rattle.arrays.specs.Reading.{arrays, arrays_of}
use Rattle.formed.specs.Test.{sized}

-- Every number 0, but for the small ones.
abbrev pub zeros : Arrays → Arrays
zeros a =
    arrays a.nums (replicate (length a.words) 0) (replicate (length a.marks) 0) (replicate (length a.mail) 0) (replicate (length a.flags) 0)
    (replicate (length a.rows) 0) (replicate (length a.pages) 0) (replicate (length a.frames) 0) (replicate (length a.principals) 0) (replicate (length a.counts) 0)

-- The small numbers, the one row and the one principal of a fresh state, put over what stands there.
abbrev pub opened : ℕ → ℕ → Arrays → Arrays
opened v f a =
    arrays (record { v = v; f = f; count = 1; place = 0; base = 0; length = 0 }) a.words a.marks a.mail a.flags
    (set a.rows 0 (1048576 * v + 2533274790395904)) a.pages a.frames (set a.principals 0 4294975488) a.counts

-- What a start leaves: its code and the arrays.
pub record Start : Type 0 where
  pub code : ℕ
  pub arrays : Arrays

abbrev pub starting : ℕ → Arrays → Start
starting code a = record { code = code; arrays = a }

-- A start for V and F, over arrays of the machine's lengths whatever stands in them: its state is written there, which is the all-zero
-- one if V or F is out of range. Arrays of other lengths get refusal 1 and are kept, every number.
unfoldable pub start_in : ℕ → ℕ → Arrays → Start
start_in v f a = pick (sized a) (starting (start_of v f).code (arrays_of (start_of v f).state)) (starting 1 a)
