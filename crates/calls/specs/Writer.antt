-- What writing a call leaves in a lent buffer.
use Rattle.std.specs.Prelude.{ℕ, List, ◌++◌, length, drop, leb, Option, Some, None}
use Rattle.capabilities.specs.Lists.{pick}
use Rattle.calls.specs.Commands.{bytes_of}
use Rattle.calls.specs.declared.Call.{Call}

-- A refusal's number, the length answered and the buffer.
pub record Outcome : Type 0 where
  pub code : ℕ
  pub len : ℕ
  pub buffer : List ℕ

abbrev pub outcome : ℕ → ℕ → List ℕ → Outcome
outcome code n out = record { code = code; len = n; buffer = out }

-- The paper's numbers for each case of the answer, with the buffer that goes with it.
abbrev pub outcome_of : Option ℕ → List ℕ → Outcome
outcome_of (Some n) out = outcome 0 n out
outcome_of None out = outcome 3 0 out

-- Bytes put first in a buffer that has room for them.
abbrev pub put_of : List ℕ → List ℕ → Outcome
put_of bytes out =
    pick (leb (length bytes) (length out))
    (outcome 0 (length bytes) (bytes ++ drop (length bytes) out))
    (outcome 3 0 out)

unfoldable pub write_of : Call → List ℕ → Outcome
write_of c out = put_of (bytes_of c) out
