-- What is read at the beginning of an input.
use Rattle.std.specs.Prelude.{ℕ, Bool, false, ◌&&◌, List, [], ◌∷◌, ◌≡◌, length, get_or, ltb, leb, Option, Some, None}
use Rattle.capabilities.specs.Lists.{pick}
use Rattle.calls.specs.Commands.{command_length, call_at}
use Rattle.calls.specs.declared.Call.{Call}

-- The first byte; 0, which is no command, where there is none.
abbrev pub first_byte : List ℕ → ℕ
first_byte s = get_or s 0 0

-- The first byte is a command, and the input holds all of it.
unfoldable pub whole : List ℕ → Bool
whole [] = false
whole (k ∷ s) = ltb 0 (command_length k) && leb (command_length k) (length (k ∷ s))

-- A call and the bytes it used.
abbrev pub read : Call → ℕ → Option (Call × ℕ)
read call used = Some (call, used)

-- These, or the refusal.
unfoldable pub read_of : List ℕ → Option (Call × ℕ)
read_of s = pick (whole s) (read (call_at (first_byte s) s) (command_length (first_byte s))) None

-- A refusal's number and the bytes used.
pub record Answer : Type 0 where
  pub code : ℕ
  pub used : ℕ

abbrev pub answer_read : ℕ → Answer
answer_read n = record { code = 0; used = n }

abbrev pub answer_unread : Answer
answer_unread = record { code = 3; used = 0 }

-- The paper's numbers for each case of the answer.
abbrev pub answer_of : Option (Call × ℕ) → Answer
answer_of (Some (call, used)) = answer_read used
answer_of None = answer_unread

-- What reading `s` promises of its answer.
pub record Reads (s : List ℕ) (r : Option (Call × ℕ)) : Type 0 where
  pub is : r ≡ read_of s
  pub numbers : answer_of r ≡ pick (whole s) (answer_read (command_length (first_byte s))) answer_unread
