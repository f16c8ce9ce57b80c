-- A call as seven numbers: its command, its operands in the order of their bytes, and 0 after them. Bytes read as their call, calls
-- write as those bytes, each undoes the other. All of it stands on the one table of commands.
use Rattle.std.specs.Prelude.{ℕ, suc, ◌-◌, ◌%◌, ◌^◌, ◌<◌, ◌≤◌, Bool, ◌&&◌, List, ◌∷◌, ◌++◌, ◌≡◌, length, get_or, take, drop, replicate, eqb, Option, Some, None}
use Rattle.capabilities.specs.Lists.{pick, each}
use Rattle.calls.specs.Bytes.{Bytes}
use Rattle.calls.specs.Commands.{Command, command_of, byte_of, operands_of}
use Rattle.calls.specs.Reader.{read_of}
use Rattle.calls.specs.Writer.{Outcome, write_of}
use Rattle.calls.specs.declared.Call.{Call}

-- The longest command has six operands.
unfoldable pub numbers_of : Call → List ℕ
numbers_of c = byte_of c ∷ operands_of c ++ replicate (6 - length (operands_of c)) 0

-- The call of a row of the table whose operands are the numbers after the first, each cut to its width; 0 past the end.
abbrev pub call_of : Command → List ℕ → Call
call_of row xs = row.make (λ i. get_or xs (suc i) 0 % 256 ^ get_or row.widths i 0)

-- The call that numbers make, the first of them being the command.
unfoldable pub call_from : List ℕ → Call
call_from xs = call_of (command_of (get_or xs 0 0)) xs

-- An entry and its number: the other list has it there too.
abbrev pub agrees : List ℕ → ℕ → ℕ → Bool
agrees ys i x = eqb x (get_or ys i 0)

-- As many entries, and the same ones.
unfoldable pub same : List ℕ → List ℕ → Bool
same xs ys = eqb (length xs) (length ys) && each (agrees ys) 0 xs

-- Numbers are a call if they are those of the call that they make: none was cut, and none stands where there is no operand.
unfoldable pub are_call : List ℕ → Bool
are_call xs = same (numbers_of (call_from xs)) xs

-- A number answered, and a lent slice as it is left.
pub record Answered : Type 0 where
  pub number : ℕ
  pub slice : List ℕ

abbrev pub answered : ℕ → List ℕ → Answered
answered n s = record { number = n; slice = s }

-- Of what writing a call leaves: the length and the buffer.
abbrev pub length_and_buffer : Outcome → Answered
length_and_buffer o = answered o.len o.buffer

-- Numbers that are a call are written as it is; of others nothing is.
unfoldable pub write_numbers : List ℕ → List ℕ → Answered
write_numbers xs out = pick (are_call xs) (length_and_buffer (write_of (call_from xs) out)) (answered 0 out)

-- The bytes that a call used and its numbers; 0 and the numbers as they were where nothing was read.
abbrev pub numbered : Option (Call × ℕ) → List ℕ → Answered
numbered (Some (call, used)) xs = answered used (numbers_of call)
numbered None xs = answered 0 xs

-- The call at a place of an input, for which there is room in seven numbers and in no other count.
unfoldable pub read_numbers : List ℕ → ℕ → List ℕ → Answered
read_numbers input at xs = pick (eqb (length xs) 7) (numbered (read_of (drop at input)) xs) (answered 0 xs)

-- What was written reads back: the length that was answered and the numbers that were given.
abbrev pub WrittenReads : Type 0
WrittenReads =
    (xs out into after : List ℕ) (n : ℕ) → length into ≡ 7 → write_numbers xs out ≡ answered n after → 0 < n
    → read_numbers after 0 into ≡ answered n xs

-- What was read writes back: the numbers of a call that was read from bytes are written as those bytes.
abbrev pub ReadWrites : Type 0
ReadWrites =
    (input : List ℕ) (at : ℕ) (xs ys out : List ℕ) (n : ℕ) → Bytes input → read_numbers input at xs ≡ answered n ys
    → 0 < n → n ≤ length out → write_numbers ys out ≡ answered n (take n (drop at input) ++ drop n out)
