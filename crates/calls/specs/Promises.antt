-- Demand 2 of bytes and calls, as statements: "Bytes read as their call, calls write as those bytes, each undoes the other." Assumes
-- nothing.
use Rattle.std.specs.Prelude.{ℕ, ◌≤◌, List, ◌++◌, ◌≡◌, length, take, Some}
use Rattle.calls.specs.declared.Call.{Call}
use Rattle.calls.specs.Bytes.{Bytes}
use Rattle.calls.specs.Commands.{command_length, byte_of, bytes_of, Fitting}
use Rattle.calls.specs.Reader.{read_of}

-- A call that was written is read, whatever follows it, and uses the bytes that were written. It holds of every call: one whose
-- numbers fit is written in bytes.
abbrev pub RoundTrip : Type 0
RoundTrip = (c : Call) (rest : List ℕ) → read_of (bytes_of c ++ rest) ≡ Some (c, length (bytes_of c))

abbrev pub WrittenInBytes : Type 0
WrittenInBytes = (c : Call) → Fitting c → Bytes (bytes_of c)

-- The lengths of the reader and of the writer agree.
abbrev pub LengthsAgree : Type 0
LengthsAgree = (c : Call) → length (bytes_of c) ≡ command_length (byte_of c)

-- What a call that was read says of the input: the bytes it used are there, they are those that it is written as, and its numbers fit.
pub record ReadFrom (s : List ℕ) (c : Call) (n : ℕ) : Type 0 where
  pub inside : n ≤ length s
  pub same : take n s ≡ bytes_of c
  pub fitting : Fitting c

-- Bytes that read as a call are what the writer writes for it.
abbrev pub ReadBack : Type 0
ReadBack = (s : List ℕ) → Bytes s → (c : Call) (n : ℕ) → read_of s ≡ Some (c, n) → ReadFrom s c n

-- No input begins with two calls: two different calls never write equal bytes, nor one the beginning of the other's.
abbrev pub OneCall : Type 0
OneCall = (c d : Call) (rest others : List ℕ) → bytes_of c ++ rest ≡ bytes_of d ++ others → c ≡ d

abbrev pub DifferentBytes : Type 0
DifferentBytes = (c d : Call) → bytes_of c ≡ bytes_of d → c ≡ d
