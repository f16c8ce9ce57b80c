-- Why the writer's answers and the buffers that it leaves are the specification's.
use Prim.Native.Nat.{ℕ, ◌≤◌, ◌<◌, ◌-◌}
use mathlib.Core.Bool.{Bool}
use mathlib.Core.List.{List, ◌++◌}
use mathlib.Core.Path.{◌≡◌, ◌∙◌, sym, ap}
use lib.ListN.{length, get_or, take, drop, replicate, length-append}
use lib.Seq.{take_at}
use native.Mathlib.Omega.{arith}
use borrow.Author.Tests.{le-leb, lt-leb}
use Rattle.capabilities.specs.Lists.{pick}
use Rattle.calls.specs.Commands.{command_length, bytes_of, padded}
use Rattle.calls.specs.Writer.{Outcome, outcome, write_of}
use Rattle.calls.specs.declared.Call.{Call}
use Rattle.calls.proofs.RoundTrip.{lengths_agree}

-- What is left where the buffer is long enough, and where it is not.
abbrev answer : Call → List ℕ → Bool → Outcome
answer c out b = pick b (outcome 0 (length (bytes_of c)) (bytes_of c ++ drop (length (bytes_of c)) out)) (outcome 3 0 out)

-- `all` begins with the bytes of `c`, and `n` is the length that the table has for its first byte.
module _ (c : Call) (all : List ℕ) (n : ℕ) (filled : all ≡ padded (bytes_of c)) (long : n ≡ command_length (get_or all 0 0)) where
  exact : n ≡ length (bytes_of c)
  exact = long ∙ ap (λ (s : List ℕ). command_length (get_or s 0 0)) filled ∙ sym (lengths_agree c)

  pub within : n ≤ length all
  within = rw filled (simp length-append (omega (arith, exact)))

  front : take n all ≡ bytes_of c
  front = ap (λ (s : List ℕ). take n s) filled ∙ take_at (bytes_of c) (replicate (11 - length (bytes_of c)) 0) n (sym exact)

  pub as_long : n ≡ length (take n all)
  as_long = exact ∙ sym (ap length front)

  pub too_short : (out : List ℕ) → length out < n → outcome 3 0 out ≡ write_of c out
  unfolding write_of
  too_short out h =
      sym (ap (answer c out) (lt-leb (length (bytes_of c)) (length out) (omega (arith, exact))))

  pub written : (out after : List ℕ) → n ≤ length out
      → after ≡ take n all ++ drop (length (take n all)) out → outcome 0 n after ≡ write_of c out
  unfolding write_of
  written out after h e =
      ap (λ (m : ℕ). outcome 0 m after) exact
      ∙ ap (λ (s : List ℕ). outcome 0 (length (bytes_of c)) s)
      (e ∙ ap (λ (s : List ℕ). s ++ drop (length s) out) front)
      ∙ sym (ap (answer c out) (le-leb (length (bytes_of c)) (length out) (omega (arith, exact))))
