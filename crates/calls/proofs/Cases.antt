-- Laws for functions that go by cases on a command's byte, and what a call of the table fits.
use Prim.Native.Nat.{ℕ, zero, suc, ◌≤◌}
use mathlib.Core.Bool.{true}
use mathlib.Core.Path.{◌≡◌, refl, sym}
use lib.ListN.{get_or, get_or-eq_default}
use native.Mathlib.Omega.{arith}
use Rattle.calls.specs.Bytes.{sum}
use Rattle.calls.specs.Commands.{command_of, lengths, command_length, last_byte, byte_of, operands_of}
use Rattle.calls.specs.declared.Call.{Call}
use Rattle.calls.proofs.Bytes.{formed}

-- `k` is none of 1 to `n`.
abbrev pub NoneTo : ℕ → ℕ → Type 0
NoneTo zero k = Unit {0}
NoneTo (suc n) k = NoneTo n k × (k ≡ suc n → ⊥)

pub above : (n : ℕ) {k : ℕ} → 1 ≤ k → NoneTo n k → suc n ≤ k
above zero h others = h
above (suc n) {k} h others =
    let below : suc n ≤ k = above n h others.0 in
    let other : k ≡ suc n → ⊥ = others.1 in
    omega (arith, other)

-- A byte that is no command has length 0.
pub no_length : (k : ℕ) → NoneTo last_byte k → 0 ≡ command_length k
no_length zero others = refl
no_length (suc k) others =
    let low : 1 ≤ suc k = omega arith in
    sym (get_or-eq_default lengths 0 (above last_byte low others))

-- A call is made of its operands again; its command's length is that of the operands and a byte; each operand has a width.
pub record Listed (c : Call) : Type 0 where
  pub made : (command_of (byte_of c)).make (λ i. get_or (operands_of c) i 0) ≡ c
  pub long : command_length (byte_of c) ≡ suc (sum (command_of (byte_of c)).widths)
  pub shaped : formed (command_of (byte_of c)).widths (operands_of c) ≡ true
