-- A call written behind other bytes, where there is room for it. Assumes nothing.
use Rattle.std.specs.Prelude.{Option, Some, None}
use Prim.Native.Nat.{ℕ, ◌+◌, ◌-◌, ◌≤◌}
use native.Mathlib.Omega.{arith}
use mathlib.Core.List.{List, ◌++◌, append_assoc}
use mathlib.Core.Path.{◌≡◌, refl, sym, ◌∙◌, ap}
use lib.ListN.{length, take, drop, length-append, length-drop}
use lib.Seq.{take_at, length-take-le}
use borrow.Rule.Slice.PartMut.{mid_of, post_of, put_mid}
use borrow.Author.Tests.{le-leb}
use Rattle.capabilities.specs.Lists.{pick}
use Rattle.calls.specs.Commands.{bytes_of}
use Rattle.calls.specs.Writer.{outcome, outcome_of, write_of}
use Rattle.calls.specs.declared.Call.{Call}

-- The bytes before it, and its own.
behind_others : (bytes new x y : List ℕ) (at n : ℕ) → at ≤ length bytes → n ≡ length new
    → take (at + n) (take at bytes ++ ((new ++ x) ++ y)) ≡ take at bytes ++ new
behind_others bytes new x y at n h e =
    ap (take (at + n)) (ap (λ l. take at bytes ++ l) (append_assoc new x y) ∙ sym (append_assoc (take at bytes) new (x ++ y)))
    ∙ take_at (take at bytes ++ new) (x ++ y) (at + n) long
  where
    long : length (take at bytes ++ new) ≡ at + n
    long = length-append (take at bytes) new ∙ ap (λ m. m + length new) (length-take-le at bytes h) ∙ ap (λ m. at + m) (sym e)

-- What was copied first into a buffer is what begins it.
pub copied_first : (history copied rest : List ℕ) → copied ≡ history → take (length history) (copied ++ rest) ≡ history
copied_first history copied rest e = ap (λ l. take (length history) (l ++ rest)) e ∙ take_at history rest (length history) refl

module _ (bytes : List ℕ) (at : ℕ) (call : Call) (after : List ℕ) (r : Option ℕ) (long : length bytes ≡ 18) (room : at + length (bytes_of call) ≤ 18)
    (w : outcome_of r after ≡ write_of call (mid_of at (18 - at) bytes)) where
  part : List ℕ
  part = mid_of at (18 - at) bytes

  part_length : length part ≡ 18 - at
  unfolding part
  part_length = length-take-le (18 - at) (drop at bytes) (rw length-drop (omega (arith, long)))

  fits : outcome_of r after ≡ outcome 0 (length (bytes_of call)) (bytes_of call ++ drop (length (bytes_of call)) part)
  unfolding write_of part
  fits =
      w
      ∙ ap (λ b. pick b (outcome 0 (length (bytes_of call)) (bytes_of call ++ drop (length (bytes_of call)) part)) (outcome 3 0 part))
      (le-leb (length (bytes_of call)) (length part) (omega (arith, room, part_length)))

  pub wrote_length : (n : ℕ) → r ≡ Some n → n ≡ length (bytes_of call)
  wrote_length n e = ap (λ o. o.len) (ap (λ x. outcome_of x after) (sym e) ∙ fits)

  pub wrote_longer : (n : ℕ) → r ≡ Some n → take (at + n) (put_mid at (18 - at) bytes after) ≡ take at bytes ++ bytes_of call
  wrote_longer n e =
      ap (λ l. take (at + n) (put_mid at (18 - at) bytes l)) (ap (λ o. o.buffer) (ap (λ x. outcome_of x after) (sym e) ∙ fits))
      ∙ behind_others bytes (bytes_of call) (drop (length (bytes_of call)) part) (post_of at (18 - at) bytes) at n (omega (arith, room, long)) (wrote_length n e)

  pub not_short : r ≡ None → ⊥
  not_short e = let z : ◌≡◌ {A = ℕ} 3 0 = ap (λ o. o.code) (ap (λ x. outcome_of x after) (sym e) ∙ fits) in omega arith
