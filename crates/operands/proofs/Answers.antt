-- Why what is answered and left is the specification's.
use Rattle.std.specs.Prelude.{Option, Some, None}
use Prim.Native.Nat.{ℕ}
use mathlib.Core.Bool.{Bool, true, false, not}
use mathlib.Core.List.{List}
use mathlib.Core.Path.{◌≡◌, refl, sym, ap, ◌∙◌}
use lib.Dec.{eqb}
use lib.ListN.{length, drop}
use borrow.Author.Tests.{eq-eqb, ne_eqb}
use lib.Pointwise.{pointwise}
use Rattle.capabilities.proofs.Choice.{pick_yes, pick_no}
use Rattle.calls.specs.Reader.{read_of}
use Rattle.calls.specs.Writer.{Outcome, write_of}
use Rattle.calls.specs.declared.Call.{Call}
use Rattle.operands.proofs.Lists.{same_tested}
use Rattle.operands.specs.Numbers.{numbers_of, call_from, same, are_call, answered, length_and_buffer, write_numbers, numbered, read_numbers}

flipped : (a b : Bool) → not a ≡ not b → a ≡ b
flipped true true e = refl
flipped false false e = refl
flipped true false e = sym e
flipped false true e = sym e

-- The numbers of the call that was made are those given.
pub tested : (xs : List ℕ) {c : Call} {own : List ℕ} {differ t : Bool} → c ≡ call_from xs → own ≡ numbers_of c → differ ≡ not (pointwise eqb xs own)
    → differ ≡ not t → are_call xs ≡ t
unfolding are_call
tested xs {own = own} {t = t} made whole test told =
    ap (λ (s : List ℕ). same s xs) (sym (whole ∙ ap numbers_of made)) ∙ sym (same_tested xs own)
    ∙ flipped (pointwise eqb xs own) t (sym test ∙ told)

module _ (xs out : List ℕ) where
  pub none_written : are_call xs ≡ false → answered 0 out ≡ write_numbers xs out
  unfolding write_numbers
  none_written e = sym (pick_no (are_call xs) (length_and_buffer (write_of (call_from xs) out)) (answered 0 out) e)

  pub call_written : {c : Call} {o : Outcome} → are_call xs ≡ true → c ≡ call_from xs → o ≡ write_of c out → length_and_buffer o ≡ write_numbers xs out
  unfolding write_numbers
  call_written is made e =
      ap length_and_buffer (e ∙ ap (λ (d : Call). write_of d out) made)
      ∙ sym (pick_yes (are_call xs) (length_and_buffer (write_of (call_from xs) out)) (answered 0 out) is)

module _ (input : List ℕ) (at : ℕ) (xs : List ℕ) where
  pub other_count : (length xs ≡ 7 → ⊥) → answered 0 xs ≡ read_numbers input at xs
  unfolding read_numbers
  other_count h =
      sym (pick_no (eqb (length xs) 7) (numbered (read_of (drop at input)) xs) (answered 0 xs) (ne_eqb (length xs) 7 h))

  by_reading : length xs ≡ 7 → read_numbers input at xs ≡ numbered (read_of (drop at input)) xs
  unfolding read_numbers
  by_reading h = pick_yes (eqb (length xs) 7) (numbered (read_of (drop at input)) xs) (answered 0 xs) (eq-eqb (length xs) 7 h)

  pub call_numbered : {c : Call} {n : ℕ} {s : List ℕ} → length xs ≡ 7 → read_of (drop at input) ≡ Some (c, n) → s ≡ numbers_of c
      → answered n s ≡ read_numbers input at xs
  call_numbered {n = n} h read whole =
      ap (answered n) whole ∙ sym (by_reading h ∙ ap (λ (r : Option (Call × ℕ)). numbered r xs) read)

  pub none_numbered : length xs ≡ 7 → read_of (drop at input) ≡ None → answered 0 xs ≡ read_numbers input at xs
  none_numbered h read = sym (by_reading h ∙ ap (λ (r : Option (Call × ℕ)). numbered r xs) read)
