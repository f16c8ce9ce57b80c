-- Numbers and calls undo each other, and so do reading and writing numbers. These are the crate's theorems.
use Rattle.std.specs.Prelude.{Option, Some, None}
use Prim.Native.Nat.{ℕ, zero, suc, ◌+◌, ◌-◌, ◌%◌, ◌^◌, ◌≤◌, ◌<◌}
use native.Mathlib.Nat.{mod-eq_of_lt, mod-one}
use native.Mathlib.Omega.{arith}
use mathlib.Core.Bool.{Bool, true, false}
use mathlib.Core.List.{List, [], ◌∷◌, ◌++◌}
use mathlib.Core.Path.{◌≡◌, refl, sym, ap, fun_ext, ◌∙◌}
use lib.Dec.{leb, eqb}
use lib.ListN.{length, get_or, drop, replicate}
use lib.Seq.{get_or-drop, length-take-le}
use borrow.Author.Tests.{le-leb, lt-leb, leb-true, leb-false, eqb-true, eqb-false}
use Rattle.capabilities.proofs.Choice.{pick_yes, pick_no}
use Rattle.calls.specs.Bytes.{Fit}
use Rattle.calls.specs.Commands.{command_of, byte_of, operands_of, bytes_of, Fitting}
use Rattle.calls.specs.Reader.{read_of}
use Rattle.calls.specs.Writer.{Outcome, outcome, write_of}
use Rattle.calls.specs.declared.Call.{Call}
use Rattle.calls.proofs.Table.{listed}
use Rattle.calls.specs.Promises.{ReadFrom}
use Rattle.calls.proofs.RoundTrip.{round_trip, read_back}
use Rattle.operands.specs.Numbers.{numbers_of, call_from, same, are_call, Answered, answered, write_numbers, read_numbers, WrittenReads, ReadWrites}
use Rattle.operands.proofs.Lists.{same_self, same_equal}
use Rattle.operands.proofs.Answers.{none_written, call_written, other_count, call_numbered, none_numbered}

-- ---- numbers and calls

-- Nothing is cut off operands that fit.
uncut : (ws xs : List ℕ) (n : ℕ) → Fit ws xs → (i : ℕ) → get_or (xs ++ replicate n 0) i 0 % 256 ^ get_or ws i 0 ≡ get_or xs i 0
uncut [] [] n f i = mod-one (get_or (replicate n 0) i 0)
uncut [] (x ∷ xs) n f i = absurd f
uncut (w ∷ ws) [] n f i = absurd f
uncut (w ∷ ws) (x ∷ xs) n f zero = mod-eq_of_lt f.0
uncut (w ∷ ws) (x ∷ xs) n f (suc i) = uncut ws xs n f.1 i

-- A call whose operands fit is made of its numbers again.
pub call_back : (c : Call) → Fitting c → call_from (numbers_of c) ≡ c
unfolding call_from numbers_of
call_back c f =
    ap (command_of (byte_of c)).make (fun_ext (uncut (command_of (byte_of c)).widths (operands_of c) (6 - length (operands_of c)) f))
    ∙ (listed c).made

-- Its numbers are a call.
pub numbers_are_call : (c : Call) → Fitting c → are_call (numbers_of c) ≡ true
unfolding are_call
numbers_are_call c f =
    ap (λ (d : Call). same (numbers_of d) (numbers_of c)) (call_back c f) ∙ same_self (numbers_of c)

-- Numbers that are a call are those of the call that they make, whose operands fit (`Commands.made_fits`).
pub numbers_back : (xs : List ℕ) → are_call xs ≡ true → numbers_of (call_from xs) ≡ xs
unfolding are_call
numbers_back xs e = same_equal (numbers_of (call_from xs)) xs e

-- ---- writing, then reading

-- What a call is written as in a buffer that is long enough, and in one that is not.
module _ (c : Call) (out : List ℕ) where
  whole : Outcome
  whole = outcome 0 (length (bytes_of c)) (bytes_of c ++ drop (length (bytes_of c)) out)

  long_enough : length (bytes_of c) ≤ length out → whole ≡ write_of c out
  unfolding whole write_of
  long_enough h =
      sym (pick_yes (leb (length (bytes_of c)) (length out)) whole (outcome 3 0 out) (le-leb (length (bytes_of c)) (length out) h))

  too_short : length out < length (bytes_of c) → outcome 3 0 out ≡ write_of c out
  unfolding whole write_of
  too_short h =
      sym (pick_no (leb (length (bytes_of c)) (length out)) whole (outcome 3 0 out) (lt-leb (length (bytes_of c)) (length out) h))

-- Numbers that are a call, written into a buffer that is long enough.
wrote : (xs out : List ℕ) (c : Call) → are_call xs ≡ true → c ≡ call_from xs → length (bytes_of c) ≤ length out
    → answered (length (bytes_of c)) (bytes_of c ++ drop (length (bytes_of c)) out) ≡ write_numbers xs out
unfolding whole
wrote xs out c is made h = call_written xs out is made (long_enough c out h)

-- Nothing answers 0.
nothing : (n : ℕ) (s t : List ℕ) → 0 < n → answered 0 s ≡ answered n t → ⊥
nothing n s t h e = omega (arith, ap (λ (a : Answered). a.number) e)

-- If something was written, the numbers are a call and the buffer is long enough.
written : (xs out : List ℕ) (n : ℕ) (after : List ℕ) → write_numbers xs out ≡ answered n after → 0 < n
    → (are_call xs ≡ true) × (length (bytes_of (call_from xs)) ≤ length out)
written xs out n after e some = go (are_call xs) refl (leb (length (bytes_of (call_from xs))) (length out)) refl
  where
    go : (b : Bool) → are_call xs ≡ b → (r : Bool) → leb (length (bytes_of (call_from xs))) (length out) ≡ r
        → (are_call xs ≡ true) × (length (bytes_of (call_from xs)) ≤ length out)
    go false none r room = absurd (nothing n out after some (none_written xs out none ∙ e))
    go true is false room =
        absurd (nothing n out after some (call_written xs out is refl (too_short (call_from xs) out (leb-false (length (bytes_of (call_from xs))) (length out) room)) ∙ e))
    go true is true room = (is, leb-true (length (bytes_of (call_from xs))) (length out) room)

pub written_reads : WrittenReads
written_reads xs out into after n seven e some =
    sym (ap (λ (m : ℕ). answered m xs) (sym (ap (λ (a : Answered). a.number) same_answer))
    ∙ call_numbered after 0 into seven
    (ap read_of (sym (ap (λ (a : Answered). a.slice) same_answer)) ∙ round_trip c (drop (length (bytes_of c)) out))
    (sym (numbers_back xs facts.0)))
  where
    c : Call
    c = call_from xs

    facts : (are_call xs ≡ true) × (length (bytes_of c) ≤ length out)
    facts = written xs out n after e some

    same_answer : answered (length (bytes_of c)) (bytes_of c ++ drop (length (bytes_of c)) out) ≡ answered n after
    same_answer = wrote xs out c facts.0 refl facts.1 ∙ e

-- ---- reading, then writing

-- If something was read, it is a call, and the numbers are its own.
record Heard (s : List ℕ) (n : ℕ) (ys : List ℕ) : Type 0 where
  call : Call
  read : read_of s ≡ Some (call, n)
  whole_numbers : ys ≡ numbers_of call

heard : (input : List ℕ) (at : ℕ) (xs ys : List ℕ) (n : ℕ) → read_numbers input at xs ≡ answered n ys → 0 < n → Heard (drop at input) n ys
heard input at xs ys n e some = go (eqb (length xs) 7) refl (read_of (drop at input)) refl
  where
    go : (b : Bool) → eqb (length xs) 7 ≡ b → (r : Option (Call × ℕ)) → read_of (drop at input) ≡ r → Heard (drop at input) n ys
    go false other r read = absurd (nothing n xs ys some (other_count input at xs (eqb-false (length xs) 7 other) ∙ e))
    go true seven None read = absurd (nothing n xs ys some (none_numbered input at xs (eqb-true (length xs) 7 seven) read ∙ e))
    go true seven (Some (c, m)) read =
        let same_answer : answered m (numbers_of c) ≡ answered n ys = call_numbered input at xs (eqb-true (length xs) 7 seven) read refl ∙ e in
        record {
          call = c;
          read = read ∙ ap (λ (m : ℕ). Some (c, m)) (ap (λ (a : Answered). a.number) same_answer);
          whole_numbers = sym (ap (λ (a : Answered). a.slice) same_answer);
        }

pub read_writes : ReadWrites
read_writes input at xs ys out n bytes e some room =
    sym (ap (λ (t : List ℕ). answered n (t ++ drop n out)) found.same
    ∙ ap (λ (m : ℕ). answered m (bytes_of c ++ drop m out)) (sym long)
    ∙ wrote ys out c is made (omega (arith, long)))
  where
    h : Heard (drop at input) n ys
    h = heard input at xs ys n e some

    c : Call
    c = h.call

    found : ReadFrom (drop at input) c n
    found = read_back (drop at input) (λ i. rw (get_or-drop at input i 0) (bytes (at + i))) c n h.read

    long : length (bytes_of c) ≡ n
    long = ap length (sym found.same) ∙ length-take-le n (drop at input) found.inside

    is : are_call ys ≡ true
    is = ap are_call h.whole_numbers ∙ numbers_are_call c found.fitting

    made : c ≡ call_from ys
    made = sym (ap call_from h.whole_numbers ∙ call_back c found.fitting)
