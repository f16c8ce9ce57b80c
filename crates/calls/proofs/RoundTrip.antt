-- Reading and writing undo each other. These are the crate's theorems: what the machine and later crates cite.
use Rattle.std.specs.Prelude.{Option, Some, None}
use Prim.Native.Nat.{ℕ, zero, suc, ◌≤◌, ◌<◌}
use mathlib.Core.Bool.{Bool, true, false, ◌&&◌, true≢false}
use mathlib.Core.List.{List, [], ◌∷◌, ◌++◌}
use mathlib.Core.Path.{◌≡◌, ◌∙◌, refl, sym, ap, subst}
use native.Mathlib.Omega.{arith}
use lib.Dec.{ltb, leb}
use lib.ListN.{length, get_or, take, length-append}
use borrow.Author.Tests.{ltb-true, leb-true}
use Rattle.calls.specs.Bytes.{numbers_at, bytes_in, Fit, Bytes}
use Rattle.calls.specs.Commands.{command_of, command_length, call_at, byte_of, operands_of, bytes_of}
use Rattle.calls.specs.Reader.{read, whole, read_of}
use Rattle.calls.specs.Promises.{RoundTrip, WrittenInBytes, LengthsAgree, ReadFrom, ReadBack, OneCall, DifferentBytes}
use Rattle.calls.specs.declared.Call.{Call}
use Rattle.calls.proofs.Inputs.{answer_of, call_read}
use Rattle.calls.proofs.Bytes.{numbers_of_bytes, bytes_of_numbers, numbers_fit, length_bytes_in, fitting_bytes_in}
use Rattle.calls.proofs.Table.{listed, Entry, entry, in_table}

pub lengths_agree : LengthsAgree
lengths_agree c =
    ap suc (length_bytes_in (command_of (byte_of c)).widths (operands_of c) (listed c).shaped) ∙ sym (listed c).long

pub round_trip : RoundTrip
round_trip c rest =
    sym (call_read (bytes_of c ++ rest) refl again (lengths_agree c) some inside).is
  where
    operands : numbers_at (command_of (byte_of c)).widths 1 (bytes_of c ++ rest) ≡ operands_of c
    operands =
        numbers_of_bytes (command_of (byte_of c)).widths (operands_of c) 1 (byte_of c ∷ []) rest (listed c).shaped refl

    again : c ≡ call_at (byte_of c) (bytes_of c ++ rest)
    again =
        sym (ap (λ (xs : List ℕ). (command_of (byte_of c)).make (λ i. get_or xs i 0)) operands ∙ (listed c).made)

    some : 0 < length (bytes_of c)
    some = omega arith

    inside : length (bytes_of c) ≤ length (bytes_of c ++ rest)
    inside = simp length-append (omega arith)

pub written_in_bytes : WrittenInBytes
written_in_bytes c f zero = omega (arith, (in_table (byte_of c) (λ z. omega (arith, (listed c).long))).1)
written_in_bytes c f (suc i) = fitting_bytes_in (command_of (byte_of c)).widths (operands_of c) f i

both : (a b : Bool) → (a && b) ≡ true → (a ≡ true) × (b ≡ true)
both true b e = (refl, e)
both false b e = absurd (true≢false (sym e))

-- The bytes of a call with this byte and these operands.
joined : ℕ × List ℕ → List ℕ
joined p = p.0 ∷ bytes_in (command_of p.0).widths p.1

found : (k : ℕ) (t : List ℕ) → Bytes (k ∷ t) → whole (k ∷ t) ≡ true → ReadFrom (k ∷ t) (call_at k (k ∷ t)) (command_length k)
unfolding whole joined
found k t b w = record {
  inside = room;
  same =
      ap (λ (m : ℕ). take m (k ∷ t)) row.long
      ∙ ap {B = List ℕ} (λ r. k ∷ r) (sym (bytes_of_numbers ws 1 (k ∷ t) b (omega (arith, row.long, room))))
      ∙ sym (ap joined (row.parts (k ∷ t)));
  fitting =
      subst (λ (p : ℕ × List ℕ). Fit (command_of p.0).widths p.1) (sym (row.parts (k ∷ t))) (numbers_fit ws 1 (k ∷ t) b);
}
  where
    tests : (ltb 0 (command_length k) ≡ true) × (leb (command_length k) (length (k ∷ t)) ≡ true)
    tests = both (ltb 0 (command_length k)) (leb (command_length k) (length (k ∷ t))) w

    room : command_length k ≤ length (k ∷ t)
    room = leb-true (command_length k) (length (k ∷ t)) tests.1

    row : Entry k
    row = entry k (λ z. omega (arith, ltb-true 0 (command_length k) tests.0))

    ws : List ℕ
    ws = (command_of k).widths

-- Two readings that are the same read the same call, and the same number of bytes.
pub same_call : (c d : Call) (m n : ℕ) → read c m ≡ read d n → c ≡ d
same_call c d m n e = ap (λ (r : Option (Call × ℕ)). elim r [ Some p ↦ p.0 | None ↦ c ]) e

pub same_used : (c d : Call) (m n : ℕ) → read c m ≡ read d n → m ≡ n
same_used c d m n e = ap (λ (r : Option (Call × ℕ)). elim r [ Some p ↦ p.1 | None ↦ m ]) e

refused_differs : (c : Call) (n : ℕ) → None ≡ read c n → ⊥
refused_differs c n e = let z : ◌≡◌ {A = ℕ} 0 1 = cc in omega arith

pub read_back : ReadBack
unfolding whole
read_back [] b c n e = absurd (refused_differs c n (sym (answer_of [] false refl) ∙ e))
read_back (k ∷ t) b c n e = go (whole (k ∷ t)) refl
  where
    go : (w : Bool) → whole (k ∷ t) ≡ w → ReadFrom (k ∷ t) c n
    go false w = absurd (refused_differs c n (sym (answer_of (k ∷ t) false w) ∙ e))
    go true w =
        let same : read (call_at k (k ∷ t)) (command_length k) ≡ read c n = sym (answer_of (k ∷ t) true w) ∙ e in
        let call = same_call (call_at k (k ∷ t)) c (command_length k) n same in
        let used = same_used (call_at k (k ∷ t)) c (command_length k) n same in
        subst (λ (m : ℕ). ReadFrom (k ∷ t) c m) used
        (subst (λ (d : Call). ReadFrom (k ∷ t) d (command_length k)) call (found k t b w))

pub one_call : OneCall
one_call c d rest others e =
    let same : read c (length (bytes_of c)) ≡ read d (length (bytes_of d)) =
    sym (round_trip c rest) ∙ ap read_of e ∙ round_trip d others in
    same_call c d (length (bytes_of c)) (length (bytes_of d)) same

pub different_bytes : DifferentBytes
different_bytes c d e = one_call c d [] [] (ap (λ (s : List ℕ). s ++ []) e)
