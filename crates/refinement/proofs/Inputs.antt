-- What was read at a place: it lies within the input, and uses as many bytes as its call is written in. Assumes nothing.
use Rattle.std.specs.Prelude.{Some, None}
use Prim.Native.Nat.{ℕ, ◌<◌}
use native.Mathlib.Omega.{arith}
use mathlib.Core.Bool.{Bool, true, false}
use mathlib.Core.List.{List, [], ◌∷◌}
use mathlib.Core.Path.{◌≡◌, refl, sym, ap, ◌∙◌}
use lib.ListN.{length, drop, drop_of_length-le}
use lib.Dec.{ltb, leb}
use borrow.Author.Tests.{ltb-true, ltb-false}
use Rattle.capabilities.proofs.Choice.{and_left}
use Rattle.calls.specs.declared.Call.{Call}
use Rattle.calls.specs.Commands.{command_length, call_at, bytes_of}
use Rattle.calls.specs.Reader.{whole, read, read_of}
use Rattle.calls.proofs.Inputs.{answer_of, past_the_end}
use Rattle.calls.proofs.RoundTrip.{lengths_agree, same_call, same_used}
use Rattle.calls.proofs.Table.{entry}

refused_not_read : (c : Call) (n : ℕ) → None ≡ read c n → ⊥
refused_not_read c n e = let z : ◌≡◌ {A = ℕ} 0 1 = cc in omega arith

call_long : (k : ℕ) (s : List ℕ) → whole (k ∷ s) ≡ true → command_length k ≡ length (bytes_of (call_at k (k ∷ s)))
unfolding whole
call_long k s w =
    let some : 0 < command_length k = ltb-true 0 (command_length k) (and_left (ltb 0 (command_length k)) (leb (command_length k) (length (k ∷ s))) w) in
    sym (lengths_agree (call_at k (k ∷ s)) ∙ ap (λ (p : ℕ × List ℕ). command_length p.0) ((entry k (λ z. omega (arith, some, z))).parts (k ∷ s)))

pub read_long : (s : List ℕ) (c : Call) (n : ℕ) → read_of s ≡ Some (c, n) → n ≡ length (bytes_of c)
unfolding whole
read_long [] c n e = absurd (refused_not_read c n (sym (answer_of [] false refl) ∙ e))
read_long (k ∷ s) c n e = go (whole (k ∷ s)) refl
  where
    go : (b : Bool) → whole (k ∷ s) ≡ b → n ≡ length (bytes_of c)
    go false w = absurd (refused_not_read c n (sym (answer_of (k ∷ s) false w) ∙ e))
    go true w =
        let same : read (call_at k (k ∷ s)) (command_length k) ≡ read c n = sym (answer_of (k ∷ s) true w) ∙ e in
        let call = same_call (call_at k (k ∷ s)) c (command_length k) n same in
        let used = same_used (call_at k (k ∷ s)) c (command_length k) n same in
        sym used ∙ call_long k s w ∙ ap (λ (d : Call). length (bytes_of d)) call

pub read_within : (input : List ℕ) (at : ℕ) (c : Call) (n : ℕ) → read_of (drop at input) ≡ Some (c, n) → at < length input
read_within input at c n e = go (ltb at (length input)) refl
  where
    go : (b : Bool) → ltb at (length input) ≡ b → at < length input
    go true h = ltb-true at (length input) h
    go false h = absurd (refused_not_read c n ((past_the_end (drop_of_length-le input (ltb-false at (length input) h))).is ∙ e))
