-- Why the reader's answers are the specification's.
use Rattle.std.specs.Prelude.{Option, Some, None}
use Prim.Native.Nat.{ℕ, ◌≤◌, ◌<◌}
use mathlib.Core.Bool.{Bool, true, false, ◌&&◌}
use mathlib.Core.List.{List, [], ◌∷◌}
use mathlib.Core.Path.{◌≡◌, ◌∙◌, refl, sym, ap}
use lib.Dec.{ltb, leb}
use lib.ListN.{length, drop, drop_of_length-le}
use native.Mathlib.Nat.{le_of_lt}
use native.Mathlib.Omega.{arith}
use borrow.Author.Tests.{lt-ltb, le-leb, lt-leb}
use Rattle.capabilities.specs.Lists.{pick}
use Rattle.calls.specs.Commands.{command_length, call_at, last_byte}
use Rattle.calls.specs.Reader.{first_byte, whole, read_of, answer_read, answer_unread, Reads}
use Rattle.calls.specs.declared.Call.{Call}
use Rattle.calls.proofs.Cases.{NoneTo, no_length}

-- What is answered where the input is whole, and where it is not.
abbrev pub answer : List ℕ → Bool → Option (Call × ℕ)
answer s b = pick b (Some (call_at (first_byte s) s, command_length (first_byte s))) None

pub answer_of : (s : List ℕ) (b : Bool) → whole s ≡ b → read_of s ≡ answer s b
unfolding read_of
answer_of s b e = ap (answer s) e

-- `whole` by the first byte alone.
whole_by : (s : List ℕ) → whole s ≡ (ltb 0 (command_length (first_byte s)) && leb (command_length (first_byte s)) (length s))
unfolding whole
whole_by [] = refl
whole_by (k ∷ s) = refl

nothing : (s : List ℕ) → whole s ≡ false → Reads s None
nothing s e = record {
  is = sym (answer_of s false e);
  numbers = sym (ap (λ (b : Bool). pick b (answer_read (command_length (first_byte s))) answer_unread) e);
}

pub past_the_end : {s : List ℕ} → s ≡ [] → Reads s None
unfolding whole
past_the_end {s} e = nothing s (ap whole e)

-- Past the end of an input nothing is left of it.
pub nothing_left : (input : List ℕ) {at : ℕ} → length input < at → Reads (drop at input) None
nothing_left input h = past_the_end (drop_of_length-le input (le_of_lt h))

-- `k` is the first byte, and `n` the length that the table has for it.
module _ (s : List ℕ) (k n : ℕ) (begins : k ≡ first_byte s) (long : n ≡ command_length k) where
  counted : n ≡ command_length (first_byte s)
  counted = long ∙ ap command_length begins

  pub no_command : n ≡ 0 → Reads s None
  no_command e = nothing s (whole_by s ∙ ap (λ (m : ℕ). ltb 0 m && leb m (length s)) (sym counted ∙ e))

  pub cut_short : (n ≡ 0 → ⊥) → length s < n → Reads s None
  cut_short some h =
      nothing s
      (whole_by s
      ∙ ap (λ (b : Bool). b && leb (command_length (first_byte s)) (length s)) (lt-ltb 0 (command_length (first_byte s)) (omega (arith, counted, some)))
      ∙ lt-leb (command_length (first_byte s)) (length s) (omega (arith, counted)))

-- A first byte that the table does not have.
pub other_byte : (s : List ℕ) → NoneTo last_byte (first_byte s) → Reads s None
other_byte s others =
    no_command s (first_byte s) (command_length (first_byte s)) refl refl (sym (no_length (first_byte s) others))

-- The first byte is a command, and the input holds all of it.
pub call_read : (s : List ℕ) {k n : ℕ} {call : Call} → first_byte s ≡ k → call ≡ call_at k s → n ≡ command_length k → 0 < n → n ≤ length s
    → Reads s (Some (call, n))
call_read s {k} {n} {call} begins same long some h = record {
  is = ap (λ (c : Call). Some (c, n)) (same ∙ ap (λ (m : ℕ). call_at m s) (sym begins))
      ∙ ap (λ (m : ℕ). Some (call_at (first_byte s) s, m)) used ∙ sym (answer_of s true there);
  numbers = ap answer_read used ∙ sym (ap (λ (b : Bool). pick b (answer_read (command_length (first_byte s))) answer_unread) there);
}
  where
    used : n ≡ command_length (first_byte s)
    used = long ∙ ap command_length (sym begins)

    there : whole s ≡ true
    there =
        whole_by s
        ∙ ap (λ (b : Bool). b && leb (command_length (first_byte s)) (length s)) (lt-ltb 0 (command_length (first_byte s)) (omega (arith, used)))
        ∙ le-leb (command_length (first_byte s)) (length s) (omega (arith, used))
