-- One turn of the walk: the lines that go on from a listed command, if it is granted, are a part of those that go on from here.
-- Assumes nothing.
use Prim.Native.Nat.{ℕ, suc, ◌-◌, ◌<◌, ◌≤◌}
use native.Mathlib.Omega.{arith}
use mathlib.Core.Bool.{true}
use Rattle.std.specs.Prelude.{Option, Some, None, option_map}
use mathlib.Core.List.{List, [], ◌++◌, map, flatten}
use mathlib.Core.Path.{◌≡◌, refl, sym, ◌∙◌, ap}
use lib.ListN.{length, get_or}
use lib.Dec.{leb}
use borrow.Author.Tests.{leb-true}
use Rattle.capabilities.specs.Lists.{each, map_each}
use Rattle.capabilities.proofs.Lists.{each_at}
use Rattle.calls.specs.Commands.{bytes_of}
use Rattle.calls.specs.declared.Call.{Call}
use Rattle.calls.specs.declared.Call.TheVariants.{Collect}
use Rattle.arrays.specs.declared.Arrays.{Arrays}
use Rattle.step.specs.Entries.{step_on}
use Rattle.short_histories.specs.Listed.{choices, operands, listed}
use Rattle.short_histories.specs.Text.{hex_line}
use Rattle.short_histories.specs.Walk.{Led, led_by, onward, lines_on}
use Rattle.short_histories.proofs.Numbered.{listed_length}

-- The listed command of a number; of no other is asked.
abbrev pub numbered_call : ℕ → Call
numbered_call k = get_or listed k (Collect 0)

-- A listed command has six bytes at most.
short_bytes : each (λ k c. leb (length (bytes_of c)) 6) 0 listed ≡ true
unfolding each map_each listed choices operands flatten
short_bytes = refl

pub listed_short : (k : ℕ) → k < 40 → length (bytes_of (numbered_call k)) ≤ 6
listed_short k h =
    leb-true (length (bytes_of (numbered_call k))) 6 (each_at (λ k c. leb (length (bytes_of c)) 6) 0 listed k (Collect 0) (rw listed_length h) short_bytes)

-- What goes on from a call, of the lines with so many commands more.
abbrev pub part_of : ℕ → List ℕ → Arrays → List ℕ → List ℕ → Call → List ℕ
part_of more bytes a cells tags c = onward (lines_on (more - 1)) bytes c (led_by (step_on a c cells tags))

module _ (more : ℕ) (bytes : List ℕ) (a : Arrays) (cells tags : List ℕ) where
  pub lines_none : more ≡ 0 → lines_on more bytes a cells tags ≡ hex_line bytes
  unfolding lines_on
  lines_none e = ap (λ n. lines_on n bytes a cells tags) e

  pub lines_parts : (more ≡ 0 → ⊥) → lines_on more bytes a cells tags ≡ flatten (map (part_of more bytes a cells tags) listed)
  lines_parts f =
      let up : more ≡ suc (more - 1) = omega (arith, f) in
      ap (λ n. lines_on n bytes a cells tags) up ∙ unfold lines_on in refl

  -- A call was tried, and led somewhere or nowhere.
  module _ {M : Type 0} (k : ℕ) (call : Call) (is : call ≡ numbered_call k) (o : Option M) (at : M → Led) (led : option_map at o ≡ led_by (step_on a call cells tags)) where
    tried : part_of more bytes a cells tags (numbered_call k) ≡ onward (lines_on (more - 1)) bytes call (option_map at o)
    tried = ap (part_of more bytes a cells tags) (sym is) ∙ ap (onward (lines_on (more - 1)) bytes call) (sym led)

    pub part_granted : (m : M) → o ≡ Some m → (longer : List ℕ) → longer ≡ bytes ++ bytes_of call
        → lines_on (more - 1) longer (at m).arrays (at m).cells (at m).tags ≡ part_of more bytes a cells tags (numbered_call k)
    unfolding onward
    part_granted m e longer l =
        ap (λ x. lines_on (more - 1) x (at m).arrays (at m).cells (at m).tags) l ∙ sym (tried ∙ ap (λ x. onward (lines_on (more - 1)) bytes call (option_map at x)) e)

    pub part_refused : o ≡ None → [] ≡ part_of more bytes a cells tags (numbered_call k)
    unfolding onward
    part_refused e = sym (tried ∙ ap (λ x. onward (lines_on (more - 1)) bytes call (option_map at x)) e)
