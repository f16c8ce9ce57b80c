-- The call that numbers make: why the call of the command that was read is this one, and that its operands fit.
use Prim.Native.Nat.{ℕ, zero, suc, ◌-◌, ◌%◌, ◌^◌, ◌≤◌, ◌<◌}
use native.Mathlib.Nat.{mod-lt, one-le-pow}
use native.Mathlib.Omega.{arith}
use mathlib.Core.Bool.{Bool, true, false}
use mathlib.Core.List.{List, [], ◌∷◌}
use mathlib.Core.Path.{◌≡◌, refl, sym, ap, subst, ◌∙◌}
use lib.Dec.{leb}
use lib.ListN.{get_or, get_or-eq_default}
use borrow.Author.Tests.{leb-true, leb-false}
use Rattle.calls.specs.Bytes.{Fit}
use Rattle.calls.specs.Commands.{Command, commands, command_of, take_command, last_byte, Fitting}
use Rattle.calls.specs.declared.Call.{Call}
use Rattle.calls.proofs.Cases.{NoneTo, above}
use Rattle.calls.proofs.Table.{per_width, parts_of_lem}
use Rattle.operands.specs.Numbers.{call_of, call_from}

-- `k` is the command that was read.
pub made : (xs : List ℕ) {k : ℕ} {c : Call} → get_or xs 0 0 ≡ k → c ≡ call_of (command_of k) xs → c ≡ call_from xs
unfolding call_from
made xs first e = e ∙ ap (λ (m : ℕ). call_of (command_of m) xs) (sym first)

-- A number past the table has take's row, as 0 has.
past : (k : ℕ) → suc last_byte ≤ k → take_command ≡ command_of k
past k h = sym (get_or-eq_default commands take_command {n = k - 1} (omega arith))

pub no_command : (k : ℕ) → NoneTo last_byte k → take_command ≡ command_of k
no_command zero others = refl
no_command (suc k) others = past (suc k) (above last_byte (omega arith) others)

-- Operands that each fit the width at their place.
each_fits : (ws : List ℕ) (x : ℕ → ℕ) → ((i : ℕ) → x i < 256 ^ get_or ws i 0) → Fit ws (per_width ws x)
each_fits [] x h = tt
each_fits (w ∷ ws) x h = (h 0, each_fits ws (λ i. x (suc i)) (λ i. h (suc i)))

-- The operands of the call that a row makes fit, since each was cut to its width.
abbrev RowFits : ℕ → Type 0
RowFits k = (xs : List ℕ) → Fitting (call_of (command_of k) xs)

in_table : (k : ℕ) → 1 ≤ k → k ≤ last_byte → RowFits k
in_table k low high xs =
    subst (λ (p : ℕ × List ℕ). Fit (command_of p.0).widths p.1) (sym (parts_of_lem k low high x)) (each_fits ws x below)
  where
    ws : List ℕ
    ws = (command_of k).widths

    x : ℕ → ℕ
    x i = get_or xs (suc i) 0 % 256 ^ get_or ws i 0

    below : (i : ℕ) → x i < 256 ^ get_or ws i 0
    below i =
        let some : 1 ≤ 256 ^ get_or ws i 0 = one-le-pow (get_or ws i 0) 256 (omega arith) in
        mod-lt (get_or xs (suc i) 0) (omega arith)

row_fits : (k : ℕ) → RowFits k
row_fits zero = in_table 1 (omega arith) (omega arith)
row_fits (suc k) = go (leb (suc k) last_byte) refl
  where
    go : (b : Bool) → leb (suc k) last_byte ≡ b → RowFits (suc k)
    go true e = in_table (suc k) (omega arith) (leb-true (suc k) last_byte e)
    go false e =
        λ xs.
        subst (λ (row : Command). Fitting (call_of row xs)) (past (suc k) (leb-false (suc k) last_byte e))
        (in_table 1 (omega arith) (omega arith) xs)

-- Whatever the numbers are, the operands of the call that they make fit.
pub made_fits : (xs : List ℕ) → Fitting (call_from xs)
unfolding call_from
made_fits xs = row_fits (get_or xs 0 0) xs
