-- What the table says of each kind: of its calls in a line a kind (`Listed`), of its row in one equation over the whole table. All
-- else follows by laws that hold for every table.
use Prim.Native.Nat.{ℕ, zero, suc, ◌+◌, ◌-◌, ◌≤◌, ◌<◌}
use mathlib.Core.Bool.{Bool, true, false}
use borrow.Author.Tests.{leb-true, leb-false}
use lib.Dec.{leb}
use mathlib.Core.List.{List, [], ◌∷◌, map}
use mathlib.Core.Path.{◌≡◌, ◌∙◌, refl, ap}
use lib.ListN.{length, get_or, drop, get_or-eq_default}
use native.Mathlib.Numerals.{unary_clauses}
use native.Mathlib.Omega.{arith}
use Rattle.calls.specs.Bytes.{number, numbers_at, sum}
use Rattle.calls.specs.Commands.{Command, commands, take_command, last_byte, command_of, command_length, lengths, call_at}
use Rattle.calls.specs.Parts.{parts_of}
pub use Rattle.calls.proofs.Cases.{Listed}
pub use Rattle.calls.proofs.Listed.{listed}

-- ---- a row

-- `x 0`, `x 1`, ..: an operand for each width.
abbrev pub per_width : List ℕ → (ℕ → ℕ) → List ℕ
per_width [] x = []
per_width (w ∷ ws) x = x 0 ∷ per_width ws (λ i. x (suc i))

-- A byte and operands, given the operands that a call is made of.
abbrev Parts : Type 0
Parts = (ℕ → ℕ) → ℕ × List ℕ

-- Those of a row's call.
abbrev parts_in : Command → Parts
parts_in row x = parts_of (row.make x)

-- What they are to be in rows of which the first has byte `k`: the row's own byte, and the operands as they were given.
abbrev wanted : ℕ → List Command → List Parts
wanted k [] = []
wanted k (row ∷ rows) = (λ x. (k, per_width row.widths x)) ∷ wanted (suc k) rows

every : map parts_in commands ≡ wanted 1 commands
every = refl

-- What they are to be they are at each place of such rows.
at_place : (rows : List Command) (k i b : ℕ) → map parts_in rows ≡ wanted k rows → i < length rows → b ≡ k + i
    → (x : ℕ → ℕ) → parts_in (get_or rows i take_command) x ≡ (b, per_width (get_or rows i take_command).widths x)
at_place [] k i b e h is x = absurd (omega arith)
at_place (row ∷ rows) k zero b e h is x =
    let first : k ≡ b = omega arith in
    ap (λ (fs : List Parts). get_or fs 0 (parts_in row) x) e ∙ ap (λ (n : ℕ). (n, per_width row.widths x)) first
at_place (row ∷ rows) k (suc i) b e h is x = at_place rows (suc k) i b (ap (drop 1) e) (omega arith) (omega arith) x

-- A command's call has the command's byte, and the operands that it is made of.
pub parts_of_lem : (k : ℕ) → 1 ≤ k → k ≤ last_byte → (x : ℕ → ℕ) → parts_of ((command_of k).make x) ≡ (k, per_width (command_of k).widths x)
parts_of_lem k low high x = at_place commands 1 (k - 1) k every (omega arith) (omega arith) x

-- A row's length in a table of lengths is that of its operands and a byte.
length_at : (rows : List Command) (i : ℕ) → i < length rows
    → get_or (map (λ c. 1 + sum c.widths) rows) i 0 ≡ suc (sum (get_or rows i take_command).widths)
length_at [] i h = absurd (omega arith)
length_at (row ∷ rows) zero h = omega arith
length_at (row ∷ rows) (suc i) h = length_at rows i (omega arith)

-- ---- a byte

-- A byte with a length is a command.
pub in_table : (k : ℕ) → (command_length k ≡ 0 → ⊥) → (1 ≤ k) × (k ≤ last_byte)
in_table zero h = absurd (h refl)
in_table (suc k) h = (omega arith, go (leb (suc k) last_byte) refl)
  where
    go : (b : Bool) → leb (suc k) last_byte ≡ b → suc k ≤ last_byte
    go true e = leb-true (suc k) last_byte e
    go false e = absurd (h (get_or-eq_default lengths 0 (leb-false (suc k) last_byte e)))

-- The numbers that were read are an operand for each width.
all_read : (ws : List ℕ) (i : ℕ) (s : List ℕ) → per_width ws (λ j. get_or (numbers_at ws i s) j 0) ≡ numbers_at ws i s
all_read [] i s = refl
all_read (w ∷ ws) i s = ap (λ (l : List ℕ). number w i s ∷ l) (all_read ws (i + w) s)

-- The call that a command's byte makes has this byte and the operands that were read.
pub record Entry (k : ℕ) : Type 0 where
  pub parts : (s : List ℕ) → parts_of (call_at k s) ≡ (k, numbers_at (command_of k).widths 1 s)
  pub long : command_length k ≡ suc (sum (command_of k).widths)

pub entry : (k : ℕ) → (command_length k ≡ 0 → ⊥) → Entry k
entry zero h = absurd (h refl)
entry (suc k) h = record {
  parts = λ s.
      parts_of_lem (suc k) (omega arith) (in_table (suc k) h).1 (λ i. get_or (numbers_at (command_of (suc k)).widths 1 s) i 0)
      ∙ ap (λ (l : List ℕ). (suc k, l)) (all_read (command_of (suc k)).widths 1 s);
  long = simp unary_clauses (length_at commands k (in_table (suc k) h).1);
}
