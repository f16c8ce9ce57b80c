-- The table's part of "Exact", as statements: every cell is one reservation's, and split and merge undo each other. Assumes nothing.
use Rattle.std.specs.Prelude.{ℕ, ◌<◌, true, ◌≡◌, length, get_or, ltb}
use Rattle.capabilities.specs.Range.{inside}
use Rattle.table.specs.Table.{Table, Tabled}
use Rattle.table.specs.Rows.{is_open, blank, range_of, live}
use Rattle.table.specs.Find.{find_of, row_of}
use Rattle.table.specs.Tiling.{covers, takers_sound, table_sound}
use Rattle.table.specs.Operations.{split_of, merge_of}

-- Of a well-formed table every cell below the end, and no other, lies in a reservation;
abbrev pub AllCovered : Type 0
AllCovered = (cells : ℕ) (t : Table) (c : ℕ) → table_sound cells t ≡ true → covers t c ≡ ltb c cells

-- and no cell in two.
abbrev pub NoSharedCell : Type 0
NoSharedCell =
    (cells : ℕ) (t : Table) (i j c : ℕ) → table_sound cells t ≡ true → i < length (live t) → j < length (live t)
    → inside (range_of (get_or (live t) i blank)) c ≡ true → inside (range_of (get_or (live t) j blank)) c ≡ true → i ≡ j

-- An answer 0, with this table.
abbrev pub table_done : Table → Tabled
table_done t = record { code = 0; table = t }

-- What holds of a well-formed table, a party and a base.
abbrev pub OfTable : (Table → ℕ → ℕ → Type 0) → Type 0
OfTable P =
    (cells : ℕ) (t : Table) → table_sound cells t ≡ true → takers_sound (live t) ≡ true → cells < 65536 → (party base : ℕ) → P t party base

-- Merge after split gives back the table to the bit,
abbrev pub MergeAfterSplit : Type 0
MergeAfterSplit =
    OfTable (λ t party base. (len : ℕ) → (split_of t party base len).code ≡ 0 → merge_of (split_of t party base len).table party base ≡ table_done t)

-- and split after merge of two Open reservations does, at the length that the lower one had.
abbrev pub SplitAfterMerge : Type 0
SplitAfterMerge =
    OfTable
    (λ t party base.
    (merge_of t party base).code ≡ 0 → is_open (row_of t (find_of t party base)).state ≡ true
    → split_of (merge_of t party base).table party base (row_of t (find_of t party base)).length ≡ table_done t)
