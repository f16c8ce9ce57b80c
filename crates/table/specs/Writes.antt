-- Document 02, 2026-03: how many rows a split and a merge write, and that each place is written once. Assumes nothing.
use Rattle.std.specs.Prelude.{ℕ, ◌+◌, ◌-◌, ◌<◌, true, ◌&&◌, List, [], ◌∷◌, ◌≡◌, length, set, eqb, leb, ltb}
use Rattle.capabilities.specs.Lists.{pick}
use Rattle.table.specs.Table.{Table, Tabled}
use Rattle.table.specs.Rows.{live}
use Rattle.table.specs.Find.{find_of}
use Rattle.table.specs.Tiling.{table_sound}
use Rattle.table.specs.Operations.{split_of, merge_of}
use Rattle.table.specs.Numbers.{table_of}
use Rattle.table.specs.Lent.{Leaves, fitting, place_of}

-- The place of the row that a call names.
abbrev pub place_named : Table → ℕ → ℕ → ℕ
place_named t party base = place_of (find_of t party base)

-- "Of n entries before, with the named one at i counted from 0, a split writes n − i + 1 and a merge n − i"; a refused one none.
abbrev pub split_writes : Table → ℕ → ℕ → ℕ → ℕ
split_writes t party base code = pick (eqb code 0) (length (live t) - place_named t party base + 1) 0

abbrev pub merge_writes : Table → ℕ → ℕ → ℕ → ℕ
merge_writes t party base code = pick (eqb code 0) (length (live t) - place_named t party base) 0

-- A number that is put into a place.
pub record Write : Type 0 where
  pub place : ℕ
  pub number : ℕ

-- What writes leave, one after the other.
unfoldable pub after_writes : List ℕ → List Write → List ℕ
after_writes l [] = l
after_writes l (w ∷ ws) = after_writes (set l w.place w.number) ws

-- How many of them are to a place.
unfoldable pub writes_to : ℕ → List Write → ℕ
writes_to j [] = 0
writes_to j (w ∷ ws) = pick (eqb w.place j) 1 0 + writes_to j ws

-- "Each is to be written once": each of the k places from the i-th on, and no other place at all.
abbrev pub EachOnce : ℕ → ℕ → List Write → Type 0
EachOnce i k ws = (j : ℕ) → writes_to j ws ≡ pick (leb i j && ltb j (i + k)) 1 0

-- The two numbers, of a well-formed table: n is its count.
abbrev pub SplitNumber : Type 0
SplitNumber = (cells : ℕ) (t : Table) (party base : ℕ) → table_sound cells t ≡ true → split_writes t party base 0 ≡ t.count - place_named t party base + 1

abbrev pub MergeNumber : Type 0
MergeNumber = (cells : ℕ) (t : Table) (party base : ℕ) → table_sound cells t ≡ true → merge_writes t party base 0 ≡ t.count - place_named t party base

-- A granted call on a well-formed table leaves the numbers m, by a rule, and answers a number of writes. Whatever writes made m of l: if
-- they are as many, each of as many places from the i-th on was written once, and no other place was.
abbrev pub WritesOnce : ℕ → List ℕ → ℕ → Tabled → ℕ → ℕ → Type 0
WritesOnce cells l count rule i writes =
    (m : List ℕ) (after : ℕ) (ws : List Write) → cells < 65536
    → table_sound cells (table_of l count) ≡ true
    → Leaves l m 0 after (fitting l count rule) → after_writes l ws ≡ m → length ws ≡ writes → EachOnce i writes ws

abbrev pub SplitWritesOnce : Type 0
SplitWritesOnce =
    (cells : ℕ) (l : List ℕ) (count party base len : ℕ)
    → WritesOnce cells l count (split_of (table_of l count) party base len) (place_named (table_of l count) party base) (split_writes (table_of l count) party base 0)

abbrev pub MergeWritesOnce : Type 0
MergeWritesOnce =
    (cells : ℕ) (l : List ℕ) (count party base : ℕ)
    → WritesOnce cells l count (merge_of (table_of l count) party base) (place_named (table_of l count) party base) (merge_writes (table_of l count) party base 0)
