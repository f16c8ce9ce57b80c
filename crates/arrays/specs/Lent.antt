-- What a call is lent, read as arrays. Assumes nothing.
use Rattle.std.specs.Prelude.{ℕ, ◌*◌, Bool, ◌&&◌, List, ◌≡◌, length, eqb}
use Rattle.arrays.specs.declared.Answer.{Answer}
use Rattle.arrays.specs.declared.Arrays.{Arrays}
use Rattle.arrays.specs.declared.Machine.{Machine}
use Rattle.arrays.specs.declared.View.{View}
use Rattle.arrays.specs.Reading.{arrays, Formed}
use Rattle.arrays.specs.Steps.{Leaving, leaving}

-- The arrays that a machine holds, and those that are looked at.
abbrev pub held : Machine → Arrays
held m =
    arrays m.nums m.words.now m.marks.now m.mail.now m.flags.now m.rows.now m.pages.now m.frames.now m.principals.now m.counts.now

abbrev pub seen : View → Arrays
seen v =
    arrays v.nums v.words.now v.marks.now v.mail.now v.flags.now v.rows.now v.pages.now v.frames.now v.principals.now v.counts.now

-- What a call leaves in a machine.
abbrev pub left_in : Answer → Machine → Leaving
left_in r m = leaving r (held m) m.cells.now m.tags.now

-- Lent memory is of the right size.
abbrev pub fits : Arrays → List ℕ → List ℕ → Bool
fits a cells tags = eqb (length cells) (16 * a.nums.f) && eqb (length tags) (16 * a.nums.f)

-- Its arrays are well formed, and the memory behind them is of the right size.
abbrev pub Ready : Machine → Type 0
Ready m = Formed (held m) × ((length m.cells.now ≡ 16 * m.nums.f) × (length m.tags.now ≡ 16 * m.nums.f))

-- Two machines are made of the same lists: whoever lent them finds there what a call wrote.
abbrev pub SameLists : Machine → Machine → Type 0
SameLists m n =
    (m.words.ghost_name ≡ n.words.ghost_name) × (m.marks.ghost_name ≡ n.marks.ghost_name) × (m.mail.ghost_name ≡ n.mail.ghost_name)
    × (m.flags.ghost_name ≡ n.flags.ghost_name) × (m.rows.ghost_name ≡ n.rows.ghost_name) × (m.pages.ghost_name ≡ n.pages.ghost_name)
    × (m.frames.ghost_name ≡ n.frames.ghost_name) × (m.principals.ghost_name ≡ n.principals.ghost_name)
    × (m.counts.ghost_name ≡ n.counts.ghost_name) × (m.cells.ghost_name ≡ n.cells.ghost_name) × (m.tags.ghost_name ≡ n.tags.ghost_name)

-- The memory behind the lists is as it was.
abbrev pub MemoryKept : Machine → Machine → Type 0
MemoryKept m n = (m.cells.now ≡ n.cells.now) × (m.tags.now ≡ n.tags.now)
