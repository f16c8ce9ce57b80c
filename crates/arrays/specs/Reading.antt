-- The arrays read as a state, and a state written as arrays. Assumes nothing.
use Rattle.std.specs.Prelude.{ℕ, true, List, map, ◌≡◌}
use Rattle.table.specs.Rows.{table}
use Rattle.reservations.specs.Core.{Core, core}
use Rattle.reservations.specs.Revocation.{revoked}
use Rattle.machine.specs.State.{State}
use Rattle.machine.specs.Formed.{well_formed}
use Rattle.arrays.specs.declared.Numbers.{Numbers}
use Rattle.arrays.specs.declared.Arrays.{Arrays}
use Rattle.pages.specs.Numbers.{page_code, frame_code, layer_of}
use Rattle.table.specs.Numbers.{row_from, row_code}
use Rattle.claims.specs.Numbers.{claims_in, laid}
use Rattle.claims.specs.Numbers.{numbers_of as claim_numbers}
use Rattle.words.specs.Lent.{slots_of, cells_of, tag_bytes}

abbrev pub arrays : Numbers → List ℕ → List ℕ → List ℕ → List ℕ → List ℕ → List ℕ → List ℕ → List ℕ → List ℕ → Arrays
arrays nums words marks mail flags rows pages frames principals counts =
    record { nums = nums; words = words; marks = marks; mail = mail; flags = flags; rows = rows; pages = pages; frames = frames; principals = principals; counts = counts }

unfoldable pub core_of : Numbers → List ℕ → List ℕ → List ℕ → List ℕ → List ℕ → Core
core_of n rows pages frames principals counts =
    core (layer_of n.v n.f pages frames) (table (map row_from rows) n.count) n.place (claims_in principals counts)

-- Every arrays are some state, well formed or not.
unfoldable pub state_of : Arrays → State
state_of a =
    record { core = core_of a.nums a.rows a.pages a.frames a.principals a.counts; registers = slots_of a.words a.marks; mailboxes = slots_of a.mail a.flags }

-- The numbers that go by value. The revoked range is kept beside the table, which already says it.
unfoldable pub numbers_of : Core → Numbers
numbers_of c =
    record { v = c.pages.v; f = c.pages.f; count = c.table.count; place = c.place; base = (revoked c).base; length = (revoked c).length }

unfoldable pub arrays_of : State → Arrays
arrays_of s =
    arrays (numbers_of s.core) (cells_of s.registers) (tag_bytes s.registers) (cells_of s.mailboxes) (tag_bytes s.mailboxes)
    (map row_code s.core.table.rows) (map (λ e. page_code e.state) s.core.pages.pages) (map (λ e. frame_code e.state) s.core.pages.frames)
    (claim_numbers s.core.claims) (laid s.core.claims.counts)

-- Arrays are well formed if the state read is, and they are what that state is written as.
pub record Formed (a : Arrays) : Type 0 where
  pub well : well_formed (state_of a) ≡ true
  pub kept : arrays_of (state_of a) ≡ a

-- A well-formed state, written and read again, is the same: no number of it is lost.
abbrev pub StateBackAgain : Type 0
StateBackAgain = (s : State) → well_formed s ≡ true → state_of (arrays_of s) ≡ s
