-- What every history keeps, over a state and its lent memory. Assumes nothing.
use Rattle.std.specs.Prelude.{ℕ, ◌+◌, ◌*◌, ◌<◌, ◌≤◌, true, false, List, ◌≡◌, length, get_or, Some}
use Rattle.capabilities.specs.Capability.{length_of, permissions_of}
use Rattle.capabilities.specs.Range.{inside}
use Rattle.pages.specs.declared.FrameState.TheVariants.{Free}
use Rattle.pages.specs.Layer.{frame_at}
use Rattle.pages.specs.Mapping.{lookup_of}
use Rattle.table.specs.declared.Reservation.{Reservation}
use Rattle.table.specs.Table.{Table}
use Rattle.table.specs.Rows.{is_open, blank, range_of, live}
use Rattle.reservations.specs.Core.{Core}
use Rattle.reservations.specs.Revocation.{dying}
use Rattle.words.specs.declared.Slot.{Slot}
use Rattle.words.specs.Words.{empty, word_at}
use Rattle.histories.specs.Runs.{Machine}
use Rattle.histories.specs.Live.{Within, shown}

-- The i-th reservation.
abbrev pub row_at : Table → ℕ → Reservation
row_at t i = get_or (live t) i blank

-- A capability lies within one Taken or Revoking reservation, with length at least 1, permissions at most 15 and bits 40 to 63 zero.
pub record Confined (t : Table) (c : ℕ) : Type 0 where
  pub row : ℕ
  pub used : row < length (live t)
  pub lent : is_open (row_at t row).state ≡ false
  pub within : Within (range_of (row_at t row)) c
  pub some : 1 ≤ length_of c
  pub few : permissions_of c ≤ 15
  pub small : c < 1099511627776

-- A word, if it is a capability, is confined.
abbrev pub Sound : Table → Slot → Type 0
Sound t w = w.tag ≡ true → Confined t w.cell

-- Lent memory. C: what a virtual cell shows is confined. Z: a Free frame is all 0. S: while a revocation runs, what a virtual cell
-- shows behind the sweep's place does not die. Besides, a Mapped cell of an Open range is 0 and untagged, and tag bytes are 0 or 1.
pub record Memory (c : Core) (cells tags : List ℕ) : Type 0 where
  pub confined : (v : ℕ) → Sound c.table (shown c.pages cells tags v)
  pub free : (k i : ℕ) → frame_at c.pages k ≡ Free → i < 16 → (get_or cells (16 * k + i) 0 ≡ 0) × (get_or tags (16 * k + i) 0 ≡ 0)
  pub behind : (v at : ℕ) → lookup_of c.pages v ≡ Some at → at < c.place → (word_at cells tags at).tag ≡ true → dying c (word_at cells tags at).cell ≡ false
  pub unlent : (v i : ℕ) → i < length (live c.table) → is_open (row_at c.table i).state ≡ true → inside (range_of (row_at c.table i)) v ≡ true → shown c.pages cells tags v ≡ empty
  pub bytes : (v at : ℕ) → lookup_of c.pages v ≡ Some at → get_or tags at 0 ≤ 1

pub record Inv (m : Machine) : Type 0 where
  pub registers : (i : ℕ) → Sound m.state.core.table (get_or m.state.registers i empty)
  pub mailboxes : (p : ℕ) → Sound m.state.core.table (get_or m.state.mailboxes p empty)
  pub memory : Memory m.state.core m.cells m.tags
