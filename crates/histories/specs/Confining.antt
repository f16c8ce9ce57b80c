-- Confined. After every history each live capability lies within one Taken or Revoking reservation, with length at least 1, permissions
-- at most 15 and bits 40 to 63 zero; a Mapped cell of an Open range is 0 and untagged; a Mapped cell's tag byte is 0 or 1. Assumes
-- nothing.
use Rattle.std.specs.Prelude.{ℕ, ◌+◌, ◌*◌, ◌≤◌, ◌<◌, true, ◌≡◌, length, get_or, Some}
use Rattle.capabilities.specs.Range.{inside}
use Rattle.pages.specs.declared.FrameState.TheVariants.{Mapped as Shown}
use Rattle.pages.specs.Layer.{frame_at}
use Rattle.pages.specs.Mapping.{lookup_of}
use Rattle.table.specs.Rows.{is_open, live, range_of}
use Rattle.histories.specs.Runs.{Machine, Reached}
use Rattle.histories.specs.Live.{Spot, Live, word_in}
use Rattle.histories.specs.Inv.{row_at, Confined}
use Rattle.histories.specs.Crossing.{Zeros}

abbrev pub LiveIsConfined : Type 0
LiveIsConfined = (m : Machine) → Reached m → (x : Spot) → Live m x → Confined m.state.core.table (word_in m x).cell

abbrev pub OpenIsZero : Type 0
OpenIsZero =
    (m : Machine) → Reached m → (i v at : ℕ) → i < length (live m.state.core.table) → is_open (row_at m.state.core.table i).state ≡ true
    → inside (range_of (row_at m.state.core.table i)) v ≡ true → lookup_of m.state.core.pages v ≡ Some at → Zeros m at

abbrev pub TagsAreBits : Type 0
TagsAreBits = (m : Machine) → Reached m → (v at : ℕ) → lookup_of m.state.core.pages v ≡ Some at → get_or m.tags at 0 ≤ 1

-- The same said of frames.
abbrev pub FrameTagsAreBits : Type 0
FrameTagsAreBits = (m : Machine) → Reached m → (k i : ℕ) → frame_at m.state.core.pages k ≡ Shown → i < 16 → get_or m.tags (16 * k + i) 0 ≤ 1
