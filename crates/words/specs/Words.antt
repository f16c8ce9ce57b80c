-- Document 01, 'Things and their sizes': "There are 8 parties, 0 to 7 .. Each party has 8 registers (a cell and its
-- tag) and one mailbox for one capability". Assumes nothing.
use Rattle.std.specs.Prelude.{ℕ, ◌+◌, ◌*◌, Bool, true, false, not, ◌&&◌, ◌||◌, List, get_or, ltb, eqb, Option, Some, None}
use Rattle.capabilities.specs.Capability.{permits}
use Rattle.capabilities.specs.Lists.{pick}
use Rattle.reservations.specs.Core.{Core}
use Rattle.reservations.specs.Revocation.{dying}
use Rattle.words.specs.declared.Slot.{Slot}

abbrev pub slot : ℕ → Bool → Slot
slot cell tag = record { cell = cell; tag = tag }

-- An empty register or mailbox.
abbrev pub empty : Slot
empty = slot 0 false

-- A party or register number above 7 names none.
abbrev pub named : ℕ → Bool
named n = ltb n 8

-- A party's register; an empty one where the party or the register is none.
unfoldable pub register_of : List Slot → ℕ → ℕ → Slot
register_of registers party reg = pick (named party && named reg) (get_or registers (8 * party + reg) empty) empty

unfoldable pub mailbox_of : List Slot → ℕ → Slot
mailbox_of mailboxes party = get_or mailboxes party empty

-- "One mailbox for one capability, empty and its cell 0 when untagged".
abbrev pub mailbox_sound : ℕ → Slot → Bool
mailbox_sound party w = w.tag || eqb w.cell 0

-- How a word that is loaded, stored or collected in a register may lose its tag: it is kept only if a test holds. The number stays.
abbrev pub keep_tag : Slot → Bool → Slot
keep_tag w b = slot w.cell (w.tag && b)

-- Lent memory holds a tag as a byte: "A tag byte other than 0 counts as set; only 0 and 1 are written."
abbrev pub tag_of : ℕ → Bool
tag_of byte = not (eqb byte 0)

abbrev pub byte_of : Bool → ℕ
byte_of tag = pick tag 1 0

-- The word at a place of lent memory.
unfoldable pub word_at : List ℕ → List ℕ → ℕ → Slot
word_at cells tags at = slot (get_or cells at 0) (tag_of (get_or tags at 0))

-- A virtual cell shows a place of lent memory or none.
abbrev pub nowhere : Option ℕ → Bool
nowhere (Some at) = false
nowhere None = true

-- The number of a place that is there.
abbrev pub place_number : Option ℕ → ℕ
place_number (Some at) = at
place_number None = 0

-- 0B, of the word at the cell that a addresses: "its tag is dropped without permission 4"; and by document 02, 2026-05, "while a revocation
-- runs, a load of a capability with base in the range puts it in the register, and answers, with tag 0".
abbrev pub loaded : Core → Slot → Slot → Slot
loaded c a w = keep_tag w (permits a.cell 4 && not (dying c w.cell))

-- 0C: "While a revocation runs, a capability with base in the range is stored with tag 0."
abbrev pub stored : Core → Slot → Slot
stored c w = keep_tag w (not (dying c w.cell))

-- 07: in registers "the tag of capabilities with base in the range" is cleared.
abbrev pub collected_register : Core → Slot → Slot
collected_register c w = keep_tag w (not (dying c w.cell))

-- 07: "A mailbox so cleared is empty, its cell 0."
abbrev pub collected_mailbox : Core → Slot → Slot
collected_mailbox c w = pick (w.tag && dying c w.cell) empty w
