-- Live capabilities: the tagged words of registers, of mailboxes and of virtual cells whose page is Mapped. What a Dirty or Free frame
-- holds is not live. Assumes nothing.
use Rattle.std.specs.Prelude.{ℕ, ◌+◌, ◌<◌, ◌≤◌, true, List, ◌≡◌, get_or, Option, Some, None}
use Rattle.capabilities.specs.declared.Range.{Range}
use Rattle.capabilities.specs.Capability.{base_of, length_of}
use Rattle.capabilities.specs.Range.{inside}
use Rattle.pages.specs.Pages.{Pages}
use Rattle.pages.specs.Mapping.{lookup_of}
use Rattle.words.specs.declared.Slot.{Slot}
use Rattle.words.specs.Words.{empty, word_at}
use Rattle.histories.specs.Runs.{Machine}

-- Where a word may be: register r of party p as number 8 p + r, a party's mailbox, a virtual cell.
pub data Spot : Type 0 where
  register : ℕ → Spot
  mailbox : ℕ → Spot
  virtual : ℕ → Spot

-- The word at a place of lent memory; an empty one where there is no place.
abbrev pub word_of : List ℕ → List ℕ → Option ℕ → Slot
word_of cells tags (Some at) = word_at cells tags at
word_of cells tags None = empty

-- The word that a virtual cell shows; an empty one where its page is not Mapped.
abbrev pub shown : Pages → List ℕ → List ℕ → ℕ → Slot
shown pages cells tags v = word_of cells tags (lookup_of pages v)

abbrev pub word_in : Machine → Spot → Slot
word_in m (register i) = get_or m.state.registers i empty
word_in m (mailbox p) = get_or m.state.mailboxes p empty
word_in m (virtual v) = shown m.state.core.pages m.cells m.tags v

-- The word at a spot is a capability.
abbrev pub Live : Machine → Spot → Type 0
Live m x = (word_in m x).tag ≡ true

-- A capability has a cell in a range; its cells are base to base + length − 1, as true numbers.
pub record Into (r : Range) (c : ℕ) : Type 0 where
  pub cell : ℕ
  pub from : base_of c ≤ cell
  pub upto : cell < base_of c + length_of c
  pub hit : inside r cell ≡ true

-- All of its cells lie in a range.
pub record Within (r : Range) (c : ℕ) : Type 0 where
  pub from : r.base ≤ base_of c
  pub upto : base_of c + length_of c ≤ r.base + r.length

-- No live capability has a cell in a range.
abbrev pub NoneInto : Machine → Range → Type 0
NoneInto m r = (x : Spot) → Live m x → Into r (word_in m x).cell → ⊥
