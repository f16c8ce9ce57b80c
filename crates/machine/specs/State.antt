-- The state of the machine, and what a call and a command hand back. Assumes nothing.
use Rattle.std.specs.Prelude.{ℕ, Bool, List}
use Rattle.reservations.specs.Core.{Core}
use Rattle.words.specs.declared.Slot.{Slot}

-- The core, eight registers of each of eight parties (register r of party p stands at 8 p + r), and a mailbox of each.
pub record State : Type 0 where
  pub core : Core
  pub registers : List Slot
  pub mailboxes : List Slot

-- "An answer is a code, a number and a tag. Code 0 means granted .. Each call hands back the whole state, changed or as given".
pub record Answered : Type 0 where
  pub code : ℕ
  pub number : ℕ
  pub tag : Bool
  pub state : State

-- ".. and how many bytes it used".
pub record Commanded : Type 0 where
  pub answered : Answered
  pub used : ℕ
