-- Document 01, 'Why a call is turned down': reasons against a call, in the order in which they are judged. Assumes nothing.
use Rattle.std.specs.Prelude.{ℕ, Bool, false, ◌&&◌, ◌||◌, List, [], ◌∷◌, eqb, Result, Ok, Err}
use Rattle.capabilities.specs.Lists.{pick}
use Rattle.capabilities.specs.declared.refusal.Refusal.{Refusal}
use Rattle.capabilities.specs.declared.refusal.Refusal.TheVariants.{State, Memory, Command, Unnamed, Manager, NoReservation, ReservationState, SplitLength, TableFull, PartPage, Revocation, OutOfRange, PageState, FrameState, Untagged, Permission, Bounds, NotMapped, Mailbox, Principal, Limit, Claimed, Question}

-- A refusal's number, and whether it applies.
pub record Reason : Type 0 where
  pub number : ℕ
  pub applies : Bool

abbrev pub reason : ℕ → Bool → Reason
reason number applies = record { number = number; applies = applies }

-- The number of the first that applies, or 0 if none does.
unfoldable pub first : List Reason → ℕ
first [] = 0
first (r ∷ rest) = pick r.applies r.number (first rest)

-- A reason with this number applies.
unfoldable pub applied : ℕ → List Reason → Bool
applied k [] = false
applied k (r ∷ rest) = (eqb r.number k && r.applies) || applied k rest

-- The first number of a list that passes a test, or 0 if none does.
unfoldable pub first_in : List ℕ → (ℕ → Bool) → ℕ
first_in [] passes = 0
first_in (k ∷ rest) passes = pick (passes k) k (first_in rest passes)

-- The number of each refusal: documents 01 and 02.
abbrev pub number_of : Refusal → ℕ
number_of State = 1
number_of Memory = 2
number_of Command = 3
number_of Unnamed = 4
number_of Manager = 5
number_of NoReservation = 6
number_of ReservationState = 7
number_of SplitLength = 8
number_of TableFull = 9
number_of PartPage = 10
number_of Revocation = 11
number_of OutOfRange = 12
number_of PageState = 13
number_of FrameState = 14
number_of Untagged = 15
number_of Permission = 16
number_of Bounds = 17
number_of NotMapped = 18
number_of Mailbox = 19
number_of Principal = 20
number_of Limit = 21
number_of Claimed = 22
number_of Question = 25

-- What the caller is told: 0 where the call is granted, or else the refusal's number.
abbrev pub code : {A : Type 0} → Result A Refusal → ℕ
code (Ok x) = 0
code (Err r) = number_of r
