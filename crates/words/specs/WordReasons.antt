-- Document 01, 'Why a call is turned down', 4, 5 and 15 to 19: what refuses a call by the words that it reads, in the order of
-- the numbers. Assumes nothing.
use Rattle.std.specs.Prelude.{ℕ, ◌+◌, Bool, not, ◌&&◌, ◌||◌, List, [], ◌∷◌, leb, ltb, eqb, Option}
use Rattle.capabilities.specs.Capability.{base_of, length_of, permits}
use Rattle.capabilities.specs.Refusals.{Reason, reason}
use Rattle.words.specs.declared.Slot.{Slot}
use Rattle.words.specs.Words.{named, nowhere}

-- 4: "A party number, a `to` or a register number is above 7."
abbrev pub unnamed : ℕ → Bool
unnamed n = not (named n)

-- 5: "A command 05 to 0A comes from a party other than 0."
abbrev pub not_manager : ℕ → Bool
not_manager p = not (eqb p 0)

-- 16: "Load lacks permission 1, store lacks 2, or a tagged s is stored through an a without 8."
abbrev pub may_not_load : Slot → Bool
may_not_load a = not (permits a.cell 1)

abbrev pub may_not_store : Slot → Slot → Bool
may_not_store a s = not (permits a.cell 2) || (s.tag && not (permits a.cell 8))

-- 17: "An offset is not below the length".
abbrev pub past_end : Slot → ℕ → Bool
past_end a off = leb (length_of a.cell) off

-- 17: ".. or a narrowing has length 0, ends past the capability or begins above 65,535."
abbrev pub bad_narrow : Slot → ℕ → ℕ → Bool
bad_narrow s off len = (eqb len 0 || ltb (length_of s.cell) (off + len)) || ltb 65535 (base_of s.cell + off)

-- 15 to 18, of the cell at base + off of the word in a, which shows a place; whether 16 applies is told. 15: "The register that must hold
-- a capability (a, or s of narrow and grant) is untagged." 18: "The addressed page is not Mapped, or lies at V or beyond."
abbrev pub cell_reasons : Bool → Slot → ℕ → Option ℕ → List Reason
cell_reasons denied a off place =
    reason 15 (not a.tag) ∷ reason 16 denied ∷ reason 17 (past_end a off) ∷ reason 18 (nowhere place) ∷ []

-- 0B load: the register a, and the place.
abbrev pub load_reasons : ℕ → ℕ → ℕ → Slot → ℕ → Option ℕ → List Reason
load_reasons p a d from off place = reason 4 ((unnamed p || unnamed a) || unnamed d) ∷ cell_reasons (may_not_load from) from off place

-- 0C store: the registers a and s, and the place.
abbrev pub store_reasons : ℕ → ℕ → ℕ → Slot → Slot → ℕ → Option ℕ → List Reason
store_reasons p a s to from off place = reason 4 ((unnamed p || unnamed a) || unnamed s) ∷ cell_reasons (may_not_store to from) to off place

-- 0D narrow: the register s.
abbrev pub narrow_reasons : ℕ → ℕ → ℕ → Slot → ℕ → ℕ → List Reason
narrow_reasons p s d from off len =
    reason 4 ((unnamed p || unnamed s) || unnamed d)
    ∷ reason 15 (not from.tag) ∷ reason 17 (past_end from off || bad_narrow from off len) ∷ []

-- 0F grant: the register s and the mailbox of `to`. 19: "The mailbox granted to is full .."
abbrev pub grant_reasons : ℕ → ℕ → ℕ → Slot → Slot → List Reason
grant_reasons p s to from mail =
    reason 4 ((unnamed p || unnamed s) || unnamed to) ∷ reason 15 (not from.tag) ∷ reason 19 mail.tag ∷ []

-- 10 receive: the caller's mailbox. 19: ".. or the one received from is empty."
abbrev pub receive_reasons : ℕ → ℕ → Slot → List Reason
receive_reasons p d mail = reason 4 (unnamed p || unnamed d) ∷ reason 19 (not mail.tag) ∷ []
