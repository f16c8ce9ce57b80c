-- Lent once. After every history, when a take, of either kind, is granted no live capability has a cell in the range that it lends; and
-- between two granted takes whose ranges share a cell there is a granted collect of a revocation that covers all of the earlier range.
-- Right after a granted take its register holds the capability of the reservation's range, the only live one with a cell in it. Assumes
-- nothing.
use Rattle.std.specs.Prelude.{ℕ, ◌+◌, ◌*◌, ◌≤◌, true, List, ◌∷◌, ◌++◌, ◌≡◌}
use Rattle.capabilities.specs.declared.Range.{Range}
use Rattle.capabilities.specs.Capability.{capability}
use Rattle.capabilities.specs.Range.{inside}
use Rattle.table.specs.Find.{find_of, row_of}
use Rattle.table.specs.Rows.{range_of}
use Rattle.reservations.specs.Revocation.{revoked}
use Rattle.calls.specs.declared.Call.{Call}
use Rattle.machine.specs.Roles.{IsTake, IsCollect}
use Rattle.histories.specs.Runs.{Machine, Granted, outcome, next, run, Reached, Always}
use Rattle.words.specs.Words.{slot}
use Rattle.histories.specs.Live.{Spot, register, Live, word_in, Into, NoneInto}

-- The range that a granted take lends: from base on, as many cells as it answers.
abbrev pub lent_range : Machine → Call → ℕ → Range
lent_range m take base = record { base = base; length = (outcome m take).answer.number }

abbrev pub LentOnceAt : (m : Machine) → Reached m → Type 0
LentOnceAt m r =
    (take : Call) (p base reg permissions : ℕ) → IsTake take p base reg permissions → Granted m take → NoneInto m (lent_range m take base)

abbrev pub LentOnce : Type 0
LentOnce = Always LentOnceAt

-- The range of the reservation that begins at base and is the party's, said of the table and not of an answer.
abbrev pub named_range : Machine → ℕ → ℕ → Range
named_range m p base = range_of (row_of m.state.core.table (find_of m.state.core.table p base))

-- What a granted take leaves: its register holds the capability of the named range with the take's permissions, and no other live
-- capability has a cell in that range.
pub record LentBy (m : Machine) (take : Call) (p base reg permissions : ℕ) : Type 0 where
  pub begins : (named_range m p base).base ≡ base
  pub holds : word_in (next m take) (register (8 * p + reg)) ≡ slot (capability base (named_range m p base).length permissions) true
  pub only : (x : Spot) → Live (next m take) x → Into (named_range m p base) (word_in (next m take) x).cell → x ≡ register (8 * p + reg)

abbrev pub LentByCapabilityAt : (m : Machine) → Reached m → Type 0
LentByCapabilityAt m r =
    (take : Call) (p base reg permissions : ℕ) → IsTake take p base reg permissions → Granted m take → LentBy m take p base reg permissions

abbrev pub LentByCapability : Type 0
LentByCapability = Always LentByCapabilityAt

-- Among the calls from a state on there is a granted collect, and the range that it ends covers another.
pub record Ended (m : Machine) (calls : List Call) (r : Range) : Type 0 where
  pub before : List Call
  pub collect : Call
  pub party : ℕ
  pub after : List Call
  pub are : calls ≡ before ++ collect ∷ after
  pub is : IsCollect collect party
  pub granted : Granted (run m before) collect
  pub from : (revoked (run m before).state.core).base ≤ r.base
  pub upto : r.base + r.length ≤ (revoked (run m before).state.core).base + (revoked (run m before).state.core).length

abbrev pub EndedBetween : Type 0
EndedBetween =
    (m : Machine) → Reached m → (take : Call) (p base reg permissions : ℕ) → IsTake take p base reg permissions → Granted m take
    → (calls : List Call) → (take' : Call) (q base' reg' permissions' : ℕ) → IsTake take' q base' reg' permissions'
    → Granted (run (next m take) calls) take' → (v : ℕ) → inside (lent_range m take base) v ≡ true
    → inside (lent_range (run (next m take) calls) take' base') v ≡ true → Ended (next m take) calls (lent_range m take base)
