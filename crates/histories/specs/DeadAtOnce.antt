-- Dead at once, which document 02's filter on loads (2026-05) makes true. If no register and no mailbox holds a dying capability when a
-- revoke is granted, none does at any later time until its collect, whatever memory holds and whoever loads it. Until then the same
-- revocation runs, and no register and no mailbox holds a capability with any cell in its range. Assumes nothing.
use Rattle.std.specs.Prelude.{ℕ, true, false, List, ◌⊎◌, ◌≡◌}
use Rattle.capabilities.specs.declared.Range.{Range}
use Rattle.reservations.specs.Revocation.{running, revoked, dying}
use Rattle.calls.specs.declared.Call.{Call}
use Rattle.calls.specs.declared.Call.TheVariants.{Revoke}
use Rattle.histories.specs.Runs.{Machine, Granted, next, run, Reached}
use Rattle.histories.specs.Live.{Spot, register, mailbox, virtual, word_in, Live, Into}
use Rattle.histories.specs.Lending.{named_range, Ended}

-- A spot is a register or a mailbox.
abbrev pub OfParty : Spot → Type 0
OfParty (register i) = Unit {0}
OfParty (mailbox p) = Unit {0}
OfParty (virtual v) = ⊥

-- No register and no mailbox holds a capability that dies with the revocation that runs.
abbrev pub NoneDying : Machine → Type 0
NoneDying m = (x : Spot) → OfParty x → Live m x → dying m.state.core (word_in m x).cell ≡ false

-- The revocation of a range runs, and no register and no mailbox holds a dying capability; none holds one with a cell in the range.
pub record Dead (m : Machine) (r : Range) : Type 0 where
  pub runs : running m.state.core ≡ true
  pub range : revoked m.state.core ≡ r
  pub none : NoneDying m
  pub apart : (x : Spot) → OfParty x → Live m x → Into r (word_in m x).cell → ⊥

abbrev pub DeadAtOnce : Type 0
DeadAtOnce =
    (m : Machine) → Reached m → (p base : ℕ) → Granted m (Revoke p base) → NoneDying (next m (Revoke p base))
    → (calls : List Call) → Dead (run (next m (Revoke p base)) calls) (named_range m p base) ⊎ Ended (next m (Revoke p base)) calls (named_range m p base)
