-- No survivor. After every history, once a collect is granted no live capability has a cell in the revoked range, whatever was stored,
-- granted, loaded or mapped while the sweep ran, before or behind it; and so it stays until a granted take of a reservation that shares a
-- cell with that range. Assumes nothing.
use Rattle.std.specs.Prelude.{ℕ, true, List, ◌∷◌, ◌++◌, ◌≡◌}
use Rattle.capabilities.specs.declared.Range.{Range}
use Rattle.capabilities.specs.Range.{inside}
use Rattle.reservations.specs.Revocation.{revoked}
use Rattle.calls.specs.declared.Call.{Call}
use Rattle.calls.specs.declared.Call.TheVariants.{Collect}
use Rattle.machine.specs.Roles.{IsTake}
use Rattle.histories.specs.Runs.{Machine, Granted, next, run, Reached, Always}
use Rattle.histories.specs.Live.{NoneInto}
use Rattle.histories.specs.Lending.{named_range}

abbrev pub NoSurvivorAt : (m : Machine) → Reached m → Type 0
NoSurvivorAt m r = (p : ℕ) → Granted m (Collect p) → NoneInto (next m (Collect p)) (revoked m.state.core)

abbrev pub NoSurvivor : Type 0
NoSurvivor = Always NoSurvivorAt

-- Among the calls from a state on, no granted take names a reservation that shares a cell with a range.
abbrev pub Untaken : Machine → List Call → Range → Type 0
Untaken m calls r =
    (before : List Call) (take : Call) (after : List Call) → calls ≡ before ++ take ∷ after → (q base reg permissions : ℕ)
    → IsTake take q base reg permissions → Granted (run m before) take → (v : ℕ) → inside (named_range (run m before) q base) v ≡ true → inside r v ≡ true → ⊥

abbrev pub NoSurvivorUntilTakenAt : (m : Machine) → Reached m → Type 0
NoSurvivorUntilTakenAt m r =
    (p : ℕ) → Granted m (Collect p) → (calls : List Call) → Untaken (next m (Collect p)) calls (revoked m.state.core)
    → NoneInto (run (next m (Collect p)) calls) (revoked m.state.core)

abbrev pub NoSurvivorUntilTaken : Type 0
NoSurvivorUntilTaken = Always NoSurvivorUntilTakenAt
