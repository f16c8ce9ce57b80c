-- The checklist of the library: what holds after every history holds of the machine that the lent lists, cells and tags read as after any
-- uses. Assumes nothing.
use Rattle.std.specs.Prelude.{ℕ, List, ◌≡◌}
use Rattle.calls.specs.declared.Call.{Call}
use Rattle.histories.specs.Runs.{Machine, Reached, Always}
use Rattle.histories.specs.Lending.{LentOnceAt, LentByCapabilityAt}
use Rattle.histories.specs.Crossing.{MappedIsZeroAt}
use Rattle.histories.specs.Cleaning.{CleanedBetweenAt}
use Rattle.histories.specs.Survivors.{NoSurvivorAt, NoSurvivorUntilTakenAt}
use Rattle.histories.specs.Losing.{TiledAt}
use Rattle.histories.specs.Restoring.{NothingLostAt}
use Rattle.cetomuhi.specs.Lent.{Lent}
use Rattle.refinement.specs.Uses.{Use, exported, begins, calls_of, served_all}
use Rattle.refinement.specs.Bytes.{machine_in, Starts}

-- A machine is reached with V and F by these calls, and so has a property of what is reached.
pub record ByCalls (P : (m : Machine) → Reached m → Type 0) (v f : ℕ) (calls : List Call) (m : Machine) : Type 0 where
  pub reached : Reached m
  pub of_v : reached.v ≡ v
  pub of_f : reached.f ≡ f
  pub by : reached.calls ≡ calls
  pub holds : P m reached

-- What `histories` states of every history (`Always`), stated of the library.
abbrev pub OfLibrary : ((m : Machine) → Reached m → Type 0) → Type 0
OfLibrary P =
    (v f : ℕ) (l : Lent) (cells tags : List ℕ) → Starts v f l cells tags → (uses : List Use)
    → ByCalls P v f (calls_of uses) (machine_in (served_all exported (begins v f l cells tags) uses))

-- Whatever holds of all that is reached is so.
abbrev pub FromHistories : Type 1
FromHistories = (P : (m : Machine) → Reached m → Type 0) → Always P → OfLibrary P

-- Lent once.
abbrev pub LibraryLentOnce : Type 0
LibraryLentOnce = OfLibrary LentOnceAt

abbrev pub LibraryLentByCapability : Type 0
LibraryLentByCapability = OfLibrary LentByCapabilityAt

-- Nothing crosses over.
abbrev pub LibraryMappedIsZero : Type 0
LibraryMappedIsZero = OfLibrary MappedIsZeroAt

abbrev pub LibraryCleanedBetween : Type 0
LibraryCleanedBetween = OfLibrary CleanedBetweenAt

-- No survivor.
abbrev pub LibraryNoSurvivor : Type 0
LibraryNoSurvivor = OfLibrary NoSurvivorAt

abbrev pub LibraryNoSurvivorUntilTaken : Type 0
LibraryNoSurvivorUntilTaken = OfLibrary NoSurvivorUntilTakenAt

-- Nothing lost.
abbrev pub LibraryTiled : Type 0
LibraryTiled = OfLibrary TiledAt

abbrev pub LibraryNothingLost : Type 0
LibraryNothingLost = OfLibrary NothingLostAt
