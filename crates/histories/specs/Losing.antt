-- Nothing lost. After every history the table tiles the start's cells; and where its reservations are all Open and held by one party,
-- merges alone, each of them granted, lead back to one reservation of all cells. Assumes nothing.
use Rattle.std.specs.Prelude.{ℕ, ◌*◌, ◌<◌, true, List, [], ◌∷◌, ◌≡◌, length, replicate}
use Rattle.table.specs.declared.ReservationState.TheVariants.{Open}
use Rattle.table.specs.Rows.{is_open, live, reservation, no_taker}
use Rattle.table.specs.Tiling.{tiles}
use Rattle.calls.specs.declared.Call.{Call}
use Rattle.calls.specs.declared.Call.TheVariants.{Merge}
use Rattle.histories.specs.Runs.{Machine, Granted, next, run, Reached, Always}
use Rattle.histories.specs.Inv.{row_at}

abbrev pub TiledAt : (m : Machine) → Reached m → Type 0
TiledAt m r = tiles 0 (16 * r.v) (live m.state.core.table) ≡ true

abbrev pub AlwaysTiled : Type 0
AlwaysTiled = Always TiledAt

-- All reservations are Open, and a party holds them.
pub record Alone (m : Machine) (p : ℕ) : Type 0 where
  pub isopen : (i : ℕ) → i < length (live m.state.core.table) → is_open (row_at m.state.core.table i).state ≡ true
  pub holds : (i : ℕ) → i < length (live m.state.core.table) → (row_at m.state.core.table i).holder ≡ p

-- Each call of a list is granted, one after the other.
pub data AllGranted : Machine → List Call → Type 0 where
  nothing : {m : Machine} → AllGranted m []
  more : {m : Machine} {c : Call} {calls : List Call} → Granted m c → AllGranted (next m c) calls → AllGranted m (c ∷ calls)

-- So many merges at cell 0 lead back to one reservation of 16 V cells.
pub record Back (m : Machine) (p v : ℕ) : Type 0 where
  pub times : ℕ
  pub granted : AllGranted m (replicate times (Merge p 0))
  pub one : live (run m (replicate times (Merge p 0))).state.core.table ≡ reservation 0 (16 * v) Open p no_taker ∷ []

abbrev pub MergesLeadBack : Type 0
MergesLeadBack = (m : Machine) (r : Reached m) (p : ℕ) → Alone m p → Back m p r.v
