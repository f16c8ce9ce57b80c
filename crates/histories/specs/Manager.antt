-- What party 0 alone brings about. From every reached state, by calls that are computed from it, each party 0's own and each granted in its
-- turn: a revocation that runs comes to its end; every page is unmapped; a Taken reservation of whole pages is taken back. And what it
-- cannot: a Taken reservation that shares a page with one that another party holds Open stays Taken. Assumes nothing.
use Rattle.std.specs.Prelude.{ℕ, ◌+◌, ◌/◌, ◌<◌, ◌≤◌, true, false, List, ◌≡◌, length, set}
use Rattle.capabilities.specs.Lists.{Every}
use Rattle.capabilities.specs.Range.{inside, page_inside}
use Rattle.pages.specs.declared.PageState.TheVariants.{Unmapped}
use Rattle.pages.specs.Entries.{is_mapped}
use Rattle.pages.specs.Layer.{page_at}
use Rattle.table.specs.declared.Reservation.{Reservation}
use Rattle.table.specs.declared.ReservationState.TheVariants.{Open, Taken, Revoking}
use Rattle.table.specs.Table.{Table}
use Rattle.table.specs.Rows.{live, range_of, reservation, no_taker}
use Rattle.reservations.specs.Revocation.{running, whole_pages}
use Rattle.calls.specs.declared.Call.{Call}
use Rattle.machine.specs.Roles.{caller_of}
use Rattle.histories.specs.Runs.{Machine, run, Reached}
use Rattle.histories.specs.Live.{NoneInto}
use Rattle.histories.specs.Inv.{row_at}
use Rattle.histories.specs.Losing.{AllGranted}
use Rattle.histories.specs.Restoring.{sweep_and_collect, every_page, unclaiming, unmapping, revoking, ◌and_then◌}

-- Each call is party 0's, and each is granted in its turn.
pub record ByManager (m : Machine) (calls : List Call) : Type 0 where
  pub granted : AllGranted m calls
  pub own : Every (λ c. caller_of c ≡ 0) calls

-- The i-th reservation of m is Open in n, party 0 holds it, and the others are as they were; its pages are Unmapped, and the others as they
-- were; no revocation runs; and no live capability has a cell in its range.
pub record Returned (m n : Machine) (v i : ℕ) : Type 0 where
  pub rows :
      live n.state.core.table
      ≡ set (live m.state.core.table) i (reservation (row_at m.state.core.table i).base (row_at m.state.core.table i).length Open 0 no_taker)
  pub pages : (p : ℕ) → p < v → page_inside (range_of (row_at m.state.core.table i)) p ≡ true → page_at n.state.core.pages p ≡ Unmapped
  pub others : (p : ℕ) → p < v → page_inside (range_of (row_at m.state.core.table i)) p ≡ false → page_at n.state.core.pages p ≡ page_at m.state.core.pages p
  pub quiet : running n.state.core ≡ false
  pub none : NoneInto n (range_of (row_at m.state.core.table i))

-- So is the one that was Revoking in m.
pub record RevocationEnded (m n : Machine) (v : ℕ) : Type 0 where
  pub row : ℕ
  pub used : row < length (live m.state.core.table)
  pub was : (row_at m.state.core.table row).state ≡ Revoking
  pub now : Returned m n v row

-- A revocation that runs comes to its end by a sweep of all cells and a collect, both party 0's.
abbrev pub RevocationEnds : Type 0
RevocationEnds = (m : Machine) (r : Reached m) → running m.state.core ≡ true → ByManager m (sweep_and_collect r.f) × RevocationEnded m (run m (sweep_and_collect r.f)) r.v

-- Party 0 alone unmaps every page. Claims do not keep it from that: it holds principal 0, below which all others stand.
unfoldable pub unmapping_all : Machine → List Call
unmapping_all = unclaiming and_then unmapping every_page

abbrev pub AllUnmapped : Type 0
AllUnmapped =
    (m : Machine) (r : Reached m)
    → ByManager m (unmapping_all m) × ((p : ℕ) → p < r.v → is_mapped (page_at (run m (unmapping_all m)).state.core.pages p) ≡ false)

-- Every claim is dropped, whoever has it; the i-th reservation's Mapped pages are unmapped; and it is revoked, up to the collect.
unfoldable pub taking_back : ℕ → Machine → List Call
taking_back i m =
    let r = row_at m.state.core.table i in
    (unclaiming and_then unmapping (page_inside (range_of r)) and_then revoking r.base) m

-- A Taken reservation of whole pages party 0 alone takes back, where no revocation runs; one that does, it can end first.
abbrev pub TakenBack : Type 0
TakenBack =
    (m : Machine) (r : Reached m) → running m.state.core ≡ false → (i : ℕ) → i < length (live m.state.core.table) → (row_at m.state.core.table i).state ≡ Taken
    → whole_pages (row_at m.state.core.table i) ≡ true → ByManager m (taking_back i m) × Returned m (run m (taking_back i m)) r.v i

-- What another party than 0 holds Open.
pub record OthersOpen (t : Table) (j : ℕ) : Type 0 where
  pub used : j < length (live t)
  pub state : (row_at t j).state ≡ Open
  pub holder : (row_at t j).holder ≡ 0 → ⊥

-- A reservation is among those of a table.
pub record Stands (t : Table) (r : Reservation) : Type 0 where
  pub row : ℕ
  pub used : row < length (live t)
  pub is : row_at t row ≡ r

-- It stays as it is, whatever calls party 0 makes, granted or refused.
abbrev pub OthersStay : Type 0
OthersStay =
    (m : Machine) → Reached m → (j : ℕ) → OthersOpen m.state.core.table j → (calls : List Call) → Every (λ c. caller_of c ≡ 0) calls
    → Stands (run m calls).state.core.table (row_at m.state.core.table j)

-- The i-th reservation is Taken, and one of its cells is in the same page as a cell of the j-th, which another party holds Open.
pub record Beside (t : Table) (i j : ℕ) : Type 0 where
  pub used : i < length (live t)
  pub state : (row_at t i).state ≡ Taken
  pub other : OthersOpen t j
  pub cell : ℕ
  pub within : inside (range_of (row_at t i)) cell ≡ true
  pub near : ℕ
  pub theirs : inside (range_of (row_at t j)) near ≡ true
  pub page : cell / 16 ≡ near / 16

-- The cells of a reservation lie within a Taken one.
pub record StaysTaken (t : Table) (r : Reservation) : Type 0 where
  pub row : ℕ
  pub used : row < length (live t)
  pub state : (row_at t row).state ≡ Taken
  pub from : (row_at t row).base ≤ r.base
  pub upto : r.base + r.length ≤ (row_at t row).base + (row_at t row).length

-- Whatever calls party 0 makes, it stays Taken, by itself or merged with others.
abbrev pub NotTakenBack : Type 0
NotTakenBack =
    (m : Machine) → Reached m → (i j : ℕ) → Beside m.state.core.table i j → (calls : List Call) → Every (λ c. caller_of c ≡ 0) calls
    → StaysTaken (run m calls).state.core.table (row_at m.state.core.table i)
