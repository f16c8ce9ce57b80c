-- Who took it. After every history from a fresh start the taker of a Taken reservation, if it is below 8, is the party whose granted takes,
-- of either kind, gave every cell of it; where it is 8, two of its cells came from takes of different parties. So it is of a Revoking one,
-- save that one that was Open has taker 0. Of a cell in an Open reservation no take lasts. Assumes nothing.
use Rattle.std.specs.Prelude.{ℕ, ◌<◌, true, false, List, [], ◌∷◌, ◌++◌, ◌⊎◌, ◌≡◌, length, take as front}
use Rattle.capabilities.specs.Lists.{pick}
use Rattle.capabilities.specs.Range.{inside}
use Rattle.table.specs.Table.{Table}
use Rattle.table.specs.Rows.{is_open, is_taken, is_revoking, no_taker, several_takers, range_of, live}
use Rattle.reservations.specs.Revocation.{revoked}
use Rattle.calls.specs.declared.Call.{Call}
use Rattle.machine.specs.Roles.{Role, takes, collects, fills, stores, grants, receives, plain, role_of, caller_of, IsTake}
use Rattle.histories.specs.Runs.{Machine, Granted, granted, next, run, begun, Begins}
use Rattle.histories.specs.Lending.{named_range}
use Rattle.histories.specs.Inv.{row_at}

-- Who has taken a cell once party p has been granted a call of this role, given who had before it: a take of a range with the cell makes it
-- p; a collect of a range with the cell makes it nobody, 9; by any other call it stays.
abbrev pub taker_by : Machine → ℕ → Role → ℕ → ℕ → ℕ
taker_by m p (takes base reg permissions) cell before = pick (inside (named_range m p base) cell) p before
taker_by m p collects cell before = pick (inside (revoked m.state.core) cell) no_taker before
taker_by m p (fills from d) cell before = before
taker_by m p (stores a off x) cell before = before
taker_by m p (grants x to) cell before = before
taker_by m p (receives d) cell before = before
taker_by m p plain cell before = before

-- A refused call takes nothing.
unfoldable pub taker_after : Machine → Call → ℕ → ℕ → ℕ
taker_after m c cell before = pick (granted m c) (taker_by m (caller_of c) (role_of c).role cell before) before

-- Who has taken a cell after a list of calls, read off the calls: the party of the last granted take of a range with the cell, or nobody if
-- there is none or a granted collect of a range with the cell came after it.
unfoldable pub taken_by : Machine → List Call → ℕ → ℕ → ℕ
taken_by m [] cell before = before
taken_by m (c ∷ calls) cell before = taken_by (next m c) calls cell (taker_after m c cell before)

-- A cell of the i-th reservation.
abbrev pub CellOf : Table → ℕ → ℕ → Type 0
CellOf t i cell = (i < length (live t)) × (inside (range_of (row_at t i)) cell ≡ true)

-- The takers that are written in a table are those of the cells.
pub record WrittenDown (t : Table) (took : ℕ → ℕ) : Type 0 where
  pub of_open : (i cell : ℕ) → CellOf t i cell → is_open (row_at t i).state ≡ true → took cell ≡ no_taker
  pub of_taken : (i cell : ℕ) → CellOf t i cell → is_taken (row_at t i).state ≡ true → took cell < 8
  pub of_one : (i cell : ℕ) → CellOf t i cell → is_taken (row_at t i).state ≡ true → (row_at t i).taker < 8 → took cell ≡ (row_at t i).taker
  pub of_several : (i : ℕ) → i < length (live t) → is_open (row_at t i).state ≡ false → (row_at t i).taker ≡ several_takers
      → (one : ℕ) × (other : ℕ) × CellOf t i one × CellOf t i other × (took one ≡ took other → ⊥)
  -- A Revoking one has kept the taker that it had when Taken; or it was Open, and its taker is 0.
  pub of_revoking : (i cell : ℕ) → CellOf t i cell → is_revoking (row_at t i).state ≡ true → (row_at t i).taker < 8
      → (took cell ≡ (row_at t i).taker) ⊎ (((row_at t i).taker ≡ 0) × (took cell ≡ no_taker))

abbrev pub TakersWrittenDown : Type 0
TakersWrittenDown =
    (v f : ℕ) (cells tags : List ℕ) → Begins v f cells tags → (calls : List Call)
    → WrittenDown (run (begun v f cells tags) calls).state.core.table (λ cell. taken_by (begun v f cells tags) calls cell no_taker)

-- The take that gave a cell: it is among the calls, granted, and of a range with the cell.
pub record Came (m : Machine) (calls : List Call) (party cell : ℕ) : Type 0 where
  pub before : List Call
  pub take : Call
  pub base : ℕ
  pub reg : ℕ
  pub permissions : ℕ
  pub after : List Call
  pub are : calls ≡ before ++ take ∷ after
  pub is : IsTake take party base reg permissions
  pub granted : Granted (run m before) take
  pub has : inside (named_range (run m before) party base) cell ≡ true
  -- After any number of the calls that follow the cell is the party's: none gave it to another or took it back.
  pub stays : (n : ℕ) → taken_by (next (run m before) take) (front n after) cell party ≡ party

-- The same in those words: every cell of a Taken reservation whose taker is below 8 came from a granted take by that taker.
abbrev pub TakerTookIt : Type 0
TakerTookIt =
    (v f : ℕ) (cells tags : List ℕ) → Begins v f cells tags → (calls : List Call) (i cell : ℕ)
    → CellOf (run (begun v f cells tags) calls).state.core.table i cell
    → is_taken (row_at (run (begun v f cells tags) calls).state.core.table i).state ≡ true
    → (row_at (run (begun v f cells tags) calls).state.core.table i).taker < 8
    → Came (begun v f cells tags) calls (row_at (run (begun v f cells tags) calls).state.core.table i).taker cell
