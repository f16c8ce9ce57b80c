-- A reservation as one number: base in bits 0 to 15 and length in 16 to 31, as in a capability; then its state (0 Open, 1 Taken,
-- 2 Revoking) in 32 to 39, its holder in 40 to 47 and its taker in 48 to 55. The rest are 0. All zero is an unused row. Assumes nothing.
use Rattle.std.specs.Prelude.{ℕ, ◌+◌, ◌*◌, ◌/◌, ◌%◌, Bool, true, ◌&&◌, List, [], ◌∷◌, map, eqb, leb, ltb}
use Rattle.capabilities.specs.Lists.{pick}
use Rattle.table.specs.declared.ReservationState.{ReservationState}
use Rattle.table.specs.declared.ReservationState.TheVariants.{Open, Taken, Revoking}
use Rattle.table.specs.declared.Reservation.{Reservation}
use Rattle.table.specs.Table.{Table}
use Rattle.table.specs.Rows.{state_number, reservation, table}

-- Every number reads as a state; only 0, 1 and 2 are written.
unfoldable pub state_from : ℕ → ReservationState
state_from k = pick (eqb k 0) Open (pick (eqb k 1) Taken Revoking)

-- The reservation that a number reads as.
unfoldable pub row_from : ℕ → Reservation
row_from n =
    reservation (n % 65536) (n / 65536 % 65536) (state_from (n / 4294967296 % 256)) (n / 1099511627776 % 256) (n / 281474976710656 % 256)

-- The number that a reservation is written as.
unfoldable pub row_code : Reservation → ℕ
row_code r =
    r.base + 65536 * r.length + 4294967296 * state_number r.state + 1099511627776 * r.holder + 281474976710656 * r.taker

-- The number is one that a reservation is written as: its state is one of the three, and the bits above the taker are 0.
unfoldable pub written : ℕ → Bool
written n = leb (n / 4294967296 % 256) 2 && ltb n 72057594037927936

unfoldable pub all_written : List ℕ → Bool
all_written [] = true
all_written (n ∷ l) = written n && all_written l

-- The table that numbers and a count read as.
abbrev pub table_of : List ℕ → ℕ → Table
table_of l count = table (map row_from l) count

-- The numbers that a table's rows are written as.
abbrev pub numbers_of : Table → List ℕ
numbers_of t = map row_code t.rows
