-- Document 01, 'Things and their sizes': one reservation, and the table's rows; its taker is document 02's, 2026-04. Assumes nothing.
use Rattle.std.specs.Prelude.{ℕ, ◌+◌, ◌-◌, Bool, true, false, ◌&&◌, List, [], ◌∷◌, ◌++◌, map, length, take, drop, eqb}
use Rattle.capabilities.specs.declared.Range.{Range}
use Rattle.table.specs.declared.ReservationState.{ReservationState}
use Rattle.table.specs.declared.ReservationState.TheVariants.{Open, Taken, Revoking}
use Rattle.table.specs.declared.Reservation.{Reservation}
use Rattle.table.specs.Table.{Table}

-- "State (0 Open, 1 Taken, 2 Revoking)".
abbrev pub state_number : ReservationState → ℕ
state_number Open = 0
state_number Taken = 1
state_number Revoking = 2

abbrev pub is_open : ReservationState → Bool
is_open Open = true
is_open Taken = false
is_open Revoking = false

abbrev pub is_taken : ReservationState → Bool
is_taken Open = false
is_taken Taken = true
is_taken Revoking = false

abbrev pub is_revoking : ReservationState → Bool
is_revoking Open = false
is_revoking Taken = false
is_revoking Revoking = true

-- Document 02, 2026-04: "Each reservation's record gets a taker: 9 when Open, the party when Taken or Revoking, 8 where a merge joined
-- Taken ones of different takers."
abbrev pub no_taker : ℕ
no_taker = 9

abbrev pub several_takers : ℕ
several_takers = 8

abbrev pub reservation : ℕ → ℕ → ReservationState → ℕ → ℕ → Reservation
reservation base length state holder taker = record { base = base; length = length; state = state; holder = holder; taker = taker }

-- "All unused entries are 0."
abbrev pub blank : Reservation
blank = reservation 0 0 Open 0 0

abbrev pub is_blank : Reservation → Bool
is_blank r = ((is_open r.state && eqb r.holder 0) && (eqb r.base 0 && eqb r.length 0)) && eqb r.taker 0

-- A party holds a reservation.
abbrev pub held : Reservation → ℕ → Bool
held r party = eqb r.holder party

-- The cells of a reservation.
abbrev pub range_of : Reservation → Range
range_of r = record { base = r.base; length = r.length }

abbrev pub table : List Reservation → ℕ → Table
table rows count = record { rows = rows; count = count }

-- A reservation and a table without takers.
abbrev pub forget_row : Reservation → Reservation
forget_row r = reservation r.base r.length r.state r.holder 0

abbrev pub forget_table : Table → Table
forget_table t = table (map forget_row t.rows) t.count

-- The table's reservations; the rows above are unused.
unfoldable pub live : Table → List Reservation
live t = take t.count t.rows

-- k entries from the i-th on are replaced by new ones.
unfoldable pub splice : {A : Type 0} → ℕ → ℕ → List A → List A → List A
splice i k new l = take i l ++ (new ++ drop (i + k) l)

-- One row more: the i-th becomes two, and those above it move up.
unfoldable pub spread : Table → ℕ → Reservation → Reservation → Table
spread t i lower upper = table (splice i 1 (lower ∷ upper ∷ []) (live t) ++ drop (t.count + 1) t.rows) (t.count + 1)

-- One row less: the i-th and the next one become one, those above move down, and the last one's row is unused.
unfoldable pub gather : Table → ℕ → Reservation → Table
gather t i joined = table (splice i 2 (joined ∷ []) (live t) ++ (blank ∷ drop (length (live t)) t.rows)) (length (live t) - 1)
