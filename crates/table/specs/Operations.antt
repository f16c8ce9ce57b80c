-- Commands 01 to 04 on the table, with refusals 6 to 9. Assumes nothing.
use Rattle.std.specs.Prelude.{ℕ, ◌+◌, ◌-◌, ◌%◌, Bool, not, ◌&&◌, ◌||◌, List, [], ◌∷◌, leb, eqb, Option, Some, None}
use Rattle.capabilities.specs.Lists.{pick}
use Rattle.capabilities.specs.Refusals.{Reason, reason, first}
use Rattle.table.specs.declared.Reservation.{Reservation}
use Rattle.table.specs.declared.ReservationState.{ReservationState}
use Rattle.table.specs.declared.ReservationState.TheVariants.{Open, Taken}
use Rattle.table.specs.Table.{Table}
use Rattle.table.specs.Table.{Tabled}
use Rattle.table.specs.Table.{Taken as Took}
use Rattle.table.specs.Rows.{is_open, is_taken, held, no_taker, several_takers, reservation, spread, gather}
use Rattle.table.specs.Find.{missing, find_of, next_of, row_of, with_row}

-- A refused operation keeps the table as it was.
abbrev pub tabled : ℕ → Table → Table → Tabled
tabled code before after = record { code = code; table = pick (eqb code 0) after before }

-- 6: "no reservation held by the caller begins at base"; 7: take or give "names one not Open".
unfoldable pub open_reasons : Option ℕ → Reservation → List Reason
open_reasons f r = reason 6 (missing f) ∷ reason 7 (not (is_open r.state)) ∷ []

-- 01 take: 6, 7. "Open becomes Taken with holder 0 .. Answers the length."
unfoldable pub take_reasons : Table → ℕ → ℕ → List Reason
take_reasons t party base =
    let f = find_of t party base in
    open_reasons f (row_of t f)

-- Its taker is the party.
abbrev pub taken_row : Reservation → ℕ → Reservation
taken_row r party = reservation r.base r.length Taken 0 party

unfoldable pub take_of : Table → ℕ → ℕ → Took
take_of t party base =
    let f = find_of t party base in
    let code = first (take_reasons t party base) in
    record { code = code; length = pick (eqb code 0) (row_of t f).length 0; table = pick (eqb code 0) (with_row t f (taken_row (row_of t f) party)) t }

-- 8: "The split length is 0, or not below the reservation's length."
abbrev pub bad_split : Reservation → ℕ → Bool
bad_split r len = eqb len 0 || leb r.length len

-- 9: "A split finds 64 reservations."
abbrev pub full : Table → Bool
full t = leb 64 t.count

-- 02 split: 6, 7 if it is not Open, 8, 9. "Two Open ones; the lower has len cells."
unfoldable pub split_reasons_at : Table → Option ℕ → ℕ → List Reason
split_reasons_at t f len =
    let r = row_of t f in
    reason 6 (missing f)
    ∷ reason 7 (not (is_open r.state)) ∷ reason 8 (bad_split r len) ∷ reason 9 (full t) ∷ []

unfoldable pub split_reasons : Table → ℕ → ℕ → ℕ → List Reason
split_reasons t party base len = split_reasons_at t (find_of t party base) len

abbrev pub lower_part : Reservation → ℕ → Reservation
lower_part r len = reservation r.base len Open r.holder no_taker

-- No well-formed table has a base above 65,535; the remainder serves the others.
abbrev pub upper_part : Reservation → ℕ → Reservation
upper_part r len = reservation ((r.base + len) % 65536) (r.length - len) Open r.holder no_taker

unfoldable pub split_at : Table → Option ℕ → ℕ → Table
split_at t (Some i) len = spread t i (lower_part (row_of t (Some i)) len) (upper_part (row_of t (Some i)) len)
split_at t None len = t

unfoldable pub split_of : Table → ℕ → ℕ → ℕ → Tabled
split_of t party base len = tabled (first (split_reasons t party base len)) t (split_at t (find_of t party base) len)

-- 7: merge needs a "next one held by the caller with both Open or both Taken".
abbrev pub alike : ReservationState → ReservationState → Bool
alike a b = (is_open a && is_open b) || (is_taken a && is_taken b)

unfoldable pub mergeable : Table → Option ℕ → ℕ → Bool
mergeable t f party =
    let g = next_of t f in
    not (missing g) && (held (row_of t g) party && alike (row_of t f).state (row_of t g).state)

-- 03 merge: 6, 7. "Joins it with the next one above."
unfoldable pub merge_reasons_at : Table → Option ℕ → ℕ → List Reason
merge_reasons_at t f party = reason 6 (missing f) ∷ reason 7 (not (mergeable t f party)) ∷ []

unfoldable pub merge_reasons : Table → ℕ → ℕ → List Reason
merge_reasons t party base = merge_reasons_at t (find_of t party base) party

-- "8 where a merge joined Taken ones of different takers"; two Open ones have the same, 9.
abbrev pub joined_taker : ℕ → ℕ → ℕ
joined_taker a b = pick (eqb a b) a several_takers

-- No well-formed table has a length above 65,535; the remainder serves the others.
abbrev pub joined : Reservation → Reservation → Reservation
joined r s = reservation r.base ((r.length + s.length) % 65536) r.state r.holder (joined_taker r.taker s.taker)

unfoldable pub merge_at : Table → Option ℕ → Table
merge_at t (Some i) = gather t i (joined (row_of t (Some i)) (row_of t (next_of t (Some i))))
merge_at t None = t

unfoldable pub merge_of : Table → ℕ → ℕ → Tabled
merge_of t party base = tabled (first (merge_reasons t party base)) t (merge_at t (find_of t party base))

-- 04 give: 6, 7. "The holder becomes `to`; giving to oneself changes nothing."
unfoldable pub give_reasons : Table → ℕ → ℕ → List Reason
give_reasons t party base =
    let f = find_of t party base in
    open_reasons f (row_of t f)

abbrev pub given_row : Reservation → ℕ → Reservation
given_row r to = reservation r.base r.length r.state to r.taker

unfoldable pub give_of : Table → ℕ → ℕ → ℕ → Tabled
give_of t party base to =
    let f = find_of t party base in
    tabled (first (give_reasons t party base)) t (with_row t f (given_row (row_of t f) to))
