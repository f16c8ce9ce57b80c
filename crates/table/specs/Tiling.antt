-- Document 01, 'Things and their sizes': "The table holds 1 to 64 reservations in rising base, tiling cells 0 to
-- 16 × V − 1." Assumes nothing.
use Rattle.std.specs.Prelude.{ℕ, ◌+◌, Bool, true, false, ◌&&◌, ◌||◌, List, [], ◌∷◌, length, drop, replicate, leb, ltb, eqb}
use Rattle.capabilities.specs.Lists.{pick}
use Rattle.capabilities.specs.Range.{inside}
use Rattle.table.specs.declared.Reservation.{Reservation}
use Rattle.table.specs.declared.ReservationState.TheVariants.{Open}
use Rattle.table.specs.Table.{Table}
use Rattle.table.specs.Rows.{is_open, is_revoking, is_blank, no_taker, several_takers, blank, reservation, range_of, live, table}

-- "Each has .. length (at least 1) .. Taken and Revoking have holder 0"; a holder is a party, 0 to 7.
abbrev pub row_sound : Reservation → Bool
row_sound r = (ltb 0 r.length && leb r.holder 7) && (is_open r.state || eqb r.holder 0)

-- A sound reservation that begins at a cell.
abbrev pub follows : ℕ → Reservation → Bool
follows from r = eqb r.base from && row_sound r

-- Sound reservations, one after the other, cover the cells from one up to another.
unfoldable pub tiles : ℕ → ℕ → List Reservation → Bool
tiles from upto [] = eqb from upto
tiles from upto (r ∷ l) = follows from r && tiles (from + r.length) upto l

-- "All unused entries are 0."
unfoldable pub all_blank : List Reservation → Bool
all_blank [] = true
all_blank (r ∷ l) = is_blank r && all_blank l

-- How many are Revoking.
abbrev pub weight : Reservation → ℕ
weight r = pick (is_revoking r.state) 1 0

unfoldable pub revokings : List Reservation → ℕ
revokings [] = 0
revokings (r ∷ l) = weight r + revokings l

-- The table has 64 rows, of which 1 to 64 are used.
unfoldable pub sized : Table → Bool
sized t = eqb (length t.rows) 64 && (ltb 0 t.count && leb t.count 64)

-- The table's part of "A state is well formed"; "one reservation, never more, is Revoking".
unfoldable pub table_sound : ℕ → Table → Bool
table_sound cells t =
    (sized t && tiles 0 cells (live t)) && (all_blank (drop t.count t.rows) && leb (revokings (live t)) 1)

-- Document 02, 2026-04: "A state is not well formed if an Open one's taker isn't 9 or a Taken or Revoking one's is above 8."
abbrev pub taker_sound : Reservation → Bool
taker_sound r = pick (is_open r.state) (eqb r.taker no_taker) (leb r.taker several_takers)

unfoldable pub takers_sound : List Reservation → Bool
takers_sound [] = true
takers_sound (r ∷ l) = taker_sound r && takers_sound l

-- "A fresh start .. has one Open reservation held by party 0"; with no cells all is 0.
unfoldable pub fresh_table : ℕ → Table
fresh_table cells =
    pick (eqb cells 0) (table (replicate 64 blank) 0) (table (reservation 0 cells Open 0 no_taker ∷ replicate 63 blank) 1)

-- A cell belongs to a reservation of the table.
unfoldable pub covered : List Reservation → ℕ → Bool
covered [] c = false
covered (r ∷ l) c = inside (range_of r) c || covered l c

unfoldable pub covers : Table → ℕ → Bool
covers t c = covered (live t) c
