-- A well-formed state, written and read again, is the same. Assumes nothing.
use Prim.Native.Nat.{ℕ, ◌+◌, ◌*◌, ◌<◌}
use native.Mathlib.Omega.{arith}
use mathlib.Core.Bool.{true}
use mathlib.Core.List.{List, [], ◌∷◌, ◌++◌, map}
use mathlib.Core.Path.{◌≡◌, refl, sym, ap, subst}
use lib.ListN.{drop}
use borrow.Author.Tests.{leb-true}
use Rattle.capabilities.proofs.Choice.{and_left, and_right}
use Rattle.pages.proofs.Reading.{pages_back, frames_back}
use Rattle.table.specs.declared.Reservation.{Reservation}
use Rattle.table.specs.Table.{Table}
use Rattle.table.specs.Rows.{is_blank, live}
use Rattle.table.specs.Tiling.{tiles, all_blank, taker_sound, takers_sound, table_sound}
use Rattle.table.proofs.Sound.{sound, rows_parts}
use Rattle.table.proofs.Inverse.{blank_is}
use Rattle.table.proofs.Numbers.{Sized}
use Rattle.table.proofs.Takers.{taker_small}
use Rattle.table.proofs.Tiled.{tiles_begin, row_holder}
use Rattle.reservations.proofs.CoreKept.{core_facts}
use Rattle.machine.specs.State.{State}
use Rattle.machine.specs.Formed as rules
use Rattle.machine.proofs.Keeps.{facts}
use Rattle.table.specs.Numbers.{row_from, row_code}
use Rattle.arrays.specs.Reading.{numbers_of, core_of, state_of, arrays_of, Formed, StateBackAgain}
use Rattle.claims.proofs.RoundTrip.{claims_back}
use Rattle.words.proofs.Lent.{slots_back}
use Rattle.table.proofs.RoundTrip.{AllSized, rows_back}

-- The fields of a well-formed table's rows have their sizes: of rows that tile fewer than 65,536 cells, and of unused ones.
tiled_sized : (from upto : ℕ) (l : List Reservation) → upto < 65536 → tiles from upto l ≡ true → takers_sound l ≡ true → AllSized l
unfolding takers_sound
tiled_sized from upto [] h e k = refl
tiled_sized from upto (r ∷ l) h e k =
    let b = tiles_begin from upto r l e in
    let held = leb-true r.holder 7 (row_holder r b.row) in
    let taker = taker_small r (and_left (taker_sound r) (takers_sound l) k) in (
      record { base = omega (arith, b.base, b.fits); length = omega (arith, b.fits); holder = omega (arith, held); taker = omega (arith, taker) },
      tiled_sized (from + r.length) upto l h b.rest (and_right (taker_sound r) (takers_sound l) k),
    )

blank_sized : (l : List Reservation) → all_blank l ≡ true → AllSized l
unfolding all_blank
blank_sized [] e = refl
blank_sized (r ∷ l) e = (
  subst Sized (sym (blank_is r (and_left (is_blank r) (all_blank l) e))) (record { base = omega arith; length = omega arith; holder = omega arith; taker = omega arith }),
  blank_sized l (and_right (is_blank r) (all_blank l) e),
)

both_sized : (l m : List Reservation) → AllSized l → AllSized m → AllSized (l ++ m)
both_sized [] m s t = t
both_sized (r ∷ l) m s t = (s.0, both_sized l m s.1 t)

pub table_rows_back : (cells : ℕ) (t : Table) → cells < 65536 → table_sound cells t ≡ true → takers_sound (live t) ≡ true → map row_from (map row_code t.rows) ≡ t.rows
table_rows_back cells t h e k =
    let s = sound cells t e in
    rows_back t.rows
    (subst AllSized (sym (rows_parts t)) (both_sized (live t) (drop t.count t.rows) (tiled_sized 0 cells (live t) h s.tiled k) (blank_sized (drop t.count t.rows) s.unused)))

pub state_back_again : StateBackAgain
unfolding state_of arrays_of core_of numbers_of
state_back_again s w =
    let c = core_facts s.core (facts s w).core in
    rw (pages_back s.core.pages c.layer, frames_back s.core.pages.frames, table_rows_back (16 * s.core.pages.v) s.core.table c.fits c.rows (facts s w).takers, slots_back s.registers, slots_back s.mailboxes, claims_back s.core.pages.v s.core.claims (facts s w).claims)

-- So the arrays that a well-formed state is written as are well formed.
pub written_formed : (s : State) → rules.well_formed s ≡ true → Formed (arrays_of s)
written_formed s w =
    let e = state_back_again s w in
    record { well = subst (λ x. rules.well_formed x ≡ true) (sym e) w; kept = ap arrays_of e }
