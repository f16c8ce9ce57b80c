-- Words for the search in the code, which serve speed alone and are part of no rule. Assumes nothing.
use Rattle.std.specs.Prelude.{ℕ, Bool, ◌||◌, drop, Option}
use Rattle.table.specs.declared.Reservation.{Reservation}
use Rattle.table.specs.Table.{Table}
use Rattle.table.specs.Rows.{live}
use Rattle.table.specs.Find.{seek}

-- A search for the first row that passes a test, from the i-th row in use on.
abbrev pub seek_from : (Reservation → Bool) → Table → ℕ → Option ℕ
seek_from P t i = seek P i (drop i (live t))

-- One of four passes a test.
abbrev pub any_of : (Reservation → Bool) → Reservation → Reservation → Reservation → Reservation → Bool
any_of P a b c d = ((P a || P b) || P c) || P d
