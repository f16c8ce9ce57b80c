-- Which row is meant. Assumes nothing.
use Rattle.std.specs.Prelude.{ℕ, suc, ◌+◌, Bool, true, false, ◌&&◌, List, [], ◌∷◌, length, get_or, set, eqb, ltb, Option, Some, None}
use Rattle.capabilities.specs.Lists.{pick}
use Rattle.table.specs.declared.Reservation.{Reservation}
use Rattle.table.specs.Table.{Table}
use Rattle.table.specs.Rows.{is_revoking, held, blank, live, table}

abbrev pub missing : Option ℕ → Bool
missing (Some i) = false
missing None = true

-- The first entry that passes a test; the first entry's number is i.
unfoldable pub seek : (Reservation → Bool) → ℕ → List Reservation → Option ℕ
seek P i [] = None
seek P i (r ∷ l) = pick (P r) (Some i) (seek P (suc i) l)

-- The reservation begins at base and is held by the party.
abbrev pub begins : ℕ → ℕ → Reservation → Bool
begins party base r = eqb r.base base && held r party

-- The reservation of which 01 to 05 speak: "held by the caller", it "begins at base".
unfoldable pub find_of : Table → ℕ → ℕ → Option ℕ
find_of t party base = seek (begins party base) 0 (live t)

-- The next one above.
unfoldable pub next_of : Table → Option ℕ → Option ℕ
next_of t (Some i) = pick (ltb (i + 1) (length (live t))) (Some (i + 1)) None
next_of t None = None

-- The Revoking one: "A revocation runs if and only if one reservation .. is Revoking."
unfoldable pub revoking_of : Table → Option ℕ
revoking_of t = seek (λ r. is_revoking r.state) 0 (live t)

-- What stands in a row; where there is none, what stands in an unused one.
unfoldable pub row_of : Table → Option ℕ → Reservation
row_of t (Some i) = get_or t.rows i blank
row_of t None = blank

-- The table with one row put in place of the old one.
unfoldable pub with_row : Table → Option ℕ → Reservation → Table
with_row t (Some i) r = table (set t.rows i r) t.count
with_row t None r = t
