-- The table of reservations, and what the calls on it answer. Assumes nothing.
use Rattle.std.specs.Prelude.{ℕ, List}
use Rattle.table.specs.declared.Reservation.{Reservation}

-- The reservations in rising base; rows at the count and above are unused.
pub record Table : Type 0 where
  pub rows : List Reservation
  pub count : ℕ

-- What split, merge and give answer: 0 or the refusal's number, and the table after it.
pub record Tabled : Type 0 where
  pub code : ℕ
  pub table : Table

-- What take answers: the same, and the length of what was taken.
pub record Taken : Type 0 where
  pub code : ℕ
  pub length : ℕ
  pub table : Table
