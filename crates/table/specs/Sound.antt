-- Numbers that are a table: they read as a well-formed one, and each is what its reservation is written as. Assumes nothing.
use Rattle.std.specs.Prelude.{ℕ, ◌/◌, ◌%◌, Bool, true, ◌&&◌, ◌||◌, List, [], ◌∷◌, eqb, ltb, leb}
use Rattle.table.specs.Table.{Table}
use Rattle.table.specs.Rows.{no_taker, several_takers, live}
use Rattle.table.specs.Tiling.{table_sound, takers_sound}
use Rattle.table.specs.Numbers.{table_of, all_written}

-- A well-formed table, takers included.
abbrev pub whole_table : ℕ → Table → Bool
whole_table cells t = table_sound cells t && takers_sound (live t)

unfoldable pub sound_numbers : ℕ → List ℕ → ℕ → Bool
sound_numbers cells l count = whole_table cells (table_of l count) && all_written l

unfoldable pub all_zero : List ℕ → Bool
all_zero [] = true
all_zero (n ∷ l) = eqb n 0 && all_zero l

-- What the bits from 32 up of a sound reservation's number are.
abbrev pub top_sound : ℕ → Bool
top_sound h =
    ((eqb (h % 65536) 1 || eqb (h % 65536) 2) && leb (h / 65536) several_takers)
    || ((eqb (h % 256) 0 && ltb (h % 65536) 2048) && eqb (h / 65536) no_taker)
