-- Document 02, 2026-10: "A history is one line of capital hexadecimal, two digits a byte and no spaces, the empty one an empty line."
-- Assumes nothing.
use Rattle.std.specs.Prelude.{ℕ, ◌+◌, ◌/◌, ◌%◌, Bool, true, false, ◌&&◌, ◌||◌, eqb, ltb}
use mathlib.Core.List.{List, [], ◌∷◌, ◌++◌, map, flatten}
use Rattle.capabilities.specs.Lists.{pick}
use Rattle.calls.specs.Commands.{bytes_of}
use Rattle.calls.specs.declared.Call.{Call}

-- The bytes of a history: those of its calls, one after the other.
unfoldable pub bytes_in : List Call → List ℕ
bytes_in calls = flatten (map bytes_of calls)

-- "Rising byte order": where they first differ, the lower one has the lower byte or has ended.
unfoldable pub lower : List ℕ → List ℕ → Bool
lower xs [] = false
lower [] (y ∷ ys) = true
lower (x ∷ xs) (y ∷ ys) = ltb x y || (eqb x y && lower xs ys)

-- A digit: 0 to 9 (from 48 on) or A to F (from 65 on).
unfoldable pub digit : ℕ → ℕ
digit n = pick (ltb n 10) (48 + n) (55 + n)

-- "Two digits a byte".
unfoldable pub digits : List ℕ → List ℕ
digits [] = []
digits (b ∷ bytes) = digit (b / 16) ∷ digit (b % 16) ∷ digits bytes

-- A line of bytes ends with a newline (10).
unfoldable pub hex_line : List ℕ → List ℕ
hex_line bytes = digits bytes ++ (10 ∷ [])

-- The lines of a text: what stands before each newline, behind what has begun.
unfoldable pub lines_in : List ℕ → List ℕ → List (List ℕ)
lines_in begun [] = []
lines_in begun (x ∷ rest) = pick (eqb x 10) (begun ∷ lines_in [] rest) (lines_in (begun ++ (x ∷ [])) rest)

-- A history's line.
unfoldable pub line_of : List Call → List ℕ
line_of calls = hex_line (bytes_in calls)
