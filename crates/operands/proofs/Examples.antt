-- Numbers that are a call and numbers that are none, by computing on the definitions.
use Prim.Native.Nat.{ℕ, suc}
use mathlib.Core.Bool.{true, false}
use mathlib.Core.List.{List, [], ◌∷◌, map}
use mathlib.Core.Path.{◌≡◌, refl}
use Rattle.capabilities.specs.Lists.{each}
use Rattle.calls.specs.Commands.{page, frame, last_byte}
use Rattle.calls.specs.Writer.{write_of}
use Rattle.calls.specs.declared.Call.TheVariants.{Map}
use Rattle.operands.specs.Numbers.{numbers_of, call_from, same, are_call, answered, write_numbers}

-- 08 map P page frame.
pub map_numbers : numbers_of (Map 0 (page 3) (frame 2)) ≡ 8 ∷ 0 ∷ 3 ∷ 2 ∷ 0 ∷ 0 ∷ 0 ∷ []
unfolding numbers_of
map_numbers = refl

-- 0E number P d value/8: three bytes before the value's eight.
pub number_written :
    write_numbers (14 ∷ 3 ∷ 1 ∷ 258 ∷ 0 ∷ 0 ∷ 0 ∷ []) (9 ∷ 9 ∷ 9 ∷ 9 ∷ 9 ∷ 9 ∷ 9 ∷ 9 ∷ 9 ∷ 9 ∷ 9 ∷ 9 ∷ [])
    ≡ answered 11 (14 ∷ 3 ∷ 1 ∷ 0 ∷ 0 ∷ 0 ∷ 0 ∷ 0 ∷ 0 ∷ 1 ∷ 2 ∷ 9 ∷ [])
unfolding numbers_of call_from same each are_call write_numbers write_of
number_written = refl

-- Numbers of all sorts.
pub cases : List (List ℕ)
cases =
    -- sweep of 65535 cells
    (6 ∷ 0 ∷ 65535 ∷ 0 ∷ 0 ∷ 0 ∷ 0 ∷ [])
    -- 65536 has no two bytes
    ∷ (6 ∷ 0 ∷ 65536 ∷ 0 ∷ 0 ∷ 0 ∷ 0 ∷ [])
    -- sweep has no third operand
    ∷ (6 ∷ 0 ∷ 10 ∷ 1 ∷ 0 ∷ 0 ∷ 0 ∷ [])
    -- six numbers, and eight
    ∷ (6 ∷ 0 ∷ 10 ∷ 0 ∷ 0 ∷ 0 ∷ [])
    ∷ (6 ∷ 0 ∷ 10 ∷ 0 ∷ 0 ∷ 0 ∷ 0 ∷ 0 ∷ [])
    -- no commands: 0, one past the last, and 262, which is 6 and a byte too many
    ∷ (0 ∷ 0 ∷ 10 ∷ 0 ∷ 0 ∷ 0 ∷ 0 ∷ [])
    ∷ (suc last_byte ∷ 0 ∷ 10 ∷ 0 ∷ 0 ∷ 0 ∷ 0 ∷ [])
    ∷ (262 ∷ 0 ∷ 10 ∷ 0 ∷ 0 ∷ 0 ∷ 0 ∷ [])
    ∷ []

pub cases_judged : map are_call cases ≡ true ∷ false ∷ false ∷ false ∷ false ∷ false ∷ false ∷ false ∷ []
unfolding numbers_of call_from same each are_call cases
cases_judged = refl
