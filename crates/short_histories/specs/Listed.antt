-- Document 02, 2026-10: the commands that a short history is made of, "taken from 01 to 0A, with parties and `to` 0 or 1, registers 0,
-- bases 0 or 8, lengths and counts 8 or 16, page and frame 0". Assumes nothing.
use Rattle.std.specs.Prelude.{ℕ, get_or}
use mathlib.Core.List.{List, [], ◌∷◌, map, flatten}
use Rattle.capabilities.specs.Lists.{map_each}
use Rattle.calls.specs.Commands.{command_of}
use Rattle.calls.specs.declared.Call.{Call}

-- Every list that takes one entry from each of some lists: first those that begin with the first entry of the first.
unfoldable pub choices : {A : Type 0} → List (List A) → List (List A)
choices [] = [] ∷ []
choices (xs ∷ rest) = flatten (map (λ x. map (λ l. x ∷ l) (choices rest)) xs)

-- What an operand may be, in rising order. A `to` is a party.
abbrev pub parties : List ℕ
parties = 0 ∷ 1 ∷ []

abbrev pub registers : List ℕ
registers = 0 ∷ []

abbrev pub bases : List ℕ
bases = 0 ∷ 8 ∷ []

-- The length of a split and the count of a sweep.
abbrev pub lengths : List ℕ
lengths = 8 ∷ 16 ∷ []

abbrev pub pages : List ℕ
pages = 0 ∷ []

abbrev pub frames : List ℕ
frames = 0 ∷ []

-- What the operands of each command may be, from 01 on, a row each.
unfoldable pub operands : List (List (List ℕ))
operands =
    -- 01 take P base/2 reg
    (parties ∷ bases ∷ registers ∷ [])
    -- 02 split P base/2 len/2
    ∷ (parties ∷ bases ∷ lengths ∷ [])
    -- 03 merge P base/2
    ∷ (parties ∷ bases ∷ [])
    -- 04 give P base/2 to
    ∷ (parties ∷ bases ∷ parties ∷ [])
    -- 05 revoke P base/2
    ∷ (parties ∷ bases ∷ [])
    -- 06 sweep P n/2
    ∷ (parties ∷ lengths ∷ [])
    -- 07 collect P
    ∷ (parties ∷ [])
    -- 08 map P page frame
    ∷ (parties ∷ pages ∷ frames ∷ [])
    -- 09 unmap P page
    ∷ (parties ∷ pages ∷ [])
    -- 0A zero P frame
    ∷ (parties ∷ frames ∷ [])
    ∷ []

-- The calls of the command of a byte with each choice of its operands, by the table of commands.
abbrev pub calls_of : ℕ → List (List ℕ) → List Call
calls_of byte row = map (λ xs. (command_of byte).make (λ i. get_or xs i 0)) (choices row)

-- The commands from 01 to 0A, in the order of their bytes.
unfoldable pub listed : List Call
listed = flatten (map_each calls_of 1 operands)
