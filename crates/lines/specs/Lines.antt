-- Document 01, 'One session in full': "a decimal line `code number tag` for the start and each command". Assumes nothing.
use Rattle.std.specs.Prelude.{ℕ, zero, suc, ◌+◌, ◌/◌, ◌%◌, Bool, List, [], ◌∷◌, ◌++◌, ltb}
use Rattle.capabilities.specs.Lists.{pick}
use Rattle.words.specs.Words.{byte_of}

-- The digits of a number, the highest first, of which there are at most so many as the first number says.
unfoldable pub digits : ℕ → ℕ → List ℕ
digits zero n = []
digits (suc most) n = pick (ltb n 10) ((48 + n) ∷ []) (digits most (n / 10) ++ ((48 + n % 10) ∷ []))

-- A number in decimal. A code, a word or a tag is below 2 to the 64, so that twenty digits are enough.
unfoldable pub decimal : ℕ → List ℕ
decimal n = digits 20 n

-- A line: three numbers with a space (32) between, and a newline (10).
unfoldable pub line_of : ℕ → ℕ → Bool → List ℕ
line_of code number tag = decimal code ++ (32 ∷ (decimal number ++ (32 ∷ (decimal (byte_of tag) ++ (10 ∷ [])))))
