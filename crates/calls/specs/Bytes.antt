-- Document 01, "Commands": operands of several bytes have the high byte first.
use Rattle.std.specs.Prelude.{ℕ, zero, suc, ◌+◌, ◌*◌, ◌/◌, ◌%◌, ◌^◌, ◌<◌, List, [], ◌∷◌, ◌++◌, get_or}

-- `x` in `w` bytes. The first holds all that the later ones leave, so all are bytes if x is below 256 to the power w.
abbrev pub bytes : ℕ → ℕ → List ℕ
bytes zero x = []
bytes (suc zero) x = x ∷ []
bytes (suc (suc w)) x = bytes (suc w) (x / 256) ++ (x % 256 ∷ [])

-- The number that the `w` bytes from place `i` on stand for.
abbrev pub number : ℕ → ℕ → List ℕ → ℕ
number zero i s = 0
number (suc zero) i s = get_or s i 0
number (suc (suc w)) i s = number (suc w) i s * 256 + get_or s (i + suc w) 0

-- Numbers one after the other, each in its own width.
abbrev pub bytes_in : List ℕ → List ℕ → List ℕ
bytes_in [] xs = []
bytes_in (w ∷ ws) [] = []
bytes_in (w ∷ ws) (x ∷ xs) = bytes w x ++ bytes_in ws xs

-- The numbers that stand one after the other from place `i` on.
abbrev pub numbers_at : List ℕ → ℕ → List ℕ → List ℕ
numbers_at [] i s = []
numbers_at (w ∷ ws) i s = number w i s ∷ numbers_at ws (i + w) s

abbrev pub sum : List ℕ → ℕ
sum [] = 0
sum (w ∷ ws) = w + sum ws

-- There is a number for each width, and it fits.
abbrev pub Fit : List ℕ → List ℕ → Type 0
Fit [] [] = Unit {0}
Fit [] (x ∷ xs) = ⊥
Fit (w ∷ ws) [] = ⊥
Fit (w ∷ ws) (x ∷ xs) = (x < 256 ^ w) × Fit ws xs

-- Every entry of a list is a byte.
abbrev pub Bytes : List ℕ → Type 0
Bytes s = (i : ℕ) → get_or s i 0 < 256
