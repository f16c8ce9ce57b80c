-- How principals and counts lie in memory. A principal is one number: its unspent limit in bits 0 to 15, its parent in 16 to 23, its holder
-- in 24 to 31, and bit 32 set if it is in being. All zero is no principal. The counts of principal p begin at 256 p. Assumes nothing.
use Rattle.std.specs.Prelude.{ℕ, ◌+◌, ◌*◌, ◌/◌, ◌%◌, Bool, ◌&&◌, ◌||◌, List, [], ◌∷◌, ◌++◌, map, length, take, drop, replicate, eqb, leb, ltb}
use Rattle.capabilities.specs.Lists.{pick, each, map_each}
use Rattle.claims.specs.declared.Principal.{Principal}
use Rattle.claims.specs.Claims.{Claims, claims, principal, above}
use Rattle.claims.specs.Sound.{claims_sound}

-- The principal that a number reads as.
unfoldable pub principal_from : ℕ → Principal
principal_from n = principal (leb 4294967296 n) (n / 16777216 % 256) (n / 65536 % 256) (n % 65536)

-- The number that a principal is written as.
unfoldable pub principal_code : Principal → ℕ
principal_code q = q.unspent + 65536 * q.parent + 16777216 * q.holder + pick q.being 4294967296 0

-- The number is one that a principal is written as: the bits above 32 are 0.
unfoldable pub written : ℕ → ℕ → Bool
written p n = ltb n 8589934592

-- The counts of one principal.
abbrev pub window : List ℕ → ℕ → List ℕ
window counts p = take 256 (drop (256 * p) counts)

-- The claims that numbers and counts read as: the counts of a principal that is not in being are not looked at.
unfoldable pub counts_read : List ℕ → ℕ → ℕ → List ℕ
counts_read counts p n = pick (principal_from n).being (window counts p) []

abbrev pub claims_in : List ℕ → List ℕ → Claims
claims_in numbers counts = claims (map principal_from numbers) (map_each (counts_read counts) 0 numbers)

-- What claims are written as: their numbers, and the counts one principal after the other, 0 where a principal has none.
abbrev pub numbers_of : Claims → List ℕ
numbers_of c = map principal_code c.principals

abbrev pub padded : List ℕ → List ℕ
padded l = pick (eqb (length l) 0) (replicate 256 0) l

unfoldable pub laid : List (List ℕ) → List ℕ
laid [] = []
laid (l ∷ rest) = padded l ++ laid rest

-- The counts of a principal that is not in being are 0.
unfoldable pub unused_zero : List ℕ → ℕ → ℕ → Bool
unused_zero counts p n = (principal_from n).being || eqb (above (window counts p)) 0

-- The numbers and counts are as many as the machine's, and what the claims that they read as are written as.
abbrev pub sized_in : List ℕ → List ℕ → Bool
sized_in numbers counts = eqb (length numbers) 32 && eqb (length counts) 8192

abbrev pub kept_in : List ℕ → List ℕ → Bool
kept_in numbers counts = each written 0 numbers && each (unused_zero counts) 0 numbers

-- They are well-formed claims, where V is this.
unfoldable pub sound_in : ℕ → List ℕ → List ℕ → Bool
sound_in v numbers counts = sized_in numbers counts && (kept_in numbers counts && claims_sound v (claims_in numbers counts))
