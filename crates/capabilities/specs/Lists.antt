-- Words for lists of entries, each entry with its number. Assumes nothing.
use Rattle.std.specs.Prelude.{ℕ, suc, Bool, true, false, ◌&&◌, ◌⊎◌, List, [], ◌∷◌, ◌≡◌, eqb}

-- The first if the test holds, or else the second.
abbrev pub pick {ℓ} : {A : Type ℓ} → Bool → A → A → A
pick true x y = x
pick false x y = y

-- Every entry passes the test of its number and itself; the first entry's number is n.
unfoldable pub each : {A : Type 0} → (ℕ → A → Bool) → ℕ → List A → Bool
each P n [] = true
each P n (x ∷ l) = P n x && each P (suc n) l

-- Every entry is replaced by what f makes of its number and itself; the first entry's number is n.
unfoldable pub map_each : {A B : Type 0} → (ℕ → A → B) → ℕ → List A → List B
map_each f n [] = []
map_each f n (x ∷ l) = f n x ∷ map_each f (suc n) l

-- Every entry passes the test.
unfoldable pub all : {A : Type 0} → (A → Bool) → List A → Bool
all P [] = true
all P (x ∷ l) = P x && all P l

-- The same of what need not be a test.
unfoldable pub Every : {A : Type 0} → (A → Type 0) → List A → Type 0
Every P [] = Unit {0}
Every P (x ∷ l) = P x × Every P l

-- Something stands in a list.
abbrev pub In : {A : Type 0} → A → List A → Type 0
In x [] = ⊥
In x (y ∷ l) = (x ≡ y) ⊎ In x l

-- Each entry stands so to every one after it.
abbrev pub Ordered : {A : Type 0} → (A → A → Type 0) → List A → Type 0
Ordered R [] = Unit {0}
Ordered R (x ∷ l) = ((y : _) → In y l → R x y) × Ordered R l

-- Those that pass a test, in their order.
unfoldable pub filter : {A : Type 0} → (A → Bool) → List A → List A
filter P [] = []
filter P (x ∷ l) = pick (P x) (x ∷ filter P l) (filter P l)

-- The same numbers in the same order.
unfoldable pub same : List ℕ → List ℕ → Bool
same [] [] = true
same [] (y ∷ ys) = false
same (x ∷ xs) [] = false
same (x ∷ xs) (y ∷ ys) = eqb x y && same xs ys
