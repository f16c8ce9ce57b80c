-- What the answers promise, in words. `crates/maps/proofs` has the proofs, under the same names in small letters. Assumes nothing.
use Rattle.std.specs.Prelude.{ℕ, ◌+◌, ◌-◌, ◌<◌, ◌≤◌, ◌≡◌, true, false, ◌⊎◌, List}
use Rattle.capabilities.specs.declared.Range.{Range}
use Rattle.capabilities.specs.Lists.{In, Ordered}
use Rattle.capabilities.specs.Range.{inside}
use Rattle.table.specs.declared.Reservation.{Reservation}
use Rattle.table.specs.Rows.{range_of, live}
use Rattle.reservations.specs.Core.{Core}
use Rattle.reservations.specs.Revocation.{core_sound}
use Rattle.maps.specs.declared.Question.{Question}
use Rattle.maps.specs.declared.Question.TheVariants.{Nearest}
use Rattle.maps.specs.Cells.{shares, within, distance}
use Rattle.maps.specs.Records.{tile_from, bad_records}
use Rattle.maps.specs.Questions.{is_listed, bases_of, candidate, answer, ask_of}

-- ---- What the tests say of cells

-- A cell of both ranges.
abbrev pub Common : Range → Range → Type 0
Common p q = (c : ℕ) × ((inside p c ≡ true) × (inside q c ≡ true))

-- Two ranges with cells pass the test if and only if they have a cell in common.
abbrev pub SharesMeans : Type 0
SharesMeans = (p q : Range) → 0 < p.length → 0 < q.length → (shares p q ≡ true → Common p q) × (Common p q → shares p q ≡ true)

-- A range with cells passes the test if and only if each of its cells lies in the other.
abbrev pub WithinMeans : Type 0
WithinMeans = (p q : Range) → 0 < p.length
    → (within p q ≡ true → (c : ℕ) → inside p c ≡ true → inside q c ≡ true) × (((c : ℕ) → inside p c ≡ true → inside q c ≡ true) → within p q ≡ true)

-- How many cells two cells are apart.
abbrev pub apart : ℕ → ℕ → ℕ
apart c d = (c - d) + (d - c)

-- "Distance is to its closest cell": some cell of the range is so far, and none is nearer; so it is 0 inside.
abbrev pub DistanceMeans : Type 0
DistanceMeans = (c : ℕ) (p : Range) → 0 < p.length
    → ((d : ℕ) × ((inside p d ≡ true) × (apart c d ≡ distance c p))) × ((d : ℕ) → inside p d ≡ true → distance c p ≤ apart c d)

-- ---- The lists

-- "In rising base", of records that tile: no base stands there twice.
abbrev pub ListRises : Type 0
ListRises = (q : Question) (l : List Reservation) → tile_from 0 l ≡ true → Ordered ◌<◌ (bases_of q l)

-- Complete: a record that passes has its base in the list.
abbrev pub ListComplete : Type 0
ListComplete = (q : Question) (l : List Reservation) (r : Reservation) → In r l → is_listed q (range_of r) ≡ true → In r.base (bases_of q l)

-- And nothing else: each base in the list is that of a record that passes,
abbrev pub ListSound : Type 0
ListSound = (q : Question) (l : List Reservation) (b : ℕ) → In b (bases_of q l) → (r : Reservation) × (In r l × ((r.base ≡ b) × (is_listed q (range_of r) ≡ true)))

-- and where the records tile a record that does not pass has its base in no list.
abbrev pub OthersLeftOut : Type 0
OthersLeftOut = (q : Question) (l : List Reservation) (r : Reservation) → tile_from 0 l ≡ true → In r l → is_listed q (range_of r) ≡ false → In r.base (bases_of q l) → ⊥

-- ---- The nearest

-- No farther, and at the same distance no higher.
abbrev pub NoFarther : ℕ → Reservation → Reservation → Type 0
NoFarther c r q =
    (distance c (range_of r) < distance c (range_of q)) ⊎ ((distance c (range_of r) ≡ distance c (range_of q)) × (r.base ≤ q.base))

-- The base answered is that of an Open record of at least n cells, which is no farther than any other such record.
abbrev pub NearestIsLeast : Type 0
NearestIsLeast = (l : List Reservation) (c n b : ℕ) (bases : List ℕ) → (ask_of l (Nearest c n) bases).answer ≡ answer 0 1 b
    → (r : Reservation) × (In r l × ((candidate n r ≡ true) × ((r.base ≡ b) × ((q : Reservation) → In q l → candidate n q ≡ true → NoFarther c r q))))

-- "None is answered only if no Open one has n cells."
abbrev pub NoneOnlyIfNone : Type 0
NoneOnlyIfNone = (l : List Reservation) (c n : ℕ) (bases : List ℕ) → (ask_of l (Nearest c n) bases).answer ≡ answer 0 0 0 → (r : Reservation) → In r l → candidate n r ≡ false

-- ---- The machine's own table

-- 25 never comes for the records of a well-formed core: whether it comes is the question's part alone.
abbrev pub OwnTableNever : Type 0
OwnTableNever = (core : Core) → core_sound core ≡ true → bad_records (live core.table) ≡ false
