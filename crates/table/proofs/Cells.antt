-- No cell is lost and none is lent twice: the reservations of a well-formed table cover each of its cells, each cell by
-- one row alone. Assumes nothing.
use Prim.Native.Nat.{ℕ, zero, suc, ◌+◌, ◌<◌, ◌≤◌}
use native.Mathlib.Omega.{arith}
use mathlib.Core.Bool.{Bool, true, false, ◌&&◌, ◌||◌, false≢true}
use mathlib.Core.List.{List, [], ◌∷◌}
use mathlib.Core.Path.{◌≡◌, refl, sym, ap, ◌∙◌}
use borrow.Author.Tests.{ltb-true, lt-ltb, ltb-false, leb-true, le-leb}
use lib.Dec.{ltb, leb}
use lib.ListN.{length, get_or}
use Rattle.capabilities.specs.declared.Range.{Range}
use Rattle.capabilities.specs.Range.{inside}
use Rattle.capabilities.proofs.Choice.{and_left, and_right}
use Rattle.table.specs.declared.Reservation.{Reservation}
use Rattle.table.specs.Table.{Table}
use Rattle.table.specs.Rows.{range_of, blank, live}
use Rattle.table.specs.Tiling.{tiles, covered, covers, table_sound}
use Rattle.table.specs.Operations.{take_of, give_of, split_of, merge_of}
use Rattle.table.specs.Promises.{AllCovered, NoSharedCell}
use Rattle.table.proofs.Truth.{both, or_first, or_second, same_test}
use Rattle.table.proofs.Tiled.{Begins, tiles_begin, tiles_none}
use Rattle.table.proofs.Sound.{sound}
use Rattle.table.proofs.Kept.{take_kept, give_kept, split_kept, merge_kept}

pub inside_bounds : (r : Range) (c : ℕ) → inside r c ≡ true → (r.base ≤ c) × (c < r.base + r.length)
unfolding inside
inside_bounds r c e =
    (leb-true r.base c (and_left (leb r.base c) (ltb c (r.base + r.length)) e), ltb-true c (r.base + r.length) (and_right (leb r.base c) (ltb c (r.base + r.length)) e))

pub inside_made : (r : Range) (c : ℕ) → r.base ≤ c → c < r.base + r.length → inside r c ≡ true
unfolding inside
inside_made r c a b = both (leb r.base c) (ltb c (r.base + r.length)) (le-leb r.base c a) (lt-ltb c (r.base + r.length) b)

between : (from upto c : ℕ) → leb from c && ltb c upto ≡ true → (from ≤ c) × (c < upto)
between from upto c e = (leb-true from c (and_left (leb from c) (ltb c upto) e), ltb-true c upto (and_right (leb from c) (ltb c upto) e))

module _ (from upto : ℕ) (r : Reservation) (l : List Reservation) (c : ℕ) (g : Begins from upto r l) (rest : covered l c ≡ (leb (from + r.length) c && ltb c upto)) where
  inside_first : (b : Bool) → inside (range_of r) c ≡ b → b || covered l c ≡ true → (from ≤ c) × (c < upto)
  inside_first true q z = let k = inside_bounds (range_of r) c q in omega (arith, g)
  inside_first false q z = let k = between (from + r.length) upto c (sym rest ∙ z) in omega (arith, g)

  first_or_rest : (b : Bool) → ltb c (from + r.length) ≡ b → (from ≤ c) × (c < upto) → inside (range_of r) c || covered l c ≡ true
  first_or_rest true q z = or_first (inside (range_of r) c) (covered l c) (inside_made (range_of r) c (omega (arith, g)) (omega (arith, g, ltb-true c (from + r.length) q)))
  first_or_rest false q z =
      or_second (inside (range_of r) c) (covered l c)
      (rest ∙ both (leb (from + r.length) c) (ltb c upto) (le-leb (from + r.length) c (ltb-false c (from + r.length) q)) (lt-ltb c upto z.1))

  cover_more : inside (range_of r) c || covered l c ≡ (leb from c && ltb c upto)
  cover_more =
      same_test (inside (range_of r) c || covered l c) (leb from c && ltb c upto)
      (λ z. let k = inside_first (inside (range_of r) c) refl z in both (leb from c) (ltb c upto) (le-leb from c k.0) (lt-ltb c upto k.1))
      (λ z. first_or_rest (ltb c (from + r.length)) refl (between from upto c z))

-- Reservations that tile cover the cells from the first up to the last, and no others.
pub tiles_cover : (upto from : ℕ) (l : List Reservation) (c : ℕ) → tiles from upto l ≡ true → covered l c ≡ (leb from c && ltb c upto)
unfolding covered
tiles_cover upto from [] c e =
    same_test false (leb from c && ltb c upto) (λ z. absurd (false≢true z))
    (λ z. absurd (let b = between from upto c z in omega (arith, tiles_none from upto e)))
tiles_cover upto from (r ∷ l) c e =
    let g = tiles_begin from upto r l e in
    cover_more from upto r l c g (tiles_cover upto (from + r.length) l c g.rest)

-- Every cell of a well-formed table belongs to one of its reservations, and no other cell does.
pub all_covered : AllCovered
unfolding covers
all_covered cells t c ok = tiles_cover cells 0 (live t) c (sound cells t ok).tiled ∙ ap (λ b. b && ltb c cells) (le-leb 0 c (omega arith))

-- So between two well-formed tables of as many cells none is lost and none is added.
pub none_lost : (cells : ℕ) (t u : Table) (c : ℕ) → table_sound cells t ≡ true → table_sound cells u ≡ true → covers u c ≡ covers t c
none_lost cells t u c a b = all_covered cells u c b ∙ sym (all_covered cells t c a)

covered_at : (l : List Reservation) (j c : ℕ) → j < length l → inside (range_of (get_or l j blank)) c ≡ true → covered l c ≡ true
unfolding covered
covered_at [] j c h e = absurd (omega arith)
covered_at (r ∷ l) zero c h e = or_first (inside (range_of r) c) (covered l c) e
covered_at (r ∷ l) (suc j) c h e = or_second (inside (range_of r) c) (covered l c) (covered_at l j c (omega arith) e)

-- Of a tiling's rows, one above the first begins where the first has ended.
above : (from upto : ℕ) (r : Reservation) (l : List Reservation) (j c : ℕ) → tiles from upto (r ∷ l) ≡ true → j < length l → inside (range_of (get_or l j blank)) c ≡ true → inside (range_of r) c ≡ true → ⊥
above from upto r l j c e h p q =
    let g = tiles_begin from upto r l e in
    let k = between (from + r.length) upto c (sym (tiles_cover upto (from + r.length) l c g.rest) ∙ covered_at l j c h p) in
    omega (arith, inside_bounds (range_of r) c q)

rows_apart : (upto : ℕ) (l : List Reservation) (from i j c : ℕ) → tiles from upto l ≡ true → i < length l → j < length l → inside (range_of (get_or l i blank)) c ≡ true → inside (range_of (get_or l j blank)) c ≡ true → i ≡ j
rows_apart upto [] from i j c e h k p q = absurd (omega arith)
rows_apart upto (r ∷ l) from zero zero c e h k p q = refl
rows_apart upto (r ∷ l) from zero (suc j) c e h k p q = absurd (above from upto r l j c e (omega arith) q p)
rows_apart upto (r ∷ l) from (suc i) zero c e h k p q = absurd (above from upto r l i c e (omega arith) p q)
rows_apart upto (r ∷ l) from (suc i) (suc j) c e h k p q =
    ap suc (rows_apart upto l (from + r.length) i j c (tiles_begin from upto r l e).rest (omega arith) (omega arith) p q)

-- The ranges of two different reservations of a well-formed table share no cell.
pub no_shared_cell : NoSharedCell
no_shared_cell cells t i j c ok = rows_apart cells (live t) 0 i j c (sound cells t ok).tiled

-- No operation on the table loses a cell.
module _ (cells : ℕ) (t : Table) (c : ℕ) (ok : table_sound cells t ≡ true) where
  pub take_covers : (party base : ℕ) → covers (take_of t party base).table c ≡ covers t c
  take_covers party base = none_lost cells t (take_of t party base).table c ok (take_kept cells t ok party base)

  pub give_covers : (party base to : ℕ) → to ≤ 7 → covers (give_of t party base to).table c ≡ covers t c
  give_covers party base to h = none_lost cells t (give_of t party base to).table c ok (give_kept cells t ok party base to h)

  pub split_covers : cells < 65536 → (party base len : ℕ) → covers (split_of t party base len).table c ≡ covers t c
  split_covers fits party base len = none_lost cells t (split_of t party base len).table c ok (split_kept cells t ok fits party base len)

  pub merge_covers : cells < 65536 → (party base : ℕ) → covers (merge_of t party base).table c ≡ covers t c
  merge_covers fits party base = none_lost cells t (merge_of t party base).table c ok (merge_kept cells t ok fits party base)
