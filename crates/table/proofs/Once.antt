-- A granted split or merge of a well-formed table changes every place from the named row's on that it writes, and so writes each of
-- them once. Assumes nothing.
use Prim.Native.Nat.{ℕ, zero, suc, ◌+◌, ◌-◌, ◌<◌, ◌≤◌}
use native.Mathlib.Omega.{arith}
use mathlib.Core.Bool.{Bool, true, false}
use mathlib.Core.List.{List, [], ◌∷◌, ◌++◌}
use mathlib.Core.Path.{◌≡◌, refl, sym, ap, subst, ◌∙◌}
use borrow.Author.Tests.{eqb-true, eqb-false, eq-eqb, ltb-true, ltb-false, leb-false}
use lib.Dec.{eqb, ltb, leb}
use lib.ListN.{length, get_or, take, drop, length-map, get_or-eq_default}
use lib.Seq.{get_or-drop}
use Rattle.capabilities.proofs.Choice.{pick_yes, and_left, and_right}
use Rattle.table.specs.declared.Reservation.{Reservation}
use Rattle.table.specs.Table.{Table}
use Rattle.table.specs.Table.{Tabled}
use Rattle.table.specs.Rows.{is_blank, blank, live}
use Rattle.table.specs.Find.{find_of, row_of}
use Rattle.table.specs.Tiling.{tiles, all_blank, table_sound}
use Rattle.table.specs.Operations.{bad_split, lower_part, upper_part, joined, split_of, split_reasons, merge_of}
use Rattle.table.specs.Numbers.{row_from, table_of}
use Rattle.table.specs.Lent.{place_of}
use Rattle.table.specs.Writes.{place_named, split_writes, merge_writes, WritesOnce, SplitNumber, MergeNumber, SplitWritesOnce, MergeWritesOnce}
use Rattle.table.proofs.Truth.{or_right}
use Rattle.table.proofs.Moving.{live_at}
use Rattle.table.proofs.Answers.{split_clear}
use Rattle.table.proofs.Tiled.{tiled_some, tiled_next, tiled_fits}
use Rattle.table.proofs.Sound.{Sound, sound}
use Rattle.table.proofs.Kept.{split_kept, merge_kept}
use Rattle.table.proofs.Inverse.{blank_is}
use Rattle.table.proofs.After.{Replaced, split_after, merge_after}
use Rattle.table.proofs.Reading.{read_at}
use Rattle.table.proofs.Places.{mid, high}
use Rattle.table.proofs.Counted.{changed_written, each_once}

-- The rows of a well-formed table are those in use, and above them unused ones.
blank_at : (l : List Reservation) (k : ℕ) → all_blank l ≡ true → get_or l k blank ≡ blank
unfolding all_blank
blank_at [] k e = refl
blank_at (r ∷ l) zero e = blank_is r (and_left (is_blank r) (all_blank l) e)
blank_at (r ∷ l) (suc k) e = blank_at l k (and_right (is_blank r) (all_blank l) e)

rows_live : (cells : ℕ) (t : Table) → Sound cells t → (j : ℕ) → get_or t.rows j blank ≡ get_or (live t) j blank
rows_live cells t s j = go (ltb j t.count) refl
  where
    go : (b : Bool) → ltb j t.count ≡ b → get_or t.rows j blank ≡ get_or (live t) j blank
    go true p = sym (live_at t j blank (omega (arith, s, ltb-true j t.count p)))
    go false p =
        let above = ltb-false j t.count p in
        let k : t.count + (j - t.count) ≡ j = omega arith in
        sym (get_or-drop t.count t.rows (j - t.count) blank ∙ ap (λ c. get_or t.rows c blank) k)
        ∙ blank_at (drop t.count t.rows) (j - t.count) s.unused ∙ sym (get_or-eq_default (live t) blank (omega (arith, s)))

-- Where a reservation ends; an unused row ends at 0.
abbrev end : Reservation → ℕ
end r = r.base + r.length

module _ (cells : ℕ) (fits : cells < 65536) (l : List Reservation) (tiled : tiles 0 cells l ≡ true) where
  abbrev row : ℕ → Reservation
  row j = get_or l j blank

  short : (j : ℕ) → j < length l → end (row j) < 65536
  short j h = omega (arith, tiled_fits cells l 0 j tiled h)

  -- No row ends where the one above it does.
  ends_differ : (j : ℕ) → j < length l → end (row (suc j)) ≡ end (row j) → ⊥
  ends_differ j h e = go (ltb (suc j) (length l)) refl
    where
      go : (b : Bool) → ltb (suc j) (length l) ≡ b → ⊥
      go true p = let k = ltb-true (suc j) (length l) p in omega (arith, tiled_next cells l 0 j tiled k, tiled_some cells l 0 (suc j) tiled k, e)
      go false p =
          let z : end (row (suc j)) ≡ 0 = ap end (get_or-eq_default l blank (ltb-false (suc j) (length l) p)) in
          omega (arith, tiled_some cells l 0 j tiled h, z, e)

  -- A split: the lower part ends earlier than the row did, and above it each row ends where the one below did.
  module _ (i len : ℕ) (h : i < length l) (below : len < (row i).length) where
    abbrev parts : List Reservation
    parts = lower_part (row i) len ∷ upper_part (row i) len ∷ []

    abbrev more : ℕ → Reservation
    more j = get_or (take i l ++ (parts ++ drop (i + 1) l)) j blank

    lower_end : end (more i) < end (row i)
    lower_end =
        let e : i ≡ i + 0 = omega arith in
        omega (arith, ap end (ap more e ∙ mid l parts i 1 (omega arith) 0 (omega arith)), below)

    above_end : (j : ℕ) → i ≤ j → end (more (suc j)) ≡ end (row j)
    above_end j a = go (eqb j i) refl
      where
        go : (c : Bool) → eqb j i ≡ c → end (more (suc j)) ≡ end (row j)
        go true p =
            let q = eqb-true j i p in
            let e : suc j ≡ i + 1 = omega arith in
            let whole : end (upper_part (row i) len) ≡ end (row i) = omega (arith, below, short i h) in
            ap end (ap more e ∙ mid l parts i 1 (omega arith) 1 (omega arith)) ∙ whole ∙ ap (λ c. end (row c)) (sym q)
        go false p =
            let n = eqb-false j i p in
            let d = j - (i + 1) in
            let e : suc j ≡ i + (2 + d) = omega arith in
            let f : i + 1 + d ≡ j = omega arith in
            ap end (ap more e ∙ high l parts i 1 (omega arith) d ∙ ap row f)

    more_changes : (j : ℕ) → i ≤ j → j ≤ length l → more j ≡ row j → ⊥
    more_changes j a b same = go (eqb j i) refl
      where
        go : (c : Bool) → eqb j i ≡ c → ⊥
        go true p = omega (arith, lower_end, ap end (subst (λ c. more c ≡ row c) (eqb-true j i p) same))
        go false p =
            let n = eqb-false j i p in
            let q : j ≡ suc (j - 1) = omega arith in
            ends_differ (j - 1) (omega arith) (sym (ap end (subst (λ c. more c ≡ row c) q same)) ∙ above_end (j - 1) (omega arith))

  -- A merge: each row ends where the one above it did.
  module _ (i : ℕ) (h : i + 1 < length l) where
    abbrev one : Reservation
    one = joined (row i) (row (i + 1))

    abbrev less : ℕ → Reservation
    less j = get_or (take i l ++ ((one ∷ []) ++ drop (i + 2) l)) j blank

    next_end : (j : ℕ) → i ≤ j → end (less j) ≡ end (row (suc j))
    next_end j a = go (eqb j i) refl
      where
        go : (c : Bool) → eqb j i ≡ c → end (less j) ≡ end (row (suc j))
        go true p =
            let q = eqb-true j i p in
            let e : j ≡ i + 0 = omega arith in
            let f : i + 1 ≡ suc j = omega arith in
            let g : suc i ≡ i + 1 = omega arith in
            let next = tiled_next cells l 0 i tiled (omega arith) in
            let whole : end one ≡ end (row (i + 1)) = omega (arith, sym (ap (λ c. (row c).base) g) ∙ next, short (i + 1) h) in
            ap end (ap less e ∙ mid l (one ∷ []) i 2 (omega arith) 0 (omega arith)) ∙ whole ∙ ap (λ c. end (row c)) f
        go false p =
            let n = eqb-false j i p in
            let d = j - (i + 1) in
            let e : j ≡ i + (1 + d) = omega arith in
            let f : i + 2 + d ≡ suc j = omega arith in
            ap end (ap less e ∙ high l (one ∷ []) i 2 (omega arith) d ∙ ap row f)

    less_changes : (j : ℕ) → i ≤ j → j < length l → less j ≡ row j → ⊥
    less_changes j a b same = ends_differ j b (sym (next_end j a) ∙ ap end same)

-- The document's two numbers.
pub split_number : SplitNumber
split_number cells t party base ok = omega (arith, sound cells t ok)

pub merge_number : MergeNumber
merge_number cells t party base ok = omega (arith, sound cells t ok)

-- A granted call that replaces rows of a well-formed table and leaves a well-formed one: if every place from the named one's on that
-- it counts reads otherwise afterwards, each is written once.
module _ (cells : ℕ) (l : List ℕ) (count party base : ℕ) where
  abbrev t : Table
  t = table_of l count

  abbrev i : ℕ
  i = place_named t party base

  place : {u : Table} {j k : ℕ} {new : List Reservation} → Replaced t u party base j k new → i ≡ j
  unfolding place_of
  place r = ap place_of r.found

  once :
      (rule : Tabled) (writes : ℕ)
      → (table_sound cells t ≡ true → rule.code ≡ 0 → (table_sound cells rule.table ≡ true) × ((j : ℕ) → i ≤ j → j < i + writes → get_or (live rule.table) j blank ≡ get_or (live t) j blank → ⊥))
      → WritesOnce cells l count rule i writes
  once rule writes f m after ws fits ok d w n =
      let s = sound cells t ok in
      let e = pick_yes (eqb (length l) 64) rule (record { code = 1; table = t }) (eq-eqb (length l) 64 (sym (length-map l row_from) ∙ s.rows)) in
      let (kept, changes) = f ok (sym (ap (λ r. r.code) e) ∙ sym d.answers) in
      let u = rule.table in
      let reads : table_of m after ≡ u = d.reads ∙ ap (λ r. r.table) e in
      each_once ws i writes
      (λ p b.
      changed_written ws l (i + p)
      (λ same.
      changes (i + p) (omega arith) (omega arith)
      (sym (rows_live cells u (sound cells u kept) (i + p)) ∙ sym (ap (λ (x : Table). get_or x.rows (i + p) blank) reads) ∙ read_at m (i + p)
      ∙ ap row_from (ap (λ x. get_or x (i + p) 0) (sym w) ∙ same) ∙ sym (read_at l (i + p)) ∙ rows_live cells t s (i + p))))
      n

  split_changes : cells < 65536 → (len : ℕ) → table_sound cells t ≡ true → (split_of t party base len).code ≡ 0
      → (j : ℕ) → i ≤ j → j < i + split_writes t party base 0 → get_or (live (split_of t party base len).table) j blank ≡ get_or (live t) j blank → ⊥
  unfolding split_of split_reasons row_of
  split_changes fits len ok c j a b same =
      let s = sound cells t ok in
      let (k, o, r) = split_after cells t ok party base len c in
      let q = place r in
      let fit = ap (λ f. bad_split (row_of t f) len) (sym r.found) ∙ (split_clear t (find_of t party base) len c).fits in
      let below = leb-false (get_or t.rows k blank).length len (or_right (eqb len 0) (leb (get_or t.rows k blank).length len) fit) in
      more_changes cells fits (live t) s.tiled k len (omega (arith, r.within)) (subst (λ x. len < x.length) (rows_live cells t s k) below) j (omega arith) (omega (arith, r.within))
      (sym (ap (λ x. get_or x j blank) r.now) ∙ same)

  merge_changes : cells < 65536 → table_sound cells t ≡ true → (merge_of t party base).code ≡ 0
      → (j : ℕ) → i ≤ j → j < i + merge_writes t party base 0 → get_or (live (merge_of t party base).table) j blank ≡ get_or (live t) j blank → ⊥
  merge_changes fits ok c j a b same =
      let (k, o, r) = merge_after cells t ok party base c in
      let q = place r in
      less_changes cells fits (live t) (sound cells t ok).tiled k (omega (arith, r.within)) j (omega arith) (omega (arith, r.within)) (sym (ap (λ x. get_or x j blank) r.now) ∙ same)

pub split_writes_once : SplitWritesOnce
split_writes_once cells l count party base len m after ws fits =
    once cells l count party base (split_of (table_of l count) party base len) (split_writes (table_of l count) party base 0)
    (λ ok c. (split_kept cells (table_of l count) ok fits party base len, split_changes cells l count party base fits len ok c)) m after ws fits

pub merge_writes_once : MergeWritesOnce
merge_writes_once cells l count party base m after ws fits =
    once cells l count party base (merge_of (table_of l count) party base) (merge_writes (table_of l count) party base 0)
    (λ ok c. (merge_kept cells (table_of l count) ok fits party base, merge_changes cells l count party base fits ok c)) m after ws fits
