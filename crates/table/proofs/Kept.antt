-- Every operation on the table keeps it well formed. Assumes nothing.
use Rattle.std.specs.Prelude.{Option, Some, None}
use Prim.Native.Nat.{ℕ, suc, ◌+◌, ◌-◌, ◌%◌, ◌<◌, ◌≤◌}
use native.Mathlib.Numerals.{add-one}
use native.Mathlib.Omega.{arith}
use mathlib.Core.Bool.{Bool, true, false, ◌&&◌, ◌||◌}
use mathlib.Core.List.{List, ◌∷◌, ◌++◌}
use mathlib.Core.Path.{◌≡◌, refl, sym, ap, subst, ◌∙◌}
use borrow.Author.Tests.{eqb-true, lt-ltb, le-leb, leb-false, eqb-false}
use lib.Dec.{eqb, leb, ltb}
use lib.ListN.{length, get_or, take, drop, set, length-append, length-take, length-drop, length-set}
use lib.Seq.{split_at as split_seq_at, drop-cons, set_split}
use Rattle.capabilities.specs.Lists.{pick}
use Rattle.capabilities.specs.Refusals.{first}
use Rattle.capabilities.proofs.Choice.{and_right, pick_yes, pick_no}
use Rattle.table.specs.declared.Reservation.{Reservation}
use Rattle.table.specs.declared.ReservationState.{ReservationState}
use Rattle.table.specs.declared.ReservationState.TheVariants.{Open, Taken, Revoking}
use Rattle.table.specs.Table.{Table}
use Rattle.table.specs.Rows.{is_open, is_revoking, is_blank, no_taker, live, table, blank, splice, spread, gather}
use Rattle.table.specs.Find.{with_row, row_of, find_of, begins, next_of}
use Rattle.table.specs.Tiling.{row_sound, tiles, all_blank, revokings, weight, table_sound}
use Rattle.table.specs.Operations.{open_reasons, take_reasons, taken_row, take_of, give_reasons, given_row, give_of}
use Rattle.table.specs.Operations.{bad_split, lower_part, upper_part, split_reasons_at, split_reasons, split_at, split_of}
use Rattle.table.specs.Operations.{joined, mergeable, merge_reasons_at, merge_reasons, merge_at, merge_of}
use Rattle.table.proofs.Truth.{both, or_left, or_right, or_first}
use Rattle.table.proofs.Moving.{live_at}
use Rattle.table.proofs.Finding.{found_at, next_below, next_at}
use Rattle.table.proofs.Answers.{Splits, open_clear, split_clear, merge_clear, merge_next}
use Rattle.table.proofs.Tiled.{blank_more}
use Rattle.table.proofs.Tiled.{tiles_begin, tiles_made, tiles_swap, revokings_append, revokings_first, row_some, row_holder, row_resized, row_open, tiled_row}
use Rattle.table.proofs.Sound.{Sound, sound, made_sound, with_made}

-- The rows in use, cut at one of them and at two.
pub cut_one : (l : List Reservation) (i : ℕ) → i < length l → l ≡ take i l ++ get_or l i blank ∷ drop (i + 1) l
cut_one l i h = rw (add-one i) (split_seq_at l i blank h)

pub cut_two : (l : List Reservation) (i : ℕ) → i + 1 < length l → l ≡ take i l ++ get_or l i blank ∷ get_or l (i + 1) blank ∷ drop (i + 2) l
cut_two l i h =
    let n : suc (i + 1) ≡ i + 2 = omega arith in
    cut_one l i (omega arith)
    ∙ ap (λ r. take i l ++ get_or l i blank ∷ r) (drop-cons l (i + 1) blank h ∙ ap (λ k. get_or l (i + 1) blank ∷ drop k l) n)

module _ (cells : ℕ) (t : Table) (s : Sound cells t) (i : ℕ) where
  abbrev l : List Reservation
  l = live t

  abbrev r : Reservation
  r = get_or l i blank

  -- A row is exchanged for one of the same range.
  pub row_kept : (n : Reservation) → i < length l → n.base ≡ r.base → n.length ≡ r.length → row_sound n ≡ true → weight n + revokings l ≤ 1 + weight r → table_sound cells (with_row t (Some i) n) ≡ true
  row_kept n h base size row w =
      let q = drop (i + 1) l in
      let cut : set l i n ≡ take i l ++ n ∷ q = rw (add-one i) (set_split l i n h) in
      let f : (m : ℕ) → tiles m cells (r ∷ q) ≡ true → tiles m cells (n ∷ q) ≡ true =
      λ m e. let b = tiles_begin m cells r q e in tiles_made m cells n q (base ∙ b.base) row (subst (λ k. tiles (m + k) cells q ≡ true) (sym size) b.rest) in
      let tiled : tiles 0 cells (set l i n) ≡ true =
      ap (tiles 0 cells) cut ∙ tiles_swap cells (take i l) (r ∷ q) (n ∷ q) f 0 (sym (ap (tiles 0 cells) (cut_one l i h)) ∙ s.tiled) in
      let single : revokings (set l i n) ≤ 1 =
      omega (arith, ap revokings cut, ap revokings (cut_one l i h), revokings_append (take i l) (n ∷ q), revokings_append (take i l) (r ∷ q), revokings_first n q, revokings_first r q) in
      ap (table_sound cells) (with_made cells t i n s h)
      ∙ made_sound cells (set l i n) (drop t.count t.rows)
      (omega (arith, length-set l i n, length-drop t.count t.rows, s))
      (omega (arith, length-set l i n, s)) tiled s.unused single

  -- A row becomes two of one range.
  pub spread_kept : (x y : Reservation) → i < length l → t.count < 64 → ((m : ℕ) (q : List Reservation) → tiles m cells (r ∷ q) ≡ true → tiles m cells (x ∷ y ∷ q) ≡ true) → weight x + weight y ≤ weight r → table_sound cells (spread t i x y) ≡ true
  unfolding spread splice
  spread_kept x y h room f w =
      let q = drop (i + 1) l in
      let new = take i l ++ x ∷ y ∷ q in
      let z = drop (t.count + 1) t.rows in
      let size : length new ≡ t.count + 1 = simp (length-append, length-take, length-drop) (omega (arith, s)) in
      let single : revokings new ≤ 1 =
      omega (arith, s, ap revokings (cut_one l i h), revokings_append (take i l) (x ∷ y ∷ q), revokings_append (take i l) (r ∷ q), revokings_first x (y ∷ q), revokings_first y q, revokings_first r q) in
      let blanks : all_blank z ≡ true =
      and_right (is_blank (get_or t.rows t.count blank)) (all_blank z) (sym (blank_more t.rows t.count blank (omega (arith, s))) ∙ s.unused) in
      ap (λ n. table_sound cells (table (new ++ z) n)) (sym size)
      ∙ made_sound cells new z (omega (arith, s, length-drop (t.count + 1) t.rows)) (omega arith)
      (tiles_swap cells (take i l) (r ∷ q) (x ∷ y ∷ q) (λ m. f m q) 0 (sym (ap (tiles 0 cells) (cut_one l i h)) ∙ s.tiled))
      blanks single

  -- Two rows become one of their range.
  pub gather_kept : (x : Reservation) → i + 1 < length l → ((m : ℕ) (q : List Reservation) → tiles m cells (r ∷ get_or l (i + 1) blank ∷ q) ≡ true → tiles m cells (x ∷ q) ≡ true) → weight x ≤ weight r + weight (get_or l (i + 1) blank) → table_sound cells (gather t i x) ≡ true
  unfolding gather splice
  gather_kept x h f w =
      let y = get_or l (i + 1) blank in
      let q = drop (i + 2) l in
      let new = take i l ++ x ∷ q in
      let z = blank ∷ drop (length l) t.rows in
      let size : length new ≡ length l - 1 = simp (length-append, length-take, length-drop) (omega arith) in
      let single : revokings new ≤ 1 =
      omega (arith, s, ap revokings (cut_two l i h), revokings_append (take i l) (x ∷ q), revokings_append (take i l) (r ∷ y ∷ q), revokings_first x q, revokings_first r (y ∷ q), revokings_first y q) in
      let blanks : all_blank z ≡ true = unfold all_blank in (ap (λ n. all_blank (drop n t.rows)) s.used ∙ s.unused) in
      ap (λ n. table_sound cells (table (new ++ z) n)) (sym size)
      ∙ made_sound cells new z (omega (arith, s, length-drop (length l) t.rows)) (omega arith)
      (tiles_swap cells (take i l) (r ∷ y ∷ q) (x ∷ q) (λ m. f m q) 0 (sym (ap (tiles 0 cells) (cut_two l i h)) ∙ s.tiled))
      blanks single

-- A part of an Open reservation, the rest of it, and two reservations joined, tile what was tiled.
module _ (cells : ℕ) (fits : cells < 65536) where
  pub split_tiles : (r : Reservation) (len : ℕ) → 0 < len → len < r.length → (m : ℕ) (q : List Reservation) → tiles m cells (r ∷ q) ≡ true → tiles m cells (lower_part r len ∷ upper_part r len ∷ q) ≡ true
  split_tiles r len a b m q e =
      let g = tiles_begin m cells r q e in
      let base : (r.base + len) % 65536 ≡ m + len = omega (arith, g) in
      let size : m + len + (r.length - len) ≡ m + r.length = omega arith in
      let holder = row_holder r g.row in
      tiles_made m cells (lower_part r len) (upper_part r len ∷ q) g.base (row_open r.base len r.holder no_taker holder a)
      (tiles_made (m + len) cells (upper_part r len) q base (row_open ((r.base + len) % 65536) (r.length - len) r.holder no_taker holder (omega arith))
      (subst (λ k. tiles k cells q ≡ true) (sym size) g.rest))

  pub join_tiles : (r s : Reservation) (m : ℕ) (q : List Reservation) → tiles m cells (r ∷ s ∷ q) ≡ true → tiles m cells (joined r s ∷ q) ≡ true
  join_tiles r s m q e =
      let g = tiles_begin m cells r (s ∷ q) e in
      let k = tiles_begin (m + r.length) cells s q g.rest in
      let n : (r.length + s.length) % 65536 ≡ r.length + s.length = omega (arith, g, k) in
      let size : m + r.length + s.length ≡ m + (r.length + s.length) % 65536 = omega arith in
      tiles_made m cells (joined r s) q g.base (row_resized r (joined r s) g.row refl refl (omega (arith, g)))
      (subst (λ j. tiles j cells q ≡ true) size k.rest)

-- A row that was found, and that is named with its table's rows or with those in use.
pub row_live : (t : Table) (i : ℕ) → i < length (live t) → row_of t (Some i) ≡ get_or (live t) i blank
unfolding row_of
row_live t i h = sym (live_at t i blank h)

taken_sound : (r : Reservation) (party : ℕ) → row_sound r ≡ true → row_sound (taken_row r party) ≡ true
taken_sound r party e = both (ltb 0 r.length && true) true (both (ltb 0 r.length) true (lt-ltb 0 r.length (row_some r e)) refl) refl

pub open_still : (s : ReservationState) → is_open s ≡ true → is_revoking s ≡ false
open_still Open e = refl
open_still Taken e = refl
open_still Revoking e = sym e

given_sound : (r : Reservation) (to : ℕ) → to ≤ 7 → is_open r.state ≡ true → row_sound r ≡ true → row_sound (given_row r to) ≡ true
given_sound r to h o e =
    both (ltb 0 r.length && leb to 7) (is_open r.state || eqb to 0)
    (both (ltb 0 r.length) (leb to 7) (lt-ltb 0 r.length (row_some r e)) (le-leb to 7 h))
    (or_first (is_open r.state) (eqb to 0) o)

-- What no refusal judges stays.
module _ (cells : ℕ) (t : Table) (ok : table_sound cells t ≡ true) where
  pub pick_kept : (code : ℕ) (x : Table) → (code ≡ 0 → table_sound cells x ≡ true) → table_sound cells (pick (eqb code 0) x t) ≡ true
  pick_kept code x f = go (eqb code 0) refl
    where
      go : (b : Bool) → eqb code 0 ≡ b → table_sound cells (pick (eqb code 0) x t) ≡ true
      go true e = ap (table_sound cells) (pick_yes (eqb code 0) x t e) ∙ f (eqb-true code 0 e)
      go false e = ap (table_sound cells) (pick_no (eqb code 0) x t e) ∙ ok

  -- A found row becomes another of the same range, not Revoking.
  with_kept : (party base : ℕ) (f : Option ℕ) (n : Reservation) → find_of t party base ≡ f → n.base ≡ (row_of t f).base → n.length ≡ (row_of t f).length → is_revoking n.state ≡ false → (row_sound (row_of t f) ≡ true → row_sound n ≡ true) → table_sound cells (with_row t f n) ≡ true
  with_kept party base (Some i) n e b k w row =
      let s = sound cells t ok in
      let h = (found_at (begins party base) (live t) i blank (unfold find_of in e)).0 in
      let r = row_live t i h in
      let none : ◌≡◌ {A = ℕ} (weight n) 0 = pick_no (is_revoking n.state) 1 0 w in
      row_kept cells t s i n h (b ∙ ap (λ x. x.base) r) (k ∙ ap (λ x. x.length) r)
      (row (ap row_sound r ∙ tiled_row cells (live t) 0 i s.tiled h))
      (omega (arith, s.single))
  with_kept party base None n e b k w row = unfold with_row in ok

  split_at_kept : cells < 65536 → (party base len : ℕ) (f : Option ℕ) → find_of t party base ≡ f → Splits t f len → table_sound cells (split_at t f len) ≡ true
  unfolding split_at
  split_at_kept fits party base len (Some i) e k =
      let s = sound cells t ok in
      let h = (found_at (begins party base) (live t) i blank (unfold find_of in e)).0 in
      let r = get_or (live t) i blank in
      let fit : bad_split r len ≡ false = sym (ap (λ x. bad_split x len) (row_live t i h)) ∙ k.fits in
      let some = eqb-false len 0 (or_left (eqb len 0) (leb r.length len) fit) in
      let below = leb-false r.length len (or_right (eqb len 0) (leb r.length len) fit) in
      ap (λ x. table_sound cells (spread t i (lower_part x len) (upper_part x len))) (row_live t i h)
      ∙ spread_kept cells t s i (lower_part r len) (upper_part r len) h (leb-false 64 t.count k.room) (split_tiles cells fits r len (omega (arith, some)) below) (omega arith)
  split_at_kept fits party base len None e k = ok

  merge_at_kept : cells < 65536 → (party : ℕ) (f : Option ℕ) → mergeable t f party ≡ true → table_sound cells (merge_at t f) ≡ true
  unfolding merge_at
  merge_at_kept fits party (Some i) e =
      let s = sound cells t ok in
      let h = next_below t i (merge_next t (Some i) party e) in
      let r = get_or (live t) i blank in
      let q = get_or (live t) (i + 1) blank in
      ap (λ x. table_sound cells (gather t i (joined x (row_of t (next_of t (Some i)))))) (row_live t i (omega arith))
      ∙ ap (λ f. table_sound cells (gather t i (joined r (row_of t f)))) (next_at t i h)
      ∙ ap (λ x. table_sound cells (gather t i (joined r x))) (row_live t (i + 1) h)
      ∙ gather_kept cells t s i (joined r q) h (join_tiles cells fits r q) (omega arith)
  merge_at_kept fits party None e = ok

  -- 01 to 04, refused or granted.
  pub take_kept : (party base : ℕ) → table_sound cells (take_of t party base).table ≡ true
  unfolding take_of
  take_kept party base =
      let f = find_of t party base in
      pick_kept (first (take_reasons t party base)) (with_row t f (taken_row (row_of t f) party))
      (λ z. with_kept party base f (taken_row (row_of t f) party) refl refl refl refl (taken_sound (row_of t f) party))

  pub give_kept : (party base to : ℕ) → to ≤ 7 → table_sound cells (give_of t party base to).table ≡ true
  unfolding give_of give_reasons
  give_kept party base to h =
      let f = find_of t party base in
      let r = row_of t f in
      pick_kept (first (open_reasons f r)) (with_row t f (given_row r to))
      (λ z. let o = (open_clear f r z).1 in with_kept party base f (given_row r to) refl refl refl (open_still r.state o) (λ e. given_sound r to h o e))

  pub split_kept : cells < 65536 → (party base len : ℕ) → table_sound cells (split_of t party base len).table ≡ true
  unfolding split_of split_reasons
  split_kept fits party base len =
      let f = find_of t party base in
      pick_kept (first (split_reasons_at t f len)) (split_at t f len) (λ z. split_at_kept fits party base len f refl (split_clear t f len z))

  pub merge_kept : cells < 65536 → (party base : ℕ) → table_sound cells (merge_of t party base).table ≡ true
  unfolding merge_of merge_reasons
  merge_kept fits party base =
      let f = find_of t party base in
      pick_kept (first (merge_reasons_at t f party)) (merge_at t f) (λ z. merge_at_kept fits party f (merge_clear t f party z))
