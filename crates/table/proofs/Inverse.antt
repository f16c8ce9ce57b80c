-- Merge takes back what split did, and split what a merge of two Open ones did, to the bit. Assumes nothing.
use Rattle.std.specs.Prelude.{Option, Some, None}
use Prim.Native.Nat.{ℕ, suc, ◌+◌, ◌-◌, ◌<◌}
use native.Mathlib.Numerals.{add-one}
use native.Mathlib.Omega.{arith}
use mathlib.Core.Bool.{true, false, not, ◌&&◌, ◌||◌, true≢false, false≢true}
use mathlib.Core.List.{List, ◌∷◌, ◌++◌}
use mathlib.Core.Path.{◌≡◌, refl, sym, ap, subst, ◌∙◌}
use borrow.Author.Tests.{eqb-true, leb-false, ne_eqb, lt-leb}
use lib.Dec.{eqb, leb}
use lib.ListN.{length, get_or, take, drop, length-append, length-take, length-drop}
use lib.Seq.{drop-cons, take_at, drop-append-add, drop-append_seam, get_or_at, get_or-append-add, length-take-le}
use Rattle.capabilities.specs.Lists.{pick}
use Rattle.capabilities.specs.Refusals.{first}
use Rattle.capabilities.proofs.Choice.{and_left, and_right}
use Rattle.table.specs.declared.Reservation.{Reservation}
use Rattle.table.specs.declared.ReservationState.{ReservationState}
use Rattle.table.specs.declared.ReservationState.TheVariants.{Open, Taken, Revoking}
use Rattle.table.specs.Table.{Table}
use Rattle.table.specs.Rows.{is_open, is_blank, held, live, table, blank, splice, spread, gather}
use Rattle.table.specs.Find.{seek, row_of, find_of, begins, next_of, missing}
use Rattle.table.specs.Tiling.{all_blank, table_sound, taker_sound, takers_sound}
use Rattle.table.specs.Operations.{tabled, bad_split, full, lower_part, upper_part, split_reasons_at, split_reasons, split_at, split_of}
use Rattle.table.specs.Operations.{alike, joined, mergeable, merge_reasons_at, merge_reasons, merge_at, merge_of}
use Rattle.table.specs.Promises.{table_done, MergeAfterSplit, SplitAfterMerge}
use Rattle.table.proofs.Truth.{both, or_right}
use Rattle.table.proofs.Finding.{found_at, seek_same, next_at, next_below}
use Rattle.table.proofs.Tiled.{blank_more}
use Rattle.table.proofs.Answers.{Splits, split_clear, merge_clear, merge_next}
use Rattle.table.proofs.Tiled.{tiled_some, tiled_next, tiled_fits}
use Rattle.table.proofs.Sound.{Sound, sound, live_made, rows_parts}
use Rattle.table.proofs.Kept.{cut_one, cut_two, row_live}
use Rattle.table.proofs.Numbers.{same_row}
use Rattle.table.proofs.Takers.{open_taker, both_open, takers_row}

-- An Open state is `Open`.
pub open_is : (s : ReservationState) → is_open s ≡ true → s ≡ Open
open_is Open e = refl
open_is Taken e = absurd (false≢true e)
open_is Revoking e = absurd (false≢true e)

-- An unused row is all 0.
pub blank_is : (r : Reservation) → is_blank r ≡ true → r ≡ blank
blank_is r e =
    let front = (is_open r.state && eqb r.holder 0) && (eqb r.base 0 && eqb r.length 0) in
    let all = and_left front (eqb r.taker 0) e in
    let a = and_left (is_open r.state && eqb r.holder 0) (eqb r.base 0 && eqb r.length 0) all in
    let b = and_right (is_open r.state && eqb r.holder 0) (eqb r.base 0 && eqb r.length 0) all in
    let state = open_is r.state (and_left (is_open r.state) (eqb r.holder 0) a) in
    let holder = eqb-true r.holder 0 (and_right (is_open r.state) (eqb r.holder 0) a) in
    let base = eqb-true r.base 0 (and_left (eqb r.base 0) (eqb r.length 0) b) in
    let size = eqb-true r.length 0 (and_right (eqb r.base 0) (eqb r.length 0) b) in
    same_row r blank base size state holder (eqb-true r.taker 0 (and_right front (eqb r.taker 0) e))

-- A table once the row at i has become x and y; gathered again, it is the table as it was.
module _ (cells : ℕ) (t : Table) (s : Sound cells t) (i : ℕ) (h : i < length (live t)) (x y : Reservation) where
  abbrev l : List Reservation
  l = live t

  abbrev new : List Reservation
  new = take i l ++ x ∷ y ∷ drop (i + 1) l

  abbrev z : List Reservation
  z = drop (t.count + 1) t.rows

  size : length new ≡ t.count + 1
  size = simp (length-append, length-take, length-drop) (omega (arith, s))

  spread_parts : spread t i x y ≡ table (new ++ z) (length new)
  unfolding spread splice
  spread_parts = ap (table (new ++ z)) (sym size)

  pub spread_live : live (spread t i x y) ≡ new
  spread_live = ap live spread_parts ∙ live_made new z

  gathered : List Reservation → List Reservation → Table
  gathered m rows = table ((take i m ++ get_or l i blank ∷ drop (i + 2) m) ++ (blank ∷ drop (length m) rows)) (length m - 1)

  front : take i new ++ get_or l i blank ∷ drop (i + 2) new ≡ l
  front =
      let n : length (take i l) ≡ i = length-take-le i l (omega arith) in
      let k : i + 2 ≡ length (take i l) + 2 = omega arith in
      ap (λ f. f ++ get_or l i blank ∷ drop (i + 2) new) (take_at (take i l) (x ∷ y ∷ drop (i + 1) l) i n)
      ∙ ap (λ f. take i l ++ get_or l i blank ∷ f) (ap (λ m. drop m new) k ∙ drop-append-add (take i l) (x ∷ y ∷ drop (i + 1) l) 2)
      ∙ sym (cut_one l i h)

  back : t.count < 64 → blank ∷ drop (length new) (new ++ z) ≡ drop t.count t.rows
  back room =
      let e = sym (blank_more t.rows t.count blank (omega (arith, s))) ∙ s.unused in
      let b = blank_is (get_or t.rows t.count blank) (and_left (is_blank (get_or t.rows t.count blank)) (all_blank z) e) in
      ap (λ f. blank ∷ f) (drop-append_seam new z)
      ∙ sym (drop-cons t.rows t.count blank (omega (arith, s)) ∙ ap (λ f. f ∷ drop (suc t.count) t.rows) b ∙ ap (λ m. blank ∷ drop m t.rows) (sym (add-one t.count)))

  pub gather_spread : t.count < 64 → gather (spread t i x y) i (get_or l i blank) ≡ t
  unfolding gather splice gathered
  gather_spread room =
      let n : length new - 1 ≡ t.count = omega (arith, size) in
      ap (λ m. gathered m (spread t i x y).rows) spread_live
      ∙ ap (λ u. gathered new u.rows) spread_parts
      ∙ ap (λ f. table (f ++ (blank ∷ drop (length new) (new ++ z))) (length new - 1)) front
      ∙ ap (λ f. table (l ++ f) (length new - 1)) (back room)
      ∙ ap (λ f. table f (length new - 1)) (sym (rows_parts t))
      ∙ ap (table t.rows) n

-- A table once the rows at i and i + 1 have become x; spread again, it is the table as it was.
module _ (cells : ℕ) (t : Table) (s : Sound cells t) (i : ℕ) (h : i + 1 < length (live t)) (x : Reservation) where
  abbrev w : List Reservation
  w = live t

  abbrev less : List Reservation
  less = take i w ++ x ∷ drop (i + 2) w

  abbrev rest : List Reservation
  rest = drop (length w) t.rows

  less_size : length less ≡ length w - 1
  less_size = simp (length-append, length-take, length-drop) (omega arith)

  gather_parts : gather t i x ≡ table (less ++ blank ∷ rest) (length less)
  unfolding gather splice
  gather_parts = ap (table (less ++ blank ∷ rest)) (sym less_size)

  pub gather_live : live (gather t i x) ≡ less
  gather_live = ap live gather_parts ∙ live_made less (blank ∷ rest)

  spreaded : List Reservation → Table → Table
  spreaded m u = table ((take i m ++ get_or w i blank ∷ get_or w (i + 1) blank ∷ drop (i + 1) m) ++ drop (u.count + 1) u.rows) (u.count + 1)

  less_front : take i less ++ get_or w i blank ∷ get_or w (i + 1) blank ∷ drop (i + 1) less ≡ w
  less_front =
      let n : length (take i w) ≡ i = length-take-le i w (omega arith) in
      let k : i + 1 ≡ length (take i w) + 1 = omega arith in
      ap (λ f. f ++ get_or w i blank ∷ get_or w (i + 1) blank ∷ drop (i + 1) less) (take_at (take i w) (x ∷ drop (i + 2) w) i n)
      ∙ ap (λ f. take i w ++ get_or w i blank ∷ get_or w (i + 1) blank ∷ f) (ap (λ m. drop m less) k ∙ drop-append-add (take i w) (x ∷ drop (i + 2) w) 1)
      ∙ sym (cut_two w i h)

  pub spread_gather : spread (gather t i x) i (get_or w i blank) (get_or w (i + 1) blank) ≡ t
  unfolding spread splice spreaded
  spread_gather =
      let n : length less + 1 ≡ t.count = omega (arith, less_size, s.used) in
      ap (λ m. spreaded m (gather t i x)) gather_live
      ∙ ap (spreaded less) gather_parts
      ∙ ap (λ f. table (f ++ drop (length less + 1) (less ++ blank ∷ rest)) (length less + 1)) less_front
      ∙ ap (λ f. table (w ++ f) (length less + 1)) (drop-append-add less (blank ∷ rest) 1 ∙ ap (λ m. drop m t.rows) s.used)
      ∙ ap (λ f. table f (length less + 1)) (sym (rows_parts t))
      ∙ ap (table t.rows) n

done_is : (code : ℕ) (before after : Table) → code ≡ 0 → tabled code before after ≡ table_done after
done_is code before after e = rw e

-- What is found and not refused is granted.
merge_granted : (t : Table) (party base i : ℕ) → find_of t party base ≡ Some i → mergeable t (Some i) party ≡ true → merge_of t party base ≡ table_done (merge_at t (Some i))
unfolding merge_of merge_reasons merge_reasons_at first
merge_granted t party base i e m =
    ap (λ f. tabled (first (merge_reasons_at t f party)) t (merge_at t f)) e
    ∙ done_is (pick (not (mergeable t (Some i) party)) 7 0) t (merge_at t (Some i)) (ap (λ b. pick (not b) 7 0) m)

split_granted : (t : Table) (party base len i : ℕ) → find_of t party base ≡ Some i → Splits t (Some i) len → split_of t party base len ≡ table_done (split_at t (Some i) len)
unfolding split_of split_reasons split_reasons_at first
split_granted t party base len i e k =
    ap (λ f. tabled (first (split_reasons_at t f len)) t (split_at t f len)) e
    ∙ done_is (first (split_reasons_at t (Some i) len)) t (split_at t (Some i) len)
    (ap (λ b. pick (not b) 7 (pick (bad_split (row_of t (Some i)) len) 8 (pick (full t) 9 0))) k.isopen
    ∙ ap (λ b. pick b 8 (pick (full t) 9 0)) k.fits ∙ ap (λ b. pick b 9 0) k.room)

-- In a table whose rows in use are pre, y and others, what was found at y's place is found there again.
found_again : (t u : Table) (party base i : ℕ) (xs ys : List Reservation) (y : Reservation) → i < length (live t) → find_of t party base ≡ Some i → live t ≡ take i (live t) ++ get_or (live t) i blank ∷ xs → live u ≡ take i (live t) ++ y ∷ ys → begins party base y ≡ true → find_of u party base ≡ Some i
unfolding find_of
found_again t u party base i xs ys y h e cut now p =
    let n : 0 + length (take i (live t)) ≡ i = omega (arith, length-take-le i (live t) (omega arith)) in
    let P = begins party base in
    ap (seek P 0) now
    ∙ seek_same P 0 (take i (live t)) (get_or (live t) i blank) y xs ys p (sym (ap (seek P 0) cut) ∙ e ∙ ap Some (sym n))
    ∙ ap Some n

row_again : (t u : Table) (i : ℕ) (ys : List Reservation) (y : Reservation) → i < length (live t) → live u ≡ take i (live t) ++ y ∷ ys → row_of u (Some i) ≡ y
row_again t u i ys y h now =
    let n = length-take-le i (live t) (omega arith) in
    let k : length (live u) ≡ i + suc (length ys) = ap length now ∙ length-append (take i (live t)) (y ∷ ys) ∙ ap (λ m. m + suc (length ys)) n in
    row_live u i (omega arith) ∙ ap (λ m. get_or m i blank) now ∙ get_or_at (take i (live t)) y ys blank i n

next_again : (t u : Table) (i : ℕ) (ys : List Reservation) (x y : Reservation) → i < length (live t) → live u ≡ take i (live t) ++ x ∷ y ∷ ys → (next_of u (Some i) ≡ Some (i + 1)) × (row_of u (Some (i + 1)) ≡ y)
next_again t u i ys x y h now =
    let n = length-take-le i (live t) (omega arith) in
    let k : length (live u) ≡ i + suc (suc (length ys)) = ap length now ∙ length-append (take i (live t)) (x ∷ y ∷ ys) ∙ ap (λ m. m + suc (suc (length ys))) n in (
      next_at u i (omega arith),
      row_live u (i + 1) (omega arith) ∙ ap (λ m. get_or m (i + 1) blank) now ∙ ap (λ m. get_or (take i (live t) ++ x ∷ y ∷ ys) (m + 1) blank) (sym n) ∙ get_or-append-add (take i (live t)) (x ∷ y ∷ ys) 1 blank,
    )

-- A reservation's two parts joined are the reservation, and its parts are the two that were joined.
rejoined : (r : Reservation) (len : ℕ) → r.length < 65536 → is_open r.state ≡ true → taker_sound r ≡ true → bad_split r len ≡ false → joined (lower_part r len) (upper_part r len) ≡ r
rejoined r len n o k e =
    let below = leb-false r.length len (or_right (eqb len 0) (leb r.length len) e) in
    same_row (joined (lower_part r len) (upper_part r len)) r refl (omega arith) (sym (open_is r.state o)) refl (sym (open_taker r o k))

module _ (cells : ℕ) (t : Table) (ok : table_sound cells t ≡ true) (takers : takers_sound (live t) ≡ true) (fits : cells < 65536) (party base : ℕ) where
  merge_split_at : (len i : ℕ) → find_of t party base ≡ Some i → Splits t (Some i) len → merge_of (split_at t (Some i) len) party base ≡ table_done t
  unfolding split_at mergeable merge_at
  merge_split_at len i e k =
      let s = sound cells t ok in
      let found = found_at (begins party base) (live t) i blank (unfold find_of in e) in
      let h = found.0 in
      let r = get_or (live t) i blank in
      let row = row_live t i h in
      let lo = lower_part r len in
      let up = upper_part r len in
      let u = spread t i lo up in
      let q = drop (i + 1) (live t) in
      let now = spread_live cells t s i h lo up in
      let again = found_again t u party base i q (up ∷ q) lo h e (cut_one (live t) i h) now found.1 in
      let low = row_again t u i (up ∷ q) lo h now in
      let next = next_again t u i q lo up h now in
      let high = ap (row_of u) next.0 ∙ next.1 in
      let still : is_open r.state ≡ true = sym (ap (λ x. is_open x.state) row) ∙ k.isopen in
      let fit : bad_split r len ≡ false = sym (ap (λ x. bad_split x len) row) ∙ k.fits in
      let short : r.length < 65536 = omega (arith, tiled_fits cells (live t) 0 i s.tiled h) in
      let holds : held up party ≡ true = and_right (eqb r.base base) (held r party) found.1 in
      let may : mergeable u (Some i) party ≡ true =
      ap (λ f. not (missing f) && (held (row_of u f) party && alike (row_of u (Some i)).state (row_of u f).state)) next.0
      ∙ ap (λ x. held x party && alike (row_of u (Some i)).state x.state) next.1
      ∙ ap (λ x. held up party && alike x.state Open) low ∙ both (held up party) true holds refl in
      ap (λ x. merge_of (spread t i (lower_part x len) (upper_part x len)) party base) row
      ∙ merge_granted u party base i again may
      ∙ ap table_done
      (ap (λ x. gather u i (joined x (row_of u (next_of u (Some i))))) low ∙ ap (λ x. gather u i (joined lo x)) high
      ∙ ap (gather u i) (rejoined r len short still (takers_row (live t) i takers h) fit)
      ∙ gather_spread cells t s i h lo up (leb-false 64 t.count k.room))

  undone : (len : ℕ) → (split_of t party base len).code ≡ 0 → merge_of (split_of t party base len).table party base ≡ table_done t
  unfolding split_of split_reasons
  undone len z =
      ap (λ u. merge_of u party base) (ap (λ a. a.table) (done_is (first (split_reasons_at t (find_of t party base) len)) t (split_at t (find_of t party base) len) z))
      ∙ go (find_of t party base) refl (split_clear t (find_of t party base) len z)
    where
      go : (f : Option ℕ) → find_of t party base ≡ f → Splits t f len → merge_of (split_at t f len) party base ≡ table_done t
      go (Some i) e k = merge_split_at len i e k
      go None e k = absurd (true≢false k.found)

  -- Split after merge of what split made gives back what split made.
  pub split_merge_split : (len : ℕ) → (split_of t party base len).code ≡ 0 → split_of (merge_of (split_of t party base len).table party base).table party base len ≡ split_of t party base len
  split_merge_split len z = ap (λ a. split_of a.table party base len) (undone len z)

  split_merge_at : (i : ℕ) → find_of t party base ≡ Some i → mergeable t (Some i) party ≡ true → is_open (row_of t (Some i)).state ≡ true → split_of (merge_at t (Some i)) party base (row_of t (Some i)).length ≡ table_done t
  unfolding split_at mergeable merge_at
  split_merge_at i e m o =
      let w = sound cells t ok in
      let b = next_below t i (merge_next t (Some i) party m) in
      let found = found_at (begins party base) (live t) i blank (unfold find_of in e) in
      let h = found.0 in
      let r = get_or (live t) i blank in
      let s = get_or (live t) (i + 1) blank in
      let q = drop (i + 2) (live t) in
      let row = row_live t i h in
      let above = ap (row_of t) (next_at t i b) ∙ row_live t (i + 1) b in
      let j = joined r s in
      let u = gather t i j in
      let now = gather_live cells t w i b j in
      let again = found_again t u party base i (s ∷ q) q j h e (cut_two (live t) i b) now found.1 in
      let here = row_again t u i q j h now in
      let lower = tiled_fits cells (live t) 0 i w.tiled h in
      let upper = tiled_fits cells (live t) 0 (i + 1) w.tiled b in
      let next : s.base ≡ r.base + r.length = subst (λ k. (get_or (live t) k blank).base ≡ r.base + r.length) (sym (add-one i)) (tiled_next cells (live t) 0 i w.tiled (omega arith)) in
      let some = tiled_some cells (live t) 0 i w.tiled h in
      let more = tiled_some cells (live t) 0 (i + 1) w.tiled b in
      let open-r : is_open r.state ≡ true = sym (ap (λ x. is_open x.state) row) ∙ o in
      let rest = and_right (not (missing (next_of t (Some i)))) (held (row_of t (next_of t (Some i))) party && alike (row_of t (Some i)).state (row_of t (next_of t (Some i))).state) m in
      let both-held : held s party ≡ true = sym (ap (λ x. held x party) above) ∙ and_left (held (row_of t (next_of t (Some i))) party) (alike (row_of t (Some i)).state (row_of t (next_of t (Some i))).state) rest in
      let both-alike : alike r.state s.state ≡ true =
      sym (ap (λ x. alike (row_of t (Some i)).state x.state) above ∙ ap (λ x. alike x.state s.state) row)
      ∙ and_right (held (row_of t (next_of t (Some i))) party) (alike (row_of t (Some i)).state (row_of t (next_of t (Some i))).state) rest in
      let holder : r.holder ≡ s.holder = eqb-true r.holder party (and_right (eqb r.base base) (held r party) found.1) ∙ sym (eqb-true s.holder party both-held) in
      let open-s = both_open r.state s.state both-alike open-r in
      let lo : lower_part j r.length ≡ r = same_row (lower_part j r.length) r refl refl (sym (open_is r.state open-r)) refl (sym (open_taker r open-r (takers_row (live t) i takers h))) in
      let up : upper_part j r.length ≡ s = same_row (upper_part j r.length) s (omega arith) (omega arith) (sym (open_is s.state open-s)) holder (sym (open_taker s open-s (takers_row (live t) (i + 1) takers b))) in
      let fit : bad_split j r.length ≡ false =
      ap (λ x. x || leb j.length r.length) (ne_eqb r.length 0 (λ z. omega arith)) ∙ lt-leb j.length r.length (omega arith) in
      let room : full u ≡ false = lt-leb 64 u.count (unfold gather in omega (arith, w)) in
      let k : Splits u (Some i) r.length = record { found = refl; isopen = ap (λ x. is_open x.state) here ∙ open-r; fits = ap (λ x. bad_split x r.length) here ∙ fit; room = room } in
      ap (λ x. split_of (gather t i (joined x (row_of t (next_of t (Some i))))) party base x.length) row
      ∙ ap (λ x. split_of (gather t i (joined r x)) party base r.length) above
      ∙ split_granted u party base r.length i again k
      ∙ ap table_done
      (ap (λ x. spread u i (lower_part x r.length) (upper_part x r.length)) here
      ∙ ap (λ x. spread u i x (upper_part j r.length)) lo ∙ ap (spread u i r) up
      ∙ spread_gather cells t w i b j)

  redone : (merge_of t party base).code ≡ 0 → is_open (row_of t (find_of t party base)).state ≡ true → split_of (merge_of t party base).table party base (row_of t (find_of t party base)).length ≡ table_done t
  unfolding merge_of merge_reasons next_of
  redone z o =
      ap (λ u. split_of u party base (row_of t (find_of t party base)).length) (ap (λ a. a.table) (done_is (first (merge_reasons_at t (find_of t party base) party)) t (merge_at t (find_of t party base)) z))
      ∙ go (find_of t party base) refl (merge_clear t (find_of t party base) party z) o
    where
      go : (f : Option ℕ) → find_of t party base ≡ f → mergeable t f party ≡ true → is_open (row_of t f).state ≡ true → split_of (merge_at t f) party base (row_of t f).length ≡ table_done t
      go (Some i) e m p = split_merge_at i e m p
      go None e m p = absurd (true≢false (merge_next t None party m))

pub merge_after_split : MergeAfterSplit
merge_after_split cells t ok takers fits party base = undone cells t ok takers fits party base

pub split_after_merge : SplitAfterMerge
split_after_merge cells t ok takers fits party base = redone cells t ok takers fits party base
