-- No rule of the table looks at a taker but to write one. So a search finds the same row, the same reasons apply, and what an operation
-- makes of a table without takers is, its own taker forgotten, what it makes of the table. Assumes nothing.
use Rattle.std.specs.Prelude.{Option, Some, None}
use Prim.Native.Nat.{ℕ, suc, ◌+◌, ◌-◌, ◌≤◌}
use mathlib.Core.Bool.{Bool, true, false, not, ◌&&◌}
use mathlib.Core.List.{List, [], ◌∷◌, ◌++◌, map}
use mathlib.Core.Path.{◌≡◌, refl, sym, ap, subst, ◌∙◌}
use lib.Dec.{eqb, ltb}
use lib.ListN.{length, drop, length-map, get_or-map}
use Rattle.capabilities.specs.Lists.{pick}
use Rattle.capabilities.specs.Refusals.{Reason, reason, first}
use Rattle.capabilities.proofs.Choice.{and_left, and_right}
use Rattle.table.specs.declared.Reservation.{Reservation}
use Rattle.table.specs.Table.{Table}
use Rattle.table.specs.Rows.{is_open, is_revoking, is_blank, held, blank, table, forget_row, forget_table, live, splice, spread, gather}
use Rattle.table.specs.Lent.{spread_at}
use Rattle.table.specs.Find.{missing, seek, begins, find_of, next_of, revoking_of, row_of, with_row}
use Rattle.table.specs.Operations.{open_reasons, take_reasons, taken_row, take_of, bad_split, full, split_reasons_at, split_reasons, lower_part, upper_part, split_at, split_of, alike, mergeable, merge_reasons_at, merge_reasons, joined, merge_at, merge_of, give_reasons, given_row, give_of}
use Rattle.table.specs.Tiling.{follows, tiles, all_blank, weight, revokings, table_sound}
use Rattle.table.proofs.Truth.{both}
use Rattle.table.proofs.Sound.{sound, sound_back}
use Rattle.table.proofs.Mapping.{map_append, map_take, map_drop, map_set}
use Rattle.table.proofs.Shifting.{map_splice, map_spread}

-- Two choices by the same test, of things that g does not tell apart, are not told apart; and so where the same reasons apply.
pub pick_like : {A B : Type 0} (g : A → B) {a b : Bool} {x y z w : A} → a ≡ b → g x ≡ g z → g y ≡ g w → g (pick a x y) ≡ g (pick b z w)
pick_like g {a} {b} {x} {y} {z} {w} e p q = ap (λ c. g (pick c x y)) e ∙ go b
  where
    go : (c : Bool) → g (pick c x y) ≡ g (pick c z w)
    go true = p
    go false = q

pub granted_like : {A B : Type 0} (g : A → B) {k l : List Reason} {x y z w : A} → k ≡ l → g x ≡ g z → g y ≡ g w
    → g (pick (eqb (first k) 0) x y) ≡ g (pick (eqb (first l) 0) z w)
granted_like g e p q = pick_like g (ap (λ l. eqb (first l) 0) e) p q

-- Forgotten twice is forgotten once.
rows_twice : (l : List Reservation) → map forget_row (map forget_row l) ≡ map forget_row l
rows_twice [] = refl
rows_twice (r ∷ l) = ap (λ m. forget_row r ∷ m) (rows_twice l)

pub table_twice : (t : Table) → forget_table (forget_table t) ≡ forget_table t
table_twice t = ap (λ l. table l t.count) (rows_twice t.rows)

live_forgets : (t : Table) → live (forget_table t) ≡ map forget_row (live t)
unfolding live
live_forgets t = sym (map_take forget_row t.count t.rows)

seek_forgets : (P : Reservation → Bool) → ((r : Reservation) → P (forget_row r) ≡ P r) → (i : ℕ) (l : List Reservation) → seek P i (map forget_row l) ≡ seek P i l
unfolding seek
seek_forgets P h i [] = refl
seek_forgets P h i (r ∷ l) = ap (λ b. pick b (Some i) (seek P (suc i) (map forget_row l))) (h r) ∙ ap (pick (P r) (Some i)) (seek_forgets P h (suc i) l)

-- What is found, and what stands there.
module _ (t : Table) where
  pub find_forgets : (party base : ℕ) → find_of (forget_table t) party base ≡ find_of t party base
  unfolding find_of
  find_forgets party base = ap (seek (begins party base) 0) (live_forgets t) ∙ seek_forgets (begins party base) (λ r. refl) 0 (live t)

  pub revoking_forgets : revoking_of (forget_table t) ≡ revoking_of t
  unfolding revoking_of
  revoking_forgets = ap (seek (λ r. is_revoking r.state) 0) (live_forgets t) ∙ seek_forgets (λ r. is_revoking r.state) (λ r. refl) 0 (live t)

  used_forgets : length (live (forget_table t)) ≡ length (live t)
  used_forgets = ap length (live_forgets t) ∙ length-map (live t) forget_row

  next_forgets : (f : Option ℕ) → next_of (forget_table t) f ≡ next_of t f
  unfolding next_of
  next_forgets (Some i) = ap (λ n. pick (ltb (i + 1) n) (Some (i + 1)) None) used_forgets
  next_forgets None = refl

  pub row_forgets : (f : Option ℕ) → row_of (forget_table t) f ≡ forget_row (row_of t f)
  unfolding row_of
  row_forgets (Some i) = get_or-map forget_row t.rows i blank
  row_forgets None = refl

  -- One row put in place of another, one row more, one row less.
  put_forgets : (f : Option ℕ) (r : Reservation) → forget_table (with_row t f r) ≡ with_row (forget_table t) f (forget_row r)
  unfolding with_row
  put_forgets (Some i) r = ap (λ l. table l t.count) (map_set forget_row t.rows i r)
  put_forgets None r = refl

  spread_forgets : (i : ℕ) (a b : Reservation) → forget_table (spread t i a b) ≡ spread (forget_table t) i (forget_row a) (forget_row b)
  unfolding spread spread_at live
  spread_forgets i a b = ap (λ l. table l (t.count + 1)) (map_spread forget_row t.rows t.count i a b)

  gather_forgets : (i : ℕ) (a : Reservation) → forget_table (gather t i a) ≡ gather (forget_table t) i (forget_row a)
  unfolding gather
  gather_forgets i a =
      let rows = map forget_row t.rows in
      ap (λ l. table l (length (live t) - 1))
      (map_append forget_row (splice i 2 (a ∷ []) (live t)) (blank ∷ drop (length (live t)) t.rows)
      ∙ ap (λ l. l ++ (blank ∷ map forget_row (drop (length (live t)) t.rows))) (map_splice forget_row i 2 (a ∷ []) (live t) ∙ ap (splice i 2 (forget_row a ∷ [])) (sym (live_forgets t)))
      ∙ ap (λ l. splice i 2 (forget_row a ∷ []) (live (forget_table t)) ++ (blank ∷ l)) (map_drop forget_row (length (live t)) t.rows))
      ∙ ap (λ n. table (splice i 2 (forget_row a ∷ []) (live (forget_table t)) ++ (blank ∷ drop n rows)) (n - 1)) (sym used_forgets)

module _ (t : Table) where
  -- The reasons against each operation.
  open_forgets : (party base : ℕ) → open_reasons (find_of (forget_table t) party base) (row_of (forget_table t) (find_of (forget_table t) party base)) ≡ open_reasons (find_of t party base) (row_of t (find_of t party base))
  unfolding open_reasons
  open_forgets party base =
      ap (λ f. open_reasons f (row_of (forget_table t) f)) (find_forgets t party base) ∙ ap (open_reasons (find_of t party base)) (row_forgets t (find_of t party base))

  pub take_reasons_lem : (party base : ℕ) → take_reasons (forget_table t) party base ≡ take_reasons t party base
  unfolding take_reasons
  take_reasons_lem party base = open_forgets party base

  pub give_reasons_lem : (party base : ℕ) → give_reasons (forget_table t) party base ≡ give_reasons t party base
  unfolding give_reasons
  give_reasons_lem party base = open_forgets party base

  pub split_reasons_lem : (party base len : ℕ) → split_reasons (forget_table t) party base len ≡ split_reasons t party base len
  unfolding split_reasons split_reasons_at
  split_reasons_lem party base len =
      ap (λ f. split_reasons_at (forget_table t) f len) (find_forgets t party base)
      ∙ ap (λ r. reason 6 (missing (find_of t party base)) ∷ reason 7 (not (is_open r.state)) ∷ reason 8 (bad_split r len) ∷ reason 9 (full t) ∷ []) (row_forgets t (find_of t party base))

  mergeable_forgets : (f : Option ℕ) (party : ℕ) → mergeable (forget_table t) f party ≡ mergeable t f party
  unfolding mergeable
  mergeable_forgets f party =
      let bare = forget_table t in
      let g = next_of t f in
      ap (λ h. not (missing h) && (held (row_of bare h) party && alike (row_of bare f).state (row_of bare h).state)) (next_forgets t f)
      ∙ ap (λ r. not (missing g) && (held (row_of bare g) party && alike r.state (row_of bare g).state)) (row_forgets t f)
      ∙ ap (λ r. not (missing g) && (held r party && alike (row_of t f).state r.state)) (row_forgets t g)

  pub merge_reasons_lem : (party base : ℕ) → merge_reasons (forget_table t) party base ≡ merge_reasons t party base
  unfolding merge_reasons merge_reasons_at
  merge_reasons_lem party base = cc (find_forgets t party base, mergeable_forgets (find_of t party base) party)

  -- What the operations leave. First a row made of the one that stood there, by a rule that writes a taker at most.
  pub put_by :
      (g : Reservation → Reservation) → ((r : Reservation) → forget_row (g (forget_row r)) ≡ forget_row (g r)) → (e f : Option ℕ) → e ≡ f
      → forget_table (with_row (forget_table t) e (g (row_of (forget_table t) e))) ≡ forget_table (with_row t f (g (row_of t f)))
  put_by g h e f p =
      ap (λ x. forget_table (with_row (forget_table t) x (g (row_of (forget_table t) x)))) p
      ∙ ap (λ r. forget_table (with_row (forget_table t) f (g r))) (row_forgets t f)
      ∙ put_forgets (forget_table t) f (g (forget_row (row_of t f)))
      ∙ ap (λ u. with_row u f (forget_row (g (forget_row (row_of t f))))) (table_twice t)
      ∙ ap (with_row (forget_table t) f) (h (row_of t f))
      ∙ sym (put_forgets t f (g (row_of t f)))

  pub take_forgets : (party base : ℕ) → forget_table (take_of (forget_table t) party base).table ≡ forget_table (take_of t party base).table
  unfolding take_of
  take_forgets party base =
      granted_like forget_table (take_reasons_lem party base)
      (put_by (λ r. taken_row r party) (λ r. refl) (find_of (forget_table t) party base) (find_of t party base) (find_forgets t party base))
      (table_twice t)

  pub take_length : (party base : ℕ) → (take_of (forget_table t) party base).length ≡ (take_of t party base).length
  unfolding take_of
  take_length party base =
      granted_like (λ n. n) (take_reasons_lem party base)
      (ap (λ f. (row_of (forget_table t) f).length) (find_forgets t party base) ∙ ap (λ r. r.length) (row_forgets t (find_of t party base)))
      refl

  pub give_forgets : (party base to : ℕ) → forget_table (give_of (forget_table t) party base to).table ≡ forget_table (give_of t party base to).table
  unfolding give_of
  give_forgets party base to =
      granted_like forget_table (give_reasons_lem party base)
      (put_by (λ r. given_row r to) (λ r. refl) (find_of (forget_table t) party base) (find_of t party base) (find_forgets t party base))
      (table_twice t)

  split_at_forgets : (f : Option ℕ) (len : ℕ) → forget_table (split_at (forget_table t) f len) ≡ forget_table (split_at t f len)
  unfolding split_at
  split_at_forgets (Some i) len =
      let r = row_of (forget_table t) (Some i) in
      spread_forgets (forget_table t) i (lower_part r len) (upper_part r len)
      ∙ ap (λ u. spread u i (forget_row (lower_part r len)) (forget_row (upper_part r len))) (table_twice t)
      ∙ ap (λ x. spread (forget_table t) i (forget_row (lower_part x len)) (forget_row (upper_part x len))) (row_forgets t (Some i))
      ∙ sym (spread_forgets t i (lower_part (row_of t (Some i)) len) (upper_part (row_of t (Some i)) len))
  split_at_forgets None len = table_twice t

  merge_at_forgets : (f : Option ℕ) → forget_table (merge_at (forget_table t) f) ≡ forget_table (merge_at t f)
  unfolding merge_at
  merge_at_forgets (Some i) =
      let bare = forget_table t in
      let r = row_of bare (Some i) in
      let g = next_of t (Some i) in
      ap (λ h. forget_table (gather bare i (joined r (row_of bare h)))) (next_forgets t (Some i))
      ∙ gather_forgets bare i (joined r (row_of bare g))
      ∙ ap (λ u. gather u i (forget_row (joined r (row_of bare g)))) (table_twice t)
      ∙ ap (λ x. gather bare i (forget_row (joined x (row_of bare g)))) (row_forgets t (Some i))
      ∙ ap (λ x. gather bare i (forget_row (joined (row_of t (Some i)) x))) (row_forgets t g)
      ∙ sym (gather_forgets t i (joined (row_of t (Some i)) (row_of t g)))
  merge_at_forgets None = table_twice t

  pub split_forgets : (party base len : ℕ) → forget_table (split_of (forget_table t) party base len).table ≡ forget_table (split_of t party base len).table
  unfolding split_of
  split_forgets party base len =
      granted_like forget_table (split_reasons_lem party base len)
      (ap (λ f. forget_table (split_at (forget_table t) f len)) (find_forgets t party base) ∙ split_at_forgets (find_of t party base) len)
      (table_twice t)

  pub merge_forgets : (party base : ℕ) → forget_table (merge_of (forget_table t) party base).table ≡ forget_table (merge_of t party base).table
  unfolding merge_of
  merge_forgets party base =
      granted_like forget_table (merge_reasons_lem party base)
      (ap (λ f. forget_table (merge_at (forget_table t) f)) (find_forgets t party base) ∙ merge_at_forgets (find_of t party base))
      (table_twice t)

-- A table is well formed without its takers.
tiles_forgets : (from upto : ℕ) (l : List Reservation) → tiles from upto (map forget_row l) ≡ tiles from upto l
unfolding tiles
tiles_forgets from upto [] = refl
tiles_forgets from upto (r ∷ l) = ap (λ b. follows from r && b) (tiles_forgets (from + r.length) upto l)

row_blank : (r : Reservation) → is_blank r ≡ true → is_blank (forget_row r) ≡ true
row_blank r e =
    let bare = (is_open r.state && eqb r.holder 0) && (eqb r.base 0 && eqb r.length 0) in
    both bare true (and_left bare (eqb r.taker 0) e) refl

blank_forgets : (l : List Reservation) → all_blank l ≡ true → all_blank (map forget_row l) ≡ true
unfolding all_blank
blank_forgets [] e = refl
blank_forgets (r ∷ l) e = both (is_blank (forget_row r)) (all_blank (map forget_row l)) (row_blank r (and_left (is_blank r) (all_blank l) e)) (blank_forgets l (and_right (is_blank r) (all_blank l) e))

revokings_forgets : (l : List Reservation) → revokings (map forget_row l) ≡ revokings l
unfolding revokings
revokings_forgets [] = refl
revokings_forgets (r ∷ l) = ap (λ n. weight r + n) (revokings_forgets l)

pub sound_forgets : (cells : ℕ) (t : Table) → table_sound cells t ≡ true → table_sound cells (forget_table t) ≡ true
sound_forgets cells t e =
    let s = sound cells t e in
    sound_back cells (forget_table t) (length-map t.rows forget_row ∙ s.rows) s.some s.most
    (ap (tiles 0 cells) (live_forgets t) ∙ tiles_forgets 0 cells (live t) ∙ s.tiled)
    (ap all_blank (sym (map_drop forget_row t.count t.rows)) ∙ blank_forgets (drop t.count t.rows) s.unused)
    (subst (λ n. n ≤ 1) (sym (ap revokings (live_forgets t) ∙ revokings_forgets (live t))) s.single)
