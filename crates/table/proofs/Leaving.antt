-- What a call leaves, read as a table: refused, or granted. Assumes nothing.
use Rattle.std.specs.Prelude.{Option, Some, None}
use Rattle.std.specs.Option.{unwrap_or}
use Prim.Native.Nat.{ℕ, ◌+◌, ◌-◌, ◌<◌, ◌≤◌}
use native.Mathlib.Omega.{arith}
use mathlib.Core.Bool.{true, false, true≢false}
use mathlib.Core.List.{List}
use mathlib.Core.Path.{◌≡◌, refl, sym, ap, subst, ◌∙◌}
use borrow.Author.Tests.{leb-false}
use lib.ListN.{length, get_or}
use Rattle.capabilities.specs.Refusals.{first}
use Rattle.table.specs.declared.Reservation.{Reservation}
use Rattle.table.specs.Table.{Table}
use Rattle.table.specs.Rows.{live, spread, gather, blank}
use Rattle.table.specs.Find.{missing, row_of, with_row, find_of, next_of, begins}
use Rattle.table.specs.Operations.{bad_split, tabled, taken_row, given_row, lower_part, upper_part, joined, split_at, merge_at, mergeable, split_reasons_at, merge_reasons_at}
use Rattle.table.proofs.Answers.{granted, refused, Splits, split_clear, split_fits, merge_clear, merge_found, merge_next}
use Rattle.table.proofs.Finding.{found_at, next_below}
use Rattle.table.proofs.Takers.{joined_most}
use Rattle.table.specs.Numbers.{row_code, table_of, all_written}
use Rattle.table.specs.Lent.{Leaves, put_at, place_of, spread_at, gather_at, split_code, merge_code}
use Rattle.table.proofs.Numbers.{Sized, read_sized, read_back, number_written}
use Rattle.table.proofs.Reading.{row_read, put_reads, used_length}
use Rattle.table.proofs.Shifting.{spread_reads, gather_reads}
use Rattle.table.proofs.Written.{all_put, all_spread, all_gather}

-- A refusal keeps all; a granted call leaves the rule's table.
pub left_refused : (l : List ℕ) (code count told : ℕ) (after : Table) → code ≡ told → (code ≡ 0 → ⊥) → Leaves l l code count (tabled told (table_of l count) after)
left_refused l code count told after e z =
    record { answers = e; reads = sym (refused code told e after (table_of l count) z); keeps = λ _. refl; sound = λ w. w }

pub left_granted :
    (l m : List ℕ) (code count n told : ℕ) (after : Table) → code ≡ told → code ≡ 0 → table_of m n ≡ after → (all_written l ≡ true → all_written m ≡ true)
    → Leaves l m code n (tabled told (table_of l count) after)
left_granted l m code count n told after e z p w =
    record { answers = e; reads = p ∙ sym (granted code told e after (table_of l count) z); keeps = λ k. absurd (k z); sound = w }

-- Every row of a table read from numbers, and every row that a call makes of it, has fields of their sizes.
pub row_sized : (l : List ℕ) (count : ℕ) (f : Option ℕ) → Sized (row_of (table_of l count) f)
row_sized l count (Some i) = subst Sized (sym (row_read l count i)) (read_sized (get_or l i 0))
row_sized l count None = unfold row_of in (record { base = omega arith; length = omega arith; holder = omega arith; taker = omega arith })

pub taken_sized : (r : Reservation) (party : ℕ) → party < 256 → Sized r → Sized (taken_row r party)
taken_sized r party h s = record { base = s.base; length = s.length; holder = omega arith; taker = h }

pub given_sized : (r : Reservation) (to : ℕ) → to < 256 → Sized r → Sized (given_row r to)
given_sized r to h s = record { base = s.base; length = s.length; holder = h; taker = s.taker }

lower_sized : (r : Reservation) (len : ℕ) → len < 65536 → Sized r → Sized (lower_part r len)
lower_sized r len h s = record { base = s.base; length = h; holder = s.holder; taker = omega arith }

upper_sized : (r : Reservation) (len : ℕ) → Sized r → Sized (upper_part r len)
upper_sized r len s = record { base = omega arith; length = omega (arith, s.length); holder = s.holder; taker = omega arith }

joined_sized : (r q : Reservation) → Sized r → Sized (joined r q)
joined_sized r q s =
    record { base = s.base; length = omega arith; holder = s.holder; taker = omega (arith, joined_most r.taker q.taker 255 (omega (arith, s.taker)) (omega arith)) }

-- One row put.
pub left_put :
    (l : List ℕ) (code count told : ℕ) (f : Option ℕ) (new : Reservation) → code ≡ told → code ≡ 0 → Sized new
    → Leaves l (put_at l f (row_code new)) code count (tabled told (table_of l count) (with_row (table_of l count) f new))
left_put l code count told f new e z s =
    left_granted l (put_at l f (row_code new)) code count count told (with_row (table_of l count) f new) e z (put_reads l count f new s) (all_put l f (row_code new) (number_written new s))

-- How many rows a granted split or merge leaves in use.
pub split_count : (t : Table) (f : Option ℕ) (len : ℕ) → missing f ≡ false → (split_at t f len).count ≡ t.count + 1
unfolding split_at spread
split_count t (Some i) len m = refl
split_count t None len m = absurd (true≢false m)

pub merge_count : (t : Table) (f : Option ℕ) → missing f ≡ false → (merge_at t f).count ≡ length (live t) - 1
unfolding merge_at gather
merge_count t (Some i) m = refl
merge_count t None m = absurd (true≢false m)

unwrap_place : (found : Option ℕ) → unwrap_or found 0 ≡ place_of found
unfolding place_of
unwrap_place (Some i) = refl
unwrap_place None = refl

module _ (l : List ℕ) (count : ℕ) where
  abbrev t : Table
  t = table_of l count

  -- The code judged from what was read is the rule's.
  pub split_told : (code : ℕ) (g f : Option ℕ) (r : Reservation) (len : ℕ) → code ≡ split_code g r len count → g ≡ f → r ≡ row_of t f → code ≡ first (split_reasons_at t f len)
  unfolding split_reasons_at
  split_told code g f r len e p q = e ∙ ap (λ x. split_code x r len count) p ∙ ap (λ x. split_code f x len count) q

  pub merge_told :
      (code : ℕ) (g h f : Option ℕ) (r q : Reservation) (party : ℕ) → code ≡ merge_code g h r q party → g ≡ f → h ≡ next_of t f → r ≡ row_of t f → q ≡ row_of t (next_of t f)
      → code ≡ first (merge_reasons_at t f party)
  unfolding merge_reasons_at mergeable
  merge_told code g h f r q party e p n a b =
      e ∙ ap (λ x. merge_code x h r q party) p ∙ ap (λ x. merge_code f x r q party) n ∙ ap (λ x. merge_code f (next_of t f) x q party) a
      ∙ ap (λ x. merge_code f (next_of t f) (row_of t f) x party) b

  -- A granted split: where its row stands, and what is left.
  pub split_place : (party base : ℕ) (f : Option ℕ) (len : ℕ) → find_of t party base ≡ f → Splits t f len → length l ≡ 64 → (place_of f < count) × (count < length l)
  unfolding place_of
  split_place party base (Some i) len e k h =
      let below = leb-false 64 count k.room in
      let here = (found_at (begins party base) (live t) i blank (unfold find_of in e)).0 in
      (omega (arith, used_length l count), omega arith)
  split_place party base None len e k h = absurd (true≢false k.found)

  -- The same as the code reads it.
  pub record SplitHere (found : Option ℕ) (row : Reservation) (len : ℕ) : Type 0 where
    pub fits : len ≤ row.length
    pub place : unwrap_or found 0 ≡ place_of found
    pub below : unwrap_or found 0 < count
    pub room : count < 64
    pub used : length (live t) ≡ count
    pub after : (split_at t found len).count ≡ count + 1

  pub split_here : (party base len : ℕ) (found : Option ℕ) (row : Reservation) → found ≡ find_of t party base → row ≡ row_of t found → 0 ≡ split_code found row len count → length l ≡ 64
      → SplitHere found row len
  unfolding split_reasons_at
  split_here party base len found row here read told h =
      let clear = split_clear t found len (sym (told ∙ ap (λ r. split_code found r len count) read)) in
      let at = split_place party base found len (sym here) clear h in
      let place = unwrap_place found in record {
        fits = split_fits row len (ap (λ r. bad_split r len) read ∙ clear.fits);
        place = place;
        below = omega (arith, place, at.0);
        room = omega (arith, at.1);
        used = omega (arith, used_length l count, at.1);
        after = split_count t found len clear.found;
      }

  split_reads : (f : Option ℕ) (len : ℕ) → len < 65536 → missing f ≡ false
      → table_of (spread_at l count (place_of f) (row_code (lower_part (row_of t f) len)) (row_code (upper_part (row_of t f) len))) (count + 1) ≡ split_at t f len
  unfolding place_of split_at
  split_reads (Some i) len h m =
      let r = row_of t (Some i) in
      let s = row_sized l count (Some i) in
      spread_reads l count i (row_code (lower_part r len)) (row_code (upper_part r len)) (lower_part r len) (upper_part r len)
      (read_back (lower_part r len) (lower_sized r len h s)) (read_back (upper_part r len) (upper_sized r len s))
  split_reads None len h m = absurd (true≢false m)

  pub left_split :
      (code told : ℕ) (f : Option ℕ) (len : ℕ) → len < 65536 → code ≡ told → code ≡ 0 → missing f ≡ false
      → Leaves l (spread_at l count (place_of f) (row_code (lower_part (row_of t f) len)) (row_code (upper_part (row_of t f) len))) code (count + 1) (tabled told t (split_at t f len))
  left_split code told f len h e z m =
      let r = row_of t f in
      let s = row_sized l count f in
      left_granted l (spread_at l count (place_of f) (row_code (lower_part r len)) (row_code (upper_part r len))) code count (count + 1) told (split_at t f len) e z (split_reads f len h m)
      (all_spread l count (place_of f) (row_code (lower_part r len)) (row_code (upper_part r len)) (number_written (lower_part r len) (lower_sized r len h s)) (number_written (upper_part r len) (upper_sized r len s)))

  -- A granted merge.
  pub merge_place : (f : Option ℕ) → missing f ≡ false → missing (next_of t f) ≡ false → (place_of f + 1 < length (live t)) × (length (live t) ≤ length l)
  unfolding place_of
  merge_place (Some i) m k = (next_below t i k, omega (arith, used_length l count))
  merge_place None m k = absurd (true≢false m)

  pub record MergeHere (found : Option ℕ) : Type 0 where
    pub place : unwrap_or found 0 ≡ place_of found
    pub below : unwrap_or found 0 + 1 < length (live t)
    pub room : length (live t) ≤ length l
    pub after : (merge_at t found).count ≡ length (live t) - 1

  pub merge_here : (party : ℕ) (found above : Option ℕ) (row other : Reservation) → above ≡ next_of t found → row ≡ row_of t found → other ≡ row_of t above → 0 ≡ merge_code found above row other party
      → MergeHere found
  unfolding merge_reasons_at mergeable
  merge_here party found above row other next read high told =
      let told : first (merge_reasons_at t found party) ≡ 0 = sym (rw (sym next, sym read, sym high) told) in
      let f = merge_found t found party told in
      let at = merge_place found f (merge_next t found party (merge_clear t found party told)) in
      let place = unwrap_place found in
      record { place = place; below = omega (arith, place, at.0); room = at.1; after = merge_count t found f }

  merge_reads : (f : Option ℕ) (n : ℕ) → n ≡ length (live t) → missing f ≡ false
      → table_of (gather_at l n (place_of f) (row_code (joined (row_of t f) (row_of t (next_of t f)))) 0) (n - 1) ≡ merge_at t f
  unfolding place_of merge_at
  merge_reads (Some i) n e m =
      let r = row_of t (Some i) in
      let q = row_of t (next_of t (Some i)) in
      gather_reads l count n i (row_code (joined r q)) (joined r q) (read_back (joined r q) (joined_sized r q (row_sized l count (Some i)))) e
  merge_reads None n e m = absurd (true≢false m)

  pub left_merge :
      (code told : ℕ) (f : Option ℕ) (n : ℕ) → n ≡ length (live t) → code ≡ told → code ≡ 0 → missing f ≡ false
      → Leaves l (gather_at l n (place_of f) (row_code (joined (row_of t f) (row_of t (next_of t f)))) 0) code (n - 1) (tabled told t (merge_at t f))
  left_merge code told f n k e z m =
      let r = row_of t f in
      let q = row_of t (next_of t f) in
      left_granted l (gather_at l n (place_of f) (row_code (joined r q)) 0) code count (n - 1) told (merge_at t f) e z (merge_reads f n k m)
      (all_gather l n (place_of f) (row_code (joined r q)) (number_written (joined r q) (joined_sized r q (row_sized l count f))))
