-- The tests of well-formedness over numbers, one more as their loops go, and what they come to. Assumes nothing.
use Prim.Native.Nat.{ℕ, zero, suc, ◌+◌, ◌*◌, ◌/◌, ◌%◌, ◌<◌, ◌≤◌, min}
use native.Mathlib.Numerals.{add-one}
use native.Mathlib.Omega.{arith}
use mathlib.Core.Bool.{Bool, true, false, cond, ◌&&◌, ◌||◌, and_assoc, and_comm, true≢false}
use mathlib.Core.List.{List, [], ◌∷◌, map}
use mathlib.Core.Path.{◌≡◌, refl, sym, ap, ◌∙◌}
use borrow.Author.Tests.{eqb-true, eqb-false, eq-eqb, ne_eqb, ltb-true, leb-true, le-leb, lt-ltb}
use lib.Dec.{eqb, ltb, leb}
use lib.ListN.{length, get_or, take, drop}
use lib.Seq.{drop-cons}
use Rattle.capabilities.specs.Lists.{pick}
use Rattle.capabilities.proofs.Choice.{and_left, and_right, pick_yes, pick_no, cross}
use Rattle.table.specs.Rows.{is_open, is_revoking, is_blank, no_taker, several_takers, live, blank}
use Rattle.table.specs.Tiling.{follows, row_sound, tiles, all_blank, revokings, taker_sound, takers_sound, table_sound, sized}
use Rattle.table.proofs.Truth.{both, or_first, or_second, same_test}
use Rattle.table.specs.Numbers.{state_from, row_from, row_code, table_of, written, all_written}
use Rattle.table.specs.Sound.{all_zero, top_sound, sound_numbers}
use Rattle.table.proofs.Numbers.{state_open, state_taken, state_revoking, write_back}
use Rattle.table.proofs.Inverse.{blank_is}
use Rattle.table.proofs.Mapping.{map_drop}
use Rattle.table.proofs.Reading.{live_numbers}
use Rattle.std.specs.List.{count_by}
use Rattle.std.proofs.lemmas.List.{take_min}
use Rattle.std.proofs.lemmas.List.Recursion.{is_count_by}

shuffle : (s t w b v r : Bool) → (s && (t && w)) && ((b && v) && r) ≡ (((s && t) && (b && r)) && (w && v))
shuffle false t w b v r = refl
shuffle true false w b v r = refl
shuffle true true false false v r = refl
shuffle true true false true v false = refl
shuffle true true false true v true = refl
shuffle true true true false v r = refl
shuffle true true true true false false = refl
shuffle true true true true false true = refl
shuffle true true true true true false = refl
shuffle true true true true true true = refl

group : (a b c d t w : Bool) → (a && b) && (((c && d) && t) && w) ≡ (((a && ((b && c) && d)) && t) && w)
group false b c d t w = refl
group true false c d t w = refl
group true true c d t w = refl

aside : (s a k c : Bool) → (s && (a && k)) && c ≡ (((s && a) && c) && k)
aside false a k c = refl
aside true false k c = refl
aside true true k c = and_comm k c

or_no : (a b : Bool) → a ≡ false → a || b ≡ b
or_no true b e = absurd (true≢false e)
or_no false b e = refl

-- What is left to test, one number more.
pub zero_more : (l : List ℕ) (i : ℕ) → i < length l → all_zero (drop i l) ≡ (eqb (get_or l i 0) 0 && all_zero (drop (i + 1) l))
unfolding all_zero
zero_more l i h = rw (add-one i, drop-cons l i 0 h)

-- Numbers of reservations that tile the cells from one up to another, and whose takers fit.
abbrev pub tiled_by : ℕ → ℕ → List ℕ → Bool
tiled_by from end l = (tiles from end (map row_from l) && takers_sound (map row_from l)) && all_written l

pub tile_more : (l : List ℕ) (end i from : ℕ) → i < length l
    → tiled_by from end (drop i l)
    ≡ (((follows from (row_from (get_or l i 0)) && taker_sound (row_from (get_or l i 0))) && written (get_or l i 0)) && tiled_by (from + (row_from (get_or l i 0)).length) end (drop (i + 1) l))
unfolding tiles takers_sound all_written
tile_more l end i from h =
    let n = get_or l i 0 in
    let rest = drop (suc i) l in
    let more = from + (row_from n).length in
    rw (add-one i, drop-cons l i 0 h)
    (ap (λ z. z && (written n && all_written rest)) (cross (follows from (row_from n)) (tiles more end (map row_from rest)) (taker_sound (row_from n)) (takers_sound (map row_from rest)))
    ∙ cross (follows from (row_from n) && taker_sound (row_from n)) (tiles more end (map row_from rest) && takers_sound (map row_from rest)) (written n) (all_written rest))

-- The same of the rows in use.
pub tiled_used : (l : List ℕ) (count end : ℕ)
    → ((tiles 0 end (live (table_of l count)) && takers_sound (live (table_of l count))) && all_written (take count l)) ≡ tiled_by 0 end (take (min count (length l)) l)
tiled_used l count end = rw (live_numbers l count, sym (take_min count l))

-- How many of the rows in use are Revoking.
pub revokings_used : (l : List ℕ) (count : ℕ) → revokings (live (table_of l count)) ≡ count_by (λ n. is_revoking (row_from n).state) (take (min count (length l)) l)
unfolding revokings
revokings_used l count = ap revokings (live_numbers l count) ∙ is_count_by (λ m. revokings (map row_from m)) (λ n. is_revoking (row_from n).state) refl (λ n m. counts (is_revoking (row_from n).state) (revokings (map row_from m))) (take (min count (length l)) l)
  where
    counts : (b : Bool) (k : ℕ) → pick b 1 0 + k ≡ cond b (1 + k) k
    counts true k = refl
    counts false k = omega arith

-- Where a reservation that begins at a cell ends.
pub end_of : (x from : ℕ) → follows from (row_from x) ≡ true → from + (row_from x).length ≡ x % 65536 + x / 65536 % 65536
unfolding row_from
end_of x from e =
    let base = eqb-true (x % 65536) from (and_left (eqb (x % 65536) from) (row_sound (row_from x)) e) in
    omega (arith, base)

open_test : (k : ℕ) → is_open (state_from k) ≡ eqb k 0
open_test k = go (eqb k 0) refl (eqb k 1) refl
  where
    go : (a : Bool) → eqb k 0 ≡ a → (b : Bool) → eqb k 1 ≡ b → is_open (state_from k) ≡ eqb k 0
    go true p b q = ap is_open (state_open k (eqb-true k 0 p)) ∙ sym p
    go false p true q = ap is_open (state_taken k (eqb-true k 1 q)) ∙ sym p
    go false p false q = ap is_open (state_revoking k (omega (arith, eqb-false k 0 p, eqb-false k 1 q))) ∙ sym p

-- The bits from 32 up, tested at once.
module _ (n : ℕ) where
  abbrev h : ℕ
  h = n / 4294967296

  abbrev low : ℕ
  low = n / 4294967296 % 65536

  abbrev top : ℕ
  top = n / 4294967296 / 65536

  abbrev k : ℕ
  k = n / 4294967296 % 256

  abbrev y : ℕ
  y = n / 1099511627776 % 256

  abbrev x : ℕ
  x = n / 281474976710656 % 256

  -- State and holder fit; the taker does; and the number is one that is written.
  abbrev held : Bool
  held = leb y 7 && (eqb k 0 || eqb y 0)

  abbrev taken : Bool
  taken = pick (eqb k 0) (eqb x no_taker) (leb x several_takers)

  abbrev fits : Bool
  fits = leb k 2 && ltb n 72057594037927936

  abbrev lent : Bool
  lent = (eqb low 1 || eqb low 2) && leb top several_takers

  abbrev free : Bool
  free = (eqb k 0 && ltb low 2048) && eqb top no_taker

  upper : top ≡ n / 281474976710656
  upper = omega arith

  lower : low ≡ k + 256 * y
  lower =
      let halves : n / 4294967296 / 256 ≡ n / 1099511627776 = omega arith in
      let parts : low ≡ k + 256 * (n / 4294967296 / 256 % 256) = omega arith in
      parts ∙ ap (λ z. k + 256 * (z % 256)) halves

  top_there : (held && taken) && fits ≡ true → top_sound h ≡ true
  top_there e = go (eqb k 0) refl (eqb k 1) refl
    where
      front : held && taken ≡ true
      front = and_left (held && taken) fits e

      holder : held ≡ true
      holder = and_left held taken front

      taker : taken ≡ true
      taker = and_right held taken front

      rest : fits ≡ true
      rest = and_right (held && taken) fits e

      small : n < 72057594037927936
      small = ltb-true n 72057594037927936 (and_right (leb k 2) (ltb n 72057594037927936) rest)

      whole : top ≡ x
      whole = omega (arith, upper, small)

      few : k ≤ 2
      few = leb-true k 2 (and_left (leb k 2) (ltb n 72057594037927936) rest)

      lent_there : eqb k 0 ≡ false → eqb low 1 || eqb low 2 ≡ true → top_sound h ≡ true
      lent_there p q =
          let most = leb-true x several_takers (sym (pick_no (eqb k 0) (eqb x no_taker) (leb x several_takers) p) ∙ taker) in
          or_first lent free (both (eqb low 1 || eqb low 2) (leb top several_takers) q (le-leb top several_takers (omega (arith, whole, most))))

      none : eqb k 0 ≡ false → y ≡ 0
      none p = eqb-true y 0 (sym (or_no (eqb k 0) (eqb y 0) p) ∙ and_right (leb y 7) (eqb k 0 || eqb y 0) holder)

      go : (a : Bool) → eqb k 0 ≡ a → (b : Bool) → eqb k 1 ≡ b → top_sound h ≡ true
      go true p b q =
          let seven = leb-true y 7 (and_left (leb y 7) (eqb k 0 || eqb y 0) holder) in
          let nine = eqb-true x no_taker (sym (pick_yes (eqb k 0) (eqb x no_taker) (leb x several_takers) p) ∙ taker) in
          or_second lent free
          (both (eqb k 0 && ltb low 2048) (eqb top no_taker) (both (eqb k 0) (ltb low 2048) p (lt-ltb low 2048 (omega (arith, lower, eqb-true k 0 p, seven))))
          (eq-eqb top no_taker (whole ∙ nine)))
      go false p true q = lent_there p (or_first (eqb low 1) (eqb low 2) (eq-eqb low 1 (omega (arith, lower, none p, eqb-true k 1 q))))
      go false p false q =
          let two : k ≡ 2 = omega (arith, few, eqb-false k 0 p, eqb-false k 1 q) in
          lent_there p (or_second (eqb low 1) (eqb low 2) (eq-eqb low 2 (omega (arith, lower, none p, two))))

  made : y ≤ 7 → k ≤ 2 → n / 281474976710656 ≤ 9 → eqb k 0 || eqb y 0 ≡ true → taken ≡ true → (held && taken) && fits ≡ true
  made a b c d e =
      both (held && taken) fits (both held taken (both (leb y 7) (eqb k 0 || eqb y 0) (le-leb y 7 a) d) e)
      (both (leb k 2) (ltb n 72057594037927936) (le-leb k 2 b) (lt-ltb n 72057594037927936 (omega (arith, c))))

  top_back : top_sound h ≡ true → (held && taken) && fits ≡ true
  top_back e = go lent refl (eqb low 1) refl
    where
      lent_back : 0 < low → low ≤ 2 → lent ≡ true → (held && taken) && fits ≡ true
      lent_back some few p =
          let most = leb-true top several_takers (and_right (eqb low 1 || eqb low 2) (leb top several_takers) p) in
          let none : y ≡ 0 = omega (arith, lower, few) in
          let own : k ≡ low = omega (arith, lower, none) in
          let same : x ≡ n / 281474976710656 = omega (arith, upper, most) in
          let no : eqb k 0 ≡ false = ne_eqb k 0 (λ z. omega (arith, own, some, z)) in
          made (omega (arith, none)) (omega (arith, own, few)) (omega (arith, upper, most)) (or_second (eqb k 0) (eqb y 0) (eq-eqb y 0 none))
          (pick_no (eqb k 0) (eqb x no_taker) (leb x several_takers) no ∙ le-leb x several_takers (omega (arith, same, upper, most)))

      go : (a : Bool) → lent ≡ a → (b : Bool) → eqb low 1 ≡ b → (held && taken) && fits ≡ true
      go true p true q = let one = eqb-true low 1 q in lent_back (omega (arith, one)) (omega (arith, one)) p
      go true p false q =
          let two = eqb-true low 2 (sym (or_no (eqb low 1) (eqb low 2) q) ∙ and_left (eqb low 1 || eqb low 2) (leb top several_takers) p) in
          lent_back (omega (arith, two)) (omega (arith, two)) p
      go false p b q =
          let last = sym (or_no lent free p) ∙ e in
          let front = and_left (eqb k 0 && ltb low 2048) (eqb top no_taker) last in
          let nine = eqb-true top no_taker (and_right (eqb k 0 && ltb low 2048) (eqb top no_taker) last) in
          let yes = and_left (eqb k 0) (ltb low 2048) front in
          let zero = eqb-true k 0 yes in
          let less = ltb-true low 2048 (and_right (eqb k 0) (ltb low 2048) front) in
          made (omega (arith, lower, less)) (omega (arith, zero)) (omega (arith, upper, nine)) (or_first (eqb k 0) (eqb y 0) yes)
          (pick_yes (eqb k 0) (eqb x no_taker) (leb x several_takers) yes ∙ eq-eqb x no_taker (omega (arith, upper, nine)))

-- A sound reservation's written number.
pub follows_test : (n from : ℕ) → ((eqb (n % 65536) from && ltb 0 (n / 65536 % 65536)) && top_sound (n / 4294967296)) ≡ ((follows from (row_from n) && taker_sound (row_from n)) && written n)
unfolding row_from written
follows_test n from =
    let b = n % 65536 in
    let m = n / 65536 % 65536 in
    ap (λ z. (eqb b from && ltb 0 m) && z) (same_test (top_sound (h n)) ((held n && taken n) && fits n) (top_back n) (top_there n))
    ∙ ap (λ z. (eqb b from && ltb 0 m) && (((leb (y n) 7 && (z || eqb (y n) 0)) && pick z (eqb (x n) no_taker) (leb (x n) several_takers)) && fits n)) (sym (open_test (k n)))
    ∙ group (eqb b from) (ltb 0 m) (leb (y n) 7) (is_open (state_from (k n)) || eqb (y n) 0) (taker_sound (row_from n)) (fits n)

blank_zero : is_blank (row_from 0) && written 0 ≡ true
unfolding row_from state_from written
blank_zero = refl

blank_code : row_code blank ≡ 0
unfolding row_code
blank_code = refl

-- A number is what its row is written as, and an unused row is written as 0.
blank_number : (n : ℕ) → is_blank (row_from n) && written n ≡ true → n ≡ 0
blank_number n e =
    sym (write_back n (and_right (is_blank (row_from n)) (written n) e)) ∙ ap row_code (blank_is (row_from n) (and_left (is_blank (row_from n)) (written n) e)) ∙ blank_code

-- A written number reads as an unused row only if it is 0.
pub blank_test : (n : ℕ) → (is_blank (row_from n) && written n) ≡ eqb n 0
blank_test n =
    same_test (is_blank (row_from n) && written n) (eqb n 0) (λ e. eq-eqb n 0 (blank_number n e))
    (λ e. ap (λ k. is_blank (row_from k) && written k) (eqb-true n 0 e) ∙ blank_zero)

pub rest_test : (l : List ℕ) → (all_blank (map row_from l) && all_written l) ≡ all_zero l
unfolding all_blank all_written all_zero
rest_test [] = refl
rest_test (n ∷ l) =
    cross (is_blank (row_from n)) (all_blank (map row_from l)) (written n) (all_written l)
    ∙ ap (λ b. b && (all_blank (map row_from l) && all_written l)) (blank_test n)
    ∙ ap (λ b. eqb n 0 && b) (rest_test l)

all_parts : (n : ℕ) (l : List ℕ) → all_written l ≡ (all_written (take n l) && all_written (drop n l))
unfolding all_written
all_parts zero l = refl
all_parts (suc n) [] = refl
all_parts (suc n) (x ∷ l) = ap (λ b. written x && b) (all_parts n l) ∙ sym (and_assoc (written x) (all_written (take n l)) (all_written (drop n l)))

-- The parts of the test together.
pub test_parts : (cells : ℕ) (l : List ℕ) (count : ℕ)
    → ((sized (table_of l count) && ((tiles 0 cells (live (table_of l count)) && takers_sound (live (table_of l count))) && all_written (take count l))) && (all_zero (drop count l) && leb (revokings (live (table_of l count))) 1))
    ≡ sound_numbers cells l count
unfolding sound_numbers table_sound
test_parts cells l count =
    let t = table_of l count in
    let s = sized t in
    let a = tiles 0 cells (live t) in
    let u = takers_sound (live t) in
    let w = all_written (take count l) in
    let v = all_written (drop count l) in
    let r = leb (revokings (live t)) 1 in
    let b = all_blank (drop count (map row_from l)) in
    ap (λ z. (s && ((a && u) && w)) && (z && r)) (sym (rest_test (drop count l)))
    ∙ ap (λ m. (s && ((a && u) && w)) && ((all_blank m && v) && r)) (map_drop row_from count l)
    ∙ shuffle s (a && u) w b v r
    ∙ ap (λ z. ((s && (a && u)) && (b && r)) && z) (sym (all_parts count l))
    ∙ ap (λ z. z && all_written l) (aside s a u (b && r))
