-- Claims and the numbers that they are written as, back and forth. Assumes nothing.
use Prim.Native.Nat.{ℕ, zero, suc, ◌+◌, ◌*◌, ◌/◌, ◌%◌, ◌<◌}
use native.Mathlib.Omega.{arith}
use native.Mathlib.Nat.{zero-add, add-mul-mod_self_left, mod-eq_of_lt}
use mathlib.Core.Bool.{Bool, true, false, ◌&&◌, ◌||◌}
use mathlib.Core.List.{List, [], ◌∷◌, ◌++◌}
use mathlib.Core.Path.{◌≡◌, refl, sym, ap, ap₂, subst₂, ◌∙◌}
use lib.ListN.{length, get_or, replicate, length-map, length-replicate, replicate-append-replicate, get_or-map}
use lib.Dec.{eqb, leb}
use borrow.Author.Tests.{eqb-true, leb-true, leb-false, ltb-true, eq-eqb, le-leb, lt-leb, lt-ltb}
use Rattle.capabilities.specs.Lists.{pick, each, map_each}
use Rattle.capabilities.proofs.Choice.{pick_yes, pick_no, and_left, and_right, both, at_most}
use Rattle.capabilities.proofs.Lists.{each_at, each_all, length_map_each, back}
use Rattle.claims.specs.declared.Principal.{Principal}
use Rattle.claims.specs.Claims.{Claims, nobody, principal_at, in_being, parent_of, counts_of, above}
use Rattle.claims.specs.Sound.{claims_sound, fresh_claims}
use Rattle.claims.specs.Numbers.{principal_from, principal_code, written, window, counts_read, claims_in, numbers_of, padded, laid, unused_zero, sized_in, kept_in, sound_in}
use Rattle.claims.proofs.Facts.{facts}
use Rattle.claims.proofs.Counting.{above_none, above_zeros}
use Rattle.claims.proofs.Principals.{being_below, none_at, counted_at, unspent_small, parent_being, holder_small}
use Rattle.claims.proofs.Entries.{same_claims}
use Rattle.claims.proofs.Laid.{padded_none, padded_full, Whole, length_laid, length_window, window_laid, laid_windows}
use Rattle.claims.proofs.Reading.{of_numbers, of_counts, principal_read, counts_read_lem}

same_principal :
    (q r : Principal) → q.being ≡ r.being → q.holder ≡ r.holder → q.parent ≡ r.parent → q.unspent ≡ r.unspent → q ≡ r
same_principal q r a b c d = λ i. record { being = a i; holder = b i; parent = c i; unspent = d i }

-- The flag in bit 32, over what stands below it.
flag_back : (b : Bool) (n : ℕ) → n < 4294967296 → leb 4294967296 (n + pick b 4294967296 0) ≡ b
flag_back true n h = le-leb 4294967296 (n + 4294967296) (omega arith)
flag_back false n h = lt-leb 4294967296 (n + 0) (omega arith)

flag : (b : Bool) → pick b 4294967296 0 ≡ 16777216 * (256 * pick b 1 0)
flag true = refl
flag false = refl

low_digit : (m x y : ℕ) → x < m → (x + m * y) % m ≡ x
low_digit m x y h = add-mul-mod_self_left x m y ∙ mod-eq_of_lt h

-- A principal, written and read again.
pub principal_back : (q : Principal) → q.unspent < 65536 → q.parent < 256 → q.holder < 256 → principal_from (principal_code q) ≡ q
unfolding principal_from principal_code
principal_back q u p h =
    let low = q.unspent + 65536 * q.parent + 16777216 * q.holder in
    let n = low + pick q.being 4294967296 0 in
    let top = q.holder + 256 * pick q.being 1 0 in
    let f = flag q.being in
    let a : n ≡ q.unspent + 65536 * (q.parent + 256 * top) = omega (arith, f) in
    let b : n / 65536 ≡ q.parent + 256 * top = omega (arith, a, u) in
    let c : n / 16777216 ≡ top = omega (arith, a, u, p) in
    same_principal (principal_from n) q
    (flag_back q.being low (omega (arith, u, p, h)))
    (ap (λ x. x % 256) c ∙ low_digit 256 q.holder (pick q.being 1 0) h)
    (ap (λ x. x % 256) b ∙ low_digit 256 q.parent top p)
    (ap (λ x. x % 65536) a ∙ low_digit 65536 q.unspent (q.parent + 256 * top) u)

-- A written number is what its principal is written as.
pub number_back : (n : ℕ) → n < 8589934592 → principal_code (principal_from n) ≡ n
unfolding principal_from principal_code
number_back n h = go (leb 4294967296 n) refl
  where
    go : (b : Bool) → leb 4294967296 n ≡ b → principal_code (principal_from n) ≡ n
    go true e = omega (arith, leb-true 4294967296 n e, pick_yes {A = ℕ} (leb 4294967296 n) 4294967296 0 e)
    go false e = omega (arith, leb-false 4294967296 n e, pick_no {A = ℕ} (leb 4294967296 n) 4294967296 0 e)

-- A principal is written as a number below 2^33.
number_small : (q : Principal) → q.unspent < 65536 → q.parent < 256 → q.holder < 256 → principal_code q < 8589934592
unfolding principal_code
number_small q u p h = omega (arith, flag q.being, at_most q.being, u, p, h)

-- Well-formed claims.
module _ (v : ℕ) (c : Claims) (s : claims_sound v c ≡ true) where
  pub whole : Whole c.counts
  unfolding counts_of
  whole p = go (in_being c p) refl
    where
      go : (b : Bool) → in_being c p ≡ b → length (padded (get_or c.counts p [])) ≡ 256
      go true e = let long = (counted_at v c s p e).long in ap length (padded_full (get_or c.counts p []) long) ∙ long
      go false e = ap length (padded_none (get_or c.counts p []) (ap length (none_at v c s p e))) ∙ length-replicate {A = ℕ} 256 0

  -- The lengths that they are written with.
  pub long_numbers : length (numbers_of c) ≡ 32
  long_numbers = length-map c.principals principal_code ∙ (facts v c s).of_principals

  pub long_counts : length (laid c.counts) ≡ 8192
  long_counts = length_laid c.counts whole ∙ ap (λ n. 256 * n) (facts v c s).of_counts

  -- Written and read again.
  parent_small : (p : ℕ) → parent_of c p < 256
  parent_small p = omega (arith, being_below v c s (parent_of c p) (parent_being v c s p))

  principal_same : (p : ℕ) → p < 32 → principal_from (principal_code (principal_at c p)) ≡ principal_at c p
  principal_same p h = principal_back (principal_at c p) (omega (arith, unspent_small v c s p h)) (parent_small p) (omega (arith, holder_small v c s p))

  counts_same : (p : ℕ) → p < 32 → counts_read (laid c.counts) p (principal_code (principal_at c p)) ≡ counts_of c p
  unfolding counts_read counts_of
  counts_same p h = ap (λ q. pick q.being (window (laid c.counts) p) []) (principal_same p h) ∙ go (in_being c p) refl
    where
      go : (b : Bool) → in_being c p ≡ b → pick (in_being c p) (window (laid c.counts) p) [] ≡ counts_of c p
      go true e =
          pick_yes (in_being c p) (window (laid c.counts) p) [] e
          ∙ window_laid c.counts whole p (omega (arith, h, (facts v c s).of_counts)) ∙ padded_full (counts_of c p) (counted_at v c s p e).long
      go false e = pick_no (in_being c p) (window (laid c.counts) p) [] e ∙ sym (none_at v c s p e)

  number_at : (p : ℕ) → get_or (numbers_of c) p 0 ≡ principal_code (principal_at c p)
  unfolding principal_at principal_code
  number_at p = get_or-map principal_code c.principals p nobody

  pub claims_back : claims_in (numbers_of c) (laid c.counts) ≡ c
  claims_back =
      let l = numbers_of c in
      let counts = laid c.counts in
      let many = length-map l principal_from in
      let lists = length_map_each (counts_read counts) 0 l in
      same_claims (claims_in l counts) c (many ∙ long_numbers ∙ sym (facts v c s).of_principals) (lists ∙ long_numbers ∙ sym (facts v c s).of_counts)
      (λ q h. principal_read l counts q ∙ ap principal_from (number_at q) ∙ principal_same q (omega (arith, h, many, long_numbers)))
      (λ q h. counts_read_lem l counts q ∙ ap (counts_read counts q) (number_at q) ∙ counts_same q (omega (arith, h, lists, long_numbers)))

  -- What they are written as passes the test.
  numbers_written : each written 0 (numbers_of c) ≡ true
  unfolding written
  numbers_written = each_all written 0 (numbers_of c) 0 (λ p h.
      let below : p < 32 = omega (arith, h, long_numbers) in
      let code = number_small (principal_at c p) (omega (arith, unspent_small v c s p below)) (parent_small p) (omega (arith, holder_small v c s p)) in
      lt-ltb (get_or (numbers_of c) p 0) 8589934592 (omega (arith, number_at p, code)))

  unused_zero_lem : (p : ℕ) → p < 32 → unused_zero (laid c.counts) p (principal_code (principal_at c p)) ≡ true
  unfolding unused_zero counts_of
  unused_zero_lem p h = ap (λ q. q.being || eqb (above (window (laid c.counts) p)) 0) (principal_same p h) ∙ go (in_being c p) refl
    where
      go : (b : Bool) → in_being c p ≡ b → (in_being c p || eqb (above (window (laid c.counts) p)) 0) ≡ true
      go true e = ap (λ b. b || eqb (above (window (laid c.counts) p)) 0) e
      go false e =
          let zeros = window_laid c.counts whole p (omega (arith, h, (facts v c s).of_counts)) ∙ padded_none (counts_of c p) (ap length (none_at v c s p e)) in
          ap (λ b. b || eqb (above (window (laid c.counts) p)) 0) e
          ∙ eq-eqb (above (window (laid c.counts) p)) 0 (ap above zeros ∙ above_zeros 256)

  pub passes : sound_in v (numbers_of c) (laid c.counts) ≡ true
  unfolding sound_in
  passes =
      let numbers = numbers_of c in
      let counts = laid c.counts in
      let unused = each_all (unused_zero counts) 0 numbers 0 (λ p h.
      ap₂ (unused_zero counts) (zero-add p) (number_at p) ∙ unused_zero_lem p (omega (arith, h, long_numbers))) in
      both (sized_in numbers counts) (kept_in numbers counts && claims_sound v (claims_in numbers counts))
      (both (eqb (length numbers) 32) (eqb (length counts) 8192) (eq-eqb (length numbers) 32 long_numbers) (eq-eqb (length counts) 8192 long_counts))
      (both (kept_in numbers counts) (claims_sound v (claims_in numbers counts))
      (both (each written 0 numbers) (each (unused_zero counts) 0 numbers) numbers_written unused)
      (ap (claims_sound v) claims_back ∙ s))

-- Numbers and counts that are what their claims are written as pass the test if the claims are well formed.
pub test_passes :
    (v : ℕ) (numbers counts : List ℕ) → numbers_of (claims_in numbers counts) ≡ numbers → laid (claims_in numbers counts).counts ≡ counts
    → claims_sound v (claims_in numbers counts) ≡ true → sound_in v numbers counts ≡ true
test_passes v numbers counts a b s = subst₂ (λ m k. sound_in v m k ≡ true) a b (passes v (claims_in numbers counts) s)

-- And those that pass are what their claims are written as.
pub kept_numbers : (numbers counts : List ℕ) → kept_in numbers counts ≡ true → numbers_of (claims_in numbers counts) ≡ numbers
unfolding written
kept_numbers numbers counts k =
    let w = and_left (each written 0 numbers) (each (unused_zero counts) 0 numbers) k in
    back principal_from principal_code 0 numbers (λ i h.
    number_back (get_or numbers i 0) (ltb-true (get_or numbers i 0) 8589934592 (each_at written 0 numbers i 0 h w)))

read_laid : (counts : List ℕ) (p n : ℕ) → length (window counts p) ≡ 256 → unused_zero counts p n ≡ true → padded (counts_read counts p n) ≡ window counts p
unfolding counts_read unused_zero
read_laid counts p n e u = go (principal_from n).being refl
  where
    go : (b : Bool) → (principal_from n).being ≡ b → padded (pick (principal_from n).being (window counts p) []) ≡ window counts p
    go true q = ap padded (pick_yes (principal_from n).being (window counts p) [] q) ∙ padded_full (window counts p) e
    go false q =
        let none = eqb-true (above (window counts p)) 0 (sym (ap (λ b. b || eqb (above (window counts p)) 0) q) ∙ u) in
        ap padded (pick_no (principal_from n).being (window counts p) [] q)
        ∙ sym (above_none (window counts p) none ∙ ap (λ m. replicate m 0) e)

pub kept_counts : (numbers counts : List ℕ) → sized_in numbers counts ≡ true → kept_in numbers counts ≡ true → laid (claims_in numbers counts).counts ≡ counts
unfolding counts_of
kept_counts numbers counts s k =
    let many = of_numbers numbers counts s in
    let long = of_counts numbers counts s in
    let u = and_right (each written 0 numbers) (each (unused_zero counts) 0 numbers) k in
    let ls = map_each (counts_read counts) 0 numbers in
    let same = length_map_each (counts_read counts) 0 numbers in
    laid_windows ls counts (omega (arith, many, long, same)) (λ p h.
    let below : p < length numbers = omega (arith, h, same) in
    ap padded (counts_read_lem numbers counts p)
    ∙ read_laid counts p (get_or numbers p 0) (length_window counts p (omega (arith, below, many, long)))
    (rw zero-add at (each_at (unused_zero counts) 0 numbers p 0 below u)))

-- A fresh start's.
laid_none : (n : ℕ) → laid (replicate n []) ≡ replicate (256 * n) 0
unfolding laid
laid_none zero = refl
laid_none (suc n) =
    let e : 256 + 256 * n ≡ 256 * suc n = omega arith in
    ap (λ l. replicate 256 0 ++ l) (laid_none n) ∙ replicate-append-replicate 256 (256 * n) 0 ∙ ap (λ m. replicate m 0) e

pub fresh_numbers : numbers_of (fresh_claims true) ≡ 4294975488 ∷ replicate 31 0
unfolding fresh_claims principal_code
fresh_numbers = refl

pub fresh_counts : laid (fresh_claims true).counts ≡ replicate 8192 0
unfolding fresh_claims laid
fresh_counts = ap (λ l. replicate 256 0 ++ l) (laid_none 31) ∙ replicate-append-replicate 256 7936 0

pub blank_numbers : numbers_of (fresh_claims false) ≡ replicate 32 0
unfolding fresh_claims principal_code
blank_numbers = refl

pub blank_counts : laid (fresh_claims false).counts ≡ replicate 8192 0
unfolding fresh_claims
blank_counts = laid_none 32
