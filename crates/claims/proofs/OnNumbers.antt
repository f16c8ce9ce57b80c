-- What the calls leave in lent numbers and counts is what the claims that the rules leave are written as. Assumes nothing.
use Prim.Native.Nat.{ℕ, zero, suc, ◌+◌, ◌-◌, ◌*◌, ◌/◌, ◌%◌, ◌<◌, ◌≤◌}
use native.Mathlib.Omega.{arith}
use mathlib.Core.Bool.{Bool, true, false, ◌&&◌, ◌||◌}
use mathlib.Core.List.{List, [], ◌∷◌, map}
use mathlib.Core.Path.{◌≡◌, refl, sym, ap, ap₂, ◌∙◌}
use lib.ListN.{length, get_or, take, set, replicate, get_or-map}
use lib.Seq.{take_all, take-suc}
use lib.Dec.{eqb, ltb}
use Rattle.capabilities.specs.Lists.{pick, map_each}
use Rattle.capabilities.specs.Refusals.{first}
use Rattle.capabilities.proofs.Choice.{and_left, and_right}
use Rattle.capabilities.proofs.Lists.{map_set}
use Rattle.claims.specs.Claims.{Claims, principal, nobody, principal_at, in_being, parent_of, unspent, counts_of, count_of, limit_of, any_above, claimed, with_principal, with_counts, leaving, with_unspent, one}
use Rattle.claims.specs.Tree.{leads_up}
use Rattle.claims.specs.Operations.{create_reasons, create_of, claim_reasons, with_count, claim_of, release_reasons, release_of, destroy_reasons, returned, destroy_of}
use Rattle.claims.specs.Sound.{claims_sound}
use Rattle.claims.specs.Numbers.{principal_from, principal_code, claims_in, numbers_of, window, padded, laid, sized_in, kept_in, sound_in}
use Rattle.claims.specs.Cost.{claimants}
use Rattle.claims.specs.Lent.{principal_in, count_in, unspent_put, created_in, claimed_in, released_in, emptied, destroyed_in, cleared_in, any_counts, claimants_in}
use Rattle.claims.proofs.Facts.{facts}
use Rattle.claims.proofs.Sums.{sum_same, sum_parts}
use Rattle.claims.proofs.Counting.{any_snoc}
use Rattle.claims.proofs.Laid.{padded_none, get_d_padded, window_laid, get_d_window, laid_same, laid_set, laid_cleared}
use Rattle.claims.proofs.Principals.{held_being, being_below, none_at, counted_at, unspent_small}
use Rattle.claims.proofs.Claimable.{claimable, releasable}
use Rattle.claims.proofs.Created.{creates}
use Rattle.claims.proofs.Destroyed.{destroys, left}
use Rattle.claims.proofs.Reading.{principal_read}
use Rattle.claims.proofs.RoundTrip.{whole, kept_numbers, kept_counts}

-- Another part of a limit unspent, in claims and in the numbers that they are written as.
unspent_put_lem :
    (d : Claims) (l : List ℕ) → numbers_of d ≡ l → d.principals ≡ map principal_from l → (p n : ℕ) → numbers_of (with_unspent d p n) ≡ unspent_put l p n
unfolding with_principal principal_at principal_from
unspent_put_lem d l e f p n =
    map_set principal_code d.principals p (leaving (principal_at d p) n)
    ∙ ap₂ (λ m q. set m p (principal_code (leaving q n))) e (ap (λ m. get_or m p nobody) f ∙ get_or-map principal_from l p 0)

-- Entries that a test picks become another entry, before or after each is written or read.
map_emptied : {A B : Type 0} (f : A → B) (t : ℕ → Bool) (a : A) (k : ℕ) (l : List A)
    → map f (map_each (λ q x. pick (t q) a x) k l) ≡ map_each (λ q y. pick (t q) (f a) y) k (map f l)
unfolding map_each
map_emptied f t a k [] = refl
map_emptied f t a k (x ∷ l) = ap₂ ◌∷◌ (one (t k)) (map_emptied f t a (suc k) l)
  where
    one : (b : Bool) → f (pick b a x) ≡ pick b (f a) (f x)
    one true = refl
    one false = refl

-- Numbers and counts that pass the test.
module _ (v : ℕ) (numbers counts : List ℕ) (s : sound_in v numbers counts ≡ true) where
  abbrev c : Claims
  c = claims_in numbers counts

  sized : sized_in numbers counts ≡ true
  unfolding sound_in
  sized = and_left (sized_in numbers counts) (kept_in numbers counts && claims_sound v c) s

  kept : kept_in numbers counts ≡ true
  unfolding sound_in
  kept = and_left (kept_in numbers counts) (claims_sound v c) (and_right (sized_in numbers counts) (kept_in numbers counts && claims_sound v c) s)

  formed : claims_sound v c ≡ true
  unfolding sound_in
  formed = and_right (kept_in numbers counts) (claims_sound v c) (and_right (sized_in numbers counts) (kept_in numbers counts && claims_sound v c) s)

  numbers_same : numbers_of c ≡ numbers
  numbers_same = kept_numbers numbers counts kept

  counts_same : laid c.counts ≡ counts
  counts_same = kept_counts numbers counts sized kept

  -- What stands in the numbers and counts at a principal's place.
  unspent_at : (p : ℕ) → unspent c p ≡ (principal_in numbers p).unspent
  unspent_at p = ap (λ q. q.unspent) (principal_read numbers counts p)

  window_at : (p : ℕ) → p < 32 → window counts p ≡ padded (counts_of c p)
  unfolding counts_of
  window_at p h =
      ap (λ l. window l p) (sym counts_same) ∙ window_laid c.counts (whole v c formed) p (omega (arith, h, (facts v c formed).of_counts))

  count_at : (p page : ℕ) → p < 32 → page < 256 → count_of c p page ≡ count_in counts p page
  count_at p page h k =
      sym (get_d_padded (counts_of c p) page k) ∙ ap (λ l. get_or l page 0) (sym (window_at p h)) ∙ get_d_window counts p page k

  -- 12.
  pub create_put :
      (party parent child limit holder : ℕ) → first (create_reasons c party parent child limit) ≡ 0
      → numbers_of (create_of c parent child limit holder) ≡ created_in numbers parent child limit holder
  unfolding create_of with_principal with_counts
  create_put party parent child limit holder e =
      map_set principal_code (with_unspent c parent (unspent c parent - limit)).principals child (principal true holder parent limit)
      ∙ ap (λ l. set l child (principal_code (principal true holder parent limit)))
      (unspent_put_lem c numbers numbers_same refl parent (unspent c parent - limit) ∙ ap (λ n. unspent_put numbers parent (n - limit)) (unspent_at parent))

  pub create_laid :
      (party parent child limit holder : ℕ) → first (create_reasons c party parent child limit) ≡ 0
      → laid (create_of c parent child limit holder).counts ≡ counts
  unfolding create_of with_principal with_counts counts_of
  create_laid party parent child limit holder e =
      let none = none_at v c formed child (creates c party parent child limit e).free in
      laid_same c.counts child (replicate 256 0) (sym (padded_none (counts_of c child) (ap length none))) ∙ counts_same

  -- 13 and 14: a count put in place of the old one, with another part unspent or with the same.
  counted_put :
      (b : Bool) (p page n m : ℕ) → numbers_of (with_count (pick b (with_unspent c p n) c) p page m) ≡ pick b (unspent_put numbers p n) numbers
  unfolding with_counts
  counted_put true p page n m = unspent_put_lem c numbers numbers_same refl p n
  counted_put false p page n m = numbers_same

  counted_laid :
      (b : Bool) (p page n m : ℕ) → in_being c p ≡ true → page < 256
      → laid (with_count (pick b (with_unspent c p n) c) p page m).counts ≡ set counts (256 * p + page) m
  unfolding with_counts with_principal counts_of
  counted_laid b p page n m e h =
      both_ways b
      (laid_set c.counts (whole v c formed) p page m h (counted_at v c formed p e).long ∙ ap (λ l. set l (256 * p + page) m) counts_same)
    where
      both_ways :
          (b : Bool) → laid (with_count c p page m).counts ≡ set counts (256 * p + page) m
          → laid (with_count (pick b (with_unspent c p n) c) p page m).counts ≡ set counts (256 * p + page) m
      both_ways true k = k
      both_ways false k = k

  count_being : (p page : ℕ) → in_being c p ≡ true → page < 256 → count_of c p page ≡ count_in counts p page
  count_being p page e h = count_at p page (being_below v c formed p e) h

  pub claim_put :
      (party p page : ℕ) → page < 256 → first (claim_reasons c party p page) ≡ 0
      → numbers_of (claim_of c p page) ≡ claimed_in numbers p (count_in counts p page)
  unfolding claim_of
  claim_put party p page h e =
      let being = held_being c party p (claimable c party p page e).held in
      counted_put (eqb (count_of c p page) 0) p page (unspent c p - 1) (count_of c p page + 1)
      ∙ ap₂ (λ n u. pick (eqb n 0) (unspent_put numbers p (u - 1)) numbers) (count_being p page being h) (unspent_at p)

  pub claim_laid :
      (party p page : ℕ) → page < 256 → first (claim_reasons c party p page) ≡ 0
      → laid (claim_of c p page).counts ≡ set counts (256 * p + page) (count_in counts p page + 1)
  unfolding claim_of
  claim_laid party p page h e =
      let being = held_being c party p (claimable c party p page e).held in
      counted_laid (eqb (count_of c p page) 0) p page (unspent c p - 1) (count_of c p page + 1) being h
      ∙ ap (λ n. set counts (256 * p + page) (n + 1)) (count_being p page being h)

  pub release_put :
      (party p page : ℕ) → page < 256 → first (release_reasons c party p page) ≡ 0
      → numbers_of (release_of c p page) ≡ released_in numbers p (count_in counts p page)
  unfolding release_of
  release_put party p page h e =
      let being = held_being c party p (releasable c party p page e).held in
      let small = unspent_small v c formed p (being_below v c formed p being) in
      let more : unspent c p + 1 ≡ ((principal_in numbers p).unspent + 1) % 65536 = omega (arith, small, unspent_at p) in
      counted_put (eqb (count_of c p page) 1) p page (unspent c p + 1) (count_of c p page - 1)
      ∙ ap₂ (λ n u. pick (eqb n 1) (unspent_put numbers p u) numbers) (count_being p page being h) more

  pub release_laid :
      (party p page : ℕ) → page < 256 → first (release_reasons c party p page) ≡ 0
      → laid (release_of c p page).counts ≡ set counts (256 * p + page) (count_in counts p page - 1)
  unfolding release_of
  release_laid party p page h e =
      let being = held_being c party p (releasable c party p page e).held in
      counted_laid (eqb (count_of c p page) 1) p page (unspent c p + 1) (count_of c p page - 1) being h
      ∙ ap (λ n. set counts (256 * p + page) (n - 1)) (count_being p page being h)

  -- 15. All limits total 8,192, so what comes back is at most that.
  returned_small : (p : ℕ) → returned c p ≤ 8192
  unfolding returned
  returned_small p = omega (arith, sum_parts 32 (leads_up c p) (limit_of c), (facts v c formed).of_limits)

  left_numbers : (p : ℕ) → numbers_of (left c p) ≡ map_each (emptied c p) 0 numbers
  unfolding principal_code
  left_numbers p = map_emptied principal_code (leads_up c p) nobody 0 c.principals ∙ ap (map_each (emptied c p) 0) numbers_same

  left_principals : (p : ℕ) → (left c p).principals ≡ map principal_from (map_each (emptied c p) 0 numbers)
  unfolding principal_from
  left_principals p = sym (map_emptied principal_from (leads_up c p) 0 0 numbers)

  pub destroy_put : (party p : ℕ) → first (destroy_reasons c party p) ≡ 0 → numbers_of (destroy_of c p) ≡ destroyed_in numbers counts p
  unfolding destroy_of destroyed_in
  destroy_put party p e =
      let parent = parent_of c p in
      let n = unspent c parent + returned c p in
      let small = unspent_small v c formed parent (being_below v c formed parent (held_being c party parent (destroys c party p e).held)) in
      let more : n ≡ ((principal_in numbers parent).unspent + returned c p) % 65536 = omega (arith, small, returned_small p, unspent_at parent) in
      unspent_put_lem (left c p) (map_each (emptied c p) 0 numbers) (left_numbers p) (left_principals p) parent n
      ∙ ap (unspent_put (map_each (emptied c p) 0 numbers) parent) more

  pub destroy_laid : (party p : ℕ) → first (destroy_reasons c party p) ≡ 0 → laid (destroy_of c p).counts ≡ cleared_in numbers counts p
  unfolding destroy_of cleared_in with_principal
  destroy_laid party p e =
      laid_cleared (leads_up c p) 0 c.counts (whole v c formed) ∙ ap (map_each (λ i n. emptied c p (i / 256) n) 0) counts_same

  -- 22's test.
  any_below : (page : ℕ) → page < 256 → (n : ℕ) → n ≤ 32 → any_above page (take n c.counts) ≡ any_counts n counts page
  unfolding any_above any_counts counts_of
  any_below page h zero k = refl
  any_below page h (suc n) k =
      ap (any_above page) (take-suc c.counts n [] (omega (arith, k, (facts v c formed).of_counts)))
      ∙ any_snoc page (take n c.counts) (counts_of c n)
      ∙ ap₂ (λ b m. b || ltb 0 m) (any_below page h n (omega arith)) (count_at n page (omega arith) h)

  pub claimed_in_lem : (page : ℕ) → page < 256 → claimed c page ≡ any_counts 32 counts page
  claimed_in_lem page h =
      ap (any_above page) (sym (take_all 32 c.counts (omega (arith, (facts v c formed).of_counts)))) ∙ any_below page h 32 (omega arith)

  -- How many claim a page.
  pub claimants_in_lem : (page : ℕ) → page < 256 → claimants c page ≡ claimants_in counts page
  unfolding claimants
  claimants_in_lem page h = sum_same 32 (λ p. one (count_of c p page)) (λ p. one (count_in counts p page)) (λ p k. ap one (count_at p page k h))
