-- The test of well-formedness says what the rules say: entry by entry, then the whole. Assumes nothing.
use Prim.Native.Nat.{ℕ, ◌+◌, ◌<◌}
use native.Mathlib.Omega.{arith}
use mathlib.Core.Bool.{Bool, true, false, not, ◌&&◌, ◌||◌, and-true, and_comm, and_assoc}
use mathlib.Core.List.{List, []}
use mathlib.Core.Path.{◌≡◌, refl, sym, ap, ◌∙◌}
use lib.ListN.{length, get_or, take, drop, length-map}
use lib.Dec.{eqb, leb}
use borrow.Author.Tests.{eqb-true, eq-eqb, not-true}
use Rattle.capabilities.specs.Lists.{pick, each}
use Rattle.capabilities.proofs.Choice.{both, never}
use Rattle.capabilities.proofs.Lists.{each_more, each_and, each_map, each_map_each, length_map_each}
use Rattle.claims.specs.declared.Principal.{Principal}
use Rattle.claims.specs.Claims.{Claims, principal_at, in_being, above, limit_of, sum}
use Rattle.claims.specs.Tree.{leads_up}
use Rattle.claims.specs.Sound.{is_nobody, principal_sound, root_sound, counts_sound, total, sized_claims, claims_sound}
use Rattle.claims.specs.Numbers.{principal_from, written, window, counts_read, claims_in, unused_zero, sized_in, kept_in, sound_in}
use Rattle.claims.specs.Lent.{principal_in}
use Rattle.claims.proofs.Sums.{sum_turn}
use Rattle.claims.proofs.Counting.{above_past}
use Rattle.claims.proofs.Principals.{being_test, nobody_test}
use Rattle.claims.proofs.Laid.{length_window}
use Rattle.claims.proofs.Reading.{of_numbers, of_counts, principal_read, limit_read}

-- Where the numbers or the counts are not as many.
pub unsized : (v : ℕ) (numbers counts : List ℕ) → not (sized_in numbers counts) ≡ true → false ≡ sound_in v numbers counts
unfolding sound_in
unsized v numbers counts e =
    sym (ap (λ b. b && (kept_in numbers counts && claims_sound v (claims_in numbers counts))) (not-true (sized_in numbers counts) e))

-- Tests in another order.
regroup : (x r p c t : Bool) → x && ((r && p) && (c && t)) ≡ ((r && (x && (p && c))) && t)
regroup x false p c t = never x
regroup false true p c t = refl
regroup true true false c t = refl
regroup true true true c t = refl

-- The two tests of the counts, of a principal in being and of another.
entry_cases :
    (v : ℕ) (w : List ℕ) (a b c s : Bool) → c ≡ b → length w ≡ 256
    → ((a && ((b || eqb (above w) 0) && eqb (above (drop v w)) 0)) && s)
    ≡ ((a && (b || eqb (above w) 0)) && (s && pick c (eqb (length (pick b w [])) 256 && eqb (above (drop v (pick b w []))) 0) (eqb (length (pick b w [])) 0)))
entry_cases v w false b c s e h = refl
entry_cases v w true true c s e h = rw (e, eq-eqb (length w) 256 h) (and_comm (eqb (above (drop v w)) 0) s)
entry_cases v w true false c s e h = rw e (go (eqb (above w) 0) refl)
  where
    go : (m : Bool) → eqb (above w) 0 ≡ m → ((m && eqb (above (drop v w)) 0) && s) ≡ (m && (s && true))
    go false q = refl
    go true q = rw (eq-eqb (above (drop v w)) 0 (above_past v w (eqb-true (above w) 0 q))) (sym (and-true s))

module _ (v : ℕ) (numbers counts : List ℕ) where
  abbrev all : Claims
  all = claims_in numbers counts

  -- All that is asked of one principal, its number and its counts.
  abbrev pub tested : ℕ → ℕ → Bool
  tested p n = (written p n && unused_zero counts p n) && (principal_sound all p (principal_from n) && counts_sound v all p (counts_read counts p n))

  each_tested :
      (kept_in numbers counts && (each (principal_sound all) 0 all.principals && each (counts_sound v all) 0 all.counts)) ≡ each tested 0 numbers
  each_tested =
      ap (λ b. b && (each (principal_sound all) 0 all.principals && each (counts_sound v all) 0 all.counts)) (each_and written (unused_zero counts) 0 numbers)
      ∙ ap (λ b. each (λ p n. written p n && unused_zero counts p n) 0 numbers && b)
      (ap (λ b. b && each (counts_sound v all) 0 all.counts) (each_map (principal_sound all) principal_from 0 numbers)
      ∙ ap (λ b. each (λ p n. principal_sound all p (principal_from n)) 0 numbers && b) (each_map_each (counts_sound v all) (counts_read counts) 0 numbers)
      ∙ each_and (λ p n. principal_sound all p (principal_from n)) (λ p n. counts_sound v all p (counts_read counts p n)) 0 numbers)
      ∙ each_and (λ p n. written p n && unused_zero counts p n) (λ p n. principal_sound all p (principal_from n) && counts_sound v all p (counts_read counts p n)) 0 numbers

  module _ (sized : sized_in numbers counts ≡ true) where
    -- The whole test.
    pub sound_tested : sound_in v numbers counts ≡ ((root_sound (principal_in numbers 0) && each tested 0 numbers) && eqb (total all) 8192)
    unfolding sound_in claims_sound
    sound_tested =
        let P = each (principal_sound all) 0 all.principals in
        let C = each (counts_sound v all) 0 all.counts in
        let T = eqb (total all) 8192 in
        let kept = kept_in numbers counts in
        let size : sized_claims all ≡ true =
        both (eqb (length all.principals) 32) (eqb (length all.counts) 32)
        (eq-eqb (length all.principals) 32 (length-map numbers principal_from ∙ of_numbers numbers counts sized))
        (eq-eqb (length all.counts) 32 (length_map_each (counts_read counts) 0 numbers ∙ of_numbers numbers counts sized)) in
        ap (λ b. b && (kept && (((sized_claims all && root_sound (principal_at all 0)) && P) && (C && T)))) sized
        ∙ ap (λ b. kept && (((b && root_sound (principal_at all 0)) && P) && (C && T))) size
        ∙ ap (λ (q : Principal). kept && ((root_sound q && P) && (C && T))) (principal_read numbers counts 0)
        ∙ regroup kept (root_sound (principal_in numbers 0)) P C T
        ∙ ap (λ b. (root_sound (principal_in numbers 0) && b) && T) each_tested

    -- One turn of the test: one principal's number n, and its counts, which are the list w.
    module _ (p n spent : ℕ) (w : List ℕ) (h : p < 32) (at : n ≡ get_or numbers p 0) (is : w ≡ window counts p) (all_of : spent ≡ above w) where
      pub sound_turn :
          (high : ℕ) (was root entry sound : Bool) → high ≡ above (drop v w)
          → entry ≡ (written 0 n && (((principal_from n).being || eqb spent 0) && eqb high 0)) → sound ≡ principal_sound all p (principal_in numbers p)
          → was ≡ (root && each tested 0 (take p numbers)) → (was && (entry && sound)) ≡ (root && each tested 0 (take (p + 1) numbers))
      unfolding written unused_zero counts_sound counts_read
      sound_turn high was root entry sound e en so q =
          let a = written p n in
          let b = (principal_from n).being in
          let u = window counts p in
          let S = principal_sound all p (principal_from n) in
          let long : length u ≡ 256 = length_window counts p (omega (arith, h, of_counts numbers counts sized)) in
          let read : in_being all p ≡ b = ap (λ (r : Principal). r.being) (principal_read numbers counts p ∙ ap principal_from (sym at)) in
          let here : (entry && sound) ≡ tested p n =
          ap (λ x. x && sound) en ∙ ap (λ x. (a && ((b || eqb spent 0) && eqb high 0)) && x) (so ∙ ap (λ (k : ℕ). principal_sound all p (principal_from k)) (sym at))
          ∙ ap (λ (k : ℕ). (a && ((b || eqb k 0) && eqb high 0)) && S) (all_of ∙ ap above is)
          ∙ ap (λ (k : ℕ). (a && ((b || eqb (above u) 0) && eqb k 0)) && S) (e ∙ ap (λ (l : List ℕ). above (drop v l)) is)
          ∙ entry_cases v u a b (in_being all p) S read long in
          ap (λ x. x && (entry && sound)) q ∙ ap (λ x. (root && each tested 0 (take p numbers)) && x) (here ∙ ap (tested p) at)
          ∙ and_assoc root (each tested 0 (take p numbers)) (tested p (get_or numbers p 0))
          ∙ ap (λ x. root && x) (sym (each_more tested numbers p 0 (omega (arith, of_numbers numbers counts sized))))

      pub total_turn : (limit sums : ℕ) → limit ≡ pick (principal_from n).being spent 0 + (principal_from n).unspent → sums ≡ sum p (limit_of all) → sums + limit ≡ sum (p + 1) (limit_of all)
      total_turn limit sums e q =
          sum_turn (limit_of all) p sums limit q
          (e ∙ ap (λ (k : ℕ). pick (principal_from n).being k 0 + (principal_from n).unspent) (all_of ∙ ap above is)
          ∙ ap (λ (k : ℕ). pick (principal_from k).being (above (window counts p)) 0 + (principal_from k).unspent) at ∙ sym (limit_read numbers counts p))

-- One principal in the tree: in being, and not.
module _ (numbers counts : List ℕ) (p : ℕ) (q : Principal) (e : q ≡ principal_in numbers p) where
  abbrev every : Claims
  every = claims_in numbers counts

  pub being_tested :
      (parent : Principal) (up : Bool) → q.being ≡ true → parent ≡ principal_in numbers q.parent → up ≡ leads_up every 0 p
      → ((leb q.holder 7 && parent.being) && up) ≡ principal_sound every p (principal_in numbers p)
  being_tested parent up b f u =
      ap (λ (r : Principal). (leb q.holder 7 && r.being) && up) (f ∙ sym (principal_read numbers counts q.parent))
      ∙ ap (λ x. (leb q.holder 7 && in_being every q.parent) && x) u
      ∙ sym (being_test every p q b) ∙ ap (principal_sound every p) e

  pub nobody_tested : (none : Bool) → q.being ≡ false → none ≡ is_nobody q → none ≡ principal_sound every p (principal_in numbers p)
  nobody_tested none b n = n ∙ sym (nobody_test every p q b) ∙ ap (principal_sound every p) e
