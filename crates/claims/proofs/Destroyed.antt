-- A destroy that is not refused: it drops the principal and its descendants, the parent gets their limits, and claims stay well formed. Assumes nothing.
use Prim.Native.Nat.{ℕ, ◌+◌, ◌<◌}
use native.Mathlib.Omega.{arith}
use mathlib.Core.Bool.{Bool, true, false, not, ◌&&◌, true≢false, and-true, and-false}
use mathlib.Core.List.{[]}
use mathlib.Core.Path.{◌≡◌, refl, sym, ap, ◌∙◌}
use lib.ListN.{length, get_or}
use lib.Dec.{eqb}
use borrow.Author.Tests.{eqb-false, not-true, not-false}
use Rattle.capabilities.specs.Lists.{pick, map_each}
use Rattle.capabilities.specs.Refusals.{first}
use Rattle.capabilities.proofs.Choice.{pick_yes, pick_no, pick_twice, and_left, and_right, is_false}
use Rattle.capabilities.proofs.Lists.{length_map_each, map_each_at}
use Rattle.capabilities.proofs.Refusals.{first_clear}
use Rattle.claims.specs.declared.Principal.{Principal}
use Rattle.claims.specs.Claims.{Claims, claims, nobody, principal_at, in_being, holds, parent_of, unspent, counts_of, count_of, above, limit_of, leaving, with_unspent}
use Rattle.claims.specs.Tree.{by_parent, leads_up}
use Rattle.claims.specs.Operations.{destroy_reasons, returned, dropped, destroy_of}
use Rattle.claims.specs.Sound.{principal_sound, counts_sound, total, claims_sound}
use Rattle.claims.specs.Promises.{DestroyDrops, DestroyReturns, DestroyOthers, DestroyAllCounts}
use Rattle.claims.proofs.Facts.{facts, sound}
use Rattle.claims.proofs.Sums.{sum_one, sum_parts}
use Rattle.claims.proofs.Principals.{apart, being_below, nobody_sound, none_sound, parent_being}
use Rattle.claims.proofs.Entries.{put_same, put_other, put_counts, put_length, put_counts_length, one_or_other, limit_by}
use Rattle.claims.proofs.Unspent.{ButUnspent, but_unspent, but_being, but_root, but_counts, still_sound}
use Rattle.claims.proofs.Descent.{leads_back, leads_up_lem, parent_not_below, root_not_below}

-- What no refusal says.
pub record Destroys (c : Claims) (party p : ℕ) : Type 0 where
  pub being : in_being c p ≡ true
  pub under : p ≡ 0 → ⊥
  pub held : holds c party (parent_of c p) ≡ true

pub destroys : (c : Claims) (party p : ℕ) → first (destroy_reasons c party p) ≡ 0 → Destroys c party p
unfolding destroy_reasons
destroys c party p e =
    let rest = not (eqb p 0) && holds c party (parent_of c p) in
    let a = first_clear 20 (not (in_being c p && rest)) [] (λ z. omega arith) e in
    let b = not-false (in_being c p && rest) a.0 in
    let d = and_right (in_being c p) rest b in
    record {
      being = and_left (in_being c p) rest b;
      under = eqb-false p 0 (not-true (eqb p 0) (and_left (not (eqb p 0)) (holds c party (parent_of c p)) d));
      held = and_right (not (eqb p 0)) (holds c party (parent_of c p)) d;
    }

-- The entries afterwards, wherever the parent is a principal's number and not below.
module _ (c : Claims) (p : ℕ) where
  abbrev pub left : Claims
  left = claims (map_each (dropped c p nobody) 0 c.principals) (map_each (dropped c p []) 0 c.counts)

  abbrev sum_up : ℕ
  sum_up = unspent c (parent_of c p) + returned c p

  left_at : (q : ℕ) → principal_at left q ≡ pick (leads_up c p q) nobody (principal_at c q)
  unfolding principal_at
  left_at q = map_each_at (dropped c p nobody) nobody nobody (λ i. pick_twice (leads_up c p i) nobody) c.principals q

  left_counts : (q : ℕ) → counts_of left q ≡ pick (leads_up c p q) [] (counts_of c q)
  unfolding counts_of
  left_counts q = map_each_at (dropped c p []) [] [] (λ i. pick_twice (leads_up c p i) []) c.counts q

  abbrev richer : Principal
  richer = leaving (principal_at left (parent_of c p)) sum_up

  destroyed_is : destroy_of c p ≡ with_unspent left (parent_of c p) sum_up
  unfolding destroy_of
  destroyed_is = refl

  pub destroyed_principals : length (destroy_of c p).principals ≡ length c.principals
  destroyed_principals =
      ap (λ d. length d.principals) destroyed_is ∙ put_length left (parent_of c p) richer ∙ length_map_each (dropped c p nobody) 0 c.principals

  pub destroyed_counts_length : length (destroy_of c p).counts ≡ length c.counts
  destroyed_counts_length =
      ap (λ d. length d.counts) destroyed_is ∙ put_counts_length left (parent_of c p) richer ∙ length_map_each (dropped c p []) 0 c.counts

  pub counts_after : (q : ℕ) → counts_of (destroy_of c p) q ≡ pick (leads_up c p q) [] (counts_of c q)
  counts_after q = ap (λ d. counts_of d q) destroyed_is ∙ put_counts left (parent_of c p) richer q ∙ left_counts q

  pub elsewhere : (q : ℕ) → (q ≡ parent_of c p → ⊥) → principal_at (destroy_of c p) q ≡ pick (leads_up c p q) nobody (principal_at c q)
  elsewhere q d = ap (λ x. principal_at x q) destroyed_is ∙ put_other left (parent_of c p) richer q d ∙ left_at q

  pub parent_after :
      parent_of c p < length c.principals → leads_up c p (parent_of c p) ≡ false
      → principal_at (destroy_of c p) (parent_of c p) ≡ leaving (principal_at c (parent_of c p)) (unspent c (parent_of c p) + returned c p)
  parent_after h e =
      ap (λ x. principal_at x (parent_of c p)) destroyed_is
      ∙ put_same left (parent_of c p) richer (rw (length_map_each (dropped c p nobody) 0 c.principals) h)
      ∙ ap (λ x. leaving x sum_up) (left_at (parent_of c p) ∙ pick_no (leads_up c p (parent_of c p)) nobody (principal_at c (parent_of c p)) e)

module _ (v : ℕ) (c : Claims) (s : claims_sound v c ≡ true) (party p : ℕ) (clear : first (destroy_reasons c party p) ≡ 0) where
  abbrev after : Claims
  after = destroy_of c p

  abbrev granted : Destroys c party p
  granted = destroys c party p clear

  abbrev parent : ℕ
  parent = parent_of c p

  not_below : leads_up c p parent ≡ false
  not_below = parent_not_below v c s p granted.being granted.under

  in_range_lem : parent < 32
  in_range_lem = being_below v c s parent (parent_being v c s p)

  at_parent : principal_at after parent ≡ leaving (principal_at c parent) (unspent c parent + returned c p)
  at_parent = parent_after c p (omega (arith, in_range_lem, (facts v c s).of_principals)) not_below

  -- Every principal but the parent that isn't dropped is as it was, with its counts, and the parent but for its unspent limit.
  others : (q : ℕ) → leads_up c p q ≡ false → (q ≡ parent_of c p → ⊥) → principal_at (destroy_of c p) q ≡ principal_at c q
  others q e d = elsewhere c p q d ∙ pick_no (leads_up c p q) nobody (principal_at c q) e

  all_counts : (q : ℕ) → leads_up c p q ≡ false → counts_of (destroy_of c p) q ≡ counts_of c q
  all_counts q e = counts_after c p q ∙ pick_no (leads_up c p q) [] (counts_of c q) e

  pub destroy_counts : (q k : ℕ) → leads_up c p q ≡ false → count_of (destroy_of c p) q k ≡ count_of c q k
  destroy_counts q k e = ap (λ l. get_or l k 0) (all_counts q e)

  pub destroy_but : (q : ℕ) → leads_up c p q ≡ false → ButUnspent c (destroy_of c p) q
  destroy_but =
      one_or_other (λ q. leads_up c p q ≡ false → ButUnspent c after q) parent
      (λ e. but_unspent c after parent (unspent c parent + returned c p) at_parent)
      (λ q d e. but_unspent c after q (unspent c q) (others q e d))

  -- Those below are dropped, with their claims.
  pub destroy_gone : (q : ℕ) → leads_up c p q ≡ true → principal_at (destroy_of c p) q ≡ nobody
  destroy_gone q e =
      elsewhere c p q (λ i. true≢false (sym e ∙ ap (λ x. leads_up c p x) i ∙ not_below))
      ∙ pick_yes (leads_up c p q) nobody (principal_at c q) e

  pub destroy_none : (q : ℕ) → leads_up c p q ≡ true → counts_of (destroy_of c p) q ≡ []
  destroy_none q e = counts_after c p q ∙ pick_yes (leads_up c p q) [] (counts_of c q) e

  -- Exactly the principal and its descendants are dropped.
  drops : (q : ℕ) → in_being (destroy_of c p) q ≡ (in_being c q && not (leads_up c p q))
  drops q = go (leads_up c p q) refl
    where
      go : (b : Bool) → leads_up c p q ≡ b → in_being after q ≡ (in_being c q && not b)
      go true e = ap (λ x. x.being) (destroy_gone q e) ∙ sym (and-false (in_being c q))
      go false e = but_being c after q (destroy_but q e) ∙ sym (and-true (in_being c q))

  -- The parent gets exactly what they had.
  returns : limit_of (destroy_of c p) (parent_of c p) ≡ limit_of c (parent_of c p) + returned c p
  returns =
      let new = leaving (principal_at c parent) (unspent c parent + returned c p) in
      let a = limit_by after parent (counts_of c parent) new (all_counts parent not_below) at_parent in
      omega (arith, a)

  -- Well formed: nobody that stays has a parent that is dropped.
  stays : (q : ℕ) → in_being c q ≡ true → leads_up c p q ≡ false → leads_up c p (parent_of c q) ≡ false
  stays q b e =
      is_false (leads_up c p (parent_of c q)) (λ t. true≢false (sym (leads_up_lem v c s p q b (by_parent q (leads_back c p (parent_of c q) t))) ∙ e))

  principal_sound_lem : (q : ℕ) → principal_sound after q (principal_at after q) ≡ true
  principal_sound_lem q = go (leads_up c p q) refl
    where
      go : (b : Bool) → leads_up c p q ≡ b → principal_sound after q (principal_at after q) ≡ true
      go true e = nobody_sound after q (principal_at after q) (destroy_gone q e)
      go false e =
          still_sound v c s after (λ r. leads_up c p r ≡ false) stays destroy_but
          (λ r h f. others r h (λ i. apart c parent r (parent_being v c s p) f (sym i)))
          q e

  counts_sound_lem : (q : ℕ) → q < 32 → counts_sound v after q (counts_of after q) ≡ true
  counts_sound_lem q h = go (leads_up c p q) refl
    where
      go : (b : Bool) → leads_up c p q ≡ b → counts_sound v after q (counts_of after q) ≡ true
      go true e = none_sound v after q (counts_of after q) (ap (λ x. x.being) (destroy_gone q e)) (destroy_none q e)
      go false e =
          ap (counts_sound v after q) (all_counts q e) ∙ but_counts c after q (destroy_but q e) v (counts_of c q) ∙ (facts v c s).counts q h

  -- The limits before the parent gets those of the dropped.
  abbrev remaining : ℕ → ℕ
  remaining q = pick (leads_up c p q) 0 (limit_of c q)

  remains : (q : ℕ) → q < 32 → (q ≡ parent → ⊥) → limit_of after q ≡ remaining q
  unfolding above
  remains q h d = go (leads_up c p q) refl
    where
      go : (b : Bool) → leads_up c p q ≡ b → limit_of after q ≡ pick b 0 (limit_of c q)
      go true e = limit_by after q [] nobody (destroy_none q e) (destroy_gone q e)
      go false e = limit_by after q (counts_of c q) (principal_at c q) (all_counts q e) (others q e d)

  total_kept : total after ≡ total c
  unfolding returned
  total_kept =
      let a = sum_one 32 parent (limit_of after) remaining in_range_lem remains in
      let b = sum_parts 32 (λ q. leads_up c p q) (limit_of c) in
      let d = pick_no (leads_up c p parent) 0 (limit_of c parent) not_below in
      omega (arith, a, b, d, returns)

  pub destroy_sound : claims_sound v (destroy_of c p) ≡ true
  destroy_sound =
      sound v after
      (record {
        of_principals = destroyed_principals c p ∙ (facts v c s).of_principals;
        of_counts = destroyed_counts_length c p ∙ (facts v c s).of_counts;
        root = but_root c after 0 (destroy_but 0 (root_not_below v c s p granted.under)) ∙ (facts v c s).root;
        principals = λ q h. principal_sound_lem q;
        counts = counts_sound_lem;
        of_limits = total_kept ∙ (facts v c s).of_limits;
      })

pub destroy_drops : DestroyDrops
destroy_drops v c s party p clear = drops v c s party p clear

pub destroy_returns : DestroyReturns
destroy_returns v c s party p clear = returns v c s party p clear

pub destroy_others : DestroyOthers
destroy_others v c s party p clear = others v c s party p clear

pub destroy_all_counts : DestroyAllCounts
destroy_all_counts v c s party p clear = all_counts v c s party p clear
