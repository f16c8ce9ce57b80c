-- A create that is not refused: the child and its parent have new entries, all others are as before, and claims stay well formed. Assumes nothing.
use Prim.Native.Nat.{ℕ, suc, ◌+◌, ◌-◌, ◌<◌, ◌≤◌}
use native.Mathlib.Omega.{arith}
use mathlib.Core.Bool.{true, false, not, ◌||◌}
use mathlib.Core.List.{[]}
use mathlib.Core.Path.{◌≡◌, refl, sym, ap, subst, ◌∙◌}
use lib.ListN.{length, get_or, replicate, length-replicate}
use lib.Dec.{leb, ltb, eqb}
use borrow.Author.Tests.{eq-eqb, ne_eqb, leb-false, ltb-false, not-false}
use Rattle.capabilities.specs.Lists.{pick}
use Rattle.capabilities.specs.Refusals.{first}
use Rattle.capabilities.proofs.Choice.{pick_yes, pick_no, or_false}
use Rattle.capabilities.proofs.Lists.{same_everywhere}
use Rattle.claims.specs.declared.Principal.{Principal}
use Rattle.claims.specs.Claims.{Claims, principal, nobody, principal_at, in_being, holds, parent_of, unspent, counts_of, count_of, above, limit_of, with_principal, with_counts, leaving, with_unspent}
use Rattle.claims.specs.Tree.{leads_up}
use Rattle.claims.specs.Operations.{create_reasons, create_of}
use Rattle.claims.specs.Sound.{principal_sound, counts_sound, total, claims_sound}
use Rattle.claims.proofs.Facts.{facts, sound}
use Rattle.claims.proofs.Sums.{sum_one}
use Rattle.claims.proofs.Counting.{above_zeros, above_past}
use Rattle.claims.proofs.Climbing.{climb, climb_keeps, within}
use Rattle.claims.proofs.Principals.{held_being, apart, being_at, being_sound, being_below, nobody_at, none_at, uncounted, counted_sound, root_being, parent_being}
use Rattle.claims.proofs.Entries.{put_same, put_other, put_counts, put_length, put_counts_length, one_or_other, limit_by}
use Rattle.claims.proofs.Entries.{counted_same, counted_other, counted_principals, counted_length, counted_principals_length}
use Rattle.claims.proofs.Unspent.{ButUnspent, but_unspent, but_being, but_parent, but_root, but_counts, still_leads, still_sound}
use Rattle.claims.proofs.Descent.{ancestor, within_ancestor, ancestor_within}
use Rattle.claims.proofs.Claimable.{two_clear}

-- What no refusal says.
pub record Creates (c : Claims) (party parent child limit : ℕ) : Type 0 where
  pub held : holds c party parent ≡ true
  pub free : in_being c child ≡ false
  pub numbered : child < 32
  pub paid : limit ≤ unspent c parent

pub creates : (c : Claims) (party parent child limit : ℕ) → first (create_reasons c party parent child limit) ≡ 0 → Creates c party parent child limit
unfolding create_reasons
creates c party parent child limit e =
    let taken = in_being c child || leb 32 child in
    let short = ltb (unspent c parent) limit in
    let a = two_clear (not (holds c party parent) || taken) short e in
    let d = or_false (not (holds c party parent)) taken a.0 in
    let f = or_false (in_being c child) (leb 32 child) d.1 in
    record {
      held = not-false (holds c party parent) d.0;
      free = f.0;
      numbered = leb-false 32 child f.1;
      paid = ltb-false (unspent c parent) limit a.1;
    }

-- The entries afterwards.
module _ (v : ℕ) (c : Claims) (s : claims_sound v c ≡ true)
    (party parent child limit holder : ℕ) (clear : first (create_reasons c party parent child limit) ≡ 0) where
  abbrev pub made : Claims
  made = create_of c parent child limit holder

  abbrev granted : Creates c party parent child limit
  granted = creates c party parent child limit clear

  pub parent_in : in_being c parent ≡ true
  parent_in = held_being c party parent granted.held

  -- The child is nobody that is in being.
  pub not_child : (q : ℕ) → in_being c q ≡ true → q ≡ child → ⊥
  not_child q e = apart c q child e granted.free

  -- First the parent pays, then the child is put in, then its counts.
  abbrev paid : Claims
  paid = with_unspent c parent (unspent c parent - limit)

  abbrev new : Principal
  new = principal true holder parent limit

  abbrev named : Claims
  named = with_principal paid child new

  made_is : made ≡ with_counts named child (replicate 256 0)
  unfolding create_of
  made_is = refl

  abbrev poorer : Principal
  poorer = leaving (principal_at c parent) (unspent c parent - limit)

  pub made_principals : length made.principals ≡ 32
  made_principals =
      ap (λ d. length d.principals) made_is ∙ counted_principals_length named child (replicate 256 0) ∙ put_length paid child new
      ∙ put_length c parent poorer ∙ (facts v c s).of_principals

  pub made_counts : length made.counts ≡ 32
  made_counts =
      ap (λ d. length d.counts) made_is ∙ counted_length named child (replicate 256 0) ∙ put_counts_length paid child new
      ∙ put_counts_length c parent poorer ∙ (facts v c s).of_counts

  principal_is : (q : ℕ) → principal_at made q ≡ principal_at named q
  principal_is q = ap (λ d. principal_at d q) made_is ∙ counted_principals named child (replicate 256 0) q

  -- The child's entry, the parent's, and all others, which are as before.
  pub child_at : principal_at made child ≡ new
  child_at = principal_is child ∙ put_same paid child new (omega (arith, granted.numbered, put_length c parent poorer, (facts v c s).of_principals))

  pub parent_at : principal_at made parent ≡ leaving (principal_at c parent) (unspent c parent - limit)
  parent_at =
      let h = being_below v c s parent parent_in in
      principal_is parent ∙ put_other paid child new parent (not_child parent parent_in)
      ∙ put_same c parent poorer (omega (arith, h, (facts v c s).of_principals))

  pub other_at : (q : ℕ) → (q ≡ child → ⊥) → (q ≡ parent → ⊥) → principal_at made q ≡ principal_at c q
  other_at q d e = principal_is q ∙ put_other paid child new q d ∙ put_other c parent poorer q e

  pub child_counts : counts_of made child ≡ replicate 256 0
  child_counts =
      ap (λ d. counts_of d child) made_is
      ∙ counted_same named child (replicate 256 0)
      (omega (arith, granted.numbered, put_counts_length paid child new, put_counts_length c parent poorer, (facts v c s).of_counts))

  pub other_counts : (q : ℕ) → (q ≡ child → ⊥) → counts_of made q ≡ counts_of c q
  other_counts q d =
      ap (λ d. counts_of d q) made_is ∙ counted_other named child (replicate 256 0) q d ∙ put_counts paid child new q ∙ put_counts c parent poorer q

  -- No count changes: the child had none.
  pub create_counts : (q k : ℕ) → count_of (create_of c parent child limit holder) q k ≡ count_of c q k
  create_counts q k =
      one_or_other (λ r. count_of made r k ≡ count_of c r k) child
      (ap (λ l. get_or l k 0) child_counts ∙ same_everywhere {A = ℕ} 256 k 0 ∙ sym (uncounted v c s child granted.free k))
      (λ r d. ap (λ l. get_or l k 0) (other_counts r d))
      q

  -- All but the child are as before but for the parent's unspent limit.
  pub made_but : (q : ℕ) → (q ≡ child → ⊥) → ButUnspent c made q
  made_but =
      one_or_other (λ q. (q ≡ child → ⊥) → ButUnspent c made q) parent
      (λ d. but_unspent c made parent (unspent c parent - limit) parent_at)
      (λ q e d. but_unspent c made q (unspent c q) (other_at q d e))

  -- Well formed: what is in being stays so, with the parents that it had.
  abbrev Old : ℕ → Type 0
  Old q = q ≡ child → ⊥

  parent_old : (q : ℕ) → in_being c q ≡ true → Old q → Old (parent_of c q)
  parent_old q b d = not_child (parent_of c q) (parent_being v c s q)

  -- The child's parents are one more than its parent's, but stay below 32.
  parent_below : (q : ℕ) → q < 32 → parent_of made q < 32
  parent_below q h =
      one_or_other (λ r. parent_of made r < 32) child
      (subst (λ x. x < 32) (sym (ap (λ x. x.parent) child_at)) (being_below v c s parent parent_in))
      (λ r d. subst (λ x. x < 32) (sym (but_parent c made r (made_but r d))) (being_below v c s (parent_of c r) (parent_being v c s r)))
      q

  child_leads : leads_up made 0 child ≡ true
  unfolding climb
  child_leads =
      let old = still_leads v c s made Old parent_old made_but parent parent_in (not_child parent parent_in) in
      let m = within_ancestor made 0 31 parent (old ∙ (being_at v c s parent parent_in).reaches) in
      let one : ancestor made (suc m.0) child ≡ 0 = ap (λ x. ancestor made m.0 x.parent) child_at ∙ m.2 in
      let stays : (i : ℕ) → ancestor made i child < 32 = λ i. climb_keeps (λ q. parent_of made q) (λ q. q < 32) parent_below i child granted.numbered in
      let k = within (λ q. parent_of made q) 31 (suc m.0) child stays one in
      ancestor_within made 0 31 k.0 child k.1 k.2

  child_sound : holder < 8 → principal_sound made child (principal_at made child) ≡ true
  child_sound h =
      being_sound made child (ap (λ x. x.being) child_at)
      (record {
        held = subst (λ x. x.holder ≤ 7) (sym child_at) (omega (arith, h));
        under = ap (λ x. in_being made x.parent) child_at ∙ but_being c made parent (made_but parent (not_child parent parent_in)) ∙ parent_in;
        reaches = child_leads;
      })

  principal_sound_lem : holder < 8 → (q : ℕ) → principal_sound made q (principal_at made q) ≡ true
  principal_sound_lem h =
      one_or_other (λ q. principal_sound made q (principal_at made q) ≡ true) child (child_sound h)
      (still_sound v c s made Old parent_old made_but (λ q d f. other_at q d (λ i. apart c parent q parent_in f (sym i))))

  new_counts : counts_sound v made child (counts_of made child) ≡ true
  new_counts =
      ap (counts_sound v made child) child_counts
      ∙ counted_sound v made child (replicate 256 0) (ap (λ x. x.being) child_at) (length-replicate {A = ℕ} 256 0) (above_past v (replicate 256 0) (above_zeros 256))

  counts_sound_lem : (q : ℕ) → q < 32 → counts_sound v made q (counts_of made q) ≡ true
  counts_sound_lem =
      one_or_other (λ q. q < 32 → counts_sound v made q (counts_of made q) ≡ true) child (λ h. new_counts)
      (λ q d h. ap (counts_sound v made q) (other_counts q d) ∙ but_counts c made q (made_but q d) v (counts_of c q) ∙ (facts v c s).counts q h)

  -- What the parent pays the child has.
  pub child_limit : limit_of made child ≡ limit
  child_limit =
      let a = limit_by made child (replicate 256 0) new child_counts child_at in
      omega (arith, a, above_zeros 256)

  no_limit : limit_of c child ≡ 0
  unfolding above
  no_limit = limit_by c child [] nobody (none_at v c s child granted.free) (nobody_at v c s child granted.free)

  parent_limit : limit_of made parent + limit ≡ limit_of c parent
  parent_limit =
      let a = limit_by made parent (counts_of c parent) poorer (other_counts parent (not_child parent parent_in)) parent_at in
      omega (arith, a, granted.paid)

  other_limit : (q : ℕ) → (q ≡ child → ⊥) → (q ≡ parent → ⊥) → limit_of made q ≡ limit_of c q
  other_limit q d e = limit_by made q (counts_of c q) (principal_at c q) (other_counts q d) (other_at q d e)

  -- The limits once the child has its own, and before the parent pays.
  abbrev between : ℕ → ℕ
  between q = pick (eqb q child) limit (limit_of c q)

  paying : (q : ℕ) → q < 32 → (q ≡ parent → ⊥) → limit_of made q ≡ between q
  paying q h =
      one_or_other (λ r. (r ≡ parent → ⊥) → limit_of made r ≡ between r) child
      (λ e. child_limit ∙ sym (pick_yes (eqb child child) limit (limit_of c child) (eq-eqb child child refl)))
      (λ r d e. other_limit r d e ∙ sym (pick_no (eqb r child) limit (limit_of c r) (ne_eqb r child d)))
      q

  total_kept : total made ≡ total c
  total_kept =
      let in_range_lem = being_below v c s parent parent_in in
      let apart = not_child parent parent_in in
      let a = sum_one 32 child between (limit_of c) granted.numbered (λ q h d. pick_no (eqb q child) limit (limit_of c q) (ne_eqb q child d)) in
      let b = sum_one 32 parent (limit_of made) between in_range_lem paying in
      let f = pick_yes (eqb child child) limit (limit_of c child) (eq-eqb child child refl) in
      let g = pick_no (eqb parent child) limit (limit_of c parent) (ne_eqb parent child apart) in
      omega (arith, a, b, f, g, no_limit, parent_limit)

  create_kept : holder < 8 → claims_sound v made ≡ true
  create_kept h =
      sound v made
      (record {
        of_principals = made_principals;
        of_counts = made_counts;
        root = but_root c made 0 (made_but 0 (not_child 0 (root_being v c s))) ∙ (facts v c s).root;
        principals = λ q l. principal_sound_lem h q;
        counts = counts_sound_lem;
        of_limits = total_kept ∙ (facts v c s).of_limits;
      })

pub create_sound :
    (v : ℕ) (c : Claims) → claims_sound v c ≡ true → (party parent child limit holder : ℕ) → holder < 8 → first (create_reasons c party parent child limit) ≡ 0
    → claims_sound v (create_of c parent child limit holder) ≡ true
create_sound v c s party parent child limit holder h clear = create_kept v c s party parent child limit holder clear h
