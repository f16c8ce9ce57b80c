-- A release undoes a claim, a claim a release and a destroy a create; each is granted to the party that the other was. Assumes nothing.
use Prim.Native.Nat.{ℕ, ◌+◌, ◌-◌, ◌<◌}
use native.Mathlib.Omega.{arith}
use mathlib.Core.Bool.{Bool, true, false, not, ◌&&◌}
use mathlib.Core.List.{[]}
use mathlib.Core.Path.{◌≡◌, refl, sym, ap, subst, ◌∙◌}
use lib.ListN.{length}
use lib.Dec.{eqb}
use borrow.Author.Tests.{eqb-true, eqb-false, eq-eqb, ne_eqb}
use Rattle.capabilities.specs.Lists.{pick}
use Rattle.capabilities.specs.Refusals.{first}
use Rattle.capabilities.proofs.Choice.{pick_yes, pick_no, both}
use Rattle.claims.specs.Claims.{Claims, nobody, principal_at, in_being, holds, parent_of, unspent, counts_of, count_of, limit_of, leaving}
use Rattle.claims.specs.Tree.{leads_up}
use Rattle.claims.specs.Operations.{create_reasons, create_of, claim_reasons, claim_of, release_reasons, release_of, destroy_reasons, returned, destroy_of}
use Rattle.claims.specs.Sound.{claims_sound}
use Rattle.claims.proofs.Facts.{facts}
use Rattle.claims.proofs.Sums.{sum_one, sum_most}
use Rattle.claims.proofs.Counting.{one_none, one_some}
use Rattle.claims.proofs.Principals.{being_below, nobody_at, none_at, root_being, parent_being}
use Rattle.claims.proofs.Entries.{same_claims}
use Rattle.claims.proofs.Descent.{leads_itself}
use Rattle.claims.proofs.Unspent.{ButUnspent, but_parent, but_holds}
use Rattle.claims.proofs.Balanced.{Change, change_tree, change_unspent, change_placed, change_within, change_undone}
use Rattle.claims.proofs.Claimable.{claimable, claim_free, releasable, release_free}
use Rattle.claims.proofs.KeptCounts.{claiming, releasing, claim_granted, claim_counts, release_granted, release_counts}
use Rattle.claims.proofs.Created.{Creates, creates, parent_in, not_child, made_principals, made_counts}
use Rattle.claims.proofs.Created.{child_at, parent_at, other_at, other_counts, made_but, child_limit}
use Rattle.claims.proofs.Destroyed.{destroyed_principals, destroyed_counts_length, counts_after, elsewhere, parent_after}

module _ (v : ℕ) (c : Claims) (s : claims_sound v c ≡ true) (party p page : ℕ) (k : page < 256) where
  module _ (r : first (claim_reasons c party p page) ≡ 0) where
    abbrev up : Claims
    up = claim_of c p page

    raised : Change c p page (count_of c p page + 1) up
    raised = claim_granted v c s party p page k r

    pub claim_then_release : first (release_reasons up party p page) ≡ 0
    claim_then_release = release_free up party p page (record {
      held = but_holds c up p (change_tree c p page (count_of c p page + 1) up raised p) party ∙ (claimable c party p page r).held;
      some = let n = claim_counts v c s party p page k r in omega (arith, n);
    })

    pub claim_release : release_of up p page ≡ c
    claim_release =
        let n = claim_counts v c s party p page k r in
        change_undone c p page (count_of c p page + 1) up raised (release_of up p page) (count_of up p page - 1) (omega (arith, n))
        (releasing up party p page (change_placed c p page (count_of c p page + 1) up raised) (change_within c p page (count_of c p page + 1) up raised)
        (releasable up party p page claim_then_release))

  module _ (r : first (release_reasons c party p page) ≡ 0) (h : count_of c p page < 65536) where
    abbrev down : Claims
    down = release_of c p page

    lowered : Change c p page (count_of c p page - 1) down
    lowered = release_granted v c s party p page r

    pub release_then_claim : first (claim_reasons down party p page) ≡ 0
    release_then_claim = claim_free down party p page (record {
      held = but_holds c down p (change_tree c p page (count_of c p page - 1) down lowered p) party ∙ (releasable c party p page r).held;
      room = returned;
      below = let n = release_counts v c s party p page r in omega (arith, n, h);
    })
      where
        returned : count_of down p page ≡ 0 → 0 < unspent down p
        returned z =
            let n = release_counts v c s party p page r in
            let a = one_some (count_of c p page) (omega (arith, n)) in
            let b = one_none (count_of c p page - 1) (omega (arith, n, z)) in
            let l = lowered.balance in
            let u = change_unspent c p page (count_of c p page - 1) down lowered in
            omega (arith, a, b, l, u)

    pub release_claim : claim_of down p page ≡ c
    release_claim =
        change_undone c p page (count_of c p page - 1) down lowered (claim_of down p page) (count_of down p page + 1) (release_counts v c s party p page r)
        (claiming down party p page (change_placed c p page (count_of c p page - 1) down lowered) (change_within c p page (count_of c p page - 1) down lowered)
        (claimable down party p page release_then_claim))

-- A destroy right after a create undoes it.
module _ (v : ℕ) (c : Claims) (s : claims_sound v c ≡ true)
    (party parent child limit holder : ℕ) (clear : first (create_reasons c party parent child limit) ≡ 0) where
  abbrev made : Claims
  made = create_of c parent child limit holder

  abbrev allowed : Creates c party parent child limit
  allowed = creates c party parent child limit clear

  abbrev undone : Claims
  undone = destroy_of made child

  old : (q : ℕ) → (q ≡ child → ⊥) → ButUnspent c made q
  old = made_but v c s party parent child limit holder clear

  not_old : (q : ℕ) → in_being c q ≡ true → q ≡ child → ⊥
  not_old = not_child v c s party parent child limit holder clear

  above_child : parent_of made child ≡ parent
  above_child = ap (λ x. x.parent) (child_at v c s party parent child limit holder clear)

  -- The child has no descendants yet, since every parent was in being before.
  childless : (q : ℕ) → leads_up made child q ≡ eqb q child
  childless q =
      leads_itself made child (λ r d e. not_old (parent_of c r) (parent_being v c s r) (sym (but_parent c made r (old r d)) ∙ e)) 31 q

  childless_other : (q : ℕ) → (q ≡ child → ⊥) → leads_up made child q ≡ false
  childless_other q d = childless q ∙ ne_eqb q child d

  parent_apart : parent ≡ child → ⊥
  parent_apart = not_old parent (parent_in v c s party parent child limit holder clear)

  returns_limit : returned made child ≡ limit
  unfolding returned
  returns_limit =
      let below : ℕ → ℕ = λ q. pick (leads_up made child q) (limit_of made q) 0 in
      let a = sum_one 32 child below (λ q. 0) allowed.numbered (λ q h d. pick_no (leads_up made child q) (limit_of made q) 0 (childless_other q d)) in
      let b = pick_yes (leads_up made child child) (limit_of made child) 0 (childless child ∙ eq-eqb child child refl) in
      omega (arith, a, b, sum_most 0 (λ q. 0) (λ q. omega arith) 32, child_limit v c s party parent child limit holder clear)

  parent_back : principal_at undone parent ≡ principal_at c parent
  parent_back =
      let h = being_below v c s parent (parent_in v c s party parent child limit holder clear) in
      let l = made_principals v c s party parent child limit holder clear in
      let restored : unspent c parent - limit + returned made child ≡ unspent c parent = omega (arith, allowed.paid, returns_limit) in
      let a : parent_of made child < length made.principals = omega (arith, h, l, above_child) in
      let b = ap (λ x. leads_up made child x) above_child ∙ childless_other parent parent_apart in
      subst (λ x. principal_at undone x ≡ leaving (principal_at made x) (unspent made x + returned made child)) above_child (parent_after made child a b)
      ∙ ap (λ y. leaving y (y.unspent + returned made child)) (parent_at v c s party parent child limit holder clear)
      ∙ ap (leaving (principal_at c parent)) restored

  principal_back : (q : ℕ) → principal_at undone q ≡ principal_at c q
  principal_back q = go (eqb q parent) refl (eqb q child) refl
    where
      apart : eqb q parent ≡ false → q ≡ parent_of made child → ⊥
      apart e i = eqb-false q parent e (i ∙ above_child)

      go : (b : Bool) → eqb q parent ≡ b → (d : Bool) → eqb q child ≡ d → principal_at undone q ≡ principal_at c q
      go true e d f = subst (λ x. principal_at undone x ≡ principal_at c x) (sym (eqb-true q parent e)) parent_back
      go false e true f =
          elsewhere made child q (apart e) ∙ pick_yes (leads_up made child q) nobody (principal_at made q) (childless q ∙ f)
          ∙ sym (nobody_at v c s q (ap (λ x. in_being c x) (eqb-true q child f) ∙ allowed.free))
      go false e false f =
          elsewhere made child q (apart e) ∙ pick_no (leads_up made child q) nobody (principal_at made q) (childless q ∙ f)
          ∙ other_at v c s party parent child limit holder clear q (eqb-false q child f) (eqb-false q parent e)

  counts_back : (q : ℕ) → counts_of undone q ≡ counts_of c q
  counts_back q = counts_after made child q ∙ go (eqb q child) refl
    where
      go : (b : Bool) → eqb q child ≡ b → pick (leads_up made child q) [] (counts_of made q) ≡ counts_of c q
      go true e =
          pick_yes (leads_up made child q) [] (counts_of made q) (childless q ∙ e)
          ∙ sym (none_at v c s q (ap (λ x. in_being c x) (eqb-true q child e) ∙ allowed.free))
      go false e =
          pick_no (leads_up made child q) [] (counts_of made q) (childless q ∙ e)
          ∙ other_counts v c s party parent child limit holder clear q (eqb-false q child e)

  pub create_destroy : destroy_of (create_of c parent child limit holder) child ≡ c
  create_destroy =
      same_claims undone c
      (destroyed_principals made child ∙ made_principals v c s party parent child limit holder clear ∙ sym (facts v c s).of_principals)
      (destroyed_counts_length made child ∙ made_counts v c s party parent child limit holder clear ∙ sym (facts v c s).of_counts)
      (λ q h. principal_back q) (λ q h. counts_back q)

  parent_held : holds made party (parent_of made child) ≡ true
  parent_held =
      ap (λ q. holds made party q) above_child
      ∙ but_holds c made parent (old parent parent_apart) party ∙ allowed.held

  pub create_then_destroy : first (destroy_reasons (create_of c parent child limit holder) party child) ≡ 0
  unfolding destroy_reasons first
  create_then_destroy =
      let rest = not (eqb child 0) && holds made party (parent_of made child) in
      let being = ap (λ x. x.being) (child_at v c s party parent child limit holder clear) in
      let under = ap not (ne_eqb child 0 (λ i. not_old 0 (root_being v c s) (sym i))) in
      pick_no (not (in_being made child && rest)) 20 0
      (ap not (both (in_being made child) rest being (both (not (eqb child 0)) (holds made party (parent_of made child)) under parent_held)))
