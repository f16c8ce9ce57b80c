-- What each kind of call makes of the claims, and so who can move a principal's count of a page, and who can lower it. Assumes nothing.
use Prim.Native.Nat.{ℕ, ◌+◌, ◌<◌, ◌≤◌}
use native.Mathlib.Omega.{arith}
use mathlib.Core.Bool.{Bool, true, false, ◌||◌}
use mathlib.Core.List.{List, ◌∷◌}
use mathlib.Core.Path.{◌≡◌, refl, sym, ap, subst, ◌∙◌}
use borrow.Author.Tests.{eqb-true, eqb-false, leb-false}
use lib.Dec.{eqb}
use lib.ListN.{get_or}
use Rattle.capabilities.specs.Refusals.{Reason, reason, first}
use Rattle.capabilities.proofs.Refusals.{first_clear}
use Rattle.pages.specs.declared.VirtualPage.{VirtualPage}
use Rattle.pages.specs.Mapping.{no_page}
use Rattle.claims.specs.Claims.{Claims, count_of}
use Rattle.claims.specs.Tree.{leads_up}
use Rattle.claims.specs.Operations.{create_reasons, create_of, claim_reasons, claim_of, release_reasons, release_of, destroy_reasons, destroy_of}
use Rattle.claims.specs.Sound.{claims_sound}
use Rattle.claims.proofs.Created.{create_counts}
use Rattle.claims.proofs.Claimable.{claimable, releasable}
use Rattle.claims.proofs.KeptCounts.{claim_counts, claim_others, release_counts, release_others}
use Rattle.claims.proofs.Destroyed.{destroys, destroy_counts, destroy_none}
use Rattle.claims.proofs.Descent.{leads_back}
use Rattle.calls.specs.declared.Call.{Call}
use Rattle.calls.specs.declared.Call.TheVariants.{Take, Split, Merge, Give, Revoke, Sweep, Collect, Map, Unmap, Zero, Load, Store, Narrow, Number, Grant, Receive, TakeMasked, Create, Claim, Release, Destroy}
use Rattle.words.specs.WordReasons.{unnamed}
use Rattle.machine.specs.State.{State}
use Rattle.machine.specs.Effects.{effect}
use Rattle.machine.specs.Reasons.{reasons}
use Rattle.machine.specs.Step.{reasons_on, effect_on}
use Rattle.machine.proofs.ClaimsKept.{revoke_claims, collect_claims}
use Rattle.histories.specs.Sharing.{LetsGo, by_release, by_destroy, OtherLetsGo, other_releases, other_destroyed}
use Rattle.histories.specs.Holders.{MovesCount, counting, letting_go}

-- What a granted call makes of the claims, with what it has found.
pub data Touches (s : State) : Call → Claims → Type 0 where
  kept : {c : Call} → Touches s c s.core.claims
  created : (party parent child limit holder : ℕ) → first (create_reasons s.core.claims party parent child limit) ≡ 0
      → Touches s (Create party parent child limit holder) (create_of s.core.claims parent child limit holder)
  counted : (party p : ℕ) (page : VirtualPage) → page.0 < s.core.pages.v → first (claim_reasons s.core.claims party p page.0) ≡ 0
      → Touches s (Claim party p page) (claim_of s.core.claims p page.0)
  released : (party p : ℕ) (page : VirtualPage) → first (release_reasons s.core.claims party p page.0) ≡ 0
      → Touches s (Release party p page) (release_of s.core.claims p page.0)
  destroyed : (party p : ℕ) → first (destroy_reasons s.core.claims party p) ≡ 0 → Touches s (Destroy party p) (destroy_of s.core.claims p)

-- Neither 4 nor 12 applies.
after_page : (a b : Bool) (rest : List Reason) → first (reason 4 a ∷ reason 12 b ∷ rest) ≡ 0 → (b ≡ false) × (first rest ≡ 0)
after_page a b rest z = first_clear 12 b rest (λ x. omega arith) (first_clear 4 a (reason 12 b ∷ rest) (λ x. omega arith) z).1

pub touches : (s : State) (c : Call) (cells tags : List ℕ) → first (reasons_on s c cells tags) ≡ 0 → Touches s c (effect_on s c cells tags).core.claims
unfolding reasons effect
touches s (Take p base reg) cells tags z = kept
touches s (Split p base len) cells tags z = kept
touches s (Merge p base) cells tags z = kept
touches s (Give p base to) cells tags z = kept
touches s (Revoke p base) cells tags z = subst (Touches s (Revoke p base)) (sym (revoke_claims s.core p base)) kept
touches s (Sweep p n) cells tags z = kept
touches s (Collect p) cells tags z = subst (Touches s (Collect p)) (sym (collect_claims s.core)) kept
touches s (Map p page frame) cells tags z = kept
touches s (Unmap p page) cells tags z = kept
touches s (Zero p frame) cells tags z = kept
touches s (Load p a off d) cells tags z = kept
touches s (Store p a off x) cells tags z = kept
touches s (Narrow p x off len mask d) cells tags z = kept
touches s (Number p d value) cells tags z = kept
touches s (Grant p x to) cells tags z = kept
touches s (Receive p d) cells tags z = kept
touches s (TakeMasked p base reg mask) cells tags z = kept
touches s (Create p parent child limit holder) cells tags z =
    let rest = create_reasons s.core.claims p parent child limit in
    created p parent child limit holder (first_clear 4 (unnamed p || unnamed holder) rest (λ x. omega arith) z).1
touches s (Claim p q page) cells tags z =
    let (low, clear) = after_page (unnamed p) (no_page s.core.pages page) (claim_reasons s.core.claims p q page.0) z in
    counted p q page (leb-false s.core.pages.v page.0 low) clear
touches s (Release p q page) cells tags z =
    released p q page (after_page (unnamed p) (no_page s.core.pages page) (release_reasons s.core.claims p q page.0) z).1
touches s (Destroy p q) cells tags z = destroyed p q (first_clear 4 (unnamed p) (destroy_reasons s.core.claims p q) (λ x. omega arith) z).1

-- Two numbers are two others, or not both are.
pub same_place : (q p k n : ℕ) (P : Type 0) → (q ≡ p → k ≡ n → P) → (((q ≡ p) × (k ≡ n) → ⊥) → P) → P
same_place q p k n P here else = go (eqb q p) refl (eqb k n) refl
  where
    go : (a : Bool) → eqb q p ≡ a → (b : Bool) → eqb k n ≡ b → P
    go true e true f = here (eqb-true q p e) (eqb-true k n f)
    go true e false f = else (λ z. eqb-false k n f z.1)
    go false e b f = else (λ z. eqb-false q p e z.0)

module _ (s : State) (v : ℕ) (few : s.core.pages.v ≤ 256) (ok : claims_sound v s.core.claims ≡ true) (q k : ℕ) where
  abbrev c : Claims
  c = s.core.claims

  -- A claim leaves no count lower, and none above 65,535; a release lowers one.
  claim_rises : (party p n : ℕ) → n < s.core.pages.v → first (claim_reasons c party p n) ≡ 0
      → (count_of c q k ≤ count_of (claim_of c p n) q k) × (count_of c q k ≤ 65535 → count_of (claim_of c p n) q k ≤ 65535)
  claim_rises party p n low z =
      same_place q p k n ((count_of c q k ≤ count_of (claim_of c p n) q k) × (count_of c q k ≤ 65535 → count_of (claim_of c p n) q k ≤ 65535))
      (λ e f.
      let up : count_of (claim_of c p n) q k ≡ count_of c q k + 1 =
      ap (λ j. count_of (claim_of c p n) j k) e ∙ ap (λ j. count_of (claim_of c p n) p j) f ∙ claim_counts v c ok party p n (omega arith) z
      ∙ ap (λ j. count_of c p j + 1) (sym f) ∙ ap (λ j. count_of c j k + 1) (sym e) in
      let top : count_of c q k < 65535 = subst (λ j. count_of c j k < 65535) (sym e) (subst (λ j. count_of c p j < 65535) (sym f) (claimable c party p n z).below) in
      (omega (arith, up), λ l. omega (arith, up, top)))
      (λ other. let same = claim_others c p n q k other in (omega (arith, same), λ l. omega (arith, same, l)))

  release_falls : (party p n : ℕ) → first (release_reasons c party p n) ≡ 0 → count_of (release_of c p n) q k ≤ count_of c q k
  release_falls party p n z =
      same_place q p k n (count_of (release_of c p n) q k ≤ count_of c q k)
      (λ e f.
      let down = release_counts v c ok party p n z in
      let less : count_of (release_of c p n) p n ≤ count_of c p n = omega (arith, down) in
      subst (λ j. count_of (release_of c p n) j k ≤ count_of c j k) (sym e) (subst (λ j. count_of (release_of c p n) p j ≤ count_of c p j) (sym f) less))
      (λ other. let same = release_others c p n q k other in omega (arith, same))

  destroy_falls : (party p : ℕ) → first (destroy_reasons c party p) ≡ 0 → count_of (destroy_of c p) q k ≤ count_of c q k
  destroy_falls party p z = go (leads_up c p q) refl
    where
      go : (b : Bool) → leads_up c p q ≡ b → count_of (destroy_of c p) q k ≤ count_of c q k
      go true e = let none = ap (λ l. get_or l k 0) (destroy_none v c ok party p z q e) in omega (arith, none)
      go false e = let same = destroy_counts v c ok party p z q k e in omega (arith, same)

  -- Who has moved the count where it is another.
  pub moves_count : {call : Call} {x : Claims} → Touches s call x → (count_of x q k ≡ count_of c q k → ⊥) → MovesCount c q k call
  moves_count kept moved = absurd (moved refl)
  moves_count (created party parent child limit holder z) moved = absurd (moved (create_counts v c ok party parent child limit holder z q k))
  moves_count (counted party p page low z) moved =
      same_place q p k page.0 (MovesCount c q k (Claim party p page))
      (λ e f.
      let held = (claimable c party p page.0 z).held in
      subst (λ j. MovesCount c j k (Claim party p page)) (sym e) (subst (λ j. MovesCount c p j (Claim party p page)) (sym f) (counting party held)))
      (λ other. absurd (moved (claim_others c p page.0 q k other)))
  moves_count (released party p page z) moved =
      same_place q p k page.0 (MovesCount c q k (Release party p page))
      (λ e f.
      let held = (releasable c party p page.0 z).held in
      subst (λ j. MovesCount c j k (Release party p page)) (sym e) (subst (λ j. MovesCount c p j (Release party p page)) (sym f) (letting_go (by_release party held))))
      (λ other. absurd (moved (release_others c p page.0 q k other)))
  moves_count (destroyed party p z) moved = go (leads_up c p q) refl
    where
      go : (b : Bool) → leads_up c p q ≡ b → MovesCount c q k (Destroy party p)
      go true e = letting_go (by_destroy party p (destroys c party p z).held (leads_back c p q e))
      go false e = absurd (moved (destroy_counts v c ok party p z q k e))

  -- Who has let go where the count is lower: a claim leaves none lower.
  lets_go : {call : Call} {x : Claims} → MovesCount c q k call → Touches s call x → count_of x q k < count_of c q k → LetsGo c q k call
  lets_go (letting_go g) t l = g
  lets_go (counting party held) kept l = let z : ⊥ = omega (arith, l) in absurd z
  lets_go (counting party held) (counted by p page low z) l =
      let up = (claim_rises by p page.0 low z).0 in
      let n : ⊥ = omega (arith, l, up) in
      absurd n

  pub falls : {call : Call} {x : Claims} → Touches s call x → count_of x q k < count_of c q k → LetsGo c q k call
  falls t l = lets_go (moves_count t (λ e. omega (arith, l, e))) t l

  -- Where another lets go the count is what it was.
  pub other_stays : {call : Call} {x : Claims} → Touches s call x → OtherLetsGo c q call → count_of x q k ≡ count_of c q k
  other_stays kept o = refl
  other_stays (created party parent child limit holder z) o = create_counts v c ok party parent child limit holder z q k
  other_stays (counted party p page _ _) o = elim o [ ]
  other_stays (released party p page z) (other_releases by from of other) = release_others c from of.0 q k (λ e. other e.0)
  other_stays (destroyed party p z) (other_destroyed by top other) = go (leads_up c p q) refl
    where
      go : (b : Bool) → leads_up c p q ≡ b → count_of (destroy_of c p) q k ≡ count_of c q k
      go true e = absurd (other (leads_back c p q e))
      go false e = destroy_counts v c ok party p z q k e

  -- A count goes on to fit into two bytes.
  pub fits : {call : Call} {x : Claims} → Touches s call x → count_of c q k ≤ 65535 → count_of x q k ≤ 65535
  fits kept l = l
  fits (created party parent child limit holder z) l = let same = create_counts v c ok party parent child limit holder z q k in omega (arith, l, same)
  fits (counted party p page low z) l = (claim_rises party p page.0 low z).1 l
  fits (released party p page z) l = let less = release_falls party p page.0 z in omega (arith, l, less)
  fits (destroyed party p z) l = let less = destroy_falls party p z in omega (arith, l, less)
