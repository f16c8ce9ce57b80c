-- Who moves what a principal has, by what each kind of call makes of the claims (`LettingGo.touches`). Assumes nothing.
use Prim.Native.Nat.{ℕ, ◌+◌, ◌-◌}
use mathlib.Core.Bool.{Bool, true, false}
use mathlib.Core.Logic.{⊎_elim}
use mathlib.Core.Path.{◌≡◌, refl, sym, ap, subst, ◌∙◌}
use borrow.Author.Tests.{eqb-true, eqb-false}
use lib.Dec.{eqb}
use Rattle.capabilities.specs.Lists.{pick}
use Rattle.pages.proofs.Formed.{sound as layered}
use Rattle.claims.specs.Claims.{Claims, principal_at, holds, parent_of, unspent, count_of, with_unspent, leaving}
use Rattle.claims.specs.Tree.{leads_up}
use Rattle.claims.specs.Operations.{with_count, claim_of, release_of}
use Rattle.claims.specs.Sound.{claims_sound}
use Rattle.claims.proofs.Entries.{put_other, counted_principals}
use Rattle.claims.proofs.Claimable.{claimable, releasable}
use Rattle.claims.proofs.Created.{creates, other_at}
use Rattle.claims.proofs.Destroyed.{destroys, destroy_others}
use Rattle.claims.proofs.Descent.{leads_back}
use Rattle.calls.specs.declared.Call.{Call}
use Rattle.calls.specs.declared.Call.TheVariants.{Create, Claim, Release, Destroy}
use Rattle.machine.specs.State.{State}
use Rattle.machine.specs.Step.{done}
use Rattle.histories.specs.Runs.{Machine, outcome, next}
use Rattle.histories.specs.Forming.{Standing}
use Rattle.histories.specs.Sharing.{claims_in}
use Rattle.histories.specs.Holders.{MovesUnspent, paying, spending, regaining, inheriting, made, dropped, HoldingLeft, OnlyByHolders}
use Rattle.histories.proofs.Forming.{always_formed, standing_facts, standing_claims}
use Rattle.histories.proofs.Granted.{Went, went_or_not}
use Rattle.histories.proofs.LettingGo.{Touches, kept, created, counted, released, destroyed, same_place, touches, moves_count}

-- One count changed, and the principal's unspent limit with it if a test holds: every principal is as it was, but that one if it does.
spent_other : (c : Claims) (b : Bool) (p k u n q : ℕ) → ((b ≡ true) × (q ≡ p) → ⊥) → principal_at (with_count (pick b (with_unspent c p u) c) p k n) q ≡ principal_at c q
spent_other c b p k u n q other = counted_principals (pick b (with_unspent c p u) c) p _ q ∙ go b refl
  where
    go : (x : Bool) → b ≡ x → principal_at (pick x (with_unspent c p u) c) q ≡ principal_at c q
    go true e = put_other c p (leaving (principal_at c p) u) q (λ i. other (e, i))
    go false e = refl

module _ (c : Claims) (p k q : ℕ) where
  claim_unspent : ((count_of c p k ≡ 0) × (q ≡ p) → ⊥) → unspent (claim_of c p k) q ≡ unspent c q
  unfolding claim_of
  claim_unspent other =
      ap (λ x. x.unspent) (spent_other c (eqb (count_of c p k) 0) p k (unspent c p - 1) (count_of c p k + 1) q (λ e. other (eqb-true (count_of c p k) 0 e.0, e.1)))

  release_unspent : ((count_of c p k ≡ 1) × (q ≡ p) → ⊥) → unspent (release_of c p k) q ≡ unspent c q
  unfolding release_of
  release_unspent other =
      ap (λ x. x.unspent) (spent_other c (eqb (count_of c p k) 1) p k (unspent c p + 1) (count_of c p k - 1) q (λ e. other (eqb-true (count_of c p k) 1 e.0, e.1)))

module _ (s : State) (v : ℕ) (ok : claims_sound v s.core.claims ≡ true) (q : ℕ) where
  abbrev c : Claims
  c = s.core.claims

  moves_unspent : {call : Call} {x : Claims} → Touches s call x → (unspent x q ≡ unspent c q → ⊥) → MovesUnspent c q call
  moves_unspent kept moved = absurd (moved refl)
  moves_unspent (created party parent child limit holder z) moved = go (eqb q child) refl (eqb q parent) refl
    where
      go : (a : Bool) → eqb q child ≡ a → (b : Bool) → eqb q parent ≡ b → MovesUnspent c q (Create party parent child limit holder)
      go true e b f =
          let can = creates c party parent child limit z in
          subst (λ j. MovesUnspent c j (Create party parent child limit holder)) (sym (eqb-true q child e)) (made party parent limit holder can.held can.free)
      go false e true f =
          subst (λ j. MovesUnspent c j (Create party parent child limit holder)) (sym (eqb-true q parent f)) (paying party child limit holder (creates c party parent child limit z).held)
      go false e false f =
          absurd (moved (ap (λ x. x.unspent) (other_at v c ok party parent child limit holder z q (eqb-false q child e) (eqb-false q parent f))))
  moves_unspent (counted party p page low z) moved =
      same_place q p (count_of c p page.0) 0 (MovesUnspent c q (Claim party p page))
      (λ e f. subst (λ j. MovesUnspent c j (Claim party p page)) (sym e) (spending party page.0 (claimable c party p page.0 z).held f))
      (λ other. absurd (moved (claim_unspent c p page.0 q (λ x. other (x.1, x.0)))))
  moves_unspent (released party p page z) moved =
      same_place q p (count_of c p page.0) 1 (MovesUnspent c q (Release party p page))
      (λ e f. subst (λ j. MovesUnspent c j (Release party p page)) (sym e) (regaining party page.0 (releasable c party p page.0 z).held f))
      (λ other. absurd (moved (release_unspent c p page.0 q (λ x. other (x.1, x.0)))))
  moves_unspent (destroyed party p z) moved = go (leads_up c p q) refl (eqb q (parent_of c p)) refl
    where
      go : (a : Bool) → leads_up c p q ≡ a → (b : Bool) → eqb q (parent_of c p) ≡ b → MovesUnspent c q (Destroy party p)
      go true e b f = dropped party p (destroys c party p z).held (leads_back c p q e)
      go false e true f =
          let i = eqb-true q (parent_of c p) f in
          inheriting party p (sym i) (subst (λ j. holds c party j ≡ true) (sym i) (destroys c party p z).held)
      go false e false f = absurd (moved (ap (λ x. x.unspent) (destroy_others v c ok party p z q e (eqb-false q (parent_of c p) f))))

holding_went : (m : Machine) (v f : ℕ) → Standing m v f → (q : ℕ) (c : Call) → Went m c → HoldingLeft m q c (outcome m c)
holding_went m v f st q c w =
    let few = (layered m.state.core.pages (standing_facts m v f st).layer).v_most in
    let ok = standing_claims m v f st in
    let how = touches m.state c m.cells m.tags w.clear in
    subst (HoldingLeft m q c) (sym w.now)
    (unfold done in
    (record { of_counts = λ k moved. (refl, moves_count m.state v few ok q k how moved); of_unspent = λ moved. (refl, moves_unspent m.state v ok q how moved) }))

pub only_by_holders : OnlyByHolders
unfolding next
only_by_holders m r q c =
    ⊎_elim (holding_went m r.v r.f (always_formed m r) q c)
    (λ n. record { of_counts = λ k moved. absurd (moved (ap (λ x. count_of (claims_in x) q k) n.0)); of_unspent = λ moved. absurd (moved (ap (λ x. unspent (claims_in x) q) n.0)) })
    (went_or_not m c)
