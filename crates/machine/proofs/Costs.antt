-- Document 02, 2026-11: the cost of a page, of every state. Assumes nothing.
use Prim.Native.Nat.{ℕ, ◌+◌, ◌<◌}
use native.Mathlib.Omega.{arith}
use mathlib.Core.Bool.{Bool, true, not}
use mathlib.Core.List.{[], ◌∷◌}
use mathlib.Core.Path.{◌≡◌, refl, sym, ap, ap₂, subst, ◌∙◌}
use lib.Dec.{eqb, leb}
use borrow.Author.Tests.{eq-eqb, ne_eqb, eqb-false, lt-leb, leb-false, not-false}
use Rattle.capabilities.specs.Lists.{pick}
use Rattle.capabilities.specs.Refusals.{reason, first}
use Rattle.capabilities.proofs.Choice.{pick_yes, pick_no}
use Rattle.capabilities.proofs.Refusals.{first_clear}
use Rattle.pages.specs.Mapping.{no_page}
use Rattle.claims.specs.Claims.{count_of}
use Rattle.claims.specs.Operations.{claim_reasons}
use Rattle.claims.specs.Cost.{claimants, Shares, cost_of}
use Rattle.claims.proofs.Paying.{shares, determined, claimants_claim}
use Rattle.reservations.specs.Core.{Core}
use Rattle.calls.specs.declared.Call.TheVariants.{Claim}
use Rattle.calls.specs.Commands.{page}
use Rattle.machine.specs.State.{State}
use Rattle.machine.specs.Formed.{well_formed}
use Rattle.machine.specs.Reasons.{reasons}
use Rattle.machine.specs.Effects.{effect}
use Rattle.machine.specs.Step.{Outcome, done, effect_on}
use Rattle.machine.specs.Cost.{costed, uncosted, cost_reasons, cost_by, page_cost, claimants_of, CostShared, CostDetermined, CountedOnce}
use Rattle.machine.proofs.Judging.{pick_by, Granted, step_by}
use Rattle.machine.proofs.Deeds.{paged_clear}
use Rattle.machine.proofs.Undoing.{sound, low}

module _ (good : Bool) (c : Core) (n : ℕ) where
  -- A granted question: the state is well formed, and the page is one of its own.
  pub cost_asked : first (cost_reasons good c n) ≡ 0 → (good ≡ true) × (n < c.pages.v)
  unfolding cost_reasons
  cost_asked e =
      let (well, rest) = first_clear 1 (not good) (reason 12 (no_page c.pages (page n)) ∷ []) (λ z. omega (arith, z)) e in
      (not-false good well, leb-false c.pages.v n (first_clear 12 (no_page c.pages (page n)) [] (λ z. omega (arith, z)) rest).0)

  -- What it is answered, and what a refused one is.
  pub cost_granted : first (cost_reasons good c n) ≡ 0 → cost_by good c n ≡ costed 0 (cost_of (claimants c.claims n))
  unfolding cost_by
  cost_granted e =
      let code = first (cost_reasons good c n) in
      pick_yes (eqb code 0) (costed 0 (cost_of (claimants c.claims n))) (uncosted code) (eq-eqb code 0 e)

  pub cost_refused : (first (cost_reasons good c n) ≡ 0 → ⊥) → cost_by good c n ≡ uncosted (first (cost_reasons good c n))
  unfolding cost_by
  cost_refused e =
      let code = first (cost_reasons good c n) in
      pick_no (eqb code 0) (costed 0 (cost_of (claimants c.claims n))) (uncosted code) (ne_eqb code 0 e)

  -- Granted, it is the sentence's cost.
  pub cost_met : good ≡ true → n < c.pages.v → ((cost_by good c n).code ≡ 0) × Shares (claimants c.claims n) (cost_by good c n).cost
  unfolding cost_reasons first
  cost_met w h =
      let v = c.pages.v in
      let is = cost_granted (pick_no (not good) 1 (pick (leb v n) 12 0) (ap not w) ∙ pick_no {A = ℕ} (leb v n) 12 0 (lt-leb v n h)) in
      (ap (λ r. r.code) is, subst (λ r. Shares (claimants c.claims n) r.cost) (sym is) (shares (claimants c.claims n)))

-- What is answered depends on the core and on whether the state is well formed.
pub cost_same : (s t : State) (n : ℕ) → s.core ≡ t.core → well_formed s ≡ well_formed t → page_cost s n ≡ page_cost t n
unfolding page_cost
cost_same s t n e w = ap₂ (λ b k. cost_by b k n) w e

pub cost_shared : CostShared
unfolding page_cost
cost_shared s n = cost_met (well_formed s) s.core n

pub cost_determined : CostDetermined
unfolding page_cost cost_by
cost_determined s n c z m =
    let code = first (cost_reasons (well_formed s) s.core n) in
    let k = claimants_of s n in
    determined k c m
    ∙ pick_by (λ r. r.code ≡ 0 → cost_of k ≡ r.cost) (eqb code 0) (costed 0 (cost_of k)) (uncosted code) (λ e y. refl) (λ e y. absurd (eqb-false code 0 e y)) z

pub counted_once : CountedOnce
unfolding reasons effect done
counted_once s cells tags party p n =
    let c = s.core.claims in
    step_by s (Claim party p (page n)) cells tags (Grown p n) granted (λ k e z. absurd (e z))
  where
    Grown : ℕ → ℕ → Outcome → Type 0
    Grown p n o = o.answer.code ≡ 0 → claimants_of o.answer.state n ≡ pick (eqb (count_of s.core.claims p n) 0) (claimants_of s n + 1) (claimants_of s n)

    granted : Granted s (Claim party p (page n)) cells tags → Grown p n (done s (effect_on s (Claim party p (page n)) cells tags) cells tags)
    granted g z =
        let (below, clear) = paged_clear s party (page n) (claim_reasons s.core.claims party p n) g.clear in
        claimants_claim s.core.pages.v s.core.claims (sound s g.formed) party p n (low s g.formed (page n) below) clear
