-- A call on claims and the one that takes it back: both change the claims alone, the claims' own laws give the first claims again, and what
-- the second call looks at besides them (the party, the number of pages, the size of lent memory) is as before. Assumes nothing.
use Prim.Native.Nat.{ℕ, ◌<◌}
use native.Mathlib.Omega.{arith}
use mathlib.Core.Bool.{Bool, true, ◌||◌}
use mathlib.Core.List.{List, ◌∷◌}
use mathlib.Core.Path.{◌≡◌, refl, sym, ap, subst, ◌∙◌}
use Rattle.capabilities.specs.Refusals.{Reason, reason, first}
use Rattle.capabilities.proofs.Choice.{pick_no, or_false}
use Rattle.capabilities.proofs.Refusals.{first_clear}
use Rattle.pages.specs.declared.VirtualPage.{VirtualPage}
use Rattle.pages.specs.Mapping.{no_page}
use Rattle.pages.proofs.Formed as layer
use Rattle.claims.specs.Claims.{Claims}
use Rattle.claims.specs.Sound.{claims_sound}
use Rattle.claims.specs.Operations.{create_reasons, create_of, claim_reasons, claim_of, release_reasons, release_of, destroy_reasons}
use Rattle.claims.proofs.Undone.{claim_then_release, claim_release, release_then_claim, release_claim, create_destroy, create_then_destroy}
use Rattle.reservations.proofs.CoreKept.{core_facts}
use Rattle.calls.specs.declared.Call.{Call}
use Rattle.calls.specs.declared.Call.TheVariants.{Create, Claim, Release, Destroy}
use Rattle.words.specs.Words.{empty}
use Rattle.words.specs.WordReasons.{unnamed}
use Rattle.machine.specs.State.{State}
use Rattle.machine.specs.Formed.{well_formed, answered}
use Rattle.machine.specs.Reasons.{reasons}
use Rattle.machine.specs.Effects.{Effect, with_claims, claims_change, effect}
use Rattle.machine.specs.Step.{Outcome, outcome_with, done, reasons_on, effect_on, ruled, judged, step_of, with_core}
use Rattle.machine.specs.Undoing.{Undone, ClaimReleased, ReleaseClaimed, CreateDestroyed}
use Rattle.machine.proofs.Ruled.{done_core}
use Rattle.machine.proofs.Judging.{Granted, step_by}
use Rattle.machine.proofs.Deeds.{paged_clear}
use Rattle.machine.proofs.Keeps.{facts, step_keeps}

-- A call that nothing speaks against is done.
granted_done : (s : State) (c : Call) (cells tags : List ℕ) → Granted s c cells tags → step_of s c cells tags ≡ done s (effect_on s c cells tags) cells tags
unfolding step_of judged ruled
granted_done s c cells tags g = rw (g.formed, g.served, g.clear)

-- A state with other claims, and all else as it is.
abbrev reclaimed : State → Claims → State
reclaimed s x = record { core = with_claims s.core x; registers = s.registers; mailboxes = s.mailboxes }

-- What a change of the claims alone leaves.
reclaims : (s : State) (x : Claims) (cells tags : List ℕ) (e : Effect) → e ≡ claims_change s.core x
    → done s e cells tags ≡ outcome_with (answered 0 empty (reclaimed s x)) cells tags
unfolding with_core
reclaims s x cells tags e is = ap (λ y. done s y cells tags) is ∙ sym (done_core s (with_claims s.core x) empty cells tags)

-- What is to be shown of an outcome of the first call.
abbrev Back : State → List ℕ → List ℕ → Call → Outcome → Type 0
Back s cells tags d o = o.answer.code ≡ 0 → step_of o.answer.state d o.cells o.tags ≡ outcome_with (answered 0 empty s) cells tags

-- A call that leaves the claims x is undone by one that is granted on them and leaves the first claims.
undone_by : (s : State) (cells tags : List ℕ) (c d : Call) (x : Claims) → effect_on s c cells tags ≡ claims_change s.core x
    → (Granted s c cells tags → (first (reasons_on (reclaimed s x) d cells tags) ≡ 0) × (effect_on (reclaimed s x) d cells tags ≡ claims_change s.core s.core.claims))
    → Undone s cells tags c d
undone_by s cells tags c d x is back = step_by s c cells tags (Back s cells tags d) granted (λ k n z. absurd (n z))
  where
    granted : Granted s c cells tags → Back s cells tags d (done s (effect_on s c cells tags) cells tags)
    granted g =
        let leaves = reclaims s x cells tags (effect_on s c cells tags) is in
        let formed : well_formed (reclaimed s x) ≡ true =
        subst (λ o. well_formed o.answer.state ≡ true) (granted_done s c cells tags g ∙ leaves) (step_keeps s c cells tags g.formed) in
        subst (Back s cells tags d) (sym leaves)
        (λ z.
        granted_done (reclaimed s x) d cells tags (record { formed = formed; served = g.served; clear = (back g).0 })
        ∙ reclaims (reclaimed s x) s.core.claims cells tags (effect_on (reclaimed s x) d cells tags) (back g).1)

-- Behind a reason that does not apply, others may stand.
behind : (k : ℕ) (b : Bool) (l r : List Reason) → (k ≡ 0 → ⊥) → first (reason k b ∷ l) ≡ 0 → first r ≡ 0 → first (reason k b ∷ r) ≡ 0
unfolding first
behind k b l r h z f = pick_no b k (first r) (first_clear k b l h z).0 ∙ f

-- 13 and 14 have the same reasons before those of the claims.
paged_behind : (s : State) (p : ℕ) (page : VirtualPage) (l r : List Reason)
    → first (reason 4 (unnamed p) ∷ reason 12 (no_page s.core.pages page) ∷ l) ≡ 0 → first r ≡ 0
    → first (reason 4 (unnamed p) ∷ reason 12 (no_page s.core.pages page) ∷ r) ≡ 0
paged_behind s p page l r z f =
    behind 4 (unnamed p) _ _ (λ e. omega arith) z
    (behind 12 (no_page s.core.pages page) l r (λ e. omega arith) (first_clear 4 (unnamed p) _ (λ e. omega arith) z).1 f)

module _ (s : State) (w : well_formed s ≡ true) where
  pub sound : claims_sound s.core.pages.v s.core.claims ≡ true
  sound = (facts s w).claims

  -- A page below V has a count.
  pub low : (page : VirtualPage) → page.0 < s.core.pages.v → page.0 < 256
  low page h = let few = (layer.sound s.core.pages (core_facts s.core (facts s w).core).layer).v_most in omega (arith, h, few)

pub claim_released : ClaimReleased
unfolding reasons effect
claim_released s cells tags party p page =
    let v = s.core.pages.v in
    let c = s.core.claims in
    let n = page.0 in
    undone_by s cells tags (Claim party p page) (Release party p page) (claim_of c p n) refl
    (λ g.
    let (below, clear) = paged_clear s party page (claim_reasons c party p n) g.clear in
    let ok = sound s g.formed in
    let k = low s g.formed page below in (
      paged_behind s party page (claim_reasons c party p n) (release_reasons (claim_of c p n) party p n) g.clear
          (claim_then_release v c ok party p n k clear),
      ap (λ y. claims_change s.core y) (claim_release v c ok party p n k clear),
    ))

pub release_claimed : ReleaseClaimed
unfolding reasons effect
release_claimed s cells tags party p page most =
    let v = s.core.pages.v in
    let c = s.core.claims in
    let n = page.0 in
    undone_by s cells tags (Release party p page) (Claim party p page) (release_of c p n) refl
    (λ g.
    let (below, clear) = paged_clear s party page (release_reasons c party p n) g.clear in
    let ok = sound s g.formed in
    let k = low s g.formed page below in (
      paged_behind s party page (release_reasons c party p n) (claim_reasons (release_of c p n) party p n) g.clear
          (release_then_claim v c ok party p n k clear most),
      ap (λ y. claims_change s.core y) (release_claim v c ok party p n k clear most),
    ))

pub create_destroyed : CreateDestroyed
unfolding reasons effect first
create_destroyed s cells tags party parent child limit holder =
    let v = s.core.pages.v in
    let c = s.core.claims in
    let made = create_of c parent child limit holder in
    undone_by s cells tags (Create party parent child limit holder) (Destroy party child) made refl
    (λ g.
    let (named, clear) = first_clear 4 (unnamed party || unnamed holder) (create_reasons c party parent child limit) (λ e. omega arith) g.clear in
    let ok = sound s g.formed in (
      pick_no (unnamed party) 4 (first (destroy_reasons made party child)) (or_false (unnamed party) (unnamed holder) named).0
          ∙ create_then_destroy v c ok party parent child limit holder clear,
      ap (λ y. claims_change s.core y) (create_destroy v c ok party parent child limit holder clear),
    ))
