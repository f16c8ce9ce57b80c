-- Wrong machines that the statements on sharing exclude, by computing. Each leaves, of a state that a history reaches and of one call, an
-- outcome for which what is concluded is false; the rule's own outcome is as it says, since it is proved of every state reached. Assumes nothing.
use Prim.Native.Nat.{ℕ, ◌+◌, ◌-◌}
use native.Mathlib.Omega.{arith}
use mathlib.Core.Bool.{true, false, not, ◌&&◌, true≢false}
use mathlib.Core.List.{List, [], ◌∷◌}
use mathlib.Core.Path.{◌≡◌, refl, sym, ◌∙◌}
use lib.Dec.{eqb}
use lib.ListN.{length, replicate}
use Rattle.capabilities.specs.declared.Range.{Range}
use Rattle.capabilities.specs.Lists.{pick}
use Rattle.pages.specs.Pages.{Pages}
use Rattle.sweep.specs.Sweep.{Passed, passing, sweep_of}
use Rattle.claims.specs.Claims.{Claims, holds, parent_of, unspent, count_of, claimed, with_unspent}
use Rattle.claims.specs.Operations.{with_count, destroy_of}
use Rattle.reservations.specs.Revocation.{dying}
use Rattle.calls.specs.declared.Call.{Call}
use Rattle.calls.specs.declared.Call.TheVariants.{Split, Revoke, Sweep, Map, Zero, Load, Store, Number, TakeMasked, Create, Claim, Release, Destroy}
use Rattle.calls.specs.Commands.{page, frame}
use Rattle.calls.specs.Commands.{byte_of as kind_of}
use Rattle.words.specs.Words.{empty, loaded}
use Rattle.machine.specs.State.{State}
use Rattle.machine.specs.Formed.{answered}
use Rattle.machine.specs.Roles.{Sources, fills, plain, asked}
use Rattle.machine.specs.Effects.{with_claims}
use Rattle.machine.specs.Step.{Outcome, outcome_with, effect_on, with_core, step_of}
use Rattle.cases.specs.Variants.{Rule, instead, operand, sweep_by, load_by, claim_by, ruled_by}
use Rattle.machine.proofs.Computing.{computing}
use Rattle.histories.specs.Runs.{Machine, outcome, next, run, begun, Reached}
use Rattle.histories.specs.Sharing.{claims_in, Shows, by_release}
use Rattle.histories.specs.Contents.{cell_in, StoresTo, Retags, by_store, by_sweep, ContentLeft}
use Rattle.histories.specs.Holders.{MovesCount, letting_go, MovesUnspent, HoldingLeft}
use Rattle.examples.proofs.Histories.{start, begins}

-- Page 1 is Mapped to frame 0. At its offset 0 stands 42, at offset 5 a capability to the page. Party 1 holds principal 3 and party 2 holds
-- principal 5, and both claim the page. Cells 0 to 15 are being revoked.
abbrev pub calls : List Call
calls =
    Zero 0 (frame 0)
    ∷ Map 0 (page 1) (frame 0)
    ∷ Split 0 0 16
    ∷ TakeMasked 0 16 1 15
    ∷ Number 0 2 42
    ∷ Store 0 1 0 2
    ∷ Store 0 1 5 1
    ∷ Create 0 0 3 100 1
    ∷ Create 0 0 5 1 2
    ∷ Claim 1 3 (page 1)
    ∷ Claim 2 5 (page 1)
    ∷ Revoke 0 0
    ∷ []

unfoldable pub shared : Machine
shared = run start calls

-- A zero of any frame, Mapped ones too.
unfoldable pub zeroes_any : Rule
zeroes_any = ruled_by 0x0A (λ s c cells tags. []) effect_on

-- A load that takes the capability out of memory.
unfoldable pub loads_away : Rule
loads_away = load_by loaded loaded (λ k w byte. 0)

-- A sweep that clears every tag, not those of the dying alone.
unfoldable pub clears_living : Pages → Range → ℕ → ℕ → List ℕ → List ℕ → Passed
clears_living s r place n cells tags = passing (sweep_of s r place n cells tags).answer (replicate (length tags) 0)

-- A release that anyone may do.
unfoldable pub releases_any : Rule
releases_any = ruled_by 0x14 (λ s c cells tags. []) effect_on

-- A destroy that is refused and done all the same.
unfoldable pub destroys_refused : Rule
destroys_refused s c cells tags =
    let o = step_of s c cells tags in
    pick (eqb (kind_of c) 0x15 && not (eqb o.answer.code 0))
    (outcome_with (answered o.answer.code empty (with_core s (with_claims s.core (destroy_of s.core.claims (operand c 1))))) cells tags) o

-- A claim that spends the parent's limit.
unfoldable pub spends_parents : Claims → ℕ → ℕ → Claims
spends_parents c p k = with_count (with_unspent c (parent_of c p) (unspent c (parent_of c p) - 1)) p k (count_of c p k + 1)

abbrev leaves : Rule → Call → Outcome
leaves rule c = rule shared.state c shared.cells shared.tags

unfoldable sharing : ℕ
unfolding shared start begun run next outcome instead load_by sweep_by claim_by ruled_by zeroes_any loads_away clears_living releases_any destroys_refused spends_parents computing
sharing = 0

-- What the statements ask of the state.
pub reached : Reached shared
unfolding shared start
reached = record { v = 2; f = 1; cells = replicate 16 7; tags = replicate 16 1; begins = begins; calls = calls; is = refl }

pub shows : Shows shared 1 (frame 0)
unfolding sharing
shows = refl

pub is_claimed : claimed (claims_in shared) 1 ≡ true
unfolding sharing
is_claimed = refl

-- Two numbers that are not the same.
apart : {a b : ℕ} (x y : ℕ) → a ≡ x → b ≡ y → (x ≡ y → ⊥) → a ≡ b → ⊥
apart x y p q n e = n (sym p ∙ e ∙ q)

-- Neither a plain call nor a load is a store.
plain_stores : {s : State} {v p : ℕ} → StoresTo s v (asked p plain) → ⊥
plain_stores = elim [ ]

load_stores : {s : State} {v p d : ℕ} {from : Sources} → StoresTo s v (asked p (fills from d)) → ⊥
load_stores = elim [ ]

pub zero_excluded : ContentLeft shared 1 (frame 0) 0 (Zero 0 (frame 0)) (leaves zeroes_any (Zero 0 (frame 0))) → ⊥
zero_excluded h = plain_stores (h.of_cell (apart 0 42 (unfold sharing in refl) (unfold sharing in refl) (λ e. omega (arith, e)))).1

pub load_excluded : ContentLeft shared 1 (frame 0) 5 (Load 0 1 5 3) (leaves loads_away (Load 0 1 5 3)) → ⊥
load_excluded h = go (h.of_tag (apart 0 1 (unfold sharing in refl) (unfold sharing in refl) (λ e. omega (arith, e)))).1
  where
    go : Retags shared 1 (frame 0) 5 (Load 0 1 5 3) → ⊥
    go (by_store x) = load_stores x

pub sweep_excluded : ContentLeft shared 1 (frame 0) 5 (Sweep 0 16) (leaves (sweep_by clears_living) (Sweep 0 16)) → ⊥
sweep_excluded h = go (h.of_tag (apart 0 1 (unfold sharing in refl) (unfold sharing in refl) (λ e. omega (arith, e)))).1
  where
    lives : dying shared.state.core (cell_in shared.cells (frame 0) 5) ≡ false
    lives = unfold sharing in refl

    go : Retags shared 1 (frame 0) 5 (Sweep 0 16) → ⊥
    go (by_store x) = plain_stores x
    go (by_sweep party n dies) = true≢false (sym dies ∙ lives)

pub release_excluded : HoldingLeft shared 5 (Release 1 5 (page 1)) (leaves releases_any (Release 1 5 (page 1))) → ⊥
release_excluded h = go (h.of_counts 1 (apart 0 1 (unfold sharing in refl) (unfold sharing in refl) (λ e. omega (arith, e)))).1
  where
    other : holds (claims_in shared) 1 5 ≡ false
    other = unfold sharing in refl

    go : MovesCount (claims_in shared) 5 1 (Release 1 5 (page 1)) → ⊥
    go (letting_go (by_release party held)) = true≢false (sym held ∙ other)

-- Party 0 holds the parent of principal 0, which is principal 0, and parents lead up to it from 3; but the call is refused (so neither does
-- `Sharing.OnlyLetGo` hold of this machine).
pub destroy_excluded : HoldingLeft shared 3 (Destroy 0 0) (leaves destroys_refused (Destroy 0 0)) → ⊥
destroy_excluded h =
    let granted = (h.of_counts 1 (apart 0 1 (unfold sharing in refl) (unfold sharing in refl) (λ e. omega (arith, e)))).0 in
    omega (arith, granted, code)
  where
    code : (leaves destroys_refused (Destroy 0 0)).answer.code ≡ 20
    code = unfold sharing in refl

pub claim_excluded : HoldingLeft shared 0 (Claim 1 3 (page 0)) (leaves (claim_by spends_parents) (Claim 1 3 (page 0))) → ⊥
claim_excluded h = go (h.of_unspent (apart 8090 8091 (unfold sharing in refl) (unfold sharing in refl) (λ e. omega (arith, e)))).1
  where
    go : MovesUnspent (claims_in shared) 0 (Claim 1 3 (page 0)) → ⊥
    go = elim [ ]
