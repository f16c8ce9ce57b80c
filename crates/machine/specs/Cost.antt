-- Document 02, 2026-11: the cost of a page, asked of a state. It is no command: no party sends it, and it changes nothing. Assumes nothing.
use Rattle.std.specs.Prelude.{ℕ, ◌+◌, ◌<◌, Bool, true, not, List, [], ◌∷◌, ◌≡◌, eqb}
use Rattle.capabilities.specs.Lists.{pick}
use Rattle.capabilities.specs.Refusals.{Reason, reason, first}
use Rattle.pages.specs.Mapping.{no_page}
use Rattle.claims.specs.Claims.{count_of}
use Rattle.claims.specs.Cost.{claimants, Cost, cost, Shares, cost_of}
use Rattle.reservations.specs.Core.{Core}
use Rattle.calls.specs.declared.Call.TheVariants.{Claim}
use Rattle.calls.specs.Commands.{page}
use Rattle.machine.specs.State.{State}
use Rattle.machine.specs.Formed.{well_formed}
use Rattle.machine.specs.Step.{step_of}

-- What is answered: a code, 0 if granted, and the cost.
pub record Costed : Type 0 where
  pub code : ℕ
  pub cost : Cost

abbrev pub costed : ℕ → Cost → Costed
costed code c = record { code = code; cost = c }

-- Refused, share and remainder are 0.
abbrev pub uncosted : ℕ → Costed
uncosted code = costed code (cost 0 0)

-- "Refusals are 1 and, for a page of V or more, 12." Whether the state is well formed is found before: of the state itself, or of the
-- arrays that it is read from.
unfoldable pub cost_reasons : Bool → Core → ℕ → List Reason
cost_reasons good c n = reason 1 (not good) ∷ reason 12 (no_page c.pages (page n)) ∷ []

-- "For a page with n claiming principals, give share and remainder."
unfoldable pub cost_by : Bool → Core → ℕ → Costed
cost_by good c n =
    let code = first (cost_reasons good c n) in
    pick (eqb code 0) (costed 0 (cost_of (claimants c.claims n))) (uncosted code)

-- The same asked of a state.
unfoldable pub page_cost : State → ℕ → Costed
page_cost s n = cost_by (well_formed s) s.core n

-- How many principals claim a page of a state.
abbrev pub claimants_of : State → ℕ → ℕ
claimants_of s n = claimants s.core.claims n

-- "16 = n × share + remainder, with remainder below n": of every well-formed state and each of its pages.
abbrev pub CostShared : Type 0
CostShared = (s : State) (n : ℕ) → well_formed s ≡ true → n < s.core.pages.v → ((page_cost s n).code ≡ 0) × Shares (claimants_of s n) (page_cost s n).cost

-- The number of claimants determines share and remainder: there is nothing else that the sentence allows.
abbrev pub CostDetermined : Type 0
CostDetermined = (s : State) (n : ℕ) (c : Cost) → (page_cost s n).code ≡ 0 → Shares (claimants_of s n) c → c ≡ (page_cost s n).cost

-- Each principal counts once, however often it claims: its first claim of a page makes one claimant more, and another one none.
abbrev pub CountedOnce : Type 0
CountedOnce =
    (s : State) (cells tags : List ℕ) (party principal n : ℕ)
    → let o = step_of s (Claim party principal (page n)) cells tags in
    o.answer.code ≡ 0
    → claimants_of o.answer.state n ≡ pick (eqb (count_of s.core.claims principal n) 0) (claimants_of s n + 1) (claimants_of s n)
