-- Document 02, 2026-11: what the query answers in some states, with the numbers that its sentences give; and wrong queries, each with one of
-- these states and a page at which it answers something else. Assumes nothing.
use Rattle.std.specs.Prelude.{ℕ, zero, suc, ◌+◌, ◌-◌, ◌/◌, ◌%◌, Bool, true, not, ◌&&◌, List, [], ◌∷◌, ◌≡◌, eqb, ltb}
use Rattle.capabilities.specs.Lists.{pick, same, Every}
use Rattle.capabilities.specs.Refusals.{Reason, reason, first}
use Rattle.pages.specs.Mapping.{no_page}
use Rattle.claims.specs.Claims.{Claims, count_of, sum}
use Rattle.claims.specs.Operations.{create_of, claim_of}
use Rattle.claims.specs.Sound.{fresh_claims}
use Rattle.claims.specs.Cost.{claimants, Cost, cost, cost_of}
use Rattle.reservations.specs.Core.{Core}
use Rattle.calls.specs.Commands.{page}
use Rattle.machine.specs.State.{State}
use Rattle.machine.specs.Formed.{well_formed, fresh}
use Rattle.machine.specs.Effects.{with_claims}
use Rattle.machine.specs.Step.{with_core}
use Rattle.machine.specs.Forgetting.{start_bare}
use Rattle.machine.specs.Cost.{Costed, costed, uncosted, cost_reasons, page_cost}
use Rattle.cases.specs.Edges.{apart}

-- Principals 0 to n − 1 claim page 1 twice each; all but 0 were made for it under 0.
unfoldable pub claimed_by : ℕ → Claims
claimed_by zero = fresh_claims true
claimed_by (suc n) = claim_of (claim_of (pick (eqb n 0) (claimed_by n) (create_of (claimed_by n) 0 n 1 0)) n 1) n 1

-- A start with two pages whose page 1, the last, is claimed by so many.
unfoldable pub shared_by : ℕ → State
shared_by n =
    let s = fresh 2 1 in
    with_core s (with_claims s.core (claimed_by n))

-- What a query is: the type of the rule `page_cost`.
abbrev pub Query : Type 0
Query = State → ℕ → Costed

unfoldable pub numbers : Costed → List ℕ
numbers r = r.code ∷ r.cost.share ∷ r.cost.remainder ∷ []

-- A state, a page, and the code, share and remainder expected.
pub record Case : Type 0 where
  pub state : State
  pub page : ℕ
  pub expected : List ℕ

abbrev pub asking : State → ℕ → ℕ → ℕ → ℕ → Case
asking s n code share remainder = record { state = s; page = n; expected = code ∷ share ∷ remainder ∷ [] }

unfoldable pub meets : Case → Bool
meets c = same (numbers (page_cost c.state c.page)) c.expected

unfoldable pub cases : List Case
cases =
    -- "With no claimant the share is 0 and the remainder 16."
    asking (shared_by 0) 1 0 0 16
    -- "16 = n × share + remainder": 1 × 16 + 0, 3 × 5 + 1, 16 × 1 + 0; of more than 16 each n × 0 + 16.
    ∷ asking (shared_by 1) 1 0 16 0
    ∷ asking (shared_by 3) 1 0 5 1
    ∷ asking (shared_by 16) 1 0 1 0
    ∷ asking (shared_by 17) 1 0 0 16
    ∷ asking (shared_by 32) 1 0 0 16
    -- Another page of the same state has no claimant. Page V is none, and neither is one that 8 bits would take for page 1.
    ∷ asking (shared_by 3) 0 0 0 16
    ∷ asking (shared_by 3) 2 12 0 0
    ∷ asking (shared_by 3) 257 12 0 0
    -- Not well formed: the all-zero state, and a start with taker 0; 1 comes before 12.
    ∷ asking (fresh 257 1) 0 1 0 0 ∷ asking (start_bare 2 1).state 1 1 0 0 ∷ asking (start_bare 2 1).state 2 1 0 0 ∷ []

-- The query by other reasons, another number of claimants or another division.
unfoldable pub asked_by : (Bool → Core → ℕ → List Reason) → (Claims → ℕ → ℕ) → (ℕ → Cost) → Query
asked_by reasons count divide s n =
    let code = first (reasons (well_formed s) s.core n) in
    pick (eqb code 0) (costed 0 (divide (count s.core.claims n))) (uncosted code)

-- One that counts claims and not principals.
unfoldable pub counts_claims : Claims → ℕ → ℕ
counts_claims c n = sum 32 (λ p. count_of c p n)

-- One that leaves the remainder n: the equation holds, the bound does not.
unfoldable pub leaves_n : ℕ → Cost
leaves_n n = pick (eqb n 0) (cost 0 16) (cost (16 / n - 1) (16 % n + n))

-- One that divides 15.
unfoldable pub divides15 : ℕ → Cost
divides15 n = pick (eqb n 0) (cost 0 15) (cost (15 / n) (15 % n))

-- One that gives all to nobody, and one that rounds the share up.
unfoldable pub pays_nobody : ℕ → Cost
pays_nobody n = pick (eqb n 0) (cost 16 0) (cost_of n)

unfoldable pub rounds_up : ℕ → Cost
rounds_up n = pick (eqb n 0) (cost 0 16) (cost ((16 + n - 1) / n) 0)

-- One that takes page V for a page, one that asks nothing of the state, and one that judges 12 first.
unfoldable pub takes_page_v : Bool → Core → ℕ → List Reason
takes_page_v good c n = reason 1 (not good) ∷ reason 12 (ltb c.pages.v n) ∷ []

unfoldable pub takes_all : Bool → Core → ℕ → List Reason
takes_all good c n = reason 12 (no_page c.pages (page n)) ∷ []

unfoldable pub page_first : Bool → Core → ℕ → List Reason
page_first good c n = reason 12 (no_page c.pages (page n)) ∷ reason 1 (not good) ∷ []

-- One that answers alike.
unfoldable pub answers_alike : Query
answers_alike s n = costed 0 (cost 0 16)

-- A wrong query, the rule in the same shape, and where the first one answers something else.
pub record Wrong : Type 0 where
  pub wrong : Query
  pub right : Query
  pub state : State
  pub page : ℕ

abbrev pub wrongly : {A : Type 0} → (A → Query) → A → A → State → ℕ → Wrong
wrongly shape wrong right s n = record { wrong = shape wrong; right = shape right; state = s; page = n }

unfoldable pub queries : List Wrong
queries =
    wrongly (λ f. asked_by cost_reasons f cost_of) counts_claims claimants (shared_by 1) 1
    ∷ wrongly (λ f. asked_by cost_reasons claimants f) leaves_n cost_of (shared_by 1) 1
    ∷ wrongly (λ f. asked_by cost_reasons claimants f) divides15 cost_of (shared_by 3) 1
    ∷ wrongly (λ f. asked_by cost_reasons claimants f) divides15 cost_of (shared_by 0) 1
    ∷ wrongly (λ f. asked_by cost_reasons claimants f) pays_nobody cost_of (shared_by 0) 1
    ∷ wrongly (λ f. asked_by cost_reasons claimants f) rounds_up cost_of (shared_by 3) 1
    ∷ wrongly (λ f. asked_by f claimants cost_of) takes_page_v cost_reasons (shared_by 3) 2
    ∷ wrongly (λ f. asked_by f claimants cost_of) takes_all cost_reasons (start_bare 2 1).state 1
    ∷ wrongly (λ f. asked_by f claimants cost_of) page_first cost_reasons (start_bare 2 1).state 2
    ∷ wrongly (λ q. q) answers_alike page_cost (shared_by 3) 1 ∷ []

-- A query that answers what the rule answers, of every state and page.
abbrev pub Answers : Query → Type 0
Answers q = (s : State) (n : ℕ) → q s n ≡ page_cost s n

unfoldable pub differs : Query → Wrong → Bool
differs q w = apart numbers (q w.state w.page) (page_cost w.state w.page)

unfoldable pub shown : Wrong → Bool
shown w = differs w.wrong w && not (differs w.right w)

-- None of the wrong queries answers what the rule answers.
abbrev pub NoneAnswers : List Wrong → Type 0
NoneAnswers = Every (λ w. Answers w.wrong → ⊥)
