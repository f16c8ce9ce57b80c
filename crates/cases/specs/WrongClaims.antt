-- Document 02, 2026-02: what is wrong in the wrong machines of this request. Each part has the type of the rule that it replaces; they are
-- listed with the others (`WrongMachines`). Assumes nothing.
use Rattle.std.specs.Prelude.{ℕ, ◌+◌, ◌-◌, Bool, true, false, not, ◌&&◌, ◌||◌, List, [], ◌∷◌, ◌++◌, replicate, eqb}
use Rattle.capabilities.specs.Lists.{pick, map_each}
use Rattle.capabilities.specs.Refusals.{Reason, reason}
use Rattle.claims.specs.Claims.{Claims, claims, principal, nobody, in_being, holds, parent_of, unspent, count_of, limit_of, sum, claimed, with_principal, with_counts, with_unspent}
use Rattle.claims.specs.Tree.{leads_within, leads_up}
use Rattle.claims.specs.Operations.{with_count}
use Rattle.claims.specs.Numbers.{numbers_of}

-- A create that gives the child its limit and takes it from nobody.
unfoldable pub takes_no_limit : Claims → ℕ → ℕ → ℕ → ℕ → Claims
takes_no_limit c parent child limit holder = with_counts (with_principal c child (principal true holder parent limit)) child (replicate 256 0)

-- A claim that spends 1 at every count, and a release that gives 1 back at every count.
unfoldable pub spends_always : Claims → ℕ → ℕ → Claims
spends_always c p page = with_count (with_unspent c p (unspent c p - 1)) p page (count_of c p page + 1)

unfoldable pub returns_always : Claims → ℕ → ℕ → Claims
returns_always c p page = with_count (with_unspent c p (unspent c p + 1)) p page (count_of c p page - 1)

-- A destroy by another test of who falls with a principal, or of another part of their limits returned: `destroy_of` is by `leads_up` and `limit_of`.
unfoldable pub destroys : (Claims → ℕ → ℕ → Bool) → (Claims → ℕ → ℕ) → Claims → ℕ → Claims
destroys falls limit c p =
    let left = claims (map_each (λ q x. pick (falls c p q) nobody x) 0 c.principals) (map_each (λ q l. pick (falls c p q) [] l) 0 c.counts) in
    with_unspent left (parent_of c p) (unspent c (parent_of c p) + sum 32 (λ q. pick (falls c p q) (limit c q) 0))

-- One that forgets grandchildren: it drops the principal and its children.
abbrev pub drops_children : Claims → ℕ → Claims
drops_children = destroys (λ c p q. leads_within 1 c p q) (λ c q. limit_of c q)

-- One that returns only what is unspent.
abbrev pub returns_unspent : Claims → ℕ → Claims
returns_unspent = destroys (λ c p q. leads_up c p q) (λ c q. unspent c q)

-- A destroy that the principal's own holder may do too.
unfoldable pub own_may_destroy : Claims → ℕ → ℕ → List Reason
own_may_destroy c party p =
    reason 20 (not (in_being c p && (not (eqb p 0) && (holds c party (parent_of c p) || holds c party p)))) ∷ []

-- A claim that lets a count pass 65,535.
unfoldable pub passes_last : Claims → ℕ → ℕ → ℕ → List Reason
passes_last c party p page = reason 20 (not (holds c party p)) ∷ reason 21 (eqb (count_of c p page) 0 && eqb (unspent c p) 0) ∷ []

-- An unmap that ignores claims, and one that is told of the page before.
abbrev pub told_nothing : Claims → ℕ → Bool
told_nothing c page = false

abbrev pub told_of_other : Claims → ℕ → Bool
told_of_other c page = claimed c (page - 1)

-- Counts, one principal after the other; one that is not in being has none.
unfoldable pub all_counts : List (List ℕ) → List ℕ
all_counts [] = []
all_counts (l ∷ rest) = l ++ all_counts rest

-- All numbers of claims.
abbrev pub claim_numbers : Claims → List ℕ
claim_numbers c = numbers_of c ++ all_counts c.counts
