-- What the calls on lent numbers and counts leave in them, whatever stands there. Assumes nothing.
use Rattle.std.specs.Prelude.{ℕ, zero, suc, ◌+◌, ◌-◌, ◌*◌, ◌/◌, ◌%◌, Bool, true, false, ◌||◌, List, get_or, set, eqb, ltb}
use Rattle.capabilities.specs.Lists.{pick, map_each}
use Rattle.claims.specs.declared.Principal.{Principal}
use Rattle.claims.specs.Claims.{Claims, principal, leaving, parent_of, one, sum}
use Rattle.claims.specs.Tree.{leads_up}
use Rattle.claims.specs.Operations.{returned}
use Rattle.claims.specs.Numbers.{principal_from, principal_code, claims_in}

abbrev pub principal_in : List ℕ → ℕ → Principal
principal_in numbers p = principal_from (get_or numbers p 0)

abbrev pub count_in : List ℕ → ℕ → ℕ → ℕ
count_in counts p page = get_or counts (256 * p + page) 0

-- A principal's number with another part of its limit unspent.
abbrev pub unspent_put : List ℕ → ℕ → ℕ → List ℕ
unspent_put numbers p n = set numbers p (principal_code (leaving (principal_in numbers p) n))

-- 12.
abbrev pub created_in : List ℕ → ℕ → ℕ → ℕ → ℕ → List ℕ
created_in numbers parent child limit holder =
    set (unspent_put numbers parent ((principal_in numbers parent).unspent - limit)) child (principal_code (principal true holder parent limit))

-- 13 and 14, by the count that stood there. Numbers that are no well-formed claims can have 65,535 unspent; one more is 0.
abbrev pub claimed_in : List ℕ → ℕ → ℕ → List ℕ
claimed_in numbers p n = pick (eqb n 0) (unspent_put numbers p ((principal_in numbers p).unspent - 1)) numbers

abbrev pub released_in : List ℕ → ℕ → ℕ → List ℕ
released_in numbers p n = pick (eqb n 1) (unspent_put numbers p (((principal_in numbers p).unspent + 1) % 65536)) numbers

-- 15: the entries of the principal and of its descendants become 0, and the parent gets what they had.
abbrev pub emptied : Claims → ℕ → ℕ → ℕ → ℕ
emptied c p q n = pick (leads_up c p q) 0 n

unfoldable pub destroyed_in : List ℕ → List ℕ → ℕ → List ℕ
destroyed_in numbers counts p =
    let c = claims_in numbers counts in
    let parent = parent_of c p in
    unspent_put (map_each (emptied c p) 0 numbers) parent (((principal_in numbers parent).unspent + returned c p) % 65536)

unfoldable pub cleared_in : List ℕ → List ℕ → ℕ → List ℕ
cleared_in numbers counts p = map_each (λ i n. emptied (claims_in numbers counts) p (i / 256) n) 0 counts

-- One of the first n principals counts the page above 0.
unfoldable pub any_counts : ℕ → List ℕ → ℕ → Bool
any_counts zero counts page = false
any_counts (suc n) counts page = any_counts n counts page || ltb 0 (count_in counts n page)

-- How many of the 32 principals count the page above 0.
abbrev pub claimants_in : List ℕ → ℕ → ℕ
claimants_in counts page = sum 32 (λ p. one (count_in counts p page))
