-- Every short history that the request asks for stands in the list, and nothing else. Assumes nothing.
use Prim.Native.Nat.{ℕ, zero, suc, ◌≤◌}
use native.Mathlib.Omega.{arith}
use mathlib.Core.Bool.{true}
use mathlib.Core.Logic.{inl, inr}
use mathlib.Core.List.{List, [], ◌∷◌, map, flatten}
use mathlib.Core.Path.{◌≡◌, refl, sym, subst}
use lib.ListN.{length}
use lib.Dec.{eqb}
use borrow.Author.Tests.{eqb-true, eq-eqb}
use Rattle.capabilities.specs.Lists.{In}
use Rattle.capabilities.proofs.Choice.{and_left, and_right, both}
use Rattle.capabilities.proofs.Members.{in_map, from_map, in_filter, from_filter, in_flatten, from_flatten}
use Rattle.calls.specs.declared.Call.{Call}
use Rattle.histories.specs.Runs.{Machine, outcome, next}
use Rattle.short_histories.specs.Listed.{listed}
use Rattle.short_histories.specs.Histories.{fresh_one, grants_all, sequences, counts, histories}
use Rattle.short_histories.specs.Promises.{GrantedInTurn, NothingElse, NothingMissing}
use Rattle.short_histories.proofs.Choosing.{in_choices, from_choices}

-- The test says that each is granted in its turn.
granted : (m : Machine) (calls : List Call) → grants_all m calls ≡ true → GrantedInTurn m calls
unfolding grants_all GrantedInTurn
granted m [] e = tt
granted m (c ∷ calls) e = (
  eqb-true (outcome m c).answer.code 0 (and_left (eqb (outcome m c).answer.code 0) (grants_all (next m c) calls) e),
  granted (next m c) calls (and_right (eqb (outcome m c).answer.code 0) (grants_all (next m c) calls) e),
)

passes : (m : Machine) (calls : List Call) → GrantedInTurn m calls → grants_all m calls ≡ true
unfolding grants_all GrantedInTurn
passes m [] g = refl
passes m (c ∷ calls) g = both (eqb (outcome m c).answer.code 0) (grants_all (next m c) calls) (eq-eqb (outcome m c).answer.code 0 g.0) (passes (next m c) calls g.1)

-- The counts are those up to 3.
in_counts : (n : ℕ) → n ≤ 3 → In n counts
in_counts zero h = inl refl
in_counts (suc zero) h = inr (inl refl)
in_counts (suc (suc zero)) h = inr (inr (inl refl))
in_counts (suc (suc (suc zero))) h = inr (inr (inr (inl refl)))
in_counts (suc (suc (suc (suc n)))) h = let z : ⊥ = omega arith in absurd z

from_counts : (n : ℕ) → In n counts → n ≤ 3
from_counts n (inl e) = rw e (omega arith)
from_counts n (inr (inl e)) = rw e (omega arith)
from_counts n (inr (inr (inl e))) = rw e (omega arith)
from_counts n (inr (inr (inr (inl e)))) = rw e (omega arith)
from_counts n (inr (inr (inr (inr i)))) = absurd i

pub nothing_missing : NothingMissing
unfolding histories sequences
nothing_missing calls a =
    in_filter (grants_all fresh_one) (flatten (map sequences counts)) calls
    (in_flatten (map sequences counts) (sequences (length calls)) calls (in_map sequences counts (length calls) (in_counts (length calls) (omega (arith, a.short))))
    (in_choices listed calls a.of_listed))
    (passes fresh_one calls a.granted)

pub nothing_else : NothingElse
unfolding histories sequences
nothing_else calls i =
    let (j, e) = from_filter (grants_all fresh_one) (flatten (map sequences counts)) calls i in
    let (block, (k, p)) = from_flatten (map sequences counts) calls j in
    let (n, (q, is)) = from_map sequences counts block k in
    let (len, all) = from_choices listed n calls (subst (In calls) (sym is) p) in
    record { short = omega (arith, len, from_counts n q); of_listed = all; granted = granted fresh_one calls e }
