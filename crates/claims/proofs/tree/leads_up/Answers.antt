-- `claims::tree::leads_up`: `leads_on` goes one parent up.
use native.Mathlib.Omega.{arith}
use Prim.Native.Nat.{ℕ, ◌+◌, ◌-◌}
use mathlib.Core.Path.{◌≡◌, sym, ap, ap₂, ◌∙◌}
use Rattle.claims.specs.Tree.{leads_within}
use Rattle.claims.specs.Numbers.{claims_in}
use Rattle.claims.proofs.Descent.{leads_on}
use Rattle.claims.proofs.Reading.{parent_read}
use Rattle.claims.proofs.tree.leads_up.Goals as goal

pub loop-turn-preserved : goal.loop-turn-preserved
loop-turn-preserved c =
    let a = c.args in
    let loop = c.loop-turn in
    let q = c.principal_in-q in
    let next : 31 - loop._turn - 1 ≡ 31 - (loop._turn + 1) = omega arith in
    λ counts.
    let k = claims_in a.principals.now counts in
    loop.invariant counts ∙ leads_on k a.top (31 - loop._turn) loop.at c.if-at-top.false (omega arith)
    ∙ ap₂ (λ n p. leads_within n k a.top p) next (parent_read a.principals.now counts loop.at q.result q.ensures)

pub returns : goal.returns
unfolding leads_within
returns c =
    let a = c.args in
    let loop = c.loop-turn in
    let none : 31 - loop._turn ≡ 0 = omega arith in
    λ counts. sym (loop.invariant counts ∙ ap (λ (n : ℕ). leads_within n (claims_in a.principals.now counts) a.top loop.at) none)
