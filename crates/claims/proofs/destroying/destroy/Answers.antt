-- `claims::destroying::destroy`: of as many numbers and counts as the machine's, the refusal is `may_destroy`'s.
use Prim.Native.Nat.{ℕ}
use mathlib.Core.List.{List}
use mathlib.Core.Path.{sym, ap, ◌∙◌}
use Rattle.capabilities.specs.Refusals.{first, code}
use Rattle.claims.specs.Operations.{destroy_reasons}
use Rattle.claims.specs.Numbers.{claims_in}
use Rattle.claims.proofs.Reading.{sized_choice}
use Rattle.claims.proofs.destroying.destroy.Goals as goal

pub returns-clause-value : goal.returns-clause-value
returns-clause-value c =
    let a = c.args in
    let numbers = c.in-Some.ensures.cases in
    let counts = c.in-Some-as_mut_array.ensures.cases in
    ap code (sym c.in_ok-may_destroy.was) ∙ c.may_destroy.ensures a.counts.now
    ∙ ap (λ (l : List ℕ). first (destroy_reasons (claims_in l a.counts.now) a.party a.principal)) numbers.same
    ∙ sym (sized_choice a.principals.now a.counts.now _ numbers.long counts.long)
