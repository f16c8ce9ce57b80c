-- `cost::page_cost` meets its contract. Refused, the code says why; granted, the arrays are well formed and the counts are the state's.
use mathlib.Core.Bool.{not}
use mathlib.Core.Path.{sym, ap, ap₂, ◌∙◌}
use borrow.Author.Rules.{rules}
use borrow.Author.Tests.{not-true, not-false, le-leb, lt-leb}
use Rattle.arrays.specs.Lent.{seen}
use Rattle.claims.specs.Cost.{cost, cost_of}
use Rattle.machine.specs.Cost.{costed}
use Rattle.cost.proofs.Asking.{asked_ill, asked_past, asked_low, asked_cost}
use Rattle.cost.proofs.page_cost.Goals as goal

pub returns-then-not-formed : goal.returns-then-not-formed
returns-then-not-formed c = asked_ill (seen c.args.view) c.args.page (sym c.formed.ensures ∙ not-true _ (ap not c.if-not-formed.true))

pub returns-then-view-page : goal.returns-then-view-page
returns-then-view-page c =
    asked_past (seen c.args.view) c.args.page (sym c.formed.ensures ∙ not-false _ (ap not c.if-not-formed.false)) (le-leb _ _ c.if-view-page.true)

pub overflow_cast-page : goal.overflow_cast-page
overflow_cast-page c =
    let low = asked_low (seen c.args.view) c.args.page (sym c.formed.ensures ∙ not-false _ (ap not c.if-not-formed.false)) (lt-leb _ _ c.if-view-page.false) in
    search (rules, low)

pub returns : goal.returns
returns c =
    ap₂ (λ s r. costed 0 (cost s r)) c.share.ensures c.remainder.ensures
    ∙ ap (λ k. costed 0 (cost_of k)) c.claimants-n.ensures
    ∙ asked_cost (seen c.args.view) c.args.page (sym c.formed.ensures ∙ not-false _ (ap not c.if-not-formed.false)) (lt-leb _ _ c.if-view-page.false)
