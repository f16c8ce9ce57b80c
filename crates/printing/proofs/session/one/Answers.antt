-- `printing::session::one` meets its contract. Well-formed arrays pass the test, so that its refusal never comes.
use mathlib.Core.Bool.{not, true≢false}
use mathlib.Core.Path.{sym, ap, ◌∙◌}
use borrow.Author.Tests.{not-true}
use Rattle.arrays.specs.Lent.{held}
use Rattle.formed.specs.Test.{formed_of}
use Rattle.formed.proofs.Tested.{passing}
use Rattle.printing.proofs.session.one.Goals as goal

pub returns-then-not-formed-clause-judged : goal.returns-then-not-formed-clause-judged
returns-then-not-formed-clause-judged g c =
    let seen = ap formed_of (sym c.view.ensures) in
    absurd (true≢false (sym (passing (held c.args.machine.now) c.requires.0) ∙ seen ∙ sym c.formed.ensures ∙ not-true _ (ap not c.if-not-formed.true)))
