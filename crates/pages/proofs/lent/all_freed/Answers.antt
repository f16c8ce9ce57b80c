-- `pages::lent::all_freed`: the range's pages are a part of all.
use Rattle.std.proofs.Common.{◌∙◌, ap, eqb}
use Rattle.pages.specs.Numbers.{page_code}
use Rattle.pages.proofs.Parts.{test_more, test_whole, freed_there}
use Rattle.pages.proofs.lent.all_freed.Goals as goal

pub loop-number-preserved : goal.loop-number-preserved
unfolding page_code
loop-number-preserved c = test_more (λ k n. eqb n 1) _ _ _ c.loop-number.invariant _ 0 c.loop-number-test.true (ap (eqb _) c.number.ensures)

pub returns : goal.returns
returns c =
    λ v f frames. test_whole (λ k n. eqb n 1) _ _ _ c.loop-number.invariant c.loop-number-test.false
    ∙ freed_there c.args.range c.args.pages.now _ _ c.places-start.ensures.start c.places-start.ensures.end v f frames
