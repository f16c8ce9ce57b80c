-- `pages::lent::any_mapped`: the range's pages are a part of all.
use Rattle.std.proofs.Common.{◌∙◌, ap, refl, leb, not}
use Rattle.pages.proofs.Parts.{test_more, test_whole, mapped_there}
use Rattle.pages.proofs.lent.any_mapped.Goals as goal

pub loop-number-preserved : goal.loop-number-preserved
loop-number-preserved c = test_more (λ k n. leb n 1) _ _ _ c.loop-number.invariant _ 0 c.loop-number-test.true refl

pub returns : goal.returns
returns c =
    λ v f frames. ap not (test_whole (λ k n. leb n 1) _ _ _ c.loop-number.invariant c.loop-number-test.false)
    ∙ mapped_there c.args.range c.args.pages.now _ _ c.places-start.ensures.start c.places-start.ensures.end v f frames
