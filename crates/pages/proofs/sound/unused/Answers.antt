-- `pages::sound::unused`: one entry a turn.
use Rattle.std.proofs.Common.{ap, ◌∙◌}
use Rattle.pages.proofs.Parts.{test_more}
use Rattle.pages.proofs.sound.unused.Goals as goal

pub loop-x-preserved : goal.loop-x-preserved
loop-x-preserved g c = test_more (λ i x. g.T.PartialEq.eq x c.args.zero) _ _ _ c.loop-x.invariant _ c.x-item.result c.loop-x-test.true (c.eq-unused.ensures ∙ ap (λ y. g.T.PartialEq.eq y c.args.zero) c.x-item.is)
