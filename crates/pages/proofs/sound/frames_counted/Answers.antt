-- `pages::sound::frames_counted`: one frame a turn.
use Rattle.pages.specs.Sound.{is_counted}
use Rattle.pages.proofs.Parts.{test_more}
use Rattle.pages.proofs.sound.frames_counted.Goals as goal

pub loop-k-preserved : goal.loop-k-preserved
unfolding is_counted
loop-k-preserved c = test_more (is_counted c.args.tally.now) _ _ _ c.loop-k.invariant _ 0 c.loop-k-test.true c.frame_counted-sound.ensures
