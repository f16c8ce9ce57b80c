-- `pages::lent::zero`: the frame's cells and tags come back 0 between what stood around them.
use Rattle.std.proofs.Common.{arith}
use Rattle.pages.specs.Numbers.{layer_of}
use Rattle.pages.proofs.Memory.{put_cleared, served}
use Rattle.pages.proofs.lent.zero.Goals as goal

pub returns-clause-cells_after : goal.returns-clause-cells_after
returns-clause-cells_after c =
    let of = served (layer_of 0 c.args.f c.args.frames.now c.args.frames.now) _ _ c.if-not-cells-size.false in
    put_cleared c.args.frame c.args.cells.now _ (omega arith) (c.fill.ensures.after (λ y h. cc))

pub returns-clause-tags_after : goal.returns-clause-tags_after
returns-clause-tags_after c =
    let of = served (layer_of 0 c.args.f c.args.frames.now c.args.frames.now) _ _ c.if-not-cells-size.false in
    put_cleared c.args.frame c.args.tags.now _ (omega arith) (c.fill-2.ensures.after (λ y h. cc))
