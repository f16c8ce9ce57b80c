-- `pages::sound::layer_sound` meets its contract. Where the lengths fit, the four loops together are the rule: `layer_tested`.
use native.Mathlib.Omega.{arith}
use mathlib.Core.Path.{refl, sym, ap}
use lib.Seq.{length-take-le}
use Rattle.pages.specs.Sound.{is_unused}
use Rattle.pages.proofs.Testing.{fit, unfit, layer_tested}
use mathlib.Core.Bool.{not}
use Rattle.pages.proofs.sound.layer_sound.Goals as goal

pub returns-then-not-in_range-sized : goal.returns-then-not-in_range-sized
returns-then-not-in_range-sized c = let a = c.args in unfit a.v a.f a.pages.now a.frames.now _ c.in_range.ensures (ap not c.if-not-in_range-sized.true)

pub slice_bounds-counts-end : goal.slice_bounds-counts-end
slice_bounds-counts-end c =
    let a = c.args in
    let is = fit a.v a.f a.pages.now a.frames.now _ c.in_range.ensures (ap not c.if-not-in_range-sized.false) in
    sym (length-take-le a.v a.pages.now is.v_most)

pub counts-low-requires : goal.counts-low-requires
counts-low-requires c =
    let a = c.args in
    let is = fit a.v a.f a.pages.now a.frames.now _ c.in_range.ensures (ap not c.if-not-in_range-sized.false) in
    record { f_bound = omega arith; pages_len_bound = omega (arith, length-take-le a.v a.pages.now is.v_most); tally_value = refl }

pub slice_bounds-frames_counted-end : goal.slice_bounds-frames_counted-end
slice_bounds-frames_counted-end c =
    let a = c.args in
    let is = fit a.v a.f a.pages.now a.frames.now _ c.in_range.ensures (ap not c.if-not-in_range-sized.false) in
    sym (length-take-le a.f a.frames.now is.f_most)

pub frames_counted-counted-requires : goal.frames_counted-counted-requires
frames_counted-counted-requires c =
    let a = c.args in
    let is = fit a.v a.f a.pages.now a.frames.now _ c.in_range.ensures (ap not c.if-not-in_range-sized.false) in
    omega (arith, length-take-le a.f a.frames.now is.f_most)

pub returns : goal.returns
unfolding is_unused
returns c =
    let a = c.args in
    let is = fit a.v a.f a.pages.now a.frames.now _ c.in_range.ensures (ap not c.if-not-in_range-sized.false) in
    layer_tested a.v a.f a.pages.now a.frames.now is _ _ _ _ _ c.counts-low.ensures.value c.counts-low.ensures.tally c.unused-low_rest.ensures c.frames_counted-counted.ensures c.unused-counted_rest.ensures
