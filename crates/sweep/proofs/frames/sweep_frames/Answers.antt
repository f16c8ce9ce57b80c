-- `sweep::frames::sweep_frames` meets its contract. After the cells up to i are passed the tags are those of the specification up to i; a turn passes those to the frame's end, of a Mapped frame (`frame_shown`) or of another (`frame_hidden`).
use Rattle.sweep.proofs.ByFrames.{swept_nothing, swept_end, frame_shown, frame_hidden}
use native.Mathlib.Omega.{arith}
use mathlib.Core.Path.{◌≡◌, refl, sym, ap, ◌∙◌}
use Prim.Native.Nat.{◌+◌, ◌*◌, ◌/◌, min}
use mathlib.Core.List.{map}
use lib.ListN.{length}
use Rattle.pages.specs.Numbers.{frame_in}
use Rattle.sweep.specs.Sweep.{swept_tags}
use Rattle.sweep.proofs.Sweeping.{swept_none, length_swept}
use Rattle.sweep.proofs.Sweeps.{swept_twice}
use Rattle.sweep.proofs.frames.sweep_frames.Goals as goal

pub returns-then-range-eq0 : goal.returns-then-range-eq0
returns-then-range-eq0 c = let a = c.args in sym (swept_nothing (map frame_in a.frames.now) a.range a.from a.upto a.cells.now a.tags.now c.if-range-eq0.true)

pub loop-i-init : goal.loop-i-init
loop-i-init c = let a = c.args in (omega arith, omega arith, refl, swept_none (map frame_in a.frames.now) a.range a.from a.cells.now a.tags.now)

pub loop-i-preserved-then-shown_in : goal.loop-i-preserved-then-shown_in
loop-i-preserved-then-shown_in c =
    let a = c.args in
    let l = map frame_in a.frames.now in
    let i = c.loop-i.i in
    let stop = c.min-stop.result in
    let s : stop ≡ min (16 * (i / 16) + 16) a.upto = omega (arith, c.min-stop.ensures) in
    let e : c.sweep_cells.new.tags ≡ swept_tags l a.range a.from stop a.cells.now a.tags.now =
    c.sweep_cells.ensures l (frame_shown l a.range i a.upto stop s (sym c.shown_in.ensures ∙ c.if-shown_in.true))
    ∙ ap (swept_tags l a.range i stop a.cells.now) c.loop-i.invariant.3
    ∙ swept_twice l a.range a.cells.now a.tags.now a.from i stop c.loop-i.invariant.0 (omega (arith, s)) in
    (omega (arith, s), omega (arith, s), ap length e ∙ length_swept l a.range a.from a.cells.now a.tags.now stop, e)

pub loop-i-preserved : goal.loop-i-preserved
loop-i-preserved c =
    let a = c.args in
    let l = map frame_in a.frames.now in
    let i = c.loop-i.i in
    let stop = c.min-stop.result in
    let s : stop ≡ min (16 * (i / 16) + 16) a.upto = omega (arith, c.min-stop.ensures) in
    let e : c.loop-i.tags ≡ swept_tags l a.range a.from stop a.cells.now a.tags.now =
    frame_hidden l a.range i a.upto stop s a.cells.now c.loop-i.tags (sym c.shown_in.ensures ∙ c.if-shown_in.false)
    ∙ ap (swept_tags l a.range i stop a.cells.now) c.loop-i.invariant.3
    ∙ swept_twice l a.range a.cells.now a.tags.now a.from i stop c.loop-i.invariant.0 (omega (arith, s)) in
    (omega (arith, s), omega (arith, s), ap length e ∙ length_swept l a.range a.from a.cells.now a.tags.now stop, e)

pub returns : goal.returns
returns c =
    let a = c.args in
    c.loop-i.invariant.3 ∙ swept_end (map frame_in a.frames.now) a.range a.from a.upto a.cells.now a.tags.now c.loop-i.i c.loop-i.invariant.0 (omega arith) c.loop-i.invariant.1
