-- `pages::sound::counts` meets its contract. After each turn the tally has the counts over the pages so far.
use native.Mathlib.Omega.{arith}
use mathlib.Core.Path.{refl, sym, ap, subst, ◌∙◌}
use Prim.Native.Nat.{◌+◌, ◌<◌}
use mathlib.Core.List.{map}
use lib.ListN.{take, get_or-replicate, length-set, length-map}
use lib.Seq.{take_all}
use borrow.Author.Tests.{lt-ltb, le-ltb}
use Rattle.capabilities.specs.Lists.{each}
use Rattle.capabilities.proofs.Lists.{each_more}
use Rattle.pages.specs.Layer.{Tally, mappings}
use Rattle.pages.specs.Numbers.{page_in}
use Rattle.pages.specs.Sound.{shows_below}
use Rattle.pages.proofs.Testing.{each_fails, count_hit, count_miss, count_most, shows_low, shows_none}
use Rattle.pages.proofs.sound.counts.Goals as goal
use Rattle.pages.proofs.sound.counts.Goals.{in-Mapped, in_default}

pub loop-number-init : goal.loop-number-init
unfolding each mappings
loop-number-init c = (rw c.requires.tally_value, refl, rw c.requires.tally_value (λ k j. get_or-replicate 128 k 0 0 j))

pub returns-then-limit-number-clause-value : goal.returns-then-limit-number-clause-value
unfolding shows_below
returns-then-limit-number-clause-value c = each_fails (shows_below c.args.f) c.args.pages.now c.loop-number.number-index c.loop-number-test.true (le-ltb _ _ c.if-limit-number.true)

pub bounds-tally-frame : goal.bounds-tally-frame
bounds-tally-frame c = shows_low _ c.in-Mapped.frame (sym c.from.ensures ∙ c.in-Mapped.is) (omega (arith, c.requires))

pub bounds-tally-frame-in-Mapped : goal.bounds-tally-frame-in-Mapped
bounds-tally-frame-in-Mapped c = shows_low _ c.in-Mapped.frame (sym c.from.ensures ∙ c.in-Mapped.is) (omega (arith, c.requires))

pub overflow_add-tally : goal.overflow_add-tally
overflow_add-tally c =
    let loop = c.loop-number in
    let low : c.in-Mapped.frame.0 < 128 = shows_low _ c.in-Mapped.frame (sym c.from.ensures ∙ c.in-Mapped.is) (omega (arith, c.requires)) in
    omega (arith, c.requires, count_most loop.tally c.args.pages.now loop.number-index c.loop-number-test.true loop.invariant.2 c.in-Mapped.frame.0 low)

pub loop-number-preserved : goal.loop-number-preserved
unfolding shows_below
loop-number-preserved c =
    let loop = c.loop-number in
    let l = map page_in c.args.pages.now in (
      elim c.match-from.branch [ in-Mapped w ↦ rw (w.tally-is, length-set) loop.invariant.0 | in_default w ↦ rw w.tally-is loop.invariant.0 ],
      rw (each_more (shows_below c.args.f) c.args.pages.now loop.number-index 0 c.loop-number-test.true) (rw loop.invariant.1 (lt-ltb _ _ c.if-limit-number.false)),
      elim c.match-from.branch [
        | in-Mapped w ↦
            let e = sym c.from.ensures ∙ w.in-Mapped.is in
            subst (λ t. Tally t (take (loop.number-index + 1) l)) (sym w.tally-is)
            (count_hit loop.tally c.args.pages.now loop.number-index c.loop-number-test.true loop.invariant.2 w.in-Mapped.frame e (shows_low _ w.in-Mapped.frame e (omega (arith, c.requires))) loop.invariant.0)
        | in_default w ↦
            subst (λ t. Tally t (take (loop.number-index + 1) l)) (sym w.tally-is)
            (count_miss loop.tally c.args.pages.now loop.number-index c.loop-number-test.true loop.invariant.2 (shows_none _ (λ g e. w.in_default.not-Mapped g (c.from.ensures ∙ e))))
      ],
    )

pub returns : goal.returns
returns c =
    let a = c.args in
    let loop = c.loop-number in record { value = sym loop.invariant.1 ∙ ap (each (shows_below a.f) 0) (take_all loop.number-index a.pages.now c.loop-number-test.false); tally = λ e. subst (Tally loop.tally) (take_all loop.number-index (map page_in a.pages.now) (omega (arith, length-map a.pages.now page_in))) loop.invariant.2 }
