-- `short_histories::walk::extend` meets its contract. With no command to come the one history is put; else each turn puts the lines that
-- go on from one listed command, or none where that one is refused.
use native.Mathlib.Omega.{arith}
use mathlib.Core.Path.{sym, subst}
use lib.ListN.{length, take, length-append}
use Prim.Native.Nat.{ℕ, ◌+◌, ◌-◌, ◌<◌, ◌≤◌}
use mathlib.Core.List.{List}
use Rattle.calls.specs.Commands.{bytes_of}
use Rattle.calls.specs.declared.Call.{Call}
use Rattle.calls.specs.declared.Call.TheVariants.{Collect}
use Rattle.lines.specs.Laid.{Laid}
use Rattle.lines.proofs.Laying.{laid_none}
use Rattle.short_histories.specs.Listed.{listed}
use Rattle.short_histories.specs.Walk.{leading}
use Rattle.short_histories.proofs.Numbered.{listed_length}
use Rattle.short_histories.proofs.Extending.{listed_short, part_of, lines_none, lines_parts, part_granted, part_refused}
use Rattle.short_histories.proofs.Putting.{parts_none, parts_next, parts_room, parts_all}
use Rattle.short_histories.proofs.walk.+extend.Goals as goal
use Rattle.short_histories.proofs.walk.+extend.Goals.{in-Some, in_default}

pub put_line-requires : goal.put_line-requires
put_line-requires t c =
    let a = c.args in
    let m = a.machine in
    subst (λ (l : List ℕ). a.at + length l ≤ length a.out.now) (lines_none a.more a.history.now m.state.arrays m.cells m.tags c.if-more-eq0.true) c.requires.tags_in_bounds

pub returns-then-more-eq0 : goal.returns-then-more-eq0
returns-then-more-eq0 t c =
    let a = c.args in
    let m = a.machine in
    let put = c.put_line in
    subst (λ (l : List ℕ). Laid l a.at a.out.now put.result put.new.out) (sym (lines_none a.more a.history.now m.state.arrays m.cells m.tags c.if-more-eq0.true)) put.ensures

pub loop-k-init : goal.loop-k-init
loop-k-init t c =
    let a = c.args in
    let m = a.machine in
    parts_none (part_of a.more a.history.now m.state.arrays m.cells m.tags) listed (Collect 0) a.at a.out.now

pub longer-len-requires : goal.longer-len-requires
longer-len-requires t c =
    let s : length (bytes_of c.command-call.result) ≤ 6 = subst (λ (x : Call). length (bytes_of x) ≤ 6) (sym c.command-call.ensures) (listed_short c.loop-k.k c.loop-k-test.true) in
    omega (arith, s, c.requires.more_bound, c.if-more-eq0.false)

pub extend-end-requires : goal.extend-end-requires
extend-end-requires t c =
    let a = c.args in
    let m = a.machine in
    let pre = c.requires in
    let command = c.command-call in
    let loop = c.loop-k in
    let led = c.attempt in
    let next = c.in-Some in
    let longer = c.longer-len in
    let s : length (bytes_of command.result) ≤ 6 = subst (λ (x : Call). length (bytes_of x) ≤ 6) (sym command.ensures) (listed_short loop.k c.loop-k-test.true) in
    let part = part_of a.more a.history.now m.state.arrays m.cells m.tags in (
      subst (λ (j : ℕ). a.more - 1 < j) c.decreases (omega (arith, c.if-more-eq0.false)),
      (
        rw (longer.ensures.bytes_value, length-append a.history.now (bytes_of command.result)) (omega (arith, s, pre.more_bound, c.if-more-eq0.false)),
        subst (λ (l : List ℕ). loop.end + length l ≤ length loop.out)
            (sym (part_granted a.more a.history.now m.state.arrays m.cells m.tags loop.k command.result command.ensures led.result (λ m. leading m.state.arrays m.cells m.tags) led.ensures next.next next.is (take longer.result longer.new.bytes) longer.ensures.bytes_value))
            (parts_room part listed (Collect 0) a.at a.out.now loop.k loop.end loop.out loop.invariant (omega (arith, listed_length, c.loop-k-test.true))
            (subst (λ (l : List ℕ). a.at + length l ≤ length a.out.now) (lines_parts a.more a.history.now m.state.arrays m.cells m.tags c.if-more-eq0.false) pre.tags_in_bounds)),
      ),
    )

pub loop-k-preserved : goal.loop-k-preserved
loop-k-preserved t c =
    let a = c.args in
    let m = a.machine in
    let loop = c.loop-k in
    let command = c.command-call in
    let led = c.attempt in
    let more : loop.k < length listed = omega (arith, listed_length, c.loop-k-test.true) in
    let part = part_of a.more a.history.now m.state.arrays m.cells m.tags in
    elim c.match-attempt.branch [
      | in-Some w ↦
          let put = w.extend-end in
          let longer = w.longer-len in
          rw (w.out-is, w.end-is)
          (parts_next part listed (Collect 0) a.at a.out.now loop.k loop.end loop.out loop.invariant more put.result put.new.out
          (subst (λ (l : List ℕ). Laid l loop.end loop.out put.result put.new.out)
          (part_granted a.more a.history.now m.state.arrays m.cells m.tags loop.k command.result command.ensures led.result (λ m. leading m.state.arrays m.cells m.tags) led.ensures w.in-Some.next w.in-Some.is (take longer.result longer.new.bytes) longer.ensures.bytes_value)
          put.ensures))
      | in_default w ↦
          rw (w.out-is, w.end-is)
          (parts_next part listed (Collect 0) a.at a.out.now loop.k loop.end loop.out loop.invariant more loop.end loop.out
          (subst (λ (l : List ℕ). Laid l loop.end loop.out loop.end loop.out)
          (part_refused a.more a.history.now m.state.arrays m.cells m.tags loop.k command.result command.ensures led.result (λ m. leading m.state.arrays m.cells m.tags) led.ensures w.in_default.is) (laid_none loop.end loop.out)))
    ]

pub returns : goal.returns
returns t c =
    let a = c.args in
    let m = a.machine in
    let loop = c.loop-k in
    subst (λ (l : List ℕ). Laid l a.at a.out.now loop.end loop.out) (sym (lines_parts a.more a.history.now m.state.arrays m.cells m.tags c.if-more-eq0.false))
    (parts_all (part_of a.more a.history.now m.state.arrays m.cells m.tags) listed (Collect 0) a.at a.out.now loop.k loop.end loop.out loop.invariant (omega (arith, listed_length, c.loop-k-test.false)))
