-- `short_histories::walk::attempt` meets its contract: it hands on what a granted call leaves.
use mathlib.Core.Path.{sym, ◌∙◌, ap}
use lib.Dec.{eqb}
use borrow.Author.Tests.{eq-eqb, ne_eqb}
use Rattle.std.specs.Prelude.{None}
use Rattle.capabilities.proofs.Choice.{pick_yes, pick_no}
use Rattle.short_histories.specs.Walk.{led_by}
use Rattle.short_histories.proofs.walk.attempt.Goals as goal

pub returns-then-done-ne0 : goal.returns-then-done-ne0
returns-then-done-ne0 c =
    let code = c.call-done.result.answer.code in
    unfold led_by in sym (pick_no (eqb code 0) _ None (ne_eqb code 0 c.if-done-ne0.true)) ∙ ap led_by c.call-done.ensures

pub returns : goal.returns
returns c =
    let code = c.call-done.result.answer.code in
    unfold led_by in sym (pick_yes (eqb code 0) _ None (eq-eqb code 0 c.if-done-ne0.false)) ∙ ap led_by c.call-done.ensures
