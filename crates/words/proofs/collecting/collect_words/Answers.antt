-- `words::collecting::collect_words` meets its contract. After i turns the marks beside the first i words are replaced: `beside_turn`.
use native.Mathlib.Omega.{arith}
use mathlib.Core.Path.{◌∙◌}
use Rattle.words.specs.Lent.{collected_mark, collected_marks}
use Rattle.words.proofs.Lent.{beside_none, beside_turn, beside_whole}
use Rattle.words.proofs.collecting.collect_words.Goals as goal

pub loop-i-init : goal.loop-i-init
loop-i-init c = let a = c.args in beside_none (collected_mark a.range) a.words.now a.marks.now

pub loop-i-preserved : goal.loop-i-preserved
loop-i-preserved c =
    let a = c.args in
    let l = c.loop-i in
    beside_turn (collected_mark a.range) a.words.now a.marks.now l.i l.marks _ (omega arith) (omega arith) l.invariant c.collected_mark.ensures

pub returns : goal.returns
unfolding collected_marks
returns c = let a = c.args in c.loop-i.invariant ∙ beside_whole (collected_mark a.range) a.words.now a.marks.now c.loop-i.i (omega arith)
