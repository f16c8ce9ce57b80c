-- `words::collecting::collect_mail` meets its contract. After i turns the first i mailboxes are replaced, cell and tag: `beside_turn`.
use native.Mathlib.Omega.{arith}
use mathlib.Core.Path.{◌≡◌, ap, ◌∙◌}
use lib.ListN.{get_or}
use Rattle.words.specs.Lent.{collected_mark, collected_cell, collected_marks, collected_mail}
use Rattle.words.proofs.Lent.{beside_none, beside_next, beside_turn, beside_whole}
use Rattle.words.proofs.collecting.collect_mail.Goals as goal

pub loop-i-init : goal.loop-i-init
loop-i-init c = let a = c.args in record {
  cells = beside_none (collected_cell a.range) a.flags.now a.mail.now;
  marks = beside_none (collected_mark a.range) a.mail.now a.flags.now;
}

pub loop-i-preserved : goal.loop-i-preserved
loop-i-preserved c =
    let a = c.args in
    let l = c.loop-i in
    let f = collected_cell a.range in
    let g = collected_mark a.range in
    let flag : get_or l.flags l.i 0 ≡ get_or a.flags.now l.i 0 = ap (λ k. get_or k l.i 0) l.invariant.marks ∙ beside_next g a.mail.now a.flags.now l.i in
    let cell : get_or l.mail l.i 0 ≡ get_or a.mail.now l.i 0 = ap (λ k. get_or k l.i 0) l.invariant.cells ∙ beside_next f a.flags.now a.mail.now l.i in
    record {
      cells = beside_turn f a.flags.now a.mail.now l.i l.mail _ (omega arith) (omega arith) l.invariant.cells (c.collected_cell.ensures ∙ ap (λ t. f t (get_or l.mail l.i 0)) flag);
      marks = beside_turn g a.mail.now a.flags.now l.i l.flags _ (omega arith) (omega arith) l.invariant.marks (c.collected_mark.ensures ∙ ap (λ x. g x (get_or l.flags l.i 0)) cell);
    }

pub returns : goal.returns
unfolding collected_marks collected_mail
returns c = let a = c.args in let l = c.loop-i in record {
  mail_after = l.invariant.cells ∙ beside_whole (collected_cell a.range) a.flags.now a.mail.now l.i (omega arith);
  flags_after = l.invariant.marks ∙ beside_whole (collected_mark a.range) a.mail.now a.flags.now l.i (omega arith);
}
