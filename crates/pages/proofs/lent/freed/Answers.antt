-- `pages::lent::freed`: 0 alone is Unmapped.
use Rattle.std.proofs.Common.{sym, ◌∙◌}
use borrow.Author.Tests.{eq-eqb, ne_eqb}
use Rattle.capabilities.proofs.Choice.{pick_yes, pick_no}
use Rattle.pages.specs.declared.PageState.TheVariants.{Freed}
use Rattle.pages.specs.Entries.{is_unmapped}
use Rattle.pages.specs.Numbers.{page_from, page_code}
use Rattle.pages.proofs.Reading.{unmapped_code}
use Rattle.pages.proofs.lent.freed.Goals as goal

pub returns-then-number : goal.returns-then-number
unfolding page_code
returns-then-number c =
    let n = c.args.number in
    c.number-then-number.ensures ∙ sym (pick_yes (is_unmapped (page_from n)) 1 n (sym (unmapped_code n) ∙ eq-eqb n 0 (c.if-number.true ∙ c.number.ensures)))

pub returns-else-number : goal.returns-else-number
unfolding page_code
returns-else-number c =
    let n = c.args.number in
    sym (pick_no (is_unmapped (page_from n)) (page_code Freed) n (sym (unmapped_code n) ∙ ne_eqb n 0 (λ z. c.if-number.false (z ∙ sym c.number.ensures))))
