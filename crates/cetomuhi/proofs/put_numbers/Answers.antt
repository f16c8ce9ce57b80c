-- `cetomuhi::put_numbers` meets its contract. Six numbers are put over six, or none.
use mathlib.Core.Path.{◌∙◌}
use Rattle.cetomuhi.proofs.Writing.{over_six, over_other}
use Rattle.cetomuhi.proofs.put_numbers.Goals as goal

pub returns-then-lent-eq6 : goal.returns-then-lent-eq6
returns-then-lent-eq6 c = c.copy_from_slice.ensures.after ∙ over_six c.args.nums c.args.lent.now c.if-lent-eq6.true

pub returns-else-lent-eq6 : goal.returns-else-lent-eq6
returns-else-lent-eq6 c = over_other c.args.nums c.args.lent.now c.if-lent-eq6.false
