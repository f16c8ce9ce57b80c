-- `table::LentRows::find` meets its contract: the rows before the first one looked at are not the one.
use native.Mathlib.Omega.{arith}
use mathlib.Core.Path.{sym, ◌∙◌}
use Prim.Native.Nat.{◌<◌}
use lib.ListN.{length}
use Rattle.table.specs.Rows.{live}
use Rattle.table.specs.Find.{begins}
use Rattle.table.specs.Numbers.{table_of}
use Rattle.table.proofs.Finding.{seek_end}
use Rattle.table.proofs.Reading.{read_more, read_here}
use Rattle.table.proofs.LentRows.find.Goals as goal

pub returns-then-begins_at : goal.returns-then-begins_at
returns-then-begins_at c =
    let a = c.args in
    let i = c.loop-i.i in
    let h : i < length (live (table_of a.self.rows.now a.self.count)) = omega (arith, c.loop-i-test.true, c.used-i-end.ensures.live) in
    sym (c.loop-i.invariant ∙ read_here (begins a.party a.base) a.self.rows.now a.self.count i h (sym c.begins_at.ensures ∙ c.if-begins_at.true))

pub loop-i-preserved : goal.loop-i-preserved
loop-i-preserved c =
    let a = c.args in
    let i = c.loop-i.i in
    let h : i < length (live (table_of a.self.rows.now a.self.count)) = omega (arith, c.loop-i-test.true, c.used-i-end.ensures.live) in
    c.loop-i.invariant ∙ read_more (begins a.party a.base) a.self.rows.now a.self.count i h (sym c.begins_at.ensures ∙ c.if-begins_at.false)

pub returns : goal.returns
returns c = sym (c.loop-i.invariant ∙ seek_end _ _ _ (omega (arith, c.loop-i-test.false, c.used-i-end.ensures.live)))
