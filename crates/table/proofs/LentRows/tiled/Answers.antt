-- `table::LentRows::tiled` meets its contract.
use mathlib.Core.Path.{◌≡◌, sym, ap, ◌∙◌}
use Prim.Native.Nat.{◌+◌}
use mathlib.Core.Bool.{◌&&◌, and-true}
use lib.Dec.{eqb}
use lib.ListN.{get_or, take, drop, drop_of_length-le}
use Rattle.capabilities.proofs.Choice.{and_left}
use Rattle.table.proofs.Truth.{and_yes, and_no}
use Rattle.table.specs.Rows.{live}
use Rattle.table.specs.Tiling.{follows, tiles, taker_sound, takers_sound}
use Rattle.table.specs.Numbers.{row_from, table_of, written, all_written}
use Rattle.table.proofs.Testing.{tiled_by, tile_more, tiled_used, end_of}
use Rattle.table.proofs.LentRows.tiled.Goals as goal
use Rattle.table.proofs.LentRows.tiled.Goals.{At-loop-number}

-- What the rows in use have to pass is what is left of it at a turn.
left : (c : At-loop-number)
    → ((tiles 0 c.args.end (live (table_of c.args.self.rows.now c.args.self.count)) && takers_sound (live (table_of c.args.self.rows.now c.args.self.count))) && all_written (take c.args.self.count c.args.self.rows.now))
    ≡ tiled_by c.loop-number.from c.args.end (drop c.loop-number.number-index (take c.used.result c.args.self.rows.now))
left c =
    let a = c.args in
    tiled_used a.self.rows.now a.self.count a.end ∙ ap (λ k. tiled_by 0 a.end (take k a.self.rows.now)) (sym c.used.ensures.fits) ∙ c.loop-number.invariant

pub returns-then-not-follows_at : goal.returns-then-not-follows_at
returns-then-not-follows_at c =
    let m = c.loop-number in
    let rows = take c.used.result c.args.self.rows.now in
    sym (left (goal.at.returns-then-not-follows_at c).At-loop-number ∙ tile_more rows c.args.end m.number-index m.from c.loop-number-test.true ∙ and_no _ _ (sym c.follows_at.ensures ∙ c.if-not-follows_at.true))

pub loop-number-preserved : goal.loop-number-preserved
loop-number-preserved c =
    let m = c.loop-number in
    let rows = take c.used.result c.args.self.rows.now in
    let i = m.number-index in
    let x = get_or rows i 0 in
    let yes = sym c.follows_at.ensures ∙ c.if-not-follows_at.false in
    let front = and_left (follows m.from (row_from x) && taker_sound (row_from x)) (written x) yes in
    let there = end_of x m.from (and_left (follows m.from (row_from x)) (taker_sound (row_from x)) front) in
    m.invariant ∙ tile_more rows c.args.end i m.from c.loop-number-test.true ∙ and_yes _ _ yes ∙ ap (λ k. tiled_by k c.args.end (drop (i + 1) rows)) there

pub returns : goal.returns
unfolding tiles takers_sound all_written
returns c =
    let m = c.loop-number in
    let rows = take c.used.result c.args.self.rows.now in
    let e = eqb m.from c.args.end in
    sym (left (goal.at.returns c).At-loop-number ∙ ap (tiled_by m.from c.args.end) (drop_of_length-le rows c.loop-number-test.false) ∙ and-true (e && _) ∙ and-true e)
