-- `lines::put_long` meets its contract. The widths give each number's place; where the line fits each is put there, else nothing is written.
use native.Mathlib.Omega.{arith}
use Prim.Native.Nat.{◌+◌}
use Rattle.lines.specs.Lines.{line_of}
use Rattle.lines.proofs.Laying.{in_past, in_laid, laid_line, line_length}
use Rattle.lines.proofs.put_long.Goals as goal

pub returns-then-out-end : goal.returns-then-out-end
returns-then-out-end c =
    let a = c.args in
    let one = c.width.ensures.value in
    let two = c.width-2.ensures.value in
    let end = a.at + c.width.result + 1 + c.width-2.result + 3 in
    let both = in_past (line_of a.code a.number a.tag) a.at end a.out.now (rw (line_length a.code a.number a.tag) (omega (arith, one, two))) c.if-out-end.true in
    record { value = both.0; out_after = both.1 }

pub returns : goal.returns
returns c =
    let a = c.args in
    let first = a.at + c.width.result in
    let second = first + 1 + c.width-2.result in
    let p = c.put.ensures a.at (omega (arith, c.width.ensures.value)) in
    let q = c.put-2.ensures (first + 1) (omega (arith, c.width-2.ensures.value)) in
    let laid = laid_line a.code a.number a.tag a.at first second (second + 3) a.out.now _ _ _ p (omega (arith, p.size)) q c.put_tag.ensures in
    let both = in_laid (line_of a.code a.number a.tag) a.at (second + 3) a.out.now (omega arith) laid in
    record { value = both.0; out_after = both.1 }
