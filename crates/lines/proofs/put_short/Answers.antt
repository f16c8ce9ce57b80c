-- `lines::put_short` meets its contract. Where it fits, three bytes and the line's end; else nothing is written.
use native.Mathlib.Omega.{arith}
use Prim.Native.Nat.{◌+◌}
use Rattle.lines.specs.Lines.{line_of}
use Rattle.lines.proofs.Laying.{short_past, in_laid, laid_short, laid_three}
use Rattle.lines.proofs.put_short.Goals as goal

pub returns-then-out-end : goal.returns-then-out-end
returns-then-out-end c =
    let a = c.args in
    let both = short_past a.code a.number a.tag a.at a.out.now c.requires.code_bound c.requires.number_bound c.if-out-end.true in
    record { value = both.0; out_after = both.1 }

pub returns : goal.returns
returns c =
    let a = c.args in
    let front = laid_three (48 + a.code) 32 (48 + a.number) a.at a.out.now (omega arith) in
    let laid = laid_short a.code a.number a.tag a.at a.out.now c.requires.code_bound c.requires.number_bound _ _ front c.put_tag.ensures in
    let both = in_laid (line_of a.code a.number a.tag) a.at (a.at + 6) a.out.now (omega arith) laid in
    record { value = both.0; out_after = both.1 }
