-- `printing::session::lines` meets its contract. The bytes that are looked at, and no others, are handed on.
use native.Mathlib.Omega.{arith}
use mathlib.Core.Path.{sym}
use lib.Seq.{length-take-le}
use Rattle.session_rules.proofs.Sessions.{take_within, lines_counted}
use Rattle.printing.proofs.session.lines.Goals as goal

pub slice_bounds-read_lines-end : goal.slice_bounds-read_lines-end
slice_bounds-read_lines-end g c =
    let e = c.looked_at-n.ensures.value in
    let l = c.args.input.now in
    let w = take_within 32768 l in
    sym (length-take-le c.looked_at-n.result l (omega (arith, e, w)))

pub read_lines-requires : goal.read_lines-requires
read_lines-requires g c =
    let e = c.looked_at-n.ensures.value in
    let l = c.args.input.now in
    let w = take_within 32768 l in
    let m = c.looked_at-n.ensures.upper_bound in
    let k = length-take-le c.looked_at-n.result l (omega (arith, e, w)) in
    omega (arith, e, m, k)

pub returns : goal.returns
returns g c = let both = lines_counted c.args.input.now c.looked_at-n.result c.looked_at-n.ensures.value (c.read_lines.ensures.laid, c.read_lines.ensures.spared) in record { laid = both.0; spared = both.1 }
