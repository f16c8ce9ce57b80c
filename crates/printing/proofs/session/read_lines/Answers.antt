-- `printing::session::read_lines` meets its contract. V and F are missing, out of range or in range.
use Prim.Native.Nat.{◌+◌, ◌*◌}
use native.Mathlib.Omega.{arith}
use mathlib.Core.Bool.{false}
use mathlib.Core.Path.{◌≡◌, refl, sym}
use lib.ListN.{get_or}
use Rattle.lines.specs.Lines.{line_of}
use Rattle.lines.proofs.Laying.{laid_in_lem}
use Rattle.session_rules.proofs.Sessions.{read_short, read_out, read_in}
use Rattle.printing.proofs.session.read_lines.Goals as goal

pub returns-in_default : goal.returns-in_default
returns-in_default g c =
    let a = c.args in
    let put = c.put_line in
    let both = read_short a.input.now a.out.now put.result _ c.in_default.len_below (laid_in_lem (line_of 1 0 false) 0 put.result a.out.now put.ensures.value put.ensures.out_after) in
    record { laid = both.0; spared = both.1 }

pub returns-then-not-in_range : goal.returns-then-not-in_range
returns-then-not-in_range g c =
    let a = c.args in
    let put = c.put_line-then-not-in_range in
    let v = c.from_be_bytes-v in
    let big : v.result ≡ 256 * get_or a.input.now 0 0 + get_or a.input.now 1 0 = omega (arith, v.ensures) in
    let both = read_out a.input.now v.result (get_or a.input.now 2 0) big refl c.in-len3-up.len_at_least a.out.now put.result _ (sym c.if-not-in_range.ensures) (laid_in_lem (line_of 1 0 false) 0 put.result a.out.now put.ensures.value put.ensures.out_after) in
    record { laid = both.0; spared = both.1 }

pub returns : goal.returns
returns g c =
    let a = c.args in
    let put = c.put_line-end in
    let v = c.from_be_bytes-v in
    let big : v.result ≡ 256 * get_or a.input.now 0 0 + get_or a.input.now 1 0 = omega (arith, v.ensures) in
    let both = read_in a.input.now v.result (get_or a.input.now 2 0) big refl c.in-len3-up.len_at_least a.out.now put.result _ (sym c.if-not-in_range.ensures) (laid_in_lem (line_of 0 0 false) 0 put.result a.out.now put.ensures.value put.ensures.out_after) c.started.result _ c.started.ensures.laid c.started.ensures.upper_bound in
    record { laid = both.0; spared = both.1 }
