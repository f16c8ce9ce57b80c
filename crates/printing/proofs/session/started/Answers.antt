-- `printing::session::started` meets its contract. The arrays are those that a fresh state is written as.
use Prim.Native.Nat.{◌*◌}
use mathlib.Core.Path.{sym, ap, ◌∙◌}
use lib.ListN.{length}
use Rattle.arrays.specs.Lent.{held}
use Rattle.printing.proofs.Arriving.{lent_zeroed, lent_long, begun_formed, begun_frames, begun_state}
use Rattle.printing.proofs.session.started.Goals as goal

pub commands-requires-clause-ready : goal.commands-requires-clause-ready
commands-requires-clause-ready g c =
    let a = c.args in
    let m = held c.open.new.machine in
    let kept = c.open.ensures.memory in
    let n = lent_long a.v a.f c.requires.f_value ∙ ap (λ k. 16 * k) (sym (begun_frames a.v a.f c.requires.f_value m c.open.ensures.opened)) in
    (begun_formed a.v a.f c.requires.f_value m c.open.ensures.opened, (ap length kept.0 ∙ n, ap length kept.1 ∙ n))

pub returns-clause-laid : goal.returns-clause-laid
returns-clause-laid g c =
    let kept = c.open.ensures.memory in
    let zero = lent_zeroed c.args.v c.args.f c.requires.f_value in
    let fresh = begun_state c.args.v c.args.f c.requires.f_value (held c.open.new.machine) c.open.ensures.opened in
    rw (fresh, kept.0 ∙ zero, kept.1 ∙ zero) at c.commands.ensures.laid
