-- `claims::operations::claim`: a count that may be claimed has room for one more.
use native.Mathlib.Omega.{arith}
use mathlib.Core.Path.{sym, ap, ◌∙◌}
use Rattle.capabilities.specs.Refusals.{code}
use Rattle.claims.specs.Lent.{principal_in, count_in}
use Rattle.claims.proofs.Reading.{claim_read, claim_room}
use Rattle.claims.proofs.operations.claim.Goals as goal

pub overflow_add-n : goal.overflow_add-n
overflow_add-n c =
    let a = c.args in
    let read = claim_read a.principals.now a.counts.now a.party a.principal a.page c.ranges.page.fits in
    let room = claim_room a.party (principal_in a.principals.now a.principal) (count_in a.counts.now a.principal a.page) (sym read ∙ sym c.may_claim.ensures ∙ ap code c.in_ok-may_claim.was) in
    omega (arith, room, c.count_in-n.ensures)
