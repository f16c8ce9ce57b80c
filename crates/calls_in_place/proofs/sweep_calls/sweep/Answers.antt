-- `calls_in_place::sweep_calls::sweep` meets its contract: what `sweep_in` leaves is what `sweep_sized` and `sweep_done` name.
use Rattle.std.proofs.lemmas.Result.{err_from_is_err_and}
use Rattle.calls_in_place.specs.Parts.{with_numbers}
use Rattle.calls_in_place.proofs.Sweeping.{sweep_sized, sweep_done}
use Rattle.calls_in_place.proofs.sweep_calls.sweep.Goals as goal

pub returns-in_err-swept : goal.returns-in_err-swept
returns-in_err-swept c =
    let a = c.args in
    let p = err_from_is_err_and c.from_residual-in_err-swept.result c.from_residual-in_err-swept.ensures.1 in
    λ m ef lc lt f. rw (p.1, p.2) (sweep_sized (with_numbers m a.nums.now) f a.party a.n a.cells.now a.tags.now _ _ _ _ c.in_err-swept.ensures ef c.revoked_range-range.ensures lc lt)

pub returns : goal.returns
returns c =
    let a = c.args in
    λ m ef lc lt f. sweep_done (with_numbers m a.nums.now) f a.party a.n a.cells.now a.tags.now c.in_ok-manager_check.ensures c.if-nums-eq0.false
    _ _ _ _ _ c.in_ok-swept.ensures ef c.revoked_range-range.ensures lc lt
