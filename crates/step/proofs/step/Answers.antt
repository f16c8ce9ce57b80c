-- `step::step` meets its contract. Each kind of call is done by one function, whose promise is the step's for that kind.
use mathlib.Core.Path.{refl}
use Rattle.arrays.specs.Reading.{state_of}
use Rattle.arrays.specs.Lent.{held}
use Rattle.step.specs.Entries.{ruled_on}
use Rattle.calls_in_place.proofs.Tabling.{take_plain}
use Rattle.step.proofs.step.Goals as goal

pub returns-in-Take-clause-ruled : goal.returns-in-Take-clause-ruled
unfolding ruled_on
returns-in-Take-clause-ruled c formed fits = let m = c.args.machine.now in rw (c.in-Take.is, c.from.ensures) (take_plain (state_of (held m)) _ _ _ m.cells.now m.tags.now _ (c.take.ensures (held m) refl formed m.cells.now m.tags.now))

pub returns-in-Split-clause-ruled : goal.returns-in-Split-clause-ruled
unfolding ruled_on
returns-in-Split-clause-ruled c formed fits = let m = c.args.machine.now in rw (c.in-Split.is, c.from-in-Split.ensures) (c.split.ensures (held m) refl formed m.cells.now m.tags.now)

pub returns-in-Merge-clause-ruled : goal.returns-in-Merge-clause-ruled
unfolding ruled_on
returns-in-Merge-clause-ruled c formed fits = let m = c.args.machine.now in rw (c.in-Merge.is, c.from-in-Merge.ensures) (c.merge.ensures (held m) refl formed m.cells.now m.tags.now)

pub returns-in-Give-clause-ruled : goal.returns-in-Give-clause-ruled
unfolding ruled_on
returns-in-Give-clause-ruled c formed fits = let m = c.args.machine.now in rw (c.in-Give.is, c.from-in-Give.ensures) (c.give.ensures (held m) refl formed m.cells.now m.tags.now)

pub returns-in-Revoke-clause-ruled : goal.returns-in-Revoke-clause-ruled
unfolding ruled_on
returns-in-Revoke-clause-ruled c formed fits = let m = c.args.machine.now in rw (c.in-Revoke.is, c.from-in-Revoke.ensures) (c.revoke.ensures (held m) formed m.cells.now m.tags.now)

pub returns-in-Sweep-clause-ruled : goal.returns-in-Sweep-clause-ruled
unfolding ruled_on
returns-in-Sweep-clause-ruled c formed fits = let m = c.args.machine.now in rw (c.in-Sweep.is, c.from-in-Sweep.ensures) (c.sweep.ensures (held m) refl fits.0 fits.1 formed)

pub returns-in-Collect-clause-ruled : goal.returns-in-Collect-clause-ruled
unfolding ruled_on
returns-in-Collect-clause-ruled c formed fits = let m = c.args.machine.now in rw (c.in-Collect.is, c.from-in-Collect.ensures) (c.collect.ensures m.frames.now m.principals.now m.counts.now formed m.cells.now m.tags.now)

pub returns-in-Map-clause-ruled : goal.returns-in-Map-clause-ruled
unfolding ruled_on
returns-in-Map-clause-ruled c formed fits = let m = c.args.machine.now in rw (c.in-Map.is, c.from-in-Map.ensures) (c.map.ensures (held m) refl refl formed m.cells.now m.tags.now)

pub returns-in-Unmap-clause-ruled : goal.returns-in-Unmap-clause-ruled
unfolding ruled_on
returns-in-Unmap-clause-ruled c formed fits = let m = c.args.machine.now in rw (c.in-Unmap.is, c.from-in-Unmap.ensures) (c.unmap.ensures (held m) refl refl refl formed m.cells.now m.tags.now)

pub returns-in-Zero-clause-ruled : goal.returns-in-Zero-clause-ruled
unfolding ruled_on
returns-in-Zero-clause-ruled c formed fits = let m = c.args.machine.now in rw (c.in-Zero.is, c.from-in-Zero.ensures) (c.zero.ensures (held m) refl fits.0 fits.1 formed)

pub returns-in-Load-clause-ruled : goal.returns-in-Load-clause-ruled
unfolding ruled_on
returns-in-Load-clause-ruled c formed fits = let m = c.args.machine.now in rw (c.in-Load.is, c.from-in-Load.ensures) (c.load.ensures (held m) refl refl formed)

pub returns-in-Store-clause-ruled : goal.returns-in-Store-clause-ruled
unfolding ruled_on
returns-in-Store-clause-ruled c formed fits = let m = c.args.machine.now in rw (c.in-Store.is, c.from-in-Store.ensures) (c.store.ensures (held m) refl refl refl refl formed)

pub returns-in-Narrow-clause-ruled : goal.returns-in-Narrow-clause-ruled
unfolding ruled_on
returns-in-Narrow-clause-ruled c formed fits = let m = c.args.machine.now in rw (c.in-Narrow.is, c.from-in-Narrow.ensures) (c.narrow.ensures (held m) formed m.cells.now m.tags.now)

pub returns-in-Number-clause-ruled : goal.returns-in-Number-clause-ruled
unfolding ruled_on
returns-in-Number-clause-ruled c formed fits = let m = c.args.machine.now in rw (c.in-Number.is, c.from-in-Number.ensures) (c.number.ensures (held m) formed m.cells.now m.tags.now)

pub returns-in-Grant-clause-ruled : goal.returns-in-Grant-clause-ruled
unfolding ruled_on
returns-in-Grant-clause-ruled c formed fits = let m = c.args.machine.now in rw (c.in-Grant.is, c.from-in-Grant.ensures) (c.grant.ensures (held m) formed m.cells.now m.tags.now)

pub returns-in-Receive-clause-ruled : goal.returns-in-Receive-clause-ruled
unfolding ruled_on
returns-in-Receive-clause-ruled c formed fits = let m = c.args.machine.now in rw (c.in-Receive.is, c.from-in-Receive.ensures) (c.receive.ensures (held m) formed m.cells.now m.tags.now)

pub returns-in-TakeMasked-clause-ruled : goal.returns-in-TakeMasked-clause-ruled
unfolding ruled_on
returns-in-TakeMasked-clause-ruled c formed fits = let m = c.args.machine.now in rw (c.in-TakeMasked.is, c.from-in-TakeMasked.ensures) (c.take-in-TakeMasked.ensures (held m) refl formed m.cells.now m.tags.now)

pub returns-in-Create-clause-ruled : goal.returns-in-Create-clause-ruled
unfolding ruled_on
returns-in-Create-clause-ruled c formed fits = let m = c.args.machine.now in rw (c.in-Create.is, c.from-in-Create.ensures) (c.create.ensures m.nums.v m.counts.now (held m) refl formed m.cells.now m.tags.now)

pub returns-in-Claim-clause-ruled : goal.returns-in-Claim-clause-ruled
unfolding ruled_on
returns-in-Claim-clause-ruled c formed fits = let m = c.args.machine.now in rw (c.in-Claim.is, c.from-in-Claim.ensures) (c.claim.ensures (held m) refl formed m.cells.now m.tags.now)

pub returns-in-Release-clause-ruled : goal.returns-in-Release-clause-ruled
unfolding ruled_on
returns-in-Release-clause-ruled c formed fits = let m = c.args.machine.now in rw (c.in-Release.is, c.from-in-Release.ensures) (c.release.ensures (held m) refl formed m.cells.now m.tags.now)

pub returns-in-Destroy-clause-ruled : goal.returns-in-Destroy-clause-ruled
unfolding ruled_on
returns-in-Destroy-clause-ruled c formed fits = let m = c.args.machine.now in rw (c.in-Destroy.is, c.from-in-Destroy.ensures) (c.destroy.ensures m.nums.v (held m) refl formed m.cells.now m.tags.now)
