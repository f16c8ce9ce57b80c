-- `lines::put` meets its contract. After each turn two digits more stand before those put, and the number's rest is still to be put.
use Prim.Native.Nat.{◌-◌}
use native.Mathlib.Omega.{arith}
use Rattle.lines.proofs.Laying.{spelt_two, spelt_pair, spelt_one, spelt_pair_room, spelt_one_room, spelt_within}
use Rattle.lines.proofs.put.Goals as goal

pub overflow_sub-first : goal.overflow_sub-first
overflow_sub-first c = spelt_pair_room c.loop-rest.invariant.spelt c.requires.n_len_bound (omega arith)

pub put_two-requires-clause-at_in_bounds : goal.put_two-requires-clause-at_in_bounds
put_two-requires-clause-at_in_bounds c =
    let s = c.loop-rest.invariant.spelt in
    let r = spelt_pair_room s c.requires.n_len_bound (omega arith) in
    let w = spelt_within s in
    omega (arith, r, w, s.laid.size)

pub loop-rest-preserved : goal.loop-rest-preserved
loop-rest-preserved c =
    let l = c.loop-rest in
    let r = spelt_pair_room l.invariant.spelt c.requires.n_len_bound (omega arith) in
    record {
      below = omega arith;
      spelt = rw c.put_two.ensures (spelt_two l.invariant.spelt c.requires.end_in_bounds (omega arith) (omega arith) (l.first - 2) (omega (arith, r)));
    }

pub overflow_sub-first-then-rest-ge10 : goal.overflow_sub-first-then-rest-ge10
overflow_sub-first-then-rest-ge10 c = spelt_pair_room c.loop-rest.invariant.spelt c.requires.n_len_bound (omega arith)

pub put_two-requires-then-rest-ge10-clause-at_in_bounds : goal.put_two-requires-then-rest-ge10-clause-at_in_bounds
put_two-requires-then-rest-ge10-clause-at_in_bounds c =
    let s = c.loop-rest.invariant.spelt in
    let r = spelt_pair_room s c.requires.n_len_bound (omega arith) in
    let w = spelt_within s in
    omega (arith, r, w, s.laid.size)

pub returns-then-rest-ge10 : goal.returns-then-rest-ge10
returns-then-rest-ge10 c at e =
    let l = c.loop-rest in
    let r = spelt_pair_room l.invariant.spelt c.requires.n_len_bound (omega arith) in
    rw c.put_two-then-rest-ge10.ensures
    (spelt_pair l.invariant.spelt c.requires.end_in_bounds (omega arith) (omega arith) (l.first - 2) (omega (arith, r)) at e)

pub overflow_sub-out : goal.overflow_sub-out
overflow_sub-out c = spelt_one_room c.loop-rest.invariant.spelt c.requires.n_len_bound

pub bounds-out-first : goal.bounds-out-first
bounds-out-first c =
    let s = c.loop-rest.invariant.spelt in
    let r = spelt_one_room s c.requires.n_len_bound in
    let w = spelt_within s in
    omega (arith, r, w, s.laid.size)

pub returns : goal.returns
returns c at e =
    let l = c.loop-rest in
    let r = spelt_one_room l.invariant.spelt c.requires.n_len_bound in
    spelt_one l.invariant.spelt c.requires.end_in_bounds c.if-rest-ge10.false (l.first - 1) (omega (arith, r)) at e
