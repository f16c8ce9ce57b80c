-- `short_histories::walk::put_line` meets its contract. After i turns the digits of the first i bytes stand there.
use native.Mathlib.Omega.{arith}
use lib.ListN.{length-set}
use Rattle.short_histories.proofs.Putting.{spelt_none, spelt_two, spelt_room, line_room, spelt_line}
use Rattle.short_histories.proofs.walk.put_line.Goals as goal

pub loop-byte-init : goal.loop-byte-init
loop-byte-init c = spelt_none c.args.bytes.now c.args.at c.args.out.now

pub bounds-out-end : goal.bounds-out-end
bounds-out-end c =
    let a = c.args in
    let loop = c.loop-byte in
    let room = spelt_room a.bytes.now a.at a.out.now c.requires loop.byte-index loop.end loop.out loop.invariant c.loop-byte-test.true in
    omega (arith, room)

pub overflow_add-out : goal.overflow_add-out
overflow_add-out c =
    let a = c.args in
    let loop = c.loop-byte in
    let room = spelt_room a.bytes.now a.at a.out.now c.requires loop.byte-index loop.end loop.out loop.invariant c.loop-byte-test.true in
    omega (arith, room)

pub bounds-out-end-in-loop-byte : goal.bounds-out-end-in-loop-byte
bounds-out-end-in-loop-byte c =
    let a = c.args in
    let loop = c.loop-byte in
    let room = spelt_room a.bytes.now a.at a.out.now c.requires loop.byte-index loop.end loop.out loop.invariant c.loop-byte-test.true in
    rw length-set (omega (arith, room))

pub overflow_add-end : goal.overflow_add-end
overflow_add-end c =
    let a = c.args in
    let loop = c.loop-byte in
    let room = spelt_room a.bytes.now a.at a.out.now c.requires loop.byte-index loop.end loop.out loop.invariant c.loop-byte-test.true in
    omega (arith, room)

pub loop-byte-preserved : goal.loop-byte-preserved
loop-byte-preserved c =
    let a = c.args in
    let loop = c.loop-byte in
    spelt_two a.bytes.now a.at a.out.now c.requires loop.byte-index loop.end loop.out loop.invariant c.digit.result c.digit-in-loop-byte.result c.loop-byte-test.true c.digit.ensures c.digit-in-loop-byte.ensures

pub bounds-out-end-2 : goal.bounds-out-end-2
bounds-out-end-2 c =
    let a = c.args in
    let loop = c.loop-byte in
    let room = line_room a.bytes.now a.at a.out.now c.requires loop.byte-index loop.end loop.out loop.invariant in
    omega (arith, room)

pub overflow_add-result : goal.overflow_add-result
overflow_add-result c =
    let a = c.args in
    let loop = c.loop-byte in
    let room = line_room a.bytes.now a.at a.out.now c.requires loop.byte-index loop.end loop.out loop.invariant in
    omega (arith, room)

pub returns : goal.returns
returns c =
    let a = c.args in
    let loop = c.loop-byte in
    spelt_line a.bytes.now a.at a.out.now c.requires loop.byte-index loop.end loop.out loop.invariant c.loop-byte-test.false
