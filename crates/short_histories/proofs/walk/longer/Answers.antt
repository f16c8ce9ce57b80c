-- `short_histories::walk::longer` meets its contract: there is room, so the call is written behind the history that was copied.
use Prim.Native.Nat.{◌+◌}
use native.Mathlib.Omega.{arith}
use borrow.Author.Rules.{rules}
use borrow.Rule.Slice.PartMut.{post_of, same_len_mid}
use mathlib.Core.List.{◌++◌}
use mathlib.Core.Path.{◌≡◌, ◌∙◌, ap}
use lib.ListN.{length}
use Rattle.calls.specs.Commands.{bytes_of}
use Rattle.short_histories.proofs.Writing.{copied_first, wrote_length, wrote_longer, not_short}
use Rattle.short_histories.proofs.walk.longer.Goals as goal

pub overflow_add-result : goal.overflow_add-result
overflow_add-result c =
    let a = c.args in
    let copy = c.copy_from_slice in
    let write = c.write_call in
    let long : length a.bytes.now ≡ 18 = search rules in
    let n = wrote_length (copy.new.self ++ post_of 0 (length a.history.now) a.bytes.now) (length a.history.now) a.call write.new.out write.result
    (same_len_mid 0 (length a.history.now) a.bytes.now copy.new.self copy.ensures.len ∙ long) c.requires write.ensures c.in-Some.len c.in-Some.is in
    omega (arith, n, c.requires)

pub returns-in-Some-clause-bytes_value : goal.returns-in-Some-clause-bytes_value
returns-in-Some-clause-bytes_value c =
    let a = c.args in
    let copy = c.copy_from_slice in
    let write = c.write_call in
    let long : length a.bytes.now ≡ 18 = search rules in
    wrote_longer (copy.new.self ++ post_of 0 (length a.history.now) a.bytes.now) (length a.history.now) a.call write.new.out write.result
    (same_len_mid 0 (length a.history.now) a.bytes.now copy.new.self copy.ensures.len ∙ long) c.requires write.ensures c.in-Some.len c.in-Some.is
    ∙ ap (λ l. l ++ bytes_of a.call) (copied_first a.history.now copy.new.self (post_of 0 (length a.history.now) a.bytes.now) copy.ensures.after)

pub returns-in-Some-clause-len_value : goal.returns-in-Some-clause-len_value
returns-in-Some-clause-len_value c =
    let a = c.args in
    let copy = c.copy_from_slice in
    let write = c.write_call in
    let long : length a.bytes.now ≡ 18 = search rules in
    ap (λ n. length a.history.now + n)
    (wrote_length (copy.new.self ++ post_of 0 (length a.history.now) a.bytes.now) (length a.history.now) a.call write.new.out write.result
    (same_len_mid 0 (length a.history.now) a.bytes.now copy.new.self copy.ensures.len ∙ long) c.requires write.ensures c.in-Some.len c.in-Some.is)

pub returns-in-None-clause-bytes_value : goal.returns-in-None-clause-bytes_value
returns-in-None-clause-bytes_value c =
    let a = c.args in
    let copy = c.copy_from_slice in
    let write = c.write_call in
    let long : length a.bytes.now ≡ 18 = search rules in
    absurd (not_short (copy.new.self ++ post_of 0 (length a.history.now) a.bytes.now) (length a.history.now) a.call write.new.out write.result
    (same_len_mid 0 (length a.history.now) a.bytes.now copy.new.self copy.ensures.len ∙ long) c.requires write.ensures c.in-None.is)

pub returns-in-None-clause-len_value : goal.returns-in-None-clause-len_value
returns-in-None-clause-len_value c =
    let a = c.args in
    let copy = c.copy_from_slice in
    let write = c.write_call in
    let long : length a.bytes.now ≡ 18 = search rules in
    absurd (not_short (copy.new.self ++ post_of 0 (length a.history.now) a.bytes.now) (length a.history.now) a.call write.new.out write.result
    (same_len_mid 0 (length a.history.now) a.bytes.now copy.new.self copy.ensures.len ∙ long) c.requires write.ensures c.in-None.is)
