-- `pages::lent::free`: the range's pages are a part of all.
use Rattle.std.proofs.Common.{◌∙◌, ◌≡◌, ap, refl, ◌-◌, map, take, drop, arith, drop_of_length-le, append-nil, get_or}
use lib.Seq.{take_all}
use borrow.Rule.Slice.PartMut.{put_mid}
use Rattle.std.proofs.lemmas.List.Edits.{map_over_more}
use Rattle.std.proofs.lemmas.List.{get_or_default}
use Rattle.pages.proofs.Parts.{freed_code, free_there}
use Rattle.pages.proofs.RangeNumbers.{freed_reads}
use Rattle.pages.proofs.lent.free.Goals as goal

pub loop-number-init : goal.loop-number-init
loop-number-init c = refl

pub loop-number-preserved : goal.loop-number-preserved
loop-number-preserved c =
    let loop = c.loop-number in
    rw c.freed.ensures (map_over_more freed_code _ loop.number-items loop.number-index (get_or loop.number-items loop.number-index 0) c.loop-number-test.true loop.invariant (get_or_default loop.number-items loop.number-index 0 _ (omega (arith, loop.auto.number-items))))

pub returns : goal.returns
returns c =
    let a = c.args in
    let p = c.places-start in
    let loop = c.loop-number in
    let part = take (p.result.1 - p.result.0) (drop p.result.0 a.pages.now) in
    let made : loop.number-items ≡ map freed_code part = loop.invariant ∙ rw (take_all loop.number-index part c.loop-number-test.false, drop_of_length-le part {i = loop.number-index} c.loop-number-test.false, append-nil) refl in
    let d = ap (put_mid p.result.0 (p.result.1 - p.result.0) a.pages.now) made ∙ free_there a.range a.pages.now _ _ p.ensures.start p.ensures.end in
    record { pages_after = d; by_index = λ v f frames. rw d (freed_reads a.range a.pages.now v f frames) }
