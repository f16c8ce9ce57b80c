-- `pages::lent::release`: the range's pages are a part of all.
use Rattle.std.proofs.Common.{◌∙◌, ◌≡◌, ap, refl, map, ℕ, ◌-◌, take, drop, length}
use borrow.Rule.Slice.PartMut.{put_mid}
use Rattle.std.proofs.lemmas.Simd.{splat_is_map}
use Rattle.pages.specs.declared.PageState.TheVariants.{Unmapped}
use Rattle.pages.specs.Numbers.{page_code}
use Rattle.pages.proofs.Parts.{release_there}
use Rattle.pages.proofs.RangeNumbers.{released_reads}
use Rattle.pages.proofs.lent.release.Goals as goal

pub returns : goal.returns
returns c =
    let a = c.args in
    let p = c.places-start in
    let part = take (p.result.1 - p.result.0) (drop p.result.0 a.pages.now) in
    let made : c.fill.new.self ≡ map (λ x. page_code Unmapped) part =
    c.fill.ensures.after (λ y h. cc) ∙ splat_is_map part (length part) c.number.result refl ∙ ap (λ (n : ℕ). map (λ x. n) part) c.number.ensures in
    let d = ap (put_mid p.result.0 (p.result.1 - p.result.0) a.pages.now) made ∙ release_there a.range a.pages.now _ _ p.ensures.start p.ensures.end in
    record { pages_after = d; by_index = λ v f frames. rw d (released_reads a.range a.pages.now v f frames) }
