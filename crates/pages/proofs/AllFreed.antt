-- A range whose pages are all Freed. Assumes nothing.
use Prim.Native.Nat.{◌+◌}
use native.Mathlib.Nat.{zero-add}
use mathlib.Core.Bool.{Bool, true, false, not, ◌&&◌, ◌||◌}
use mathlib.Core.Path.{◌≡◌, refl, ap}
use lib.ListN.{length, get_or}
use Rattle.capabilities.specs.declared.Range.{Range}
use Rattle.capabilities.specs.Range.{page_inside}
use Rattle.capabilities.proofs.Lists.{each_at, each_all, length_map_each}
use Rattle.pages.specs.Pages.{Pages}
use Rattle.pages.specs.declared.PageState.{PageState}
use Rattle.pages.specs.declared.PageState.TheVariants.{Unmapped, Freed, Mapped}
use Rattle.pages.specs.Entries.{is_mapped, page_entry}
use Rattle.pages.specs.Freed.{is_freed, freed_in, all_freed}
use Rattle.pages.specs.Layer.{page_at}
use Rattle.pages.specs.Mapping.{not_mapped_in, any_mapped, freed_of, freed_entry}
use Rattle.pages.proofs.Freeing.{all_freed_lem}

freed_if : (b : Bool) (x : PageState) → (b ≡ true → x ≡ Freed) → not b || is_freed x ≡ true
freed_if true x f = ap is_freed (f refl)
freed_if false x f = refl

-- Once a range with no Mapped page is freed, all its pages are Freed.
pub freed_all : (s : Pages) (r : Range) → any_mapped s r ≡ false → all_freed (freed_of s r) r ≡ true
unfolding all_freed freed_in page_at freed_of
freed_all s r a =
    each_all (freed_in r) 0 (freed_of s r).pages (page_entry Unmapped)
    (λ p b.
    let n : length (freed_of s r).pages ≡ length s.pages = length_map_each (freed_entry r) 0 s.pages in
    rw zero-add (freed_if (page_inside r p) (get_or (freed_of s r).pages p (page_entry Unmapped)).state (all_freed_lem s r p (rw n at b) a)))

freed_unmapped : (b : Bool) (x : PageState) → not b || is_freed x ≡ true → not (b && is_mapped x) ≡ true
freed_unmapped true Unmapped e = refl
freed_unmapped true Freed e = refl
freed_unmapped true (Mapped f) e = e
freed_unmapped false x e = refl

-- Where all pages are Freed, none is Mapped.
pub freed_none_mapped : (s : Pages) (r : Range) → all_freed s r ≡ true → any_mapped s r ≡ false
unfolding all_freed freed_in any_mapped not_mapped_in
freed_none_mapped s r a =
    ap not
    (each_all (not_mapped_in r) 0 s.pages (page_entry Unmapped)
    (λ p b. freed_unmapped (page_inside r (0 + p)) (get_or s.pages p (page_entry Unmapped)).state (each_at (freed_in r) 0 s.pages p (page_entry Unmapped) b a)))
