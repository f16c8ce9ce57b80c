-- The rules on the layer that lent numbers read as, in terms of the numbers. Assumes nothing.
use Rattle.std.specs.Prelude.{None}
use Prim.Native.Nat.{ℕ, ◌+◌, ◌*◌, ◌-◌, ◌/◌, ◌%◌, ◌<◌, ◌≤◌, min}
use native.Mathlib.Omega.{arith}
use mathlib.Core.Bool.{Bool, true, false, not, ◌&&◌, ◌||◌, false≢true}
use mathlib.Core.List.{List}
use mathlib.Core.Path.{◌≡◌, refl, ap}
use lib.ListN.{get_or}
use lib.Dec.{eqb, leb, ltb}
use borrow.Author.Tests.{eq-eqb, leb-true, leb-false, le-leb, lt-leb, lt-ltb, le-ltb, not-false}
use Rattle.capabilities.proofs.Choice.{never}
use Rattle.capabilities.specs.declared.Range.{Range}
use Rattle.capabilities.specs.Lists.{pick}
use Rattle.capabilities.specs.Range.{inside, page_inside}
use Rattle.capabilities.specs.Refusals.{first}
use Rattle.capabilities.proofs.Refusals.{first_clear}
use Rattle.pages.specs.declared.Frame.{Frame}
use Rattle.pages.specs.declared.VirtualPage.{VirtualPage}
use Rattle.pages.specs.Pages.{Pages}
use Rattle.pages.specs.declared.PageState.{PageState}
use Rattle.pages.specs.declared.PageState.TheVariants.{Unmapped, Freed, Mapped}
use Rattle.pages.specs.declared.FrameState.TheVariants.{Dirty}
use Rattle.pages.specs.Entries.{is_unmapped, is_mapped, is_dirty, is_free, frame_number}
use Rattle.pages.specs.Layer.{page_at, with_page, with_frame}
use Rattle.pages.specs.Mapping.{no_page, map_reasons, unmap_reasons, soiled, unmapped, dirty_reasons, zero_reasons, place_in, lookup_of}
use Rattle.pages.specs.Numbers.{page_from, frame_from, layer_of}
use Rattle.pages.proofs.Reading.{page_read, frame_read}

module _ (v f : ℕ) (pages frames : List ℕ) where
  pub lookup_read : (cell : ℕ)
      → lookup_of (layer_of v f pages frames) cell ≡ pick (ltb (cell / 16) v) (place_in (page_from (get_or pages (cell / 16) 0)) (cell % 16)) None
  unfolding lookup_of
  lookup_read cell = ap (λ (s : PageState). pick (ltb (cell / 16) v) (place_in s (cell % 16)) None) (page_read v f pages frames (cell / 16))

  pub map_read : (page : VirtualPage) (frame : Frame)
      → first (map_reasons (layer_of v f pages frames) page frame)
      ≡ pick (leb v page.0 || leb f frame.0) 12
      (pick (not (is_unmapped (page_from (get_or pages page.0 0)))) 13 (pick (not (is_free (frame_from (get_or frames frame.0 0)))) 14 0))
  unfolding first map_reasons
  map_read page frame = rw (page_read v f pages frames page.0, frame_read v f pages frames frame.0)

  pub unmap_read : (page : VirtualPage) (claimed : Bool)
      → first (unmap_reasons (layer_of v f pages frames) page claimed)
      ≡ pick (leb v page.0) 12 (pick (not (is_mapped (page_from (get_or pages page.0 0)))) 13 (pick claimed 22 0))
  unfolding first unmap_reasons
  unmap_read page claimed = rw (page_read v f pages frames page.0)

  pub zero_read : (frame : Frame) (cells tags : ℕ)
      → first (zero_reasons (layer_of v f pages frames) frame cells tags)
      ≡ pick (not (eqb cells (16 * f) && eqb tags (16 * f))) 2 (pick (leb f frame.0) 12 (pick (not (is_dirty (frame_from (get_or frames frame.0 0)))) 14 0))
  unfolding first zero_reasons dirty_reasons
  zero_read frame cells tags = rw (frame_read v f pages frames frame.0)

-- 09: a granted unmap puts one page and one frame.
soiled_shown : (s : Pages) (x : PageState) → is_mapped x ≡ true → soiled s x ≡ with_frame s (frame_number x) Dirty
unfolding soiled
soiled_shown s Unmapped e = absurd (false≢true e)
soiled_shown s Freed e = absurd (false≢true e)
soiled_shown s (Mapped g) e = refl

pub unmap_put : (s : Pages) (page : VirtualPage) (claimed : Bool) → first (unmap_reasons s page claimed) ≡ 0
    → unmapped s page ≡ with_frame (with_page s page.0 Freed) (frame_number (page_at s page.0)) Dirty
unfolding unmapped unmap_reasons
unmap_put s page claimed e =
    let one = first_clear 12 (no_page s page) _ (λ x. omega arith) e in
    let two = first_clear 13 (not (is_mapped (page_at s page.0))) _ (λ x. omega arith) one.1 in
    soiled_shown (with_page s page.0 Freed) (page_at s page.0) (not-false _ two.0)

-- 0A: with memory of the right size the reasons are those of the frame alone.
pub zero_reasons_lem : (s : Pages) (frame : Frame) (cells tags : ℕ) → cells ≡ 16 * s.f → tags ≡ 16 * s.f
    → first (zero_reasons s frame cells tags) ≡ first (dirty_reasons s frame)
unfolding zero_reasons first
zero_reasons_lem s frame cells tags a b = rw (eq-eqb cells (16 * s.f) a, eq-eqb tags (16 * s.f) b)

-- The pages of a range are those from one number up to another.
module _ (r : Range) (k : ℕ) where
  pub within : (r.base + 15) / 16 ≤ k → k < (r.base + r.length + 15) / 16 → page_inside r k ≡ true
  unfolding inside
  within p q = rw (le-leb r.base (16 * k) (omega arith), lt-ltb (16 * k) (r.base + r.length) (omega arith))

  pub before : k < (r.base + 15) / 16 → page_inside r k ≡ false
  unfolding inside
  before p = rw (lt-leb r.base (16 * k) (omega arith))

  pub beyond : (r.base + r.length + 15) / 16 ≤ k → page_inside r k ≡ false
  unfolding inside
  beyond p = rw (le-ltb (16 * k) (r.base + r.length) (omega arith)) (never (leb r.base (16 * k)))

  -- A loop from the range's first page on, up to its end or to n: of what it has passed, the pages from the first one on are in the range.
  pub passed : (from upto n : ℕ) → from ≡ (r.base + 15) / 16 → upto - from ≤ min ((r.base + r.length + 15) / 16) n - from → k < upto → page_inside r k ≡ leb from k
  passed from upto n e h q = go (leb from k) refl
    where
      go : (b : Bool) → leb from k ≡ b → page_inside r k ≡ b
      go true t = let u = leb-true from k t in within (omega arith) (omega arith)
      go false t = let u = leb-false from k t in before (omega arith)
