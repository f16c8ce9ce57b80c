-- Commands 08, 09 and 0A, the place of a virtual cell, and what becomes of a range's pages. Assumes nothing.
use Rattle.std.specs.Prelude.{ℕ, ◌+◌, ◌*◌, ◌/◌, ◌%◌, Bool, not, ◌&&◌, ◌||◌, List, [], ◌∷◌, ◌++◌, take, drop, replicate, leb, ltb, eqb, Option, Some, None}
use Rattle.capabilities.specs.declared.Range.{Range}
use Rattle.capabilities.specs.Lists.{pick, each, map_each}
use Rattle.capabilities.specs.Range.{page_inside}
use Rattle.capabilities.specs.Refusals.{Reason, reason, first}
use Rattle.pages.specs.Pages.{Pages}
use Rattle.pages.specs.Pages.{Paged}
use Rattle.pages.specs.declared.Frame.{Frame}
use Rattle.pages.specs.declared.VirtualPage.{VirtualPage}
use Rattle.pages.specs.Pages.{PageEntry}
use Rattle.pages.specs.declared.PageState.{PageState}
use Rattle.pages.specs.declared.PageState.TheVariants.{Unmapped, Freed, Mapped}
use Rattle.pages.specs.declared.FrameState.TheVariants.{Dirty, Mapped as Shown}
use Rattle.pages.specs.Entries.{is_unmapped, is_mapped, is_dirty, is_free, page_entry}
use Rattle.pages.specs.Layer.{page_at, frame_at, with_page, with_frame, serves}

-- A refused operation keeps the layer as it was.
abbrev pub paged : ℕ → Pages → Pages → Paged
paged code before after = record { code = code; pages = pick (eqb code 0) after before }

-- "A page is V or more, or a frame F or more." (refusal 12)
abbrev pub no_page : Pages → VirtualPage → Bool
no_page s page = leb s.v page.0

abbrev pub no_frame : Pages → Frame → Bool
no_frame s frame = leb s.f frame.0

-- 08 map: refusals 12, 13 (the page is not Unmapped) and 14 (the frame is not Free).
unfoldable pub map_reasons : Pages → VirtualPage → Frame → List Reason
map_reasons s page frame =
    reason 12 (no_page s page || no_frame s frame)
    ∷ reason 13 (not (is_unmapped (page_at s page.0))) ∷ reason 14 (not (is_free (frame_at s frame.0))) ∷ []

unfoldable pub mapped : Pages → VirtualPage → Frame → Pages
mapped s page frame = with_frame (with_page s page.0 (Mapped frame)) frame.0 Shown

unfoldable pub map_of : Pages → VirtualPage → Frame → Paged
map_of s page frame = paged (first (map_reasons s page frame)) s (mapped s page frame)

-- 09 unmap: refusals 12 and 13 (the page is not Mapped); document 02, 2026-02: 22, "the page to unmap has a claim", which the layer is told.
-- "The page becomes Freed, the frame Dirty."
unfoldable pub unmap_reasons : Pages → VirtualPage → Bool → List Reason
unmap_reasons s page claimed = reason 12 (no_page s page) ∷ reason 13 (not (is_mapped (page_at s page.0))) ∷ reason 22 claimed ∷ []

unfoldable pub soiled : Pages → PageState → Pages
soiled s Unmapped = s
soiled s Freed = s
soiled s (Mapped frame) = with_frame s frame.0 Dirty

unfoldable pub unmapped : Pages → VirtualPage → Pages
unmapped s page = soiled (with_page s page.0 Freed) (page_at s page.0)

unfoldable pub unmap_of : Pages → VirtualPage → Bool → Paged
unmap_of s page claimed = paged (first (unmap_reasons s page claimed)) s (unmapped s page)

-- 0A zero: refusals 12 and 14 (the frame is not Dirty); and before them 2, where the lent memory is of another size.
unfoldable pub dirty_reasons : Pages → Frame → List Reason
dirty_reasons s frame = reason 12 (no_frame s frame) ∷ reason 14 (not (is_dirty (frame_at s frame.0))) ∷ []

unfoldable pub zero_reasons : Pages → Frame → ℕ → ℕ → List Reason
zero_reasons s frame cells tags = reason 2 (not (serves s cells tags)) ∷ dirty_reasons s frame

-- "Its cells and tags become 0": the sixteen from 16 × frame on.
unfoldable pub cleared : Frame → List ℕ → List ℕ
cleared frame l = take (16 * frame.0) l ++ (replicate 16 0 ++ drop (16 * frame.0 + 16) l)

-- "Lent memory is 16 × F cells ..; frame f begins at 16 × f": the place of a virtual cell whose page is Mapped.
abbrev pub place_in : PageState → ℕ → Option ℕ
place_in Unmapped offset = None
place_in Freed offset = None
place_in (Mapped frame) offset = Some (16 * frame.0 + offset)

-- None where the page is not Mapped, or lies at V or beyond.
unfoldable pub lookup_of : Pages → ℕ → Option ℕ
lookup_of s cell = pick (ltb (cell / 16) s.v) (place_in (page_at s (cell / 16)) (cell % 16)) None

-- A page that lies in the range is not Mapped.
unfoldable pub not_mapped_in : Range → ℕ → PageEntry → Bool
not_mapped_in r p e = not (page_inside r p && is_mapped e.state)

-- 13: "a page to revoke is Mapped".
unfoldable pub any_mapped : Pages → Range → Bool
any_mapped s r = not (each (not_mapped_in r) 0 s.pages)

abbrev pub with_pages : Pages → List PageEntry → Pages
with_pages s l = record { v = s.v; f = s.f; pages = l; frames = s.frames }

-- 05: "its Unmapped pages Freed".
unfoldable pub freed_entry : Range → ℕ → PageEntry → PageEntry
freed_entry r p e = pick (page_inside r p && is_unmapped e.state) (page_entry Freed) e

unfoldable pub freed_of : Pages → Range → Pages
freed_of s r = with_pages s (map_each (freed_entry r) 0 s.pages)

-- 07: "Its pages become Unmapped".
unfoldable pub released_entry : Range → ℕ → PageEntry → PageEntry
released_entry r p e = pick (page_inside r p) (page_entry Unmapped) e

unfoldable pub released_of : Pages → Range → Pages
released_of s r = with_pages s (map_each (released_entry r) 0 s.pages)
