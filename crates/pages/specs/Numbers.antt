-- How pages and frames lie in memory: one number an entry. Assumes nothing.
use Rattle.std.specs.Prelude.{ℕ, ◌+◌, ◌-◌, ◌%◌, Bool, ◌&&◌, List, map, eqb}
use Rattle.capabilities.specs.declared.Range.{Range}
use Rattle.capabilities.specs.Lists.{pick, each, map_each}
use Rattle.capabilities.specs.Range.{page_inside}
use Rattle.pages.specs.declared.PageState.{PageState}
use Rattle.pages.specs.declared.PageState.TheVariants.{Unmapped, Freed, Mapped}
use Rattle.pages.specs.declared.FrameState.{FrameState}
use Rattle.pages.specs.declared.FrameState.TheVariants.{Dirty, Free, Mapped as Shown}
use Rattle.pages.specs.Pages.{PageEntry}
use Rattle.pages.specs.Pages.{FrameEntry}
use Rattle.pages.specs.Pages.{Pages}
use Rattle.pages.specs.Entries.{is_unmapped, page_entry, frame_entry}
use Rattle.pages.specs.Layer.{well_formed}

-- A page: 0 Unmapped, 1 Freed, 2 + n Mapped to frame n. Every number reads as a state.
unfoldable pub page_from : ℕ → PageState
page_from n = pick (eqb n 0) Unmapped (pick (eqb n 1) Freed (Mapped (record { 0 = (n - 2) % 256 })))

unfoldable pub page_code : PageState → ℕ
page_code Unmapped = 0
page_code Freed = 1
page_code (Mapped f) = 2 + f.0

-- A frame: 0 Dirty, 1 Free, 2 Mapped.
unfoldable pub frame_from : ℕ → FrameState
frame_from n = pick (eqb n 0) Dirty (pick (eqb n 1) Free Shown)

unfoldable pub frame_code : FrameState → ℕ
frame_code Dirty = 0
frame_code Free = 1
frame_code Shown = 2

abbrev pub page_in : ℕ → PageEntry
page_in n = page_entry (page_from n)

abbrev pub frame_in : ℕ → FrameEntry
frame_in n = frame_entry (frame_from n)

-- The layer that V, F and the numbers of pages and frames read as.
abbrev pub layer_of : ℕ → ℕ → List ℕ → List ℕ → Pages
layer_of v f pages frames = record { v = v; f = f; pages = map page_in pages; frames = map frame_in frames }

-- 05 and 07 on the numbers: in the range 0 becomes 1, or every number 0; one that stays is kept to the bit.
unfoldable pub freed_number : Range → ℕ → ℕ → ℕ
freed_number r p n = pick (page_inside r p && is_unmapped (page_from n)) (page_code Freed) n

unfoldable pub freed_numbers : Range → List ℕ → List ℕ
freed_numbers r l = map_each (freed_number r) 0 l

unfoldable pub released_number : Range → ℕ → ℕ → ℕ
released_number r p n = pick (page_inside r p) (page_code Unmapped) n

unfoldable pub released_numbers : Range → List ℕ → List ℕ
released_numbers r l = map_each (released_number r) 0 l

-- A number is what its entry is written as.
unfoldable pub page_kept : ℕ → ℕ → Bool
page_kept i n = eqb (page_code (page_from n)) n

unfoldable pub frame_kept : ℕ → ℕ → Bool
frame_kept i n = eqb (frame_code (frame_from n)) n

-- The numbers are a well-formed layer, and no number reads as an entry that is written otherwise.
unfoldable pub layer_sound : ℕ → ℕ → List ℕ → List ℕ → Bool
layer_sound v f pages frames = well_formed (layer_of v f pages frames) && (each page_kept 0 pages && each frame_kept 0 frames)
