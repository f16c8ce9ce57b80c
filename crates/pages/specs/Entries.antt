-- Document 01, 'Things and their sizes': "A virtual page is Unmapped, Freed, or Mapped to a frame. A frame is Dirty, Free or Mapped."
-- Assumes nothing.
use Rattle.std.specs.Prelude.{ℕ, Bool, true, false, eqb, ltb}
use Rattle.pages.specs.declared.PageState.{PageState}
use Rattle.pages.specs.declared.PageState.TheVariants.{Unmapped, Freed, Mapped}
use Rattle.pages.specs.declared.FrameState.{FrameState}
use Rattle.pages.specs.declared.FrameState.TheVariants.{Dirty, Free, Mapped as Shown}
use Rattle.pages.specs.Pages.{PageEntry}
use Rattle.pages.specs.Pages.{FrameEntry}

abbrev pub is_unmapped : PageState → Bool
is_unmapped Unmapped = true
is_unmapped Freed = false
is_unmapped (Mapped f) = false

abbrev pub is_mapped : PageState → Bool
is_mapped Unmapped = false
is_mapped Freed = false
is_mapped (Mapped f) = true

-- The page maps this frame.
abbrev pub maps : PageState → ℕ → Bool
maps Unmapped k = false
maps Freed k = false
maps (Mapped f) k = eqb f.0 k

-- The number of the frame that the page maps, or 256, which is no frame's.
abbrev pub frame_number : PageState → ℕ
frame_number Unmapped = 256
frame_number Freed = 256
frame_number (Mapped f) = f.0

-- If the page maps a frame, then one below f.
abbrev pub maps_below : ℕ → PageState → Bool
maps_below f Unmapped = true
maps_below f Freed = true
maps_below f (Mapped g) = ltb g.0 f

abbrev pub is_dirty : FrameState → Bool
is_dirty Dirty = true
is_dirty Free = false
is_dirty Shown = false

abbrev pub is_free : FrameState → Bool
is_free Dirty = false
is_free Free = true
is_free Shown = false

abbrev pub is_shown : FrameState → Bool
is_shown Dirty = false
is_shown Free = false
is_shown Shown = true

abbrev pub page_entry : PageState → PageEntry
page_entry s = record { state = s }

abbrev pub frame_entry : FrameState → FrameEntry
frame_entry s = record { state = s }
