-- The page layer: its entries, its fresh form, and when it is well formed. Assumes nothing.
use Rattle.std.specs.Prelude.{ℕ, ◌+◌, ◌*◌, ◌<◌, ◌≡◌, Bool, ◌&&◌, List, [], ◌∷◌, length, get_or, set, replicate, leb, ltb, eqb}
use Rattle.capabilities.specs.Lists.{pick, each}
use Rattle.pages.specs.Pages.{Pages}
use Rattle.pages.specs.Pages.{PageEntry}
use Rattle.pages.specs.Pages.{FrameEntry}
use Rattle.pages.specs.declared.PageState.{PageState}
use Rattle.pages.specs.declared.PageState.TheVariants.{Unmapped}
use Rattle.pages.specs.declared.FrameState.{FrameState}
use Rattle.pages.specs.declared.FrameState.TheVariants.{Dirty}
use Rattle.pages.specs.Entries.{is_unmapped, maps, maps_below, is_dirty, is_shown, page_entry, frame_entry}

-- The state of a page and of a frame; past the table's end, an unused entry's.
unfoldable pub page_at : Pages → ℕ → PageState
page_at s p = (get_or s.pages p (page_entry Unmapped)).state

unfoldable pub frame_at : Pages → ℕ → FrameState
frame_at s k = (get_or s.frames k (frame_entry Dirty)).state

-- The layer with one page's state, or one frame's, put in place of the old one.
unfoldable pub with_page : Pages → ℕ → PageState → Pages
with_page s p state = record { v = s.v; f = s.f; pages = set s.pages p (page_entry state); frames = s.frames }

unfoldable pub with_frame : Pages → ℕ → FrameState → Pages
with_frame s k state = record { v = s.v; f = s.f; pages = s.pages; frames = set s.frames k (frame_entry state) }

-- "V is the number of virtual pages, 1 to 256. F is the number of frames, 1 to 128."
abbrev pub in_range : ℕ → ℕ → Bool
in_range v f = (ltb 0 v && leb v 256) && (ltb 0 f && leb f 128)

abbrev pub blank : ℕ → ℕ → Pages
blank v f = record { v = v; f = f; pages = replicate 256 (page_entry Unmapped); frames = replicate 128 (frame_entry Dirty) }

-- "A fresh start, given V and F, has .. pages Unmapped, frames Dirty"; for V or F out of range all is 0.
unfoldable pub fresh_of : ℕ → ℕ → Pages
fresh_of v f = pick (in_range v f) (blank v f) (blank 0 0)

-- How many pages map frame k.
unfoldable pub mappings : ℕ → List PageEntry → ℕ
mappings k [] = 0
mappings k (e ∷ l) = pick (maps e.state k) 1 0 + mappings k l

-- A list that has, for each frame, how many pages map it.
abbrev pub Tally : List ℕ → List PageEntry → Type 0
Tally t l = (k : ℕ) → k < 128 → get_or t k 0 ≡ mappings k l

-- A page below V maps, if any, a frame below F; a page at V or above is unused.
unfoldable pub page_sound : ℕ → ℕ → ℕ → PageEntry → Bool
page_sound v f p e = pick (ltb p v) (maps_below f e.state) (is_unmapped e.state)

-- "No two pages map one frame, and a frame is Mapped if and only if a page maps it": a Mapped frame is mapped by
-- one page, any other by none. A frame at F or above is unused.
unfoldable pub frame_sound : ℕ → List PageEntry → ℕ → FrameEntry → Bool
frame_sound f l k e = pick (ltb k f) (eqb (mappings k l) (pick (is_shown e.state) 1 0)) (is_dirty e.state)

-- There are 256 page entries and 128 frame entries, as the struct's arrays have.
abbrev pub shaped : Pages → Bool
shaped s = eqb (length s.pages) 256 && eqb (length s.frames) 128

-- The page layer's part of "A state is well formed".
unfoldable pub well_formed : Pages → Bool
well_formed s =
    ((in_range s.v s.f && shaped s) && each (page_sound s.v s.f) 0 s.pages)
    && each (frame_sound s.f s.pages) 0 s.frames

-- "Lent memory is 16 × F cells and 16 × F tag bytes": these are the lengths that the layer serves.
abbrev pub serves : Pages → ℕ → ℕ → Bool
serves s cells tags = eqb cells (16 * s.f) && eqb tags (16 * s.f)
