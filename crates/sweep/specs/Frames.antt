-- Words for a sweep by whole frames. Assumes nothing.
use Rattle.std.specs.Prelude.{ℕ, ◌+◌, ◌/◌, ◌<◌, ◌≤◌, true, List, ◌≡◌, length, get_or}
use Rattle.capabilities.specs.declared.Range.{Range}
use Rattle.capabilities.specs.Capability.{base_of}
use Rattle.pages.specs.Pages.{FrameEntry}
use Rattle.sweep.specs.Sweep.{shown_at, swept_tags}

-- The first n of sixteen numbers are the bases in the cells from a place on.
abbrev pub Bases : ℕ → ℕ → List ℕ → List ℕ → Type 0
Bases from n cells bases = (length bases ≡ 16) × ((j : ℕ) → j < n → get_or bases j 0 ≡ base_of (get_or cells (from + j) 0))

-- Every cell from one place up to another lies in a Mapped frame.
abbrev pub AllShown : List FrameEntry → ℕ → ℕ → Type 0
AllShown frames from upto = (i : ℕ) → from ≤ i → i < upto → shown_at frames (i / 16) ≡ true

-- The cells from one place up to another are passed, where all lie in Mapped frames.
abbrev pub PassesShown : Range → ℕ → ℕ → List ℕ → List ℕ → List ℕ → Type 0
PassesShown r from upto cells tags tags' =
    (frames : List FrameEntry) → AllShown frames from upto → tags' ≡ swept_tags frames r from upto cells tags
