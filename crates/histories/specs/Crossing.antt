-- Nothing crosses over. After every history a page that a call has just mapped shows sixteen cells of 0, untagged, whatever its frame
-- held and whoever held it; and a Free frame is all 0. Assumes nothing.
use Rattle.std.specs.Prelude.{ℕ, ◌+◌, ◌*◌, ◌<◌, ◌≡◌, get_or, Some}
use Rattle.pages.specs.declared.Frame.{Frame}
use Rattle.pages.specs.declared.FrameState.TheVariants.{Free}
use Rattle.pages.specs.declared.VirtualPage.{VirtualPage}
use Rattle.pages.specs.Layer.{frame_at}
use Rattle.pages.specs.Mapping.{lookup_of}
use Rattle.calls.specs.declared.Call.TheVariants.{Map}
use Rattle.histories.specs.Runs.{Machine, Granted, next, Reached, Always}

-- A place of lent memory holds 0, and its tag byte is 0.
pub record Zeros (m : Machine) (at : ℕ) : Type 0 where
  pub cell : get_or m.cells at 0 ≡ 0
  pub tag : get_or m.tags at 0 ≡ 0

-- A virtual cell is Mapped, and its place holds 0, untagged.
pub record ShowsZero (m : Machine) (v : ℕ) : Type 0 where
  pub at : ℕ
  pub mapped : lookup_of m.state.core.pages v ≡ Some at
  pub zeros : Zeros m at

abbrev pub MappedIsZeroAt : (m : Machine) → Reached m → Type 0
MappedIsZeroAt m r =
    (p : ℕ) (page : VirtualPage) (frame : Frame) → Granted m (Map p page frame) → (i : ℕ) → i < 16
    → ShowsZero (next m (Map p page frame)) (16 * page.0 + i)

abbrev pub MappedIsZero : Type 0
MappedIsZero = Always MappedIsZeroAt

abbrev pub FreeIsZero : Type 0
FreeIsZero = (m : Machine) → Reached m → (k i : ℕ) → frame_at m.state.core.pages k ≡ Free → i < 16 → Zeros m (16 * k + i)
