-- The state of each page and frame after one was put. Assumes nothing.
use Prim.Native.Nat.{ℕ, ◌<◌}
use mathlib.Core.Path.{◌≡◌, refl, ap}
use lib.ListN.{length}
use lib.Seq.{get_or-set_same, get_or-set_other}
use Rattle.pages.specs.Pages.{Pages}
use Rattle.pages.specs.declared.PageState.{PageState}
use Rattle.pages.specs.declared.PageState.TheVariants.{Unmapped}
use Rattle.pages.specs.declared.FrameState.{FrameState}
use Rattle.pages.specs.declared.FrameState.TheVariants.{Dirty}
use Rattle.pages.specs.Entries.{page_entry, frame_entry}
use Rattle.pages.specs.Layer.{page_at, frame_at, with_page, with_frame}

module _ (s : Pages) (i : ℕ) where
  pub page_put : (x : PageState) → i < length s.pages → page_at (with_page s i x) i ≡ x
  unfolding page_at with_page
  page_put x h = ap (λ e. e.state) (get_or-set_same s.pages i (page_entry x) (page_entry Unmapped) h)

  pub page_kept : (j : ℕ) (x : PageState) → (j ≡ i → ⊥) → page_at (with_page s i x) j ≡ page_at s j
  unfolding page_at with_page
  page_kept j x h = ap (λ e. e.state) (get_or-set_other s.pages i j (page_entry x) (page_entry Unmapped) h)

  pub frame_put : (x : FrameState) → i < length s.frames → frame_at (with_frame s i x) i ≡ x
  unfolding frame_at with_frame
  frame_put x h = ap (λ e. e.state) (get_or-set_same s.frames i (frame_entry x) (frame_entry Dirty) h)

  pub frame_kept : (j : ℕ) (x : FrameState) → (j ≡ i → ⊥) → frame_at (with_frame s i x) j ≡ frame_at s j
  unfolding frame_at with_frame
  frame_kept j x h = ap (λ e. e.state) (get_or-set_other s.frames i j (frame_entry x) (frame_entry Dirty) h)

  pub page_of_frame : (j : ℕ) (x : FrameState) → page_at (with_frame s i x) j ≡ page_at s j
  unfolding page_at with_frame
  page_of_frame j x = refl

  pub frame_of_page : (j : ℕ) (x : PageState) → frame_at (with_page s i x) j ≡ frame_at s j
  unfolding frame_at with_page
  frame_of_page j x = refl
