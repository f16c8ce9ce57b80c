-- The page layer, and what the calls on it answer. Assumes nothing.
use Rattle.std.specs.Prelude.{ℕ, List}
use Rattle.pages.specs.declared.PageState.{PageState}
use Rattle.pages.specs.declared.FrameState.{FrameState}

pub record PageEntry : Type 0 where
  pub state : PageState

pub record FrameEntry : Type 0 where
  pub state : FrameState

-- V pages and F frames; entries at V or F and above are unused.
pub record Pages : Type 0 where
  pub v : ℕ
  pub f : ℕ
  pub pages : List PageEntry
  pub frames : List FrameEntry

-- What map, unmap and zero answer: 0 or the refusal's number, and the layer after it.
pub record Paged : Type 0 where
  pub code : ℕ
  pub pages : Pages
