-- Bytes put at a place of a lent buffer. Assumes nothing.
use Rattle.std.specs.Prelude.{ℕ, ◌+◌, ◌≤◌, List, ◌++◌, ◌≡◌, length, take, drop, leb}
use Rattle.capabilities.specs.Lists.{pick}

-- The buffer with `new` put at `at`, if it fits; else it is kept as it was.
unfoldable pub laid_in : List ℕ → ℕ → List ℕ → List ℕ
laid_in new at before = pick (leb (at + length new) (length before)) (take at before ++ (new ++ drop (at + length new) before)) before

-- `new` was put at `at`, in one piece or in several, and ends at `end`: if it fits, the buffer holds it there and is kept elsewhere. Of
-- several pieces the first may fit and be put where the last does not.
pub record Laid (new : List ℕ) (at : ℕ) (before : List ℕ) (end : ℕ) (after : List ℕ) : Type 0 where
  pub ends : end ≡ at + length new
  pub size : length after ≡ length before
  pub fits : at + length new ≤ length before → after ≡ take at before ++ (new ++ drop (at + length new) before)
