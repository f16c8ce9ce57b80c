-- A test of a state names the state. Assumes nothing.
use mathlib.Core.Bool.{true, false≢true}
use mathlib.Core.Path.{◌≡◌, refl}
use Rattle.pages.specs.declared.PageState.{PageState}
use Rattle.pages.specs.declared.PageState.TheVariants.{Unmapped, Freed, Mapped}
use Rattle.pages.specs.declared.FrameState.{FrameState}
use Rattle.pages.specs.declared.FrameState.TheVariants.{Dirty, Free, Mapped as Shown}
use Rattle.pages.specs.Entries.{is_unmapped, is_dirty, is_free}

pub is_unmapped_lem : (x : PageState) → is_unmapped x ≡ true → x ≡ Unmapped
is_unmapped_lem Unmapped e = refl
is_unmapped_lem Freed e = absurd (false≢true e)
is_unmapped_lem (Mapped f) e = absurd (false≢true e)

pub is_free_lem : (x : FrameState) → is_free x ≡ true → x ≡ Free
is_free_lem Dirty e = absurd (false≢true e)
is_free_lem Free e = refl
is_free_lem Shown e = absurd (false≢true e)

pub is_dirty_lem : (x : FrameState) → is_dirty x ≡ true → x ≡ Dirty
is_dirty_lem Dirty e = refl
is_dirty_lem Free e = absurd (false≢true e)
is_dirty_lem Shown e = absurd (false≢true e)
