-- Document 01, 'Things and their sizes': the Revoking reservation "is made of whole pages, all Freed". Assumes nothing.
use Rattle.std.specs.Prelude.{ℕ, Bool, true, false, not, ◌||◌}
use Rattle.capabilities.specs.declared.Range.{Range}
use Rattle.capabilities.specs.Lists.{each}
use Rattle.capabilities.specs.Range.{page_inside}
use Rattle.pages.specs.Pages.{Pages}
use Rattle.pages.specs.declared.PageState.{PageState}
use Rattle.pages.specs.declared.PageState.TheVariants.{Unmapped, Freed, Mapped}
use Rattle.pages.specs.Pages.{PageEntry}

abbrev pub is_freed : PageState → Bool
is_freed Unmapped = false
is_freed Freed = true
is_freed (Mapped f) = false

-- A page of the range is Freed; one outside may be anything.
unfoldable pub freed_in : Range → ℕ → PageEntry → Bool
freed_in r p e = not (page_inside r p) || is_freed e.state

unfoldable pub all_freed : Pages → Range → Bool
all_freed s r = each (freed_in r) 0 s.pages
