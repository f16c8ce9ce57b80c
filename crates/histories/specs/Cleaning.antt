-- Not mapped before it is clean. After every history, between a granted unmap of a page and a later granted map of it lies a granted
-- collect of a revocation whose range contains the page. Assumes nothing.
use Rattle.std.specs.Prelude.{ℕ, ◌*◌, List}
use Rattle.capabilities.specs.declared.Range.{Range}
use Rattle.pages.specs.declared.Frame.{Frame}
use Rattle.pages.specs.declared.VirtualPage.{VirtualPage}
use Rattle.calls.specs.declared.Call.{Call}
use Rattle.calls.specs.declared.Call.TheVariants.{Map, Unmap}
use Rattle.histories.specs.Runs.{Machine, Granted, next, run, Reached, Always}
use Rattle.histories.specs.Lending.{Ended}

-- The cells of a page.
abbrev pub page_range : VirtualPage → Range
page_range page = record { base = 16 * page.0; length = 16 }

abbrev pub CleanedBetweenAt : (m : Machine) → Reached m → Type 0
CleanedBetweenAt m r =
    (p : ℕ) (page : VirtualPage) → Granted m (Unmap p page) → (calls : List Call) → (q : ℕ) (frame : Frame)
    → Granted (run (next m (Unmap p page)) calls) (Map q page frame) → Ended (next m (Unmap p page)) calls (page_range page)

abbrev pub CleanedBetween : Type 0
CleanedBetween = Always CleanedBetweenAt
