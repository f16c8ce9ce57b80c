-- The calls that lead back, by computing: from four states in which all is in use. Assumes nothing.
use Prim.Native.Nat.{ℕ}
use mathlib.Core.List.{List, [], ◌∷◌, map}
use mathlib.Core.Path.{◌≡◌, refl}
use lib.ListN.{replicate}
use Rattle.pages.specs.declared.PageState.{PageState}
use Rattle.pages.specs.declared.PageState.TheVariants.{Unmapped}
use Rattle.pages.specs.Layer.{page_at}
use Rattle.table.specs.declared.Reservation.{Reservation}
use Rattle.table.specs.declared.ReservationState.TheVariants.{Open}
use Rattle.table.specs.Rows.{live, reservation}
use Rattle.calls.specs.declared.Call.TheVariants.{Take, Split, Merge, Give, Revoke, Sweep, Collect, Map, Unmap, Zero, Store, TakeMasked, Create, Claim, Release, Destroy}
use Rattle.calls.specs.Commands.{page, frame}
use Rattle.machine.specs.State.{Answered}
use Rattle.machine.proofs.Computing.{computing}
use Rattle.histories.specs.Runs.{Machine, outcome, next, run, answers, begun}
use Rattle.histories.specs.Restoring.{each_below, many_below, sweep_and_collect, finishing, taking, merging, destroying, releasing, unclaiming, unmapping, revoking, ◌and_then◌, restoring}
use Rattle.examples.proofs.Histories.{start}

-- A revocation in its middle: the sweep has passed five cells.
unfoldable pub swept : Machine
swept = run start (Zero 0 (frame 0) ∷ Map 0 (page 0) (frame 0) ∷ Split 0 0 16 ∷ TakeMasked 0 0 0 15 ∷ Store 0 0 3 0 ∷ Unmap 0 (page 0) ∷ Revoke 0 0 ∷ Sweep 0 5 ∷ [])

-- Splits inside of pages, one part Taken, one page Mapped.
pub cut : Machine
cut = run start (Zero 0 (frame 0) ∷ Map 0 (page 1) (frame 0) ∷ Split 0 0 5 ∷ Take 0 0 0 ∷ Split 0 5 20 ∷ [])

-- Three holders, and a revocation that has just begun.
pub shared : Machine
shared = run start (Split 0 0 16 ∷ Give 0 16 3 ∷ Split 3 16 7 ∷ Give 3 23 5 ∷ Take 3 16 2 ∷ Revoke 0 0 ∷ [])

-- A Mapped page that three principals count, one of them below another.
unfoldable pub counted : Machine
counted =
    run start
    (Zero 0 (frame 0) ∷ Map 0 (page 1) (frame 0) ∷ Create 0 0 3 100 2 ∷ Create 2 3 7 10 4 ∷ Create 0 0 5 1 6
    ∷ Claim 4 7 (page 1) ∷ Claim 2 3 (page 1) ∷ Claim 0 0 (page 1) ∷ Claim 0 0 (page 1) ∷ Claim 0 0 (page 0) ∷ [])

-- The calls that lead back from each.
pub lists :
    map restoring (swept ∷ cut ∷ shared ∷ counted ∷ [])
    ≡ (Sweep 0 16 ∷ Collect 0 ∷ Take 0 16 0 ∷ Take 0 0 0 ∷ Merge 0 0 ∷ Revoke 0 0 ∷ Sweep 0 16 ∷ Collect 0 ∷ [])
    ∷ (Take 0 25 0 ∷ Take 0 5 0 ∷ Merge 0 0 ∷ Merge 0 0 ∷ Unmap 0 (page 1) ∷ Revoke 0 0 ∷ Sweep 0 16 ∷ Collect 0 ∷ [])
    ∷ (Sweep 0 16 ∷ Collect 0 ∷ Take 5 23 0 ∷ Take 0 0 0 ∷ Merge 0 0 ∷ Merge 0 0 ∷ Revoke 0 0 ∷ Sweep 0 16 ∷ Collect 0 ∷ [])
    ∷ (Take 0 0 0 ∷ Destroy 0 5 ∷ Destroy 0 3 ∷ Release 0 0 (page 1) ∷ Release 0 0 (page 1) ∷ Release 0 0 (page 0) ∷ Unmap 0 (page 1) ∷ Revoke 0 0 ∷ Sweep 0 16 ∷ Collect 0 ∷ [])
    ∷ []
unfolding swept cut shared counted start each_below many_below sweep_and_collect finishing taking merging destroying releasing unclaiming unmapping revoking ◌and_then◌ restoring outcome next run answers begun computing
lists = refl

-- Their answers' codes, the reservations that they leave, and the two pages.
pub told : List Answered → Machine → List ℕ × List Reservation × PageState × PageState
told l m = (map (λ a. a.code) l, live m.state.core.table, page_at m.state.core.pages 0, page_at m.state.core.pages 1)

pub back :
    map (λ m. told (answers m (restoring m)) (run m (restoring m))) (swept ∷ cut ∷ shared ∷ counted ∷ [])
    ≡ (replicate 8 0, reservation 0 32 Open 0 9 ∷ [], Unmapped, Unmapped)
    ∷ (replicate 8 0, reservation 0 32 Open 0 9 ∷ [], Unmapped, Unmapped)
    ∷ (replicate 9 0, reservation 0 32 Open 0 9 ∷ [], Unmapped, Unmapped)
    ∷ (replicate 10 0, reservation 0 32 Open 0 9 ∷ [], Unmapped, Unmapped)
    ∷ []
unfolding told swept cut shared counted start each_below many_below sweep_and_collect finishing taking merging destroying releasing unclaiming unmapping revoking ◌and_then◌ restoring outcome next run answers begun computing
back = refl
