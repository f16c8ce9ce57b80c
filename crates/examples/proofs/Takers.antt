-- Takers by computing: the table's, and those of the cells beside them, so that no law of them holds for want of a case. Assumes nothing.
use Prim.Native.Nat.{ℕ}
use mathlib.Core.List.{List, [], ◌∷◌, ◌++◌, map}
use mathlib.Core.Path.{◌≡◌, refl}
use lib.ListN.{replicate}
use Rattle.table.specs.declared.Reservation.{Reservation}
use Rattle.table.specs.declared.ReservationState.TheVariants.{Open, Taken, Revoking}
use Rattle.table.specs.Rows.{no_taker, live, reservation}
use Rattle.calls.specs.declared.Call.{Call}
use Rattle.calls.specs.declared.Call.TheVariants.{Take, Split, Merge, Give, Revoke, Sweep, Collect, TakeMasked}
use Rattle.machine.proofs.Computing.{computing}
use Rattle.histories.specs.Runs.{outcome, next, run, answers, begun}
use Rattle.histories.specs.Takers.{taker_after, taken_by}
use Rattle.examples.proofs.Histories.{start}

-- Two neighbours of 16 cells are given to two parties, who take them; party 0 joins them.
pub shared : ℕ → ℕ → List Call
shared p q = Split 0 0 16 ∷ Give 0 0 p ∷ Give 0 16 q ∷ Take p 0 0 ∷ TakeMasked q 16 1 15 ∷ Merge 0 0 ∷ []

-- The calls' codes, the reservations that they leave, and who has taken the first and the last cell of either half.
pub told : List Call → List ℕ × List Reservation × List ℕ
told calls =
    (map (λ a. a.code) (answers start calls), live (run start calls).state.core.table, map (λ cell. taken_by start calls cell no_taker) (0 ∷ 15 ∷ 16 ∷ 31 ∷ []))

-- Of two takers, of one; revoked; collected; and the upper half taken anew.
pub tells :
    map told
    (shared 1 2
    ∷ shared 3 3
    ∷ (shared 1 2 ++ (Revoke 0 0 ∷ []))
    ∷ (shared 1 2 ++ (Revoke 0 0 ∷ Sweep 0 16 ∷ Collect 0 ∷ []))
    ∷ (shared 1 2 ++ (Revoke 0 0 ∷ Sweep 0 16 ∷ Collect 0 ∷ Split 0 0 16 ∷ Take 0 16 0 ∷ []))
    ∷ (Revoke 0 0 ∷ [])
    ∷ [])
    ≡ (replicate 6 0, reservation 0 32 Taken 0 8 ∷ [], 1 ∷ 1 ∷ 2 ∷ 2 ∷ [])
    ∷ (replicate 6 0, reservation 0 32 Taken 0 3 ∷ [], 3 ∷ 3 ∷ 3 ∷ 3 ∷ [])
    ∷ (replicate 7 0, reservation 0 32 Revoking 0 8 ∷ [], 1 ∷ 1 ∷ 2 ∷ 2 ∷ [])
    ∷ (replicate 9 0, reservation 0 32 Open 0 9 ∷ [], 9 ∷ 9 ∷ 9 ∷ 9 ∷ [])
    ∷ (replicate 11 0, reservation 0 16 Open 0 9 ∷ reservation 16 16 Taken 0 0 ∷ [], 9 ∷ 9 ∷ 0 ∷ 0 ∷ [])
    ∷ (replicate 1 0, reservation 0 32 Revoking 0 0 ∷ [], 9 ∷ 9 ∷ 9 ∷ 9 ∷ [])
    ∷ []
unfolding told shared start outcome next run answers begun taker_after taken_by computing
tells = refl
