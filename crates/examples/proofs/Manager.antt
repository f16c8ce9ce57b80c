-- What party 0 brings about alone, by computing, and what it does not; and beside each the calls or the machine that would not do.
-- Assumes nothing.
use Prim.Native.Nat.{ℕ, zero, suc, ◌+◌}
use native.Mathlib.Omega.{arith}
use mathlib.Core.List.{List, [], ◌∷◌, ◌++◌, map}
use mathlib.Core.Path.{◌≡◌, refl}
use Rattle.pages.specs.declared.PageState.{PageState}
use Rattle.pages.specs.declared.PageState.TheVariants.{Unmapped, Freed, Mapped}
use Rattle.pages.specs.Layer.{page_at}
use Rattle.table.specs.declared.Reservation.{Reservation}
use Rattle.table.specs.declared.ReservationState.TheVariants.{Open, Taken, Revoking}
use Rattle.table.specs.Rows.{live, reservation}
use Rattle.claims.specs.Claims.{Claims}
use Rattle.reservations.specs.Core.{Core, Cored, with_table}
use Rattle.reservations.specs.Revocation.{collect_of}
use Rattle.calls.specs.declared.Call.{Call}
use Rattle.calls.specs.declared.Call.TheVariants.{Split, Merge, Give, Revoke, Sweep, Collect, Map, Unmap, Zero, Store, Grant, Take, TakeMasked, Create, Claim, Release, Destroy}
use Rattle.calls.specs.Commands.{page, frame}
use Rattle.words.specs.declared.Slot.{Slot}
use Rattle.words.specs.Words.{byte_of, collected_mailbox}
use Rattle.machine.specs.Step.{step_of}
use Rattle.cases.specs.Variants.{Rule, instead, end_by, collect_by, destroy_by}
use Rattle.cases.specs.WrongMachines.{untouched}
use Rattle.machine.proofs.Computing.{computing}
use Rattle.histories.specs.Runs.{Machine, machine, outcome, next, run, begun}
use Rattle.histories.specs.Live.{virtual, word_in}
use Rattle.histories.specs.Restoring.{each_below, many_below, sweep_and_collect, finishing, taking, merging, destroying, releasing, unclaiming, every_page, unmapping, revoking, ◌and_then◌, restoring}
use Rattle.histories.specs.Manager.{unmapping_all, taking_back, Beside}
use Rattle.examples.proofs.Histories.{start}
use Rattle.examples.proofs.Restoring.{swept, counted}

-- How many words are capabilities, and those of the virtual cells below n.
unfoldable pub tagged : List Slot → ℕ
tagged [] = 0
tagged (w ∷ l) = byte_of w.tag + tagged l

unfoldable pub cells_shown : Machine → ℕ → List Slot
cells_shown m zero = []
cells_shown m (suc n) = word_in m (virtual n) ∷ cells_shown m n

-- What a rule answers to a list of calls, and leaves: the reservations, the two pages, and how many live capabilities there are.
pub record Left : Type 0 where
  pub codes : List ℕ
  pub rows : List Reservation
  pub pages : PageState × PageState
  pub live_ones : ℕ

unfoldable pub leaves : Rule → List ℕ → Machine → List Call → Left
leaves step codes m [] =
    record {
      codes = codes;
      rows = live m.state.core.table;
      pages = (page_at m.state.core.pages 0, page_at m.state.core.pages 1);
      live_ones = tagged (m.state.registers ++ (m.state.mailboxes ++ cells_shown m 32));
    }
leaves step codes m (c ∷ calls) =
    let o = step m.state c m.cells m.tags in
    leaves step (codes ++ o.answer.code ∷ []) (machine o.answer.state o.cells o.tags) calls

abbrev pub left : List ℕ → List Reservation → PageState → PageState → ℕ → Left
left codes rows p q n = record { codes = codes; rows = rows; pages = (p, q); live_ones = n }

-- A collect that leaves the reservation Revoking.
abbrev pub stays_revoking : Core → Cored
stays_revoking c = record { code = (collect_of c).code; core = with_table (collect_of c).core c.table }

-- A destroy that drops nothing.
abbrev pub drops_nothing : Claims → ℕ → Claims
drops_nothing c p = c

-- The revocation of cells 0 to 15 in its middle is brought to its end; with that collect it is not.
pub ends :
    map (λ step. leaves step [] swept (sweep_and_collect 1)) (step_of ∷ end_by stays_revoking ∷ [])
    ≡ left (0 ∷ 0 ∷ []) (reservation 0 16 Open 0 9 ∷ reservation 16 16 Open 0 9 ∷ []) Unmapped Unmapped 0
    ∷ left (0 ∷ 0 ∷ []) (reservation 0 16 Revoking 0 0 ∷ reservation 16 16 Open 0 9 ∷ []) Unmapped Unmapped 0
    ∷ []
unfolding leaves tagged cells_shown swept start sweep_and_collect instead end_by outcome next run begun computing
ends = refl

-- The page that three principals count is unmapped; not without the destroys and releases, and not if a destroy drops nothing.
pub unmapped :
    leaves step_of [] counted (unmapping_all counted) ∷ leaves step_of [] counted (unmapping every_page counted) ∷ leaves (destroy_by drops_nothing) [] counted (unmapping_all counted) ∷ []
    ≡ left (0 ∷ 0 ∷ 0 ∷ 0 ∷ 0 ∷ 0 ∷ []) (reservation 0 32 Open 0 9 ∷ []) Unmapped Freed 0
    ∷ left (22 ∷ []) (reservation 0 32 Open 0 9 ∷ []) Unmapped (Mapped (frame 0)) 0
    ∷ left (0 ∷ 0 ∷ 0 ∷ 0 ∷ 0 ∷ 22 ∷ []) (reservation 0 32 Open 0 9 ∷ []) Unmapped (Mapped (frame 0)) 0
    ∷ []
unfolding leaves tagged cells_shown counted start each_below many_below destroying releasing unclaiming unmapping ◌and_then◌ unmapping_all instead destroy_by outcome next run begun computing
unmapped = refl

-- Party 3 has taken page 0, which its principal and principal 0 count. Its capability is in its register, in the page and in the mailbox of
-- party 5. Party 7 holds page 1 Open.
pub house : Machine
house =
    run start
    (Zero 0 (frame 0) ∷ Map 0 (page 0) (frame 0) ∷ Split 0 0 16 ∷ Give 0 16 7 ∷ Give 0 0 3 ∷ TakeMasked 3 0 0 15 ∷ Store 3 0 3 0 ∷ Grant 3 0 5
    ∷ Create 0 0 4 100 3 ∷ Claim 3 4 (page 0) ∷ Claim 0 0 (page 0) ∷ [])

pub taking_back_lem : taking_back 0 house ≡ Destroy 0 4 ∷ Release 0 0 (page 0) ∷ Unmap 0 (page 0) ∷ Revoke 0 0 ∷ Sweep 0 16 ∷ Collect 0 ∷ []
unfolding house start each_below many_below sweep_and_collect destroying releasing unclaiming unmapping revoking ◌and_then◌ taking_back outcome next run begun computing
taking_back_lem = refl

-- It is taken back; not without the unmap, and not by a collect that forgets registers.
pub back :
    leaves step_of [] house (taking_back 0 house) ∷ leaves step_of [] house ((unclaiming and_then revoking 0) house) ∷ leaves (collect_by untouched collected_mailbox) [] house (taking_back 0 house) ∷ []
    ≡ left (0 ∷ 0 ∷ 0 ∷ 0 ∷ 0 ∷ 0 ∷ []) (reservation 0 16 Open 0 9 ∷ reservation 16 16 Open 7 9 ∷ []) Unmapped Unmapped 0
    ∷ left (0 ∷ 0 ∷ 13 ∷ 11 ∷ 11 ∷ []) (reservation 0 16 Taken 0 3 ∷ reservation 16 16 Open 7 9 ∷ []) (Mapped (frame 0)) Unmapped 3
    ∷ left (0 ∷ 0 ∷ 0 ∷ 0 ∷ 0 ∷ 0 ∷ []) (reservation 0 16 Open 0 9 ∷ reservation 16 16 Open 7 9 ∷ []) Unmapped Unmapped 1
    ∷ []
unfolding leaves tagged cells_shown house start each_below many_below sweep_and_collect destroying releasing unclaiming unmapping revoking ◌and_then◌ taking_back instead collect_by outcome next run begun computing
back = refl

-- What leads back from there leaves no live capability; without the last revoke it leaves those of the house and of the takes.
pub none_live :
    leaves step_of [] house (restoring house) ∷ leaves step_of [] house ((finishing and_then taking and_then merging and_then unclaiming and_then unmapping every_page) house) ∷ []
    ≡ left (0 ∷ 0 ∷ 0 ∷ 0 ∷ 0 ∷ 0 ∷ 0 ∷ 0 ∷ []) (reservation 0 32 Open 0 9 ∷ []) Unmapped Unmapped 0
    ∷ left (0 ∷ 0 ∷ 0 ∷ 0 ∷ 0 ∷ []) (reservation 0 32 Taken 0 8 ∷ []) Freed Unmapped 3
    ∷ []
unfolding leaves tagged cells_shown house start each_below many_below sweep_and_collect finishing taking merging destroying releasing unclaiming unmapping revoking ◌and_then◌ restoring outcome next run begun computing
none_live = refl

-- What party 0 cannot do alone. Party 5 has taken cells 0 to 7, and a party holds cells 8 to 31 Open, which share a page with them.
unfoldable pub apart : ℕ → Machine
apart p = run start (Split 0 0 8 ∷ Give 0 0 5 ∷ Give 0 8 p ∷ Take 5 0 0 ∷ [])

pub refused :
    leaves step_of [] (apart 3) (Revoke 0 0 ∷ Merge 0 0 ∷ Revoke 0 8 ∷ Give 0 8 0 ∷ [])
    ≡ left (10 ∷ 7 ∷ 6 ∷ 6 ∷ []) (reservation 0 8 Taken 0 5 ∷ reservation 8 24 Open 3 9 ∷ []) Unmapped Unmapped 1
unfolding leaves tagged cells_shown apart start outcome next run begun computing
refused = refl

-- So what is said of such a reservation is said of this one.
pub beside : Beside (apart 3).state.core.table 0 1
unfolding apart start outcome next run begun computing
beside =
    record {
      used = omega arith;
      state = refl;
      other = record { used = omega arith; state = refl; holder = λ e. let z : ◌≡◌ {A = ℕ} 3 0 = e in omega arith };
      cell = 7;
      within = refl;
      near = 8;
      theirs = refl;
      page = refl;
    }

-- If party 0 itself holds the other one, it takes it, merges the two, and takes all back.
pub merged_back :
    leaves step_of [] (apart 0) (Take 0 8 0 ∷ Merge 0 0 ∷ Revoke 0 0 ∷ Sweep 0 16 ∷ Collect 0 ∷ [])
    ≡ left (0 ∷ 0 ∷ 0 ∷ 0 ∷ 0 ∷ []) (reservation 0 32 Open 0 9 ∷ []) Unmapped Unmapped 0
unfolding leaves tagged cells_shown apart start outcome next run begun computing
merged_back = refl
