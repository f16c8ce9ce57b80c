-- Not mapped before it is clean. Assumes nothing.
use Prim.Native.Nat.{ℕ, ◌+◌, ◌*◌, ◌<◌, ◌≤◌}
use native.Mathlib.Omega.{arith}
use mathlib.Core.Bool.{Bool, true, false, true≢false, false≢true}
use mathlib.Core.Logic.{◌⊎◌, inl, inr, ⊎_elim}
use mathlib.Core.Path.{◌≡◌, refl, sym, ap, subst, ◌∙◌}
use Rattle.capabilities.specs.Lists.{pick}
use Rattle.capabilities.specs.Range.{page_inside}
use Rattle.capabilities.proofs.Choice.{pick_no}
use Rattle.pages.specs.declared.Frame.{Frame}
use Rattle.pages.specs.declared.PageState.TheVariants.{Unmapped, Freed}
use Rattle.pages.specs.declared.VirtualPage.{VirtualPage}
use Rattle.pages.specs.Entries.{is_unmapped, is_mapped}
use Rattle.pages.specs.Layer.{page_at}
use Rattle.pages.specs.Mapping.{map_reasons, unmap_reasons}
use Rattle.pages.proofs.Formed.{sound as layered}
use Rattle.pages.proofs.Freeing.{released_at}
use Rattle.pages.proofs.Kept.{mappable, unmappable}
use Rattle.table.specs.declared.Reservation.{Reservation}
use Rattle.table.specs.declared.ReservationState.TheVariants.{Taken}
use Rattle.table.specs.Rows.{range_of, reservation}
use Rattle.table.proofs.Cells.{inside_bounds}
use Rattle.claims.specs.Claims.{claimed}
use Rattle.reservations.specs.Core.{Core}
use Rattle.reservations.specs.Revocation.{revoked}
use Rattle.reservations.proofs.CoreKept.{core_facts}
use Rattle.calls.specs.declared.Call.{Call}
use Rattle.calls.specs.declared.Call.TheVariants.{Map, Unmap}
use Rattle.words.specs.WordReasons.{unnamed, not_manager}
use Rattle.machine.specs.Effects.{effect}
use Rattle.machine.specs.Reasons.{reasons}
use Rattle.machine.specs.Roles.{collects, Asked, asked, role_of, caller_of, IsCollect}
use Rattle.machine.specs.Step.{done, effect_on}
use Rattle.machine.proofs.Deeds.{deed}
use Rattle.machine.proofs.Found.{after_five}
use Rattle.histories.specs.Runs.{Machine, next, run}
use Rattle.histories.specs.Inv.{row_at}
use Rattle.histories.specs.Cleaning.{CleanedBetween}
use Rattle.histories.proofs.Granted.{Went, went, went_or_not, went_next, went_core}
use Rattle.histories.proofs.Findings.{Ends}
use Rattle.histories.proofs.Layer.{unmap_done, unmap_here}
use Rattle.histories.proofs.Between.{Ending, run_until}
use Rattle.histories.proofs.PageAfter.{PageFate, stays, was_unmapped, was_unclaimed, was_released, deed_page, done_pages}
use Rattle.histories.proofs.Survivors.{collect_core, collect_ends}

not_unmapped : Freed ≡ Unmapped → ⊥
not_unmapped e = true≢false (sym (ap is_unmapped e))

-- Every granted call but collect leaves a Freed page Freed.
fate_freed : (c k : Core) (n : ℕ) (a : Asked) → page_at c.pages n ≡ Freed → PageFate c n a k → (page_at k.pages n ≡ Freed) ⊎ (a.role ≡ collects)
fate_freed c k n a is (stays e) = inl (e ∙ is)
fate_freed c k n a is (was_unmapped e) = absurd (not_unmapped (sym is ∙ e))
fate_freed c k n a is (was_unclaimed shown free) = absurd (false≢true (sym (ap is_mapped is) ∙ shown))
fate_freed c k n a is (was_released role hidden) = inr role

-- The page as a reservation would have its cells.
abbrev cells_of : ℕ → Reservation
cells_of n = reservation (16 * n) 16 Taken 0 0

collect_freed : (m : Machine) (call : Call) (p n : ℕ) → IsCollect call p → Went m call → n < 256 → page_at m.state.core.pages n ≡ Freed
    → (page_at (next m call).state.core.pages n ≡ Freed) ⊎ Ending m call (cells_of n)
collect_freed m call p n isc w low is = go (page_inside (revoked c) n) refl
  where
    c : Core
    c = m.state.core

    k : Ends c
    k = collect_ends m call p isc w

    at : page_at (next m call).state.core.pages n ≡ pick (page_inside (revoked c) n) Unmapped (page_at c.pages n)
    at =
        ap (λ x. page_at x.pages n) (collect_core m call p isc w ∙ k.parts)
        ∙ released_at c.pages (revoked c) n (omega (arith, (layered c.pages (core_facts c (went_core m call w)).layer).long_pages))

    go : (b : Bool) → page_inside (revoked c) n ≡ b → (page_at (next m call).state.core.pages n ≡ Freed) ⊎ Ending m call (cells_of n)
    go false e = inl (at ∙ pick_no (page_inside (revoked c) n) Unmapped (page_at c.pages n) e ∙ is)
    go true e =
        let hit = inside_bounds (range_of (row_at c.table k.row)) (16 * n) (ap (λ r. page_inside r n) (sym k.range) ∙ e) in
        inr
        (record {
          party = p;
          is = isc;
          granted = w;
          from = subst (λ x. x.base ≤ 16 * n) (sym k.range) hit.0;
          upto = subst (λ x. 16 * n + 16 ≤ x.base + x.length) (sym k.range) (omega (arith, hit.0, hit.1, k.whole_base, k.whole_length));
        })

-- A step leaves a Freed page Freed, or ends its revocation.
step_freed : (n : ℕ) → n < 256 → (m : Machine) (c : Call) → page_at m.state.core.pages n ≡ Freed → (page_at (next m c).state.core.pages n ≡ Freed) ⊎ Ending m c (cells_of n)
step_freed n low m c is =
    ⊎_elim
    (λ w.
    ⊎_elim (λ k. inl (done_pages m c w n ∙ k))
    (λ k. collect_freed m c (caller_of c) n (ap (asked (caller_of c)) k) w low is)
    (fate_freed m.state.core (effect_on m.state c m.cells m.tags).core n (role_of c) is (deed_page m.state (went_core m c w) n low (deed m.state c m.cells m.tags w.clear))))
    (λ k. inl (ap (λ x. page_at x.state.core.pages n) k.0 ∙ is)) (went_or_not m c)

module _ (m : Machine) (p : ℕ) (page : VirtualPage) (w : Went m (Unmap p page)) where
  unmap_low : page.0 < 256
  unfolding reasons
  unmap_low =
      let clear = after_five (unnamed p) (not_manager p) (unmap_reasons m.state.core.pages page (claimed m.state.core.claims page.0)) w.clear in
      omega (arith, (unmappable m.state.core.pages page _ clear).low_page, (layered m.state.core.pages (core_facts m.state.core (went_core m (Unmap p page) w)).layer).v_most)

  unmap_freed : page_at (next m (Unmap p page)).state.core.pages page.0 ≡ Freed
  unfolding reasons effect done
  unmap_freed =
      let clear = after_five (unnamed p) (not_manager p) (unmap_reasons m.state.core.pages page (claimed m.state.core.claims page.0)) w.clear in
      ap (λ x. page_at x.state.core.pages page.0) (went_next m (Unmap p page) w) ∙ ap (λ x. page_at x page.0) (unmap_done m.state.core.pages page _ clear)
      ∙ unmap_here m.state.core.pages page (omega (arith, unmap_low, (layered m.state.core.pages (core_facts m.state.core (went_core m (Unmap p page) w)).layer).long_pages))

map_unmapped : (m : Machine) (q : ℕ) (page : VirtualPage) (frame : Frame) → Went m (Map q page frame) → page_at m.state.core.pages page.0 ≡ Unmapped
unfolding reasons
map_unmapped m q page frame w =
    let clear = after_five (unnamed q) (not_manager q) (map_reasons m.state.core.pages page frame) w.clear in
    (mappable m.state.core.pages page frame clear).free_page

pub cleaned_between : CleanedBetween
cleaned_between m r p page g calls q frame g' =
    let w = went m (Unmap p page) g in
    let n = run (next m (Unmap p page)) calls in
    ⊎_elim (λ is. absurd (not_unmapped (sym is ∙ map_unmapped n q page frame (went n (Map q page frame) g')))) (λ e. e)
    (run_until (λ x. page_at x.state.core.pages page.0 ≡ Freed) (cells_of page.0) (step_freed page.0 (unmap_low m p page w)) calls (next m (Unmap p page)) (unmap_freed m p page w))
