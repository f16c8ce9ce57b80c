-- Nothing crosses over. Assumes nothing.
use Prim.Native.Nat.{ℕ, ◌+◌, ◌*◌, ◌<◌}
use native.Mathlib.Omega.{arith}
use mathlib.Core.Path.{◌≡◌, sym, ap, subst, ◌∙◌}
use Rattle.capabilities.specs.Refusals.{first}
use Rattle.capabilities.proofs.Refusals.{first_clear}
use Rattle.pages.specs.declared.Frame.{Frame}
use Rattle.pages.specs.declared.VirtualPage.{VirtualPage}
use Rattle.pages.specs.Mapping.{lookup_of, map_reasons}
use Rattle.pages.proofs.Formed.{sound as layered}
use Rattle.pages.proofs.Kept.{mappable}
use Rattle.pages.proofs.Shows.{map_shows}
use Rattle.reservations.proofs.CoreKept.{core_facts}
use Rattle.calls.specs.declared.Call.TheVariants.{Map}
use Rattle.words.specs.WordReasons.{unnamed, not_manager}
use Rattle.machine.specs.Effects.{effect}
use Rattle.machine.specs.Reasons.{reasons}
use Rattle.machine.specs.Step.{done, effect_on, registers_after, mailboxes_after, cells_after, tags_after}
use Rattle.histories.specs.Runs.{Machine, Reached}
use Rattle.histories.specs.Crossing.{ShowsZero, MappedIsZero, FreeIsZero}
use Rattle.histories.proofs.Granted.{handed, Went, went, went_next, went_core}
use Rattle.histories.proofs.Layer.{map_done}
use Rattle.histories.proofs.Always.{inv_reached}

map_clear : (m : Machine) (p : ℕ) (page : VirtualPage) (frame : Frame) → Went m (Map p page frame) → first (map_reasons m.state.core.pages page frame) ≡ 0
unfolding reasons
map_clear m p page frame w =
    let one = first_clear 4 (unnamed p) _ (λ x. omega arith) w.clear in
    (first_clear 5 (not_manager p) (map_reasons m.state.core.pages page frame) (λ x. omega arith) one.1).1

pub free_is_zero : FreeIsZero
free_is_zero m r k i e b = let z = (inv_reached m r).memory.free k i e b in record { cell = z.0; tag = z.1 }

done_is_zero : (m : Machine) → Reached m → (p : ℕ) (page : VirtualPage) (frame : Frame) → Went m (Map p page frame) → (i : ℕ) → i < 16
    → ShowsZero (handed (done m.state (effect_on m.state (Map p page frame) m.cells m.tags) m.cells m.tags)) (16 * page.0 + i)
unfolding effect done registers_after mailboxes_after cells_after tags_after
done_is_zero m r p page frame w i b =
    let pages = m.state.core.pages in
    let clear = map_clear m p page frame w in
    let k = mappable pages page frame clear in
    let z = (inv_reached m r).memory.free frame.0 i k.free_frame b in
    record {
      at = 16 * frame.0 + i;
      mapped = ap (λ s. lookup_of s (16 * page.0 + i)) (map_done pages page frame clear) ∙ map_shows pages page frame i (layered pages (core_facts m.state.core (went_core m (Map p page frame) w)).layer) k b;
      zeros = record { cell = z.0; tag = z.1 };
    }

pub mapped_is_zero : MappedIsZero
mapped_is_zero m r p page frame g i b =
    let w = went m (Map p page frame) g in
    subst (λ n. ShowsZero n (16 * page.0 + i)) (sym (went_next m (Map p page frame) w)) (done_is_zero m r p page frame w i b)
