-- A cell that is Mapped after a granted call was Mapped to the same place before it, or lies in a frame that was Free and is not written.
-- Assumes nothing.
use Rattle.std.specs.Prelude.{Some}
use Prim.Native.Nat.{ℕ, ◌+◌, ◌*◌, ◌%◌, ◌<◌}
use native.Mathlib.Omega.{arith}
use mathlib.Core.Bool.{true}
use mathlib.Core.Logic.{⊎_elim}
use mathlib.Core.List.{List}
use mathlib.Core.Path.{◌≡◌, refl, sym, subst, ◌∙◌}
use Rattle.pages.specs.declared.FrameState.TheVariants.{Free}
use Rattle.pages.specs.Pages.{Pages}
use Rattle.pages.specs.Layer.{frame_at}
use Rattle.pages.specs.Mapping.{lookup_of}
use Rattle.pages.proofs.Formed.{Sound, sound}
use Rattle.pages.proofs.Kept.{mappable, unmappable}
use Rattle.table.specs.Find.{find_of, row_of}
use Rattle.table.specs.Rows.{range_of}
use Rattle.reservations.specs.Core.{Core}
use Rattle.reservations.specs.Revocation.{revoked, revoke_of, collect_of, core_sound}
use Rattle.reservations.proofs.CoreKept.{core_facts}
use Rattle.machine.specs.State.{State}
use Rattle.machine.specs.Roles.{Asked}
use Rattle.machine.specs.Effects.{MemoryChange, keep_memory, Effect}
use Rattle.machine.proofs.Deeds.{Recored, splits, merges, gives, revokes, maps, unmaps, reclaims, Deed, took, recored, swept, collected_all, zeroed, filled, wrote, mailed, received}
use Rattle.histories.proofs.Keep.{frame_lookup}
use Rattle.histories.proofs.Layer.{map_done, map_view, unmap_done, unmap_view, freed_shows, released_shows}
use Rattle.histories.proofs.Findings.{ends, revoke_parts}

-- Where a Mapped cell comes from; l is what becomes of memory meanwhile.
pub data Came (s : Pages) (l : MemoryChange) (v at : ℕ) : Type 0 where
  shown_before : lookup_of s v ≡ Some at → Came s l v at
  was_free : (k i : ℕ) → frame_at s k ≡ Free → i < 16 → at ≡ 16 * k + i → l ≡ keep_memory → Came s l v at

module _ (c : Core) (ok : core_sound c ≡ true) where
  layer : Sound c.pages
  layer = sound c.pages (core_facts c ok).layer

  pub recored_came : (k : Core) → Recored c k → (v at : ℕ) → lookup_of k.pages v ≡ Some at → Came c.pages keep_memory v at
  recored_came k (splits p base len z) v at e = shown_before e
  recored_came k (merges p base z) v at e = shown_before e
  recored_came k (gives p base to low z) v at e = shown_before e
  recored_came k (revokes p base z) v at e =
      shown_before (freed_shows c.pages layer (range_of (row_of c.table (find_of c.table p base))) v at (subst (λ x. lookup_of x.pages v ≡ Some at) (revoke_parts c p base (unfold revoke_of in z)) e))
  recored_came k (maps page frame z) v at e =
      let g = mappable c.pages page frame z in
      ⊎_elim shown_before (λ q. was_free frame.0 (v % 16) g.free_frame (omega arith) q.1 refl)
      (map_view c.pages layer page frame g v at (subst (λ x. lookup_of x v ≡ Some at) (map_done c.pages page frame z) e))
  recored_came k (unmaps page z) v at e =
      shown_before (unmap_view c.pages layer page (unmappable c.pages page _ z) v at (subst (λ x. lookup_of x v ≡ Some at) (unmap_done c.pages page _ z) e))
  recored_came k (reclaims x r) v at e = shown_before e

pub came : (s : State) → core_sound s.core ≡ true → {cells tags : List ℕ} {a : Asked} {e : Effect} → Deed s cells tags a e → (v at : ℕ)
    → lookup_of e.core.pages v ≡ Some at → Came s.core.pages e.memory v at
came s ok (took p base reg permissions low-p low-reg few z) v at q = shown_before q
came s ok (recored p k r) v at q = recored_came s.core ok k r v at q
came s ok (swept p n runs) v at q = shown_before q
came s ok (collected_all p z) v at q =
    let c = s.core in
    shown_before (released_shows c.pages (layer c ok) (revoked c) v at (subst (λ x. lookup_of x.pages v ≡ Some at) (ends c ok (unfold collect_of in z)).parts q))
came s ok (zeroed p frame z) v at q = shown_before (sym (frame_lookup s.core.pages frame.0 Free v) ∙ q)
came s ok (filled p d from w answer low g) v at q = shown_before q
came s ok (wrote p a off x low-p low-a g) v at q = shown_before q
came s ok (mailed p x to t) v at q = shown_before q
came s ok (received p d low) v at q = shown_before q
