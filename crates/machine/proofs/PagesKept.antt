-- Map, unmap and zero keep the core well formed, granted or refused: the layer stays well formed, and the pages of the
-- Revoking reservation, which are all Freed, stay so. Assumes nothing.
use Prim.Native.Nat.{ℕ, ◌*◌, ◌<◌}
use native.Mathlib.Nat.{zero-add}
use native.Mathlib.Omega.{arith}
use mathlib.Core.Bool.{Bool, true, false, not, ◌&&◌, ◌||◌, or-true}
use mathlib.Core.Path.{◌≡◌, refl, sym, subst, ◌∙◌}
use lib.ListN.{length}
use lib.Dec.{eqb}
use borrow.Author.Tests.{eqb-true, leb-false, not-false}
use Rattle.capabilities.specs.declared.Range.{Range}
use Rattle.capabilities.specs.Lists.{pick}
use Rattle.capabilities.specs.Range.{page_inside}
use Rattle.capabilities.specs.Refusals.{first}
use Rattle.capabilities.proofs.Choice.{and_left, and_right}
use Rattle.capabilities.proofs.Lists.{each_at}
use Rattle.capabilities.proofs.Refusals.{first_clear}
use Rattle.pages.specs.Pages.{Pages}
use Rattle.pages.specs.declared.Frame.{Frame}
use Rattle.pages.specs.declared.VirtualPage.{VirtualPage}
use Rattle.pages.specs.declared.PageState.{PageState}
use Rattle.pages.specs.declared.PageState.TheVariants.{Unmapped, Freed, Mapped}
use Rattle.pages.specs.declared.FrameState.{FrameState}
use Rattle.pages.specs.declared.FrameState.TheVariants.{Dirty, Free, Mapped as Shown}
use Rattle.pages.specs.Entries.{is_dirty, page_entry}
use Rattle.pages.specs.Freed.{is_freed, freed_in, all_freed}
use Rattle.pages.specs.Layer.{page_at, frame_at, with_page, with_frame, well_formed}
use Rattle.pages.specs.Mapping.{no_frame, map_reasons, mapped, map_of, unmap_reasons, soiled, unmapped, unmap_of, dirty_reasons}
use Rattle.pages.proofs.Formed.{sound, formed, frame_changed}
use Rattle.pages.proofs.Kept.{Mappable, mappable, map_keeps, unmap_keeps}
use Rattle.pages.proofs.States.{is_dirty_lem}
use Rattle.table.specs.Find.{revoking_of, row_of}
use Rattle.table.specs.Tiling.{table_sound}
use Rattle.table.proofs.Truth.{both}
use Rattle.reservations.specs.Core.{Core}
use Rattle.reservations.specs.Revocation.{running, revoked, whole_pages, revocation_sound, core_sound}
use Rattle.reservations.proofs.CoreKept.{core_facts, core_made}
use Rattle.machine.specs.Effects.{with_pages}
use Rattle.machine.proofs.Judging.{pick_by}
use Rattle.machine.proofs.Lists.{each_set}

-- The revocation that runs needs of the layer only that the pages of its range stay Freed.
revocation_kept : (c : Core) (p : Pages) → revocation_sound c ≡ true → (all_freed c.pages (revoked c) ≡ true → all_freed p (revoked c) ≡ true)
    → revocation_sound (with_pages c p) ≡ true
unfolding revocation_sound running revoked
revocation_kept c p h f = go (running c) h
  where
    go : (b : Bool) → pick b (whole_pages (row_of c.table (revoking_of c.table)) && all_freed c.pages (revoked c)) (eqb c.place 0) ≡ true
        → pick b (whole_pages (row_of c.table (revoking_of c.table)) && all_freed p (revoked c)) (eqb c.place 0) ≡ true
    go true e =
        let w = whole_pages (row_of c.table (revoking_of c.table)) in
        both w (all_freed p (revoked c)) (and_left w (all_freed c.pages (revoked c)) e) (f (and_right w (all_freed c.pages (revoked c)) e))
    go false e = e

-- What one operation leaves of a layer: it has its size, is well formed, and what was all Freed still is.
pub record Follows (s t : Pages) : Type 0 where
  pub same_v : t.v ≡ s.v
  pub same_f : t.f ≡ s.f
  pub layer : well_formed t ≡ true
  pub freed : (r : Range) → all_freed s r ≡ true → all_freed t r ≡ true

-- Such a layer may stand in place of the old one.
pub pages_kept : (c : Core) (p : Pages) → core_sound c ≡ true → Follows c.pages p → core_sound (with_pages c p) ≡ true
pages_kept c p ok f =
    let facts = core_facts c ok in
    core_made (with_pages c p) f.layer (subst (λ v. table_sound (16 * v) c.table ≡ true) (sym f.same_v) facts.rows)
    (omega (arith, facts.place, f.same_f)) (revocation_kept c p facts.revocation (f.freed (revoked c)))

-- A page that is not Freed lies outside the range.
outside : (s : Pages) (r : Range) (p : ℕ) → p < length s.pages → all_freed s r ≡ true → not (page_inside r p) || is_freed (page_at s p) ≡ true
unfolding all_freed freed_in page_at
outside s r p h a = rw zero-add at (each_at (freed_in r) 0 s.pages p (page_entry Unmapped) h a)

-- One page's state changes: it is Freed, or lies outside the range.
page_freed : (s : Pages) (r : Range) (p : ℕ) (x : PageState) → not (page_inside r p) || is_freed x ≡ true → all_freed s r ≡ true
    → all_freed (with_page s p x) r ≡ true
unfolding all_freed freed_in with_page
page_freed s r p x h a = each_set (freed_in r) 0 s.pages p (page_entry x) (rw zero-add h) a

frame_freed : (s : Pages) (k : ℕ) (x : FrameState) (r : Range) → all_freed (with_frame s k x) r ≡ all_freed s r
unfolding all_freed with_frame
frame_freed s k x r = refl

-- 08.
map_freed : (s : Pages) (page : VirtualPage) (frame : Frame) (r : Range) → page.0 < length s.pages → Mappable s page frame
    → all_freed s r ≡ true → all_freed (mapped s page frame) r ≡ true
unfolding mapped
map_freed s page frame r h m a =
    frame_freed (with_page s page.0 (Mapped frame)) frame.0 Shown r
    ∙ page_freed s r page.0 (Mapped frame) (subst (λ x. not (page_inside r page.0) || is_freed x ≡ true) m.free_page (outside s r page.0 h a)) a

-- 09: the page was Mapped, and becomes Freed.
soiled_freed : (s : Pages) (x : PageState) (r : Range) → all_freed (soiled s x) r ≡ all_freed s r
unfolding soiled
soiled_freed s Unmapped r = refl
soiled_freed s Freed r = refl
soiled_freed s (Mapped frame) r = frame_freed s frame.0 Dirty r

unmap_freed : (s : Pages) (page : VirtualPage) (r : Range) → all_freed s r ≡ true → all_freed (unmapped s page) r ≡ true
unfolding unmapped
unmap_freed s page r a =
    soiled_freed (with_page s page.0 Freed) (page_at s page.0) r ∙ page_freed s r page.0 Freed (or-true (not (page_inside r page.0))) a

-- No operation changes V or F.
soiled_size : (s : Pages) (x : PageState) → ((soiled s x).v ≡ s.v) × ((soiled s x).f ≡ s.f)
unfolding soiled with_frame
soiled_size s Unmapped = (refl, refl)
soiled_size s Freed = (refl, refl)
soiled_size s (Mapped frame) = (refl, refl)

unmapped_size : (s : Pages) (page : VirtualPage) → ((unmapped s page).v ≡ s.v) × ((unmapped s page).f ≡ s.f)
unfolding unmapped with_page
unmapped_size s page = soiled_size (with_page s page.0 Freed) (page_at s page.0)

mapped_size : (s : Pages) (page : VirtualPage) (frame : Frame) → ((mapped s page frame).v ≡ s.v) × ((mapped s page frame).f ≡ s.f)
unfolding mapped with_page with_frame
mapped_size s page frame = (refl, refl)

framed_size : (s : Pages) (k : ℕ) (x : FrameState) → ((with_frame s k x).v ≡ s.v) × ((with_frame s k x).f ≡ s.f)
unfolding with_frame
framed_size s k x = (refl, refl)

-- What a granted zero has found.
pub zero_clear : (s : Pages) (frame : Frame) → first (dirty_reasons s frame) ≡ 0 → (frame.0 < s.f) × (frame_at s frame.0 ≡ Dirty)
unfolding dirty_reasons
zero_clear s frame e =
    let a = first_clear 12 (no_frame s frame) _ (λ x. omega arith) e in
    let b = first_clear 14 (not (is_dirty (frame_at s frame.0))) _ (λ x. omega arith) a.1 in
    (leb-false s.f frame.0 a.0, is_dirty_lem (frame_at s frame.0) (not-false _ b.0))

module _ (s : Pages) (h : well_formed s ≡ true) where
  -- A refused operation keeps the layer.
  stays : Follows s s
  stays = record { same_v = refl; same_f = refl; layer = h; freed = λ r a. a }

  -- 08, granted or refused.
  pub map_follows : (page : VirtualPage) (frame : Frame) → Follows s (map_of s page frame).pages
  map_follows page frame = record {
    same_v = unfold map_of in pick_by (λ t. t.v ≡ s.v) granted (mapped s page frame) s (λ e. (mapped_size s page frame).0) (λ e. refl);
    same_f = unfold map_of in pick_by (λ t. t.f ≡ s.f) granted (mapped s page frame) s (λ e. (mapped_size s page frame).1) (λ e. refl);
    layer = map_keeps s page frame h;
    freed = λ r a.
        unfold map_of in
        pick_by (λ t. all_freed t r ≡ true) granted (mapped s page frame) s
        (λ e.
        let m = mappable s page frame (eqb-true (first (map_reasons s page frame)) 0 e) in
        let q = sound s h in
        map_freed s page frame r (omega (arith, q.long_pages, q.v_most, m.low_page)) m a)
        (λ e. a);
  }
    where
      granted : Bool
      granted = eqb (first (map_reasons s page frame)) 0

  -- 09, granted or refused.
  pub unmap_follows : (page : VirtualPage) (claimed : Bool) → Follows s (unmap_of s page claimed).pages
  unmap_follows page claimed = record {
    same_v = unfold unmap_of in pick_by (λ t. t.v ≡ s.v) granted (unmapped s page) s (λ e. (unmapped_size s page).0) (λ e. refl);
    same_f = unfold unmap_of in pick_by (λ t. t.f ≡ s.f) granted (unmapped s page) s (λ e. (unmapped_size s page).1) (λ e. refl);
    layer = unmap_keeps s page claimed h;
    freed = λ r a.
        unfold unmap_of in
        pick_by (λ t. all_freed t r ≡ true) granted (unmapped s page) s (λ e. unmap_freed s page r a) (λ e. a);
  }
    where
      granted : Bool
      granted = eqb (first (unmap_reasons s page claimed)) 0

  -- 0A, where it is granted.
  pub zero_follows : (frame : Frame) → first (dirty_reasons s frame) ≡ 0 → Follows s (with_frame s frame.0 Free)
  zero_follows frame e =
      let (low, dirty) = zero_clear s frame e in
      record {
        same_v = (framed_size s frame.0 Free).0;
        same_f = (framed_size s frame.0 Free).1;
        layer = formed (with_frame s frame.0 Free) (frame_changed s (sound s h) frame.0 Free low (rw dirty));
        freed = λ r a. frame_freed s frame.0 Free r ∙ a;
      }

-- 08, 09 and 0A keep the core well formed.
module _ (c : Core) (ok : core_sound c ≡ true) where
  pub core_map : (page : VirtualPage) (frame : Frame) → core_sound (with_pages c (map_of c.pages page frame).pages) ≡ true
  core_map page frame = pages_kept c (map_of c.pages page frame).pages ok (map_follows c.pages (core_facts c ok).layer page frame)

  pub core_unmap : (page : VirtualPage) (claimed : Bool) → core_sound (with_pages c (unmap_of c.pages page claimed).pages) ≡ true
  core_unmap page claimed = pages_kept c (unmap_of c.pages page claimed).pages ok (unmap_follows c.pages (core_facts c ok).layer page claimed)

  pub core_zero : (frame : Frame) → first (dirty_reasons c.pages frame) ≡ 0 → core_sound (with_pages c (with_frame c.pages frame.0 Free)) ≡ true
  core_zero frame e = pages_kept c (with_frame c.pages frame.0 Free) ok (zero_follows c.pages (core_facts c ok).layer frame e)
