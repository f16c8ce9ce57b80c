-- Every operation of the page layer keeps it well formed, granted or refused. Assumes nothing.
use Prim.Native.Nat.{ℕ, ◌+◌, ◌<◌}
use native.Mathlib.Omega.{arith}
use mathlib.Core.Bool.{Bool, true, false, not, ◌||◌, false≢true}
use mathlib.Core.Path.{◌≡◌, refl, sym}
use lib.ListN.{length, set}
use lib.Dec.{eqb}
use borrow.Author.Tests.{ltb-true, leb-false, eqb-true, lt-ltb, ne_eqb, eq-eqb, not-false}
use Rattle.capabilities.specs.Lists.{pick}
use Rattle.capabilities.specs.Refusals.{first}
use Rattle.capabilities.proofs.Choice.{pick_yes, or_false, at_most}
use Rattle.capabilities.proofs.Refusals.{first_clear}
use Rattle.pages.specs.Pages.{Pages}
use Rattle.pages.specs.declared.Frame.{Frame}
use Rattle.pages.specs.declared.VirtualPage.{VirtualPage}
use Rattle.pages.specs.declared.PageState.{PageState}
use Rattle.pages.specs.declared.PageState.TheVariants.{Unmapped, Freed, Mapped}
use Rattle.pages.specs.declared.FrameState.TheVariants.{Dirty, Free, Mapped as Shown}
use Rattle.pages.specs.Entries.{is_unmapped, is_mapped, maps, is_free, is_shown, page_entry}
use Rattle.pages.specs.Layer.{page_at, frame_at, with_page, with_frame, mappings, well_formed, in_range, fresh_of, blank}
use Rattle.pages.specs.Mapping.{paged, no_page, no_frame, map_reasons, mapped, map_of, unmap_reasons, unmapped, unmap_of, soiled}
use Rattle.pages.proofs.Formed.{Sound, sound, formed, mapped_once, maps_low, changed, blank_sound}
use Rattle.pages.proofs.Mappings.{mappings_set}
use Rattle.pages.proofs.States.{is_unmapped_lem, is_free_lem}

-- What a granted map, unmap or zero has found.
pub record Mappable (s : Pages) (page : VirtualPage) (frame : Frame) : Type 0 where
  pub low_page : page.0 < s.v
  pub low_frame : frame.0 < s.f
  pub free_page : page_at s page.0 ≡ Unmapped
  pub free_frame : frame_at s frame.0 ≡ Free

pub record Unmappable (s : Pages) (page : VirtualPage) : Type 0 where
  pub low_page : page.0 < s.v
  pub shown : is_mapped (page_at s page.0) ≡ true

pub mappable : (s : Pages) (page : VirtualPage) (frame : Frame) → first (map_reasons s page frame) ≡ 0 → Mappable s page frame
unfolding map_reasons
mappable s page frame e =
    let a = first_clear 12 (no_page s page || no_frame s frame) _ (λ x. omega arith) e in
    let b = first_clear 13 (not (is_unmapped (page_at s page.0))) _ (λ x. omega arith) a.1 in
    let c = first_clear 14 (not (is_free (frame_at s frame.0))) _ (λ x. omega arith) b.1 in
    let low = or_false (no_page s page) (no_frame s frame) a.0 in
    record {
      low_page = leb-false s.v page.0 low.0;
      low_frame = leb-false s.f frame.0 low.1;
      free_page = is_unmapped_lem _ (not-false _ b.0);
      free_frame = is_free_lem _ (not-false _ c.0);
    }

pub unmappable : (s : Pages) (page : VirtualPage) (claimed : Bool) → first (unmap_reasons s page claimed) ≡ 0 → Unmappable s page
unfolding unmap_reasons
unmappable s page claimed e =
    let a = first_clear 12 (no_page s page) _ (λ x. omega arith) e in
    let b = first_clear 13 (not (is_mapped (page_at s page.0))) _ (λ x. omega arith) a.1 in
    record { low_page = leb-false s.v page.0 a.0; shown = not-false _ b.0 }

-- A refused operation hands back the layer as it was, so only the granted one has to be looked at.
paged_keeps : (k : ℕ) (s t : Pages) → well_formed s ≡ true → (k ≡ 0 → well_formed t ≡ true) → well_formed (paged k s t).pages ≡ true
paged_keeps k s t h g = go (eqb k 0) refl
  where
    go : (b : Bool) → eqb k 0 ≡ b → well_formed (pick (eqb k 0) t s) ≡ true
    go true e = rw e (g (eqb-true k 0 e))
    go false e = rw e h

-- What a page adds to a frame's count, by its state.
counted : (s : Pages) (p k : ℕ) (e : PageState) → p < length s.pages
    → mappings k (set s.pages p (page_entry e)) + pick (maps (page_at s p) k) 1 0 ≡ mappings k s.pages + pick (maps e k) 1 0
unfolding page_at
counted s p k e h = mappings_set k s.pages p (page_entry Unmapped) (page_entry e) h

pub mapped_sound : (s : Pages) (page : VirtualPage) (frame : Frame) → Sound s → Mappable s page frame → Sound (mapped s page frame)
unfolding mapped
mapped_sound s page frame h m =
    changed s h page.0 frame.0 (Mapped frame) Shown m.low_page m.low_frame (lt-ltb _ _ m.low_frame) here others
  where
    long : page.0 < length s.pages
    long = omega (arith, h.long_pages, h.v_most, m.low_page)

    count : (j : ℕ) → mappings j (set s.pages page.0 (page_entry (Mapped frame))) + 0 ≡ mappings j s.pages + pick (eqb frame.0 j) 1 0
    count j = rw m.free_page at (counted s page.0 j (Mapped frame) long)

    none : mappings frame.0 s.pages ≡ 0
    none = rw m.free_frame at (mapped_once s h frame.0 m.low_frame)

    here : mappings frame.0 (set s.pages page.0 (page_entry (Mapped frame))) ≡ 1
    here = omega (arith, rw (eq-eqb frame.0 frame.0 refl) at (count frame.0), none)

    others : (j : ℕ) → (j ≡ frame.0 → ⊥) → mappings j (set s.pages page.0 (page_entry (Mapped frame))) ≡ mappings j s.pages
    others j n = omega (arith, rw (ne_eqb frame.0 j (λ x. n (sym x))) at (count j))

pub map_keeps : (s : Pages) (page : VirtualPage) (frame : Frame) → well_formed s ≡ true → well_formed (map_of s page frame).pages ≡ true
unfolding map_of
map_keeps s page frame h =
    paged_keeps (first (map_reasons s page frame)) s (mapped s page frame) h
    (λ e. formed (mapped s page frame) (mapped_sound s page frame (sound s h) (mappable s page frame e)))

pub unmapped_sound : (s : Pages) (page : VirtualPage) → Sound s → Unmappable s page → Sound (unmapped s page)
unfolding unmapped soiled
unmapped_sound s page h m = go (page_at s page.0) refl
  where
    long : page.0 < length s.pages
    long = omega (arith, h.long_pages, h.v_most, m.low_page)

    at : (g : Frame) → page_at s page.0 ≡ Mapped g → Sound (with_frame (with_page s page.0 Freed) g.0 Dirty)
    at g e =
        let count : (j : ℕ) → mappings j (set s.pages page.0 (page_entry Freed)) + pick (eqb g.0 j) 1 0 ≡ mappings j s.pages + 0 =
        λ j. rw e at (counted s page.0 j Freed long)
        in
        let low : g.0 < s.f = ltb-true _ _ (rw e at (maps_low s h page.0 m.low_page)) in
        changed s h page.0 g.0 Freed Dirty m.low_page low refl
        (omega (arith, rw (eq-eqb g.0 g.0 refl) at (count g.0), mapped_once s h g.0 low, at_most (is_shown (frame_at s g.0))))
        (λ j n. omega (arith, rw (ne_eqb g.0 j (λ x. n (sym x))) at (count j)))

    go : (x : PageState) → page_at s page.0 ≡ x → Sound (soiled (with_page s page.0 Freed) x)
    go Unmapped e = absurd (false≢true (rw e at m.shown))
    go Freed e = absurd (false≢true (rw e at m.shown))
    go (Mapped g) e = at g e

pub unmap_keeps : (s : Pages) (page : VirtualPage) (claimed : Bool) → well_formed s ≡ true → well_formed (unmap_of s page claimed).pages ≡ true
unfolding unmap_of
unmap_keeps s page claimed h =
    paged_keeps (first (unmap_reasons s page claimed)) s (unmapped s page) h
    (λ e. formed (unmapped s page) (unmapped_sound s page (sound s h) (unmappable s page claimed e)))

-- A fresh layer is well formed if V and F are in range.
pub fresh_formed : (v f : ℕ) → in_range v f ≡ true → well_formed (fresh_of v f) ≡ true
unfolding fresh_of
fresh_formed v f e = rw (pick_yes (in_range v f) (blank v f) (blank 0 0) e) (formed (blank v f) (blank_sound v f e))
