-- What virtual cells show after map, unmap, revoke and collect, and which frames are Free. Assumes nothing.
use Rattle.std.specs.Prelude.{Option, Some, None}
use Prim.Native.Nat.{ℕ, ◌+◌, ◌*◌, ◌/◌, ◌%◌, ◌<◌}
use native.Mathlib.Omega.{arith}
use mathlib.Core.Bool.{Bool, true, false, ◌&&◌, false≢true}
use mathlib.Core.Logic.{◌⊎◌, inl, inr, ⊎_elim}
use mathlib.Core.Path.{◌≡◌, refl, sym, ap, ◌∙◌}
use borrow.Author.Tests.{eqb-true, eqb-false, eq-eqb, ltb-true}
use lib.Dec.{eqb}
use lib.ListN.{length}
use Rattle.capabilities.specs.declared.Range.{Range}
use Rattle.capabilities.specs.Lists.{pick}
use Rattle.capabilities.specs.Range.{inside, page_inside}
use Rattle.capabilities.specs.Refusals.{first}
use Rattle.capabilities.proofs.Choice.{pick_yes}
use Rattle.pages.specs.declared.Frame.{Frame}
use Rattle.pages.specs.declared.FrameState.{FrameState}
use Rattle.pages.specs.declared.FrameState.TheVariants.{Dirty, Free, Mapped as Shown}
use Rattle.pages.specs.declared.PageState.{PageState}
use Rattle.pages.specs.declared.PageState.TheVariants.{Unmapped, Freed, Mapped}
use Rattle.pages.specs.Pages.{Pages}
use Rattle.pages.specs.declared.VirtualPage.{VirtualPage}
use Rattle.pages.specs.Entries.{is_unmapped, is_mapped, maps_below}
use Rattle.pages.specs.Layer.{page_at, frame_at, with_page, with_frame}
use Rattle.pages.specs.Mapping.{lookup_of, place_in, mapped, map_of, map_reasons, unmapped, unmap_of, unmap_reasons, soiled, freed_of, released_of, any_mapped}
use Rattle.pages.proofs.Formed.{Sound as Layered, maps_low}
use Rattle.pages.proofs.Freeing.{freed_at, released_at, none_mapped_at}
use Rattle.pages.proofs.Kept.{Mappable, Unmappable}
use Rattle.pages.proofs.View.{page_put, page_kept, page_of_frame, frame_put, frame_kept, frame_of_page}
use Rattle.table.proofs.Cells.{inside_bounds, inside_made}
use Rattle.histories.proofs.View.{Seen, seen, looked, lookup_same}
use Rattle.histories.proofs.Keep.{frame_lookup}

-- A page other than the one that a map or an unmap names is as it was; an unmapped one is Freed.
pub map_other : (s : Pages) (page : VirtualPage) (frame : Frame) (n : ℕ) → (n ≡ page.0 → ⊥) → page_at (mapped s page frame) n ≡ page_at s n
unfolding mapped
map_other s page frame n other = page_of_frame (with_page s page.0 (Mapped frame)) frame.0 n Shown ∙ page_kept s page.0 n (Mapped frame) other

soiled_page : (s : Pages) (x : PageState) (n : ℕ) → page_at (soiled s x) n ≡ page_at s n
unfolding soiled
soiled_page s Unmapped n = refl
soiled_page s Freed n = refl
soiled_page s (Mapped frame) n = page_of_frame s frame.0 n Dirty

pub unmap_other : (s : Pages) (page : VirtualPage) (n : ℕ) → (n ≡ page.0 → ⊥) → page_at (unmapped s page) n ≡ page_at s n
unfolding unmapped
unmap_other s page n other = soiled_page (with_page s page.0 Freed) (page_at s page.0) n ∙ page_kept s page.0 n Freed other

pub unmap_here : (s : Pages) (page : VirtualPage) → page.0 < length s.pages → page_at (unmapped s page) page.0 ≡ Freed
unfolding unmapped
unmap_here s page h = soiled_page (with_page s page.0 Freed) (page_at s page.0) page.0 ∙ page_put s page.0 Freed h

no_place : (at : ℕ) → None ≡ Some at → ⊥
no_place at e = let z : ◌≡◌ {A = ℕ} 0 1 = cc in omega arith

-- One page put.
pub page_view : (s : Pages) (i : ℕ) (x : PageState) (v at : ℕ) → i < length s.pages → lookup_of (with_page s i x) v ≡ Some at → (lookup_of s v ≡ Some at) ⊎ ((v / 16 ≡ i) × (place_in x (v % 16) ≡ Some at))
page_view s i x v at h e = go (eqb (v / 16) i) refl
  where
    same_v : (with_page s i x).v ≡ s.v
    same_v = unfold with_page in refl

    k : Seen (with_page s i x) v at
    k = seen (with_page s i x) v at e

    go : (b : Bool) → eqb (v / 16) i ≡ b → (lookup_of s v ≡ Some at) ⊎ ((v / 16 ≡ i) × (place_in x (v % 16) ≡ Some at))
    go true b =
        let n = eqb-true (v / 16) i b in
        let q : x ≡ Mapped k.frame = sym (page_put s i x h) ∙ ap (page_at (with_page s i x)) (sym n) ∙ k.page in
        inr (n, ap (λ p. place_in p (v % 16)) q ∙ ap Some (sym k.place))
    go false b = inl (sym (lookup_same (with_page s i x) s v same_v (page_kept s i (v / 16) x (eqb-false (v / 16) i b))) ∙ e)

-- One frame put that is not Free.
pub frame_view : (s : Pages) (i : ℕ) (x : FrameState) (k : ℕ) → i < length s.frames → (x ≡ Free → ⊥) → frame_at (with_frame s i x) k ≡ Free → frame_at s k ≡ Free
frame_view s i x k h n e = go (eqb k i) refl
  where
    go : (b : Bool) → eqb k i ≡ b → frame_at s k ≡ Free
    go true b = absurd (n (sym (frame_put s i x h) ∙ ap (frame_at (with_frame s i x)) (sym (eqb-true k i b)) ∙ e))
    go false b = sym (frame_kept s i k x (eqb-false k i b)) ∙ e

shown_free : Shown ≡ Free → ⊥
shown_free e = let z : ◌≡◌ {A = ℕ} 0 1 = cc in omega arith

dirty_free : Dirty ≡ Free → ⊥
dirty_free e = let z : ◌≡◌ {A = ℕ} 0 1 = cc in omega arith

frames_kept : (s : Pages) (i : ℕ) (x : PageState) → (with_page s i x).frames ≡ s.frames
unfolding with_page
frames_kept s i x = refl

module _ (s : Pages) (ok : Layered s) (page : VirtualPage) (frame : Frame) (k : Mappable s page frame) where
  long : page.0 < length s.pages
  long = omega (arith, ok.long_pages, ok.v_most, k.low_page)

  deep : frame.0 < length s.frames
  deep = omega (arith, ok.long_frames, ok.f_most, k.low_frame)

  -- After a map a cell shows what it did, or the frame that was Free.
  pub map_view : (v at : ℕ) → lookup_of (mapped s page frame) v ≡ Some at → (lookup_of s v ≡ Some at) ⊎ ((v / 16 ≡ page.0) × (at ≡ 16 * frame.0 + v % 16))
  unfolding mapped
  map_view v at e =
      ⊎_elim inl (λ q. inr (q.0, number (16 * frame.0 + v % 16) at q.1))
      (page_view s page.0 (Mapped frame) v at long (sym (frame_lookup (with_page s page.0 (Mapped frame)) frame.0 Shown v) ∙ e))
    where
      number : (a b : ℕ) → Some a ≡ Some b → b ≡ a
      number a b z = cc

  pub map_free : (j : ℕ) → frame_at (mapped s page frame) j ≡ Free → frame_at s j ≡ Free
  unfolding mapped
  map_free j e =
      sym (frame_of_page s page.0 j (Mapped frame))
      ∙ frame_view (with_page s page.0 (Mapped frame)) frame.0 Shown j (rw (frames_kept s page.0 (Mapped frame)) deep) shown_free e

pub map_done : (s : Pages) (page : VirtualPage) (frame : Frame) → first (map_reasons s page frame) ≡ 0 → (map_of s page frame).pages ≡ mapped s page frame
unfolding map_of
map_done s page frame z = pick_yes (eqb (first (map_reasons s page frame)) 0) (mapped s page frame) s (eq-eqb (first (map_reasons s page frame)) 0 z)

pub unmap_done : (s : Pages) (page : VirtualPage) (claimed : Bool) → first (unmap_reasons s page claimed) ≡ 0 → (unmap_of s page claimed).pages ≡ unmapped s page
unfolding unmap_of
unmap_done s page claimed z = pick_yes (eqb (first (unmap_reasons s page claimed)) 0) (unmapped s page) s (eq-eqb (first (unmap_reasons s page claimed)) 0 z)

module _ (s : Pages) (ok : Layered s) (page : VirtualPage) (k : Unmappable s page) where
  long' : page.0 < length s.pages
  long' = omega (arith, ok.long_pages, ok.v_most, k.low_page)

  abbrev freed : Pages
  freed = with_page s page.0 Freed

  freed_view : (v at : ℕ) → lookup_of freed v ≡ Some at → lookup_of s v ≡ Some at
  freed_view v at e = ⊎_elim (λ q. q) (λ q. absurd (no_place at q.1)) (page_view s page.0 Freed v at long' e)

  -- After an unmap a cell shows no more than it did.
  pub unmap_view : (v at : ℕ) → lookup_of (unmapped s page) v ≡ Some at → lookup_of s v ≡ Some at
  unfolding unmapped soiled
  unmap_view v at e = go (page_at s page.0) e
    where
      go : (x : PageState) → lookup_of (soiled freed x) v ≡ Some at → lookup_of s v ≡ Some at
      go Unmapped q = freed_view v at q
      go Freed q = freed_view v at q
      go (Mapped g) q = freed_view v at (sym (frame_lookup freed g.0 Dirty v) ∙ q)

  pub unmap_free : (j : ℕ) → frame_at (unmapped s page) j ≡ Free → frame_at s j ≡ Free
  unfolding unmapped soiled
  unmap_free j e = go (page_at s page.0) refl e
    where
      go : (x : PageState) → page_at s page.0 ≡ x → frame_at (soiled freed x) j ≡ Free → frame_at s j ≡ Free
      go Unmapped p q = sym (frame_of_page s page.0 j Freed) ∙ q
      go Freed p q = sym (frame_of_page s page.0 j Freed) ∙ q
      go (Mapped g) p q =
          let low : g.0 < s.f = ltb-true g.0 s.f (sym (ap (maps_below s.f) p) ∙ maps_low s ok page.0 k.low_page) in
          sym (frame_of_page s page.0 j Freed)
          ∙ frame_view freed g.0 Dirty j (rw (frames_kept s page.0 Freed) (omega (arith, ok.long_frames, ok.f_most))) dirty_free q

module _ (s : Pages) (ok : Layered s) (r : Range) where
  -- Freeing and releasing pages show no more than was shown.
  pub freed_shows : (v at : ℕ) → lookup_of (freed_of s r) v ≡ Some at → lookup_of s v ≡ Some at
  freed_shows v at e =
      let k = seen (freed_of s r) v at e in
      let low : v / 16 < s.v = unfold freed_of in k.low in
      let p = sym (freed_at s r (v / 16) (omega (arith, ok.long_pages, ok.v_most))) ∙ k.page in
      looked s v at (record { frame = k.frame; low = low; page = go (page_inside r (v / 16) && is_unmapped (page_at s (v / 16))) k.frame p; place = k.place })
    where
      go : (b : Bool) (f : Frame) → pick b Freed (page_at s (v / 16)) ≡ Mapped f → page_at s (v / 16) ≡ Mapped f
      go true f q = absurd (let z : ◌≡◌ {A = ℕ} 0 1 = cc in omega arith)
      go false f q = q

  pub freed_free : (j : ℕ) → frame_at (freed_of s r) j ≡ Free → frame_at s j ≡ Free
  unfolding freed_of frame_at
  freed_free j e = e

  pub released_shows : (v at : ℕ) → lookup_of (released_of s r) v ≡ Some at → lookup_of s v ≡ Some at
  released_shows v at e =
      let k = seen (released_of s r) v at e in
      let low : v / 16 < s.v = unfold released_of in k.low in
      let p = sym (released_at s r (v / 16) (omega (arith, ok.long_pages, ok.v_most))) ∙ k.page in
      looked s v at (record { frame = k.frame; low = low; page = go (page_inside r (v / 16)) k.frame p; place = k.place })
    where
      go : (b : Bool) (f : Frame) → pick b Unmapped (page_at s (v / 16)) ≡ Mapped f → page_at s (v / 16) ≡ Mapped f
      go true f q = absurd (let z : ◌≡◌ {A = ℕ} 0 1 = cc in omega arith)
      go false f q = q

  pub released_free : (j : ℕ) → frame_at (released_of s r) j ≡ Free → frame_at s j ≡ Free
  unfolding released_of frame_at
  released_free j e = e

  -- F3: no cell of whole pages, all Freed, is Mapped.
  pub none_shown : r.base % 16 ≡ 0 → r.length % 16 ≡ 0 → any_mapped s r ≡ false → (v : ℕ) → inside r v ≡ true → lookup_of s v ≡ None
  none_shown b l none v e = go (lookup_of s v) refl
    where
      go : (x : Option ℕ) → lookup_of s v ≡ x → x ≡ None
      go None q = refl
      go (Some at) q =
          let k = seen s v at q in
          let bounds = inside_bounds r v e in
          let in-page : page_inside r (v / 16) ≡ true = inside_made r (16 * (v / 16)) (omega (arith, bounds.0)) (omega (arith, bounds.1)) in
          absurd (false≢true (sym (none_mapped_at s r (v / 16) (omega (arith, ok.long_pages, ok.v_most, k.low)) none in-page) ∙ ap is_mapped k.page))
