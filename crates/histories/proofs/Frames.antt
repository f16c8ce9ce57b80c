-- Live by frames: each place of a Mapped frame is the place of a virtual cell whose page is Mapped, and of one alone. Assumes nothing.
use Rattle.std.specs.Prelude.{Some}
use Prim.Native.Nat.{ℕ, suc, ◌+◌, ◌*◌, ◌/◌, ◌%◌, ◌<◌, ◌≤◌}
use native.Mathlib.Omega.{arith}
use mathlib.Core.Bool.{Bool, true, false, false≢true}
use mathlib.Core.List.{List, [], ◌∷◌}
use mathlib.Core.Path.{◌≡◌, refl, sym, ap, ◌∙◌}
use borrow.Author.Tests.{eqb-true, ltb-true, ltb-false}
use lib.Dec.{ltb}
use lib.ListN.{length, get_or, get_or-eq_default}
use Rattle.capabilities.specs.Lists.{pick}
use Rattle.capabilities.proofs.Choice.{pick_no}
use Rattle.pages.specs.declared.Frame.{Frame}
use Rattle.pages.specs.declared.FrameState.TheVariants.{Dirty, Mapped as Shown}
use Rattle.pages.specs.Pages.{PageEntry}
use Rattle.pages.specs.declared.PageState.{PageState}
use Rattle.pages.specs.declared.PageState.TheVariants.{Unmapped, Freed, Mapped}
use Rattle.pages.specs.Pages.{Pages}
use Rattle.pages.specs.Entries.{is_shown, is_dirty, is_unmapped, maps, page_entry, frame_entry}
use Rattle.pages.specs.Layer.{page_at, frame_at, mappings, page_sound, frame_sound}
use Rattle.pages.specs.Mapping.{lookup_of}
use Rattle.pages.proofs.Formed.{Sound as Layered, sound as layered, mapped_once}
use Rattle.reservations.proofs.CoreKept.{core_facts}
use Rattle.machine.proofs.Keeps.{facts}
use Rattle.histories.specs.Confining.{FrameTagsAreBits}
use Rattle.histories.proofs.View.{looked}
use Rattle.histories.proofs.Always.{inv_reached}
use Rattle.histories.proofs.Forming.{always_formed}

-- A page that maps a frame which some page maps.
record MappedBy (k : ℕ) (l : List PageEntry) : Type 0 where
  page : ℕ
  used : page < length l
  maps_it : maps (get_or l page (page_entry Unmapped)).state k ≡ true

mapped_by : (k : ℕ) (l : List PageEntry) → 1 ≤ mappings k l → MappedBy k l
unfolding mappings
mapped_by k [] h = absurd (omega arith)
mapped_by k (e ∷ l) h = go (maps e.state k) refl h (mapped_by k l)
  where
    go : (b : Bool) → maps e.state k ≡ b → 1 ≤ pick b 1 0 + mappings k l → (1 ≤ mappings k l → MappedBy k l) → MappedBy k (e ∷ l)
    go true q n f = record { page = 0; used = omega arith; maps_it = q }
    go false q n f = let r = f (omega arith) in record { page = suc r.page; used = omega (arith, r.used); maps_it = r.maps_it }

maps_is : (x : PageState) (k : ℕ) → maps x k ≡ true → (f : Frame) × (x ≡ Mapped f) × (f.0 ≡ k)
maps_is Unmapped k e = absurd (false≢true e)
maps_is Freed k e = absurd (false≢true e)
maps_is (Mapped f) k e = (f, refl, eqb-true f.0 k e)

module _ (s : Pages) (ok : Layered s) where
  shown_low : (k : ℕ) → frame_at s k ≡ Shown → k < s.f
  unfolding frame_at frame_sound
  shown_low k e = go (ltb k s.f) refl (ltb k 128) refl
    where
      go : (a : Bool) → ltb k s.f ≡ a → (b : Bool) → ltb k 128 ≡ b → k < s.f
      go true p b q = ltb-true k s.f p
      go false p true q = absurd (false≢true (sym (ap (λ x. is_dirty x) e) ∙ sym (pick_no (ltb k s.f) _ (is_dirty (get_or s.frames k (frame_entry Dirty)).state) p) ∙ ok.frame k (ltb-true k 128 q)))
      go false p false q =
          let d : get_or s.frames k (frame_entry Dirty) ≡ frame_entry Dirty = get_or-eq_default s.frames (frame_entry Dirty) (omega (arith, ok.long_frames, ltb-false k 128 q)) in
          absurd (let z : Dirty ≡ Shown = sym (ap (λ x. x.state) d) ∙ e in let y : ◌≡◌ {A = ℕ} 0 1 = cc in omega arith)

  -- A Mapped page is one of V.
  pub page_low : (p : ℕ) (f : Frame) → page_at s p ≡ Mapped f → p < s.v
  unfolding page_at page_sound
  page_low p f e = go (ltb p s.v) refl (ltb p 256) refl
    where
      go : (a : Bool) → ltb p s.v ≡ a → (b : Bool) → ltb p 256 ≡ b → p < s.v
      go true q b h = ltb-true p s.v q
      go false q true h = absurd (false≢true (sym (ap (λ x. is_unmapped x) e) ∙ sym (pick_no (ltb p s.v) _ (is_unmapped (get_or s.pages p (page_entry Unmapped)).state) q) ∙ ok.page p (ltb-true p 256 h)))
      go false q false h =
          let d : get_or s.pages p (page_entry Unmapped) ≡ page_entry Unmapped = get_or-eq_default s.pages (page_entry Unmapped) (omega (arith, ok.long_pages, ltb-false p 256 h)) in
          absurd (let z : Unmapped ≡ Mapped f = sym (ap (λ x. x.state) d) ∙ e in let y : ◌≡◌ {A = ℕ} 0 1 = cc in omega arith)

  -- The virtual cell that has a place of a Mapped frame.
  pub frame_cell : (k i : ℕ) → frame_at s k ≡ Shown → i < 16 → (v : ℕ) × (lookup_of s v ≡ Some (16 * k + i))
  unfolding page_at
  frame_cell k i e b =
      let one = mapped_once s ok k (shown_low k e) in
      let many : pick {A = ℕ} (is_shown (frame_at s k)) 1 0 ≡ 1 = ap (λ x. pick {A = ℕ} (is_shown x) 1 0) e in
      let r = mapped_by k s.pages (omega arith) in
      let p = r.page in
      let (f, q, n) = maps_is (page_at s p) k r.maps_it in
      let v : (16 * r.page + i) / 16 ≡ r.page = omega arith in
      let o : (16 * r.page + i) % 16 ≡ i = omega arith in (
        16 * r.page + i,
        looked s (16 * r.page + i) (16 * k + i) (record { frame = f; low = rw v (page_low r.page f q); page = ap (page_at s) v ∙ q; place = rw o (ap (λ x. 16 * x + i) (sym n)) }),
      )

pub frame_tags_are_bits : FrameTagsAreBits
frame_tags_are_bits m r k i e b =
    let pages = m.state.core.pages in
    let (v, q) = frame_cell pages (layered pages (core_facts m.state.core (facts m.state (always_formed m r).formed).core).layer) k i e b in
    (inv_reached m r).memory.bytes v (16 * k + i) q
