-- What well-formedness says of each page and frame, the way back, and what change of an entry keeps it. Assumes nothing.
use Prim.Native.Nat.{ℕ, zero, suc, ◌<◌, ◌≤◌}
use native.Mathlib.Nat.{zero-add}
use native.Mathlib.Omega.{arith}
use mathlib.Core.Bool.{Bool, true, false, ◌&&◌}
use mathlib.Core.List.{List}
use mathlib.Core.Path.{◌≡◌, refl, sym, ap, subst, ◌∙◌}
use lib.ListN.{length, get_or, set, length-set, replicate, get_or-replicate}
use lib.Seq.{get_or-set_same, get_or-set_other, set-get_or}
use lib.Dec.{leb, ltb, eqb}
use borrow.Author.Tests.{ltb-true, leb-true, eqb-true, eqb-false, lt-ltb, le-leb, eq-eqb}
use Rattle.capabilities.specs.Lists.{pick, each}
use Rattle.capabilities.proofs.Choice.{pick_yes, pick_twice, and_left, and_right}
use Rattle.capabilities.proofs.Lists.{each_at, each_all}
use Rattle.pages.specs.Pages.{Pages}
use Rattle.pages.specs.Pages.{PageEntry}
use Rattle.pages.specs.Pages.{FrameEntry}
use Rattle.pages.specs.declared.PageState.{PageState}
use Rattle.pages.specs.declared.PageState.TheVariants.{Unmapped}
use Rattle.pages.specs.declared.FrameState.{FrameState}
use Rattle.pages.specs.declared.FrameState.TheVariants.{Dirty}
use Rattle.pages.specs.Entries.{maps_below, is_shown, page_entry, frame_entry}
use Rattle.pages.specs.Layer.{page_at, frame_at, with_page, with_frame, in_range, blank, shaped, mappings, page_sound, frame_sound, well_formed}
use Rattle.pages.specs.Mapping.{with_pages}

abbrev page₀ : PageEntry
page₀ = page_entry Unmapped

abbrev frame₀ : FrameEntry
frame₀ = frame_entry Dirty

-- Well-formedness as facts, page by page and frame by frame.
pub record Sound (s : Pages) : Type 0 where
  pub v_least : 0 < s.v
  pub v_most : s.v ≤ 256
  pub f_least : 0 < s.f
  pub f_most : s.f ≤ 128
  pub long_pages : length s.pages ≡ 256
  pub long_frames : length s.frames ≡ 128
  pub page : (p : ℕ) → p < 256 → page_sound s.v s.f p (get_or s.pages p page₀) ≡ true
  pub frame : (k : ℕ) → k < 128 → frame_sound s.f s.pages k (get_or s.frames k frame₀) ≡ true

pub sound : (s : Pages) → well_formed s ≡ true → Sound s
unfolding well_formed
sound s e =
    let pages : Bool = each (page_sound s.v s.f) 0 s.pages in
    let frames : Bool = each (frame_sound s.f s.pages) 0 s.frames in
    let three = and_left ((in_range s.v s.f && shaped s) && pages) frames e in
    let two = and_left (in_range s.v s.f && shaped s) pages three in
    let ranged = and_left (in_range s.v s.f) (shaped s) two in
    let v = and_left (ltb 0 s.v && leb s.v 256) (ltb 0 s.f && leb s.f 128) ranged in
    let f = and_right (ltb 0 s.v && leb s.v 256) (ltb 0 s.f && leb s.f 128) ranged in
    let shape = and_right (in_range s.v s.f) (shaped s) two in
    let long : length s.pages ≡ 256 = eqb-true _ _ (and_left (eqb (length s.pages) 256) _ shape) in
    let wide : length s.frames ≡ 128 = eqb-true _ _ (and_right (eqb (length s.pages) 256) (eqb (length s.frames) 128) shape) in
    record {
      v_least = ltb-true 0 s.v (and_left (ltb 0 s.v) (leb s.v 256) v);
      v_most = leb-true s.v 256 (and_right (ltb 0 s.v) (leb s.v 256) v);
      f_least = ltb-true 0 s.f (and_left (ltb 0 s.f) (leb s.f 128) f);
      f_most = leb-true s.f 128 (and_right (ltb 0 s.f) (leb s.f 128) f);
      long_pages = long;
      long_frames = wide;
      page = λ p h.
          rw zero-add at (each_at (page_sound s.v s.f) 0 s.pages p page₀ (omega arith) (and_right (in_range s.v s.f && shaped s) pages three));
      frame = λ k h.
          rw zero-add at (each_at (frame_sound s.f s.pages) 0 s.frames k frame₀ (omega arith) (and_right ((in_range s.v s.f && shaped s) && pages) frames e));
    }

pub formed : (s : Pages) → Sound s → well_formed s ≡ true
unfolding well_formed
formed s h =
    rw (
      lt-ltb 0 s.v h.v_least,
      le-leb s.v 256 h.v_most,
      lt-ltb 0 s.f h.f_least,
      le-leb s.f 128 h.f_most,
      h.long_pages,
      h.long_frames,
      each_all (page_sound s.v s.f) 0 s.pages page₀ (λ i k. rw zero-add (h.page i (omega (arith, h.long_pages)))),
      each_all (frame_sound s.f s.pages) 0 s.frames frame₀ (λ i k. rw zero-add (h.frame i (omega (arith, h.long_frames)))),
    )

-- No page of a blank layer maps anything.
none_mapped : (k n : ℕ) → mappings k (replicate n page₀) ≡ 0
unfolding mappings
none_mapped k zero = refl
none_mapped k (suc n) = rw zero-add (none_mapped k n)

pub blank_sound : (v f : ℕ) → in_range v f ≡ true → Sound (blank v f)
unfolding page_sound frame_sound
blank_sound v f e =
    let a = and_left (ltb 0 v && leb v 256) (ltb 0 f && leb f 128) e in
    let b = and_right (ltb 0 v && leb v 256) (ltb 0 f && leb f 128) e in
    record {
      v_least = ltb-true 0 v (and_left (ltb 0 v) (leb v 256) a);
      v_most = leb-true v 256 (and_right (ltb 0 v) (leb v 256) a);
      f_least = ltb-true 0 f (and_left (ltb 0 f) (leb f 128) b);
      f_most = leb-true f 128 (and_right (ltb 0 f) (leb f 128) b);
      long_pages = refl;
      long_frames = refl;
      page = λ p h. rw (get_or-replicate 256 p page₀ page₀ h) (pick_twice (ltb p v) true);
      frame = λ k h. rw (get_or-replicate 128 k frame₀ frame₀ h, none_mapped k 256) (pick_twice (ltb k f) true);
    }

-- One entry of a list changed: what holds of the new entry and held of the others holds of all.
all_set :
    {A : Type 0} (Q : ℕ → A → Type 0) (l : List A) (i j : ℕ) (x d : A) → i < length l → Q i x → ((j ≡ i → ⊥) → Q j (get_or l j d))
    → Q j (get_or (set l i x) j d)
all_set Q l i j x d h here others = go (eqb j i) refl
  where
    go : (b : Bool) → eqb j i ≡ b → Q j (get_or (set l i x) j d)
    go true e = rw (eqb-true j i e, get_or-set_same l i x d h) here
    go false e = rw (get_or-set_other l i j x d (eqb-false j i e)) (others (eqb-false j i e))

unset : (s : Pages) → set s.pages 0 (page_entry (page_at s 0)) ≡ s.pages
unfolding page_at
unset s = set-get_or s.pages 0 page₀

unchanged : (s : Pages) → with_page s 0 (page_at s 0) ≡ s
unfolding with_page
unchanged s = ap (with_pages s) (unset s)

module _ (s : Pages) (h : Sound s) where
  -- How often a frame below F is mapped.
  pub mapped_once : (k : ℕ) → k < s.f → mappings k s.pages ≡ pick (is_shown (frame_at s k)) 1 0
  unfolding frame_sound frame_at
  mapped_once k b =
      eqb-true _ _ (sym (pick_yes (ltb k s.f) _ _ (lt-ltb k s.f b)) ∙ h.frame k (omega (arith, h.f_most)))

  pub maps_low : (p : ℕ) → p < s.v → maps_below s.f (page_at s p) ≡ true
  unfolding page_sound page_at
  maps_low p b = sym (pick_yes (ltb p s.v) _ _ (lt-ltb p s.v b)) ∙ h.page p (omega (arith, h.v_most))

  -- A page shows another frame, or none, and the frames' states follow the new counts: still well formed.
  pub changed :
      (p k : ℕ) (state : PageState) (fs : FrameState) → p < s.v → k < s.f → maps_below s.f state ≡ true
      → mappings k (set s.pages p (page_entry state)) ≡ pick (is_shown fs) 1 0
      → ((j : ℕ) → (j ≡ k → ⊥) → mappings j (set s.pages p (page_entry state)) ≡ mappings j s.pages)
      → Sound (with_frame (with_page s p state) k fs)
  unfolding with_frame with_page page_sound frame_sound
  changed p k state fs bp bk low count others =
      record {
        v_least = h.v_least;
        v_most = h.v_most;
        f_least = h.f_least;
        f_most = h.f_most;
        long_pages = length-set s.pages p (page_entry state) ∙ h.long_pages;
        long_frames = length-set s.frames k (frame_entry fs) ∙ h.long_frames;
        page = λ q b.
            all_set (λ i e. page_sound s.v s.f i e ≡ true) s.pages p q (page_entry state) page₀ (omega (arith, h.long_pages, h.v_most))
            (pick_yes (ltb p s.v) _ _ (lt-ltb p s.v bp) ∙ low) (λ n. h.page q b);
        frame = λ j b.
            all_set (λ i e. frame_sound s.f (set s.pages p (page_entry state)) i e ≡ true) s.frames k j (frame_entry fs) frame₀
            (omega (arith, h.long_frames, h.f_most)) (pick_yes (ltb k s.f) _ _ (lt-ltb k s.f bk) ∙ eq-eqb _ _ count)
            (λ n. rw (others j n) (h.frame j b));
      }

  -- A frame's state changes and no page does.
  pub frame_changed : (k : ℕ) (fs : FrameState) → k < s.f → is_shown fs ≡ is_shown (frame_at s k) → Sound (with_frame s k fs)
  frame_changed k fs b same =
      subst (λ t. Sound (with_frame t k fs)) kept
      (changed 0 k (page_at s 0) fs h.v_least b (maps_low 0 h.v_least) (count k ∙ mapped_once k b ∙ ap (λ x. pick x 1 0) (sym same)) (λ j n. count j))
    where
      old : set s.pages 0 (page_entry (page_at s 0)) ≡ s.pages
      old = unset s

      kept : with_page s 0 (page_at s 0) ≡ s
      kept = unchanged s

      count : (j : ℕ) → mappings j (set s.pages 0 (page_entry (page_at s 0))) ≡ mappings j s.pages
      count j = ap (mappings j) old

  -- All pages' entries change, each to one that is sound and maps what it mapped.
  pub pages_changed :
      (l : List PageEntry) → length l ≡ 256 → ((p : ℕ) → p < 256 → page_sound s.v s.f p (get_or l p page₀) ≡ true)
      → ((k : ℕ) → mappings k l ≡ mappings k s.pages) → Sound (with_pages s l)
  unfolding frame_sound
  pages_changed l long each-sound count =
      record {
        v_least = h.v_least;
        v_most = h.v_most;
        f_least = h.f_least;
        f_most = h.f_most;
        long_pages = long;
        long_frames = h.long_frames;
        page = each-sound;
        frame = λ k b. rw (count k) (h.frame k b);
      }
