-- Pages and frames in numbers: what a number reads as, and that what is written reads back. Assumes nothing.
use Prim.Native.Nat.{ℕ, zero, suc, ◌+◌, ◌-◌, ◌%◌, ◌<◌, ◌≤◌}
use native.Mathlib.Omega.{arith}
use mathlib.Core.Bool.{Bool, true, false, not, false≢true}
use mathlib.Core.List.{List, map}
use mathlib.Core.Path.{◌≡◌, refl, sym, ap, ◌∙◌}
use lib.ListN.{get_or, get_or-map}
use lib.Dec.{eqb, leb, ltb}
use borrow.Author.Tests.{ne_eqb, ltb-true, lt-ltb, lt-leb}
use Rattle.capabilities.specs.Lists.{pick}
use Rattle.capabilities.proofs.Codes.{other_code}
use Rattle.capabilities.proofs.Lists.{back}
use Rattle.pages.specs.Pages.{Pages}
use Rattle.pages.specs.Pages.{PageEntry}
use Rattle.pages.specs.Pages.{FrameEntry}
use Rattle.pages.specs.declared.PageState.{PageState}
use Rattle.pages.specs.declared.PageState.TheVariants.{Unmapped, Freed, Mapped}
use Rattle.pages.specs.declared.FrameState.{FrameState}
use Rattle.pages.specs.declared.FrameState.TheVariants.{Dirty, Free, Mapped as Shown}
use Rattle.pages.specs.Entries.{is_unmapped, is_mapped, maps_below, page_entry, frame_entry}
use Rattle.pages.specs.Layer.{page_at, frame_at, page_sound, well_formed}
use Rattle.pages.specs.Freed.{is_freed}
use Rattle.pages.specs.Numbers.{page_from, page_code, frame_from, frame_code, page_in, frame_in, layer_of}
use Rattle.pages.proofs.Formed.{sound}

-- What stands in an entry of the layer read.
module _ (v f : ℕ) (pages frames : List ℕ) where
  pub page_read : (p : ℕ) → page_at (layer_of v f pages frames) p ≡ page_from (get_or pages p 0)
  unfolding page_at page_from
  page_read p = ap (λ (e : PageEntry). e.state) (get_or-map page_in pages p 0)

  pub frame_read : (k : ℕ) → frame_at (layer_of v f pages frames) k ≡ frame_from (get_or frames k 0)
  unfolding frame_at frame_from
  frame_read k = ap (λ (e : FrameEntry). e.state) (get_or-map frame_in frames k 0)

-- From 2 on a number is a page that shows a frame.
pub page_shown : (n : ℕ) → 1 < n → page_from n ≡ Mapped (record { 0 = (n - 2) % 256 })
unfolding page_from
page_shown n h = sym (other_code n Unmapped Freed _ (λ z. omega arith) (λ z. omega arith))

pub frame_shown : (n : ℕ) → 1 < n → frame_from n ≡ Shown
unfolding frame_from
frame_shown n h = sym (other_code n Dirty Free Shown (λ z. omega arith) (λ z. omega arith))

pub mapped_code : (n : ℕ) → leb n 1 ≡ not (is_mapped (page_from n))
unfolding page_from
mapped_code zero = refl
mapped_code (suc zero) = refl
mapped_code (suc (suc n)) = lt-leb (suc (suc n)) 1 (omega arith) ∙ sym (ap (λ (x : PageState). not (is_mapped x)) (page_shown (suc (suc n)) (omega arith)))

pub unmapped_code : (n : ℕ) → eqb n 0 ≡ is_unmapped (page_from n)
unfolding page_from
unmapped_code zero = refl
unmapped_code (suc zero) = refl
unmapped_code (suc (suc n)) = ne_eqb (suc (suc n)) 0 (λ z. omega arith) ∙ sym (ap is_unmapped (page_shown (suc (suc n)) (omega arith)))

pub freed_code_lem : (n : ℕ) → eqb n 1 ≡ is_freed (page_from n)
unfolding page_from
freed_code_lem zero = refl
freed_code_lem (suc zero) = refl
freed_code_lem (suc (suc n)) = ne_eqb (suc (suc n)) 1 (λ z. omega arith) ∙ sym (ap is_freed (page_shown (suc (suc n)) (omega arith)))

-- Written and read again: the same.
pub page_back : (s : PageState) → maps_below 256 s ≡ true → page_from (page_code s) ≡ s
unfolding page_from page_code
page_back Unmapped e = refl
page_back Freed e = refl
page_back (Mapped g) e =
    let z : g.0 < 256 = ltb-true g.0 256 e in
    let n : (2 + g.0 - 2) % 256 ≡ g.0 = omega arith in
    page_shown (2 + g.0) (omega arith) ∙ ap (λ m. Mapped (record { 0 = m })) n

pub frame_back : (s : FrameState) → frame_from (frame_code s) ≡ s
unfolding frame_from frame_code
frame_back Dirty = refl
frame_back Free = refl
frame_back Shown = refl

-- A sound page maps no frame of 256 or more.
sound_low : (s : PageState) (p v f : ℕ) → f ≤ 128 → page_sound v f p (page_entry s) ≡ true → maps_below 256 s ≡ true
unfolding page_sound
sound_low Unmapped p v f h e = refl
sound_low Freed p v f h e = refl
sound_low (Mapped g) p v f h e = go (ltb p v) e
  where
    go : (b : Bool) → pick b (ltb g.0 f) false ≡ true → ltb g.0 256 ≡ true
    go true q = let z : g.0 < f = ltb-true g.0 f q in lt-ltb g.0 256 (omega arith)
    go false q = absurd (false≢true q)

pub pages_back : (s : Pages) → well_formed s ≡ true → map page_in (map (λ e. page_code e.state) s.pages) ≡ s.pages
pages_back s w =
    let k = sound s w in
    back (λ (e : PageEntry). page_code e.state) page_in (page_entry Unmapped) s.pages
    (λ i h.
    let q : i < 256 = omega (arith, h, k.long_pages) in
    let x : PageState = (get_or s.pages i (page_entry Unmapped)).state in
    ap page_entry (page_back x (sound_low x i s.v s.f k.f_most (k.page i q))))

pub frames_back : (l : List FrameEntry) → map frame_in (map (λ e. frame_code e.state) l) ≡ l
frames_back l = back (λ (e : FrameEntry). frame_code e.state) frame_in (frame_entry Dirty) l (λ i h. ap frame_entry (frame_back (get_or l i (frame_entry Dirty)).state))
