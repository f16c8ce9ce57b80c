-- What a page shows: after map what its frame held, and after zero nothing but 0. Assumes nothing.
use Rattle.std.specs.Prelude.{Some, None}
use Prim.Native.Nat.{ℕ, ◌+◌, ◌-◌, ◌*◌, ◌/◌, ◌%◌, ◌<◌, ◌≤◌}
use native.Mathlib.Omega.{arith}
use mathlib.Core.Bool.{true}
use mathlib.Core.List.{List, ◌++◌}
use mathlib.Core.Path.{◌≡◌, sym, ap, ◌∙◌}
use lib.ListN.{length, get_or, take, drop, replicate, length-append, get_or-replicate, length-drop, get_or-append}
use lib.Seq.{get_or-take, get_or-drop, get_or-append-add, length-take-le}
use lib.Dec.{ltb}
use borrow.Author.Tests.{lt-ltb}
use Rattle.capabilities.proofs.Choice.{pick_yes}
use Rattle.pages.specs.Pages.{Pages}
use Rattle.pages.specs.declared.Frame.{Frame}
use Rattle.pages.specs.declared.VirtualPage.{VirtualPage}
use Rattle.pages.specs.declared.PageState.TheVariants.{Mapped}
use Rattle.pages.specs.declared.FrameState.TheVariants.{Mapped as Shown}
use Rattle.pages.specs.Layer.{page_at, with_page, with_frame}
use Rattle.pages.specs.Mapping.{mapped, cleared, lookup_of, place_in}
use Rattle.pages.proofs.Formed.{Sound}
use Rattle.pages.proofs.Kept.{Mappable}
use Rattle.pages.proofs.View.{page_put, page_of_frame}

-- The page layer's three facts about a frame of memory: cleared cells are 0, the others are as they were, and none is gained or lost.
module _ (frame : Frame) (l : List ℕ) (h : 16 * frame.0 + 16 ≤ length l) where
  front : length (take (16 * frame.0) l) ≡ 16 * frame.0
  front = length-take-le (16 * frame.0) l (omega arith)

  pub cleared_here : (i : ℕ) → i < 16 → get_or (cleared frame l) (16 * frame.0 + i) 0 ≡ 0
  unfolding cleared
  cleared_here i b =
      ap (λ n. get_or (take (16 * frame.0) l ++ (replicate 16 0 ++ drop (16 * frame.0 + 16) l)) (n + i) 0) (sym front)
      ∙ get_or-append-add (take (16 * frame.0) l) (replicate 16 0 ++ drop (16 * frame.0 + 16) l) i 0
      ∙ get_or-append (replicate 16 0) (drop (16 * frame.0 + 16) l) 0 i b
      ∙ get_or-replicate 16 i 0 0 b

  pub cleared_below : (i : ℕ) → i < 16 * frame.0 → get_or (cleared frame l) i 0 ≡ get_or l i 0
  unfolding cleared
  cleared_below i b =
      get_or-append (take (16 * frame.0) l) (replicate 16 0 ++ drop (16 * frame.0 + 16) l) 0 i (rw front b) ∙ get_or-take (16 * frame.0) l i 0 b

  pub cleared_above : (i : ℕ) → 16 * frame.0 + 16 ≤ i → get_or (cleared frame l) i 0 ≡ get_or l i 0
  unfolding cleared
  cleared_above i b =
      let m : ℕ = i - (16 * frame.0 + 16) in
      let e : i ≡ 16 * frame.0 + (16 + m) = omega arith in
      let e' : i ≡ 16 * frame.0 + 16 + m = omega arith in
      ap (λ n. get_or (take (16 * frame.0) l ++ (replicate 16 0 ++ drop (16 * frame.0 + 16) l)) n 0) (e ∙ ap (λ n. n + (16 + m)) (sym front))
      ∙ get_or-append-add (take (16 * frame.0) l) (replicate 16 0 ++ drop (16 * frame.0 + 16) l) (16 + m) 0
      ∙ get_or-append-add (replicate 16 0) (drop (16 * frame.0 + 16) l) m 0
      ∙ get_or-drop (16 * frame.0 + 16) l m 0
      ∙ ap (λ n. get_or l n 0) (sym e')

  pub length_cleared : length (cleared frame l) ≡ length l
  unfolding cleared
  length_cleared =
      length-append (take (16 * frame.0) l) (replicate 16 0 ++ drop (16 * frame.0 + 16) l)
      ∙ rw (front, length-drop (16 * frame.0 + 16) l) (omega arith)

low : (s : Pages) (page : VirtualPage) (frame : Frame) → Mappable s page frame → ltb page.0 (mapped s page frame).v ≡ true
unfolding mapped with_frame with_page
low s page frame m = lt-ltb _ _ m.low_page

shows : (s : Pages) (page : VirtualPage) (frame : Frame) → Sound s → Mappable s page frame → page_at (mapped s page frame) page.0 ≡ Mapped frame
unfolding mapped
shows s page frame h m =
    page_of_frame (with_page s page.0 (Mapped frame)) frame.0 page.0 Shown
    ∙ page_put s page.0 (Mapped frame) (omega (arith, h.long_pages, h.v_most, m.low_page))

-- A page that was just mapped shows its frame, cell by cell, whatever the frame holds.
pub map_shows :
    (s : Pages) (page : VirtualPage) (frame : Frame) (i : ℕ) → Sound s → Mappable s page frame → i < 16
    → lookup_of (mapped s page frame) (16 * page.0 + i) ≡ Some (16 * frame.0 + i)
unfolding lookup_of
map_shows s page frame i h m b =
    let p : (16 * page.0 + i) / 16 ≡ page.0 = omega arith in
    let o : (16 * page.0 + i) % 16 ≡ i = omega arith in
    rw (p, o, pick_yes (ltb page.0 (mapped s page frame).v) (place_in (page_at (mapped s page frame) page.0) i) None (low s page frame m), shows s page frame h m)
