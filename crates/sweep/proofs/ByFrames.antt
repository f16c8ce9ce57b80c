-- A sweep by whole frames is the sweep cell by cell. Assumes nothing.
use Prim.Native.Nat.{ℕ, ◌+◌, ◌-◌, ◌*◌, ◌/◌, ◌<◌, ◌≤◌, min}
use native.Mathlib.Omega.{arith}
use native.Mathlib.Nat.{zero-add}
use mathlib.Core.Bool.{Bool, true, false, not, ◌&&◌, and-false}
use mathlib.Core.List.{List}
use mathlib.Core.Path.{◌≡◌, refl, sym, ap, ◌∙◌}
use lib.ListN.{length, get_or, set, length-set}
use lib.Seq.{get_or-set_same, get_or-set_other}
use lib.Dec.{leb, ltb, eqb}
use mir.Val.{bool_byte, Fits}
use mir.Syntax.{w8}
use borrow.Author.Tests.{eqb-true, eqb-false, leb-true, leb-false, ltb-true}
use Rattle.capabilities.proofs.Choice.{times}
use Rattle.capabilities.specs.declared.Range.{Range}
use Rattle.capabilities.specs.Capability.{base_of}
use Rattle.capabilities.specs.Death.{dies}
use Rattle.capabilities.specs.Lists.{pick}
use Rattle.capabilities.proofs.Deaths.{none_dies}
use Rattle.capabilities.proofs.Lists.{map_each_same}
use Rattle.pages.specs.Pages.{FrameEntry}
use Rattle.sweep.specs.Sweep.{shown_at, swept_tag, swept_tags}
use Rattle.sweep.specs.Frames.{Bases, AllShown}
use Rattle.sweep.proofs.Sweeping.{doomed, swept_next, swept_hit}

-- A tag times 0 or 1 fits in its byte.
pub times_fits : (d : Bool) (t : ℕ) → Fits w8 t → Fits w8 (t * bool_byte d)
times_fits true t h = omega arith
times_fits false t h = omega arith

module _ (frames : List FrameEntry) (r : Range) (from upto : ℕ) (cells tags : List ℕ) (shown : AllShown frames from upto) where
  -- One turn of the loop without a branch.
  pub shown_turn : (i : ℕ) (lives : Bool) (t : List ℕ) → from ≤ i → i < upto → i < length tags → t ≡ swept_tags frames r from i cells tags → lives ≡ not (dies r (get_or cells i 0))
      → set t i (get_or t i 0 * bool_byte lives) ≡ swept_tags frames r from (i + 1) cells tags
  shown_turn i lives t h k b e el =
      let same : dies r (get_or cells i 0) ≡ doomed frames r cells i = rw (shown i h k) in
      let z : get_or t i 0 * bool_byte lives ≡ pick (doomed frames r cells i) 0 (get_or tags i 0) =
      ap (λ d. get_or t i 0 * bool_byte d) el ∙ times (dies r (get_or cells i 0)) (get_or t i 0)
      ∙ ap (λ c. pick c 0 (get_or t i 0)) same ∙ ap (λ v. pick (doomed frames r cells i) 0 v) (ap (λ l. get_or l i 0) e ∙ swept_next frames r from cells tags i b) in
      ap (λ v. set t i v) z ∙ ap (λ l. set l i (pick (doomed frames r cells i) 0 (get_or tags i 0))) e ∙ swept_hit frames r from cells tags i b h

-- Cells of frames that are not Mapped are passed untouched, and so are all if the range is empty.
module _ (frames : List FrameEntry) (r : Range) (from upto : ℕ) (cells tags : List ℕ) where
  pub swept_untouched : ((i : ℕ) → from ≤ i → i < upto → doomed frames r cells i ≡ false) → swept_tags frames r from upto cells tags ≡ tags
  unfolding swept_tags swept_tag
  swept_untouched h = map_each_same (swept_tag frames r from upto cells) 0 tags (λ i x k. rw zero-add (go i x (leb from i) refl (ltb i upto) refl))
    where
      go : (i x : ℕ) (a : Bool) → leb from i ≡ a → (b : Bool) → ltb i upto ≡ b → pick ((a && b) && doomed frames r cells i) 0 x ≡ x
      go i x true p true q = let u = leb-true from i p in let v = ltb-true i upto q in rw (h i u v)
      go i x true p false q = refl
      go i x false p b q = refl

  pub swept_nothing : r.length ≡ 0 → swept_tags frames r from upto cells tags ≡ tags
  swept_nothing z = swept_untouched (λ i h k. rw (none_dies r (get_or cells i 0) z) (and-false (shown_at frames (i / 16))))

-- One base more is read.
pub bases_turn : (from : ℕ) (cells bases : List ℕ) (j x : ℕ) → j < 16 → Bases from j cells bases → x ≡ base_of (get_or cells (from + j) 0) → Bases from (j + 1) cells (set bases j x)
bases_turn from cells bases j x h b e = (length-set bases j x ∙ b.0, λ k l. go k l (eqb k j) refl)
  where
    go : (k : ℕ) → k < j + 1 → (y : Bool) → eqb k j ≡ y → get_or (set bases j x) k 0 ≡ base_of (get_or cells (from + k) 0)
    go k l true q = rw (eqb-true k j q) (get_or-set_same bases j x 0 (omega (arith, b.0)) ∙ e)
    go k l false q = let n = eqb-false k j q in get_or-set_other bases j k x 0 n ∙ b.1 k (omega (arith, n))

-- A sweep that has passed all its cells, of which there may be none.
module _ (frames : List FrameEntry) (r : Range) (from upto : ℕ) (cells tags : List ℕ) where
  pub swept_end : (i : ℕ) → from ≤ i → upto ≤ i → i ≤ from + (upto - from) → swept_tags frames r from i cells tags ≡ swept_tags frames r from upto cells tags
  swept_end i h k l = go (leb from upto) refl
    where
      go : (b : Bool) → leb from upto ≡ b → swept_tags frames r from i cells tags ≡ swept_tags frames r from upto cells tags
      go true e = let u = leb-true from upto e in ap (λ n. swept_tags frames r from n cells tags) (omega arith)
      go false e =
          let u = leb-false from upto e in
          swept_untouched frames r from i cells tags (λ j p q. let z : ⊥ = omega arith in absurd z)
          ∙ sym (swept_untouched frames r from upto cells tags (λ j p q. let z : ⊥ = omega arith in absurd z))

-- From a cell to the end of its frame, or of the sweep if that comes first.
module _ (frames : List FrameEntry) (r : Range) (i upto stop : ℕ) (e : stop ≡ min (16 * (i / 16) + 16) upto) where
  same_frame : (k : ℕ) → i ≤ k → k < stop → k / 16 ≡ i / 16
  same_frame k h l = omega (arith, e)

  pub frame_shown : shown_at frames (i / 16) ≡ true → AllShown frames i stop
  frame_shown s k h l = ap (shown_at frames) (same_frame k h l) ∙ s

  pub frame_hidden : (cells tags : List ℕ) → shown_at frames (i / 16) ≡ false → tags ≡ swept_tags frames r i stop cells tags
  frame_hidden cells tags s =
      sym (swept_untouched frames r i stop cells tags (λ k h l. ap (λ b. b && dies r (get_or cells k 0)) (ap (shown_at frames) (same_frame k h l) ∙ s)))
