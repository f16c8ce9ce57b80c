-- The sweep's loop: its next cell is still as it was, and one cell more is passed in a turn. Assumes nothing.
use Prim.Native.Nat.{ℕ, ◌+◌, ◌/◌, ◌<◌, ◌≤◌}
use native.Mathlib.Nat.{zero-add}
use native.Mathlib.Omega.{arith}
use mathlib.Core.Bool.{Bool, true, false, ◌&&◌, and-false}
use mathlib.Core.List.{List}
use mathlib.Core.Path.{◌≡◌, refl, sym, ◌∙◌}
use lib.ListN.{length, get_or, set, length-set}
use lib.Seq.{ext_get_or, get_or-set_same, get_or-set_other}
use lib.Dec.{leb, ltb, eqb}
use borrow.Author.Tests.{ltb-true, ltb-false, lt-ltb, le-ltb, le-leb, lt-leb, eqb-true, eqb-false}
use Rattle.capabilities.specs.declared.Range.{Range}
use Rattle.capabilities.specs.Death.{dies}
use Rattle.capabilities.specs.Lists.{pick}
use Rattle.capabilities.proofs.Lists.{length_map_each, get_d_map_each, map_each_same}
use Rattle.pages.specs.Pages.{FrameEntry}
use Rattle.sweep.specs.Sweep.{shown_at, swept_tag, swept_tags}

pub ltb_next : (j i : ℕ) → (j ≡ i → ⊥) → ltb j (i + 1) ≡ ltb j i
ltb_next j i h = go (ltb j i) refl
  where
    go : (b : Bool) → ltb j i ≡ b → ltb j (i + 1) ≡ b
    go true e = let k : j < i = ltb-true j i e in lt-ltb j (i + 1) (omega arith)
    go false e = let k : i ≤ j = ltb-false j i e in le-ltb j (i + 1) (omega (arith, h))

nothing_between : (n i : ℕ) → (leb n i && ltb i n) ≡ false
nothing_between n i = go (ltb i n) refl
  where
    go : (b : Bool) → ltb i n ≡ b → (leb n i && ltb i n) ≡ false
    go true e = let k : i < n = ltb-true i n e in rw (lt-leb n i k)
    go false e = rw e (and-false (leb n i))

-- The capability in cell i is one that a sweep clears.
abbrev pub doomed : List FrameEntry → Range → List ℕ → ℕ → Bool
doomed frames r cells i = shown_at frames (i / 16) && dies r (get_or cells i 0)

module _ (frames : List FrameEntry) (r : Range) (from : ℕ) (cells tags : List ℕ) where
  pub length_swept : (upto : ℕ) → length (swept_tags frames r from upto cells tags) ≡ length tags
  unfolding swept_tags
  length_swept upto = length_map_each (swept_tag frames r from upto cells) 0 tags

  pub get_d_swept : (upto i : ℕ) → i < length tags
      → get_or (swept_tags frames r from upto cells tags) i 0 ≡ pick ((leb from i && ltb i upto) && doomed frames r cells i) 0 (get_or tags i 0)
  unfolding swept_tags swept_tag
  get_d_swept upto i h = get_d_map_each (swept_tag frames r from upto cells) 0 tags i 0 0 h ∙ rw zero-add

  pub swept_none : tags ≡ swept_tags frames r from from cells tags
  unfolding swept_tags swept_tag
  swept_none = sym (map_each_same (swept_tag frames r from from cells) 0 tags (λ i x h. rw (nothing_between from (0 + i))))

  -- The cell at the sweep's place has kept its tag.
  pub swept_next : (i : ℕ) → i < length tags → get_or (swept_tags frames r from i cells tags) i 0 ≡ get_or tags i 0
  swept_next i h = get_d_swept i i h ∙ rw (le-ltb i i (omega arith), and-false (leb from i))

  pub swept_hit : (i : ℕ) → i < length tags → from ≤ i
      → set (swept_tags frames r from i cells tags) i (pick (doomed frames r cells i) 0 (get_or tags i 0)) ≡ swept_tags frames r from (i + 1) cells tags
  swept_hit i h k =
      ext_get_or 0 (set (swept_tags frames r from i cells tags) i (pick (doomed frames r cells i) 0 (get_or tags i 0))) (swept_tags frames r from (i + 1) cells tags)
      (length-set (swept_tags frames r from i cells tags) i _ ∙ length_swept i ∙ sym (length_swept (i + 1)))
      (λ j m. at j (rw (length-set (swept_tags frames r from i cells tags) i (pick (doomed frames r cells i) 0 (get_or tags i 0)), length_swept i) at m))
    where
      at : (j : ℕ) → j < length tags
          → get_or (set (swept_tags frames r from i cells tags) i (pick (doomed frames r cells i) 0 (get_or tags i 0))) j 0
          ≡ get_or (swept_tags frames r from (i + 1) cells tags) j 0
      at j m = go (eqb j i) refl
        where
          go : (b : Bool) → eqb j i ≡ b
              → get_or (set (swept_tags frames r from i cells tags) i (pick (doomed frames r cells i) 0 (get_or tags i 0))) j 0
              ≡ get_or (swept_tags frames r from (i + 1) cells tags) j 0
          go true e =
              rw (eqb-true j i e, get_d_swept (i + 1) i h, le-leb from i k, lt-ltb i (i + 1) (omega arith))
              (get_or-set_same (swept_tags frames r from i cells tags) i (pick (doomed frames r cells i) 0 (get_or tags i 0)) 0 (rw (length_swept i) h))
          go false e =
              get_or-set_other (swept_tags frames r from i cells tags) i j (pick (doomed frames r cells i) 0 (get_or tags i 0)) 0 (eqb-false j i e)
              ∙ get_d_swept i j m ∙ rw (← (ltb_next j i (eqb-false j i e))) (sym (get_d_swept (i + 1) j m))
