-- What a sweep does to memory, whatever it holds: a sweep of n and then of m is one of n + m; no tag is set; and among
-- the cells passed in Mapped frames no tagged one has its base in the range. Assumes nothing.
use Prim.Native.Nat.{ℕ, ◌+◌, ◌-◌, ◌*◌, ◌<◌, ◌≤◌}
use native.Mathlib.Omega.{arith}
use mathlib.Core.Bool.{Bool, true, false, ◌&&◌, ◌||◌, and-false}
use mathlib.Core.List.{List}
use mathlib.Core.Logic.{◌⊎◌, inl, inr}
use mathlib.Core.Path.{◌≡◌, refl, sym, ap, ◌∙◌}
use lib.ListN.{length, get_or}
use lib.Seq.{ext_get_or}
use lib.Dec.{leb, ltb}
use borrow.Author.Tests.{ltb-true, ltb-false, lt-ltb, le-leb, lt-leb, leb-false}
use Rattle.capabilities.specs.declared.Range.{Range}
use Rattle.capabilities.specs.Lists.{pick}
use Rattle.pages.specs.Pages.{FrameEntry}
use Rattle.pages.specs.Pages.{Pages}
use Rattle.pages.specs.Layer.{serves}
use Rattle.sweep.specs.Sweep.{passed, swept_tags, swept, passing, sweep_of}
use Rattle.sweep.proofs.Sweeping.{doomed, length_swept, get_d_swept}

-- Passing n cells and then m passes n + m.
pub passed_sum : (s : Pages) (place n m : ℕ) → place + passed s place (n + m) ≡ place + passed s place n + passed s (place + passed s place n) m
unfolding passed
passed_sum s place n m = omega arith

pick_again : (a b d : Bool) (t : ℕ) → pick (b && d) 0 (pick (a && d) 0 t) ≡ pick ((a || b) && d) 0 t
pick_again true true d t = go d
  where
    go : (d : Bool) → pick d 0 (pick d 0 t) ≡ pick d 0 t
    go true = refl
    go false = refl
pick_again true false d t = refl
pick_again false true d t = refl
pick_again false false d t = refl

-- From one place to a second and on to a third.
between : (from mid upto i : ℕ) → from ≤ mid → mid ≤ upto → ((leb from i && ltb i mid) || (leb mid i && ltb i upto)) ≡ (leb from i && ltb i upto)
between from mid upto i h k = go (leb from i) (ltb i mid) refl refl
  where
    go : (a b : Bool) → leb from i ≡ a → ltb i mid ≡ b → ((a && b) || (leb mid i && ltb i upto)) ≡ (a && ltb i upto)
    go true true p q = let j : i < mid = ltb-true i mid q in sym (lt-ltb i upto (omega arith))
    go true false p q = let j : mid ≤ i = ltb-false i mid q in rw (le-leb mid i j)
    go false true p q = let j : i < from = leb-false from i p in rw (lt-leb mid i (omega arith))
    go false false p q = let j : i < from = leb-false from i p in rw (lt-leb mid i (omega arith))

module _ (frames : List FrameEntry) (r : Range) (cells tags : List ℕ) where
  pub swept_twice : (from mid upto : ℕ) → from ≤ mid → mid ≤ upto
      → swept_tags frames r mid upto cells (swept_tags frames r from mid cells tags) ≡ swept_tags frames r from upto cells tags
  swept_twice from mid upto h k =
      ext_get_or 0 _ _ (length_swept frames r mid cells first upto ∙ length_swept frames r from cells tags mid ∙ sym (length_swept frames r from cells tags upto))
      (λ i b. at i (rw (length_swept frames r mid cells first upto, length_swept frames r from cells tags mid) at b))
    where
      first : List ℕ
      first = swept_tags frames r from mid cells tags

      at : (i : ℕ) → i < length tags → get_or (swept_tags frames r mid upto cells first) i 0 ≡ get_or (swept_tags frames r from upto cells tags) i 0
      at i b =
          get_d_swept frames r mid cells first upto i (rw (length_swept frames r from cells tags mid) b)
          ∙ rw (get_d_swept frames r from cells tags mid i b, get_d_swept frames r from cells tags upto i b)
          (pick_again (leb from i && ltb i mid) (leb mid i && ltb i upto) (doomed frames r cells i) (get_or tags i 0)
          ∙ rw (between from mid upto i h k))

  -- No tag is set: each is as it was, or 0.
  pub swept_less : (from upto i : ℕ) → i < length tags
      → (get_or (swept_tags frames r from upto cells tags) i 0 ≡ get_or tags i 0) ⊎ (get_or (swept_tags frames r from upto cells tags) i 0 ≡ 0)
  swept_less from upto i b = rw (get_d_swept frames r from cells tags upto i b) (go ((leb from i && ltb i upto) && doomed frames r cells i))
    where
      go : (d : Bool) → (pick d 0 (get_or tags i 0) ≡ get_or tags i 0) ⊎ (pick d 0 (get_or tags i 0) ≡ 0)
      go true = inr refl
      go false = inl refl

  -- A cell passed in a Mapped frame whose base lies in the range is untagged.
  pub swept_clean : (from upto i : ℕ) → i < length tags → from ≤ i → i < upto → doomed frames r cells i ≡ true
      → get_or (swept_tags frames r from upto cells tags) i 0 ≡ 0
  swept_clean from upto i b h k d = get_d_swept frames r from cells tags upto i b ∙ rw (le-leb from i h, lt-ltb i upto k, d)

  -- Every other cell keeps its tag byte to the bit.
  pub swept_other : (from upto i : ℕ) → i < length tags → doomed frames r cells i ≡ false
      → get_or (swept_tags frames r from upto cells tags) i 0 ≡ get_or tags i 0
  swept_other from upto i b d = get_d_swept frames r from cells tags upto i b ∙ rw (d, and-false (leb from i && ltb i upto))

-- A sweep of n cells and then one of m is a sweep of n + m: the same answer, place and tags.
pub sweep_sum :
    (s : Pages) (r : Range) (place n m : ℕ) (cells tags : List ℕ) → serves s (length cells) (length tags) ≡ true
    → sweep_of s r (place + passed s place n) m cells (sweep_of s r place n cells tags).tags ≡ sweep_of s r place (n + m) cells tags
unfolding sweep_of
sweep_sum s r place n m cells tags h =
    rw (h, length_swept s.frames r place cells tags (place + passed s place n), h, passed_sum s place n m)
    (ap (λ t. passing (swept 0 (16 * s.f - (place + passed s place n + passed s (place + passed s place n) m)) (place + passed s place n + passed s (place + passed s place n) m)) t)
    (swept_twice s.frames r cells tags place (place + passed s place n) (place + passed s place n + passed s (place + passed s place n) m) (omega arith) (omega arith)))
