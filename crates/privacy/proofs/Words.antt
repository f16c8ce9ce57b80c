-- Registers and lent words after a change, one by one. Assumes nothing.
use Prim.Native.Nat.{ℕ, ◌+◌, ◌*◌, ◌/◌, ◌%◌, ◌<◌, ◌≤◌}
use native.Mathlib.Omega.{arith}
use mathlib.Core.Bool.{Bool, true, false, ◌&&◌}
use mathlib.Core.List.{List, [], ◌∷◌, map}
use mathlib.Core.Path.{◌≡◌, refl, sym, ap, subst, ◌∙◌}
use borrow.Author.Tests.{eqb-true, eqb-false, ltb-true, ltb-false}
use lib.Dec.{eqb, ltb, leb}
use lib.ListN.{length, get_or, set, get_or-map, length-set}
use lib.Seq.{get_or-set_same, get_or-set_other, set_out}
use Rattle.capabilities.specs.declared.Range.{Range}
use Rattle.capabilities.specs.Death.{dies}
use Rattle.capabilities.specs.Lists.{pick}
use Rattle.capabilities.proofs.Choice.{pick_yes, pick_no, and_right}
use Rattle.pages.specs.Pages.{FrameEntry}
use Rattle.pages.specs.Mapping.{cleared}
use Rattle.pages.proofs.Shows.{length_cleared}
use Rattle.sweep.specs.Sweep.{shown_at, swept_tags}
use Rattle.sweep.proofs.Sweeping.{doomed, get_d_swept, length_swept}
use Rattle.reservations.specs.Core.{Core}
use Rattle.words.specs.declared.Slot.{Slot}
use Rattle.words.specs.Words.{slot, empty, named, register_of, tag_of, byte_of, word_at, collected_register}
use Rattle.machine.specs.Effects.{MemoryChange, keep_memory, Write, write_words, clear_frame, sweep_cells}
use Rattle.machine.specs.Step.{written_cells, written_tags, cells_after, tags_after}
use Rattle.machine.proofs.Lengths.{length_written, length_marked}
use Rattle.histories.proofs.View.{written_here, written_other, cleared_other, cleared_same, word_same, word_none}

-- A register by its number, where party and register are named.
pub register_at : (l : List Slot) (p r : ℕ) → named p && named r ≡ true → register_of l p r ≡ get_or l (8 * p + r) empty
unfolding register_of
register_at l p r e = pick_yes (named p && named r) (get_or l (8 * p + r) empty) empty e

pub register_none : (l : List Slot) (p r : ℕ) → named p && named r ≡ false → register_of l p r ≡ empty
unfolding register_of
register_none l p r e = pick_no (named p && named r) (get_or l (8 * p + r) empty) empty e

-- What holds of the word that is put into a register and of the old words of all registers holds of the new ones.
pub put_register_lem : (P : ℕ → Slot → Type 0) (l : List Slot) (p d : ℕ) (w : Slot) → d < 8 → P p w → ((q r : ℕ) → P q (register_of l q r)) → (q r : ℕ) → P q (register_of (set l (8 * p + d) w) q r)
put_register_lem P l p d w b new old q r = go (named q && named r) refl
  where
    stays : register_of (set l (8 * p + d) w) q r ≡ register_of l q r → P q (register_of (set l (8 * p + d) w) q r)
    stays e = subst (P q) (sym e) (old q r)

    at : named q && named r ≡ true → (x : Bool) → eqb (8 * q + r) (8 * p + d) ≡ x → (y : Bool) → ltb (8 * p + d) (length l) ≡ y → P q (register_of (set l (8 * p + d) w) q r)
    at e true x true y =
        let h : r < 8 = ltb-true r 8 (and_right (named q) (named r) e) in
        let n : 8 * q + r ≡ 8 * p + d = eqb-true (8 * q + r) (8 * p + d) x in
        let s : p ≡ q = omega arith in
        subst (P q) (sym (register_at (set l (8 * p + d) w) q r e ∙ ap (λ k. get_or (set l (8 * p + d) w) k empty) n ∙ get_or-set_same l (8 * p + d) w empty (ltb-true (8 * p + d) (length l) y))) (subst (λ k. P k w) s new)
    at e true x false y = stays (ap (λ k. register_of k q r) (set_out l (8 * p + d) w (ltb-false (8 * p + d) (length l) y)))
    at e false x y z = stays (register_at (set l (8 * p + d) w) q r e ∙ get_or-set_other l (8 * p + d) (8 * q + r) w empty (eqb-false (8 * q + r) (8 * p + d) x) ∙ sym (register_at l q r e))

    go : (b : Bool) → named q && named r ≡ b → P q (register_of (set l (8 * p + d) w) q r)
    go true e = at e (eqb (8 * q + r) (8 * p + d)) refl (ltb (8 * p + d) (length l)) refl
    go false e = stays (register_none (set l (8 * p + d) w) q r e ∙ sym (register_none l q r e))

-- A word of a party's own changes no other party's register.
pub put_own : (l : List Slot) (p d : ℕ) (w : Slot) → d < 8 → (q r : ℕ) → (q ≡ p → ⊥) → register_of (set l (8 * p + d) w) q r ≡ register_of l q r
put_own l p d w b q r n = go (named q && named r) refl
  where
    go : (x : Bool) → named q && named r ≡ x → register_of (set l (8 * p + d) w) q r ≡ register_of l q r
    go true e =
        let h : r < 8 = ltb-true r 8 (and_right (named q) (named r) e) in
        register_at (set l (8 * p + d) w) q r e ∙ get_or-set_other l (8 * p + d) (8 * q + r) w empty (λ z. n (let s : q ≡ p = omega arith in s)) ∙ sym (register_at l q r e)
    go false e = register_none (set l (8 * p + d) w) q r e ∙ sym (register_none l q r e)

-- The same word put at the same place of two lists that agree on a register.
pub put_same : (l m : List Slot) (i : ℕ) (w : Slot) (q r : ℕ) → length l ≡ length m → register_of l q r ≡ register_of m q r → register_of (set l i w) q r ≡ register_of (set m i w) q r
put_same l m i w q r long old = go (named q && named r) refl
  where
    at : named q && named r ≡ true → (x : Bool) → eqb (8 * q + r) i ≡ x → (y : Bool) → ltb i (length l) ≡ y → register_of (set l i w) q r ≡ register_of (set m i w) q r
    at e true x true y =
        let n : 8 * q + r ≡ i = eqb-true (8 * q + r) i x in
        let h : i < length l = ltb-true i (length l) y in
        register_at (set l i w) q r e ∙ ap (λ k. get_or (set l i w) k empty) n ∙ get_or-set_same l i w empty h
        ∙ sym (register_at (set m i w) q r e ∙ ap (λ k. get_or (set m i w) k empty) n ∙ get_or-set_same m i w empty (omega arith))
    at e true x false y =
        let h : length l ≤ i = ltb-false i (length l) y in
        ap (λ k. register_of k q r) (set_out l i w h) ∙ old ∙ sym (ap (λ k. register_of k q r) (set_out m i w (omega arith)))
    at e false x y z =
        register_at (set l i w) q r e ∙ get_or-set_other l i (8 * q + r) w empty (eqb-false (8 * q + r) i x) ∙ sym (register_at l q r e) ∙ old
        ∙ register_at m q r e ∙ sym (register_at (set m i w) q r e ∙ get_or-set_other m i (8 * q + r) w empty (eqb-false (8 * q + r) i x))

    go : (b : Bool) → named q && named r ≡ b → register_of (set l i w) q r ≡ register_of (set m i w) q r
    go true e = at e (eqb (8 * q + r) i) refl (ltb i (length l)) refl
    go false e = register_none (set l i w) q r e ∙ sym (register_none (set m i w) q r e)

pub collect_register : (k : Core) (l : List Slot) (q r : ℕ) → register_of (map (collected_register k) l) q r ≡ collected_register k (register_of l q r)
collect_register k l q r = go (named q && named r) refl
  where
    go : (b : Bool) → named q && named r ≡ b → register_of (map (collected_register k) l) q r ≡ collected_register k (register_of l q r)
    go true e = register_at (map (collected_register k) l) q r e ∙ get_or-map (collected_register k) l (8 * q + r) empty ∙ ap (collected_register k) (sym (register_at l q r e))
    go false e = register_none (map (collected_register k) l) q r e ∙ ap (collected_register k) (sym (register_none l q r e))

-- What writes make of the word at place i: the last one there counts.
abbrev pub written_by : List Write → ℕ → Slot → Slot
written_by [] i w = w
written_by (x ∷ writes) i w = written_by writes i (pick (eqb i x.at) x.word w)

-- What a change of memory makes of the word at place i.
abbrev pub word_by : MemoryChange → List FrameEntry → ℕ → Slot → Slot
word_by keep_memory frames i w = w
word_by (write_words writes) frames i w = written_by writes i w
word_by (clear_frame f) frames i w = pick (eqb (i / 16) f.0) empty w
word_by (sweep_cells r from upto) frames i w =
    slot w.cell (pick ((leb from i && ltb i upto) && (shown_at frames (i / 16) && dies r w.cell)) false w.tag)

-- A frame that is cleared lies in memory.
abbrev pub Fits : MemoryChange → ℕ → Type 0
Fits keep_memory n = Unit {0}
Fits (write_words writes) n = Unit {0}
Fits (clear_frame f) n = 16 * f.0 + 16 ≤ n
Fits (sweep_cells r from upto) n = Unit {0}

tag_pick : (b : Bool) (n : ℕ) → tag_of (pick b 0 n) ≡ pick b false (tag_of n)
tag_pick true n = refl
tag_pick false n = refl

swept_word : (frames : List FrameEntry) (r : Range) (from upto : ℕ) (cells tags : List ℕ) (i : ℕ) → i < length tags
    → word_at cells (swept_tags frames r from upto cells tags) i ≡ word_by (sweep_cells r from upto) frames i (word_at cells tags i)
unfolding word_at
swept_word frames r from upto cells tags i b =
    ap (λ n. slot (get_or cells i 0) (tag_of n)) (get_d_swept frames r from cells tags upto i b)
    ∙ ap (slot (get_or cells i 0)) (tag_pick ((leb from i && ltb i upto) && doomed frames r cells i) (get_or tags i 0))

-- One write, and then several.
write_at : (at : ℕ) (w : Slot) (cells tags : List ℕ) (i : ℕ) → i < length cells → length tags ≡ length cells
    → word_at (set cells at w.cell) (set tags at (byte_of w.tag)) i ≡ pick (eqb i at) w (word_at cells tags i)
write_at at w cells tags i b e = go (eqb i at) refl
  where
    go : (x : Bool) → eqb i at ≡ x → word_at (set cells at w.cell) (set tags at (byte_of w.tag)) i ≡ pick (eqb i at) w (word_at cells tags i)
    go true x =
        let n : i ≡ at = eqb-true i at x in
        ap (word_at (set cells at w.cell) (set tags at (byte_of w.tag))) n ∙ written_here cells tags at w (omega arith) (omega arith)
        ∙ sym (pick_yes (eqb i at) w (word_at cells tags i) x)
    go false x = written_other cells tags at w i (eqb-false i at x) ∙ sym (pick_no (eqb i at) w (word_at cells tags i) x)

writes_at : (writes : List Write) (cells tags : List ℕ) (i : ℕ) → i < length cells → length tags ≡ length cells
    → word_at (written_cells writes cells) (written_tags writes tags) i ≡ written_by writes i (word_at cells tags i)
unfolding written_cells written_tags
writes_at [] cells tags i b e = refl
writes_at (x ∷ writes) cells tags i b e =
    let of_cells = length-set cells x.at x.word.cell in
    let of_tags = length-set tags x.at (byte_of x.word.tag) in
    writes_at writes (set cells x.at x.word.cell) (set tags x.at (byte_of x.word.tag)) i (subst (λ n. i < n) (sym of_cells) b) (of_tags ∙ e ∙ sym of_cells)
    ∙ ap (written_by writes i) (write_at x.at x.word cells tags i b e)

pub word_after : (x : MemoryChange) (k : Core) (cells tags : List ℕ) (i : ℕ) → i < length cells → length tags ≡ length cells → Fits x (length cells)
    → word_at (cells_after x cells) (tags_after x k cells tags) i ≡ word_by x k.pages.frames i (word_at cells tags i)
unfolding cells_after tags_after
word_after keep_memory k cells tags i b e f = refl
word_after (write_words writes) k cells tags i b e f = writes_at writes cells tags i b e
word_after (clear_frame g) k cells tags i b e f = go (eqb (i / 16) g.0) refl
  where
    n : i ≡ 16 * (i / 16) + i % 16
    n = omega arith

    low : i % 16 < 16
    low = omega arith

    f' : 16 * g.0 + 16 ≤ length tags
    f' = omega arith

    go : (x : Bool) → eqb (i / 16) g.0 ≡ x → word_at (cleared g cells) (cleared g tags) i ≡ pick (eqb (i / 16) g.0) empty (word_at cells tags i)
    go true x =
        let s : i / 16 ≡ g.0 = eqb-true (i / 16) g.0 x in
        word_none (cleared g cells) (cleared g tags) i (ap (λ j. get_or (cleared g cells) j 0) n ∙ cleared_same g cells (i / 16) (i % 16) f low s) (ap (λ j. get_or (cleared g tags) j 0) n ∙ cleared_same g tags (i / 16) (i % 16) f' low s)
        ∙ sym (pick_yes (eqb (i / 16) g.0) empty (word_at cells tags i) x)
    go false x =
        let s = eqb-false (i / 16) g.0 x in
        word_same cells tags (cleared g cells) (cleared g tags) i
        (ap (λ j. get_or (cleared g cells) j 0) n ∙ cleared_other g cells (i / 16) (i % 16) f low s ∙ ap (λ j. get_or cells j 0) (sym n))
        (ap (λ j. get_or (cleared g tags) j 0) n ∙ cleared_other g tags (i / 16) (i % 16) f' low s ∙ ap (λ j. get_or tags j 0) (sym n))
        ∙ sym (pick_no (eqb (i / 16) g.0) empty (word_at cells tags i) x)
word_after (sweep_cells r from upto) k cells tags i b e f = swept_word k.pages.frames r from upto cells tags i (omega arith)

pub cells_long : (x : MemoryChange) (cells : List ℕ) → Fits x (length cells) → length (cells_after x cells) ≡ length cells
unfolding cells_after
cells_long keep_memory cells f = refl
cells_long (write_words writes) cells f = length_written writes cells
cells_long (clear_frame g) cells f = length_cleared g cells f
cells_long (sweep_cells r from upto) cells f = refl

pub tags_long : (x : MemoryChange) (k : Core) (cells tags : List ℕ) → Fits x (length tags) → length (tags_after x k cells tags) ≡ length tags
unfolding tags_after
tags_long keep_memory k cells tags f = refl
tags_long (write_words writes) k cells tags f = length_marked writes tags
tags_long (clear_frame g) k cells tags f = length_cleared g tags f
tags_long (sweep_cells r from upto) k cells tags f = length_swept k.pages.frames r from cells tags upto
