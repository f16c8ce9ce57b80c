-- Pointwise views of registers, mailboxes, virtual cells and lent words after a change. Assumes nothing.
use Rattle.std.specs.Prelude.{Option, Some, None}
use Prim.Native.Nat.{ℕ, ◌+◌, ◌*◌, ◌/◌, ◌%◌, ◌<◌, ◌≤◌}
use native.Mathlib.Omega.{arith}
use mathlib.Core.Bool.{Bool, true, false, false≢true}
use mathlib.Core.List.{List, map}
use mathlib.Core.Path.{◌≡◌, refl, sym, ap, subst, ◌∙◌}
use borrow.Author.Tests.{eqb-true, eqb-false, ltb-true, lt-ltb, eq-eqb, ltb-false}
use lib.Dec.{eqb, ltb}
use lib.ListN.{length, get_or, set, get_or-map, length-set}
use lib.Seq.{get_or-set_same, get_or-set_other, set_out}
use Rattle.capabilities.specs.Lists.{pick}
use Rattle.capabilities.proofs.Choice.{pick_yes, at_most}
use Rattle.pages.specs.declared.Frame.{Frame}
use Rattle.pages.specs.declared.FrameState.{FrameState}
use Rattle.pages.specs.declared.FrameState.TheVariants.{Dirty, Free, Mapped as Shown}
use Rattle.pages.specs.Pages.{PageEntry}
use Rattle.pages.specs.declared.PageState.{PageState}
use Rattle.pages.specs.declared.PageState.TheVariants.{Unmapped, Freed, Mapped}
use Rattle.pages.specs.Pages.{Pages}
use Rattle.pages.specs.Entries.{is_shown, maps, maps_below, page_entry}
use Rattle.pages.specs.Layer.{page_at, frame_at, mappings}
use Rattle.pages.specs.Mapping.{cleared, lookup_of, place_in}
use Rattle.pages.proofs.Formed.{Sound, mapped_once, maps_low}
use Rattle.pages.proofs.Mappings.{mappings_set}
use Rattle.pages.proofs.Shows.{cleared_here, cleared_below, cleared_above}
use Rattle.reservations.specs.Core.{Core}
use Rattle.words.specs.declared.Slot.{Slot}
use Rattle.words.specs.Words.{slot, empty, tag_of, byte_of, word_at, collected_register, collected_mailbox}
use Rattle.words.proofs.Lent.{tag_byte}
use Rattle.histories.specs.Live.{word_of, shown}

-- What holds of the word that is put and of every old one holds of every new one.
pub put_each : (P : Slot → Type 0) (l : List Slot) (i : ℕ) (w : Slot) → P w → ((j : ℕ) → P (get_or l j empty)) → (j : ℕ) → P (get_or (set l i w) j empty)
put_each P l i w new old j = go (eqb j i) refl (ltb i (length l)) refl
  where
    go : (b : Bool) → eqb j i ≡ b → (c : Bool) → ltb i (length l) ≡ c → P (get_or (set l i w) j empty)
    go true e true h = subst P (sym (ap (λ n. get_or (set l i w) n empty) (eqb-true j i e) ∙ get_or-set_same l i w empty (ltb-true i (length l) h))) new
    go true e false h = subst P (sym (ap (λ x. get_or x j empty) (set_out l i w (ltb-false i (length l) h)))) (old j)
    go false e c h = subst P (sym (get_or-set_other l i j w empty (eqb-false j i e))) (old j)

pub collected_registers : (c : Core) (l : List Slot) (i : ℕ) → get_or (map (collected_register c) l) i empty ≡ collected_register c (get_or l i empty)
collected_registers c l i = get_or-map (collected_register c) l i empty

pub collected_mailboxes : (c : Core) (l : List Slot) (i : ℕ) → get_or (map (collected_mailbox c) l) i empty ≡ collected_mailbox c (get_or l i empty)
collected_mailboxes c l i = get_or-map (collected_mailbox c) l i empty

-- A virtual cell whose page is Mapped: its frame, and its place in lent memory.
pub record Seen (s : Pages) (v at : ℕ) : Type 0 where
  pub frame : Frame
  pub low : v / 16 < s.v
  pub page : page_at s (v / 16) ≡ Mapped frame
  pub place : at ≡ 16 * frame.0 + v % 16

pub seen : (s : Pages) (v at : ℕ) → lookup_of s v ≡ Some at → Seen s v at
unfolding lookup_of
seen s v at e = go (ltb (v / 16) s.v) refl (page_at s (v / 16)) refl e
  where
    go : (b : Bool) → ltb (v / 16) s.v ≡ b → (p : PageState) → page_at s (v / 16) ≡ p → pick b (place_in p (v % 16)) None ≡ Some at → Seen s v at
    go true h (Mapped f) p q = record { frame = f; low = ltb-true (v / 16) s.v h; page = p; place = let z : 16 * f.0 + v % 16 ≡ at = cc in sym z }
    go true h Unmapped p q = absurd (let z : ◌≡◌ {A = ℕ} 0 1 = cc in omega arith)
    go true h Freed p q = absurd (let z : ◌≡◌ {A = ℕ} 0 1 = cc in omega arith)
    go false h x p q = absurd (let z : ◌≡◌ {A = ℕ} 0 1 = cc in omega arith)

pub looked : (s : Pages) (v at : ℕ) → Seen s v at → lookup_of s v ≡ Some at
unfolding lookup_of
looked s v at k =
    pick_yes (ltb (v / 16) s.v) (place_in (page_at s (v / 16)) (v % 16)) None (lt-ltb (v / 16) s.v k.low)
    ∙ ap (λ p. place_in p (v % 16)) k.page ∙ ap Some (sym k.place)

-- Two layers that show the same of a virtual cell's page show the same of the cell.
pub lookup_same : (s t : Pages) (v : ℕ) → s.v ≡ t.v → page_at s (v / 16) ≡ page_at t (v / 16) → lookup_of s v ≡ lookup_of t v
unfolding lookup_of
lookup_same s t v e p = ap (λ n. pick (ltb (v / 16) n) (place_in (page_at s (v / 16)) (v % 16)) None) e ∙ ap (λ x. pick (ltb (v / 16) t.v) (place_in x (v % 16)) None) p

-- What holds of the empty word, and of the word at a virtual cell's place if it has one, holds of what it shows.
pub shown_by : (P : Slot → Type 0) (s : Pages) (cells tags : List ℕ) (v : ℕ) → P empty → ((at : ℕ) → lookup_of s v ≡ Some at → P (word_at cells tags at)) → P (shown s cells tags v)
shown_by P s cells tags v none some = go (lookup_of s v) refl
  where
    go : (x : Option ℕ) → lookup_of s v ≡ x → P (word_of cells tags (lookup_of s v))
    go (Some at) e = subst (λ x. P (word_of cells tags x)) (sym e) (some at e)
    go None e = subst (λ x. P (word_of cells tags x)) (sym e) none

pub shown_at_lem : (s : Pages) (cells tags : List ℕ) (v at : ℕ) → lookup_of s v ≡ Some at → shown s cells tags v ≡ word_at cells tags at
shown_at_lem s cells tags v at e = ap (word_of cells tags) e

-- How often a frame is mapped.
counted : (k : ℕ) (l : List PageEntry) (p : ℕ) → p < length l → maps (get_or l p (page_entry Unmapped)).state k ≡ true
    → mappings k (set l p (page_entry Unmapped)) + 1 ≡ mappings k l
counted k l p h e =
    let z = mappings_set k l p (page_entry Unmapped) (page_entry Unmapped) h in
    let y : pick {A = ℕ} (maps (get_or l p (page_entry Unmapped)).state k) 1 0 ≡ 1 = pick_yes (maps (get_or l p (page_entry Unmapped)).state k) 1 0 e in
    omega arith

counted_twice : (k : ℕ) (l : List PageEntry) (p q : ℕ) → p < length l → q < length l → (q ≡ p → ⊥)
    → maps (get_or l p (page_entry Unmapped)).state k ≡ true → maps (get_or l q (page_entry Unmapped)).state k ≡ true → 2 ≤ mappings k l
counted_twice k l p q h j n e f =
    let one = counted k l p h e in
    let two = counted k (set l p (page_entry Unmapped)) q (simp length-set j) (ap (λ x. maps x.state k) (get_or-set_other l p q (page_entry Unmapped) (page_entry Unmapped) n) ∙ f) in
    omega arith

is_shown_lem : (x : FrameState) → is_shown x ≡ true → x ≡ Shown
is_shown_lem Dirty e = absurd (false≢true e)
is_shown_lem Free e = absurd (false≢true e)
is_shown_lem Shown e = refl

maps_it : (s : Pages) (p : ℕ) (f : Frame) → page_at s p ≡ Mapped f → maps (get_or s.pages p (page_entry Unmapped)).state f.0 ≡ true
unfolding page_at
maps_it s p f e = ap (λ x. maps x f.0) e ∙ eq-eqb f.0 f.0 refl

module _ (s : Pages) (ok : Sound s) (v at : ℕ) (k : Seen s v at) where
  -- The frame is one of F, and Mapped.
  pub seen_low : k.frame.0 < s.f
  seen_low = ltb-true k.frame.0 s.f (sym (ap (maps_below s.f) k.page) ∙ maps_low s ok (v / 16) k.low)

  pub seen_shown : frame_at s k.frame.0 ≡ Shown
  seen_shown =
      let one = counted k.frame.0 s.pages (v / 16) (omega (arith, ok.long_pages, ok.v_most, k.low)) (maps_it s (v / 16) k.frame k.page) in
      let many = mapped_once s ok k.frame.0 seen_low in
      is_shown_lem (frame_at s k.frame.0) (go (is_shown (frame_at s k.frame.0)) refl (omega arith))
    where
      go : (b : Bool) → is_shown (frame_at s k.frame.0) ≡ b → 1 ≤ pick {A = ℕ} b 1 0 → is_shown (frame_at s k.frame.0) ≡ true
      go true e h = e
      go false e h = absurd (omega arith)

  -- No other virtual cell has this place.
  pub seen_once : (w : ℕ) → Seen s w at → w ≡ v
  seen_once w j = go (eqb (w / 16) (v / 16)) refl
    where
      go : (b : Bool) → eqb (w / 16) (v / 16) ≡ b → w ≡ v
      go true e = omega (arith, eqb-true (w / 16) (v / 16) e, k.place, j.place)
      go false e =
          let same : j.frame.0 ≡ k.frame.0 = omega (arith, k.place, j.place) in
          let two = counted_twice k.frame.0 s.pages (v / 16) (w / 16) (omega (arith, ok.long_pages, ok.v_most, k.low)) (omega (arith, ok.long_pages, ok.v_most, j.low)) (eqb-false (w / 16) (v / 16) e)
          (maps_it s (v / 16) k.frame k.page) (ap (λ n. maps (get_or s.pages (w / 16) (page_entry Unmapped)).state n) (sym same) ∙ maps_it s (w / 16) j.frame j.page) in
          absurd (omega (arith, mapped_once s ok k.frame.0 seen_low, at_most (is_shown (frame_at s k.frame.0))))

-- The words of lent memory after a word was written, a frame cleared, or cells swept.
pub written_here : (cells tags : List ℕ) (at : ℕ) (w : Slot) → at < length cells → at < length tags → word_at (set cells at w.cell) (set tags at (byte_of w.tag)) at ≡ w
unfolding word_at
written_here cells tags at w h k =
    ap (λ n. slot n (tag_of (get_or (set tags at (byte_of w.tag)) at 0))) (get_or-set_same cells at w.cell 0 h)
    ∙ ap (λ n. slot w.cell (tag_of n)) (get_or-set_same tags at (byte_of w.tag) 0 k)
    ∙ ap (slot w.cell) (tag_byte w.tag)

pub written_other : (cells tags : List ℕ) (at : ℕ) (w : Slot) (i : ℕ) → (i ≡ at → ⊥) → word_at (set cells at w.cell) (set tags at (byte_of w.tag)) i ≡ word_at cells tags i
unfolding word_at
written_other cells tags at w i n =
    ap (λ x. slot x (tag_of (get_or (set tags at (byte_of w.tag)) i 0))) (get_or-set_other cells at i w.cell 0 n)
    ∙ ap (λ x. slot (get_or cells i 0) (tag_of x)) (get_or-set_other tags at i (byte_of w.tag) 0 n)

pub cleared_other : (f : Frame) (l : List ℕ) (k i : ℕ) → 16 * f.0 + 16 ≤ length l → i < 16 → (k ≡ f.0 → ⊥) → get_or (cleared f l) (16 * k + i) 0 ≡ get_or l (16 * k + i) 0
cleared_other f l k i h b n = go (ltb k f.0) refl
  where
    go : (x : Bool) → ltb k f.0 ≡ x → get_or (cleared f l) (16 * k + i) 0 ≡ get_or l (16 * k + i) 0
    go true e = let j : k < f.0 = ltb-true k f.0 e in cleared_below f l h (16 * k + i) (omega arith)
    go false e = let j : f.0 ≤ k = ltb-false k f.0 e in cleared_above f l h (16 * k + i) (omega (arith, n))

pub cleared_same : (f : Frame) (l : List ℕ) (k i : ℕ) → 16 * f.0 + 16 ≤ length l → i < 16 → k ≡ f.0 → get_or (cleared f l) (16 * k + i) 0 ≡ 0
cleared_same f l k i h b e = ap (λ n. get_or (cleared f l) (16 * n + i) 0) e ∙ cleared_here f l h i b

pub word_same : (cells tags cells' tags' : List ℕ) (at : ℕ) → get_or cells' at 0 ≡ get_or cells at 0 → get_or tags' at 0 ≡ get_or tags at 0 → word_at cells' tags' at ≡ word_at cells tags at
unfolding word_at
word_same cells tags cells' tags' at c t = ap (λ n. slot n (tag_of (get_or tags' at 0))) c ∙ ap (λ n. slot (get_or cells at 0) (tag_of n)) t

pub word_none : (cells tags : List ℕ) (at : ℕ) → get_or cells at 0 ≡ 0 → get_or tags at 0 ≡ 0 → word_at cells tags at ≡ empty
unfolding word_at
word_none cells tags at c t = ap (λ n. slot n (tag_of (get_or tags at 0))) c ∙ ap (λ n. slot 0 (tag_of n)) t

pub word_cell : (cells tags : List ℕ) (at : ℕ) → (word_at cells tags at).cell ≡ get_or cells at 0
unfolding word_at
word_cell cells tags at = refl

pub word_tag : (cells tags : List ℕ) (at : ℕ) → (word_at cells tags at).tag ≡ tag_of (get_or tags at 0)
unfolding word_at
word_tag cells tags at = refl
