-- The invariant over each kind of change: a word put, a table, the pages, a word written, a frame cleared, cells swept, a
-- revocation begun or ended. Assumes nothing.
use Rattle.std.specs.Prelude.{Some, None}
use Prim.Native.Nat.{ℕ, ◌+◌, ◌*◌, ◌/◌, ◌%◌, ◌<◌, ◌≤◌}
use native.Mathlib.Omega.{arith}
use mathlib.Core.Bool.{Bool, true, false, false≢true, and-true}
use mathlib.Core.List.{List, ◌∷◌, ◌++◌}
use mathlib.Core.Logic.{◌⊎◌, ⊎_elim}
use mathlib.Core.Path.{◌≡◌, refl, sym, ap, subst, ◌∙◌}
use borrow.Author.Tests.{eqb-true, eqb-false, ltb-true, ltb-false}
use lib.Dec.{eqb, ltb}
use lib.ListN.{length, get_or, set, take, drop, get_or-eq_default}
use lib.Seq.{get_or-set_same, get_or-set_other}
use Rattle.capabilities.specs.Capability.{base_of}
use Rattle.capabilities.specs.Death.{dies}
use Rattle.capabilities.specs.Range.{inside}
use Rattle.capabilities.proofs.Choice.{at_most}
use Rattle.pages.specs.declared.Frame.{Frame}
use Rattle.pages.specs.declared.FrameState.{FrameState}
use Rattle.pages.specs.declared.FrameState.TheVariants.{Dirty, Free, Mapped as Shown}
use Rattle.pages.specs.Pages.{Pages}
use Rattle.pages.specs.Entries.{is_shown}
use Rattle.pages.specs.Layer.{frame_at, with_frame}
use Rattle.pages.specs.Mapping.{cleared, lookup_of}
use Rattle.pages.proofs.Formed.{Sound as Layered}
use Rattle.pages.proofs.View.{frame_kept, page_of_frame}
use Rattle.sweep.specs.Sweep.{swept_tags, shown_at}
use Rattle.sweep.proofs.Sweeping.{length_swept}
use Rattle.sweep.proofs.Sweeps.{swept_less, swept_clean}
use Rattle.table.specs.Table.{Table}
use Rattle.table.specs.Rows.{is_open, live, range_of}
use Rattle.table.proofs.Cells.{inside_made}
use Rattle.reservations.specs.Core.{Core, with_pages, with_table, with_place, unswept}
use Rattle.reservations.specs.Revocation.{running, revoked, dying, collected_row}
use Rattle.reservations.proofs.CoreAfter.{dying_dies}
use Rattle.words.specs.declared.Slot.{Slot}
use Rattle.words.specs.Words.{slot, empty, byte_of, tag_of, word_at}
use Rattle.histories.specs.Live.{word_of, shown}
use Rattle.histories.specs.Inv.{row_at, Confined, Sound, Memory}
use Rattle.histories.proofs.View.{Seen, seen, lookup_same, shown_by, shown_at_lem, seen_low, seen_shown, seen_once, written_here, written_other, cleared_other, cleared_same, word_same, word_none, word_cell, word_tag}
use Rattle.histories.proofs.Table.{Around, Carried, collect_kept, collect_came}

pub frame_lookup : (p : Pages) (k : ℕ) (x : FrameState) (v : ℕ) → lookup_of (with_frame p k x) v ≡ lookup_of p v
unfolding with_frame
frame_lookup p k x v = lookup_same (with_frame p k x) p v refl (page_of_frame p k (v / 16) x)

shows : (p : Pages) (k : ℕ) → frame_at p k ≡ Shown → shown_at p.frames k ≡ true
unfolding frame_at
shows p k q = ap (λ x. is_shown x) q

-- A place of lent memory that holds 0, untagged.
abbrev pub Blank : List ℕ → List ℕ → ℕ → Type 0
Blank cells tags at = (get_or cells at 0 ≡ 0) × (get_or tags at 0 ≡ 0)

pub none_sound : (t : Table) → Sound t empty
none_sound t e = absurd (false≢true e)

pub around_confined : (t u : Table) (c : ℕ) (k : Confined t c) → Around u (row_at t k.row) → Confined u c
around_confined t u c k a =
    record {
      row = a.row;
      used = a.used;
      lent = a.lent;
      within = record { from = omega (arith, a.from, k.within.from); upto = omega (arith, a.upto, k.within.upto) };
      some = k.some;
      few = k.few;
      small = k.small;
    }

pub carried_confined : (t u : Table) (c : ℕ) → Carried t u → Confined t c → Confined u c
carried_confined t u c k x = around_confined t u c x (k.kept x.row x.used x.lent)

pub carried_sound : (t u : Table) (w : Slot) → Carried t u → Sound t w → Sound u w
carried_sound t u w k x e = carried_confined t u w.cell k (x e)

-- The base of a confined capability lies in its reservation.
pub base_in : (t : Table) (c : ℕ) (k : Confined t c) → inside (range_of (row_at t k.row)) (base_of c) ≡ true
base_in t c k = inside_made (range_of (row_at t k.row)) (base_of c) k.within.from (omega (arith, k.within.upto, k.some))

module _ (c : Core) (cells tags : List ℕ) (m : Memory c cells tags) where
  -- C for a place.
  pub place_sound : (v at : ℕ) → lookup_of c.pages v ≡ Some at → Sound c.table (word_at cells tags at)
  place_sound v at e = subst (Sound c.table) (shown_at_lem c.pages cells tags v at e) (m.confined v)

  -- Another table.
  pub keep_table : (u : Table) → Carried c.table u → ((cell : ℕ) → dying (with_table c u) cell ≡ dying c cell) → Memory (with_table c u) cells tags
  keep_table u k d =
      record {
        confined = λ v. carried_sound c.table u (shown c.pages cells tags v) k (m.confined v);
        free = m.free;
        behind = λ v at e h t. d (word_at cells tags at).cell ∙ m.behind v at e h t;
        unlent = λ v i b o x. let q = k.came i v b o x in m.unlent v q.row q.used q.isopen q.hit;
        bytes = m.bytes;
      }

  -- Another table, and the sweep at its beginning.
  pub keep_begun : (u : Table) → Carried c.table u → Memory (unswept c c.pages u) cells tags
  keep_begun u k =
      record {
        confined = λ v. carried_sound c.table u (shown c.pages cells tags v) k (m.confined v);
        free = m.free;
        behind = λ v at e h t. absurd (omega arith);
        unlent = λ v i b o x. let q = k.came i v b o x in m.unlent v q.row q.used q.isopen q.hit;
        bytes = m.bytes;
      }

  -- Other pages: what they show was shown, or is blank; what is Free was.
  pub keep_pages : (p : Pages) → ((v at : ℕ) → lookup_of p v ≡ Some at → (lookup_of c.pages v ≡ Some at) ⊎ Blank cells tags at) → ((k : ℕ) → frame_at p k ≡ Free → frame_at c.pages k ≡ Free)
      → Memory (with_pages c p) cells tags
  unfolding dying running revoked
  keep_pages p was free =
      record {
        confined = λ v.
            shown_by (Sound c.table) p cells tags v (none_sound c.table)
            (λ at e. ⊎_elim (λ q. place_sound v at q) (λ z. subst (Sound c.table) (sym (word_none cells tags at z.0 z.1)) (none_sound c.table)) (was v at e));
        free = λ k i e b. m.free k i (free k e) b;
        behind = λ v at e h t.
            ⊎_elim (λ q. m.behind v at q h t) (λ z. absurd (false≢true (sym (ap (λ w. w.tag) (word_none cells tags at z.0 z.1)) ∙ t))) (was v at e);
        unlent = λ v i b o x.
            shown_by (λ w. w ≡ empty) p cells tags v refl
            (λ at e. ⊎_elim (λ q. sym (shown_at_lem c.pages cells tags v at q) ∙ m.unlent v i b o x) (λ z. word_none cells tags at z.0 z.1) (was v at e));
        bytes = λ v at e. ⊎_elim (λ q. m.bytes v at q) (λ z. omega (arith, z.1)) (was v at e);
      }

  module _ (ok : Layered c.pages) (of_cells : length cells ≡ 16 * c.pages.f) (of_tags : length tags ≡ 16 * c.pages.f) where
    pub place_below : (v at : ℕ) → Seen c.pages v at → at < 16 * c.pages.f
    place_below v at k = omega (arith, seen_low c.pages ok v at k, k.place)

    -- What holds of a word that is written and of the old word at a place holds of the new one there.
    pub write_word : (at : ℕ) (w : Slot) → at < 16 * c.pages.f → (P : Slot → Type 0) (a : ℕ) → P w → P (word_at cells tags a) → P (word_at (set cells at w.cell) (set tags at (byte_of w.tag)) a)
    write_word at w low P a new old = go (eqb a at) refl
      where
        go : (b : Bool) → eqb a at ≡ b → P (word_at (set cells at w.cell) (set tags at (byte_of w.tag)) a)
        go true b = subst P (sym (ap (word_at (set cells at w.cell) (set tags at (byte_of w.tag))) (eqb-true a at b) ∙ written_here cells tags at w (omega (arith, low)) (omega (arith, low)))) new
        go false b = subst P (sym (written_other cells tags at w a (eqb-false a at b))) old

    -- A word written to a Mapped cell of a lent range.
    pub keep_write : (v at : ℕ) (w : Slot) → lookup_of c.pages v ≡ Some at → Sound c.table w → (w.tag ≡ true → dying c w.cell ≡ false)
        → ((i : ℕ) → i < length (live c.table) → is_open (row_at c.table i).state ≡ true → inside (range_of (row_at c.table i)) v ≡ true → ⊥)
        → Memory c (set cells at w.cell) (set tags at (byte_of w.tag))
    keep_write v at w e s d lent =
        record {
          confined = λ x. shown_by (Sound c.table) c.pages cells' tags' x (none_sound c.table) (λ a q. word (Sound c.table) a s (place_sound x a q));
          free = λ k i f b.
              let n : 16 * k + i ≡ at → ⊥ = other k i f b in
              (get_or-set_other cells at (16 * k + i) w.cell 0 n ∙ (m.free k i f b).0, get_or-set_other tags at (16 * k + i) (byte_of w.tag) 0 n ∙ (m.free k i f b).1);
          behind = λ x a q h. word (λ y. y.tag ≡ true → dying c y.cell ≡ false) a d (m.behind x a q h);
          unlent = λ x i b o y.
              shown_by (λ z. z ≡ empty) c.pages cells' tags' x refl
              (λ a q. written_other cells tags at w a (λ r. lent i b o (subst (λ z. inside (range_of (row_at c.table i)) z ≡ true) (same x a q r) y))
              ∙ sym (shown_at_lem c.pages cells tags x a q) ∙ m.unlent x i b o y);
          bytes = λ x a q. byte a (eqb a at) refl (m.bytes x a q);
        }
      where
        cells' : List ℕ
        cells' = set cells at w.cell

        tags' : List ℕ
        tags' = set tags at (byte_of w.tag)

        here : Seen c.pages v at
        here = seen c.pages v at e

        low : at < 16 * c.pages.f
        low = place_below v at here

        word : (P : Slot → Type 0) (a : ℕ) → P w → P (word_at cells tags a) → P (word_at cells' tags' a)
        word P a new old = write_word at w low P a new old

        same : (x a : ℕ) → lookup_of c.pages x ≡ Some a → a ≡ at → x ≡ v
        same x a q r = seen_once c.pages ok v at here x (subst (Seen c.pages x) r (seen c.pages x a q))

        other : (k i : ℕ) → frame_at c.pages k ≡ Free → i < 16 → 16 * k + i ≡ at → ⊥
        other k i f b n =
            let j : here.frame.0 ≡ k = omega (arith, here.place) in
            let z : Free ≡ Shown = sym f ∙ ap (frame_at c.pages) (sym j) ∙ seen_shown c.pages ok v at here in
            let y : ◌≡◌ {A = ℕ} 0 1 = cc in
            omega arith

        byte : (a : ℕ) (b : Bool) → eqb a at ≡ b → get_or tags a 0 ≤ 1 → get_or tags' a 0 ≤ 1
        byte a true b old = rw (eqb-true a at b, get_or-set_same tags at (byte_of w.tag) 0 (omega (arith, low))) (at_most w.tag)
        byte a false b old = rw (get_or-set_other tags at a (byte_of w.tag) 0 (eqb-false a at b)) old

    -- Clearing a Dirty frame changes no Mapped cell.
    pub clear_other : (f : Frame) → f.0 < c.pages.f → frame_at c.pages f.0 ≡ Dirty → (l : List ℕ) → length l ≡ 16 * c.pages.f → (v at : ℕ) → lookup_of c.pages v ≡ Some at → get_or (cleared f l) at 0 ≡ get_or l at 0
    clear_other f low dirty l size v at e =
        let k = seen c.pages v at e in
        let n : k.frame.0 ≡ f.0 → ⊥ = λ q.
        let z : Dirty ≡ Shown = sym dirty ∙ ap (frame_at c.pages) (sym q) ∙ seen_shown c.pages ok v at k in
        let y : ◌≡◌ {A = ℕ} 0 1 = cc in
        omega arith
        in
        ap (λ a. get_or (cleared f l) a 0) k.place ∙ cleared_other f l k.frame.0 (v % 16) (omega arith) (omega arith) n ∙ ap (λ a. get_or l a 0) (sym k.place)

    pub clear_word : (f : Frame) → f.0 < c.pages.f → frame_at c.pages f.0 ≡ Dirty → (v at : ℕ) → lookup_of c.pages v ≡ Some at → word_at (cleared f cells) (cleared f tags) at ≡ word_at cells tags at
    clear_word f low dirty v at e = word_same cells tags (cleared f cells) (cleared f tags) at (clear_other f low dirty cells of_cells v at e) (clear_other f low dirty tags of_tags v at e)

    -- A Dirty frame cleared and Free.
    pub keep_clear : (f : Frame) → f.0 < c.pages.f → frame_at c.pages f.0 ≡ Dirty → Memory (with_pages c (with_frame c.pages f.0 Free)) (cleared f cells) (cleared f tags)
    unfolding dying running revoked
    keep_clear f low dirty =
        record {
          confined = λ v. shown_by (Sound c.table) p cells' tags' v (none_sound c.table) (λ at e. subst (Sound c.table) (sym (word v at (old v at e))) (place_sound v at (old v at e)));
          free = λ k i e b. free k i e b (eqb k f.0) refl;
          behind = λ v at e h. subst (λ w. w.tag ≡ true → dying c w.cell ≡ false) (sym (word v at (old v at e))) (m.behind v at (old v at e) h);
          unlent = λ v i b o x. shown_by (λ w. w ≡ empty) p cells' tags' v refl (λ at e. word v at (old v at e) ∙ sym (shown_at_lem c.pages cells tags v at (old v at e)) ∙ m.unlent v i b o x);
          bytes = λ v at e. rw (other tags of_tags v at (old v at e)) (m.bytes v at (old v at e));
        }
      where
        p : Pages
        p = with_frame c.pages f.0 Free

        cells' : List ℕ
        cells' = cleared f cells

        tags' : List ℕ
        tags' = cleared f tags

        old : (v at : ℕ) → lookup_of p v ≡ Some at → lookup_of c.pages v ≡ Some at
        old v at e = sym (frame_lookup c.pages f.0 Free v) ∙ e

        other : (l : List ℕ) → length l ≡ 16 * c.pages.f → (v at : ℕ) → lookup_of c.pages v ≡ Some at → get_or (cleared f l) at 0 ≡ get_or l at 0
        other l size v at e = clear_other f low dirty l size v at e

        word : (v at : ℕ) → lookup_of c.pages v ≡ Some at → word_at cells' tags' at ≡ word_at cells tags at
        word v at e = clear_word f low dirty v at e

        free : (k i : ℕ) → frame_at p k ≡ Free → i < 16 → (x : Bool) → eqb k f.0 ≡ x → Blank cells' tags' (16 * k + i)
        free k i e b true x = (cleared_same f cells k i (omega arith) b (eqb-true k f.0 x), cleared_same f tags k i (omega arith) b (eqb-true k f.0 x))
        free k i e b false x =
            let n = eqb-false k f.0 x in
            let q = m.free k i (sym (frame_kept c.pages f.0 k Free n) ∙ e) b in
            (cleared_other f cells k i (omega arith) b n ∙ q.0, cleared_other f tags k i (omega arith) b n ∙ q.1)

    -- A swept cell's tag stays or goes; so what holds of a word, and of it untagged, holds of it after a sweep.
    pub sweep_less : (upto at : ℕ) → at < length tags
        → (get_or (swept_tags c.pages.frames (revoked c) c.place upto cells tags) at 0 ≡ get_or tags at 0) ⊎ (get_or (swept_tags c.pages.frames (revoked c) c.place upto cells tags) at 0 ≡ 0)
    sweep_less upto at h = swept_less c.pages.frames (revoked c) cells tags c.place upto at h

    pub sweep_word : (upto : ℕ) (P : Slot → Type 0) (v at : ℕ) → lookup_of c.pages v ≡ Some at → P (word_at cells tags at) → P (slot (word_at cells tags at).cell false)
        → P (word_at cells (swept_tags c.pages.frames (revoked c) c.place upto cells tags) at)
    sweep_word upto P v at e old none =
        ⊎_elim (λ q. subst P (sym (word_same cells tags cells tags' at refl q)) old) (λ q. subst P (sym (untagged q)) none)
        (sweep_less upto at (omega (arith, place_below v at (seen c.pages v at e))))
      where
        tags' : List ℕ
        tags' = swept_tags c.pages.frames (revoked c) c.place upto cells tags

        untagged : get_or tags' at 0 ≡ 0 → word_at cells tags' at ≡ slot (word_at cells tags at).cell false
        untagged q = unfold word_at in ap (λ n. slot (get_or cells at 0) (tag_of n)) q

    -- Cells swept up to a further place.
    pub keep_sweep : (upto : ℕ) → Memory (with_place c upto) cells (swept_tags c.pages.frames (revoked c) c.place upto cells tags)
    unfolding dying running revoked
    keep_sweep upto =
        record {
          confined = λ v. shown_by (Sound c.table) c.pages cells tags' v (none_sound c.table) (λ at e. word (Sound c.table) v at e (place_sound v at e) (λ z. absurd (false≢true z)));
          free = λ k i e b. ((m.free k i e b).0, gone (16 * k + i) (m.free k i e b).1 (ltb (16 * k + i) (length tags)) refl);
          behind = λ v at e h t. clean v at e h t (ltb at c.place) refl;
          unlent = λ v i b o x. shown_by (λ w. w ≡ empty) c.pages cells tags' v refl (λ at e. let q = sym (shown_at_lem c.pages cells tags v at e) ∙ m.unlent v i b o x in word (λ w. w ≡ empty) v at e q (ap (λ w. slot w.cell false) q));
          bytes = λ v at e. ⊎_elim (λ q. rw q (m.bytes v at e)) (λ q. rw q (omega arith)) (less at (below v at e));
        }
      where
        tags' : List ℕ
        tags' = swept_tags c.pages.frames (revoked c) c.place upto cells tags

        below : (v at : ℕ) → lookup_of c.pages v ≡ Some at → at < length tags
        below v at e = omega (arith, place_below v at (seen c.pages v at e))

        less : (at : ℕ) → at < length tags → (get_or tags' at 0 ≡ get_or tags at 0) ⊎ (get_or tags' at 0 ≡ 0)
        less at h = sweep_less upto at h

        word : (P : Slot → Type 0) (v at : ℕ) → lookup_of c.pages v ≡ Some at → P (word_at cells tags at) → P (slot (word_at cells tags at).cell false) → P (word_at cells tags' at)
        word P v at e old none = sweep_word upto P v at e old none

        gone : (at : ℕ) → get_or tags at 0 ≡ 0 → (x : Bool) → ltb at (length tags) ≡ x → get_or tags' at 0 ≡ 0
        gone at e true x = ⊎_elim (λ q. q ∙ e) (λ q. q) (less at (ltb-true at (length tags) x))
        gone at e false x = get_or-eq_default tags' 0 (rw (length_swept c.pages.frames (revoked c) c.place cells tags upto) (ltb-false at (length tags) x))

        swept : (v at : ℕ) → lookup_of c.pages v ≡ Some at → c.place ≤ at → at < upto → dies (revoked c) (get_or cells at 0) ≡ true → get_or tags' at 0 ≡ 0
        swept v at e a b d =
            let k = seen c.pages v at e in
            let n : at / 16 ≡ k.frame.0 = omega (arith, k.place) in
            swept_clean c.pages.frames (revoked c) cells tags c.place upto at (below v at e) a b
            (rw d (and-true (shown_at c.pages.frames (at / 16)) ∙ shows c.pages (at / 16) (ap (frame_at c.pages) n ∙ seen_shown c.pages ok v at k)))

        clean : (v at : ℕ) → lookup_of c.pages v ≡ Some at → at < upto → (word_at cells tags' at).tag ≡ true → (x : Bool) → ltb at c.place ≡ x → dying c (word_at cells tags' at).cell ≡ false
        clean v at e h t true x = word (λ w. w.tag ≡ true → dying c w.cell ≡ false) v at e (m.behind v at e (ltb-true at c.place x)) (λ z. absurd (false≢true z)) t
        clean v at e h t false x = ap (dying c) (word_cell cells tags' at) ∙ dying_dies c (get_or cells at 0) ∙ go (dies (revoked c) (get_or cells at 0)) refl
          where
            go : (b : Bool) → dies (revoked c) (get_or cells at 0) ≡ b → dies (revoked c) (get_or cells at 0) ≡ false
            go false b = b
            go true b = absurd (false≢true (sym (ap tag_of (swept v at e (ltb-false at c.place x) h b)) ∙ sym (word_tag cells tags' at) ∙ t))

-- A word that does not die with the i-th reservation is as sound after it is collected.
pub collect_sound : (t u : Table) (i : ℕ) (h : i < length (live t)) (now : live u ≡ take i (live t) ++ collected_row (row_at t i) ∷ drop (i + 1) (live t)) (w : Slot)
    → Sound t w → (w.tag ≡ true → inside (range_of (row_at t i)) (base_of w.cell) ≡ false) → Sound u w
collect_sound t u i h now w s out e =
    let k = s e in
    around_confined t u w.cell k (collect_kept t u i h now (base_of w.cell) k.row (out e) k.used k.lent (base_in t w.cell k))

-- The end of a revocation: no page shows a cell of its range, and all that pages show does not die with it.
pub keep_ended : (c : Core) (cells tags : List ℕ) (u : Table) (i : ℕ) (h : i < length (live c.table)) (now : live u ≡ take i (live c.table) ++ collected_row (row_at c.table i) ∷ drop (i + 1) (live c.table))
    → Memory c cells tags → ((v : ℕ) → inside (range_of (row_at c.table i)) v ≡ true → lookup_of c.pages v ≡ None)
    → ((v at : ℕ) → lookup_of c.pages v ≡ Some at → (word_at cells tags at).tag ≡ true → inside (range_of (row_at c.table i)) (base_of (word_at cells tags at).cell) ≡ false)
    → Memory (unswept c c.pages u) cells tags
keep_ended c cells tags u i h now m gone alive =
    record {
      confined = λ v.
          shown_by (Sound u) c.pages cells tags v (none_sound u)
          (λ at e. collect_sound c.table u i h now (word_at cells tags at) (place_sound c cells tags m v at e) (alive v at e));
      free = m.free;
      behind = λ v at e x t. absurd (omega arith);
      unlent = λ v j b o x.
          ⊎_elim (λ q. m.unlent v q.row q.used q.isopen q.hit) (λ q. ap (word_of cells tags) (gone v q)) (collect_came c.table u i h now j v b o x);
      bytes = m.bytes;
    }
