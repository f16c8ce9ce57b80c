-- The test of a layer in numbers says what the rules say: entry by entry, then the whole. Assumes nothing.
use Prim.Native.Nat.{ℕ, zero, suc, ◌+◌, ◌-◌, ◌%◌, ◌<◌, ◌≤◌}
use native.Mathlib.Nat.{zero-add, add_assoc}
use native.Mathlib.Omega.{arith}
use mathlib.Core.Bool.{Bool, true, false, not, ◌&&◌, and-true, true≢false}
use mathlib.Core.List.{List, [], ◌∷◌, ◌++◌, map}
use mathlib.Core.Path.{◌≡◌, refl, sym, ap, subst, ◌∙◌}
use lib.ListN.{length, get_or, take, drop, set, length-map, length-drop, take-append-drop, get_or-map}
use lib.Seq.{length-take-le, take_all}
use lib.Dec.{eqb, leb, ltb}
use borrow.Author.Tests.{eqb-true, eq-eqb, ne_eqb, leb-true, ltb-true, lt-ltb, le-ltb, lt-leb, not-true, not-false}
use Rattle.capabilities.specs.Lists.{pick, each}
use Rattle.capabilities.proofs.Choice.{pick_yes, pick_no, and_left, and_right, same_test, both, and_under, cross, never}
use Rattle.capabilities.proofs.Lists.{each_at, each_parts, each_and, each_anywhere, each_map, each_same, map_append}
use Rattle.pages.specs.Pages.{PageEntry}
use Rattle.pages.specs.Pages.{FrameEntry}
use Rattle.pages.specs.declared.Frame.{Frame}
use Rattle.pages.specs.declared.PageState.{PageState}
use Rattle.pages.specs.declared.PageState.TheVariants.{Unmapped, Freed, Mapped}
use Rattle.pages.specs.declared.FrameState.{FrameState}
use Rattle.pages.specs.Entries.{is_unmapped, maps, maps_below, is_dirty, is_shown, frame_number}
use Rattle.pages.specs.Layer.{in_range, mappings, Tally, page_sound, frame_sound, well_formed}
use Rattle.pages.specs.Numbers.{page_from, page_code, frame_from, frame_code, page_in, frame_in, layer_of, page_kept, frame_kept, layer_sound}
use Rattle.pages.specs.Sound.{is_unused, shows_below, is_counted}
use Rattle.pages.proofs.Mappings.{mappings_le, tally_hit, tally_miss}
use Rattle.pages.proofs.Reading.{page_shown, frame_shown}

-- One page: below V, and at V or above.
used : (f n : ℕ) → f ≤ 128 → (maps_below f (page_from n) && eqb (page_code (page_from n)) n) ≡ ltb n (f + 2)
unfolding page_from page_code
used f zero h = sym (lt-ltb 0 (f + 2) (omega arith))
used f (suc zero) h = sym (lt-ltb 1 (f + 2) (omega arith))
used f (suc (suc n)) h =
    let m : ℕ = suc (suc n) in
    let g : ℕ = (m - 2) % 256 in
    ap (λ (s : PageState). maps_below f s && eqb (page_code s) m) (page_shown m (omega arith))
    ∙ same_test (ltb g f && eqb (2 + g) m) (ltb m (f + 2))
    (λ e. let a = ltb-true g f (and_left (ltb g f) (eqb (2 + g) m) e) in let b = eqb-true (2 + g) m (and_right (ltb g f) (eqb (2 + g) m) e) in lt-ltb m (f + 2) (omega arith))
    (λ e. let a = ltb-true m (f + 2) e in both (ltb g f) (eqb (2 + g) m) (lt-ltb g f (omega arith)) (eq-eqb (2 + g) m (omega arith)))

unused : (n : ℕ) → (is_unmapped (page_from n) && eqb (page_code (page_from n)) n) ≡ eqb n 0
unfolding page_from page_code
unused zero = refl
unused (suc zero) = refl
unused (suc (suc n)) =
    ap (λ (s : PageState). is_unmapped s && eqb (page_code s) (suc (suc n))) (page_shown (suc (suc n)) (omega arith)) ∙ sym (ne_eqb (suc (suc n)) 0 (λ z. omega arith))

page_tested : (v f p n : ℕ) → f ≤ 128 → (page_sound v f p (page_in n) && page_kept p n) ≡ pick (ltb p v) (shows_below f p n) (is_unused p n)
unfolding page_sound page_kept shows_below is_unused
page_tested v f p n h = go (ltb p v)
  where
    go : (b : Bool) → (pick b (maps_below f (page_from n)) (is_unmapped (page_from n)) && eqb (page_code (page_from n)) n) ≡ pick b (ltb n (f + 2)) (eqb n 0)
    go true = used f n h
    go false = unused n

-- One frame: below F, and at F or above.
shown : (n m : ℕ) → (eqb m (pick (is_shown (frame_from n)) 1 0) && eqb (frame_code (frame_from n)) n) ≡ (leb n 2 && eqb m (pick (eqb n 2) 1 0))
unfolding frame_from frame_code
shown zero m = and-true (eqb m 0)
shown (suc zero) m = and-true (eqb m 0)
shown (suc (suc zero)) m = and-true (eqb m 1)
shown (suc (suc (suc n))) m =
    ap (λ (s : FrameState). eqb m (pick (is_shown s) 1 0) && eqb (frame_code s) (suc (suc (suc n)))) (frame_shown (suc (suc (suc n))) (omega arith))
    ∙ rw (ne_eqb 2 (suc (suc (suc n))) (λ z. omega arith), lt-leb (suc (suc (suc n))) 2 (omega arith)) (never (eqb m 1))

dirty : (n : ℕ) → (is_dirty (frame_from n) && eqb (frame_code (frame_from n)) n) ≡ eqb n 0
unfolding frame_from frame_code
dirty zero = refl
dirty (suc zero) = refl
dirty (suc (suc n)) =
    ap (λ (s : FrameState). is_dirty s && eqb (frame_code s) (suc (suc n))) (frame_shown (suc (suc n)) (omega arith)) ∙ sym (ne_eqb (suc (suc n)) 0 (λ z. omega arith))

frame_tested : (f : ℕ) (l : List PageEntry) (t : List ℕ) (k n : ℕ) → get_or t k 0 ≡ mappings k l
    → (frame_sound f l k (frame_in n) && frame_kept k n) ≡ pick (ltb k f) (is_counted t k n) (is_unused k n)
unfolding frame_sound frame_kept is_counted is_unused
frame_tested f l t k n e = rw e (go (ltb k f))
  where
    go : (b : Bool) → (pick b (eqb (mappings k l) (pick (is_shown (frame_from n)) 1 0)) (is_dirty (frame_from n)) && eqb (frame_code (frame_from n)) n)
        ≡ pick b (leb n 2 && eqb (mappings k l) (pick (eqb n 2) 1 0)) (eqb n 0)
    go true = shown n (mappings k l)
    go false = dirty n

-- A list tested up to a number by one test and from there on by another.
two_parts : (P Q : ℕ → ℕ → Bool) (k : ℕ) (l : List ℕ) → k ≤ length l → each (λ i n. pick (ltb i k) (P i n) (Q i n)) 0 l ≡ (each P 0 (take k l) && each Q k (drop k l))
two_parts P Q k l h =
    let R : ℕ → ℕ → Bool = λ i n. pick (ltb i k) (P i n) (Q i n) in
    each_parts R k l h
    ∙ ap (λ b. b && each R k (drop k l))
    (each_same R P 0 (take k l) (λ i x q. let j : 0 + i < k = omega (arith, length-take-le k l h) in pick_yes (ltb (0 + i) k) (P (0 + i) x) (Q (0 + i) x) (lt-ltb (0 + i) k j)))
    ∙ ap (λ b. each P 0 (take k l) && b)
    (each_same R Q k (drop k l) (λ i x q. pick_no (ltb (k + i) k) (P (k + i) x) (Q (k + i) x) (le-ltb (k + i) k (omega arith))))

-- Pages that are unused map no frame.
mappings_append : (k : ℕ) (l m : List PageEntry) → mappings k (l ++ m) ≡ mappings k l + mappings k m
unfolding mappings
mappings_append k [] m = sym (zero-add (mappings k m))
mappings_append k (x ∷ l) m = rw (mappings_append k l m) (sym (add_assoc (pick (maps x.state k) 1 0) (mappings k l) (mappings k m)))

mappings_unused : (k n : ℕ) (l : List ℕ) → each is_unused n l ≡ true → mappings k (map page_in l) ≡ 0
unfolding mappings each is_unused page_from
mappings_unused k n [] e = refl
mappings_unused k n (x ∷ l) e =
    let z : x ≡ 0 = eqb-true x 0 (and_left (eqb x 0) _ e) in
    subst (λ (y : ℕ). mappings k (map page_in (y ∷ l)) ≡ 0) (sym z) (zero-add _ ∙ mappings_unused k (suc n) l (and_right (eqb x 0) _ e))

-- What the test asks first.
pub record Fit (v f : ℕ) (pages frames : List ℕ) : Type 0 where
  pub ranged : in_range v f ≡ true
  pub v_most : v ≤ length pages
  pub f_most : f ≤ length frames
  pub of_pages : length pages ≡ 256
  pub of_frames : length frames ≡ 128

pub fit : (v f : ℕ) (pages frames : List ℕ) (b : Bool) → b ≡ in_range v f → not (b && (eqb (length pages) 256 && eqb (length frames) 128)) ≡ false → Fit v f pages frames
fit v f pages frames b e n =
    let y = not-false (b && (eqb (length pages) 256 && eqb (length frames) 128)) n in
    let r : in_range v f ≡ true = sym e ∙ and_left b _ y in
    let z = and_right b (eqb (length pages) 256 && eqb (length frames) 128) y in
    let lp = eqb-true (length pages) 256 (and_left (eqb (length pages) 256) (eqb (length frames) 128) z) in
    let lf = eqb-true (length frames) 128 (and_right (eqb (length pages) 256) (eqb (length frames) 128) z) in
    let v_most = leb-true v 256 (and_right (ltb 0 v) (leb v 256) (and_left (ltb 0 v && leb v 256) (ltb 0 f && leb f 128) r)) in
    let f_most = leb-true f 128 (and_right (ltb 0 f) (leb f 128) (and_right (ltb 0 v && leb v 256) (ltb 0 f && leb f 128) r)) in
    record { ranged = r; v_most = omega arith; f_most = omega arith; of_pages = lp; of_frames = lf }

-- Numbers of other lengths, or V or F out of range.
pub unfit : (v f : ℕ) (pages frames : List ℕ) (b : Bool) → b ≡ in_range v f → not (b && (eqb (length pages) 256 && eqb (length frames) 128)) ≡ true → false ≡ layer_sound v f pages frames
unfolding layer_sound well_formed
unfit v f pages frames b e n =
    sym (rw (length-map pages page_in, length-map frames frame_in, ← e, not-true (b && (eqb (length pages) 256 && eqb (length frames) 128)) n))

module _ (v f : ℕ) (pages frames : List ℕ) (is : Fit v f pages frames) where
  pages_tested : (each (page_sound v f) 0 (map page_in pages) && each page_kept 0 pages) ≡ (each (shows_below f) 0 (take v pages) && each is_unused 0 (drop v pages))
  unfolding is_unused
  pages_tested =
      ap (λ b. b && each page_kept 0 pages) (each_map (page_sound v f) page_in 0 pages)
      ∙ each_and (λ p n. page_sound v f p (page_in n)) page_kept 0 pages
      ∙ each_same (λ p n. page_sound v f p (page_in n) && page_kept p n) (λ p n. pick (ltb p v) (shows_below f p n) (is_unused p n)) 0 pages (λ i x h. page_tested v f (0 + i) x (omega (arith, is)))
      ∙ two_parts (shows_below f) is_unused v pages is.v_most
      ∙ ap (λ b. each (shows_below f) 0 (take v pages) && b) (each_anywhere (λ n. eqb n 0) v 0 (drop v pages))

  module _ (t : List ℕ) (rest : each is_unused 0 (drop v pages) ≡ true) (tally : Tally t (map page_in (take v pages))) where
    tallied : Tally t (map page_in pages)
    tallied k h =
        tally k h
        ∙ sym (ap (λ l. mappings k (map page_in l)) (sym (take-append-drop v pages)) ∙ ap (mappings k) (map_append page_in (take v pages) (drop v pages))
        ∙ mappings_append k (map page_in (take v pages)) (map page_in (drop v pages))
        ∙ omega (arith, mappings_unused k 0 (drop v pages) rest))

    frames_tested : (each (frame_sound f (map page_in pages)) 0 (map frame_in frames) && each frame_kept 0 frames) ≡ (each (is_counted t) 0 (take f frames) && each is_unused 0 (drop f frames))
    unfolding is_unused
    frames_tested =
        let l = map page_in pages in
        ap (λ b. b && each frame_kept 0 frames) (each_map (frame_sound f l) frame_in 0 frames)
        ∙ each_and (λ k n. frame_sound f l k (frame_in n)) frame_kept 0 frames
        ∙ each_same (λ k n. frame_sound f l k (frame_in n) && frame_kept k n) (λ k n. pick (ltb k f) (is_counted t k n) (is_unused k n)) 0 frames
        (λ i x h. frame_tested f l t (0 + i) x (tallied (0 + i) (omega (arith, h, is))))
        ∙ two_parts (is_counted t) is_unused f frames is.f_most
        ∙ ap (λ b. each (is_counted t) 0 (take f frames) && b) (each_anywhere (λ n. eqb n 0) f 0 (drop f frames))

  -- The four loops of the test together.
  pub layer_tested : (t : List ℕ) (low idle counted spare : Bool)
      → low ≡ each (shows_below f) 0 (take v pages) → (low ≡ true → Tally t (map page_in (take v pages))) → idle ≡ each is_unused 0 (take (length pages - v) (drop v pages))
      → counted ≡ each (is_counted t) 0 (take f frames) → spare ≡ each is_unused 0 (take (length frames - f) (drop f frames))
      → ((low && idle) && (counted && spare)) ≡ layer_sound v f pages frames
  unfolding layer_sound well_formed
  layer_tested t low idle counted spare e tally i k j =
      let sound = each (page_sound v f) 0 (map page_in pages) in
      let kept = each page_kept 0 pages in
      let sound' = each (frame_sound f (map page_in pages)) 0 (map frame_in frames) in
      let kept' = each frame_kept 0 frames in
      let i' : idle ≡ each is_unused 0 (drop v pages) = i ∙ ap (each is_unused 0) (take_all (length pages - v) (drop v pages) (simp length-drop (omega arith))) in
      let j' : spare ≡ each is_unused 0 (drop f frames) = j ∙ ap (each is_unused 0) (take_all (length frames - f) (drop f frames) (simp length-drop (omega arith))) in
      sym (rw (is.ranged, length-map pages page_in, length-map frames frame_in, is.of_pages, is.of_frames)
      (cross sound sound' kept kept' ∙ ap (λ b. b && (sound' && kept')) (pages_tested ∙ ap (λ b. b && each is_unused 0 (drop v pages)) (sym e) ∙ ap (λ b. low && b) (sym i'))
      ∙ and_under (low && idle) (sound' && kept') (counted && spare)
      (λ h. frames_tested t (sym i' ∙ and_right low idle h) (tally (and_left low idle h)) ∙ ap (λ b. b && each is_unused 0 (drop f frames)) (sym k) ∙ ap (λ b. counted && b) (sym j'))))

-- The loops, one entry more.
pub each_fails : (P : ℕ → ℕ → Bool) (l : List ℕ) (i : ℕ) → i < length l → P i (get_or l i 0) ≡ false → false ≡ each P 0 l
each_fails P l i h e = go (each P 0 l) refl
  where
    go : (b : Bool) → each P 0 l ≡ b → false ≡ each P 0 l
    go true q = absurd (true≢false (sym (rw zero-add at (each_at P 0 l i 0 h q)) ∙ e))
    go false q = sym q

module _ (t pages : List ℕ) (p : ℕ) (h : p < length pages) (u : Tally t (take p (map page_in pages))) where
  entry : get_or (map page_in pages) p (page_in 0) ≡ page_in (get_or pages p 0)
  entry = get_or-map page_in pages p 0

  below : p < length (map page_in pages)
  below = rw (length-map pages page_in) h

  pub count_hit : (g : Frame) → page_from (get_or pages p 0) ≡ Mapped g → g.0 < 128 → length t ≡ 128
      → Tally (set t g.0 (get_or t g.0 0 + 1)) (take (p + 1) (map page_in pages))
  count_hit g e b s =
      tally_hit t (map page_in pages) p (page_in 0) g.0 below
      (sym (ap (λ (x : PageEntry). frame_number x.state) entry ∙ ap frame_number e)) b s u

  pub count_miss : 128 ≤ frame_number (page_from (get_or pages p 0)) → Tally t (take (p + 1) (map page_in pages))
  count_miss a = tally_miss t (map page_in pages) p (page_in 0) below (rw entry a) u

  pub count_most : (k : ℕ) → k < 128 → get_or t k 0 ≤ p
  count_most k q = omega (arith, u k q, mappings_le k (take p (map page_in pages)), length-take-le p (map page_in pages) (omega (arith, below)))

-- A number that is low enough shows a frame below 128.
pub shows_low : (n : ℕ) (g : Frame) → page_from n ≡ Mapped g → n < 130 → g.0 < 128
unfolding page_from
shows_low zero g e b = cc
shows_low (suc zero) g e b = cc
shows_low (suc (suc n)) g e b =
    let k : g.0 ≡ (suc (suc n) - 2) % 256 = ap frame_number (sym e ∙ page_shown (suc (suc n)) (omega arith)) in omega arith

-- A page that shows no frame.
pub shows_none : (s : PageState) → ((g : Frame) → s ≡ Mapped g → ⊥) → 128 ≤ frame_number s
shows_none Unmapped f = omega arith
shows_none Freed f = omega arith
shows_none (Mapped g) f = absurd (f g refl)

-- Every number is kept if and only if the list, read and written, is the same.
module _ {A : Type 0} (f : ℕ → A) (g : A → ℕ) where
  pub kept_list : (n : ℕ) (l : List ℕ) → each (λ i x. eqb (g (f x)) x) n l ≡ true → map g (map f l) ≡ l
  unfolding each
  kept_list n [] e = refl
  kept_list n (x ∷ l) e =
      ap (λ y. y ∷ map g (map f l)) (eqb-true (g (f x)) x (and_left (eqb (g (f x)) x) _ e)) ∙ ap (λ k. x ∷ k) (kept_list (suc n) l (and_right (eqb (g (f x)) x) _ e))

  pub list_kept : (n : ℕ) (l : List ℕ) → map g (map f l) ≡ l → each (λ i x. eqb (g (f x)) x) n l ≡ true
  unfolding each
  list_kept n [] e = refl
  list_kept n (x ∷ l) e = both (eqb (g (f x)) x) _ (eq-eqb (g (f x)) x cc) (list_kept (suc n) l cc)

-- What the test says, as facts, and the way back.
pub record Layered (v f : ℕ) (pages frames : List ℕ) : Type 0 where
  pub well : well_formed (layer_of v f pages frames) ≡ true
  pub pages_kept : map (λ e. page_code e.state) (map page_in pages) ≡ pages
  pub frames_kept : map (λ e. frame_code e.state) (map frame_in frames) ≡ frames

module _ (v f : ℕ) (pages frames : List ℕ) where
  pub layered : layer_sound v f pages frames ≡ true → Layered v f pages frames
  unfolding layer_sound page_kept frame_kept
  layered e =
      let w = well_formed (layer_of v f pages frames) in
      let p = each page_kept 0 pages in
      let k = each frame_kept 0 frames in
      let rest = and_right w (p && k) e in
      record {
        well = and_left w (p && k) e;
        pages_kept = kept_list page_in (λ (e : PageEntry). page_code e.state) 0 pages (and_left p k rest);
        frames_kept = kept_list frame_in (λ (e : FrameEntry). frame_code e.state) 0 frames (and_right p k rest);
      }

  pub layered_sound : Layered v f pages frames → layer_sound v f pages frames ≡ true
  unfolding layer_sound page_kept frame_kept
  layered_sound l =
      both (well_formed (layer_of v f pages frames)) (each page_kept 0 pages && each frame_kept 0 frames) l.well
      (both (each page_kept 0 pages) (each frame_kept 0 frames) (list_kept page_in (λ (e : PageEntry). page_code e.state) 0 pages l.pages_kept)
      (list_kept frame_in (λ (e : FrameEntry). frame_code e.state) 0 frames l.frames_kept))
