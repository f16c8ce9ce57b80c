-- The test of arrays: it holds if and only if they are well formed. Between the two stand the facts that are tested, part by part.
-- Assumes nothing.
use Prim.Native.Nat.{ℕ, ◌*◌, ◌≤◌}
use native.Mathlib.Omega.{arith}
use mathlib.Core.Bool.{Bool, true, false, ◌&&◌, true≢false}
use mathlib.Core.List.{List, map}
use mathlib.Core.Path.{◌≡◌, refl, sym, ap, subst, ◌∙◌}
use lib.ListN.{length}
use lib.Dec.{eqb, leb}
use borrow.Author.Tests.{eqb-true, eq-eqb, leb-true, le-leb}
use Rattle.capabilities.specs.Lists.{each}
use Rattle.capabilities.proofs.Choice.{and_left, and_right}
use Rattle.pages.specs.Pages.{PageEntry}
use Rattle.pages.specs.Pages.{FrameEntry}
use Rattle.pages.specs.Layer.{well_formed}
use Rattle.pages.proofs.Testing.{kept_list, list_kept}
use Rattle.pages.specs.Numbers.{page_code, frame_code, page_in, frame_in, layer_of, page_kept, frame_kept, layer_sound}
use Rattle.table.specs.Tiling.{table_sound}
use Rattle.table.proofs.Truth.{both}
use Rattle.table.specs.Numbers.{row_from, row_code, table_of, all_written}
use Rattle.claims.specs.Sound.{claims_sound}
use Rattle.claims.specs.Numbers.{claims_in, sized_in, kept_in, sound_in}
use Rattle.claims.proofs.RoundTrip.{kept_numbers, kept_counts}
use Rattle.table.specs.Sound.{whole_table, sound_numbers}
use Rattle.table.proofs.RoundTrip.{reads_sized, numbers_back, rows_written}
use Rattle.reservations.specs.Revocation.{revoked, revocation_sound}
use Rattle.reservations.proofs.CoreKept.{core_facts, core_made}
use Rattle.words.specs.Words.{mailbox_sound}
use Rattle.words.specs.Lent.{slots_of, tag_bytes, bit}
use Rattle.words.proofs.Lent.{slots_length, cells_kept, bytes_kept, bytes_bits}
use Rattle.machine.specs.Formed as rules
use Rattle.machine.proofs.Keeps.{facts, formed}
use Rattle.arrays.specs.declared.Arrays.{Arrays}
use Rattle.arrays.specs.Reading.{core_of, numbers_of, state_of, arrays_of, Formed}
use Rattle.arrays.proofs.Facts.{lengths, claims_pass}
use Rattle.arrays.proofs.Writing.{same_arrays}
use Rattle.formed.specs.Test.{sized, canonical, cached, formed_of, Tested, Passing}

pub record Parts (a : Arrays) : Type 0 where
  pub words : length a.words ≡ 64
  pub marks : length a.marks ≡ 64
  pub mail : length a.mail ≡ 8
  pub flags : length a.flags ≡ 8
  pub layer : layer_sound a.nums.v a.nums.f a.pages a.frames ≡ true
  pub table : sound_numbers (16 * a.nums.v) a.rows a.nums.count ≡ true
  pub place : a.nums.place ≤ 16 * a.nums.f
  pub revocation : cached a.nums (core_of a.nums a.rows a.pages a.frames a.principals a.counts) && revocation_sound (core_of a.nums a.rows a.pages a.frames a.principals a.counts) ≡ true
  pub mark_bits : each bit 0 a.marks ≡ true
  pub flag_bits : each bit 0 a.flags ≡ true
  pub mailboxes : each mailbox_sound 0 (slots_of a.mail a.flags) ≡ true
  pub claims : sound_in a.nums.v a.principals a.counts ≡ true

-- The claims' test, part by part.
record ClaimParts (v : ℕ) (principals counts : List ℕ) : Type 0 where
  sized : sized_in principals counts ≡ true
  kept : kept_in principals counts ≡ true
  sound : claims_sound v (claims_in principals counts) ≡ true

claim_parts : (v : ℕ) (principals counts : List ℕ) → sound_in v principals counts ≡ true → ClaimParts v principals counts
unfolding sound_in
claim_parts v principals counts e =
    let rest = and_right (sized_in principals counts) _ e in
    record {
      sized = and_left (sized_in principals counts) _ e;
      kept = and_left (kept_in principals counts) _ rest;
      sound = and_right (kept_in principals counts) _ rest;
    }

claims_made : (v : ℕ) (principals counts : List ℕ) → ClaimParts v principals counts → sound_in v principals counts ≡ true
unfolding sound_in
claims_made v principals counts p = both (sized_in principals counts) _ p.sized (both (kept_in principals counts) _ p.kept p.sound)

-- Well-formed arrays have all of the parts.
module _ (a : Arrays) (f : Formed a) where
  kept_marks : tag_bytes (slots_of a.words a.marks) ≡ a.marks
  unfolding arrays_of state_of
  kept_marks = ap (λ (b : Arrays). b.marks) f.kept

  kept_flags : tag_bytes (slots_of a.mail a.flags) ≡ a.flags
  unfolding arrays_of state_of
  kept_flags = ap (λ (b : Arrays). b.flags) f.kept

  kept_rows : map row_code (map row_from a.rows) ≡ a.rows
  unfolding arrays_of state_of core_of
  kept_rows = ap (λ (b : Arrays). b.rows) f.kept

  kept_pages : map (λ (x : PageEntry). page_code x.state) (map page_in a.pages) ≡ a.pages
  unfolding arrays_of state_of core_of
  kept_pages = ap (λ (b : Arrays). b.pages) f.kept

  kept_frames : map (λ (x : FrameEntry). frame_code x.state) (map frame_in a.frames) ≡ a.frames
  unfolding arrays_of state_of core_of
  kept_frames = ap (λ (b : Arrays). b.frames) f.kept

  kept_base : a.nums.base ≡ (revoked (core_of a.nums a.rows a.pages a.frames a.principals a.counts)).base
  unfolding arrays_of state_of numbers_of
  kept_base = sym (ap (λ (b : Arrays). b.nums.base) f.kept)

  kept_length : a.nums.length ≡ (revoked (core_of a.nums a.rows a.pages a.frames a.principals a.counts)).length
  unfolding arrays_of state_of numbers_of
  kept_length = sym (ap (λ (b : Arrays). b.nums.length) f.kept)

  pub parts : Parts a
  unfolding state_of core_of layer_sound sound_numbers page_kept frame_kept
  parts =
      let l = lengths a f in
      let s = facts (state_of a) f.well in
      let c = core_facts (core_of a.nums a.rows a.pages a.frames a.principals a.counts) s.core in
      let n = a.nums in
      let k = core_of a.nums a.rows a.pages a.frames a.principals a.counts in
      record {
        words = l.words;
        marks = l.marks;
        mail = l.mail;
        flags = l.flags;
        layer = both (well_formed (layer_of n.v n.f a.pages a.frames)) _ c.layer
            (both (each page_kept 0 a.pages) _ (list_kept page_in (λ (x : PageEntry). page_code x.state) 0 a.pages kept_pages)
            (list_kept frame_in (λ (x : FrameEntry). frame_code x.state) 0 a.frames kept_frames));
        table = both (whole_table (16 * n.v) (table_of a.rows n.count)) _ (both (table_sound (16 * n.v) (table_of a.rows n.count)) _ c.rows s.takers)
            (subst (λ (x : List ℕ). all_written x ≡ true) kept_rows (rows_written (map row_from a.rows) (reads_sized a.rows)));
        place = c.place;
        revocation = both (cached n k) _ (both (eqb n.base (revoked k).base) _ (eq-eqb n.base (revoked k).base kept_base) (eq-eqb n.length (revoked k).length kept_length)) c.revocation;
        mark_bits = subst (λ (x : List ℕ). each bit 0 x ≡ true) kept_marks (bytes_bits 0 (slots_of a.words a.marks));
        flag_bits = subst (λ (x : List ℕ). each bit 0 x ≡ true) kept_flags (bytes_bits 0 (slots_of a.mail a.flags));
        mailboxes = s.mailboxes;
        claims = claims_pass a f;
      }

-- Arrays that have all of the parts are well formed.
module _ (a : Arrays) (p : Parts a) where
  kept : arrays_of (state_of a) ≡ a
  unfolding arrays_of state_of core_of numbers_of layer_sound sound_numbers page_kept frame_kept
  kept =
      let n = a.nums in
      let k = core_of a.nums a.rows a.pages a.frames a.principals a.counts in
      let written = and_right (well_formed (layer_of n.v n.f a.pages a.frames)) _ p.layer in
      let cache = and_left (cached n k) _ p.revocation in
      let lw = p.words ∙ sym p.marks in
      let lm = p.mail ∙ sym p.flags in
      let claims = claim_parts n.v a.principals a.counts p.claims in
      same_arrays (sym (eqb-true n.base (revoked k).base (and_left (eqb n.base (revoked k).base) _ cache)))
      (sym (eqb-true n.length (revoked k).length (and_right (eqb n.base (revoked k).base) _ cache)))
      (cells_kept a.words a.marks lw) (bytes_kept 0 a.words a.marks lw p.mark_bits)
      (cells_kept a.mail a.flags lm) (bytes_kept 0 a.mail a.flags lm p.flag_bits)
      (numbers_back a.rows n.count (and_right (whole_table (16 * n.v) (table_of a.rows n.count)) _ p.table))
      (kept_list page_in (λ (x : PageEntry). page_code x.state) 0 a.pages (and_left (each page_kept 0 a.pages) _ written))
      (kept_list frame_in (λ (x : FrameEntry). frame_code x.state) 0 a.frames (and_right (each page_kept 0 a.pages) _ written))
      (kept_numbers a.principals a.counts claims.kept) (kept_counts a.principals a.counts claims.sized claims.kept)

  well : rules.well_formed (state_of a) ≡ true
  unfolding state_of core_of layer_sound sound_numbers
  well =
      let n = a.nums in
      let k = core_of a.nums a.rows a.pages a.frames a.principals a.counts in
      let t = table_of a.rows n.count in
      formed (state_of a)
      (record {
        core = core_made k (and_left (well_formed (layer_of n.v n.f a.pages a.frames)) _ p.layer)
            (and_left (table_sound (16 * n.v) t) _ (and_left (whole_table (16 * n.v) t) _ p.table)) p.place (and_right (cached n k) _ p.revocation);
        mailboxes = p.mailboxes;
        of_registers = omega (arith, slots_length a.words a.marks, p.words, p.marks);
        of_mailboxes = omega (arith, slots_length a.mail a.flags, p.mail, p.flags);
        takers = and_right (table_sound (16 * n.v) t) _ (and_left (whole_table (16 * n.v) t) _ p.table);
        claims = (claim_parts n.v a.principals a.counts p.claims).sound;
      })

  pub whole : Formed a
  whole = record { well = well; kept = kept }

-- The test and the parts.
module _ (a : Arrays) where
  holds : formed_of a ≡ true → Formed a
  unfolding formed_of state_of core_of
  holds e =
      let n = a.nums in
      let k = core_of a.nums a.rows a.pages a.frames a.principals a.counts in
      let b1 = eqb (length a.words) 64 in
      let b2 = eqb (length a.marks) 64 in
      let b3 = eqb (length a.mail) 8 in
      let b4 = eqb (length a.flags) 8 in
      let b5 = eqb (length a.rows) 64 && (eqb (length a.pages) 256 && eqb (length a.frames) 128) in
      let b6 = sized_in a.principals a.counts in
      let size = and_left ((b1 && b2) && (b3 && b4)) (b5 && b6) (and_left (sized a) _ e) in
      let many = and_right b5 b6 (and_right ((b1 && b2) && (b3 && b4)) (b5 && b6) (and_left (sized a) _ e)) in
      let one = and_left (b1 && b2) (b3 && b4) size in
      let two = and_right (b1 && b2) (b3 && b4) size in
      let rest = and_right (sized a) _ e in
      let all = and_left (canonical a) _ rest in
      let still = kept_in a.principals a.counts in
      let words = (each bit 0 a.marks && each bit 0 a.flags) && (all_written a.rows && (each page_kept 0 a.pages && each frame_kept 0 a.frames)) in
      let written = and_left words still all in
      let tags = and_left (each bit 0 a.marks && each bit 0 a.flags) _ written in
      let numbers = and_right (each bit 0 a.marks && each bit 0 a.flags) _ written in
      let more = and_right (canonical a) _ rest in
      let s = facts (state_of a) (and_right (cached n k) _ more) in
      let c = core_facts k s.core in
      whole a
      (record {
        words = eqb-true (length a.words) 64 (and_left b1 b2 one);
        marks = eqb-true (length a.marks) 64 (and_right b1 b2 one);
        mail = eqb-true (length a.mail) 8 (and_left b3 b4 two);
        flags = eqb-true (length a.flags) 8 (and_right b3 b4 two);
        layer = unfold layer_sound in both (well_formed (layer_of n.v n.f a.pages a.frames)) _ c.layer (and_right (all_written a.rows) _ numbers);
        table = unfold sound_numbers in both (whole_table (16 * n.v) (table_of a.rows n.count)) _ (both (table_sound (16 * n.v) (table_of a.rows n.count)) _ c.rows s.takers) (and_left (all_written a.rows) _ numbers);
        place = c.place;
        revocation = both (cached n k) _ (and_left (cached n k) _ more) c.revocation;
        mark_bits = and_left (each bit 0 a.marks) _ tags;
        flag_bits = and_right (each bit 0 a.marks) _ tags;
        mailboxes = s.mailboxes;
        claims = claims_made n.v a.principals a.counts (record { sized = many; kept = and_right words still all; sound = s.claims });
      })

  passes : Parts a → formed_of a ≡ true
  unfolding formed_of state_of core_of layer_sound sound_numbers
  passes p =
      let n = a.nums in
      let k = core_of a.nums a.rows a.pages a.frames a.principals a.counts in
      let f = whole a p in
      let l = lengths a f in
      let claims = claim_parts n.v a.principals a.counts p.claims in
      both (sized a) _
      (both ((eqb (length a.words) 64 && eqb (length a.marks) 64) && (eqb (length a.mail) 8 && eqb (length a.flags) 8)) _
      (both (eqb (length a.words) 64 && eqb (length a.marks) 64) _ (both (eqb (length a.words) 64) _ (eq-eqb (length a.words) 64 l.words) (eq-eqb (length a.marks) 64 l.marks))
      (both (eqb (length a.mail) 8) _ (eq-eqb (length a.mail) 8 l.mail) (eq-eqb (length a.flags) 8 l.flags)))
      (both (eqb (length a.rows) 64 && (eqb (length a.pages) 256 && eqb (length a.frames) 128)) (sized_in a.principals a.counts)
      (both (eqb (length a.rows) 64) _ (eq-eqb (length a.rows) 64 l.rows) (both (eqb (length a.pages) 256) _ (eq-eqb (length a.pages) 256 l.pages) (eq-eqb (length a.frames) 128 l.frames))) claims.sized))
      (both (canonical a) _
      (both ((each bit 0 a.marks && each bit 0 a.flags) && (all_written a.rows && (each page_kept 0 a.pages && each frame_kept 0 a.frames))) (kept_in a.principals a.counts)
      (both (each bit 0 a.marks && each bit 0 a.flags) _ (both (each bit 0 a.marks) _ p.mark_bits p.flag_bits)
      (both (all_written a.rows) _ (and_right (whole_table (16 * n.v) (table_of a.rows n.count)) _ p.table) (and_right (well_formed (layer_of n.v n.f a.pages a.frames)) _ p.layer))) claims.kept)
      (both (cached n k) _ (and_left (cached n k) _ p.revocation) f.well))

  -- What holds if and only if all of the parts do is the test.
  pub by_parts : (b : Bool) → (b ≡ true → Parts a) → (Parts a → b ≡ true) → b ≡ formed_of a
  by_parts b there back = go b refl (formed_of a) refl
    where
      go : (x : Bool) → b ≡ x → (y : Bool) → formed_of a ≡ y → b ≡ formed_of a
      go true e y d = e ∙ sym (passes (there e))
      go false e false d = e ∙ sym d
      go false e true d = absurd (true≢false (sym (back (parts a (holds d))) ∙ e))

-- Well-formed arrays pass.
pub tested : Tested
tested a e = holds a e

pub passing : Passing
passing a f = passes a (parts a f)

-- The test in the code's order: the lengths of registers and mailboxes and the page layer, then the rest.
module _ (a : Arrays) where
  abbrev pub lengths_fit : Bool
  lengths_fit = (eqb (length a.words) 64 && eqb (length a.marks) 64) && (eqb (length a.mail) 8 && eqb (length a.flags) 8)

  abbrev pub front : Bool
  front = lengths_fit && layer_sound a.nums.v a.nums.f a.pages a.frames

  abbrev pub inside : Bool
  inside =
      (sound_numbers (16 * a.nums.v) a.rows a.nums.count && leb a.nums.place (16 * a.nums.f))
      && ((cached a.nums (core_of a.nums a.rows a.pages a.frames a.principals a.counts) && revocation_sound (core_of a.nums a.rows a.pages a.frames a.principals a.counts))
      && ((each bit 0 a.marks && each bit 0 a.flags) && each mailbox_sound 0 (slots_of a.mail a.flags)))

  abbrev pub back : Bool
  back = inside && sound_in a.nums.v a.principals a.counts

  front_holds : Parts a → front ≡ true
  front_holds p =
      both lengths_fit (layer_sound a.nums.v a.nums.f a.pages a.frames)
      (both (eqb (length a.words) 64 && eqb (length a.marks) 64) _ (both (eqb (length a.words) 64) _ (eq-eqb (length a.words) 64 p.words) (eq-eqb (length a.marks) 64 p.marks))
      (both (eqb (length a.mail) 8) _ (eq-eqb (length a.mail) 8 p.mail) (eq-eqb (length a.flags) 8 p.flags))) p.layer

  back_holds : Parts a → back ≡ true
  back_holds p =
      both inside (sound_in a.nums.v a.principals a.counts)
      (both (sound_numbers (16 * a.nums.v) a.rows a.nums.count && leb a.nums.place (16 * a.nums.f)) _
      (both (sound_numbers (16 * a.nums.v) a.rows a.nums.count) _ p.table (le-leb a.nums.place (16 * a.nums.f) p.place))
      (both (cached a.nums (core_of a.nums a.rows a.pages a.frames a.principals a.counts) && revocation_sound (core_of a.nums a.rows a.pages a.frames a.principals a.counts)) _ p.revocation
      (both (each bit 0 a.marks && each bit 0 a.flags) _ (both (each bit 0 a.marks) _ p.mark_bits p.flag_bits) p.mailboxes))) p.claims

  all_parts : front ≡ true → back ≡ true → Parts a
  all_parts e d =
      let size = and_left lengths_fit _ e in
      let one = and_left (eqb (length a.words) 64 && eqb (length a.marks) 64) _ size in
      let two = and_right (eqb (length a.words) 64 && eqb (length a.marks) 64) _ size in
      let most = and_left inside _ d in
      let table = and_left (sound_numbers (16 * a.nums.v) a.rows a.nums.count && leb a.nums.place (16 * a.nums.f)) _ most in
      let rest = and_right (sound_numbers (16 * a.nums.v) a.rows a.nums.count && leb a.nums.place (16 * a.nums.f)) _ most in
      let run = cached a.nums (core_of a.nums a.rows a.pages a.frames a.principals a.counts) && revocation_sound (core_of a.nums a.rows a.pages a.frames a.principals a.counts) in
      let tags = and_right run _ rest in
      let bits = and_left (each bit 0 a.marks && each bit 0 a.flags) _ tags in
      record {
        words = eqb-true (length a.words) 64 (and_left (eqb (length a.words) 64) _ one);
        marks = eqb-true (length a.marks) 64 (and_right (eqb (length a.words) 64) _ one);
        mail = eqb-true (length a.mail) 8 (and_left (eqb (length a.mail) 8) _ two);
        flags = eqb-true (length a.flags) 8 (and_right (eqb (length a.mail) 8) _ two);
        layer = and_right lengths_fit _ e;
        table = and_left (sound_numbers (16 * a.nums.v) a.rows a.nums.count) _ table;
        place = leb-true a.nums.place (16 * a.nums.f) (and_right (sound_numbers (16 * a.nums.v) a.rows a.nums.count) _ table);
        revocation = and_left run _ rest;
        mark_bits = and_left (each bit 0 a.marks) _ bits;
        flag_bits = and_right (each bit 0 a.marks) _ bits;
        mailboxes = and_right (each bit 0 a.marks && each bit 0 a.flags) _ tags;
        claims = and_right inside _ d;
      }

  pub front_fails : front ≡ false → false ≡ formed_of a
  front_fails e = by_parts a false (λ z. absurd (true≢false (sym z))) (λ p. absurd (true≢false (sym (front_holds p) ∙ e)))

  pub back_decides : front ≡ true → (b : Bool) → b ≡ back → b ≡ formed_of a
  back_decides e b d = by_parts a b (λ z. all_parts e (sym d ∙ z)) (λ p. d ∙ back_holds p)
