-- What well-formed arrays are known by: their lengths, and what stands in an entry of the state read. Assumes nothing.
use Prim.Native.Nat.{ℕ, ◌*◌, ◌≤◌}
use mathlib.Core.Bool.{true}
use mathlib.Core.List.{List}
use mathlib.Core.Path.{◌≡◌, sym, ap, ◌∙◌}
use lib.ListN.{length, get_or, get_or-map}
use Rattle.pages.specs.Pages.{PageEntry}
use Rattle.pages.specs.Pages.{FrameEntry}
use Rattle.pages.specs.Layer.{page_at, frame_at}
use Rattle.table.proofs.Sound as sound
use Rattle.reservations.proofs.CoreKept.{core_facts}
use Rattle.claims.specs.Numbers.{sound_in}
use Rattle.claims.proofs.RoundTrip.{long_numbers, long_counts, test_passes}
use Rattle.words.specs.declared.Slot.{Slot}
use Rattle.words.specs.Words.{byte_of}
use Rattle.machine.proofs.Keeps.{facts, arrays}
use Rattle.arrays.specs.declared.Numbers.{Numbers}
use Rattle.arrays.specs.declared.Arrays.{Arrays}
use Rattle.pages.specs.Numbers.{page_from, frame_from}
use Rattle.table.specs.Numbers.{row_from}
use Rattle.pages.specs.Numbers.{page_in, frame_in}
use Rattle.arrays.specs.Reading.{core_of, state_of, arrays_of, Formed}
use Rattle.arrays.proofs.Lists.{length_map}

pub record Lengths (a : Arrays) : Type 0 where
  pub words : length a.words ≡ 64
  pub marks : length a.marks ≡ 64
  pub mail : length a.mail ≡ 8
  pub flags : length a.flags ≡ 8
  pub rows : length a.rows ≡ 64
  pub pages : length a.pages ≡ 256
  pub frames : length a.frames ≡ 128
  pub principals : length a.principals ≡ 32
  pub counts : length a.counts ≡ 8192
  pub count : a.nums.count ≤ 64

pub lengths : (a : Arrays) → Formed a → Lengths a
unfolding state_of arrays_of core_of
lengths a f =
    let l = arrays (state_of a) f.well in
    let ok = (facts (state_of a) f.well).claims in
    let c = core_facts (state_of a).core (facts (state_of a) f.well).core in
    record {
      words = ap (λ b. length b.words) (sym f.kept) ∙ length_map (λ (w : Slot). w.cell) (state_of a).registers ∙ l.of_registers;
      marks = ap (λ b. length b.marks) (sym f.kept) ∙ length_map (λ (w : Slot). byte_of w.tag) (state_of a).registers ∙ l.of_registers;
      mail = ap (λ b. length b.mail) (sym f.kept) ∙ length_map (λ (w : Slot). w.cell) (state_of a).mailboxes ∙ l.of_mailboxes;
      flags = ap (λ b. length b.flags) (sym f.kept) ∙ length_map (λ (w : Slot). byte_of w.tag) (state_of a).mailboxes ∙ l.of_mailboxes;
      rows = sym (length_map row_from a.rows) ∙ l.of_rows;
      pages = sym (length_map page_in a.pages) ∙ l.of_pages;
      frames = sym (length_map frame_in a.frames) ∙ l.of_frames;
      principals = ap (λ b. length b.principals) (sym f.kept) ∙ long_numbers _ (state_of a).core.claims ok;
      counts = ap (λ b. length b.counts) (sym f.kept) ∙ long_counts _ (state_of a).core.claims ok;
      count = (sound.sound (16 * (state_of a).core.pages.v) (state_of a).core.table c.rows).most;
    }

-- The claims pass the test of their layer.
pub claims_pass : (a : Arrays) → Formed a → sound_in a.nums.v a.principals a.counts ≡ true
unfolding state_of arrays_of core_of
claims_pass a f =
    test_passes a.nums.v a.principals a.counts (ap (λ (b : Arrays). b.principals) f.kept) (ap (λ (b : Arrays). b.counts) f.kept)
    (facts (state_of a) f.well).claims

-- What stands in an entry.
module _ (n : Numbers) (rows pages frames principals counts : List ℕ) where
  pub page_read : (p : ℕ) → page_at (core_of n rows pages frames principals counts).pages p ≡ page_from (get_or pages p 0)
  unfolding page_at core_of page_from
  page_read p = ap (λ (e : PageEntry). e.state) (get_or-map page_in pages p 0)

  pub frame_read : (k : ℕ) → frame_at (core_of n rows pages frames principals counts).pages k ≡ frame_from (get_or frames k 0)
  unfolding frame_at core_of frame_from
  frame_read k = ap (λ (e : FrameEntry). e.state) (get_or-map frame_in frames k 0)
