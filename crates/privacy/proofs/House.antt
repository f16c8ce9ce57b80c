-- One history in the house's time: which capabilities into the range there are, and that an effect keeps it so. Assumes nothing.
use Rattle.std.specs.Prelude.{Some}
use Prim.Native.Nat.{ℕ, ◌+◌, ◌*◌, ◌/◌, ◌<◌, ◌≤◌}
use native.Mathlib.Omega.{arith}
use mathlib.Core.Bool.{Bool, true, false, not, ◌&&◌, true≢false, false≢true}
use mathlib.Core.List.{List, [], ◌∷◌}
use mathlib.Core.Path.{◌≡◌, refl, sym, ap, subst, ◌∙◌}
use borrow.Author.Tests.{eqb-true, ltb-true, ltb-false, lt-ltb}
use lib.Dec.{eqb, ltb, leb}
use lib.ListN.{length, get_or}
use Rattle.capabilities.specs.declared.Range.{Range}
use Rattle.capabilities.specs.Capability.{base_of, length_of}
use Rattle.capabilities.specs.Death.{dies}
use Rattle.capabilities.specs.Lists.{pick}
use Rattle.capabilities.specs.Range.{inside}
use Rattle.capabilities.proofs.Choice.{and_left, and_right}
use Rattle.pages.specs.Pages.{FrameEntry}
use Rattle.pages.specs.Mapping.{lookup_of}
use Rattle.pages.proofs.Formed.{Sound}
use Rattle.sweep.specs.Sweep.{shown_at}
use Rattle.table.proofs.Cells.{inside_bounds, inside_made}
use Rattle.table.proofs.Truth.{both}
use Rattle.reservations.specs.Core.{Core}
use Rattle.reservations.specs.Revocation.{dying}
use Rattle.words.specs.declared.Slot.{Slot}
use Rattle.words.specs.Words.{slot, empty, register_of, mailbox_of, word_at, keep_tag, collected_mailbox}
use Rattle.machine.specs.Effects.{RegisterChange, keep_registers, put_register, collect_registers, MailboxChange, keep_mailboxes, put_mailbox, collect_mailboxes, MemoryChange, keep_memory, Write, write_words, clear_frame, sweep_cells, Effect}
use Rattle.machine.specs.Step.{registers_after, mailboxes_after, cells_after, tags_after}
use Rattle.histories.specs.Runs.{Machine}
use Rattle.histories.specs.Live.{Within}
use Rattle.histories.proofs.Between.{lent_as}
use Rattle.histories.proofs.Table.{Around}
use Rattle.histories.proofs.View.{put_each, collected_mailboxes, word_none}
use Rattle.privacy.specs.Rule.{into}
use Rattle.privacy.proofs.Fate.{after}
use Rattle.histories.proofs.Showing.{Came, shown_before, was_free}
use Rattle.privacy.proofs.Relate.{FreeZero, place_low, untouched}
use Rattle.privacy.proofs.Words.{put_register_lem, collect_register, written_by, word_by, Fits, word_after}

-- A cell of a capability that lies in the range: then it is into the range.
pub into_by : (r : Range) (c v : ℕ) → base_of c ≤ v → v < base_of c + length_of c → inside r v ≡ true → into r c ≡ true
unfolding into
into_by r c v a b e =
    let k = inside_bounds r v e in
    both (ltb 0 (length_of c) && ltb 0 r.length) (ltb (base_of c) (r.base + r.length) && ltb r.base (base_of c + length_of c))
    (both (ltb 0 (length_of c)) (ltb 0 r.length) (lt-ltb 0 (length_of c) (omega arith)) (lt-ltb 0 r.length (omega (arith, k.0, k.1))))
    (both (ltb (base_of c) (r.base + r.length)) (ltb r.base (base_of c + length_of c)) (lt-ltb (base_of c) (r.base + r.length) (omega (arith, k.0, k.1))) (lt-ltb r.base (base_of c + length_of c) (omega (arith, k.0, k.1))))

-- And it has such a cell, if it is into the range.
pub record Meets (r : Range) (c : ℕ) : Type 0 where
  pub some : 0 < length_of c
  pub wide : 0 < r.length
  pub before : base_of c < r.base + r.length
  pub past : r.base < base_of c + length_of c

pub meets : (r : Range) (c : ℕ) → into r c ≡ true → Meets r c
unfolding into
meets r c e =
    let a = and_left (ltb 0 (length_of c) && ltb 0 r.length) (ltb (base_of c) (r.base + r.length) && ltb r.base (base_of c + length_of c)) e in
    let b = and_right (ltb 0 (length_of c) && ltb 0 r.length) (ltb (base_of c) (r.base + r.length) && ltb r.base (base_of c + length_of c)) e in
    record {
      some = ltb-true 0 (length_of c) (and_left (ltb 0 (length_of c)) (ltb 0 r.length) a);
      wide = ltb-true 0 r.length (and_right (ltb 0 (length_of c)) (ltb 0 r.length) a);
      before = ltb-true (base_of c) (r.base + r.length) (and_left (ltb (base_of c) (r.base + r.length)) (ltb r.base (base_of c + length_of c)) b);
      past = ltb-true r.base (base_of c + length_of c) (and_right (ltb (base_of c) (r.base + r.length)) (ltb r.base (base_of c + length_of c)) b);
    }

pub met : (r : Range) (c : ℕ) → Meets r c → into r c ≡ true
unfolding into
met r c k =
    both (ltb 0 (length_of c) && ltb 0 r.length) (ltb (base_of c) (r.base + r.length) && ltb r.base (base_of c + length_of c))
    (both (ltb 0 (length_of c)) (ltb 0 r.length) (lt-ltb 0 (length_of c) k.some) (lt-ltb 0 r.length k.wide))
    (both (ltb (base_of c) (r.base + r.length)) (ltb r.base (base_of c + length_of c)) (lt-ltb (base_of c) (r.base + r.length) k.before) (lt-ltb r.base (base_of c + length_of c) k.past))

-- A capability is into the range exactly if one of its cells lies there.
pub into_cell : (r : Range) (c : ℕ) → into r c ≡ true → (v : ℕ) × (base_of c ≤ v) × (v < base_of c + length_of c) × (inside r v ≡ true)
into_cell r c e = go (ltb (base_of c) r.base) refl (meets r c e)
  where
    go : (b : Bool) → ltb (base_of c) r.base ≡ b → Meets r c → (v : ℕ) × (base_of c ≤ v) × (v < base_of c + length_of c) × (inside r v ≡ true)
    go true x k = let h : base_of c < r.base = ltb-true (base_of c) r.base x in (r.base, omega arith, k.past, inside_made r r.base (omega arith) (omega (arith, k.wide)))
    go false x k = let h : r.base ≤ base_of c = ltb-false (base_of c) r.base x in (base_of c, omega arith, omega (arith, k.some), inside_made r (base_of c) h k.before)

-- A word that is no capability into the range; and one that, if it is into the range, lies within it.
abbrev pub Apart : Range → Slot → Type 0
Apart r w = w.tag ≡ true → into r w.cell ≡ false

abbrev pub Tame : Range → Slot → Type 0
Tame r w = w.tag ≡ true → into r w.cell ≡ true → Within r w.cell

-- At the house's, the second; elsewhere, the first.
abbrev pub Good : Range → Bool → Slot → Type 0
Good r true w = Tame r w
Good r false w = Apart r w

pub apart_good : (r : Range) (b : Bool) (w : Slot) → Apart r w → Good r b w
apart_good r true w a = λ t e. absurd (true≢false (sym e ∙ a t))
apart_good r false w a = a

pub empty_apart : (r : Range) → Apart r empty
empty_apart r = λ t. absurd (false≢true t)

-- A word that lost its tag or nothing is as good as it was.
pub keep_good : (r : Range) (b : Bool) (w : Slot) (x : Bool) → Good r b w → Good r b (keep_tag w x)
keep_good r true w x g = λ t e. g (and_left w.tag x t) e
keep_good r false w x g = λ t. g (and_left w.tag x t)

pub drop_good : (r : Range) (b : Bool) (w : Slot) (x : Bool) → Good r b w → Good r b (slot w.cell (pick x false w.tag))
drop_good r b w true g = apart_good r b (slot w.cell false) (λ t. absurd (false≢true t))
drop_good r b w false g = g

pub collected_apart : (r : Range) (k : Core) (w : Slot) → Apart r w → Apart r (collected_mailbox k w)
collected_apart r k w a = go (w.tag && dying k w.cell)
  where
    go : (x : Bool) → Apart r (pick x empty w)
    go true = empty_apart r
    go false = a

-- H1 some lent reservation contains the range. H2 what is into the range lies within it. H3, H4, H5: only the house's
-- registers and Mapped cells of the range hold such; no register of another party, no mailbox, no Mapped cell outside does.
pub record Housed (house : ℕ) (r : Range) (m : Machine) : Type 0 where
  pub some : 0 < r.length
  pub around : Around m.state.core.table (lent_as r)
  pub registers : (p d : ℕ) → Good r (eqb p house) (register_of m.state.registers p d)
  pub mailboxes : (p : ℕ) → Apart r (mailbox_of m.state.mailboxes p)
  pub words : (v at : ℕ) → lookup_of m.state.core.pages v ≡ Some at → Good r (inside r v) (word_at m.cells m.tags at)

-- What an effect must not bring about.
abbrev pub RegisterSafe : ℕ → Range → Machine → RegisterChange → Type 0
RegisterSafe house r m keep_registers = Unit {0}
RegisterSafe house r m (put_register p d w) = (d < 8) × Good r (eqb p house) w
RegisterSafe house r m collect_registers = Unit {0}

abbrev pub MailboxSafe : Range → MailboxChange → Type 0
MailboxSafe r keep_mailboxes = Unit {0}
MailboxSafe r (put_mailbox p w) = Apart r w
MailboxSafe r collect_mailboxes = Unit {0}

abbrev pub WritesSafe : Range → Machine → List Write → Type 0
WritesSafe r m [] = Unit {0}
WritesSafe r m (x ∷ writes) = ((v : ℕ) → lookup_of m.state.core.pages v ≡ Some x.at → Good r (inside r v) x.word) × WritesSafe r m writes

abbrev pub MemorySafe : Range → Machine → MemoryChange → Type 0
MemorySafe r m keep_memory = Unit {0}
MemorySafe r m (write_words writes) = WritesSafe r m writes
MemorySafe r m (clear_frame f) = Unit {0}
MemorySafe r m (sweep_cells q from upto) = Unit {0}

registers_good : (house : ℕ) (r : Range) (m : Machine) (x : RegisterChange) → Housed house r m → RegisterSafe house r m x
    → (p d : ℕ) → Good r (eqb p house) (register_of (registers_after x m.state) p d)
unfolding registers_after
registers_good house r m keep_registers h s = h.registers
registers_good house r m (put_register p d w) h s = put_register_lem (λ q y. Good r (eqb q house) y) m.state.registers p d w s.0 s.1 h.registers
registers_good house r m collect_registers h s =
    λ p d. subst (Good r (eqb p house)) (sym (collect_register m.state.core m.state.registers p d))
    (keep_good r (eqb p house) (register_of m.state.registers p d) (not (dying m.state.core (register_of m.state.registers p d).cell)) (h.registers p d))

mailboxes_apart : (r : Range) (m : Machine) (x : MailboxChange) → ((p : ℕ) → Apart r (mailbox_of m.state.mailboxes p)) → MailboxSafe r x
    → (p : ℕ) → Apart r (mailbox_of (mailboxes_after x m.state) p)
unfolding mailboxes_after mailbox_of
mailboxes_apart r m keep_mailboxes h s = h
mailboxes_apart r m (put_mailbox q w) h s = put_each (Apart r) m.state.mailboxes q w s h
mailboxes_apart r m collect_mailboxes h s =
    λ p. subst (Apart r) (sym (collected_mailboxes m.state.core m.state.mailboxes p)) (collected_apart r m.state.core (get_or m.state.mailboxes p empty) (h p))

writes_good : (r : Range) (m : Machine) (writes : List Write) (v at : ℕ) (w : Slot) → lookup_of m.state.core.pages v ≡ Some at → WritesSafe r m writes → Good r (inside r v) w
    → Good r (inside r v) (written_by writes at w)
writes_good r m [] v at w q s g = g
writes_good r m (x ∷ writes) v at w q s g = writes_good r m writes v at (pick (eqb at x.at) x.word w) q s.1 (go (eqb at x.at) refl)
  where
    go : (b : Bool) → eqb at x.at ≡ b → Good r (inside r v) (pick b x.word w)
    go true e = s.0 v (q ∙ ap Some (eqb-true at x.at e))
    go false e = g

word_good : (r : Range) (m : Machine) (x : MemoryChange) (frames : List FrameEntry) (v at : ℕ) (w : Slot) → lookup_of m.state.core.pages v ≡ Some at → MemorySafe r m x → Good r (inside r v) w → Good r (inside r v) (word_by x frames at w)
word_good r m keep_memory frames v at w q s g = g
word_good r m (write_words writes) frames v at w q s g = writes_good r m writes v at w q s g
word_good r m (clear_frame f) frames v at w q s g = go (eqb (at / 16) f.0)
  where
    go : (b : Bool) → Good r (inside r v) (pick b empty w)
    go true = apart_good r (inside r v) empty (empty_apart r)
    go false = g
word_good r m (sweep_cells c from upto) frames v at w q s g =
    drop_good r (inside r v) w ((leb from at && ltb at upto) && (shown_at frames (at / 16) && dies c w.cell)) g

module _ (house : ℕ) (r : Range) (m : Machine) (e : Effect) (h : Housed house r m) (ok : Sound m.state.core.pages)
    (size-cells : length m.cells ≡ 16 * m.state.core.pages.f) (size-tags : length m.tags ≡ 16 * m.state.core.pages.f)
    (fits : Fits e.memory (16 * m.state.core.pages.f)) (zero : FreeZero m)
    (from : (v at : ℕ) → lookup_of e.core.pages v ≡ Some at → Came m.state.core.pages e.memory v at)
    (table : Around e.core.table (lent_as r))
    (s₁ : RegisterSafe house r m e.registers) (s₂ : MailboxSafe r e.mailboxes) (s₃ : MemorySafe r m e.memory) where
  word : (v at : ℕ) → Came m.state.core.pages e.memory v at
      → Good r (inside r v) (word_at (cells_after e.memory m.cells) (tags_after e.memory m.state.core m.cells m.tags) at)
  word v at (shown_before q) =
      let low = place_low m.state.core.pages ok v at q in
      subst (Good r (inside r v)) (sym (word_after e.memory m.state.core m.cells m.tags at (omega arith) (size-tags ∙ sym size-cells) (subst (Fits e.memory) (sym size-cells) fits)))
      (word_good r m e.memory m.state.core.pages.frames v at (word_at m.cells m.tags at) q s₃ (h.words v at q))
  word v at (was_free k i free b place keep) =
      let x = zero k i free b in
      subst (Good r (inside r v))
      (sym (untouched m e.memory at keep ∙ word_none m.cells m.tags at (ap (λ j. get_or m.cells j 0) place ∙ x.0) (ap (λ j. get_or m.tags j 0) place ∙ x.1)))
      (apart_good r (inside r v) empty (empty_apart r))

  pub effect_housed : Housed house r (after m e)
  unfolding after
  effect_housed =
      record {
        some = h.some;
        around = table;
        registers = registers_good house r m e.registers h s₁;
        mailboxes = mailboxes_apart r m e.mailboxes h.mailboxes s₂;
        words = λ v at q. word v at (from v at q);
      }
