-- Two histories: what is equal in both, and that the same effect keeps it so. Assumes nothing.
use Rattle.std.specs.Prelude.{Option, Some, None}
use Prim.Native.Nat.{ℕ, ◌+◌, ◌*◌, ◌<◌}
use native.Mathlib.Omega.{arith}
use mathlib.Core.Bool.{false}
use mathlib.Core.List.{map}
use mathlib.Core.Path.{◌≡◌, refl, sym, ap, subst, ◌∙◌}
use lib.ListN.{length, get_or, set, length-set, length-map}
use Rattle.pages.specs.declared.FrameState.TheVariants.{Free}
use Rattle.pages.specs.Pages.{Pages}
use Rattle.pages.specs.Layer.{frame_at}
use Rattle.pages.specs.Mapping.{lookup_of}
use Rattle.pages.proofs.Formed.{Sound}
use Rattle.words.specs.Words.{register_of, mailbox_of, word_at, collected_register, collected_mailbox}
use Rattle.machine.specs.Effects.{RegisterChange, keep_registers, put_register, collect_registers, MailboxChange, keep_mailboxes, put_mailbox, collect_mailboxes, MemoryChange, keep_memory, Effect}
use Rattle.machine.specs.Step.{registers_after, mailboxes_after, cells_after, tags_after}
use Rattle.histories.specs.Runs.{Machine}
use Rattle.histories.proofs.View.{seen, seen_low, word_none}
use Rattle.privacy.specs.Rule.{Time, hidden, shown, sight_at, sight, Alike}
use Rattle.privacy.proofs.Fate.{after}
use Rattle.histories.proofs.Showing.{Came, shown_before, was_free}
use Rattle.privacy.proofs.Words.{put_same, collect_register, word_by, Fits, word_after, cells_long, tags_long}

-- E: the cores, all mailboxes and the registers of every other party are equal. O: every Mapped cell that is not hidden is.
pub record Rel (house : ℕ) (t : Time) (g h : Machine) : Type 0 where
  pub core : g.state.core ≡ h.state.core
  pub mail : g.state.mailboxes ≡ h.state.mailboxes
  pub others : (p r : ℕ) → (p ≡ house → ⊥) → register_of g.state.registers p r ≡ register_of h.state.registers p r
  pub long : length g.state.registers ≡ length h.state.registers
  pub of_cells : length g.cells ≡ length h.cells
  pub of_tags : length g.tags ≡ length h.tags
  pub words : (v at : ℕ) → lookup_of g.state.core.pages v ≡ Some at → hidden t v ≡ false → word_at g.cells g.tags at ≡ word_at h.cells h.tags at

pub turned : (house : ℕ) (t : Time) (g h : Machine) → Rel house t g h → Rel house t h g
turned house t g h r =
    record {
      core = sym r.core;
      mail = sym r.mail;
      others = λ p d n. sym (r.others p d n);
      long = sym r.long;
      of_cells = sym r.of_cells;
      of_tags = sym r.of_tags;
      words = λ v at e n. sym (r.words v at (ap (λ k. lookup_of k.pages v) r.core ∙ e) n);
    }

-- A history beside itself.
pub itself : (house : ℕ) (t : Time) (m : Machine) → Rel house t m m
itself house t m =
    record { core = refl; mail = refl; others = λ p d n. refl; long = refl; of_cells = refl; of_tags = refl; words = λ v at e n. refl }

-- What the others have and see is then alike.
pub alike : (house : ℕ) (t : Time) (g h : Machine) → Rel house t g h → Alike house t g h
alike house t g h r =
    record {
      registers = r.others;
      mailboxes = λ p n. ap (λ l. mailbox_of l p) r.mail;
      cells = λ v n. see v n (lookup_of g.state.core.pages v) refl;
      takers = ap (λ k. map (λ row. row.taker) k.table.rows) r.core;
    }
  where
    at_once : (v : ℕ) (x : Option ℕ) → lookup_of g.state.core.pages v ≡ x → sight_at x g.cells g.tags ≡ sight_at x h.cells h.tags → sight g v ≡ sight h v
    at_once v x e q =
        unfold sight in
        (ap (λ y. sight_at y g.cells g.tags) e ∙ q ∙ ap (λ y. sight_at y h.cells h.tags) (sym e ∙ ap (λ k. lookup_of k.pages v) r.core))

    see : (v : ℕ) → hidden t v ≡ false → (x : Option ℕ) → lookup_of g.state.core.pages v ≡ x → sight g v ≡ sight h v
    see v n (Some at) e = at_once v (Some at) e (ap shown (r.words v at e n))
    see v n None e = at_once v None e refl

registers_same : (x : RegisterChange) (g h : Machine) (p r : ℕ) → g.state.core ≡ h.state.core → length g.state.registers ≡ length h.state.registers
    → register_of g.state.registers p r ≡ register_of h.state.registers p r
    → register_of (registers_after x g.state) p r ≡ register_of (registers_after x h.state) p r
unfolding registers_after
registers_same keep_registers g h p r k l e = e
registers_same (put_register q d w) g h p r k l e = put_same g.state.registers h.state.registers (8 * q + d) w p r l e
registers_same collect_registers g h p r k l e =
    collect_register g.state.core g.state.registers p r ∙ ap (collected_register g.state.core) e
    ∙ ap (λ c. collected_register c (register_of h.state.registers p r)) k ∙ sym (collect_register h.state.core h.state.registers p r)

registers_long : (x : RegisterChange) (m : Machine) → length (registers_after x m.state) ≡ length m.state.registers
unfolding registers_after
registers_long keep_registers m = refl
registers_long (put_register q d w) m = length-set m.state.registers (8 * q + d) w
registers_long collect_registers m = simp length-map

mailboxes_same : (x : MailboxChange) (g h : Machine) → g.state.core ≡ h.state.core → g.state.mailboxes ≡ h.state.mailboxes → mailboxes_after x g.state ≡ mailboxes_after x h.state
unfolding mailboxes_after
mailboxes_same keep_mailboxes g h k e = e
mailboxes_same (put_mailbox p w) g h k e = ap (λ l. set l p w) e
mailboxes_same collect_mailboxes g h k e = ap (λ l. map (collected_mailbox g.state.core) l) e ∙ ap (λ c. map (collected_mailbox c) h.state.mailboxes) k

-- The place of a Mapped cell lies in memory.
pub place_low : (s : Pages) → Sound s → (v at : ℕ) → lookup_of s v ≡ Some at → at < 16 * s.f
place_low s ok v at e = let k = seen s v at e in omega (arith, seen_low s ok v at k, k.place)

abbrev pub FreeZero : Machine → Type 0
FreeZero m = (k i : ℕ) → frame_at m.state.core.pages k ≡ Free → i < 16 → (get_or m.cells (16 * k + i) 0 ≡ 0) × (get_or m.tags (16 * k + i) 0 ≡ 0)

-- A word that was not touched.
pub untouched : (m : Machine) (l : MemoryChange) (at : ℕ) → l ≡ keep_memory → word_at (cells_after l m.cells) (tags_after l m.state.core m.cells m.tags) at ≡ word_at m.cells m.tags at
unfolding cells_after tags_after
untouched m l at e = ap (λ x. word_at (cells_after x m.cells) (tags_after x m.state.core m.cells m.tags) at) e

module _ (house : ℕ) (t u : Time) (g h : Machine) (e : Effect) (r : Rel house t g h) (ok : Sound g.state.core.pages)
    (size-cells : length g.cells ≡ 16 * g.state.core.pages.f) (size-tags : length g.tags ≡ 16 * g.state.core.pages.f)
    (fits : Fits e.memory (16 * g.state.core.pages.f)) (zero₁ : FreeZero g) (zero₂ : FreeZero h)
    (from : (v at : ℕ) → lookup_of e.core.pages v ≡ Some at → Came g.state.core.pages e.memory v at)
    (hides : (v at : ℕ) → lookup_of e.core.pages v ≡ Some at → hidden u v ≡ false → hidden t v ≡ false) where
  fits₁ : Fits e.memory (length g.cells)
  fits₁ = subst (Fits e.memory) (sym size-cells) fits

  fits₂ : Fits e.memory (length g.tags)
  fits₂ = subst (Fits e.memory) (sym size-tags) fits

  fits₃ : Fits e.memory (length h.cells)
  fits₃ = subst (Fits e.memory) r.of_cells fits₁

  fits₄ : Fits e.memory (length h.tags)
  fits₄ = subst (Fits e.memory) r.of_tags fits₂

  word : (v at : ℕ) → hidden t v ≡ false → Came g.state.core.pages e.memory v at
      → word_at (cells_after e.memory g.cells) (tags_after e.memory g.state.core g.cells g.tags) at
      ≡ word_at (cells_after e.memory h.cells) (tags_after e.memory h.state.core h.cells h.tags) at
  word v at n (shown_before q) =
      let low = place_low g.state.core.pages ok v at q in
      word_after e.memory g.state.core g.cells g.tags at (omega arith) (size-tags ∙ sym size-cells) fits₁
      ∙ ap (word_by e.memory g.state.core.pages.frames at) (r.words v at q n)
      ∙ ap (λ k. word_by e.memory k.pages.frames at (word_at h.cells h.tags at)) r.core
      ∙ sym (word_after e.memory h.state.core h.cells h.tags at (omega (arith, r.of_cells)) (sym r.of_tags ∙ size-tags ∙ sym size-cells ∙ r.of_cells) fits₃)
  word v at n (was_free k i free b place keep) =
      let x = zero₁ k i free b in
      let y = zero₂ k i (ap (λ c. frame_at c.pages k) (sym r.core) ∙ free) b in
      untouched g e.memory at keep
      ∙ word_none g.cells g.tags at (ap (λ j. get_or g.cells j 0) place ∙ x.0) (ap (λ j. get_or g.tags j 0) place ∙ x.1)
      ∙ sym (untouched h e.memory at keep ∙ word_none h.cells h.tags at (ap (λ j. get_or h.cells j 0) place ∙ y.0) (ap (λ j. get_or h.tags j 0) place ∙ y.1))

  pub effect_related : Rel house u (after g e) (after h e)
  unfolding after
  effect_related =
      record {
        core = refl;
        mail = mailboxes_same e.mailboxes g h r.core r.mail;
        others = λ p d n. registers_same e.registers g h p d r.core r.long (r.others p d n);
        long = registers_long e.registers g ∙ r.long ∙ sym (registers_long e.registers h);
        of_cells = cells_long e.memory g.cells fits₁ ∙ r.of_cells ∙ sym (cells_long e.memory h.cells fits₃);
        of_tags = tags_long e.memory g.state.core g.cells g.tags fits₂ ∙ r.of_tags ∙ sym (tags_long e.memory h.state.core h.cells h.tags fits₄);
        words = λ v at q n. word v at (hides v at q n) (from v at q);
      }
