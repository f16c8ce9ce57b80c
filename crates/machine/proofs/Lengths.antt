-- A step keeps the numbers of registers and mailboxes, of lent cells and of lent tags. By what an effect changes, not by
-- call. Assumes nothing.
use Prim.Native.Nat.{ℕ, ◌+◌, ◌*◌}
use native.Mathlib.Omega.{arith}
use mathlib.Core.Bool.{Bool, true}
use mathlib.Core.List.{List, [], ◌∷◌}
use mathlib.Core.Path.{◌≡◌, refl, ◌∙◌}
use lib.ListN.{length, set, length-set, length-map}
use lib.Dec.{ltb}
use borrow.Author.Tests.{ltb-true, lt-ltb}
use Rattle.capabilities.specs.Refusals.{first}
use Rattle.capabilities.proofs.Lists.{length_map_each}
use Rattle.pages.specs.Layer.{serves}
use Rattle.pages.proofs.Memory.{served}
use Rattle.pages.proofs.Shows.{length_cleared}
use Rattle.sweep.specs.Sweep.{swept_tag, swept_tags}
use Rattle.reservations.specs.Core.{Core}
use Rattle.calls.specs.declared.Call.{Call}
use Rattle.words.specs.Words.{byte_of, collected_register, collected_mailbox}
use Rattle.machine.specs.State.{State}
use Rattle.machine.specs.Roles.{Asked}
use Rattle.machine.specs.Effects.{RegisterChange, keep_registers, put_register, collect_registers, MailboxChange, keep_mailboxes, put_mailbox, collect_mailboxes, MemoryChange, keep_memory, Write, write_words, clear_frame, sweep_cells, Effect}
use Rattle.machine.specs.Step.{refused, registers_after, mailboxes_after, written_cells, written_tags, cells_after, tags_after, done, reasons_on, effect_on, judged}
use Rattle.machine.specs.Demands.{Sized, StepSized}
use Rattle.machine.proofs.Judging.{judged_by, step_by}
use Rattle.machine.proofs.Deeds.{Deed, took, recored, swept, collected_all, zeroed, filled, wrote, mailed, received, deed}
use Rattle.machine.proofs.PagesKept.{zero_clear}

-- Registers and mailboxes, by what becomes of them.
pub length_registers : (ch : RegisterChange) (s : State) → length (registers_after ch s) ≡ length s.registers
unfolding registers_after
length_registers keep_registers s = refl
length_registers (put_register p r w) s = length-set s.registers (8 * p + r) w
length_registers collect_registers s = length-map s.registers (collected_register s.core)

pub length_mailboxes : (ch : MailboxChange) (s : State) → length (mailboxes_after ch s) ≡ length s.mailboxes
unfolding mailboxes_after
length_mailboxes keep_mailboxes s = refl
length_mailboxes (put_mailbox p w) s = length-set s.mailboxes p w
length_mailboxes collect_mailboxes s = length-map s.mailboxes (collected_mailbox s.core)

-- A frame that is cleared is one of f.
unfoldable pub clears_below : ℕ → MemoryChange → Bool
clears_below f keep_memory = true
clears_below f (write_words writes) = true
clears_below f (clear_frame frame) = ltb frame.0 f
clears_below f (sweep_cells r from upto) = true

-- Writes keep the numbers of cells and of tags.
pub length_written : (writes : List Write) (cells : List ℕ) → length (written_cells writes cells) ≡ length cells
unfolding written_cells
length_written [] cells = refl
length_written (w ∷ writes) cells = length_written writes (set cells w.at w.word.cell) ∙ length-set cells w.at w.word.cell

pub length_marked : (writes : List Write) (tags : List ℕ) → length (written_tags writes tags) ≡ length tags
unfolding written_tags
length_marked [] tags = refl
length_marked (w ∷ writes) tags = length_marked writes (set tags w.at (byte_of w.word.tag)) ∙ length-set tags w.at (byte_of w.word.tag)

-- Lent cells and tags, 16 × f of each, by what becomes of them.
module _ (f : ℕ) where
  pub length_cells : (ch : MemoryChange) (cells : List ℕ) → length cells ≡ 16 * f → clears_below f ch ≡ true → length (cells_after ch cells) ≡ length cells
  unfolding cells_after clears_below
  length_cells keep_memory cells n h = refl
  length_cells (write_words writes) cells n h = length_written writes cells
  length_cells (clear_frame frame) cells n h = length_cleared frame cells (omega (arith, ltb-true frame.0 f h))
  length_cells (sweep_cells r from upto) cells n h = refl

  pub length_tags : (ch : MemoryChange) (c : Core) (cells tags : List ℕ) → length tags ≡ 16 * f → clears_below f ch ≡ true
      → length (tags_after ch c cells tags) ≡ length tags
  unfolding tags_after clears_below swept_tags
  length_tags keep_memory c cells tags n h = refl
  length_tags (write_words writes) c cells tags n h = length_marked writes tags
  length_tags (clear_frame frame) c cells tags n h = length_cleared frame tags (omega (arith, ltb-true frame.0 f h))
  length_tags (sweep_cells r from upto) c cells tags n h = length_map_each (swept_tag c.pages.frames r from upto cells) 0 tags

-- Zero alone clears a frame; refusal 12 keeps it below F.
clears_below_lem : (s : State) {cells tags : List ℕ} {a : Asked} {e : Effect} → Deed s cells tags a e → clears_below s.core.pages.f e.memory ≡ true
unfolding clears_below
clears_below_lem s (took p base reg permissions low-p low-reg few z) = refl
clears_below_lem s (recored p k r) = refl
clears_below_lem s (swept p n runs) = refl
clears_below_lem s (collected_all p z) = refl
clears_below_lem s (zeroed p frame z) = lt-ltb frame.0 s.core.pages.f (zero_clear s.core.pages frame z).0
clears_below_lem s (filled p d from w answer low g) = refl
clears_below_lem s (wrote p a off x low-p low-a g) = refl
clears_below_lem s (mailed p x to t) = refl
clears_below_lem s (received p d low) = refl

-- A refusal keeps them all; so does a call that is done.
pub refused_sized : (s : State) (cells tags : List ℕ) (k : ℕ) → Sized s cells tags (refused k s cells tags)
refused_sized s cells tags k = record { of_registers = refl; of_mailboxes = refl; of_cells = refl; of_tags = refl }

done_sized : (s : State) (c : Call) (cells tags : List ℕ) → serves s.core.pages (length cells) (length tags) ≡ true
    → first (reasons_on s c cells tags) ≡ 0 → Sized s cells tags (done s (effect_on s c cells tags) cells tags)
unfolding done
done_sized s c cells tags m e =
    let (n, o) = served s.core.pages (length cells) (length tags) m in
    let f = s.core.pages.f in
    let x = effect_on s c cells tags in
    let low = clears_below_lem s (deed s c cells tags e) in
    record {
      of_registers = length_registers x.registers s;
      of_mailboxes = length_mailboxes x.mailboxes s;
      of_cells = length_cells f x.memory cells n low;
      of_tags = length_tags f x.memory s.core cells tags o low;
    }

-- Every call, granted or refused, keeps the numbers of registers, mailboxes, lent cells and lent tags.
pub judged_sized : (s : State) (c : Call) (cells tags : List ℕ) → Sized s cells tags (judged s c cells tags)
judged_sized s c cells tags = judged_by s c cells tags (Sized s cells tags) (done_sized s c cells tags) (λ k n. refused_sized s cells tags k)

pub step_sized : StepSized
step_sized s c cells tags =
    step_by s c cells tags (Sized s cells tags) (λ g. done_sized s c cells tags g.served g.clear) (λ k n. refused_sized s cells tags k)
