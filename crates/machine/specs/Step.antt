-- One call: the reasons against it are judged in order, and if none applies its effect is done. Assumes nothing.
use Rattle.std.specs.Prelude.{ℕ, ◌+◌, ◌*◌, Bool, List, [], ◌∷◌, map, length, set, eqb}
use Rattle.capabilities.specs.Lists.{pick}
use Rattle.capabilities.specs.Refusals.{Reason, first}
use Rattle.pages.specs.Layer.{serves}
use Rattle.pages.specs.Mapping.{cleared}
use Rattle.sweep.specs.Sweep.{swept_tags}
use Rattle.reservations.specs.Core.{Core}
use Rattle.calls.specs.declared.Call.{Call}
use Rattle.words.specs.declared.Slot.{Slot}
use Rattle.words.specs.Words.{empty, byte_of, collected_register, collected_mailbox}
use Rattle.machine.specs.State.{State}
use Rattle.machine.specs.State.{Answered}
use Rattle.machine.specs.Formed.{well_formed, answered}
use Rattle.machine.specs.Reasons.{reads, reasons}
use Rattle.machine.specs.Effects.{RegisterChange, keep_registers, put_register, collect_registers, MailboxChange, keep_mailboxes, put_mailbox, collect_mailboxes, MemoryChange, keep_memory, Write, write_words, clear_frame, sweep_cells, Effect, effect}

-- What a call leaves: its answer with the state, and the lent cells and tags.
pub record Outcome : Type 0 where
  pub answer : Answered
  pub cells : List ℕ
  pub tags : List ℕ

abbrev pub outcome_with : Answered → List ℕ → List ℕ → Outcome
outcome_with answer cells tags = record { answer = answer; cells = cells; tags = tags }

-- "Code 0 means granted".
abbrev pub is_granted : Outcome → Bool
is_granted o = eqb o.answer.code 0

-- "The lowest number that applies is answered, with number 0, tag 0 and every bit of state and memory kept."
abbrev pub refused : ℕ → State → List ℕ → List ℕ → Outcome
refused code s cells tags = outcome_with (answered code empty s) cells tags

unfoldable pub registers_after : RegisterChange → State → List Slot
registers_after keep_registers s = s.registers
registers_after (put_register p r w) s = set s.registers (8 * p + r) w
registers_after collect_registers s = map (collected_register s.core) s.registers

unfoldable pub mailboxes_after : MailboxChange → State → List Slot
mailboxes_after keep_mailboxes s = s.mailboxes
mailboxes_after (put_mailbox p w) s = set s.mailboxes p w
mailboxes_after collect_mailboxes s = map (collected_mailbox s.core) s.mailboxes

-- The cells and the tags that writes leave.
unfoldable pub written_cells : List Write → List ℕ → List ℕ
written_cells [] cells = cells
written_cells (w ∷ writes) cells = written_cells writes (set cells w.at w.word.cell)

unfoldable pub written_tags : List Write → List ℕ → List ℕ
written_tags [] tags = tags
written_tags (w ∷ writes) tags = written_tags writes (set tags w.at (byte_of w.word.tag))

unfoldable pub cells_after : MemoryChange → List ℕ → List ℕ
cells_after keep_memory cells = cells
cells_after (write_words writes) cells = written_cells writes cells
cells_after (clear_frame f) cells = cleared f cells
cells_after (sweep_cells r from upto) cells = cells

unfoldable pub tags_after : MemoryChange → Core → List ℕ → List ℕ → List ℕ
tags_after keep_memory c cells tags = tags
tags_after (write_words writes) c cells tags = written_tags writes tags
tags_after (clear_frame f) c cells tags = cleared f tags
tags_after (sweep_cells r from upto) c cells tags = swept_tags c.pages.frames r from upto cells tags

-- An effect, done to a state and its lent memory.
unfoldable pub done : State → Effect → List ℕ → List ℕ → Outcome
done s e cells tags =
    outcome_with
    (answered 0 e.answer (record { core = e.core; registers = registers_after e.registers s; mailboxes = mailboxes_after e.mailboxes s }))
    (cells_after e.memory cells) (tags_after e.memory s.core cells tags)

-- The reasons from 4 on against a call on a state with lent memory, and its effect there.
abbrev pub reasons_on : State → Call → List ℕ → List ℕ → List Reason
reasons_on s c cells tags = reasons s.core s.mailboxes (reads s.core s.registers cells tags c) c

abbrev pub effect_on : State → Call → List ℕ → List ℕ → Effect
effect_on s c cells tags = effect s.core s.mailboxes (reads s.core s.registers cells tags c) c

-- A call by refusals from 4 on.
unfoldable pub ruled : State → Call → List ℕ → List ℕ → Outcome
ruled s c cells tags =
    let code = first (reasons_on s c cells tags) in
    pick (eqb code 0) (done s (effect_on s c cells tags) cells tags) (refused code s cells tags)

-- The same by refusal 2 first: "The lent cells or tags are not 16 × F in number."
unfoldable pub judged : State → Call → List ℕ → List ℕ → Outcome
judged s c cells tags = pick (serves s.core.pages (length cells) (length tags)) (ruled s c cells tags) (refused 2 s cells tags)

-- One call, by refusal 1 before all others: "The state is not well formed".
unfoldable pub step_of : State → Call → List ℕ → List ℕ → Outcome
step_of s c cells tags = pick (well_formed s) (judged s c cells tags) (refused 1 s cells tags)

-- A state with another core.
unfoldable pub with_core : State → Core → State
with_core s c = record { core = c; registers = s.registers; mailboxes = s.mailboxes }
