-- Document 01, 'Things and their sizes': "A state is well formed if the four lines above hold, V and F are in range,
-- and all unused entries are 0." Registers are in none of those lines. Document 02 asks for takers (2026-04) and for claims (2026-02).
-- Assumes nothing.
use Rattle.std.specs.Prelude.{ℕ, Bool, ◌&&◌, length, replicate, eqb}
use Rattle.capabilities.specs.Lists.{pick, each}
use Rattle.pages.specs.Layer.{in_range}
use Rattle.table.specs.Rows.{live}
use Rattle.table.specs.Tiling.{takers_sound}
use Rattle.reservations.specs.Revocation.{fresh_core, core_sound}
use Rattle.claims.specs.Sound.{claims_sound}
use Rattle.words.specs.declared.Slot.{Slot}
use Rattle.words.specs.Words.{empty, mailbox_sound}
use Rattle.machine.specs.State.{State}
use Rattle.machine.specs.State.{Answered}

unfoldable pub mailboxes_sound : State → Bool
mailboxes_sound s = each mailbox_sound 0 s.mailboxes

-- There are 64 registers and 8 mailboxes, as the struct's arrays have.
abbrev pub sized : State → Bool
sized s = eqb (length s.registers) 64 && eqb (length s.mailboxes) 8

-- Document 01's lines and those of the claims, which ask for no taker.
unfoldable pub formed_bare : State → Bool
formed_bare s = ((core_sound s.core && mailboxes_sound s) && sized s) && claims_sound s.core.pages.v s.core.claims

-- "A state is not well formed if an Open one's taker isn't 9 or a Taken or Revoking one's is above 8."
unfoldable pub well_formed : State → Bool
well_formed s = formed_bare s && takers_sound (live s.core.table)

abbrev pub answered : ℕ → Slot → State → Answered
answered code word s = record { code = code; number = word.cell; tag = word.tag; state = s }

-- "A fresh start, given V and F, has one Open reservation held by party 0, pages Unmapped, frames Dirty, registers and
-- mailboxes empty"; for V or F out of range all is 0.
unfoldable pub fresh : ℕ → ℕ → State
fresh v f = record { core = fresh_core v f; registers = replicate 64 empty; mailboxes = replicate 8 empty }

-- Refusal 1: "a start names V or F out of range. .. A refused start hands back the all-zero state."
unfoldable pub start_of : ℕ → ℕ → Answered
start_of v f = answered (pick (in_range v f) 0 1) empty (fresh v f)
