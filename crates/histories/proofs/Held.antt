-- What registers and mailboxes hold after a granted call: a capability that was held there, a narrower one, the one that a take makes, or
-- what a load makes of a word of memory. Assumes nothing.
use Prim.Native.Nat.{ℕ, ◌+◌, ◌*◌, ◌≤◌}
use mathlib.Core.Bool.{Bool, true, false, ◌&&◌, false≢true}
use mathlib.Core.List.{List}
use mathlib.Core.Path.{◌≡◌, refl, sym, subst, ◌∙◌}
use lib.ListN.{get_or}
use Rattle.capabilities.specs.Capability.{base_of, length_of, capability, narrowed}
use Rattle.capabilities.specs.Lists.{pick}
use Rattle.capabilities.proofs.Choice.{and_left}
use Rattle.table.specs.Operations.{take_of}
use Rattle.reservations.specs.Core.{Core}
use Rattle.reservations.specs.Revocation.{dying}
use Rattle.words.specs.declared.Slot.{Slot}
use Rattle.words.specs.Words.{slot, empty, named, register_of, mailbox_of, keep_tag, collected_mailbox}
use Rattle.machine.specs.State.{State}
use Rattle.machine.specs.Roles.{Sources, takes, Asked, asked}
use Rattle.machine.specs.Effects.{RegisterChange, keep_registers, put_register, collect_registers, MailboxChange, keep_mailboxes, put_mailbox, collect_mailboxes, Effect}
use Rattle.machine.specs.Step.{done, registers_after, mailboxes_after}
use Rattle.machine.proofs.Deeds.{loaded_by, Filling, loads, narrows, numbers, Deed, took, recored, swept, collected_all, zeroed, filled, wrote, mailed, received}
use Rattle.machine.proofs.Found.{Addressing}
use Rattle.histories.proofs.View.{put_each, collected_registers, collected_mailboxes}

-- A word, if it is a capability, has a property.
abbrev pub Tagged : (ℕ → Type 0) → Slot → Type 0
Tagged Q w = w.tag ≡ true → Q w.cell

-- A capability's property is that of each narrower one.
abbrev pub Narrows : (ℕ → Type 0) → Type 0
Narrows Q = (c off len mask : ℕ) → 1 ≤ len → off + len ≤ length_of c → base_of c + off ≤ 65535 → Q c → Q (narrowed c off len mask)

-- Every capability in a register or a mailbox has it.
pub record Holds (Q : ℕ → Type 0) (s : State) : Type 0 where
  pub registers : (i : ℕ) → Tagged Q (get_or s.registers i empty)
  pub mailboxes : (p : ℕ) → Tagged Q (get_or s.mailboxes p empty)

-- The one that a granted take makes has it, and what a granted load makes of the word that it fetches.
abbrev pub OfTake : (ℕ → Type 0) → State → Asked → Type 0
OfTake Q s a = (p base reg permissions : ℕ) → a ≡ asked p (takes base reg permissions) → Q (capability base (take_of s.core.table p base).length permissions)

abbrev pub OfLoad : (ℕ → Type 0) → State → List ℕ → List ℕ → Type 0
OfLoad Q s cells tags =
    (p a off : ℕ) → Addressing s.core (register_of s.registers p a) off
    → Tagged Q (loaded_by s cells tags p a off)

module _ (Q : ℕ → Type 0) where
  pub none : (w : Slot) → w.tag ≡ false → Tagged Q w
  none w e t = absurd (false≢true (sym e ∙ t))

  pub kept : (w : Slot) (b : Bool) → Tagged Q w → Tagged Q (keep_tag w b)
  kept w b k e = k (and_left w.tag b e)

  gone : (c : Core) (w : Slot) → Tagged Q w → Tagged Q (collected_mailbox c w)
  gone c w k = go (w.tag && dying c w.cell)
    where
      go : (b : Bool) → Tagged Q (pick b empty w)
      go true = none empty refl
      go false = k

  module _ (s : State) (old : Holds Q s) where
    pub of_register : (p r : ℕ) → Tagged Q (register_of s.registers p r)
    unfolding register_of
    of_register p r = go (named p && named r)
      where
        go : (b : Bool) → Tagged Q (pick b (get_or s.registers (8 * p + r) empty) empty)
        go true = old.registers (8 * p + r)
        go false = none empty refl

    pub of_mailbox : (p : ℕ) → Tagged Q (mailbox_of s.mailboxes p)
    unfolding mailbox_of
    of_mailbox p = old.mailboxes p

    -- What is put into a register, and into a mailbox, has it.
    abbrev pub InRegister : RegisterChange → Type 0
    InRegister keep_registers = Unit {0}
    InRegister (put_register p r w) = Tagged Q w
    InRegister collect_registers = Unit {0}

    abbrev pub InMailbox : MailboxChange → Type 0
    InMailbox keep_mailboxes = Unit {0}
    InMailbox (put_mailbox p w) = Tagged Q w
    InMailbox collect_mailboxes = Unit {0}

    pub registers_hold : (x : RegisterChange) → InRegister x → (i : ℕ) → Tagged Q (get_or (registers_after x s) i empty)
    unfolding registers_after
    registers_hold keep_registers new i = old.registers i
    registers_hold (put_register p r w) new i = put_each (Tagged Q) s.registers (8 * p + r) w new old.registers i
    registers_hold collect_registers new i =
        subst (Tagged Q) (sym (collected_registers s.core s.registers i)) (kept (get_or s.registers i empty) _ (old.registers i))

    pub mailboxes_hold : (x : MailboxChange) → InMailbox x → (p : ℕ) → Tagged Q (get_or (mailboxes_after x s) p empty)
    unfolding mailboxes_after
    mailboxes_hold keep_mailboxes new p = old.mailboxes p
    mailboxes_hold (put_mailbox q w) new p = put_each (Tagged Q) s.mailboxes q w new old.mailboxes p
    mailboxes_hold collect_mailboxes new p =
        subst (Tagged Q) (sym (collected_mailboxes s.core s.mailboxes p)) (gone s.core (get_or s.mailboxes p empty) (old.mailboxes p))

    module _ (cells tags : List ℕ) where
      pub filling_holds : Narrows Q → OfLoad Q s cells tags → (p : ℕ) {from : Sources} {w answer : Slot} → Filling s cells tags p from w answer → Tagged Q w
      filling_holds narrower load p (loads a off g) = load p a off g
      filling_holds narrower load p (narrows x off len mask g) =
          λ e. narrower (register_of s.registers p x).cell off len mask g.some g.ends g.starts (of_register p x g.tagged)
      filling_holds narrower load p (numbers value) = none (slot value false) refl

      puts_held : Narrows Q → {a : Asked} {e : Effect} → Deed s cells tags a e → OfTake Q s a → OfLoad Q s cells tags → InRegister e.registers × InMailbox e.mailboxes
      puts_held narrower (took p base reg permissions low-p low-reg few z) new load = (λ x. new p base reg permissions refl, tt)
      puts_held narrower (recored p k r) new load = (tt, tt)
      puts_held narrower (swept p n runs) new load = (tt, tt)
      puts_held narrower (collected_all p z) new load = (tt, tt)
      puts_held narrower (zeroed p frame z) new load = (tt, tt)
      puts_held narrower (filled p d from w answer low g) new load = (filling_holds narrower load p g, tt)
      puts_held narrower (wrote p a off x low-p low-a g) new load = (tt, tt)
      puts_held narrower (mailed p x to t) new load = (tt, of_register p x)
      puts_held narrower (received p d low) new load = (of_mailbox p, none empty refl)

      -- Whatever a granted call does.
      pub deed_holds : Narrows Q → {a : Asked} {e : Effect} → Deed s cells tags a e → OfTake Q s a → OfLoad Q s cells tags → Holds Q (done s e cells tags).answer.state
      unfolding done
      deed_holds narrower {a} {e} d new load =
          let (r, b) = puts_held narrower d new load in
          record { registers = registers_hold e.registers r; mailboxes = mailboxes_hold e.mailboxes b }
