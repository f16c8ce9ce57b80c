-- Where each live word comes from, spot by spot: the word that stands at a spot after a granted call stood before it at the spot named here,
-- as it was or as the narrower capability that the call makes of it; or the call is a take and makes it. Assumes nothing.
use Rattle.std.specs.Prelude.{ℕ, ◌+◌, ◌*◌, ◌≤◌, Bool, true, false, ◌≡◌, eqb}
use Rattle.capabilities.specs.Capability.{base_of, length_of, capability, narrowed}
use Rattle.capabilities.specs.Lists.{pick}
use Rattle.table.specs.Operations.{take_of}
use Rattle.calls.specs.declared.Call.{Call}
use Rattle.words.specs.declared.Slot.{Slot}
use Rattle.words.specs.Words.{register_of}
use Rattle.machine.specs.State.{State}
use Rattle.machine.specs.Roles.{Sources, from_none, from_one, from_two, from_cell, Role, takes, collects, fills, stores, grants, receives, plain, Asked, asked, role_of, caller_of}
use Rattle.histories.specs.Runs.{Machine, Granted, next, Reached}
use Rattle.histories.specs.Live.{Spot, register, mailbox, virtual, word_in}

pub data Origin : Type 0 where
  from : Spot → Origin
  made : Origin

unfoldable pub same_spot : Spot → Spot → Bool
same_spot (register i) (register j) = eqb i j
same_spot (register i) (mailbox j) = false
same_spot (register i) (virtual j) = false
same_spot (mailbox i) (register j) = false
same_spot (mailbox i) (mailbox j) = eqb i j
same_spot (mailbox i) (virtual j) = false
same_spot (virtual i) (register j) = false
same_spot (virtual i) (mailbox j) = false
same_spot (virtual i) (virtual j) = eqb i j

-- Register r of party p.
abbrev pub register_at : ℕ → ℕ → Spot
register_at p r = register (8 * p + r)

-- The cell at base + off of the capability in register a of party p.
abbrev pub cell_at : Machine → ℕ → ℕ → ℕ → Spot
cell_at m p a off = virtual (base_of (register_of m.state.registers p a).cell + off)

-- Of all spots only one gets a word from elsewhere; every other word stays where it was.
abbrev pub only : Spot → Origin → Spot → Origin
only to o x = pick (same_spot to x) o (from x)

-- What fills a register: the word that is loaded, or what is made of the first register that is read; a number is none of these.
abbrev pub filled_from : Machine → ℕ → Sources → Origin
filled_from m p from_none = made
filled_from m p (from_one s) = from (register_at p s)
filled_from m p (from_two s t) = from (register_at p s)
filled_from m p (from_cell a off) = from (cell_at m p a off)

-- Where the word at a spot comes from, once party p has been granted a call of this role.
abbrev pub origin_by : Machine → ℕ → Role → Spot → Origin
origin_by m p (takes base reg permissions) = only (register_at p reg) made
origin_by m p collects = from
origin_by m p (fills source d) = only (register_at p d) (filled_from m p source)
origin_by m p (stores a off s) = only (cell_at m p a off) (from (register_at p s))
origin_by m p (grants s to) = only (mailbox to) (from (register_at p s))
origin_by m p (receives d) = only (register_at p d) (from (mailbox p))
origin_by m p plain = from

-- A capability, or one narrowed from it as 0D narrows.
pub data Narrower (c : ℕ) : ℕ → Type 0 where
  itself : Narrower c c
  narrower : (off len mask : ℕ) → 1 ≤ len → off + len ≤ length_of c → base_of c + off ≤ 65535 → Narrower c (narrowed c off len mask)

-- What a take makes.
pub record Made (s : State) (a : Asked) (c : ℕ) : Type 0 where
  pub party : ℕ
  pub base : ℕ
  pub reg : ℕ
  pub permissions : ℕ
  pub is : a ≡ asked party (takes base reg permissions)
  pub cell : c ≡ capability base (take_of s.core.table party base).length permissions

-- A word, if it is a capability, comes from the word before it; and as its origin says.
abbrev pub Comes : Slot → Slot → Type 0
Comes before after = after.tag ≡ true → (before.tag ≡ true) × Narrower before.cell after.cell

abbrev pub ComesBy : Machine → Asked → Origin → Slot → Type 0
ComesBy m a (from x) w = Comes (word_in m x) w
ComesBy m a made w = w.tag ≡ true → Made m.state a w.cell

-- After every history, of every granted call and at every spot.
abbrev pub EachComes : Type 0
EachComes =
    (m : Machine) → Reached m → (c : Call) → Granted m c → (x : Spot)
    → ComesBy m (role_of c) (origin_by m (caller_of c) (role_of c).role x) (word_in (next m c) x)
