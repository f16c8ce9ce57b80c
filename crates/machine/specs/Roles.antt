-- The one table of the kinds of call: the party that makes a call, and the call's role. What it reads, what the privacy
-- rule says of it and which call is a take are read off this table. Assumes nothing.
use Rattle.std.specs.Prelude.{ℕ, ◌≡◌}
use Rattle.capabilities.specs.Capability.{permitted}
use Rattle.calls.specs.declared.Call.{Call}
use Rattle.calls.specs.declared.Call.TheVariants.{Take, Split, Merge, Give, Revoke, Sweep, Collect, Map, Unmap, Zero, Load, Store, Narrow, Number, Grant, Receive, TakeMasked, Create, Claim, Release, Destroy}

-- What a call reads besides the core and the mailboxes: registers of its caller, at most two, in the order of its operands; or a register
-- and the word of lent memory at an offset of the capability in it.
pub data Sources : Type 0 where
  from_none : Sources
  from_one : ℕ → Sources
  from_two : ℕ → ℕ → Sources
  from_cell : ℕ → ℕ → Sources

-- What a call is, besides its caller: what it reads, and where what it moves goes. The registers named here are the caller's.
pub data Role : Type 0 where
  -- A take of the reservation at base, into a register, with these permissions.
  takes : ℕ → ℕ → ℕ → Role
  -- A collect.
  collects : Role
  -- A load, narrow or number: it reads these and fills register d.
  fills : Sources → ℕ → Role
  -- A store through register a, at an offset, of register s.
  stores : ℕ → ℕ → ℕ → Role
  -- A grant of register s to a party.
  grants : ℕ → ℕ → Role
  -- A receive into register d.
  receives : ℕ → Role
  -- Any other call. It reads no register.
  plain : Role

pub record Asked : Type 0 where
  pub caller : ℕ
  pub role : Role

abbrev pub asked : ℕ → Role → Asked
asked p role = record { caller = p; role = role }

-- Document 02, 2026-01: 01, "take now gives permissions 3". 11 gives those that its mask permits.
abbrev pub plain_permissions : ℕ
plain_permissions = 3

abbrev pub role_of : Call → Asked
role_of (Take p base reg) = asked p (takes base reg plain_permissions)
role_of (Split p base len) = asked p plain
role_of (Merge p base) = asked p plain
role_of (Give p base to) = asked p plain
role_of (Revoke p base) = asked p plain
role_of (Sweep p n) = asked p plain
role_of (Collect p) = asked p collects
role_of (Map p page frame) = asked p plain
role_of (Unmap p page) = asked p plain
role_of (Zero p frame) = asked p plain
role_of (Load p a off d) = asked p (fills (from_cell a off) d)
role_of (Store p a off s) = asked p (stores a off s)
role_of (Narrow p s off len mask d) = asked p (fills (from_one s) d)
role_of (Number p d value) = asked p (fills from_none d)
role_of (Grant p s to) = asked p (grants s to)
role_of (Receive p d) = asked p (receives d)
role_of (TakeMasked p base reg mask) = asked p (takes base reg (permitted mask))
-- Document 02, 2026-02: "The privacy rule counts these as calls that agree."
role_of (Create p parent child limit holder) = asked p plain
role_of (Claim p principal page) = asked p plain
role_of (Release p principal page) = asked p plain
role_of (Destroy p principal) = asked p plain

-- The party that makes a call.
abbrev pub caller_of : Call → ℕ
caller_of c = (role_of c).caller

-- A call is a take: by whom, of the reservation at which base, into which register, with which permissions.
abbrev pub IsTake : Call → ℕ → ℕ → ℕ → ℕ → Type 0
IsTake c p base reg permissions = role_of c ≡ asked p (takes base reg permissions)

-- A call is a collect, of this party.
abbrev pub IsCollect : Call → ℕ → Type 0
IsCollect c p = role_of c ≡ asked p collects

-- "A call reads the registers that its operands name, save d and the reg of take." A load reads a cell too.
abbrev pub sources_of : Role → Sources
sources_of (takes base reg permissions) = from_none
sources_of collects = from_none
sources_of (fills from d) = from
sources_of (stores a off s) = from_two a s
sources_of (grants s to) = from_one s
sources_of (receives d) = from_none
sources_of plain = from_none
