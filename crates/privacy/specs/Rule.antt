-- Document 01, 'The privacy rule', sentence by sentence. What it asks of a call is its caller and its role, by the one table of the kinds
-- of call (machine, Roles). Assumes nothing.
use Rattle.std.specs.Prelude.{ℕ, ◌+◌, Bool, true, false, not, ◌&&◌, ◌||◌, List, [], ◌∷◌, map, ◌≡◌, eqb, ltb, leb, Option, Some, None}
use Rattle.capabilities.specs.declared.Range.{Range}
use Rattle.capabilities.specs.Capability.{base_of, length_of}
use Rattle.capabilities.specs.Lists.{pick}
use Rattle.capabilities.specs.Range.{inside}
use Rattle.pages.specs.Mapping.{lookup_of}
use Rattle.table.specs.Table.{Table}
use Rattle.table.specs.Find.{find_of, row_of}
use Rattle.table.specs.Rows.{range_of}
use Rattle.reservations.specs.Revocation.{revoked}
use Rattle.calls.specs.declared.Call.{Call}
use Rattle.words.specs.declared.Slot.{Slot}
use Rattle.words.specs.Words.{empty, named, register_of, mailbox_of, word_at, stored}
use Rattle.machine.specs.State.{Answered}
use Rattle.machine.specs.State.{State}
use Rattle.machine.specs.Roles.{Role, takes, collects, fills, stores, grants, receives, plain, role_of, caller_of}
use Rattle.machine.specs.Reasons.{reads}
use Rattle.histories.specs.Runs.{Machine, outcome, next, granted}

-- The call is the house's.
abbrev pub housed : ℕ → Call → Bool
housed house c = eqb (caller_of c) house

-- "Its range is the cells of the reservation in one of its granted takes": of the one that the house holds and that begins at base.
unfoldable pub taken_range : Table → ℕ → ℕ → Range
taken_range t house base = range_of (row_of t (find_of t house base))

-- "Its time begins after that take" and lasts, with its range; then it is over.
pub data Time : Type 0 where
  lasting : Range → Time
  over : Time

-- A range contains all of another.
abbrev pub contains : Range → Range → Bool
contains outer inner = leb outer.base inner.base && leb (inner.base + inner.length) (outer.base + outer.length)

abbrev pub collecting : Role → Bool
collecting (takes base reg permissions) = false
collecting collects = true
collecting (fills from d) = false
collecting (stores a off x) = false
collecting (grants x to) = false
collecting (receives d) = false
collecting plain = false

abbrev pub is_collect : Call → Bool
is_collect c = collecting (role_of c).role

-- "It ends with the first granted collect after that take of a revocation whose range contains all of the house's range".
unfoldable pub ending : Range → Machine → Call → Bool
ending r m c = (is_collect c && granted m c) && contains (revoked m.state.core) r

unfoldable pub until : Time → Machine → Call → Time
until (lasting r) m c = pick (ending r m c) over (lasting r)
until over m c = over

-- ".. or with the list if none comes": the time after a list of calls.
unfoldable pub time_after : Time → Machine → List Call → Time
time_after t m [] = t
time_after t m (c ∷ l) = time_after (until t m c) (next m c) l

-- "A capability is into the range if one of its cells, base to base + length − 1, lies there": neither is empty, and each
-- begins before the other ends. (The law `into_cell` says it by a cell.)
unfoldable pub into : Range → ℕ → Bool
into r c =
    (ltb 0 (length_of c) && ltb 0 r.length) && (ltb (base_of c) (r.base + r.length) && ltb r.base (base_of c + length_of c))

-- A word is a capability into the range.
abbrev pub capability_into : Range → Slot → Bool
capability_into r w = w.tag && into r w.cell

-- "A store, granted or refused, is aimed into the range if its a holds a capability into the range, or if the cell at
-- base + off lies there, base being bits 0 to 15 of a, tagged or not." One whose party or a is above 7 has no a.
unfoldable pub aimed : Range → State → ℕ → ℕ → ℕ → Bool
aimed r s p a off =
    let w = register_of s.registers p a in
    (named p && named a) && (capability_into r w || inside r (base_of w.cell + off))

-- "The house's loads, narrows, numbers and aimed stores": those of a party p by their role.
abbrev pub strikes : Range → State → ℕ → Role → Bool
strikes r s p (takes base reg permissions) = false
strikes r s p collects = false
strikes r s p (fills from d) = true
strikes r s p (stores a off x) = aimed r s p a off
strikes r s p (grants x to) = false
strikes r s p (receives d) = false
strikes r s p plain = false

abbrev pub private : Range → State → Call → Bool
private r s c = strikes r s (caller_of c) (role_of c).role

-- "Strike from each list the house's loads, narrows, numbers and aimed stores in its time."
unfoldable pub struck : ℕ → Time → Machine → Call → Bool
struck house (lasting r) m c = housed house c && private r m.state c
struck house over m c = false

-- The words in the registers that a call reads.
pub record Registers : Type 0 where
  pub one : Slot
  pub two : Slot

abbrev pub in_registers : Slot → Slot → Registers
in_registers one two = record { one = one; two = two }

-- A call that is left. "A call reads the registers that its operands name, save d and the reg of take": with it stand the
-- registers that it reads if it is the house's, and none otherwise. Of what it reads in lent memory nothing is asked.
pub record Left : Type 0 where
  pub call : Call
  pub registers : Registers

unfoldable pub remaining : ℕ → Machine → Call → Left
remaining house m c =
    let r = reads m.state.core m.state.registers m.cells m.tags c in
    record { call = c; registers = pick (housed house c) (in_registers r.one r.two) (in_registers empty empty) }

-- "What is left", in order.
unfoldable pub left : ℕ → Time → Machine → List Call → List Left
left house t m [] = []
left house t m (c ∷ l) =
    let rest = left house (until t m c) (next m c) l in
    pick (struck house t m c) rest (remaining house m c ∷ rest)

-- A call of party p "grants a capability into the range or stores one to a cell outside", by its role. What the filter strips
-- of its tag is none.
abbrev pub hands_out : Range → State → ℕ → Role → Bool
hands_out r s p (takes base reg permissions) = false
hands_out r s p collects = false
hands_out r s p (fills from d) = false
hands_out r s p (stores a off x) =
    capability_into r (stored s.core (register_of s.registers p x))
    && not (inside r (base_of (register_of s.registers p a).cell + off))
hands_out r s p (grants x to) = capability_into r (register_of s.registers p x)
hands_out r s p (receives d) = false
hands_out r s p plain = false

abbrev pub betrays : Range → State → Call → Bool
betrays r s c = hands_out r s (caller_of c) (role_of c).role

-- A granted one of the house's calls, in its time, that is left and betrays.
unfoldable pub indiscreet : ℕ → Time → Machine → Call → Bool
indiscreet house (lasting r) m c =
    (housed house c && granted m c) && (not (struck house (lasting r) m c) && betrays r m.state c)
indiscreet house over m c = false

-- "In its time no granted one of these grants a capability into the range or stores one to a cell outside."
unfoldable pub discreet : ℕ → Time → Machine → List Call → Bool
discreet house t m [] = true
discreet house t m (c ∷ l) = not (indiscreet house t m c) && discreet house (until t m c) (next m c) l

-- "Code, number and tag".
pub record Told : Type 0 where
  pub code : ℕ
  pub number : ℕ
  pub tag : Bool

abbrev pub told : Answered → Told
told a = record { code = a.code; number = a.number; tag = a.tag }

-- "Every answer to the other parties, in order".
unfoldable pub heard : ℕ → Machine → List Call → List Told
heard house m [] = []
heard house m (c ∷ l) =
    let rest = heard house (next m c) l in
    pick (housed house c) rest (told (outcome m c).answer ∷ rest)

-- What is seen of a virtual cell: nothing where its page is not Mapped, or else its number and tag.
pub data Sight : Type 0 where
  dark : Sight
  shown : Slot → Sight

abbrev pub sight_at : Option ℕ → List ℕ → List ℕ → Sight
sight_at None cells tags = dark
sight_at (Some at) cells tags = shown (word_at cells tags at)

unfoldable pub sight : Machine → ℕ → Sight
sight m v = sight_at (lookup_of m.state.core.pages v) m.cells m.tags

-- The cells that are not compared: those in the range, while the time lasts.
unfoldable pub hidden : Time → ℕ → Bool
hidden (lasting r) v = inside r v
hidden over v = false

-- Document 02, 2026-04: who took each of the table's reservations.
abbrev pub takers_in : Machine → List ℕ
takers_in m = map (λ r. r.taker) m.state.core.table.rows

-- "Compared after both lists are: .. the registers and mailbox of each other party; which cells outside the range lie in
-- Mapped pages, with number and tag; and, if the collect came, the same inside the range." By document 02, "takers are equal too".
pub record Alike (house : ℕ) (t : Time) (g h : Machine) : Type 0 where
  pub registers : (p r : ℕ) → (p ≡ house → ⊥) → register_of g.state.registers p r ≡ register_of h.state.registers p r
  pub mailboxes : (p : ℕ) → (p ≡ house → ⊥) → mailbox_of g.state.mailboxes p ≡ mailbox_of h.state.mailboxes p
  pub cells : (v : ℕ) → hidden t v ≡ false → sight g v ≡ sight h v
  pub takers : takers_in g ≡ takers_in h
