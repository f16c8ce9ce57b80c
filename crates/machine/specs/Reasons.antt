-- Document 01, 'Why a call is turned down', 4 to 19, and document 02's 20 to 22: for each kind of call the reasons against it, in the order
-- of their numbers. They look at the core, the mailboxes and what the call reads, and at nothing else. Assumes nothing.
use Rattle.std.specs.Prelude.{ℕ, ◌+◌, not, ◌||◌, List, [], ◌∷◌, eqb, Option}
use Rattle.capabilities.specs.Capability.{base_of}
use Rattle.capabilities.specs.Lists.{pick}
use Rattle.capabilities.specs.Refusals.{Reason, reason, first}
use Rattle.pages.specs.Mapping.{no_page, lookup_of, map_reasons, unmap_reasons, dirty_reasons}
use Rattle.table.specs.Operations.{take_reasons, split_reasons, merge_reasons, give_reasons}
use Rattle.claims.specs.Claims.{claimed}
use Rattle.claims.specs.Operations.{create_reasons, claim_reasons, release_reasons, destroy_reasons}
use Rattle.reservations.specs.Core.{Core}
use Rattle.reservations.specs.Revocation.{running, revoke_reasons, collect_reasons}
use Rattle.calls.specs.declared.Call.{Call}
use Rattle.calls.specs.declared.Call.TheVariants.{Take, Split, Merge, Give, Revoke, Sweep, Collect, Map, Unmap, Zero, Load, Store, Narrow, Number, Grant, Receive, TakeMasked, Create, Claim, Release, Destroy}
use Rattle.words.specs.declared.Slot.{Slot}
use Rattle.words.specs.WordReasons.{unnamed, not_manager, may_not_load, cell_reasons, load_reasons, store_reasons, narrow_reasons, grant_reasons, receive_reasons}
use Rattle.words.specs.Words.{empty, register_of, mailbox_of, place_number, word_at, loaded}
use Rattle.machine.specs.Roles.{Sources, from_none, from_one, from_two, from_cell, role_of, caller_of, sources_of}

-- The highest number of a refusal.
abbrev pub last_refusal : ℕ
last_refusal = 22

-- The words that a call reads: in registers, at most two, in the order of its operands; and in lent memory, as loaded.
pub record Reads : Type 0 where
  pub one : Slot
  pub two : Slot
  pub words : List Slot

abbrev pub reading : Slot → Slot → List Slot → Reads
reading one two words = record { one = one; two = two; words = words }

-- The place in lent memory of the cell at base + off of the capability in a.
unfoldable pub addressed : Core → Slot → ℕ → Option ℕ
addressed c a off = lookup_of c.pages (base_of a.cell + off)

-- The word at that cell, as a load through a makes it.
abbrev pub fetched : Core → List ℕ → List ℕ → Slot → ℕ → Slot
fetched c cells tags a off = loaded c a (word_at cells tags (place_number (addressed c a off)))

-- What a load through a reads in lent memory: that word where nothing speaks against the load, and none where something does.
unfoldable pub found : Core → List ℕ → List ℕ → Slot → ℕ → Slot
found c cells tags a off = pick (eqb (first (cell_reasons (may_not_load a) a off (addressed c a off))) 0) (fetched c cells tags a off) empty

-- What a party reads of these sources.
abbrev pub words_in : Core → List Slot → List ℕ → List ℕ → ℕ → Sources → Reads
words_in c registers cells tags p from_none = reading empty empty []
words_in c registers cells tags p (from_one a) = reading (register_of registers p a) empty []
words_in c registers cells tags p (from_two a s) = reading (register_of registers p a) (register_of registers p s) []
words_in c registers cells tags p (from_cell a off) =
    let from = register_of registers p a in
    reading from empty (found c cells tags from off ∷ [])

-- What a call reads: the words in those registers of its caller, and at those cells, that its role names.
abbrev pub reads : Core → List Slot → List ℕ → List ℕ → Call → Reads
reads c registers cells tags call = words_in c registers cells tags (caller_of call) (sources_of (role_of call).role)

-- 01 and 11, which "is otherwise take".
abbrev pub taking_reasons : Core → ℕ → ℕ → ℕ → List Reason
taking_reasons c p base reg = reason 4 (unnamed p || unnamed reg) ∷ take_reasons c.table p base

-- The reasons against a call, given the core, the mailboxes and what it reads.
unfoldable pub reasons : Core → List Slot → Reads → Call → List Reason
reasons c mail r (Take p base reg) = taking_reasons c p base reg
reasons c mail r (Split p base len) = reason 4 (unnamed p) ∷ split_reasons c.table p base len
reasons c mail r (Merge p base) = reason 4 (unnamed p) ∷ merge_reasons c.table p base
reasons c mail r (Give p base to) = reason 4 (unnamed p || unnamed to) ∷ give_reasons c.table p base
reasons c mail r (Revoke p base) = reason 4 (unnamed p) ∷ reason 5 (not_manager p) ∷ revoke_reasons c p base
reasons c mail r (Sweep p n) = reason 4 (unnamed p) ∷ reason 5 (not_manager p) ∷ reason 11 (not (running c)) ∷ []
reasons c mail r (Collect p) = reason 4 (unnamed p) ∷ reason 5 (not_manager p) ∷ collect_reasons c
reasons c mail r (Map p page frame) = reason 4 (unnamed p) ∷ reason 5 (not_manager p) ∷ map_reasons c.pages page frame
reasons c mail r (Unmap p page) = reason 4 (unnamed p) ∷ reason 5 (not_manager p) ∷ unmap_reasons c.pages page (claimed c.claims page.0)
reasons c mail r (Zero p frame) = reason 4 (unnamed p) ∷ reason 5 (not_manager p) ∷ dirty_reasons c.pages frame
reasons c mail r (Load p a off d) = load_reasons p a d r.one off (addressed c r.one off)
reasons c mail r (Store p a off s) = store_reasons p a s r.one r.two off (addressed c r.one off)
reasons c mail r (Narrow p s off len mask d) = narrow_reasons p s d r.one off len
reasons c mail r (Number p d value) = reason 4 (unnamed p || unnamed d) ∷ []
reasons c mail r (Grant p s to) = grant_reasons p s to r.one (mailbox_of mail to)
reasons c mail r (Receive p d) = receive_reasons p d (mailbox_of mail p)
reasons c mail r (TakeMasked p base reg mask) = taking_reasons c p base reg
reasons c mail r (Create p parent child limit holder) = reason 4 (unnamed p || unnamed holder) ∷ create_reasons c.claims p parent child limit
reasons c mail r (Claim p principal page) =
    reason 4 (unnamed p) ∷ reason 12 (no_page c.pages page) ∷ claim_reasons c.claims p principal page.0
reasons c mail r (Release p principal page) =
    reason 4 (unnamed p) ∷ reason 12 (no_page c.pages page) ∷ release_reasons c.claims p principal page.0
reasons c mail r (Destroy p principal) = reason 4 (unnamed p) ∷ destroy_reasons c.claims p principal
