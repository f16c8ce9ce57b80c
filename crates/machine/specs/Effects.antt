-- Document 01, 'Commands': what a granted call does, as data: the new core, at most one change each of registers,
-- mailboxes and memory, and the answer. It depends on the core, the mailboxes and what the call reads, and on nothing else. Assumes nothing.
use Rattle.std.specs.Prelude.{ℕ, true, false, List, [], ◌∷◌, get_or}
use Rattle.capabilities.specs.declared.Range.{Range}
use Rattle.capabilities.specs.Capability.{capability, narrowed, permitted}
use Rattle.pages.specs.declared.Frame.{Frame}
use Rattle.pages.specs.declared.FrameState.TheVariants.{Free}
use Rattle.pages.specs.Pages.{Pages}
use Rattle.pages.specs.Layer.{with_frame}
use Rattle.pages.specs.Mapping.{map_of, unmap_of}
use Rattle.sweep.specs.Sweep.{swept_from}
use Rattle.table.specs.Table.{Table}
use Rattle.table.specs.Operations.{take_of, split_of, merge_of, give_of}
use Rattle.claims.specs.Claims.{Claims, claimed}
use Rattle.claims.specs.Operations.{create_of, claim_of, release_of, destroy_of}
use Rattle.reservations.specs.Core.{Core, with_place}
pub use Rattle.reservations.specs.Core.{with_table, with_pages, with_claims}
use Rattle.reservations.specs.Revocation.{revoked, revoke_of, collect_of}
use Rattle.calls.specs.declared.Call.{Call}
use Rattle.calls.specs.declared.Call.TheVariants.{Take, Split, Merge, Give, Revoke, Sweep, Collect, Map, Unmap, Zero, Load, Store, Narrow, Number, Grant, Receive, TakeMasked, Create, Claim, Release, Destroy}
use Rattle.words.specs.declared.Slot.{Slot}
use Rattle.words.specs.Words.{slot, empty, mailbox_of, place_number, stored}
use Rattle.machine.specs.Roles.{plain_permissions}
use Rattle.machine.specs.Reasons.{Reads, addressed}

-- What becomes of the registers: nothing; a word is put into one of a party's; or the capabilities that die lose their tags.
pub data RegisterChange : Type 0 where
  keep_registers : RegisterChange
  put_register : ℕ → ℕ → Slot → RegisterChange
  collect_registers : RegisterChange

-- What becomes of the mailboxes: nothing; a word is put into a party's; or the capabilities that die are gone.
pub data MailboxChange : Type 0 where
  keep_mailboxes : MailboxChange
  put_mailbox : ℕ → Slot → MailboxChange
  collect_mailboxes : MailboxChange

-- A word that is written at a place of lent memory.
pub record Write : Type 0 where
  pub at : ℕ
  pub word : Slot

abbrev pub write : ℕ → Slot → Write
write at w = record { at = at; word = w }

-- What becomes of lent memory: nothing; words are written, one after the other; a frame is cleared; or the cells from one place
-- up to another are swept of capabilities into a range.
pub data MemoryChange : Type 0 where
  keep_memory : MemoryChange
  write_words : List Write → MemoryChange
  clear_frame : Frame → MemoryChange
  sweep_cells : Range → ℕ → ℕ → MemoryChange

-- The answer is a number and a tag.
pub record Effect : Type 0 where
  pub core : Core
  pub registers : RegisterChange
  pub mailboxes : MailboxChange
  pub memory : MemoryChange
  pub answer : Slot

abbrev pub effect_of : Core → RegisterChange → MailboxChange → MemoryChange → Slot → Effect
effect_of c r m l w = record { core = c; registers = r; mailboxes = m; memory = l; answer = w }

-- "An answer is a code, a number and a tag .. number and tag are 0 where nothing above names them."
abbrev pub table_change : Core → Table → Effect
table_change c t = effect_of (with_table c t) keep_registers keep_mailboxes keep_memory empty

abbrev pub page_change : Core → Pages → Effect
page_change c p = effect_of (with_pages c p) keep_registers keep_mailboxes keep_memory empty

abbrev pub claims_change : Core → Claims → Effect
claims_change c x = effect_of (with_claims c x) keep_registers keep_mailboxes keep_memory empty

-- 06: "Passes the next n cells of lent memory .. Answers the cells left", both by the sweep's own rule; and the place that it reaches.
abbrev pub sweeping : Core → ℕ → Effect
sweeping c n =
    let a = swept_from c.pages c.place n in
    effect_of (with_place c a.place) keep_registers keep_mailboxes (sweep_cells (revoked c) c.place a.place) (slot a.left false)

abbrev pub swept_to : Core → ℕ → ℕ
swept_to c n = (swept_from c.pages c.place n).place

-- 01 and 11: "Open becomes Taken with holder 0; reg gets a capability for it with permissions .. Answers the length."
abbrev pub taking : Core → ℕ → ℕ → ℕ → ℕ → Effect
taking c p base reg permissions =
    let taken = take_of c.table p base in
    effect_of (with_table c taken.table) (put_register p reg (slot (capability base taken.length permissions) true)) keep_mailboxes keep_memory
    (slot taken.length false)

unfoldable pub effect : Core → List Slot → Reads → Call → Effect
-- 01 take, and 11 with its mask.
effect c mail r (Take p base reg) = taking c p base reg plain_permissions
effect c mail r (TakeMasked p base reg mask) = taking c p base reg (permitted mask)
-- 02 split, 03 merge, 04 give: the table's own rules.
effect c mail r (Split p base len) = table_change c (split_of c.table p base len).table
effect c mail r (Merge p base) = table_change c (merge_of c.table p base).table
effect c mail r (Give p base to) = table_change c (give_of c.table p base to).table
-- 05 revoke: the core's own rule.
effect c mail r (Revoke p base) = effect_of (revoke_of c p base).core keep_registers keep_mailboxes keep_memory empty
-- 06 sweep.
effect c mail r (Sweep p n) = sweeping c n
-- 07 collect: "Clears, in all registers and mailboxes, the tag of capabilities with base in the range."
effect c mail r (Collect p) = effect_of (collect_of c).core collect_registers collect_mailboxes keep_memory empty
-- 08 map, 09 unmap: the page layer's own rules. 0A zero: "its cells and tags become 0, and the frame Free."
effect c mail r (Map p page frame) = page_change c (map_of c.pages page frame).pages
effect c mail r (Unmap p page) = page_change c (unmap_of c.pages page (claimed c.claims page.0)).pages
effect c mail r (Zero p frame) =
    effect_of (with_pages c (with_frame c.pages frame.0 Free)) keep_registers keep_mailboxes (clear_frame frame) empty
-- 0B load: "The cell at base + off of the capability in a goes to d and is the answer": the one word that it reads in lent memory.
effect c mail r (Load p a off d) =
    let word = get_or r.words 0 empty in
    effect_of c (put_register p d word) keep_mailboxes keep_memory word
-- 0C store: "Register s goes to that cell."
effect c mail r (Store p a off s) =
    effect_of c keep_registers keep_mailboxes (write_words (write (place_number (addressed c r.one off)) (stored c r.two) ∷ [])) empty
-- 0D narrow: "d gets base + off, len, and the permissions that are also in mask."
effect c mail r (Narrow p s off len mask d) =
    effect_of c (put_register p d (slot (narrowed r.one.cell off len mask) true)) keep_mailboxes keep_memory empty
-- 0E number: "d holds the value, untagged."
effect c mail r (Number p d value) = effect_of c (put_register p d (slot value false)) keep_mailboxes keep_memory empty
-- 0F grant: "Copies into the mailbox of `to`." 10 receive: "Moves the caller's mailbox to d; answers it."
effect c mail r (Grant p s to) = effect_of c keep_registers (put_mailbox to r.one) keep_memory empty
effect c mail r (Receive p d) = effect_of c (put_register p d (mailbox_of mail p)) (put_mailbox p empty) keep_memory (mailbox_of mail p)
-- 12 create, 13 claim, 14 release, 15 destroy: the claims' own rules.
effect c mail r (Create p parent child limit holder) = claims_change c (create_of c.claims parent child limit holder)
effect c mail r (Claim p principal page) = claims_change c (claim_of c.claims principal page.0)
effect c mail r (Release p principal page) = claims_change c (release_of c.claims principal page.0)
effect c mail r (Destroy p principal) = claims_change c (destroy_of c.claims principal)
