-- Document 01, 'The strength of each promise', 3, and 'Missteps that look sound': the wrong machines, as one list, with those of document
-- 02's requests. Each is the rule with one thing changed, has the type of the rule that it replaces, and stands with a state, lent memory and a call for which it
-- leaves something else than the rule. Since every contract is an equation with the rule for every input, no such program can be
-- proved. Assumes nothing.
use Rattle.std.specs.Prelude.{ℕ, zero, suc, ◌+◌, ◌-◌, ◌*◌, Bool, not, ◌&&◌, List, [], ◌∷◌, ◌++◌, map, set, replicate, leb, eqb, Option, Some}
use Rattle.std.specs.Int.Bits.{bit_and}
use Rattle.capabilities.specs.declared.Range.{Range}
use Rattle.capabilities.specs.Capability.{permitted, permits}
use Rattle.capabilities.specs.Death.{dies}
use Rattle.capabilities.specs.Lists.{pick, Every}
use Rattle.pages.specs.declared.VirtualPage.{VirtualPage}
use Rattle.pages.specs.declared.PageState.TheVariants.{Unmapped}
use Rattle.pages.specs.Pages.{Pages, Paged}
use Rattle.pages.specs.Layer.{with_page}
use Rattle.pages.specs.Mapping.{paged, unmap_of}
use Rattle.pages.specs.Numbers.{page_code, frame_code}
use Rattle.sweep.specs.Sweep.{Passed, swept, passing, sweep_of}
use Rattle.table.specs.Table.{Table, Tabled}
use Rattle.table.specs.Table.{Taken as Took}
use Rattle.table.specs.Rows.{no_taker, several_takers, reservation, range_of}
use Rattle.table.specs.Find.{find_of, next_of, revoking_of, row_of, with_row}
use Rattle.table.specs.Operations.{tabled, take_of, split_of, merge_of}
use Rattle.table.specs.Numbers.{numbers_of as rowNumbers}
use Rattle.claims.specs.Claims.{claimed, with_unspent}
use Rattle.claims.specs.Operations.{create_of, claim_reasons, with_count, claim_of, release_of, destroy_reasons, destroy_of}
use Rattle.reservations.specs.Core.{Core, Cored, with_table}
use Rattle.reservations.specs.Revocation.{running, dying, revoke_of, collect_of}
use Rattle.calls.specs.declared.Call.{Call}
use Rattle.calls.specs.declared.Call.TheVariants.{Take, Split, Merge, Give, Revoke, Sweep, Collect, Map, Unmap, Zero, Load, Store, Number, Grant, TakeMasked, Create, Claim, Release, Destroy}
use Rattle.calls.specs.Commands.{page, frame}
use Rattle.words.specs.declared.Slot.{Slot}
use Rattle.words.specs.Words.{slot, empty, byte_of, tag_of, keep_tag, loaded, stored, collected_register, collected_mailbox}
use Rattle.words.specs.Lent.{cells_of, tag_bytes}
use Rattle.machine.specs.Formed.{answered, start_of}
use Rattle.machine.specs.Roles.{plain_permissions}
use Rattle.machine.specs.Effects.{with_claims}
use Rattle.machine.specs.Step.{Outcome, outcome_with, refused, with_core, step_of}
use Rattle.machine.specs.Forgetting.{start_bare}
use Rattle.cases.specs.Edges.{apart}
use Rattle.cases.specs.Variants.{Rule, Obeys, sweep_by, take_by, mask_by, plain_by, split_by, merge_by, revoke_by, end_by, unmap_by, store_by, load_by, collect_by, create_by, claim_by, release_by, destroy_by, claim_against, destroy_against, told_by}
use Rattle.cases.specs.WrongClaims.{takes_no_limit, spends_always, returns_always, drops_children, returns_unspent, own_may_destroy, passes_last, told_nothing, told_of_other, claim_numbers}

-- "A sweep that clears all on its first call and feigns the rest": it answers as the rule does.
unfoldable pub clears_all : Pages → Range → ℕ → ℕ → List ℕ → List ℕ → Passed
clears_all s r place n cells tags =
    passing (sweep_of s r place n cells tags).answer (sweep_of s r place (16 * s.f) cells tags).tags

-- A sweep with another number in its answer.
abbrev pub answering : ℕ → Passed → Passed
answering number p = passing (swept p.answer.code number p.answer.place) p.tags

-- "A sweep or take with an invented number": one more than the rule's.
unfoldable pub invents_left : Pages → Range → ℕ → ℕ → List ℕ → List ℕ → Passed
invents_left s r place n cells tags =
    let p = sweep_of s r place n cells tags in
    answering (p.answer.left + 1) p

unfoldable pub invents_length : Table → ℕ → ℕ → Took
invents_length t party base =
    let took = take_of t party base in
    record { code = took.code; length = took.length + 1; table = took.table }

-- "A split pleading a full table below 64": at 63.
unfoldable pub pleads_full : Table → ℕ → ℕ → ℕ → Tabled
pleads_full t party base len = pick (leb 63 t.count) (tabled 9 t t) (split_of t party base len)

-- Document 02, 2026-01: 11 that gives all of mask, where the rule gives the permissions in 15 that are also in it; or never more than 01.
abbrev pub gives_all : ℕ → ℕ
gives_all mask = mask

abbrev pub gives_plain : ℕ → ℕ
gives_plain mask = bit_and plain_permissions mask

-- 01 that still gives 15, as document 01 had it.
abbrev pub still_all : ℕ
still_all = 15

-- Document 02, 2026-04. A table with another taker in one row.
abbrev pub with_taker : Table → Option ℕ → ℕ → Table
with_taker t f taker =
    let r = row_of t f in
    with_row t f (reservation r.base r.length r.state r.holder taker)

-- A take that writes nobody down, or always the manager.
abbrev pub takes_for : (ℕ → ℕ) → Table → ℕ → ℕ → Took
takes_for taker t party base =
    let took = take_of t party base in
    record { code = took.code; length = took.length; table = with_taker took.table (find_of t party base) (taker party) }

unfoldable pub takes_for_nobody : Table → ℕ → ℕ → Took
takes_for_nobody = takes_for (λ party. no_taker)

unfoldable pub takes_for_manager : Table → ℕ → ℕ → Took
takes_for_manager = takes_for (λ party. 0)

-- A merge that keeps the lower one's taker, or says several of every two.
abbrev pub merges_for : (ℕ → ℕ) → Table → ℕ → ℕ → Tabled
merges_for taker t party base =
    let f = find_of t party base in
    let m = merge_of t party base in
    record { code = m.code; table = with_taker m.table f (taker (row_of t f).taker) }

unfoldable pub keeps_lower : Table → ℕ → ℕ → Tabled
keeps_lower = merges_for (λ lower. lower)

unfoldable pub says_several : Table → ℕ → ℕ → Tabled
says_several = merges_for (λ lower. several_takers)

-- A merge that joins only what one party took, so that its answer goes by a taker.
unfoldable pub joins_own : Table → ℕ → ℕ → Tabled
joins_own t party base =
    let f = find_of t party base in
    pick (eqb (row_of t f).taker (row_of t (next_of t f)).taker) (merge_of t party base) (tabled 7 t t)

-- A revoke and a collect that leave the taker as it was: 9 in the one that was Open, the party's in the one that is.
abbrev pub leaves_in : Core → Option ℕ → Cored → Cored
leaves_in c f r =
    record { code = r.code; core = with_table r.core (with_taker r.core.table f (row_of c.table f).taker) }

unfoldable pub revokes_for_nobody : Core → ℕ → ℕ → Cored
revokes_for_nobody c party base = leaves_in c (find_of c.table party base) (revoke_of c party base)

unfoldable pub collects_no_taker : Core → Cored
collects_no_taker c = leaves_in c (revoking_of c.table) (collect_of c)

-- Document 02, 2026-05. A load without the filter, as document 01 had it.
abbrev pub loads_dying : Core → Slot → Slot → Slot
loads_dying c a w = keep_tag w (permits a.cell 4)

-- One that filters when no revocation runs: by the first reservation, where none is Revoking.
unfoldable pub filters_at_rest : Core → Slot → Slot → Slot
filters_at_rest c a w =
    let range = range_of (row_of c.table (pick (running c) (revoking_of c.table) (Some 0))) in
    keep_tag w (permits a.cell 4 && not (dies range w.cell))

-- One that drops the number of a dying capability with its tag.
unfoldable pub drops_number : Core → Slot → Slot → Slot
drops_number c a w = pick (w.tag && dying c w.cell) empty (loaded c a w)

-- The tag byte at the place that a load reads, kept; and by one that clears the tag in memory too.
abbrev pub kept_byte : Core → Slot → ℕ → ℕ
kept_byte c w byte = byte

unfoldable pub clears_byte : Core → Slot → ℕ → ℕ
clears_byte c w byte = pick (dying c w.cell) 0 byte

-- "A machine that turns down every call": those that the rule refuses as the rule does, the others under 19.
unfoldable pub turns_down : Rule
turns_down s c cells tags =
    let o = step_of s c cells tags in
    pick (eqb o.answer.code 0) (refused 19 s cells tags) o

-- "One with a fixed answer": state and memory are the rule's.
unfoldable pub answers_alike : Rule
answers_alike s c cells tags =
    let o = step_of s c cells tags in
    outcome_with (answered 0 empty o.answer.state) o.cells o.tags

-- "One that changes no state": answer and memory are the rule's.
unfoldable pub keeps_state : Rule
keeps_state s c cells tags =
    let o = step_of s c cells tags in
    outcome_with (answered o.answer.code (slot o.answer.number o.answer.tag) s) o.cells o.tags

-- "Sweeping memory and forgetting registers and mailboxes": a word that a collect forgets. "Dropping the store filter": a word
-- that is stored as it is.
abbrev pub untouched : Core → Slot → Slot
untouched c w = w

-- "Making an unmapped page Unmapped, so that it is mapped again before its capabilities are gone."
unfoldable pub releases : Pages → VirtualPage → Bool → Paged
releases s page claimed =
    let p = unmap_of s page claimed in
    paged p.code s (with_page p.pages page.0 Unmapped)

-- How many tags are set.
unfoldable pub tagged : List ℕ → ℕ
tagged [] = 0
tagged (t ∷ tags) = byte_of (tag_of t) + tagged tags

-- "Answering a sweep with the tags it cleared, which tells the manager what a house stored."
unfoldable pub tells_tags : Pages → Range → ℕ → ℕ → List ℕ → List ℕ → Passed
tells_tags s r place n cells tags =
    let p = sweep_of s r place n cells tags in
    answering (tagged tags - tagged p.tags) p

-- Beside document 01's: a refusal that does not keep every bit, against "every bit of state and memory kept"; it clears cell 0.
unfoldable pub refusal_writes : Rule
refusal_writes s c cells tags =
    let o = step_of s c cells tags in
    outcome_with o.answer (pick (eqb o.answer.code 0) o.cells (set o.cells 0 0)) o.tags

-- A wrong machine, the same shape with the rule in the place of what is wrong, and what stands before a call, with the call.
pub record Wrong : Type 0 where
  pub wrong : Rule
  pub right : Rule
  pub before : Outcome
  pub call : Call

abbrev pub entry : {A : Type 0} → (A → Rule) → A → A → Outcome → Call → Wrong
entry by wrong right before call = record { wrong = by wrong; right = by right; before = before; call = call }

-- What calls leave, one after the other; those of an entry begin with a fresh start of two pages and one frame, or four and one.
unfoldable pub after : Outcome → List Call → Outcome
after o [] = o
after o (c ∷ rest) = after (step_of o.answer.state c o.cells o.tags) rest

unfoldable pub from : ℕ → List Call → Outcome
from v calls = after (outcome_with (start_of v 1) (replicate 16 0) (replicate 16 0)) calls

-- Party 0 takes cells 0 to 15 into register 0, and 16 to 31, which the frame shows, into register 1 with all permissions; there it stores a number
-- at offset 0 and the first capability at offset 5, which it also grants to party 3.
unfoldable pub lent : List Call
lent =
    Zero 0 (frame 0)
    ∷ Map 0 (page 1) (frame 0)
    ∷ Split 0 0 16
    ∷ Take 0 0 0
    ∷ TakeMasked 0 16 1 15
    ∷ Number 0 2 42 ∷ Store 0 1 0 2 ∷ Store 0 1 5 0 ∷ Grant 0 0 3 ∷ []

-- Cells 0 to 15 are revoked, and some of the sixteen cells of memory swept.
abbrev pub revoking : ℕ → List Call
revoking n = lent ++ (Revoke 0 0 ∷ Sweep 0 n ∷ [])

-- Splits of one cell each, from a cell on.
unfoldable pub splits : ℕ → ℕ → List Call
splits base zero = []
splits base (suc n) = Split 0 base 1 ∷ splits (base + 1) n

-- Party 0 takes cells 0 to 15, and a party, given them, 16 to 31.
unfoldable pub neighbours : ℕ → List Call
neighbours party = Split 0 0 16 ∷ Give 0 16 party ∷ Take 0 0 0 ∷ Take party 16 1 ∷ []

-- Principal 1 is made under 0, held by a party, then 2 under 1 and 3 under 2.
unfoldable pub family : ℕ → List Call
family party = Create 0 0 1 100 party ∷ Create party 1 2 50 party ∷ Create party 2 3 20 party ∷ []

-- A start after so many claims of page 0 by principal 0, written down at once.
unfoldable pub counted : ℕ → Outcome
counted n =
    let o = from 2 [] in
    let s = o.answer.state in
    let k = with_count (with_unspent s.core.claims 0 8191) 0 0 n in
    outcome_with (answered 0 empty (with_core s (with_claims s.core k))) o.cells o.tags

unfoldable pub machines : List Wrong
machines =
    -- The six that must be unprovable.
    entry sweep_by clears_all sweep_of (from 2 (revoking 0)) (Sweep 0 3)
    ∷ entry sweep_by invents_left sweep_of (from 2 (revoking 0)) (Sweep 0 3)
    ∷ entry take_by invents_length take_of (from 2 []) (Take 0 0 0)
    ∷ entry split_by pleads_full split_of (from 4 (splits 0 62)) (Split 0 62 1)
    ∷ entry (λ m. m) turns_down step_of (from 2 []) (Take 0 0 0)
    ∷ entry (λ m. m) answers_alike step_of (from 2 []) (Take 0 0 0)
    ∷ entry (λ m. m) keeps_state step_of (from 2 []) (Take 0 0 0)
    -- The four missteps.
    ∷ entry (λ f. collect_by f collected_mailbox) untouched collected_register (from 2 (revoking 16)) (Collect 0)
    ∷ entry (λ f. collect_by collected_register f) untouched collected_mailbox (from 2 (revoking 16)) (Collect 0)
    ∷ entry store_by untouched stored (from 2 (revoking 8)) (Store 0 1 2 0)
    ∷ entry unmap_by releases unmap_of (from 2 lent) (Unmap 0 (page 1))
    ∷ entry sweep_by tells_tags sweep_of (from 2 (revoking 0)) (Sweep 0 16)
    -- Beside them.
    ∷ entry (λ m. m) refusal_writes step_of (from 2 lent) (Load 0 1 16 3)
    -- Plain permissions on take.
    ∷ entry mask_by gives_all permitted (from 2 []) (TakeMasked 0 0 0 0xFF)
    ∷ entry mask_by gives_plain permitted (from 2 []) (TakeMasked 0 0 0 0x0F)
    ∷ entry plain_by still_all plain_permissions (from 2 []) (Take 0 0 0)
    -- Who took it, written down.
    ∷ entry take_by takes_for_nobody take_of (from 2 []) (Take 0 0 0)
    ∷ entry take_by takes_for_manager take_of (from 2 (Give 0 0 3 ∷ [])) (Take 3 0 0)
    ∷ entry merge_by keeps_lower merge_of (from 2 (neighbours 3)) (Merge 0 0)
    ∷ entry merge_by says_several merge_of (from 2 (neighbours 0)) (Merge 0 0)
    ∷ entry merge_by joins_own merge_of (from 2 (neighbours 3)) (Merge 0 0)
    ∷ entry revoke_by revokes_for_nobody revoke_of (from 2 []) (Revoke 0 0)
    ∷ entry end_by collects_no_taker collect_of (from 2 (revoking 16)) (Collect 0)
    -- The new board filters loads. Offset 5 of register 1 holds the capability to cells 0 to 15, which are revoked.
    ∷ entry (λ f. load_by f f kept_byte) loads_dying loaded (from 2 (revoking 0)) (Load 0 1 5 3)
    ∷ entry (λ f. load_by f loaded kept_byte) loads_dying loaded (from 2 (revoking 0)) (Load 0 1 5 3)
    ∷ entry (λ f. load_by loaded f kept_byte) loads_dying loaded (from 2 (revoking 0)) (Load 0 1 5 3)
    ∷ entry (λ f. load_by loaded loaded f) clears_byte kept_byte (from 2 (revoking 0)) (Load 0 1 5 3)
    ∷ entry (λ f. load_by f f kept_byte) filters_at_rest loaded (from 2 lent) (Load 0 1 5 3)
    ∷ entry (λ f. load_by f f kept_byte) drops_number loaded (from 2 (revoking 0)) (Load 0 1 5 3)
    -- Claims on pages. The frame shows page 1.
    ∷ entry create_by takes_no_limit create_of (from 2 []) (Create 0 0 1 100 3)
    ∷ entry claim_by spends_always claim_of (from 2 (Claim 0 0 (page 1) ∷ [])) (Claim 0 0 (page 1))
    ∷ entry release_by returns_always release_of (from 2 (Claim 0 0 (page 1) ∷ Claim 0 0 (page 1) ∷ [])) (Release 0 0 (page 1))
    ∷ entry destroy_by drops_children destroy_of (from 2 (family 3)) (Destroy 0 1)
    ∷ entry destroy_by returns_unspent destroy_of (from 2 (family 3 ++ (Claim 3 1 (page 0) ∷ []))) (Destroy 0 1)
    ∷ entry destroy_against own_may_destroy destroy_reasons (from 2 (family 3)) (Destroy 3 1)
    ∷ entry claim_against passes_last claim_reasons (counted 65535) (Claim 0 0 (page 0))
    ∷ entry told_by told_nothing (λ k n. claimed k n) (from 2 (lent ++ (Claim 0 0 (page 1) ∷ []))) (Unmap 0 (page 1))
    ∷ entry told_by told_of_other (λ k n. claimed k n) (from 2 (lent ++ (Claim 0 0 (page 0) ∷ []))) (Unmap 0 (page 1)) ∷ []

-- All numbers of an outcome, so that outcomes with different numbers differ.
unfoldable pub numbers : Outcome → List ℕ
numbers o =
    let a = o.answer in
    let s = a.state in
    let p = s.core.pages in
    (a.code ∷ a.number ∷ byte_of a.tag ∷ p.v ∷ p.f ∷ s.core.table.count ∷ s.core.place ∷ [])
    ++ (map (λ e. page_code e.state) p.pages
    ++ (map (λ e. frame_code e.state) p.frames
    ++ (rowNumbers s.core.table
    ++ (cells_of s.registers
    ++ (tag_bytes s.registers
    ++ (cells_of s.mailboxes ++ (tag_bytes s.mailboxes ++ (claim_numbers s.core.claims ++ (o.cells ++ o.tags)))))))))

abbrev pub leaves : Rule → Wrong → Outcome
leaves m w = m w.before.answer.state w.call w.before.cells w.before.tags

unfoldable pub differs : Rule → Wrong → Bool
differs m w = apart numbers (leaves m w) (leaves step_of w)

-- The wrong machine's outcome differs from the rule's; as a control, that of the right one in the same shape does not (that it
-- never does is proved in `Shapes`).
unfoldable pub shown : Wrong → Bool
shown w = differs w.wrong w && not (differs w.right w)

-- A start whose table has taker 0 is no start: its state is not well formed, and every call on it is refused.
unfoldable pub start_refused : Call → Bool
start_refused c = eqb (step_of (start_bare 2 1).state c (replicate 16 0) (replicate 16 0)).answer.code 1

-- None of the wrong machines obeys the rule.
abbrev pub NoneObeys : List Wrong → Type 0
NoneObeys = Every (λ w. Obeys w.wrong → ⊥)
