-- The rule with one part replaced by another of the same type. The wrong machines have these shapes; with the rule's own part each is
-- the rule (`Shapes`). Assumes nothing.
use Rattle.std.specs.Prelude.{ℕ, ◌+◌, ◌*◌, Bool, false, ◌&&◌, List, ◌∷◌, map, ◌≡◌, length, get_or, set, eqb}
use Rattle.capabilities.specs.declared.Range.{Range}
use Rattle.capabilities.specs.Lists.{pick}
use Rattle.capabilities.specs.Refusals.{Reason, reason, first}
use Rattle.pages.specs.declared.VirtualPage.{VirtualPage}
use Rattle.pages.specs.Pages.{Pages, Paged}
use Rattle.pages.specs.Layer.{serves}
use Rattle.pages.specs.Mapping.{no_page, unmap_reasons, unmap_of}
use Rattle.sweep.specs.Sweep.{Passed}
use Rattle.table.specs.Table.{Table, Tabled}
use Rattle.table.specs.Table.{Taken as Took}
use Rattle.claims.specs.Claims.{Claims, claimed}
use Rattle.reservations.specs.Core.{Core, Cored, with_place}
use Rattle.reservations.specs.Revocation.{revoked}
use Rattle.calls.specs.declared.Call.{Call}
use Rattle.calls.specs.Commands.{page, operands_of}
use Rattle.calls.specs.Commands.{byte_of as kind_of}
use Rattle.words.specs.declared.Slot.{Slot}
use Rattle.words.specs.Words.{slot, empty, byte_of, place_number, word_at}
use Rattle.words.specs.WordReasons.{unnamed, not_manager}
use Rattle.machine.specs.State.{State}
use Rattle.machine.specs.Formed.{well_formed, answered}
use Rattle.machine.specs.Reasons.{reads, addressed}
use Rattle.machine.specs.Effects.{Effect, with_table, with_pages, page_change, claims_change, taking}
use Rattle.machine.specs.Step.{Outcome, outcome_with, refused, done, effect_on, with_core, step_of, is_granted}

-- What a step is: the type of the rule `step_of`.
abbrev pub Rule : Type 0
Rule = State → Call → List ℕ → List ℕ → Outcome

-- A machine that leaves what the rule leaves, of every state, call and lent memory.
abbrev pub Obeys : Rule → Type 0
Obeys m = (s : State) (c : Call) (cells tags : List ℕ) → m s c cells tags ≡ step_of s c cells tags

-- The rule, but that a granted call of one kind leaves what is made of state, call, memory and the rule's own outcome.
unfoldable pub instead : ℕ → (State → Call → List ℕ → List ℕ → Outcome → Outcome) → Rule
instead kind made s c cells tags =
    let o = step_of s c cells tags in
    pick (eqb (kind_of c) kind && is_granted o) (made s c cells tags o) o

abbrev pub operand : Call → ℕ → ℕ
operand c i = get_or (operands_of c) i 0

-- The rule, but with another sweep, take, split or unmap, of the type of `sweep_of`, `take_of`, `split_of` or `unmap_of`.
unfoldable pub sweep_by : (Pages → Range → ℕ → ℕ → List ℕ → List ℕ → Passed) → Rule
sweep_by sweep =
    instead 0x06
    (λ s c cells tags o.
    let p = sweep s.core.pages (revoked s.core) s.core.place (operand c 1) cells tags in
    let after = with_core s (with_place s.core p.answer.place) in
    outcome_with (answered p.answer.code (slot p.answer.left false) after) cells p.tags)

unfoldable pub take_by : (Table → ℕ → ℕ → Took) → Rule
take_by take =
    instead 0x01
    (λ s c cells tags o.
    let t = take s.core.table (operand c 0) (operand c 1) in
    outcome_with (answered t.code (slot t.length false) (with_core o.answer.state (with_table s.core t.table))) cells tags)

-- The rule, but that 11 gives other permissions for its mask, of the type of `permitted`, or 01 others.
unfoldable pub mask_by : (ℕ → ℕ) → Rule
mask_by given =
    instead 0x11 (λ s c cells tags o. done s (taking s.core (operand c 0) (operand c 1) (operand c 2) (given (operand c 3))) cells tags)

unfoldable pub plain_by : ℕ → Rule
plain_by given = instead 0x01 (λ s c cells tags o. done s (taking s.core (operand c 0) (operand c 1) (operand c 2) given) cells tags)

unfoldable pub split_by : (Table → ℕ → ℕ → ℕ → Tabled) → Rule
split_by split =
    instead 0x02
    (λ s c cells tags o.
    let t = split s.core.table (operand c 0) (operand c 1) (operand c 2) in
    outcome_with (answered t.code empty (with_core s (with_table s.core t.table))) cells tags)

unfoldable pub merge_by : (Table → ℕ → ℕ → Tabled) → Rule
merge_by merge =
    instead 0x03
    (λ s c cells tags o.
    let t = merge s.core.table (operand c 0) (operand c 1) in
    outcome_with (answered t.code empty (with_core s (with_table s.core t.table))) cells tags)

-- With another core left by a revoke or a collect, of the type of `revoke_of` or `collect_of`.
unfoldable pub revoke_by : (Core → ℕ → ℕ → Cored) → Rule
revoke_by revoke =
    instead 0x05
    (λ s c cells tags o.
    let r = revoke s.core (operand c 0) (operand c 1) in
    outcome_with (answered r.code empty (with_core s r.core)) cells tags)

unfoldable pub end_by : (Core → Cored) → Rule
end_by end =
    instead 0x07
    (λ s c cells tags o.
    let r = end s.core in
    outcome_with (answered r.code empty (with_core o.answer.state r.core)) cells tags)

unfoldable pub unmap_by : (Pages → VirtualPage → Bool → Paged) → Rule
unmap_by unmap =
    instead 0x09
    (λ s c cells tags o.
    let p = unmap s.core.pages (page (operand c 1)) (claimed s.core.claims (operand c 1)) in
    outcome_with (answered p.code empty (with_core s (with_pages s.core p.pages))) cells tags)

-- The rule, but with another word put into the register by a load, or answered, of the type of `loaded`; or another tag byte left at the
-- place that is read, where the rule leaves it.
unfoldable pub load_by : (Core → Slot → Slot → Slot) → (Core → Slot → Slot → Slot) → (Core → Slot → ℕ → ℕ) → Rule
load_by register answer byte =
    instead 0x0B
    (λ s c cells tags o.
    let a = (reads s.core s.registers cells tags c).one in
    let at = place_number (addressed s.core a (operand c 2)) in
    let w = word_at cells tags at in
    let registers = set s.registers (8 * operand c 0 + operand c 3) (register s.core a w) in
    outcome_with (answered 0 (answer s.core a w) (record { core = s.core; registers = registers; mailboxes = s.mailboxes })) cells
    (set tags at (byte s.core w (get_or tags at 0))))

-- The rule, but with another word stored, of the type of `stored`; or other words left by a collect, in registers and in
-- mailboxes, of the type of `collected_register` and `collected_mailbox`.
unfoldable pub store_by : (Core → Slot → Slot) → Rule
store_by word =
    instead 0x0C
    (λ s c cells tags o.
    let r = reads s.core s.registers cells tags c in
    let w = word s.core r.two in
    let at = place_number (addressed s.core r.one (operand c 2)) in
    outcome_with o.answer (set cells at w.cell) (set tags at (byte_of w.tag)))

unfoldable pub collect_by : (Core → Slot → Slot) → (Core → Slot → Slot) → Rule
collect_by register mailbox =
    instead 0x07
    (λ s c cells tags o.
    let words = map (register s.core) s.registers in
    let mail = map (mailbox s.core) s.mailboxes in
    outcome_with (answered 0 empty (record { core = o.answer.state.core; registers = words; mailboxes = mail })) cells tags)

-- The rule, but with other claims left by a granted create, claim, release or destroy, of the type of `create_of`, `claim_of`, `release_of` or
-- `destroy_of`.
abbrev pub claims_by : ℕ → (Claims → (ℕ → ℕ) → Claims) → Rule
claims_by kind made = instead kind (λ s c cells tags o. done s (claims_change s.core (made s.core.claims (operand c))) cells tags)

unfoldable pub create_by : (Claims → ℕ → ℕ → ℕ → ℕ → Claims) → Rule
create_by create = claims_by 0x12 (λ k x. create k (x 1) (x 2) (x 3) (x 4))

unfoldable pub claim_by : (Claims → ℕ → ℕ → Claims) → Rule
claim_by claim = claims_by 0x13 (λ k x. claim k (x 1) (x 2))

unfoldable pub release_by : (Claims → ℕ → ℕ → Claims) → Rule
release_by release = claims_by 0x14 (λ k x. release k (x 1) (x 2))

unfoldable pub destroy_by : (Claims → ℕ → Claims) → Rule
destroy_by destroy = claims_by 0x15 (λ k x. destroy k (x 1))

-- The rule, but that after refusals 1 and 2 other reasons speak against a call of one kind, which has another effect where none of them does.
-- So it can grant what the rule refuses, and refuse what the rule grants.
unfoldable pub ruled_by : ℕ → (State → Call → List ℕ → List ℕ → List Reason) → (State → Call → List ℕ → List ℕ → Effect) → Rule
ruled_by kind against does s c cells tags =
    let code = first (against s c cells tags) in
    pick (eqb (kind_of c) kind && (well_formed s && serves s.core.pages (length cells) (length tags)))
    (pick (eqb code 0) (done s (does s c cells tags) cells tags) (refused code s cells tags)) (step_of s c cells tags)

-- With other reasons against a claim or a destroy, of the type of `claim_reasons` or `destroy_reasons`.
unfoldable pub claim_against : (Claims → ℕ → ℕ → ℕ → List Reason) → Rule
claim_against against =
    ruled_by 0x13
    (λ s c cells tags.
    reason 4 (unnamed (operand c 0)) ∷ reason 12 (no_page s.core.pages (page (operand c 2)))
    ∷ against s.core.claims (operand c 0) (operand c 1) (operand c 2))
    effect_on

unfoldable pub destroy_against : (Claims → ℕ → ℕ → List Reason) → Rule
destroy_against against =
    ruled_by 0x15 (λ s c cells tags. reason 4 (unnamed (operand c 0)) ∷ against s.core.claims (operand c 0) (operand c 1)) effect_on

-- With another test of a page's claims, of the type of `claimed`, that an unmap is told of.
unfoldable pub told_by : (Claims → ℕ → Bool) → Rule
told_by told =
    ruled_by 0x09
    (λ s c cells tags.
    reason 4 (unnamed (operand c 0)) ∷ reason 5 (not_manager (operand c 0))
    ∷ unmap_reasons s.core.pages (page (operand c 1)) (told s.core.claims (operand c 1)))
    (λ s c cells tags. page_change s.core (unmap_of s.core.pages (page (operand c 1)) (told s.core.claims (operand c 1))).pages)
