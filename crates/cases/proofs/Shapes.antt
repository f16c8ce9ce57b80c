-- The shapes of the wrong machines: with the rule in the place of what is wrong, each is the rule, for every input. A granted
-- call of the kind leaves what the rule leaves, and every other outcome is the rule's own.
use Prim.Native.Nat.{ℕ, ◌+◌, ◌*◌}
use native.Mathlib.Omega.{arith}
use mathlib.Core.Bool.{◌&&◌, ◌||◌}
use mathlib.Core.List.{List}
use mathlib.Core.Path.{◌≡◌, refl, sym, ap, subst, ◌∙◌}
use lib.ListN.{length, get_or, set}
use lib.Seq.{set-get_or}
use lib.Dec.{eqb}
use borrow.Author.Tests.{eqb-true}
use Rattle.capabilities.specs.Capability.{permitted}
use Rattle.capabilities.specs.Lists.{pick}
use Rattle.capabilities.proofs.Choice.{and_left, and_right}
use Rattle.capabilities.specs.Refusals.{Reason, first}
use Rattle.capabilities.proofs.Refusals.{first_clear}
use Rattle.pages.specs.Layer.{serves}
use Rattle.pages.specs.Mapping.{unmap_reasons, unmap_of}
use Rattle.sweep.specs.Sweep.{sweep_of}
use Rattle.table.specs.Operations.{take_reasons, take_of, split_reasons, split_of, merge_reasons, merge_of}
use Rattle.claims.specs.Claims.{Claims, limit_of, claimed}
use Rattle.claims.specs.Tree.{leads_up}
use Rattle.claims.specs.Operations.{create_of, claim_reasons, claim_of, release_of, destroy_reasons, returned, destroy_of}
use Rattle.reservations.specs.Revocation.{revoke_reasons, revoke_of, collect_reasons, collect_of}
use Rattle.calls.specs.declared.Call.{Call}
use Rattle.calls.specs.declared.Call.TheVariants.{Take, Split, Merge, Revoke, Collect, Unmap}
use Rattle.calls.specs.Commands.{page, command_of, operands_of}
use Rattle.calls.specs.Commands.{byte_of as kind_of}
use Rattle.calls.proofs.Table.{listed}
use Rattle.words.specs.declared.Slot.{Slot}
use Rattle.words.specs.Words.{register_of, loaded, stored, collected_register, collected_mailbox}
use Rattle.words.specs.WordReasons.{unnamed, not_manager}
use Rattle.machine.specs.State.{State}
use Rattle.machine.specs.Formed.{well_formed, answered}
use Rattle.machine.specs.Roles.{plain_permissions}
use Rattle.machine.specs.Reasons.{fetched, reasons}
use Rattle.machine.specs.Effects.{Effect, effect}
use Rattle.machine.specs.Step.{Outcome, outcome_with, refused, registers_after, mailboxes_after, written_cells, written_tags, cells_after, tags_after, done, reasons_on, effect_on, ruled, judged, step_of, with_core}
use Rattle.cases.specs.Variants.{Obeys, instead, sweep_by, take_by, mask_by, plain_by, split_by, merge_by, revoke_by, end_by, unmap_by, store_by, load_by, collect_by, create_by, claim_by, release_by, destroy_by, ruled_by, claim_against, destroy_against, told_by}
use Rattle.cases.specs.WrongClaims.{destroys}
use Rattle.cases.specs.WrongMachines.{kept_byte}
use Rattle.machine.proofs.Found.{after_five}
use Rattle.machine.proofs.Deeds.{found_fetched}
use Rattle.machine.proofs.Judging.{Granted, pick_by, step_by}

abbrev Made : Type 0
Made = State → Call → List ℕ → List ℕ → Outcome → Outcome

-- What is made of a granted call and the rule's outcome is that outcome.
abbrev Exact : Made → State → Call → Type 0
Exact made s c =
    (cells tags : List ℕ) → Granted s c cells tags
    → made s c cells tags (done s (effect_on s c cells tags) cells tags) ≡ done s (effect_on s c cells tags) cells tags

-- What holds of the calls of a kind, whatever their operands, holds of a call of that kind.
of_kind : (P : Call → Type 0) (kind : ℕ) → ((x : ℕ → ℕ) → P ((command_of kind).make x)) → (c : Call) → kind_of c ≡ kind → P c
of_kind P kind all c e =
    let x : ℕ → ℕ = λ i. get_or (operands_of c) i 0 in
    subst P (ap (λ k. (command_of k).make x) (sym e) ∙ (listed c).made) (all x)

-- It is enough that this holds of the calls of the kind.
obeys_by : (kind : ℕ) (made : Made) → ((s : State) (x : ℕ → ℕ) → Exact made s ((command_of kind).make x)) → Obeys (instead kind made)
unfolding instead
obeys_by kind made exact s c cells tags =
    let mine = eqb (kind_of c) kind in
    let granted = done s (effect_on s c cells tags) cells tags in
    step_by s c cells tags (λ o. pick (mine && eqb o.answer.code 0) (made s c cells tags o) o ≡ o)
    (λ g. pick_by (λ o. o ≡ granted) (mine && eqb granted.answer.code 0) (made s c cells tags granted) granted
    (λ e. of_kind (Exact made s) kind (exact s) c (eqb-true (kind_of c) kind (and_left mine (eqb granted.answer.code 0) e)) cells tags g) (λ e. refl))
    (λ k n. pick_by (λ o. o ≡ refused k s cells tags) (mine && eqb k 0) (made s c cells tags (refused k s cells tags)) (refused k s cells tags)
    (λ e. absurd (n (eqb-true k 0 (and_right mine (eqb k 0) e)))) (λ e. refl))

pub sweep_obeys : Obeys (sweep_by sweep_of)
unfolding sweep_by sweep_of done effect registers_after mailboxes_after cells_after tags_after with_core
sweep_obeys = obeys_by 0x06 _ (λ s x cells tags g. rw g.served)

pub store_obeys : Obeys (store_by stored)
unfolding store_by done effect registers_after mailboxes_after written_cells written_tags cells_after tags_after
store_obeys = obeys_by 0x0C _ (λ s x cells tags g. refl)

pub load_obeys : Obeys (load_by loaded loaded kept_byte)
unfolding load_by done reasons effect registers_after mailboxes_after cells_after tags_after
load_obeys =
    obeys_by 0x0B _
    (λ s x cells tags g.
    let a = register_of s.registers (x 0) (x 1) in
    let leaving : Slot → Outcome = λ w. outcome_with (answered 0 w (record { core = s.core; registers = set s.registers (8 * x 0 + x 3) w; mailboxes = s.mailboxes })) cells tags in
    let free = (first_clear 4 ((unnamed (x 0) || unnamed (x 1)) || unnamed (x 3)) _ (λ z. omega arith) g.clear).1 in
    ap (λ l. outcome_with (leaving (fetched s.core cells tags a (x 2))).answer cells l) (set-get_or tags _ 0)
    ∙ sym (ap leaving (found_fetched s.core cells tags a (x 2) free)))

pub collect_obeys : Obeys (collect_by collected_register collected_mailbox)
unfolding collect_by done effect registers_after mailboxes_after cells_after tags_after
collect_obeys = obeys_by 0x07 _ (λ s x cells tags g. refl)

pub mask_obeys : Obeys (mask_by permitted)
unfolding mask_by effect
mask_obeys = obeys_by 0x11 _ (λ s x cells tags g. refl)

pub plain_obeys : Obeys (plain_by plain_permissions)
unfolding plain_by effect
plain_obeys = obeys_by 0x01 _ (λ s x cells tags g. refl)

module _ (s : State) (cells tags : List ℕ) where
  take_clear : (p base reg : ℕ) → Granted s (Take p base reg) cells tags → (take_of s.core.table p base).code ≡ 0
  unfolding take_of reasons
  take_clear p base reg g =
      (first_clear 4 (unnamed p || unnamed reg) (take_reasons s.core.table p base) (λ z. omega arith) g.clear).1

  split_clear : (p base len : ℕ) → Granted s (Split p base len) cells tags → (split_of s.core.table p base len).code ≡ 0
  unfolding split_of reasons
  split_clear p base len g = (first_clear 4 (unnamed p) (split_reasons s.core.table p base len) (λ z. omega arith) g.clear).1

  merge_clear : (p base : ℕ) → Granted s (Merge p base) cells tags → (merge_of s.core.table p base).code ≡ 0
  unfolding merge_of reasons
  merge_clear p base g = (first_clear 4 (unnamed p) (merge_reasons s.core.table p base) (λ z. omega arith) g.clear).1

  revoke_clear : (p base : ℕ) → Granted s (Revoke p base) cells tags → (revoke_of s.core p base).code ≡ 0
  unfolding revoke_of reasons
  revoke_clear p base g = after_five (unnamed p) (not_manager p) (revoke_reasons s.core p base) g.clear

  collect_clear : (p : ℕ) → Granted s (Collect p) cells tags → (collect_of s.core).code ≡ 0
  unfolding collect_of reasons
  collect_clear p g = after_five (unnamed p) (not_manager p) (collect_reasons s.core) g.clear

  unmap_clear : (p n : ℕ) → Granted s (Unmap p (page n)) cells tags → (unmap_of s.core.pages (page n) (claimed s.core.claims n)).code ≡ 0
  unfolding unmap_of reasons
  unmap_clear p n g = after_five (unnamed p) (not_manager p) (unmap_reasons s.core.pages (page n) (claimed s.core.claims n)) g.clear

pub take_obeys : Obeys (take_by take_of)
unfolding take_by done effect registers_after mailboxes_after cells_after tags_after with_core
take_obeys = obeys_by 0x01 _ (λ s x cells tags g. rw (take_clear s cells tags (x 0) (x 1) (x 2) g))

pub split_obeys : Obeys (split_by split_of)
unfolding split_by done effect registers_after mailboxes_after cells_after tags_after with_core
split_obeys = obeys_by 0x02 _ (λ s x cells tags g. rw (split_clear s cells tags (x 0) (x 1) (x 2) g))

pub merge_obeys : Obeys (merge_by merge_of)
unfolding merge_by done effect registers_after mailboxes_after cells_after tags_after with_core
merge_obeys = obeys_by 0x03 _ (λ s x cells tags g. rw (merge_clear s cells tags (x 0) (x 1) g))

pub revoke_obeys : Obeys (revoke_by revoke_of)
unfolding revoke_by done effect registers_after mailboxes_after cells_after tags_after with_core
revoke_obeys = obeys_by 0x05 _ (λ s x cells tags g. rw (revoke_clear s cells tags (x 0) (x 1) g))

pub end_obeys : Obeys (end_by collect_of)
unfolding end_by done effect registers_after mailboxes_after cells_after tags_after with_core
end_obeys = obeys_by 0x07 _ (λ s x cells tags g. rw (collect_clear s cells tags (x 0) g))

pub unmap_obeys : Obeys (unmap_by unmap_of)
unfolding unmap_by done effect registers_after mailboxes_after cells_after tags_after with_core
unmap_obeys = obeys_by 0x09 _ (λ s x cells tags g. rw (unmap_clear s cells tags (x 0) (x 1) g))

pub create_obeys : Obeys (create_by create_of)
unfolding create_by effect
create_obeys = obeys_by 0x12 _ (λ s x cells tags g. refl)

pub claim_obeys : Obeys (claim_by claim_of)
unfolding claim_by effect
claim_obeys = obeys_by 0x13 _ (λ s x cells tags g. refl)

pub release_obeys : Obeys (release_by release_of)
unfolding release_by effect
release_obeys = obeys_by 0x14 _ (λ s x cells tags g. refl)

pub destroy_obeys : Obeys (destroy_by destroy_of)
unfolding destroy_by effect
destroy_obeys = obeys_by 0x15 _ (λ s x cells tags g. refl)

-- The wrong destroys are the rule's with one part changed.
pub destroys_own : (c : Claims) (p : ℕ) → destroys (λ d top q. leads_up d top q) (λ d q. limit_of d q) c p ≡ destroy_of c p
unfolding destroys destroy_of returned
destroys_own c p = refl

-- The reasons and the effect that stand for the rule's own.
abbrev Own : (State → Call → List ℕ → List ℕ → List Reason) → (State → Call → List ℕ → List ℕ → Effect) → State → Call → Type 0
Own against does s c = (cells tags : List ℕ) → (against s c cells tags ≡ reasons_on s c cells tags) × (does s c cells tags ≡ effect_on s c cells tags)

-- Where they are so of the calls of the kind, the shape is the rule.
ruled_by_own : (kind : ℕ) (against : State → Call → List ℕ → List ℕ → List Reason) (does : State → Call → List ℕ → List ℕ → Effect)
    → ((s : State) (x : ℕ → ℕ) → Own against does s ((command_of kind).make x)) → Obeys (ruled_by kind against does)
unfolding ruled_by step_of judged ruled
ruled_by_own kind against does own s c cells tags =
    let mine = eqb (kind_of c) kind in
    let fit = serves s.core.pages (length cells) (length tags) in
    let code = first (against s c cells tags) in
    pick_by (λ o. o ≡ step_of s c cells tags) (mine && (well_formed s && fit)) (pick (eqb code 0) (done s (does s c cells tags) cells tags) (refused code s cells tags))
    (step_of s c cells tags)
    (λ e.
    let given = and_right mine (well_formed s && fit) e in
    let k = of_kind (Own against does s) kind (own s) c (eqb-true (kind_of c) kind (and_left mine (well_formed s && fit) e)) cells tags in
    rw (k.0, k.1, and_left (well_formed s) fit given, and_right (well_formed s) fit given))
    (λ e. refl)

pub claim_against_obeys : Obeys (claim_against claim_reasons)
unfolding claim_against reasons
claim_against_obeys = ruled_by_own 0x13 _ _ (λ s x cells tags. (refl, refl))

pub destroy_against_obeys : Obeys (destroy_against destroy_reasons)
unfolding destroy_against reasons
destroy_against_obeys = ruled_by_own 0x15 _ _ (λ s x cells tags. (refl, refl))

pub told_obeys : Obeys (told_by (λ k n. claimed k n))
unfolding told_by reasons effect
told_obeys = ruled_by_own 0x09 _ _ (λ s x cells tags. (refl, refl))
