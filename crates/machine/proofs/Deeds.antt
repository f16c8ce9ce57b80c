-- What a granted call does, by the parts of the state that its effect changes, with what the call has found. Laws about granted calls go
-- by these sorts of effect, of which there are fewer than kinds of call: a new kind is a clause of `deed`, and a sort only if it has none
-- here. Assumes nothing.
use Prim.Native.Nat.{ℕ, ◌<◌, ◌≤◌}
use native.Mathlib.Omega.{arith}
use mathlib.Core.Bool.{true, false, not, ◌||◌}
use mathlib.Core.List.{List, [], ◌∷◌}
use mathlib.Core.Path.{◌≡◌, refl, sym, subst}
use borrow.Author.Tests.{leb-false, not-false}
use lib.Bits.{and_le_l}
use Rattle.capabilities.specs.Capability.{narrowed, permitted}
use Rattle.capabilities.specs.Refusals.{Reason, first, reason}
use Rattle.capabilities.proofs.Refusals.{first_clear}
use Rattle.pages.specs.declared.Frame.{Frame}
use Rattle.pages.specs.declared.FrameState.TheVariants.{Free}
use Rattle.pages.specs.declared.VirtualPage.{VirtualPage}
use Rattle.pages.specs.Layer.{with_frame}
use Rattle.pages.specs.Mapping.{no_page, map_reasons, map_of, unmap_reasons, unmap_of, dirty_reasons}
use Rattle.table.specs.Operations.{take_reasons, split_reasons, split_of, merge_reasons, merge_of, give_reasons, give_of}
use Rattle.claims.specs.Claims.{Claims, claimed}
use Rattle.claims.specs.Operations.{create_reasons, create_of, claim_reasons, claim_of, release_reasons, release_of, destroy_reasons, destroy_of}
use Rattle.reservations.specs.Core.{Core}
use Rattle.reservations.specs.Revocation.{running, revoke_reasons, revoke_of, collect_reasons, collect_of}
use Rattle.calls.specs.declared.Call.{Call}
use Rattle.calls.specs.declared.Call.TheVariants.{Take, Split, Merge, Give, Revoke, Sweep, Collect, Map, Unmap, Zero, Load, Store, Narrow, Number, Grant, Receive, TakeMasked, Create, Claim, Release, Destroy}
use Rattle.words.specs.declared.Slot.{Slot}
use Rattle.words.specs.Words.{slot, empty, register_of, mailbox_of, place_number, stored}
use Rattle.words.specs.WordReasons.{unnamed, not_manager, may_not_load, may_not_store, cell_reasons}
use Rattle.machine.specs.State.{State}
use Rattle.machine.specs.Roles.{Sources, from_none, from_one, from_cell, Role, takes, collects, fills, stores, grants, receives, plain, Asked, asked, plain_permissions, role_of, IsTake}
use Rattle.machine.specs.Reasons.{addressed, fetched, found, taking_reasons, reasons}
use Rattle.machine.specs.Effects.{keep_registers, put_register, collect_registers, keep_mailboxes, put_mailbox, collect_mailboxes, keep_memory, write, write_words, clear_frame, Effect, effect_of, with_table, with_pages, with_claims, sweeping, taking, effect}
use Rattle.machine.specs.Step.{reasons_on, effect_on}
use Rattle.machine.proofs.Found.{after_five, low_two, low_three, Addressing, addressing, Narrowing, narrowing}

-- The effects, by what they change. Another core, and nothing else.
abbrev pub core_alone : Core → Effect
core_alone k = effect_of k keep_registers keep_mailboxes keep_memory empty

-- 07, 0A.
abbrev pub collecting : Core → Effect
collecting c = effect_of (collect_of c).core collect_registers collect_mailboxes keep_memory empty

abbrev pub zeroing : Core → Frame → Effect
zeroing c frame = effect_of (with_pages c (with_frame c.pages frame.0 Free)) keep_registers keep_mailboxes (clear_frame frame) empty

-- A word is put into register d of party p, and nothing else changes: 0B, 0D and 0E.
abbrev pub putting : Core → ℕ → ℕ → Slot → Slot → Effect
putting c p d w answer = effect_of c (put_register p d w) keep_mailboxes keep_memory answer

-- The place in lent memory of the cell at base + off of the capability in register a of party p.
abbrev pub aimed_at : State → ℕ → ℕ → ℕ → ℕ
aimed_at s p a off = place_number (addressed s.core (register_of s.registers p a) off)

-- 0C, 0F, 10.
abbrev pub storing : State → ℕ → ℕ → ℕ → ℕ → Effect
storing s p a off x =
    effect_of s.core keep_registers keep_mailboxes (write_words (write (aimed_at s p a off) (stored s.core (register_of s.registers p x)) ∷ [])) empty

abbrev pub granting : State → ℕ → ℕ → ℕ → Effect
granting s p x to = effect_of s.core keep_registers (put_mailbox to (register_of s.registers p x)) keep_memory empty

abbrev pub receiving : State → ℕ → ℕ → Effect
receiving s p d = effect_of s.core (put_register p d (mailbox_of s.mailboxes p)) (put_mailbox p empty) keep_memory (mailbox_of s.mailboxes p)

-- What a call makes of the claims, where there are v pages.
pub data Reclaimed (v : ℕ) (c : Claims) : Claims → Type 0 where
  creates : (party parent child limit holder : ℕ) → holder < 8 → first (create_reasons c party parent child limit) ≡ 0
      → Reclaimed v c (create_of c parent child limit holder)
  claims : (party p page : ℕ) → page < v → first (claim_reasons c party p page) ≡ 0 → Reclaimed v c (claim_of c p page)
  releases : (party p page : ℕ) → page < v → first (release_reasons c party p page) ≡ 0 → Reclaimed v c (release_of c p page)
  destroys : (party p : ℕ) → first (destroy_reasons c party p) ≡ 0 → Reclaimed v c (destroy_of c p)

-- What a call makes of the core where it changes nothing else.
pub data Recored (c : Core) : Core → Type 0 where
  splits : (p base len : ℕ) → first (split_reasons c.table p base len) ≡ 0 → Recored c (with_table c (split_of c.table p base len).table)
  merges : (p base : ℕ) → first (merge_reasons c.table p base) ≡ 0 → Recored c (with_table c (merge_of c.table p base).table)
  gives : (p base to : ℕ) → to < 8 → first (give_reasons c.table p base) ≡ 0 → Recored c (with_table c (give_of c.table p base to).table)
  revokes : (p base : ℕ) → first (revoke_reasons c p base) ≡ 0 → Recored c (revoke_of c p base).core
  maps : (page : VirtualPage) (frame : Frame) → first (map_reasons c.pages page frame) ≡ 0 → Recored c (with_pages c (map_of c.pages page frame).pages)
  unmaps : (page : VirtualPage) → first (unmap_reasons c.pages page (claimed c.claims page.0)) ≡ 0
      → Recored c (with_pages c (unmap_of c.pages page (claimed c.claims page.0)).pages)
  reclaims : (x : Claims) → Reclaimed c.pages.v c.claims x → Recored c (with_claims c x)

-- The word that a load of party p through its register a puts into another, and answers.
abbrev pub loaded_by : State → List ℕ → List ℕ → ℕ → ℕ → ℕ → Slot
loaded_by s cells tags p a off = fetched s.core cells tags (register_of s.registers p a) off

-- What a call puts into a register of its caller p, where it changes nothing else, and what it answers: the word that it loads, which it
-- answers; a narrower capability; or a number.
pub data Filling (s : State) (cells tags : List ℕ) (p : ℕ) : Sources → Slot → Slot → Type 0 where
  loads : (a off : ℕ) → Addressing s.core (register_of s.registers p a) off
      → Filling s cells tags p (from_cell a off) (loaded_by s cells tags p a off) (loaded_by s cells tags p a off)
  narrows : (x off len mask : ℕ) → Narrowing (register_of s.registers p x) off len
      → Filling s cells tags p (from_one x) (slot (narrowed (register_of s.registers p x).cell off len mask) true) empty
  numbers : (value : ℕ) → Filling s cells tags p from_none (slot value false) empty

pub data Deed (s : State) (cells tags : List ℕ) : Asked → Effect → Type 0 where
  took : (p base reg permissions : ℕ) → p < 8 → reg < 8 → permissions ≤ 15 → first (take_reasons s.core.table p base) ≡ 0
      → Deed s cells tags (asked p (takes base reg permissions)) (taking s.core p base reg permissions)
  recored : (p : ℕ) (k : Core) → Recored s.core k → Deed s cells tags (asked p plain) (core_alone k)
  swept : (p n : ℕ) → running s.core ≡ true → Deed s cells tags (asked p plain) (sweeping s.core n)
  collected_all : (p : ℕ) → first (collect_reasons s.core) ≡ 0 → Deed s cells tags (asked p collects) (collecting s.core)
  zeroed : (p : ℕ) (frame : Frame) → first (dirty_reasons s.core.pages frame) ≡ 0 → Deed s cells tags (asked p plain) (zeroing s.core frame)
  filled : (p d : ℕ) (from : Sources) (w answer : Slot) → d < 8 → Filling s cells tags p from w answer
      → Deed s cells tags (asked p (fills from d)) (putting s.core p d w answer)
  wrote : (p a off x : ℕ) → p < 8 → a < 8 → Addressing s.core (register_of s.registers p a) off → Deed s cells tags (asked p (stores a off x)) (storing s p a off x)
  mailed : (p x to : ℕ) → (register_of s.registers p x).tag ≡ true → Deed s cells tags (asked p (grants x to)) (granting s p x to)
  received : (p d : ℕ) → d < 8 → Deed s cells tags (asked p (receives d)) (receiving s p d)

-- A take, of either kind.
taking_deed : (s : State) (cells tags : List ℕ) (p base reg permissions : ℕ) → permissions ≤ 15 → first (taking_reasons s.core p base reg) ≡ 0
    → Deed s cells tags (asked p (takes base reg permissions)) (taking s.core p base reg permissions)
taking_deed s cells tags p base reg permissions few z =
    let low = low_two p reg (take_reasons s.core.table p base) z in
    took p base reg permissions low.0 low.1 few (first_clear 4 (unnamed p || unnamed reg) _ (λ x. omega arith) z).1

-- 13 and 14: a page below V, and none of the claims' own reasons.
pub paged_clear : (s : State) (p : ℕ) (page : VirtualPage) (rest : List Reason) → first (reason 4 (unnamed p) ∷ reason 12 (no_page s.core.pages page) ∷ rest) ≡ 0
    → (page.0 < s.core.pages.v) × (first rest ≡ 0)
paged_clear s p page rest z =
    let (low, clear) = first_clear 12 (no_page s.core.pages page) rest (λ x. omega arith) (first_clear 4 (unnamed p) _ (λ x. omega arith) z).1 in
    (leb-false s.core.pages.v page.0 low, clear)

-- A load that nothing speaks against reads the word at its cell.
pub found_fetched : (c : Core) (cells tags : List ℕ) (a : Slot) (off : ℕ) → first (cell_reasons (may_not_load a) a off (addressed c a off)) ≡ 0
    → found c cells tags a off ≡ fetched c cells tags a off
unfolding found
found_fetched c cells tags a off z = rw z

-- Every granted call does one of these.
pub deed : (s : State) (c : Call) (cells tags : List ℕ) → first (reasons_on s c cells tags) ≡ 0 → Deed s cells tags (role_of c) (effect_on s c cells tags)
unfolding reasons effect
deed s (Take p base reg) cells tags z = taking_deed s cells tags p base reg plain_permissions (omega arith) z
deed s (Split p base len) cells tags z = recored p _ (splits p base len (first_clear 4 (unnamed p) _ (λ x. omega arith) z).1)
deed s (Merge p base) cells tags z = recored p _ (merges p base (first_clear 4 (unnamed p) _ (λ x. omega arith) z).1)
deed s (Give p base to) cells tags z =
    recored p _ (gives p base to (low_two p to (give_reasons s.core.table p base) z).1 (first_clear 4 (unnamed p || unnamed to) _ (λ x. omega arith) z).1)
deed s (Revoke p base) cells tags z = recored p _ (revokes p base (after_five (unnamed p) (not_manager p) (revoke_reasons s.core p base) z))
deed s (Sweep p n) cells tags z =
    swept p n (not-false (running s.core) (first_clear 11 (not (running s.core)) [] (λ x. omega arith) (after_five (unnamed p) (not_manager p) (reason 11 (not (running s.core)) ∷ []) z)).0)
deed s (Collect p) cells tags z = collected_all p (after_five (unnamed p) (not_manager p) (collect_reasons s.core) z)
deed s (Map p page frame) cells tags z = recored p _ (maps page frame (after_five (unnamed p) (not_manager p) (map_reasons s.core.pages page frame) z))
deed s (Unmap p page) cells tags z = recored p _ (unmaps page (after_five (unnamed p) (not_manager p) (unmap_reasons s.core.pages page (claimed s.core.claims page.0)) z))
deed s (Zero p frame) cells tags z = zeroed p frame (after_five (unnamed p) (not_manager p) (dirty_reasons s.core.pages frame) z)
deed s (Load p a off d) cells tags z =
    let from = register_of s.registers p a in
    let free = (first_clear 4 ((unnamed p || unnamed a) || unnamed d) _ (λ x. omega arith) z).1 in
    subst (λ w. Deed s cells tags (asked p (fills (from_cell a off) d)) (putting s.core p d w w)) (sym (found_fetched s.core cells tags from off free))
    (filled p d _ _ _ (low_three p a d _ z).2 (loads a off (addressing s.core from off (may_not_load from) free)))
deed s (Store p a off x) cells tags z =
    let w = register_of s.registers p a in
    let low = low_three p a x _ z in
    let free = (first_clear 4 ((unnamed p || unnamed a) || unnamed x) _ (λ x. omega arith) z).1 in
    wrote p a off x low.0 low.1 (addressing s.core w off (may_not_store w (register_of s.registers p x)) free)
deed s (Narrow p x off len mask d) cells tags z =
    filled p d _ _ _ (low_three p x d _ z).2 (narrows x off len mask (narrowing (register_of s.registers p x) off len ((unnamed p || unnamed x) || unnamed d) z))
deed s (Number p d value) cells tags z = filled p d _ _ _ (low_two p d [] z).1 (numbers value)
deed s (Grant p x to) cells tags z =
    let one = first_clear 4 ((unnamed p || unnamed x) || unnamed to) _ (λ x. omega arith) z in
    mailed p x to (not-false (register_of s.registers p x).tag (first_clear 15 (not (register_of s.registers p x).tag) _ (λ x. omega arith) one.1).0)
deed s (Receive p d) cells tags z = received p d (low_two p d _ z).1
deed s (TakeMasked p base reg mask) cells tags z = taking_deed s cells tags p base reg (permitted mask) (and_le_l 15 mask) z
deed s (Create p parent child limit holder) cells tags z =
    let rest = create_reasons s.core.claims p parent child limit in
    recored p _ (reclaims _ (creates p parent child limit holder (low_two p holder rest z).1 (first_clear 4 (unnamed p || unnamed holder) _ (λ x. omega arith) z).1))
deed s (Claim p principal page) cells tags z =
    let found = paged_clear s p page (claim_reasons s.core.claims p principal page.0) z in
    recored p _ (reclaims _ (claims p principal page.0 found.0 found.1))
deed s (Release p principal page) cells tags z =
    let found = paged_clear s p page (release_reasons s.core.claims p principal page.0) z in
    recored p _ (reclaims _ (releases p principal page.0 found.0 found.1))
deed s (Destroy p principal) cells tags z = recored p _ (reclaims _ (destroys p principal (first_clear 4 (unnamed p) _ (λ x. omega arith) z).1))

-- What a granted take, and a granted collect, have found, and their effect.
pub record Taken (s : State) (p base reg permissions : ℕ) (e : Effect) : Type 0 where
  pub party : p < 8
  pub register : reg < 8
  pub few : permissions ≤ 15
  pub clear : first (take_reasons s.core.table p base) ≡ 0
  pub is : e ≡ taking s.core p base reg permissions

pub record Collected (s : State) (e : Effect) : Type 0 where
  pub clear : first (collect_reasons s.core) ≡ 0
  pub is : e ≡ collecting s.core

-- What is known of a granted call by its role alone.
abbrev Known : State → ℕ → Role → Effect → Type 0
Known s p (takes base reg permissions) e = Taken s p base reg permissions e
Known s p collects e = Collected s e
Known s p (fills from d) e = Unit {0}
Known s p (stores a off x) e = Unit {0}
Known s p (grants x to) e = Unit {0}
Known s p (receives d) e = Unit {0}
Known s p plain e = Unit {0}

known : (s : State) {cells tags : List ℕ} {a : Asked} {e : Effect} → Deed s cells tags a e → Known s a.caller a.role e
known s (took p base reg permissions low-p low-reg few z) = record { party = low-p; register = low-reg; few = few; clear = z; is = refl }
known s (recored p k r) = tt
known s (swept p n runs) = tt
known s (collected_all p z) = record { clear = z; is = refl }
known s (zeroed p frame z) = tt
known s (filled p d from w answer low g) = tt
known s (wrote p a off x low-p low-a g) = tt
known s (mailed p x to t) = tt
known s (received p d low) = tt

pub taken_by : (s : State) (c : Call) (cells tags : List ℕ) (p base reg permissions : ℕ) → IsTake c p base reg permissions → first (reasons_on s c cells tags) ≡ 0
    → Taken s p base reg permissions (effect_on s c cells tags)
taken_by s c cells tags p base reg permissions is z = subst (λ a. Known s a.caller a.role (effect_on s c cells tags)) is (known s (deed s c cells tags z))

pub collected_as : (s : State) {cells tags : List ℕ} {a : Asked} {e : Effect} → Deed s cells tags a e → a.role ≡ collects → Collected s e
collected_as s {a} {e} d is = subst (λ role. Known s a.caller role e) is (known s d)
