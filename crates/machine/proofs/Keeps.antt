-- A step keeps the state well formed, granted or refused, for every kind of call; and a granted start is well formed. Assumes nothing.
use Prim.Native.Nat.{ℕ, ◌*◌}
use native.Mathlib.Omega.{arith}
use mathlib.Core.Bool.{Bool, true, false, ◌&&◌}
use mathlib.Core.List.{List}
use mathlib.Core.Path.{◌≡◌, refl, ◌∙◌}
use lib.ListN.{length}
use lib.Dec.{eqb}
use borrow.Author.Tests.{eqb-true, eq-eqb}
use Rattle.capabilities.specs.Lists.{pick, each}
use Rattle.capabilities.specs.Refusals.{first}
use Rattle.capabilities.proofs.Choice.{and_left, and_right}
use Rattle.pages.specs.Layer.{in_range, fresh_of, serves}
use Rattle.pages.proofs.Formed as layer
use Rattle.table.specs.Rows.{live}
use Rattle.table.specs.Tiling.{takers_sound}
use Rattle.table.proofs.TakersKept.{take_takers, give_takers, split_takers, merge_takers}
use Rattle.table.proofs.Sound as table
use Rattle.table.proofs.Truth.{both}
use Rattle.claims.specs.Sound.{claims_sound}
use Rattle.claims.proofs.KeptCounts.{fresh_sound}
use Rattle.reservations.specs.Core.{Core}
use Rattle.reservations.specs.Revocation.{fresh_core, dying, core_sound}
use Rattle.reservations.proofs.ClaimsApart.{sound_apart}
use Rattle.reservations.proofs.CoreKept.{core_facts, core_take, core_split, core_merge, core_give}
use Rattle.reservations.proofs.Revocations.{core_revoke, core_collect, core_sweep}
use Rattle.reservations.proofs.Starts.{core_fresh}
use Rattle.reservations.proofs.Takers.{revoke_takers, collect_takers, fresh_takers}
use Rattle.calls.specs.declared.Call.{Call}
use Rattle.words.specs.declared.Slot.{Slot}
use Rattle.words.specs.Words.{empty, collected_mailbox}
use Rattle.machine.specs.State.{State}
use Rattle.words.specs.Words.{mailbox_sound}
use Rattle.machine.specs.Formed.{mailboxes_sound, sized, formed_bare, well_formed, fresh, start_of}
use Rattle.machine.specs.Roles.{Asked}
use Rattle.machine.specs.Effects.{MailboxChange, keep_mailboxes, put_mailbox, collect_mailboxes, Effect}
use Rattle.machine.specs.Step.{mailboxes_after, done, reasons_on, effect_on, judged}
use Rattle.machine.specs.Demands.{StepKeeps, StartFormed}
use Rattle.machine.proofs.Judging.{judged_by, step_by}
use Rattle.machine.proofs.Deeds.{Recored, splits, merges, gives, revokes, maps, unmaps, reclaims, Deed, took, recored, swept, collected_all, zeroed, filled, wrote, mailed, received, deed}
use Rattle.machine.proofs.Lengths.{length_registers, length_mailboxes}
use Rattle.machine.proofs.Lists.{each_set, each_map}
use Rattle.machine.proofs.ClaimsKept.{claims_kept}
use Rattle.machine.proofs.PagesKept.{core_map, core_unmap, core_zero}

-- A well-formed state as plain facts, and the way back.
pub record Facts (s : State) : Type 0 where
  pub core : core_sound s.core ≡ true
  pub mailboxes : each mailbox_sound 0 s.mailboxes ≡ true
  pub of_registers : length s.registers ≡ 64
  pub of_mailboxes : length s.mailboxes ≡ 8
  pub takers : takers_sound (live s.core.table) ≡ true
  pub claims : claims_sound s.core.pages.v s.core.claims ≡ true

pub facts : (s : State) → well_formed s ≡ true → Facts s
unfolding well_formed formed_bare mailboxes_sound
facts s e =
    let boxes = each mailbox_sound 0 s.mailboxes in
    let takers = takers_sound (live s.core.table) in
    let claims = claims_sound s.core.pages.v s.core.claims in
    let bare = and_left (((core_sound s.core && boxes) && sized s) && claims) takers e in
    let lines = and_left ((core_sound s.core && boxes) && sized s) claims bare in
    let front = and_left (core_sound s.core && boxes) (sized s) lines in
    let back = and_right (core_sound s.core && boxes) (sized s) lines in
    record {
      core = and_left (core_sound s.core) boxes front;
      mailboxes = and_right (core_sound s.core) boxes front;
      of_registers = eqb-true (length s.registers) 64 (and_left (eqb (length s.registers) 64) (eqb (length s.mailboxes) 8) back);
      of_mailboxes = eqb-true (length s.mailboxes) 8 (and_right (eqb (length s.registers) 64) (eqb (length s.mailboxes) 8) back);
      takers = and_right (((core_sound s.core && boxes) && sized s) && claims) takers e;
      claims = and_right ((core_sound s.core && boxes) && sized s) claims bare;
    }

pub formed : (s : State) → Facts s → well_formed s ≡ true
unfolding well_formed formed_bare mailboxes_sound
formed s f =
    let boxes = each mailbox_sound 0 s.mailboxes in
    both (((core_sound s.core && boxes) && sized s) && claims_sound s.core.pages.v s.core.claims) (takers_sound (live s.core.table))
    (both ((core_sound s.core && boxes) && sized s) (claims_sound s.core.pages.v s.core.claims)
    (both (core_sound s.core && boxes) (sized s) (both (core_sound s.core) boxes f.core f.mailboxes)
    (both (eqb (length s.registers) 64) (eqb (length s.mailboxes) 8) (eq-eqb (length s.registers) 64 f.of_registers) (eq-eqb (length s.mailboxes) 8 f.of_mailboxes)))
    f.claims)
    f.takers

-- The lengths of all arrays of a well-formed state, and so, by `step_keeps` below, of the state after every step.
pub record Arrays (s : State) : Type 0 where
  pub of_registers : length s.registers ≡ 64
  pub of_mailboxes : length s.mailboxes ≡ 8
  pub of_pages : length s.core.pages.pages ≡ 256
  pub of_frames : length s.core.pages.frames ≡ 128
  pub of_rows : length s.core.table.rows ≡ 64

-- A well-formed state has arrays of these lengths.
pub arrays : (s : State) → well_formed s ≡ true → Arrays s
arrays s w =
    let f = facts s w in
    let c = core_facts s.core f.core in
    let p = layer.sound s.core.pages c.layer in
    record {
      of_registers = f.of_registers;
      of_mailboxes = f.of_mailboxes;
      of_pages = p.long_pages;
      of_frames = p.long_frames;
      of_rows = (table.sound (16 * s.core.pages.v) s.core.table c.rows).rows;
    }

-- A word that is put into a mailbox is a capability, or none.
unfoldable pub puts_sound : MailboxChange → Bool
puts_sound keep_mailboxes = true
puts_sound (put_mailbox p w) = mailbox_sound p w
puts_sound collect_mailboxes = true

-- A mailbox that is collected is empty, or as it was.
collected_sound : (c : Core) (i : ℕ) (w : Slot) → mailbox_sound i w ≡ true → mailbox_sound i (collected_mailbox c w) ≡ true
collected_sound c i w h = go (w.tag && dying c w.cell)
  where
    go : (b : Bool) → mailbox_sound i (pick b empty w) ≡ true
    go true = refl
    go false = h

-- Mailboxes stay sound, by what becomes of them.
pub mailboxes_kept : (ch : MailboxChange) (s : State) → puts_sound ch ≡ true → each mailbox_sound 0 s.mailboxes ≡ true
    → each mailbox_sound 0 (mailboxes_after ch s) ≡ true
unfolding puts_sound mailboxes_after
mailboxes_kept keep_mailboxes s h e = e
mailboxes_kept (put_mailbox p w) s h e = each_set mailbox_sound 0 s.mailboxes p w h e
mailboxes_kept collect_mailboxes s h e = each_map mailbox_sound (collected_mailbox s.core) (collected_sound s.core) 0 s.mailboxes e

-- Grant and receive alone put into a mailbox: grant a capability, by refusal 15, and receive nothing.
puts_sound_lem : (s : State) {cells tags : List ℕ} {a : Asked} {e : Effect} → Deed s cells tags a e → puts_sound e.mailboxes ≡ true
unfolding puts_sound
puts_sound_lem s (took p base reg permissions low-p low-reg few z) = refl
puts_sound_lem s (recored p k r) = refl
puts_sound_lem s (swept p n runs) = refl
puts_sound_lem s (collected_all p z) = refl
puts_sound_lem s (zeroed p frame z) = refl
puts_sound_lem s (filled p d from w answer low g) = refl
puts_sound_lem s (wrote p a off x low-p low-a g) = refl
puts_sound_lem s (mailed p x to t) = rw t
puts_sound_lem s (received p d low) = refl

-- The core after a granted call is well formed: each crate below says so of its own operations.
recored_kept : (c k : Core) → core_sound c ≡ true → Recored c k → core_sound k ≡ true
recored_kept c k ok (splits p base len z) = core_split c ok p base len
recored_kept c k ok (merges p base z) = core_merge c ok p base
recored_kept c k ok (gives p base to low z) = core_give c ok p base to (omega arith)
recored_kept c k ok (revokes p base z) = core_revoke c ok p base
recored_kept c k ok (maps page frame z) = core_map c ok page frame
recored_kept c k ok (unmaps page z) = core_unmap c ok page _
recored_kept c k ok (reclaims x r) = sound_apart c x ∙ ok

core_kept : (s : State) → core_sound s.core ≡ true → {cells tags : List ℕ} {a : Asked} {e : Effect} → Deed s cells tags a e → core_sound e.core ≡ true
core_kept s ok (took p base reg permissions low-p low-reg few z) = core_take s.core ok p base
core_kept s ok (recored p k r) = recored_kept s.core k ok r
core_kept s ok (swept p n runs) = core_sweep s.core ok n runs
core_kept s ok (collected_all p z) = core_collect s.core ok
core_kept s ok (zeroed p frame z) = core_zero s.core ok frame z
core_kept s ok (filled p d from w answer low g) = ok
core_kept s ok (wrote p a off x low-p low-a g) = ok
core_kept s ok (mailed p x to t) = ok
core_kept s ok (received p d low) = ok

-- Takers that fit go on to fit.
recored_takers : (c k : Core) → core_sound c ≡ true → takers_sound (live c.table) ≡ true → Recored c k → takers_sound (live k.table) ≡ true
recored_takers c k ok fit (splits p base len z) = split_takers _ c.table (core_facts c ok).rows fit p base len
recored_takers c k ok fit (merges p base z) = merge_takers _ c.table (core_facts c ok).rows fit p base
recored_takers c k ok fit (gives p base to low z) = give_takers _ c.table (core_facts c ok).rows fit p base to
recored_takers c k ok fit (revokes p base z) = revoke_takers c ok fit p base
recored_takers c k ok fit (maps page frame z) = fit
recored_takers c k ok fit (unmaps page z) = fit
recored_takers c k ok fit (reclaims x r) = fit

takers_kept : (s : State) → core_sound s.core ≡ true → takers_sound (live s.core.table) ≡ true → {cells tags : List ℕ} {a : Asked} {e : Effect} → Deed s cells tags a e
    → takers_sound (live e.core.table) ≡ true
takers_kept s ok fit (took p base reg permissions low-p low-reg few z) = take_takers _ s.core.table (core_facts s.core ok).rows fit p base (omega arith)
takers_kept s ok fit (recored p k r) = recored_takers s.core k ok fit r
takers_kept s ok fit (swept p n runs) = fit
takers_kept s ok fit (collected_all p z) = collect_takers s.core ok fit
takers_kept s ok fit (zeroed p frame z) = fit
takers_kept s ok fit (filled p d from w answer low g) = fit
takers_kept s ok fit (wrote p a off x low-p low-a g) = fit
takers_kept s ok fit (mailed p x to t) = fit
takers_kept s ok fit (received p d low) = fit

done_keeps : (s : State) (c : Call) (cells tags : List ℕ) → well_formed s ≡ true
    → serves s.core.pages (length cells) (length tags) ≡ true → first (reasons_on s c cells tags) ≡ 0
    → well_formed (done s (effect_on s c cells tags) cells tags).answer.state ≡ true
unfolding done
done_keeps s c cells tags w m e =
    let f = facts s w in
    let x = effect_on s c cells tags in
    let d = deed s c cells tags e in
    formed _
    (record {
      core = core_kept s f.core d;
      mailboxes = mailboxes_kept x.mailboxes s (puts_sound_lem s d) f.mailboxes;
      of_registers = length_registers x.registers s ∙ f.of_registers;
      of_mailboxes = length_mailboxes x.mailboxes s ∙ f.of_mailboxes;
      takers = takers_kept s f.core f.takers d;
      claims = claims_kept s f.core f.claims d;
    })

-- Every call, granted or refused, keeps the state well formed.
module _ (s : State) (c : Call) (cells tags : List ℕ) (w : well_formed s ≡ true) where
  pub judged_keeps : well_formed (judged s c cells tags).answer.state ≡ true
  judged_keeps = judged_by s c cells tags (λ o. well_formed o.answer.state ≡ true) (done_keeps s c cells tags w) (λ k n. w)

pub step_keeps : StepKeeps
step_keeps s c cells tags w =
    step_by s c cells tags (λ o. well_formed o.answer.state ≡ true) (λ g. done_keeps s c cells tags w g.served g.clear) (λ k n. w)

fresh_claims : (v f : ℕ) → in_range v f ≡ true → claims_sound (fresh v f).core.pages.v (fresh v f).core.claims ≡ true
unfolding fresh fresh_core
fresh_claims v f e = rw e (fresh_sound (fresh_of v f).v)

fresh_formed : (v f : ℕ) → in_range v f ≡ true → well_formed (fresh v f) ≡ true
unfolding fresh
fresh_formed v f e = formed (fresh v f) (record { core = core_fresh v f e; mailboxes = unfold each in refl; of_registers = refl; of_mailboxes = refl; takers = fresh_takers v f e; claims = fresh_claims v f e })

-- A granted start is well formed.
pub start_formed : StartFormed
unfolding start_of
start_formed v f e = fresh_formed v f (go (in_range v f) refl)
  where
    go : (b : Bool) → in_range v f ≡ b → in_range v f ≡ true
    go true q = q
    go false q = let z : ◌≡◌ {A = ℕ} 1 0 = rw q at e in let n : ⊥ = omega arith in absurd n
