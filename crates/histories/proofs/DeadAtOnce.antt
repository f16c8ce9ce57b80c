-- Dead at once: what registers and mailboxes hold stays outside the range that is revoked. A narrower capability has no other cells, a
-- take lends an Open reservation, and a load keeps the tag only of a capability whose base, and so every cell, lies outside. Assumes
-- nothing.
use Prim.Native.Nat.{ℕ, ◌+◌, ◌≤◌, ◌<◌}
use native.Mathlib.Omega.{arith}
use mathlib.Core.Bool.{Bool, true, false, not, ◌&&◌, true≢false}
use mathlib.Core.Logic.{◌⊎◌, inl, inr, ⊎_elim}
use mathlib.Core.List.{List}
use mathlib.Core.Path.{◌≡◌, refl, sym, ap, subst, ◌∙◌}
use borrow.Author.Tests.{not-true}
use Rattle.capabilities.specs.declared.Range.{Range}
use Rattle.capabilities.specs.Capability.{base_of, length_of, permits}
use Rattle.capabilities.specs.Range.{inside}
use Rattle.capabilities.proofs.Choice.{and_left, and_right}
use Rattle.table.specs.Find.{find_of}
use Rattle.table.specs.Rows.{is_revoking, live, range_of}
use Rattle.table.proofs.Cells.{no_shared_cell}
use Rattle.table.proofs.Dying.{dyings, none, first_of}
use Rattle.table.proofs.Kept.{open_still}
use Rattle.table.proofs.Unrevoked.{take_still, give_still, split_still, merge_still}
use Rattle.reservations.specs.Core.{Core}
use Rattle.reservations.specs.Revocation.{running, revoked, dying, revoke_reasons, core_sound}
use Rattle.reservations.proofs.CoreAfter.{dying_inside}
use Rattle.reservations.proofs.CoreKept.{core_facts}
use Rattle.reservations.proofs.Revocations.{revoke_clear}
use Rattle.calls.specs.declared.Call.{Call}
use Rattle.calls.specs.declared.Call.TheVariants.{Revoke}
use Rattle.words.specs.Words.{register_of, word_at}
use Rattle.machine.specs.State.{State}
use Rattle.machine.specs.Roles.{collects, Asked, asked, role_of, caller_of}
use Rattle.machine.specs.Effects.{Effect}
use Rattle.machine.proofs.Deeds.{Recored, splits, merges, gives, revokes, maps, unmaps, reclaims, aimed_at, Deed, took, recored, swept, collected_all, zeroed, filled, wrote, mailed, received, deed}
use Rattle.histories.specs.Runs.{Machine, next, run}
use Rattle.histories.specs.Live.{Spot, register, mailbox, virtual, word_in, Live, Into}
use Rattle.histories.specs.Inv.{Inv, row_at, Confined}
use Rattle.histories.specs.Lending.{named_range}
use Rattle.histories.specs.DeadAtOnce.{OfParty, NoneDying, Dead, DeadAtOnce}
use Rattle.histories.proofs.Table.{running_by, revoked_by}
use Rattle.histories.proofs.Granted.{Went, went, went_or_not, went_next, went_core}
use Rattle.histories.proofs.Findings.{revoked_while}
use Rattle.histories.proofs.Revokes.{revoke_runs, revoke_range, revoke_sound}
use Rattle.histories.proofs.Always.{inv_reached, inv_step}
use Rattle.histories.proofs.Keep.{place_sound}
use Rattle.histories.proofs.Confining.{cell_in, live_confined}
use Rattle.histories.proofs.Lending.{lends, named_range_lem}
use Rattle.histories.proofs.Between.{Ending, done_table, run_until, lent_as}
use Rattle.histories.proofs.Held.{Tagged, Holds, OfTake, OfLoad, deed_holds}
use Rattle.histories.proofs.Later.{Outside, outside_narrows, taken_outside}

-- While a revocation runs, a confined capability that does not die has no cell in the range: its reservation is another one.
living_outside : (c : Core) → core_sound c ≡ true → running c ≡ true → (x : ℕ) → Confined c.table x → dying c x ≡ false → Outside (revoked c) x
living_outside c ok run x k lives n =
    let t = c.table in
    let j = revoked_while c run in
    let some : base_of x < base_of x + length_of x = omega (arith, k.some) in
    let same = no_shared_cell _ t k.row j.row n.cell (core_facts c ok).rows k.used j.used (cell_in t x n.cell k n.from n.upto) (sym (ap (λ r. inside r n.cell) j.range) ∙ n.hit) in
    let mine : inside (range_of (row_at t k.row)) (base_of x) ≡ true = cell_in t x (base_of x) k (omega arith) some in
    true≢false (sym mine ∙ ap (λ i. inside (range_of (row_at t i)) (base_of x)) same ∙ sym (ap (λ r. inside r (base_of x)) j.range) ∙ sym (dying_inside c x) ∙ lives)

outside_lives : (c : Core) (x : ℕ) → 1 ≤ length_of x → Outside (revoked c) x → dying c x ≡ false
outside_lives c x some out = dying_inside c x ∙ go (inside (revoked c) (base_of x)) refl
  where
    go : (b : Bool) → inside (revoked c) (base_of x) ≡ b → inside (revoked c) (base_of x) ≡ false
    go true e = absurd (out (record { cell = base_of x; from = omega arith; upto = omega arith; hit = e }))
    go false e = e

-- While a revocation runs, no granted call but a collect changes which reservation is Revoking.
module _ (s : State) (ok : core_sound s.core ≡ true) (run : running s.core ≡ true) where
  abbrev Still : Core → Type 0
  Still k = dyings (live k.table) ≡ dyings (live s.core.table)

  recored_still : (k : Core) → Recored s.core k → Still k
  recored_still k (splits p base len z) = split_still _ s.core.table (core_facts s.core ok).rows p base len
  recored_still k (merges p base z) = merge_still _ s.core.table (core_facts s.core ok).rows p base
  recored_still k (gives p base to low z) = give_still _ s.core.table (core_facts s.core ok).rows p base to
  recored_still k (revokes p base z) = absurd (true≢false (sym run ∙ (revoke_clear s.core (find_of s.core.table p base) (unfold revoke_reasons in z)).free))
  recored_still k (maps page frame z) = refl
  recored_still k (unmaps page z) = refl
  recored_still k (reclaims x r) = refl

  deed_still : {cells tags : List ℕ} {a : Asked} {e : Effect} → Deed s cells tags a e → Still e.core ⊎ (a.role ≡ collects)
  deed_still (took p base reg permissions low-p low-reg few z) = inl (take_still _ s.core.table (core_facts s.core ok).rows p base)
  deed_still (recored p k r) = inl (recored_still k r)
  deed_still (swept p n runs) = inl refl
  deed_still (collected_all p z) = inr refl
  deed_still (zeroed p frame z) = inl refl
  deed_still (filled p d from w answer low g) = inl refl
  deed_still (wrote p a off x low-p low-a g) = inl refl
  deed_still (mailed p x to t) = inl refl
  deed_still (received p d low) = inl refl

-- What every step keeps until the collect.
record Quiet (r : Range) (m : Machine) : Type 0 where
  inv : Inv m
  runs : running m.state.core ≡ true
  range : revoked m.state.core ≡ r
  out : Holds (Outside r) m.state

module _ (r : Range) (m : Machine) (q : Quiet r m) where
  abbrev c : Core
  c = m.state.core

  -- Of the reservation that a granted take names, which is Open, no cell is in the range.
  take_out : (call : Call) → Went m call → OfTake (Outside r) m.state (role_of call)
  take_out call w p base reg permissions is =
      let k = lends m call p base reg permissions is w in
      let j = revoked_while c q.runs in
      taken_outside m call p base reg permissions is w r
      (λ v a b.
      let same = no_shared_cell _ c.table k.row j.row v (core_facts c (went_core m call w)).rows k.used j.used
      (sym (ap (λ x. inside x v) (named_range_lem m call p base reg permissions is w)) ∙ a) (sym (ap (λ x. inside x v) (sym q.range ∙ j.range)) ∙ b) in
      true≢false (sym j.dies ∙ sym (ap (λ i. is_revoking (row_at c.table i).state) same) ∙ open_still (row_at c.table k.row).state k.isopen))

  load_out : core_sound c ≡ true → OfLoad (Outside r) m.state m.cells m.tags
  load_out ok p a off g t =
      let w = register_of m.state.registers p a in
      let at = aimed_at m.state p a off in
      let x = word_at m.cells m.tags at in
      let keep = permits w.cell 4 && not (dying c x.cell) in
      subst (λ y. Outside y x.cell) q.range
      (living_outside c ok q.runs x.cell (place_sound c m.cells m.tags q.inv.memory (base_of w.cell + off) at g.place (and_left x.tag keep t))
      (not-true (dying c x.cell) (and_right (permits w.cell 4) (not (dying c x.cell)) (and_right x.tag keep t))))

  step_quiet : (call : Call) → Quiet r (next m call) ⊎ Ending m call (lent_as r)
  step_quiet call =
      ⊎_elim
      (λ w.
      let n = next m call in
      let d = deed m.state call m.cells m.tags w.clear in
      ⊎_elim
      (λ still.
      let same : dyings (live n.state.core.table) ≡ dyings (live c.table) = ap (λ t. dyings (live t)) (done_table m call w) ∙ still in
      inl
      (record {
        inv = inv_step m call q.inv;
        runs = running_by n.state.core ∙ ap (λ l. not (none l)) same ∙ sym (running_by c) ∙ q.runs;
        range = revoked_by n.state.core ∙ ap (λ l. range_of (first_of l)) same ∙ sym (revoked_by c) ∙ q.range;
        out =
            subst (λ x. Holds (Outside r) x.state) (sym (went_next m call w))
            (deed_holds (Outside r) m.state q.out m.cells m.tags (outside_narrows r) d (take_out call w) (load_out (went_core m call w)));
      }))
      (λ is.
      inr
      (record {
        party = caller_of call;
        is = ap (asked (caller_of call)) is;
        granted = w;
        from = omega (arith, ap (λ x. x.base) q.range);
        upto = omega (arith, ap (λ x. x.base) q.range, ap (λ x. x.length) q.range);
      }))
      (deed_still m.state (went_core m call w) q.runs d))
      (λ n. inl (subst (Quiet r) (sym n.0) q)) (went_or_not m call)

  dead : Dead m r
  dead = record { runs = q.runs; range = q.range; none = λ x h e. outside_lives c (word_in m x).cell (live_confined m q.inv x e).some (subst (λ y. Outside y (word_in m x).cell) (sym q.range) (apart x h e)); apart = apart }
    where
      apart : (x : Spot) → OfParty x → Live m x → Into r (word_in m x).cell → ⊥
      apart (register i) h e = q.out.registers i e
      apart (mailbox p) h e = q.out.mailboxes p e
      apart (virtual v) h e = absurd h

-- After a granted revoke, where no register and no mailbox holds a dying capability.
begun : (m : Machine) (p base : ℕ) → Went m (Revoke p base) → Inv m → NoneDying (next m (Revoke p base)) → Quiet (named_range m p base) (next m (Revoke p base))
begun m p base w inv quiet =
    let n = next m (Revoke p base) in
    let after = inv_step m (Revoke p base) inv in
    let runs = revoke_runs m p base w in
    let range = revoke_range m p base w in
    let out : (x : Spot) → OfParty x → Tagged (Outside (named_range m p base)) (word_in n x) =
    λ x h e. subst (λ y. Outside y (word_in n x).cell) range (living_outside n.state.core (revoke_sound m p base w) runs (word_in n x).cell (live_confined n after x e) (quiet x h e)) in
    record { inv = after; runs = runs; range = range; out = record { registers = λ i. out (register i) tt; mailboxes = λ i. out (mailbox i) tt } }

pub dead_at_once : DeadAtOnce
dead_at_once m r p base g quiet calls =
    let range = named_range m p base in
    let start = begun m p base (went m (Revoke p base) g) (inv_reached m r) quiet in
    ⊎_elim (λ q. inl (dead range (run (next m (Revoke p base)) calls) q)) inr
    (run_until (Quiet range) (lent_as range) (λ n c q. step_quiet range n q c) calls (next m (Revoke p base)) start)
