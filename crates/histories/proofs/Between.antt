-- Lent once, second half: a lent range stays within one lent reservation until a collect that covers it. Assumes nothing.
use Prim.Native.Nat.{ℕ, ◌+◌, ◌*◌, ◌≤◌}
use native.Mathlib.Omega.{arith}
use mathlib.Core.Bool.{Bool, true, false, true≢false}
use mathlib.Core.List.{List, [], ◌∷◌}
use mathlib.Core.Logic.{◌⊎◌, inl, inr, ⊎_elim}
use mathlib.Core.Path.{◌≡◌, refl, sym, ap, subst, ◌∙◌}
use Rattle.capabilities.specs.declared.Range.{Range}
use Rattle.capabilities.specs.Range.{inside}
use Rattle.table.specs.declared.Reservation.{Reservation}
use Rattle.table.specs.declared.ReservationState.TheVariants.{Taken}
use Rattle.table.specs.Table.{Table}
use Rattle.table.specs.Operations.{take_of, taken_row, split_of, merge_of, give_of}
use Rattle.table.specs.Rows.{is_open, live, range_of, reservation}
use Rattle.table.proofs.Cells.{inside_made, no_shared_cell}
use Rattle.table.proofs.Sound.{sound}
use Rattle.table.proofs.Tiled.{tiled_some}
use Rattle.reservations.specs.Core.{Core}
use Rattle.reservations.specs.Revocation.{revoked, revoke_of, core_sound}
use Rattle.reservations.proofs.CoreKept.{CoreFacts, core_facts}
use Rattle.calls.specs.declared.Call.{Call}
use Rattle.machine.specs.State.{State}
use Rattle.machine.specs.Roles.{collects, Asked, asked, caller_of, IsCollect}
use Rattle.machine.specs.Effects.{Effect}
use Rattle.machine.specs.Step.{done, effect_on}
use Rattle.machine.proofs.Deeds.{Recored, splits, merges, gives, revokes, maps, unmaps, reclaims, Deed, took, recored, swept, collected_all, zeroed, filled, wrote, mailed, received, deed}
use Rattle.histories.specs.Runs.{Machine, Granted, next, run}
use Rattle.histories.specs.Inv.{row_at}
use Rattle.histories.specs.Lending.{lent_range, Ended, EndedBetween}
use Rattle.histories.proofs.Table.{Around, Carried, inside_wider, collect_kept}
use Rattle.histories.proofs.Carrying.{take_kept, split_kept, merge_kept, give_kept, revoke_kept}
use Rattle.histories.proofs.Granted.{Went, went, went_or_not, went_next, went_core}
use Rattle.histories.proofs.Findings.{Ends, row_first}
use Rattle.histories.proofs.Lending.{Lends, lends}
use Rattle.histories.proofs.Survivors.{collect_core, collect_ends}

pub carried_self : (t : Table) → Carried t t
carried_self t =
    record {
      kept = λ j h o. record { row = j; used = h; lent = o; from = omega arith; upto = omega arith };
      came = λ j v h o e. record { row = j; used = h; isopen = o; hit = e };
    }

-- Every granted call but collect carries the lent reservations along.
module _ (s : State) (ok : core_sound s.core ≡ true) where
  abbrev t : Table
  t = s.core.table

  recored_carried : (k : Core) → Recored s.core k → Carried t k.table
  recored_carried k (splits p base len z) = split_kept s.core ok p base len (unfold split_of in z)
  recored_carried k (merges p base z) = merge_kept s.core ok p base (unfold merge_of in z)
  recored_carried k (gives p base to low z) = give_kept s.core ok p base to (unfold give_of in z)
  recored_carried k (revokes p base z) = revoke_kept s.core ok p base (unfold revoke_of in z)
  recored_carried k (maps page frame z) = carried_self t
  recored_carried k (unmaps page z) = carried_self t
  recored_carried k (reclaims x r) = carried_self t

  pub deed_carried : {cells tags : List ℕ} {a : Asked} {e : Effect} → Deed s cells tags a e → Carried t e.core.table ⊎ (a.role ≡ collects)
  deed_carried (took p base reg permissions low-p low-reg few z) = inl (take_kept s.core ok p base (unfold take_of in z))
  deed_carried (recored p k r) = inl (recored_carried k r)
  deed_carried (swept p n runs) = inl (carried_self t)
  deed_carried (collected_all p z) = inr refl
  deed_carried (zeroed p frame z) = inl (carried_self t)
  deed_carried (filled p d from w answer low g) = inl (carried_self t)
  deed_carried (wrote p a off x low-p low-a g) = inl (carried_self t)
  deed_carried (mailed p x to q) = inl (carried_self t)
  deed_carried (received p d low) = inl (carried_self t)

-- A range within a reservation that is within another.
pub around_further : (t u : Table) (r : Reservation) (a : Around t r) → Around u (row_at t a.row) → Around u r
around_further t u r a b = record { row = b.row; used = b.used; lent = b.lent; from = omega (arith, a.from, b.from); upto = omega (arith, a.upto, b.upto) }

-- A call is a granted collect of a revocation that covers a range.
pub record Ending (m : Machine) (c : Call) (r : Reservation) : Type 0 where
  pub party : ℕ
  pub is : IsCollect c party
  pub granted : Went m c
  pub from : (revoked m.state.core).base ≤ r.base
  pub upto : r.base + r.length ≤ (revoked m.state.core).base + (revoked m.state.core).length

pub done_table : (m : Machine) (c : Call) → Went m c → (next m c).state.core.table ≡ (effect_on m.state c m.cells m.tags).core.table
unfolding done
done_table m c w = ap (λ n. n.state.core.table) (went_next m c w)

collect_lent : (m : Machine) (c : Call) (p : ℕ) (r : Reservation) → IsCollect c p → Went m c → Around m.state.core.table r → Around (next m c).state.core.table r ⊎ Ending m c r
collect_lent m c p r is w a = go (inside (range_of (row_at t₁ k.row)) b) refl
  where
    t₁ : Table
    t₁ = m.state.core.table

    k : Ends m.state.core
    k = collect_ends m c p is w

    sure : CoreFacts m.state.core
    sure = core_facts m.state.core (went_core m c w)

    b : ℕ
    b = (row_at t₁ a.row).base

    mine : inside (range_of (row_at t₁ a.row)) b ≡ true
    mine =
        let some = tiled_some (16 * m.state.core.pages.v) (live t₁) 0 a.row (sound (16 * m.state.core.pages.v) t₁ sure.rows).tiled a.used in
        inside_made (range_of (row_at t₁ a.row)) b (omega arith) (omega arith)

    go : (x : Bool) → inside (range_of (row_at t₁ k.row)) b ≡ x → Around (next m c).state.core.table r ⊎ Ending m c r
    go true e =
        let n = no_shared_cell (16 * m.state.core.pages.v) t₁ a.row k.row b sure.rows a.used k.used mine e in
        let range : range_of (row_at t₁ a.row) ≡ revoked m.state.core = ap (λ j. range_of (row_at t₁ j)) n ∙ sym k.range in
        inr
        (record {
          party = p;
          is = is;
          granted = w;
          from = subst (λ x. x.base ≤ r.base) range a.from;
          upto = subst (λ x. r.base + r.length ≤ x.base + x.length) range a.upto;
        })
    go false e =
        inl
        (around_further t₁ (next m c).state.core.table r a
        (collect_kept t₁ (next m c).state.core.table k.row k.used (ap (λ x. live x.table) (collect_core m c p is w) ∙ k.now) b a.row e a.used a.lent mine))

-- A step keeps a lent range within a lent reservation, or ends it.
pub step_lent : (m : Machine) (c : Call) (r : Reservation) → Around m.state.core.table r → Around (next m c).state.core.table r ⊎ Ending m c r
step_lent m c r a =
    ⊎_elim
    (λ w.
    ⊎_elim
    (λ k. inl (subst (λ u. Around u r) (sym (done_table m c w)) (around_further m.state.core.table (effect_on m.state c m.cells m.tags).core.table r a (k.kept a.row a.used a.lent))))
    (λ k. collect_lent m c (caller_of c) r (ap (asked (caller_of c)) k) w a)
    (deed_carried m.state (went_core m c w) (deed m.state c m.cells m.tags w.clear)))
    (λ n. inl (subst (λ x. Around x.state.core.table r) (sym n.0) a)) (went_or_not m c)

pub went_granted : (m : Machine) (c : Call) → Went m c → Granted m c
unfolding done
went_granted m c w = ap (λ o. o.answer.code) w.now

-- What a step keeps or ends, a history keeps or ends.
pub run_until : (P : Machine → Type 0) (r : Reservation) → ((m : Machine) (c : Call) → P m → P (next m c) ⊎ Ending m c r) → (calls : List Call) (m : Machine) → P m → P (run m calls) ⊎ Ended m calls (range_of r)
unfolding run
run_until P r step [] m a = inl a
run_until P r step (c ∷ calls) m a =
    ⊎_elim
    (λ b.
    ⊎_elim inl
    (λ e. inr (record { before = c ∷ e.before; collect = e.collect; party = e.party; after = e.after; are = ap (λ l. c ∷ l) e.are; is = e.is; granted = e.granted; from = e.from; upto = e.upto }))
    (run_until P r step calls (next m c) b))
    (λ e. inr (record { before = []; collect = c; party = e.party; after = calls; are = refl; is = e.is; granted = went_granted m c e.granted; from = e.from; upto = e.upto }))
    (step m c a)

pub run_lent : (calls : List Call) (m : Machine) (r : Reservation) → Around m.state.core.table r → Around (run m calls).state.core.table r ⊎ Ended m calls (range_of r)
run_lent calls m r a = run_until (λ n. Around n.state.core.table r) r (λ n c b. step_lent n c r b) calls m a

-- A range as one lent reservation.
abbrev pub lent_as : Range → Reservation
lent_as r = reservation r.base r.length Taken 0 0

lent_around : (m : Machine) (take : Call) (p base : ℕ) → Lends m take p base → Around (next m take).state.core.table (lent_as (lent_range m take base))
lent_around m take p base k =
    let t = m.state.core.table in
    let u = (next m take).state.core.table in
    let (used, row) = row_first t u p base k.row 1 (taken_row (row_at t k.row) p) [] k.now in
    subst (λ r. Around u (lent_as r)) (sym k.range)
    (record {
      row = k.row;
      used = used;
      lent = ap (λ x. is_open x.state) row;
      from = omega (arith, ap (λ x. x.base) row);
      upto = omega (arith, ap (λ x. x.base) row, ap (λ x. x.length) row);
    })

pub ended_between : EndedBetween
ended_between m r take p base reg permissions is g calls take' q base' reg' permissions' is' g' v e e' =
    ⊎_elim
    (λ a.
    let t = n.state.core.table in
    let same = no_shared_cell (16 * n.state.core.pages.v) t a.row k.row v (core_facts n.state.core (went_core n take' w)).rows a.used k.used
    (inside_wider (range_of (row_at t a.row)) (lent_range m take base) v a.from a.upto e) (sym (ap (λ x. inside x v) k.range) ∙ e') in
    absurd (true≢false (sym k.isopen ∙ sym (ap (λ j. is_open (row_at t j).state) same) ∙ a.lent)))
    (λ x. x)
    (run_lent calls (next m take) (lent_as (lent_range m take base)) (lent_around m take p base (lends m take p base reg permissions is (went m take g))))
  where
    n : Machine
    n = run (next m take) calls

    w : Went n take'
    w = went n take' g'

    k : Lends n take' q base'
    k = lends n take' q base' reg' permissions' is' w
