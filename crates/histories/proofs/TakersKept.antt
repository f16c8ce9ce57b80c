-- Takers as written, of one reservation and from a call to the next. A take and a collect exchange a reservation for one of the same
-- cells, and these cells alone get another taker. By every other call cells keep their takers, and a new reservation's cells are those of
-- the ones that it replaces. Assumes nothing.
use Prim.Native.Nat.{ℕ, zero, suc, ◌+◌, ◌*◌, ◌<◌, ◌≤◌}
use native.Mathlib.Omega.{arith}
use mathlib.Core.Bool.{Bool, true, false, false≢true}
use mathlib.Core.List.{List, [], ◌∷◌, ◌++◌}
use mathlib.Core.Logic.{◌⊎◌, inl, inr, ⊎_elim}
use mathlib.Core.Path.{◌≡◌, refl, sym, ap, subst, ◌∙◌}
use borrow.Author.Tests.{ltb-true, ltb-false}
use lib.Dec.{ltb}
use lib.ListN.{length, get_or, take, drop}
use Rattle.capabilities.specs.declared.Range.{Range}
use Rattle.capabilities.specs.Lists.{pick}
use Rattle.capabilities.specs.Range.{inside}
use Rattle.capabilities.proofs.Choice.{pick_yes, pick_no}
use Rattle.table.specs.declared.Reservation.{Reservation}
use Rattle.table.specs.declared.ReservationState.{ReservationState}
use Rattle.table.specs.declared.ReservationState.TheVariants.{Open, Taken, Revoking}
use Rattle.table.specs.Table.{Table}
use Rattle.table.specs.Find.{row_of}
use Rattle.table.specs.Operations.{alike, joined, joined_taker, lower_part, upper_part, taken_row, given_row, take_of, split_of, merge_of, give_of}
use Rattle.table.specs.Rows.{is_open, is_taken, is_revoking, no_taker, several_takers, blank, live, range_of}
use Rattle.table.proofs.After.{Replaced, take_after, split_after, merge_after, give_after}
use Rattle.table.proofs.Cells.{inside_made, no_shared_cell}
use Rattle.table.proofs.Kept.{row_live}
use Rattle.table.proofs.Takers.{lent_taker, takers_row, joined_either}
use Rattle.table.proofs.Tiled.{row_some}
use Rattle.reservations.specs.Core.{Core}
use Rattle.reservations.specs.Revocation.{revoking_row, collected_row, revoked, revoke_of, collect_of}
use Rattle.reservations.proofs.CoreAfter.{revoke_after}
use Rattle.reservations.proofs.CoreKept.{CoreFacts, core_facts}
use Rattle.machine.specs.Formed.{well_formed}
use Rattle.machine.specs.Roles.{Asked}
use Rattle.machine.specs.Effects.{Effect}
use Rattle.machine.proofs.Deeds.{Recored, splits, merges, gives, revokes, maps, unmaps, reclaims, Deed, took as tookRow, recored, swept, collected_all, zeroed, filled, wrote, mailed, received}
use Rattle.machine.proofs.Keeps.{Facts, facts}
use Rattle.histories.specs.Runs.{Machine}
use Rattle.histories.specs.Inv.{row_at}
use Rattle.histories.specs.Lending.{named_range}
use Rattle.histories.specs.Takers.{taker_by}
use Rattle.histories.proofs.Table.{rows_after, inside_wider, lower_inside, upper_inside, joined_inside}
use Rattle.histories.proofs.Carrying.{row_fits, row_seam, split_short}
use Rattle.histories.proofs.Findings.{ends}
use Rattle.histories.proofs.Naming.{sound_row}

-- Nobody has taken a cell of a range.
abbrev pub NobodyTook : Range → (ℕ → ℕ) → Type 0
NobodyTook a took = (cell : ℕ) → inside a cell ≡ true → took cell ≡ no_taker

-- Two cells of a range were taken by different parties.
pub record Differ (a : Range) (took : ℕ → ℕ) : Type 0 where
  pub one : ℕ
  pub other : ℕ
  pub has_one : inside a one ≡ true
  pub has_other : inside a other ≡ true
  pub apart : took one ≡ took other → ⊥

-- A taker is that of a range's cells.
pub record TakerTook (a : Range) (taker : ℕ) (took : ℕ → ℕ) : Type 0 where
  pub by_party : (cell : ℕ) → inside a cell ≡ true → took cell < 8
  pub by_one : taker < 8 → (cell : ℕ) → inside a cell ≡ true → took cell ≡ taker
  pub by_several : taker ≡ several_takers → Differ a took

-- What holds of a reservation of this state, range and taker. A Revoking one has kept the taker that it had when Taken; or it was Open,
-- and its taker is 0.
abbrev pub Written : ReservationState → Range → ℕ → (ℕ → ℕ) → Type 0
Written Open a taker took = NobodyTook a took
Written Taken a taker took = TakerTook a taker took
Written Revoking a taker took = TakerTook a taker took ⊎ (NobodyTook a took × (taker ≡ 0))

abbrev pub RowWritten : Reservation → (ℕ → ℕ) → Type 0
RowWritten r took = Written r.state (range_of r) r.taker took

abbrev pub AllWritten : Table → (ℕ → ℕ) → Type 0
AllWritten t took = (j : ℕ) → j < length (live t) → RowWritten (row_at t j) took

pub written_open : (s : ReservationState) (a : Range) (taker : ℕ) (took : ℕ → ℕ) → Written s a taker took → is_open s ≡ true → NobodyTook a took
written_open Open a taker took k o = k
written_open Taken a taker took k o = absurd (false≢true o)
written_open Revoking a taker took k o = absurd (false≢true o)

pub written_taken : (s : ReservationState) (a : Range) (taker : ℕ) (took : ℕ → ℕ) → Written s a taker took → is_taken s ≡ true → TakerTook a taker took
written_taken Open a taker took k o = absurd (false≢true o)
written_taken Taken a taker took k o = k
written_taken Revoking a taker took k o = absurd (false≢true o)

pub written_revoking : (s : ReservationState) (a : Range) (taker : ℕ) (took : ℕ → ℕ) → Written s a taker took → is_revoking s ≡ true → TakerTook a taker took ⊎ (NobodyTook a took × (taker ≡ 0))
written_revoking Open a taker took k o = absurd (false≢true o)
written_revoking Taken a taker took k o = absurd (false≢true o)
written_revoking Revoking a taker took k o = k

-- One of several takers is Taken, or was.
pub written_several : (s : ReservationState) (a : Range) (taker : ℕ) (took : ℕ → ℕ) → Written s a taker took → is_open s ≡ false → taker ≡ several_takers → Differ a took
written_several Open a taker took k o z = absurd (false≢true (sym o))
written_several Taken a taker took k o z = k.by_several z
written_several Revoking a taker took k o z = ⊎_elim (λ x. x.by_several z) (λ x. absurd (omega (arith, x.1))) k

-- What is said of a range depends on its own cells alone.
module _ (a : Range) (took took' : ℕ → ℕ) (same : (cell : ℕ) → inside a cell ≡ true → took' cell ≡ took cell) where
  nobody_same : NobodyTook a took → NobodyTook a took'
  nobody_same k cell e = same cell e ∙ k cell e

  taker_same : (taker : ℕ) → TakerTook a taker took → TakerTook a taker took'
  taker_same taker k =
      record {
        by_party = λ cell e. subst (λ n. n < 8) (sym (same cell e)) (k.by_party cell e);
        by_one = λ few cell e. same cell e ∙ k.by_one few cell e;
        by_several = λ z. differ (k.by_several z);
      }
    where
      differ : Differ a took → Differ a took'
      differ d =
          record { one = d.one; other = d.other; has_one = d.has_one; has_other = d.has_other; apart = λ e. d.apart (sym (same d.one d.has_one) ∙ e ∙ same d.other d.has_other) }

  written_same : (s : ReservationState) (taker : ℕ) → Written s a taker took → Written s a taker took'
  written_same Open taker k = nobody_same k
  written_same Taken taker k = taker_same taker k
  written_same Revoking taker k = ⊎_elim (λ x. inl (taker_same taker x)) (λ x. inr (nobody_same x.0, x.1)) k

-- A revoke keeps the taker of a Taken one and sets that of an Open one to 0.
written_revoked : (s : ReservationState) (a : Range) (taker : ℕ) (took : ℕ → ℕ) → Written s a taker took → Written Revoking a (pick (is_open s) 0 taker) took
written_revoked Open a taker took k = inr (k, refl)
written_revoked Taken a taker took k = inl k
written_revoked Revoking a taker took k = k

-- A wider range has the cells too.
differ_wider : (a b : Range) (took : ℕ → ℕ) → ((cell : ℕ) → inside b cell ≡ true → inside a cell ≡ true) → Differ b took → Differ a took
differ_wider a b took wider d = record { one = d.one; other = d.other; has_one = wider d.one d.has_one; has_other = wider d.other d.has_other; apart = d.apart }

-- Two neighbours joined.
module _ (took : ℕ → ℕ) (r s : Reservation) (seam : s.base ≡ r.base + r.length) (fits : r.length + s.length < 65536) (some-r : 0 < r.length) (some-s : 0 < s.length) where
  abbrev whole : Range
  whole = range_of (joined r s)

  long : whole.length ≡ r.length + s.length
  long = omega arith

  has_r : (cell : ℕ) → inside (range_of r) cell ≡ true → inside whole cell ≡ true
  has_r cell = inside_wider whole (range_of r) cell (omega arith) (omega (arith, long))

  has_s : (cell : ℕ) → inside (range_of s) cell ≡ true → inside whole cell ≡ true
  has_s cell = inside_wider whole (range_of s) cell (omega arith) (omega (arith, long))

  -- What holds of the cells of both.
  of_both : (P : ℕ → Type 0) → ((cell : ℕ) → inside (range_of r) cell ≡ true → P cell) → ((cell : ℕ) → inside (range_of s) cell ≡ true → P cell) → (cell : ℕ) → inside whole cell ≡ true → P cell
  of_both P j k cell e = ⊎_elim (j cell) (k cell) (joined_inside r s cell seam fits e)

  module _ (most-r : r.taker ≤ 8) (most-s : s.taker ≤ 8) (j : TakerTook (range_of r) r.taker took) (k : TakerTook (range_of s) s.taker took) where
    one_joined : joined_taker r.taker s.taker < 8 → (cell : ℕ) → inside whole cell ≡ true → took cell ≡ joined_taker r.taker s.taker
    one_joined few =
        ⊎_elim
        (λ (same, is).
        let low : r.taker < 8 = omega arith in
        of_both (λ cell. took cell ≡ joined_taker r.taker s.taker) (λ cell e. j.by_one low cell e ∙ sym is) (λ cell e. k.by_one (subst (λ n. n < 8) same low) cell e ∙ sym same ∙ sym is))
        (λ (apart, is). absurd (omega arith)) (joined_either r.taker s.taker)

    -- One of the two has several; or their first cells were taken by different parties.
    several_joined : joined_taker r.taker s.taker ≡ several_takers → Differ whole took
    several_joined z = go (ltb r.taker 8) refl (ltb s.taker 8) refl
      where
        go : (x : Bool) → ltb r.taker 8 ≡ x → (y : Bool) → ltb s.taker 8 ≡ y → Differ whole took
        go false e y f = differ_wider whole (range_of r) took has_r (j.by_several (omega (arith, ltb-false r.taker 8 e)))
        go true e false f = differ_wider whole (range_of s) took has_s (k.by_several (omega (arith, ltb-false s.taker 8 f)))
        go true e true f =
            let low = ltb-true r.taker 8 e in
            let first_r = inside_made (range_of r) r.base (omega arith) (omega arith) in
            let first-s = inside_made (range_of s) s.base (omega arith) (omega arith) in
            record {
              one = r.base;
              other = s.base;
              has_one = has_r r.base first_r;
              has_other = has_s s.base first-s;
              apart = λ equal.
                  let same : r.taker ≡ s.taker = sym (j.by_one low r.base first_r) ∙ equal ∙ k.by_one (ltb-true s.taker 8 f) s.base first-s in
                  ⊎_elim (λ x. absurd (omega (arith, x.1, low))) (λ x. x.0 same) (joined_either r.taker s.taker);
            }

    taker_joined : TakerTook whole (joined_taker r.taker s.taker) took
    taker_joined = record { by_party = of_both (λ cell. took cell < 8) j.by_party k.by_party; by_one = one_joined; by_several = several_joined }

  written_joined : (x y : ReservationState) → alike x y ≡ true → (is_open x ≡ false → r.taker ≤ 8) → (is_open y ≡ false → s.taker ≤ 8)
      → Written x (range_of r) r.taker took → Written y (range_of s) s.taker took → Written x whole (joined_taker r.taker s.taker) took
  written_joined Open Open e p q j k = of_both (λ cell. took cell ≡ no_taker) j k
  written_joined Open Taken e p q j k = absurd (false≢true e)
  written_joined Open Revoking e p q j k = absurd (false≢true e)
  written_joined Taken Open e p q j k = absurd (false≢true e)
  written_joined Taken Taken e p q j k = taker_joined (p refl) (q refl) j k
  written_joined Taken Revoking e p q j k = absurd (false≢true e)
  written_joined Revoking y e p q j k = absurd (false≢true e)

-- What is put in place of one reservation, or two.
one_row : (P : Reservation → Type 0) (x : Reservation) → P x → (j : ℕ) → j < 1 → P (get_or (x ∷ []) j blank)
one_row P x p zero b = p
one_row P x p (suc j) b = absurd (omega arith)

two_rows : (P : Reservation → Type 0) (x y : Reservation) → P x → P y → (j : ℕ) → j < 2 → P (get_or (x ∷ y ∷ []) j blank)
two_rows P x y p q zero b = p
two_rows P x y p q (suc j) b = one_row P y q j (omega arith)

-- The cells of a range get another taker.
abbrev retaken : Range → ℕ → (ℕ → ℕ) → ℕ → ℕ
retaken a taker took cell = pick (inside a cell) taker (took cell)

retaken_yes : (a : Range) (taker : ℕ) (took : ℕ → ℕ) (cell : ℕ) → inside a cell ≡ true → retaken a taker took cell ≡ taker
retaken_yes a taker took cell = pick_yes (inside a cell) taker (took cell)

-- A granted call.
module _ (m : Machine) (formed : well_formed m.state ≡ true) (took : ℕ → ℕ) (all : AllWritten m.state.core.table took) where
  abbrev c : Core
  c = m.state.core

  abbrev t : Table
  t = c.table

  abbrev cells : ℕ
  cells = 16 * c.pages.v

  sure : Facts m.state
  sure = facts m.state formed

  rows : CoreFacts c
  rows = core_facts c sure.core

  -- Other reservations of cells that keep their takers.
  replaced : (u : Table) (party base i k : ℕ) (new : List Reservation) → Replaced t u party base i k new → ((j : ℕ) → j < length new → RowWritten (get_or new j blank) took) → AllWritten u took
  replaced u party base i k new r = rows_after t u new i k r.within r.now (λ x. RowWritten x took) (λ j b far. all j b)

  -- One reservation of the same cells, which get another taker.
  exchanged : (u : Table) (i taker : ℕ) (a : Range) (new : Reservation) → i < length (live t) → live u ≡ take i (live t) ++ new ∷ drop (i + 1) (live t) → a ≡ range_of (row_at t i)
      → RowWritten new (retaken a taker took) → AllWritten u (retaken a taker took)
  exchanged u i taker a new h now is k =
      rows_after t u (new ∷ []) i 1 (omega arith) now (λ x. RowWritten x (retaken a taker took)) old (one_row (λ x. RowWritten x (retaken a taker took)) new k)
    where
      old : (j : ℕ) → j < length (live t) → (j < i + 1 → j < i) → RowWritten (row_at t j) (retaken a taker took)
      old j b far = written_same (range_of (row_at t j)) took (retaken a taker took) (λ cell e. pick_no (inside a cell) taker (took cell) (out cell e (inside a cell) refl)) (row_at t j).state (row_at t j).taker (all j b)
        where
          out : (cell : ℕ) → inside (range_of (row_at t j)) cell ≡ true → (x : Bool) → inside a cell ≡ x → inside a cell ≡ false
          out cell e false f = f
          out cell e true f =
              let same : j ≡ i = no_shared_cell cells t j i cell rows.rows b h e (sym (ap (λ y. inside y cell) is) ∙ f) in
              absurd (let z = far (omega arith) in omega arith)

  take_written : (p base : ℕ) → p < 8 → (take_of t p base).code ≡ 0 → AllWritten (take_of t p base).table (retaken (named_range m p base) p took)
  take_written p base low z =
      let (i, o, r) = take_after cells t rows.rows p base z in
      let h : i < length (live t) = omega (arith, r.within) in
      let is : named_range m p base ≡ range_of (row_at t i) = ap (λ f. range_of (row_of t f)) r.found ∙ ap range_of (row_live t i h) in
      exchanged (take_of t p base).table i p (named_range m p base) (taken_row (row_at t i) p) h r.now is
      (subst (λ a. TakerTook a p (retaken (named_range m p base) p took)) is
      (record {
        by_party = λ cell e. subst (λ n. n < 8) (sym (retaken_yes (named_range m p base) p took cell e)) low;
        by_one = λ few cell e. retaken_yes (named_range m p base) p took cell e;
        by_several = λ e. absurd (omega arith);
      }))

  collect_written : (collect_of c).code ≡ 0 → AllWritten (collect_of c).core.table (retaken (revoked c) no_taker took)
  collect_written z =
      let k = ends c sure.core z in
      exchanged (collect_of c).core.table k.row no_taker (revoked c) (collected_row (row_at t k.row)) k.used k.now k.range
      (subst (λ a. NobodyTook a (retaken (revoked c) no_taker took)) k.range (retaken_yes (revoked c) no_taker took))

  split_written : (p base len : ℕ) → (split_of t p base len).code ≡ 0 → AllWritten (split_of t p base len).table took
  split_written p base len z =
      let (i, o, r) = split_after cells t rows.rows p base len z in
      let h : i < length (live t) = omega (arith, r.within) in
      let short = split_short c sure.core p base len i z r.found h in
      let none = written_open (row_at t i).state (range_of (row_at t i)) (row_at t i).taker took (all i h) o in
      replaced (split_of t p base len).table p base i 1 (lower_part (row_at t i) len ∷ upper_part (row_at t i) len ∷ []) r
      (two_rows (λ x. RowWritten x took) (lower_part (row_at t i) len) (upper_part (row_at t i) len) (λ cell e. none cell (lower_inside (row_at t i) len cell short e))
      (λ cell e. none cell (upper_inside (row_at t i) len cell short (row_fits c sure.core i h) e)))

  some : (j : ℕ) → j < length (live t) → 0 < (row_at t j).length
  some j b = row_some (row_at t j) (sound_row cells t rows.rows j b)

  most : (j : ℕ) → j < length (live t) → is_open (row_at t j).state ≡ false → (row_at t j).taker ≤ 8
  most j b o = lent_taker (row_at t j) o (takers_row (live t) j sure.takers b)

  merge_written : (p base : ℕ) → (merge_of t p base).code ≡ 0 → AllWritten (merge_of t p base).table took
  merge_written p base z =
      let (i, same, r) = merge_after cells t rows.rows p base z in
      let h : i + 1 < length (live t) = omega (arith, r.within) in
      replaced (merge_of t p base).table p base i 2 (joined (row_at t i) (row_at t (i + 1)) ∷ []) r
      (one_row (λ x. RowWritten x took) (joined (row_at t i) (row_at t (i + 1)))
      (written_joined took (row_at t i) (row_at t (i + 1)) (row_seam c sure.core i h) (omega (arith, row_fits c sure.core (i + 1) h, row_seam c sure.core i h)) (some i (omega arith)) (some (i + 1) h)
      (row_at t i).state (row_at t (i + 1)).state same (most i (omega arith)) (most (i + 1) h) (all i (omega arith)) (all (i + 1) h)))

  give_written : (p base to : ℕ) → (give_of t p base to).code ≡ 0 → AllWritten (give_of t p base to).table took
  give_written p base to z =
      let (i, o, r) = give_after cells t rows.rows p base to z in
      replaced (give_of t p base to).table p base i 1 (given_row (row_at t i) to ∷ []) r (one_row (λ x. RowWritten x took) (given_row (row_at t i) to) (all i (omega (arith, r.within))))

  revoke_written : (p base : ℕ) → (revoke_of c p base).code ≡ 0 → AllWritten (revoke_of c p base).core.table took
  revoke_written p base z =
      let (i, r) = revoke_after c sure.core p base z in
      replaced (revoke_of c p base).core.table p base i 1 (revoking_row (row_at t i) ∷ []) r
      (one_row (λ x. RowWritten x took) (revoking_row (row_at t i)) (written_revoked (row_at t i).state (range_of (row_at t i)) (row_at t i).taker took (all i (omega (arith, r.within)))))

  recored_written : (k : Core) → Recored c k → AllWritten k.table took
  recored_written k (splits p base len z) = split_written p base len (unfold split_of in z)
  recored_written k (merges p base z) = merge_written p base (unfold merge_of in z)
  recored_written k (gives p base to low z) = give_written p base to (unfold give_of in z)
  recored_written k (revokes p base z) = revoke_written p base (unfold revoke_of in z)
  recored_written k (maps page frame z) = all
  recored_written k (unmaps page z) = all
  recored_written k (reclaims x r) = all

  pub deed_written : {a : Asked} {e : Effect} → Deed m.state m.cells m.tags a e → AllWritten e.core.table (λ cell. taker_by m a.caller a.role cell (took cell))
  deed_written (tookRow p base reg permissions low-p low-reg few z) = take_written p base low-p (unfold take_of in z)
  deed_written (recored p k r) = recored_written k r
  deed_written (swept p n runs) = all
  deed_written (collected_all p z) = collect_written (unfold collect_of in z)
  deed_written (zeroed p frame z) = all
  deed_written (filled p d from w answer low g) = all
  deed_written (wrote p a off x low-p low-a g) = all
  deed_written (mailed p x to q) = all
  deed_written (received p d low) = all
