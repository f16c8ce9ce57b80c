-- Where no reservation is Revoking, each Open one is taken by its holder, the highest first: then all are Taken and party 0 holds them.
-- Assumes nothing.
use Rattle.std.specs.Prelude.{Some}
use Prim.Native.Nat.{ℕ, zero, suc, ◌+◌, ◌-◌, ◌*◌, ◌<◌, ◌≤◌}
use native.Mathlib.Omega.{arith}
use mathlib.Core.Bool.{Bool, true, false, ◌&&◌, ◌||◌, true≢false}
use mathlib.Core.List.{List, [], ◌∷◌}
use mathlib.Core.Path.{◌≡◌, refl, sym, ap, subst, ◌∙◌}
use borrow.Author.Tests.{eqb-true, eqb-false}
use lib.Dec.{eqb, ltb, leb}
use lib.ListN.{length, get_or}
use Rattle.capabilities.specs.Lists.{pick}
use Rattle.capabilities.specs.Refusals.{first}
use Rattle.capabilities.proofs.Choice.{and_right}
use Rattle.table.specs.declared.Reservation.{Reservation}
use Rattle.table.specs.declared.ReservationState.{ReservationState}
use Rattle.table.specs.declared.ReservationState.TheVariants.{Open, Taken, Revoking}
use Rattle.table.specs.Table.{Table}
use Rattle.table.specs.Find.{find_of}
use Rattle.table.specs.Operations.{open_reasons, take_reasons, taken_row}
use Rattle.table.specs.Rows.{is_open, is_revoking, blank, live}
use Rattle.table.specs.Tiling.{row_sound, revokings}
use Rattle.table.proofs.Finding.{at_same}
use Rattle.table.proofs.After.{Replaced}
use Rattle.table.proofs.Kept.{row_live}
use Rattle.table.proofs.Tiled.{revokings_first}
use Rattle.calls.specs.declared.Call.TheVariants.{Take}
use Rattle.machine.specs.Roles.{plain_permissions}
use Rattle.machine.specs.Reasons.{reasons}
use Rattle.machine.specs.Step.{reasons_on}
use Rattle.histories.specs.Runs.{Machine, Granted, next}
use Rattle.histories.specs.Inv.{row_at}
use Rattle.histories.specs.Forming.{Standing}
use Rattle.histories.specs.Restoring.{each_below, open_at, take_at, taking}
use Rattle.histories.proofs.Table.{long, low_row, mid_row, high_row}
use Rattle.histories.proofs.Granted.{went}
use Rattle.histories.proofs.Lending.{lends}
use Rattle.histories.proofs.Forming.{standing_facts, standing_code, standing_next}
use Rattle.histories.proofs.Leading.{Leads, leads_to, each_leads}
use Rattle.histories.proofs.Naming.{sound_row, find_row, holder_named}
use Rattle.histories.proofs.Losing.{Uniform}

-- No reservation is Revoking: one by one.
none_revoking : (l : List Reservation) (i : ℕ) → revokings l ≡ 0 → i < length l → is_revoking (get_or l i blank).state ≡ false
none_revoking [] i e h = absurd (omega arith)
none_revoking (r ∷ l) zero e h = go (is_revoking r.state) refl
  where
    go : (b : Bool) → is_revoking r.state ≡ b → b ≡ false
    go true q = let w : ◌≡◌ {A = ℕ} (pick (is_revoking r.state) 1 0) 1 = rw q refl in absurd (omega (arith, revokings_first r l))
    go false q = refl
none_revoking (r ∷ l) (suc i) e h = none_revoking l i (omega (arith, revokings_first r l)) (omega arith)

-- A reservation is Taken, and party 0 holds it.
abbrev pub Lent : Reservation → Type 0
Lent r = (r.state ≡ Taken) × (r.holder ≡ 0)

is_taken : (s : ReservationState) → is_open s ≡ false → is_revoking s ≡ false → s ≡ Taken
is_taken Open o r = absurd (true≢false o)
is_taken Taken o r = refl
is_taken Revoking o r = absurd (true≢false r)

held_by : (b : Bool) (n : ℕ) → b ≡ false → b || eqb n 0 ≡ true → n ≡ 0
held_by true n p e = absurd (true≢false p)
held_by false n p e = eqb-true n 0 e

pub lent_row : (r : Reservation) → row_sound r ≡ true → is_open r.state ≡ false → is_revoking r.state ≡ false → Lent r
lent_row r e o q =
    (is_taken r.state o q, held_by (is_open r.state) r.holder o (and_right (ltb 0 r.length && leb r.holder 7) (is_open r.state || eqb r.holder 0) e))

abbrev size_of : Machine → ℕ
size_of m = 16 * m.state.core.pages.v

module _ (m : Machine) (v f : ℕ) (k : Standing m v f) (i : ℕ) (h : i < length (live m.state.core.table)) (o : is_open (row_at m.state.core.table i).state ≡ true) where
  abbrev t : Table
  t = m.state.core.table

  abbrev r : Reservation
  r = row_at t i

  found : find_of t r.holder r.base ≡ Some i
  found = find_row (size_of m) t (standing_facts m v f k).rows i h

  no_reason : first (reasons_on m.state (Take r.holder r.base 0) m.cells m.tags) ≡ 0
  unfolding reasons first take_reasons open_reasons
  no_reason = let isopen = ap (λ x. is_open x.state) (row_live t i h) ∙ o in rw (holder_named (size_of m) t (standing_facts m v f k).rows i h, found, isopen)

  take_goes : Granted m (Take r.holder r.base 0)
  take_goes = standing_code m v f (Take r.holder r.base 0) k ∙ no_reason

  take_rows : Replaced t (next m (Take r.holder r.base 0)).state.core.table r.holder r.base i 1 (taken_row r r.holder ∷ [])
  take_rows =
      let l = lends m (Take r.holder r.base 0) r.holder r.base 0 plain_permissions refl (went m (Take r.holder r.base 0) take_goes) in
      let n : l.row ≡ i = at_same (sym l.now.found ∙ found) in
      subst (λ j. Replaced t (next m (Take r.holder r.base 0)).state.core.table r.holder r.base j 1 (taken_row (row_at t j) r.holder ∷ [])) n l.now

-- The reservations from the n-th on are Taken, and those below are as they were in the table t₀.
record TakenFrom (t₀ : Table) (v f n : ℕ) (m : Machine) : Type 0 where
  standing : Standing m v f
  as_many : length (live m.state.core.table) ≡ length (live t₀)
  within : n ≤ length (live t₀)
  below : (i : ℕ) → i < n → row_at m.state.core.table i ≡ row_at t₀ i
  above : (i : ℕ) → n ≤ i → i < length (live t₀) → Lent (row_at m.state.core.table i)

-- The next one down: it is Taken already, or it is taken.
module _ (t₀ : Table) (v f n : ℕ) (m : Machine) (q : TakenFrom t₀ v f (suc n) m) where
  abbrev r₀ : Reservation
  r₀ = row_at t₀ n

  abbrev t₁ : Table
  t₁ = m.state.core.table

  same : row_at t₁ n ≡ r₀
  same = q.below n (omega arith)

  low : n < length (live t₁)
  low = omega (arith, q.within, q.as_many)

  skip : revokings (live t₀) ≡ 0 → is_open r₀.state ≡ false → TakenFrom t₀ v f n m
  skip still e =
      record { standing = q.standing; as_many = q.as_many; within = omega (arith, q.within); below = λ i b. q.below i (omega arith); above = λ i a b. go i a b (eqb i n) refl }
    where
      here : Lent r₀
      here =
          lent_row r₀ (sym (ap (λ r. row_sound r) same) ∙ sound_row (size_of m) t₁ (standing_facts m v f q.standing).rows n low) e
          (none_revoking (live t₀) n still (omega (arith, q.within)))

      go : (i : ℕ) → n ≤ i → i < length (live t₀) → (b : Bool) → eqb i n ≡ b → Lent (row_at t₁ i)
      go i a b true z = subst (λ r. Lent r) (sym (ap (λ j. row_at t₁ j) (eqb-true i n z) ∙ same)) here
      go i a b false z = q.above i (omega (arith, eqb-false i n z)) b

  abbrev u : Table
  u = (next m (take_at t₀ n)).state.core.table

  taken_rows : Replaced t₁ u r₀.holder r₀.base n 1 (taken_row r₀ r₀.holder ∷ []) → TakenFrom t₀ v f n (next m (take_at t₀ n))
  taken_rows k =
      record {
        standing = standing_next m v f (take_at t₀ n) q.standing;
        as_many = omega (arith, size, q.as_many, q.within);
        within = omega (arith, q.within);
        below = λ i b. low_row t₁ u new n 1 k.within k.now i b ∙ q.below i (omega arith);
        above = λ i a b. go i a b (eqb i n) refl;
      }
    where
      new : List Reservation
      new = taken_row r₀ r₀.holder ∷ []

      size : length (live u) ≡ n + (1 + (length (live t₁) - (n + 1)))
      size = long t₁ u new n 1 k.within k.now

      go : (i : ℕ) → n ≤ i → i < length (live t₀) → (b : Bool) → eqb i n ≡ b → Lent (row_at u i)
      go i a b true z =
          let j : i ≡ n + 0 = omega (arith, eqb-true i n z) in
          subst (λ r. Lent r) (sym (ap (λ x. row_at u x) j ∙ mid_row t₁ u new n 1 k.within k.now 0 (omega arith))) (refl, refl)
      go i a b false z =
          let j : i ≡ n + (1 + (i - (n + 1))) = omega (arith, eqb-false i n z) in
          let o : n + 1 + (i - (n + 1)) ≡ i = omega (arith, eqb-false i n z) in
          subst (λ r. Lent r) (sym (ap (λ x. row_at u x) j ∙ high_row t₁ u new n 1 k.within k.now (i - (n + 1)) ∙ ap (λ x. row_at t₁ x) o)) (q.above i (omega (arith, eqb-false i n z)) b)

  taken : is_open r₀.state ≡ true → Granted m (take_at t₀ n) × TakenFrom t₀ v f n (next m (take_at t₀ n))
  taken e =
      let k : is_open (row_at t₁ n).state ≡ true = ap (λ r. is_open r.state) same ∙ e in (
        subst (λ r. Granted m (Take r.holder r.base 0)) same (take_goes m v f q.standing n low k),
        taken_rows (subst (λ r. Replaced t₁ (next m (Take r.holder r.base 0)).state.core.table r.holder r.base n 1 (taken_row r r.holder ∷ [])) same (take_rows m v f q.standing n low k)),
      )

pub taking_leads : (m : Machine) (v f : ℕ) → Standing m v f → revokings (live m.state.core.table) ≡ 0 → Leads (λ n. Uniform n Taken 0) m (taking m)
unfolding taking
taking_leads m v f k still =
    let t = m.state.core.table in
    leads_to (TakenFrom t v f 0) (λ n. Uniform n Taken 0) m (each_below (open_at t) (take_at t) (length (live t)))
    (each_leads (open_at t) (take_at t) (TakenFrom t v f) (λ n x q e. taken t v f n x q e) (λ n x q e. skip t v f n x q still e) (length (live t)) m
    (record { standing = k; as_many = refl; within = omega arith; below = λ i b. refl; above = λ i a b. absurd (omega arith) }))
    (λ q. record { state = λ i h. (q.above i (omega arith) (omega (arith, q.as_many))).0; holder = λ i h. (q.above i (omega arith) (omega (arith, q.as_many))).1 })
