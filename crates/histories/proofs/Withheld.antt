-- What party 0 alone does not bring about. Its calls replace what it holds, so that what another party holds Open stays; and a reservation
-- that shares a page with such a one is not made of whole pages, so that it is never Revoking. Assumes nothing.
use Rattle.std.specs.Prelude.{Some}
use Prim.Native.Nat.{ℕ, zero, suc, ◌+◌, ◌-◌, ◌*◌, ◌/◌, ◌%◌, ◌<◌, ◌≤◌}
use native.Mathlib.Omega.{arith}
use mathlib.Core.Bool.{Bool, true, false, not, ◌&&◌, ◌||◌, true≢false}
use mathlib.Core.List.{List, [], ◌∷◌, ◌++◌}
use mathlib.Core.Logic.{⊎_elim}
use mathlib.Core.Path.{◌≡◌, refl, sym, ap, subst, ◌∙◌}
use borrow.Author.Tests.{eqb-true, eqb-false, ltb-true, ltb-false}
use lib.Dec.{eqb, ltb}
use lib.ListN.{length, get_or, take, drop}
use Rattle.capabilities.specs.Lists.{Every}
use Rattle.capabilities.specs.Range.{inside}
use Rattle.capabilities.specs.Capability.{permitted}
use Rattle.capabilities.proofs.Choice.{and_left, and_right, pick_yes}
use Rattle.capabilities.proofs.Refusals.{first_clear}
use Rattle.table.specs.declared.Reservation.{Reservation}
use Rattle.table.specs.declared.ReservationState.{ReservationState}
use Rattle.table.specs.declared.ReservationState.TheVariants.{Open, Taken, Revoking}
use Rattle.table.specs.Table.{Table}
use Rattle.table.specs.Find.{find_of, next_of, row_of, missing}
use Rattle.table.specs.Operations.{taken_row, lower_part, upper_part, split_reasons, split_of, alike, joined, mergeable, merge_reasons, merge_of, given_row, give_reasons, give_of}
use Rattle.table.specs.Rows.{is_open, is_revoking, held, blank, live, range_of}
use Rattle.table.specs.Tiling.{revokings, weight, table_sound}
use Rattle.table.proofs.After.{Replaced, split_after, merge_after, give_after}
use Rattle.table.proofs.Answers.{merge_clear}
use Rattle.table.proofs.Cells.{inside_bounds, inside_made, no_shared_cell}
use Rattle.table.proofs.Finding.{next_at}
use Rattle.table.proofs.Kept.{row_live}
use Rattle.table.proofs.Sound.{sound}
use Rattle.table.proofs.Tiled.{revokings_first}
use Rattle.reservations.specs.Core.{Core}
use Rattle.reservations.specs.Revocation.{running, revoked, revoking_row, revoke_of, collected_row, whole_pages, core_sound}
use Rattle.reservations.proofs.CoreAfter.{revoke_after}
use Rattle.reservations.proofs.CoreKept.{core_facts}
use Rattle.reservations.proofs.Revocations.{none_revoking}
use Rattle.calls.specs.declared.Call.{Call}
use Rattle.calls.specs.declared.Call.TheVariants.{Take, Split, Merge, Give, Revoke, Sweep, Collect, Map, Unmap, Zero, Load, Store, Narrow, Number, Grant, Receive, TakeMasked, Create, Claim, Release, Destroy}
use Rattle.words.specs.WordReasons.{unnamed}
use Rattle.machine.specs.Effects.{effect}
use Rattle.machine.specs.Reasons.{reasons}
use Rattle.machine.specs.Roles.{caller_of, plain_permissions, IsTake, IsCollect}
use Rattle.histories.specs.Runs.{Machine, next, run, Reached}
use Rattle.histories.specs.Inv.{row_at}
use Rattle.histories.specs.Lending.{Ended}
use Rattle.histories.specs.Manager.{OthersOpen, Stands, OthersStay, Beside, StaysTaken, NotTakenBack}
use Rattle.histories.proofs.Table.{Around, long, low_row, high_row}
use Rattle.histories.proofs.Granted.{Went, went, went_or_not, went_core}
use Rattle.histories.proofs.Findings.{revoked_while, whole_while}
use Rattle.histories.proofs.Forming.{always_formed, standing_core, standing_run}
use Rattle.histories.proofs.Lending.{lends}
use Rattle.histories.proofs.Survivors.{collect_core, collect_ends}
use Rattle.histories.proofs.Revokes.{revoke_core, revoke_code}
use Rattle.histories.proofs.Between.{done_table, run_lent}

-- A row outside of those that were replaced stays.
module _ (t u : Table) (new : List Reservation) (i k : ℕ) (h : i + k ≤ length (live t)) (now : live u ≡ take i (live t) ++ (new ++ drop (i + k) (live t))) (j : ℕ) (b : j < length (live t)) where
  stays_outside : (i ≤ j → j < i + k → ⊥) → Stands u (row_at t j)
  stays_outside out = go (ltb j i) refl
    where
      go : (x : Bool) → ltb j i ≡ x → Stands u (row_at t j)
      go true e =
          let low = ltb-true j i e in
          record { row = j; used = omega (arith, long t u new i k h now, low, h, b); is = low_row t u new i k h now j low }
      go false e =
          let from = ltb-false j i e in
          go_high from (ltb j (i + k)) refl
        where
          go_high : i ≤ j → (x : Bool) → ltb j (i + k) ≡ x → Stands u (row_at t j)
          go_high from true e = absurd (out from (ltb-true j (i + k) e))
          go_high from false e =
              let past = ltb-false j (i + k) e in
              let n : i + k + (j - (i + k)) ≡ j = omega (arith, past) in
              record {
                row = i + (length new + (j - (i + k)));
                used = omega (arith, long t u new i k h now, past, h, b);
                is = high_row t u new i k h now (j - (i + k)) ∙ ap (λ x. row_at t x) n;
              }

-- The reservation that a call of party 0 names is not the one that another holds.
named_other : (t u : Table) (p base i : ℕ) (new : List Reservation) → Replaced t u p base i 1 new → p ≡ 0 → (j : ℕ) → OthersOpen t j → Stands u (row_at t j)
named_other t u p base i new r own j o =
    stays_outside t u new i 1 r.within r.now j o.used
    (λ a b.
    let n : i ≡ j = omega (arith, a, b) in
    o.holder (sym (ap (λ x. (row_at t x).holder) n) ∙ eqb-true (row_at t i).holder p (and_right (eqb (row_at t i).base base) (held (row_at t i) p) r.named) ∙ own))

-- Nor is the next one, which a merge joins with it.
next_held : (t : Table) (p i : ℕ) → i + 1 < length (live t) → mergeable t (Some i) p ≡ true → (row_at t (i + 1)).holder ≡ p
unfolding mergeable
next_held t p i h e =
    let g = next_of t (Some i) in
    let same = alike (row_of t (Some i)).state (row_of t g).state in
    let mine = and_left (held (row_of t g) p) same (and_right (not (missing g)) (held (row_of t g) p && same) e) in
    eqb-true (row_at t (i + 1)).holder p (sym (ap (λ r. held r p) (ap (row_of t) (next_at t i h) ∙ row_live t (i + 1) h)) ∙ mine)

merge_other : (cells : ℕ) (t : Table) → table_sound cells t ≡ true → (p base : ℕ) → (merge_of t p base).code ≡ 0 → p ≡ 0 → (j : ℕ) → OthersOpen t j → Stands (merge_of t p base).table (row_at t j)
merge_other cells t ok p base z own j o =
    let (i, same, r) = merge_after cells t ok p base z in
    let two : i + 1 < length (live t) = omega (arith, r.within) in
    let joins : mergeable t (Some i) p ≡ true = sym (ap (λ f. mergeable t f p) r.found) ∙ merge_clear t (find_of t p base) p (unfold merge_of merge_reasons in z) in
    stays_outside t (merge_of t p base).table (joined (row_at t i) (row_at t (i + 1)) ∷ []) i 2 r.within r.now j o.used
    (λ a b. go i r (next_held t p i two joins) a b (eqb j i) refl)
  where
    go : (i : ℕ) → Replaced t (merge_of t p base).table p base i 2 (joined (row_at t i) (row_at t (i + 1)) ∷ []) → (row_at t (i + 1)).holder ≡ p → i ≤ j → j < i + 2 → (x : Bool) → eqb j i ≡ x → ⊥
    go i r up a b true e =
        let n : i ≡ j = sym (eqb-true j i e) in
        o.holder (sym (ap (λ x. (row_at t x).holder) n) ∙ eqb-true (row_at t i).holder p (and_right (eqb (row_at t i).base base) (held (row_at t i) p) r.named) ∙ own)
    go i r up a b false e =
        let n : i + 1 ≡ j = omega (arith, a, b, eqb-false j i e) in
        o.holder (sym (ap (λ x. (row_at t x).holder) n) ∙ up ∙ own)

-- A granted call of party 0.
module _ (m : Machine) (j : ℕ) (o : OthersOpen m.state.core.table j) where
  abbrev t : Table
  t = m.state.core.table

  abbrev size : ℕ
  size = 16 * m.state.core.pages.v

  same_stands : (u : Table) → u ≡ t → Stands u (row_at t j)
  same_stands u e = record { row = j; used = subst (λ x. j < length (live x)) (sym e) o.used; is = ap (λ x. row_at x j) e }

  from_rule : (c : Call) (u : Table) → (next m c).state.core.table ≡ u → Stands u (row_at t j) → Stands (next m c).state.core.table (row_at t j)
  from_rule c u e = subst (λ x. Stands x (row_at t j)) (sym e)

  take_other : (c : Call) (p base reg permissions : ℕ) → IsTake c p base reg permissions → Went m c → p ≡ 0 → Stands (next m c).state.core.table (row_at t j)
  take_other c p base reg permissions is w own =
      let l = lends m c p base reg permissions is w in
      named_other t (next m c).state.core.table p base l.row (taken_row (row_at t l.row) p ∷ []) l.now own j o

  collect_other : (c : Call) (p : ℕ) → IsCollect c p → Went m c → Stands (next m c).state.core.table (row_at t j)
  collect_other c p is w =
      let k = collect_ends m c p is w in
      stays_outside t (next m c).state.core.table (collected_row (row_at t k.row) ∷ []) k.row 1 (omega (arith, k.used)) (ap (λ x. live x.table) (collect_core m c p is w) ∙ k.now) j o.used
      (λ a b.
      let n : k.row ≡ j = omega (arith, a, b) in
      true≢false (sym k.dies ∙ ap (λ x. is_revoking (row_at t x).state) n ∙ ap is_revoking o.state))

  others_step : (c : Call) → Went m c → caller_of c ≡ 0 → Stands (next m c).state.core.table (row_at t j)
  unfolding effect reasons
  others_step (Take p base reg) w own = take_other (Take p base reg) p base reg plain_permissions refl w own
  others_step (Split p base len) w own =
      let z = (first_clear 4 (unnamed p) (split_reasons t p base len) (λ x. omega arith) w.clear).1 in
      let (i, l, r) = split_after size t (core_facts m.state.core (went_core m (Split p base len) w)).rows p base len (unfold split_of in z) in
      from_rule (Split p base len) (split_of t p base len).table (done_table m (Split p base len) w)
      (named_other t (split_of t p base len).table p base i (lower_part (row_at t i) len ∷ upper_part (row_at t i) len ∷ []) r own j o)
  others_step (Merge p base) w own =
      let z = (first_clear 4 (unnamed p) (merge_reasons t p base) (λ x. omega arith) w.clear).1 in
      from_rule (Merge p base) (merge_of t p base).table (done_table m (Merge p base) w)
      (merge_other size t (core_facts m.state.core (went_core m (Merge p base) w)).rows p base (unfold merge_of in z) own j o)
  others_step (Give p base to) w own =
      let z = (first_clear 4 (unnamed p || unnamed to) (give_reasons t p base) (λ x. omega arith) w.clear).1 in
      let (i, l, r) = give_after size t (core_facts m.state.core (went_core m (Give p base to) w)).rows p base to (unfold give_of in z) in
      from_rule (Give p base to) (give_of t p base to).table (done_table m (Give p base to) w)
      (named_other t (give_of t p base to).table p base i (given_row (row_at t i) to ∷ []) r own j o)
  others_step (Revoke p base) w own =
      let (i, r) = revoke_after m.state.core (went_core m (Revoke p base) w) p base (revoke_code m p base w) in
      from_rule (Revoke p base) (revoke_of m.state.core p base).core.table (ap (λ x. x.table) (revoke_core m p base w))
      (named_other t (revoke_of m.state.core p base).core.table p base i (revoking_row (row_at t i) ∷ []) r own j o)
  others_step (Sweep p n) w own = same_stands _ (done_table m (Sweep p n) w)
  others_step (Collect p) w own = collect_other (Collect p) p refl w
  others_step (Map p page frame) w own = same_stands _ (done_table m (Map p page frame) w)
  others_step (Unmap p page) w own = same_stands _ (done_table m (Unmap p page) w)
  others_step (Zero p frame) w own = same_stands _ (done_table m (Zero p frame) w)
  others_step (Load p a off d) w own = same_stands _ (done_table m (Load p a off d) w)
  others_step (Store p a off s) w own = same_stands _ (done_table m (Store p a off s) w)
  others_step (Narrow p s off len mask d) w own = same_stands _ (done_table m (Narrow p s off len mask d) w)
  others_step (Number p d value) w own = same_stands _ (done_table m (Number p d value) w)
  others_step (Grant p s to) w own = same_stands _ (done_table m (Grant p s to) w)
  others_step (Receive p d) w own = same_stands _ (done_table m (Receive p d) w)
  others_step (TakeMasked p base reg mask) w own = take_other (TakeMasked p base reg mask) p base reg (permitted mask) refl w own
  others_step (Create p parent child limit holder) w own = same_stands _ (done_table m (Create p parent child limit holder) w)
  others_step (Claim p principal page) w own = same_stands _ (done_table m (Claim p principal page) w)
  others_step (Release p principal page) w own = same_stands _ (done_table m (Release p principal page) w)
  others_step (Destroy p principal) w own = same_stands _ (done_table m (Destroy p principal) w)

-- What another party than 0 holds Open, by itself.
record Others (r : Reservation) : Type 0 where
  state : r.state ≡ Open
  holder : r.holder ≡ 0 → ⊥

others_at : (t : Table) (r : Reservation) → Others r → (s : Stands t r) → OthersOpen t s.row
others_at t r a s = record { used = s.used; state = ap (λ x. x.state) s.is ∙ a.state; holder = λ e. a.holder (sym (ap (λ x. x.holder) s.is) ∙ e) }

others_run : (calls : List Call) (m : Machine) (r : Reservation) → Others r → Stands m.state.core.table r → Every (λ c. caller_of c ≡ 0) calls → Stands (run m calls).state.core.table r
unfolding run Every
others_run [] m r a s own = s
others_run (c ∷ calls) m r a s own =
    others_run calls (next m c) r a
    (⊎_elim (λ w. subst (λ x. Stands (next m c).state.core.table x) s.is (others_step m s.row (others_at m.state.core.table r a s) c w own.0))
    (λ n. subst (λ x. Stands x.state.core.table r) (sym n.0) s) (went_or_not m c)) own.1

pub others_stay : OthersStay
others_stay m r j o calls own =
    let row = row_at m.state.core.table j in
    others_run calls m row (record { state = o.state; holder = o.holder }) (record { row = j; used = o.used; is = refl }) own

-- One reservation at most is Revoking.
counted : (l : List Reservation) (i : ℕ) → i < length l → is_revoking (get_or l i blank).state ≡ true → 1 ≤ revokings l
counted [] i h e = absurd (omega arith)
counted (r ∷ l) zero h e = let one : ◌≡◌ {A = ℕ} (weight r) 1 = pick_yes (is_revoking r.state) 1 0 e in omega (arith, revokings_first r l, one)
counted (r ∷ l) (suc i) h e = let some = counted l i (omega arith) e in omega (arith, revokings_first r l, some)

only_one : (l : List Reservation) (i j : ℕ) → revokings l ≤ 1 → i < length l → j < length l → is_revoking (get_or l i blank).state ≡ true → is_revoking (get_or l j blank).state ≡ true → i ≡ j
only_one [] i j s h k p q = absurd (omega arith)
only_one (r ∷ l) zero zero s h k p q = refl
only_one (r ∷ l) zero (suc j) s h k p q =
    let one : ◌≡◌ {A = ℕ} (weight r) 1 = pick_yes (is_revoking r.state) 1 0 p in
    let more = counted l j (omega arith) q in
    absurd (omega (arith, s, revokings_first r l, one, more))
only_one (r ∷ l) (suc i) zero s h k p q =
    let one : ◌≡◌ {A = ℕ} (weight r) 1 = pick_yes (is_revoking r.state) 1 0 q in
    let more = counted l i (omega arith) p in
    absurd (omega (arith, s, revokings_first r l, one, more))
only_one (r ∷ l) (suc i) (suc j) s h k p q = ap suc (only_one l i j (omega (arith, s, revokings_first r l)) (omega arith) (omega arith) p q)

-- It is made of whole pages.
revoking_whole : (c : Core) → core_sound c ≡ true → (k : ℕ) → k < length (live c.table) → is_revoking (row_at c.table k).state ≡ true → whole_pages (row_at c.table k) ≡ true
revoking_whole c ok k h e =
    let facts = core_facts c ok in
    let runs = runs_if c k h e in
    let d = revoked_while c runs in
    let n = only_one (live c.table) d.row k (sound (16 * c.pages.v) c.table facts.rows).single d.used h d.dies e in
    sym (ap (λ r. whole_pages r) (d.is ∙ ap (λ x. row_at c.table x) n)) ∙ whole_while c facts runs
  where
    runs_if : (c : Core) (k : ℕ) → k < length (live c.table) → is_revoking (row_at c.table k).state ≡ true → running c ≡ true
    runs_if c k h e = go (running c) refl
      where
        go : (b : Bool) → running c ≡ b → running c ≡ true
        go true q = q
        go false q = let some = counted (live c.table) k h e in let z : ⊥ = omega (arith, some, none_revoking c q) in absurd z

-- One of whole pages has all cells of a page or none, so that another's Open one has none of them.
no_whole : (cells : ℕ) (t : Table) → table_sound cells t ≡ true → (k : ℕ) → k < length (live t) → is_open (row_at t k).state ≡ false → (row_at t k).base % 16 ≡ 0 → (row_at t k).length % 16 ≡ 0
    → (a b : ℕ) → a / 16 ≡ b / 16 → (row_at t k).base ≤ a → a < (row_at t k).base + (row_at t k).length → (r : Reservation) → Others r → Stands t r → inside (range_of r) b ≡ true → ⊥
no_whole cells t ok k h lent base size a b page from upto r o s hit =
    let both = all_cells (row_at t k).base (row_at t k).length a b base size page from upto in
    let same = no_shared_cell cells t k s.row b ok h s.used (inside_made (range_of (row_at t k)) b both.0 both.1) (ap (λ x. inside (range_of x) b) s.is ∙ hit) in
    true≢false (sym (ap (λ x. is_open (row_at t x).state) same ∙ ap (λ x. is_open x.state) s.is ∙ ap is_open o.state) ∙ lent)
  where
    all_cells : (base size a b : ℕ) → base % 16 ≡ 0 → size % 16 ≡ 0 → a / 16 ≡ b / 16 → base ≤ a → a < base + size → (base ≤ b) × (b < base + size)
    all_cells base size a b p q e f g = (omega arith, omega arith)

own_front : (a b : List Call) → Every (λ c. caller_of c ≡ 0) (a ++ b) → Every (λ c. caller_of c ≡ 0) a
unfolding Every
own_front [] b p = tt
own_front (c ∷ a) b p = (p.0, own_front a b p.1)

module _ (m : Machine) (r : Reached m) (i j : ℕ) (k : Beside m.state.core.table i j) where
  abbrev mine : Reservation
  mine = row_at m.state.core.table i

  abbrev other : Reservation
  other = row_at m.state.core.table j

  theirs : Others other
  theirs = record { state = k.other.state; holder = k.other.holder }

  -- Around it there is no reservation of whole pages that is not Open, as long as party 0 alone calls.
  never_whole : (calls : List Call) → Every (λ c. caller_of c ≡ 0) calls → core_sound (run m calls).state.core ≡ true → (x : ℕ) → x < length (live (run m calls).state.core.table)
      → is_open (row_at (run m calls).state.core.table x).state ≡ false → (row_at (run m calls).state.core.table x).base ≤ mine.base
      → mine.base + mine.length ≤ (row_at (run m calls).state.core.table x).base + (row_at (run m calls).state.core.table x).length
      → (row_at (run m calls).state.core.table x).base % 16 ≡ 0 → (row_at (run m calls).state.core.table x).length % 16 ≡ 0 → ⊥
  never_whole calls own ok x h lent from upto base size =
      let c = (run m calls).state.core in
      let at = inside_bounds (range_of mine) k.cell k.within in
      no_whole (16 * c.pages.v) c.table (core_facts c ok).rows x h lent base size k.cell k.near k.page (omega (arith, from, at.0)) (omega (arith, upto, at.1)) other theirs
      (others_stay m r j k.other calls own) k.theirs

  never_ended : (calls : List Call) → Every (λ c. caller_of c ≡ 0) calls → Ended m calls (range_of mine) → ⊥
  never_ended calls own e =
      let n = run m e.before in
      let w = went n e.collect e.granted in
      let d = collect_ends n e.collect e.party e.is w in
      let row = row_at n.state.core.table d.row in
      let base : (revoked n.state.core).base ≡ row.base = ap (λ x. x.base) d.range in
      let size : (revoked n.state.core).length ≡ row.length = ap (λ x. x.length) d.range in
      never_whole e.before (own_front e.before (e.collect ∷ e.after) (subst (λ l. Every (λ c. caller_of c ≡ 0) l) e.are own)) (went_core n e.collect w) d.row d.used
      (not_open row.state d.dies) (omega (arith, base, e.from)) (omega (arith, base, size, e.upto)) d.whole_base d.whole_length
    where
      not_open : (s : ReservationState) → is_revoking s ≡ true → is_open s ≡ false
      not_open Open e = absurd (true≢false (sym e))
      not_open Taken e = refl
      not_open Revoking e = refl

  still_taken : (calls : List Call) → Every (λ c. caller_of c ≡ 0) calls → Around (run m calls).state.core.table mine → StaysTaken (run m calls).state.core.table mine
  still_taken calls own a = record { row = a.row; used = a.used; state = go (row_at c.table a.row).state refl; from = a.from; upto = a.upto }
    where
      c : Core
      c = (run m calls).state.core

      ok : core_sound c ≡ true
      ok = standing_core (run m calls) r.v r.f (standing_run calls m r.v r.f (always_formed m r))

      go : (s : ReservationState) → (row_at c.table a.row).state ≡ s → (row_at c.table a.row).state ≡ Taken
      go Open e = absurd (true≢false (sym (ap is_open e) ∙ a.lent))
      go Taken e = e
      go Revoking e =
          let row = row_at c.table a.row in
          let whole = revoking_whole c ok a.row a.used (ap is_revoking e) in
          absurd
          (never_whole calls own ok a.row a.used a.lent a.from a.upto (eqb-true (row.base % 16) 0 (and_left (eqb (row.base % 16) 0) (eqb (row.length % 16) 0) whole))
          (eqb-true (row.length % 16) 0 (and_right (eqb (row.base % 16) 0) (eqb (row.length % 16) 0) whole)))

pub not_taken_back : NotTakenBack
not_taken_back m r i j k calls own =
    let mine = row_at m.state.core.table i in
    ⊎_elim (still_taken m r i j k calls own) (λ e. absurd (never_ended m r i j k calls own e))
    (run_lent calls m mine (record { row = i; used = k.used; lent = ap is_open k.state; from = omega arith; upto = omega arith }))
