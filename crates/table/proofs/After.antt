-- The reservations after each granted operation: every one is an old one, or stands in place of the named one (a part of an
-- Open one, a join of two alike, the same range in another state or hand). Assumes nothing.
use Rattle.std.specs.Prelude.{Option, Some, None}
use Prim.Native.Nat.{ℕ, ◌+◌, ◌≤◌}
use native.Mathlib.Omega.{arith}
use mathlib.Core.Bool.{true, false, not, ◌&&◌, true≢false}
use mathlib.Core.List.{List, [], ◌∷◌, ◌++◌}
use mathlib.Core.Path.{◌≡◌, refl, sym, ap, ◌∙◌}
use borrow.Author.Tests.{eq-eqb, eqb-true}
use lib.Dec.{eqb}
use lib.ListN.{length, get_or, take, drop, set}
use lib.Seq.{set-get_or}
use Rattle.capabilities.specs.Lists.{pick}
use Rattle.capabilities.specs.Refusals.{first}
use Rattle.capabilities.proofs.Choice.{and_right, pick_yes, pick_twice}
use Rattle.table.specs.declared.Reservation.{Reservation}
use Rattle.table.specs.Table.{Table}
use Rattle.table.specs.Rows.{is_open, held, live, blank, reservation, table, spread, gather}
use Rattle.table.specs.Find.{find_of, begins, missing, next_of, row_of, with_row}
use Rattle.table.specs.Tiling.{table_sound}
use Rattle.table.specs.Operations.{take_reasons, taken_row, take_of, give_reasons, given_row, give_of}
use Rattle.table.specs.Operations.{lower_part, upper_part, split_reasons, split_at, split_of}
use Rattle.table.specs.Operations.{alike, joined, mergeable, merge_reasons, merge_at, merge_of}
use Rattle.table.proofs.Moving.{live_at}
use Rattle.table.proofs.Finding.{found_at, next_at, next_below}
use Rattle.table.proofs.Answers.{Splits, open_clear, split_clear, merge_clear, merge_found, merge_next}
use Rattle.table.proofs.Sound.{sound}
use Rattle.table.proofs.Kept.{row_live}
use Rattle.table.proofs.Inverse.{spread_live, gather_live}
use Rattle.table.proofs.Unrevoked.{with_live}

-- In u, `new` stands in place of the k rows of t from i on; the first of these is the one that a call names.
pub record Replaced (t u : Table) (party base i k : ℕ) (new : List Reservation) : Type 0 where
  pub found : find_of t party base ≡ Some i
  pub within : i + k ≤ length (live t)
  pub named : begins party base (get_or (live t) i blank) ≡ true
  pub now : live u ≡ take i (live t) ++ (new ++ drop (i + k) (live t))

-- The same of a table that is u.
moved : {t u v : Table} {party base i k : ℕ} {new : List Reservation} → v ≡ u → Replaced t u party base i k new → Replaced t v party base i k new
moved e r = record { found = r.found; within = r.within; named = r.named; now = ap live e ∙ r.now }

module _ (cells : ℕ) (t : Table) (ok : table_sound cells t ≡ true) (party base : ℕ) where
  abbrev f : Option ℕ
  f = find_of t party base

  with_after : (g : Option ℕ) (n : Reservation → Reservation) → f ≡ g → missing g ≡ false → is_open (row_of t g).state ≡ true
      → (i : ℕ) × (is_open (get_or (live t) i blank).state ≡ true) × Replaced t (with_row t g (n (row_of t g))) party base i 1 (n (get_or (live t) i blank) ∷ [])
  with_after (Some i) n e m o =
      let here = found_at (begins party base) (live t) i blank (unfold find_of in e) in
      let row = row_live t i here.0 in (
        i,
        sym (ap (λ r. is_open r.state) row) ∙ o,
        record {
          found = e;
          within = omega (arith, here.0);
          named = here.1;
          now = ap (λ r. live (with_row t (Some i) (n r))) row ∙ with_live cells t (sound cells t ok) i here.0 (n (get_or (live t) i blank));
        },
      )
  with_after None n e m o = absurd (true≢false m)

  pub take_after : (take_of t party base).code ≡ 0
      → (i : ℕ) × (is_open (get_or (live t) i blank).state ≡ true) × Replaced t (take_of t party base).table party base i 1 (taken_row (get_or (live t) i blank) party ∷ [])
  unfolding take_of take_reasons
  take_after z =
      let k = open_clear f (row_of t f) z in
      let (i, o, r) = with_after f (λ r. taken_row r party) refl k.0 k.1 in
      (i, o, moved (pick_yes _ _ t (eq-eqb _ 0 z)) r)

  pub give_after : (to : ℕ) → (give_of t party base to).code ≡ 0
      → (i : ℕ) × (is_open (get_or (live t) i blank).state ≡ true) × Replaced t (give_of t party base to).table party base i 1 (given_row (get_or (live t) i blank) to ∷ [])
  unfolding give_of give_reasons
  give_after to z =
      let k = open_clear f (row_of t f) z in
      let (i, o, r) = with_after f (λ r. given_row r to) refl k.0 k.1 in
      (i, o, moved (pick_yes _ _ t (eq-eqb _ 0 z)) r)

  split_at_after : (len : ℕ) (g : Option ℕ) → f ≡ g → Splits t g len
      → (i : ℕ) × (is_open (get_or (live t) i blank).state ≡ true) × Replaced t (split_at t g len) party base i 1 (lower_part (get_or (live t) i blank) len ∷ upper_part (get_or (live t) i blank) len ∷ [])
  unfolding split_at
  split_at_after len (Some i) e k =
      let here = found_at (begins party base) (live t) i blank (unfold find_of in e) in
      let row = row_live t i here.0 in
      let r = get_or (live t) i blank in (
        i,
        sym (ap (λ r. is_open r.state) row) ∙ k.isopen,
        record {
          found = e;
          within = omega (arith, here.0);
          named = here.1;
          now = ap (λ r. live (spread t i (lower_part r len) (upper_part r len))) row ∙ spread_live cells t (sound cells t ok) i here.0 (lower_part r len) (upper_part r len);
        },
      )
  split_at_after len None e k = absurd (true≢false k.found)

  pub split_after : (len : ℕ) → (split_of t party base len).code ≡ 0
      → (i : ℕ) × (is_open (get_or (live t) i blank).state ≡ true) × Replaced t (split_of t party base len).table party base i 1 (lower_part (get_or (live t) i blank) len ∷ upper_part (get_or (live t) i blank) len ∷ [])
  unfolding split_of split_reasons
  split_after len z =
      let (i, o, r) = split_at_after len f refl (split_clear t f len z) in
      (i, o, moved (pick_yes _ _ t (eq-eqb _ 0 z)) r)

  merge_at_after : (g : Option ℕ) → f ≡ g → missing g ≡ false → mergeable t g party ≡ true
      → (i : ℕ) × (alike (get_or (live t) i blank).state (get_or (live t) (i + 1) blank).state ≡ true) × Replaced t (merge_at t g) party base i 2 (joined (get_or (live t) i blank) (get_or (live t) (i + 1) blank) ∷ [])
  unfolding merge_at mergeable
  merge_at_after (Some i) e m k =
      let here = found_at (begins party base) (live t) i blank (unfold find_of in e) in
      let h = next_below t i (merge_next t (Some i) party k) in
      let row = row_live t i here.0 in
      let r = get_or (live t) i blank in
      let s = get_or (live t) (i + 1) blank in
      let g = row_of t (next_of t (Some i)) in
      let above = ap (row_of t) (next_at t i h) ∙ row_live t (i + 1) h in
      let same = and_right (held g party) (alike (row_of t (Some i)).state g.state) (and_right (not (missing (next_of t (Some i)))) (held g party && alike (row_of t (Some i)).state g.state) k) in (
        i,
        sym (ap (λ x. alike x.state g.state) row ∙ ap (λ x. alike r.state x.state) above) ∙ same,
        record {
          found = e;
          within = omega (arith, h);
          named = here.1;
          now = ap (λ x. live (gather t i (joined x g))) row ∙ ap (λ x. live (gather t i (joined r x))) above ∙ gather_live cells t (sound cells t ok) i h (joined r s);
        },
      )
  merge_at_after None e m k = absurd (true≢false m)

  pub merge_after : (merge_of t party base).code ≡ 0
      → (i : ℕ) × (alike (get_or (live t) i blank).state (get_or (live t) (i + 1) blank).state ≡ true) × Replaced t (merge_of t party base).table party base i 2 (joined (get_or (live t) i blank) (get_or (live t) (i + 1) blank) ∷ [])
  unfolding merge_of merge_reasons
  merge_after z =
      let (i, o, r) = merge_at_after f refl (merge_found t f party z) (merge_clear t f party z) in
      (i, o, moved (pick_yes _ _ t (eq-eqb _ 0 z)) r)

-- 04: "giving to oneself changes nothing".
given_own : (t : Table) (party base : ℕ) (g : Option ℕ) → find_of t party base ≡ g → with_row t g (given_row (row_of t g) party) ≡ t
unfolding with_row row_of
given_own t party base (Some i) e =
    let r = get_or t.rows i blank in
    let here = found_at (begins party base) (live t) i blank (unfold find_of in e) in
    let own : held r party ≡ true = sym (ap (λ x. held x party) (live_at t i blank here.0)) ∙ and_right (eqb (get_or (live t) i blank).base base) (held (get_or (live t) i blank) party) here.1 in
    ap (λ h. table (set t.rows i (reservation r.base r.length r.state h r.taker)) t.count) (sym (eqb-true r.holder party own))
    ∙ ap (λ l. table l t.count) (set-get_or t.rows i blank)
given_own t party base None e = refl

pub give_own : (t : Table) (party base : ℕ) → (give_of t party base party).table ≡ t
unfolding give_of
give_own t party base =
    ap (λ x. pick (eqb (first (give_reasons t party base)) 0) x t) (given_own t party base (find_of t party base) refl)
    ∙ pick_twice (eqb (first (give_reasons t party base)) 0) t
