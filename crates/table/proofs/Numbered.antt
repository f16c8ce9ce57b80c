-- 01 to 04 on a lent slice: the returns of split and merge, and that the numbers which a call leaves read as the rule's table. Assumes nothing.
use Rattle.std.specs.Prelude.{Option}
use Prim.Native.Nat.{ℕ, ◌<◌}
use mathlib.Core.Bool.{Bool, true, false}
use mathlib.Core.List.{List}
use mathlib.Core.Path.{◌≡◌, refl, sym, ap, subst, ◌∙◌}
use borrow.Author.Tests.{eq-eqb, ne_eqb, eqb-true, eqb-false}
use lib.ListN.{length}
use lib.Dec.{eqb}
use Rattle.capabilities.specs.Lists.{pick}
use Rattle.capabilities.specs.Refusals.{first}
use Rattle.capabilities.proofs.Choice.{pick_yes, pick_no}
use Rattle.table.specs.Table.{Table, Tabled}
use Rattle.table.specs.Rows.{live}
use Rattle.table.specs.Find.{find_of, next_of, row_of, with_row}
use Rattle.table.specs.Operations.{tabled, take_of, take_reasons, taken_row, give_of, give_reasons, given_row, split_of, split_reasons, split_reasons_at, split_at, lower_part, upper_part, merge_of, merge_reasons, merge_reasons_at, merge_at, joined}
use Rattle.table.specs.Numbers.{row_code, table_of}
use Rattle.table.specs.Lent.{Leaves, fitting, tabled_of, put_at, place_of, spread_at, gather_at}
use Rattle.table.specs.Writes.{split_writes, merge_writes}
use Rattle.table.specs.Numbered.{TakeAnswer, MoveAnswer, take_answer, taken_in, given_in, split_rule, split_answer, split_in, merge_rule, merge_answer, merged_in}
use Rattle.table.proofs.Answers.{granted, refused, split_clear, merge_found}
use Rattle.table.proofs.Leaving.{split_count, merge_count, left_refused, left_put, left_split, left_merge, row_sized, taken_sized, given_sized}

abbrev pub moved_to : ℕ → ℕ → ℕ → MoveAnswer
moved_to code count writes = record { code = code; count = count; writes = writes }

-- Granted by a code of 0, or refused.
chosen : (l new : List ℕ) (told n : ℕ) (rule : Tabled) → (told ≡ 0 → Leaves l new told n rule) → ((told ≡ 0 → ⊥) → Leaves l l told n rule)
    → Leaves l (pick (eqb told 0) new l) told n rule
chosen l new told n rule g h = go (eqb told 0) refl
  where
    go : (b : Bool) → eqb told 0 ≡ b → Leaves l (pick (eqb told 0) new l) told n rule
    go true e =
        let z = eqb-true told 0 e in
        subst (λ (m : List ℕ). Leaves l m told n rule) (sym (granted told told refl new l z)) (g z)
    go false e =
        let z = eqb-false told 0 e in
        subst (λ (m : List ℕ). Leaves l m told n rule) (sym (refused told told refl new l z)) (h z)

-- A call that moves rows: a slice of 64 numbers becomes `new` by `many` writes, if the code is 0, and its rule's table is then `after`.
module _ (l : List ℕ) (count told : ℕ) (after : Table) (many : ℕ) (new : List ℕ) where
  abbrev rule : Tabled
  rule = tabled told (table_of l count) after

  abbrev unfit : Tabled
  unfit = record { code = 1; table = table_of l count }

  abbrev answer_by : Tabled → MoveAnswer
  answer_by r = moved_to r.code r.table.count (pick (eqb r.code 0) many 0)

  abbrev left_by : Tabled → List ℕ
  left_by r = pick (eqb r.code 0) new l

  abbrev Returns : ℕ → ℕ → ℕ → List ℕ → Type 0
  Returns code n writes m = (moved_to code n writes ≡ answer_by (fitting l count rule)) × (m ≡ left_by (fitting l count rule))

  fits : length l ≡ 64 → fitting l count rule ≡ rule
  fits h = pick_yes (eqb (length l) 64) rule unfit (eq-eqb (length l) 64 h)

  pub returns_unfit : (length l ≡ 64 → ⊥) → Returns 1 count 0 l
  returns_unfit h =
      let e = pick_no (eqb (length l) 64) rule unfit (ne_eqb (length l) 64 h) in
      (sym (ap answer_by e), sym (ap left_by e))

  pub returns_refused : length l ≡ 64 → (code : ℕ) → code ≡ told → (code ≡ 0 → ⊥) → Returns code count 0 l
  returns_refused h code e z =
      let same : rule.table.count ≡ count = ap (λ (t : Table). t.count) (refused code told e after (table_of l count) z) in (
        ap (λ (k : ℕ). moved_to k count 0) e ∙ ap (λ (k : ℕ). moved_to told k 0) (sym same) ∙ ap (moved_to told rule.table.count) (sym (refused code told e many 0 z)) ∙ sym (ap answer_by (fits h)),
        sym (refused code told e new l z) ∙ sym (ap left_by (fits h)),
      )

  pub returns_granted : length l ≡ 64 → (code n writes : ℕ) (m : List ℕ) → code ≡ told → code ≡ 0 → n ≡ after.count → writes ≡ many → m ≡ new → Returns code n writes m
  returns_granted h code n writes m e z c w p =
      let same : after.count ≡ rule.table.count = sym (ap (λ (t : Table). t.count) (granted code told e after (table_of l count) z)) in (
        ap (λ (k : ℕ). moved_to k n writes) e ∙ ap (λ (k : ℕ). moved_to told k writes) (c ∙ same)
            ∙ ap (moved_to told rule.table.count) (w ∙ sym (granted code told e many 0 z)) ∙ sym (ap answer_by (fits h)),
        p ∙ sym (granted code told e new l z) ∙ sym (ap left_by (fits h)),
      )

  -- What it leaves reads as the rule's table, if that is so where it is granted.
  module _ (g : told ≡ 0 → Leaves l new told after.count rule) where
    judged : Leaves l (left_by rule) told rule.table.count rule
    judged =
        chosen l new told rule.table.count rule
        (λ z. subst (λ (k : ℕ). Leaves l new told k rule) (ap (λ (t : Table). t.count) (sym (granted told told refl after (table_of l count) z))) (g z))
        (λ z. subst (λ (k : ℕ). Leaves l l told k rule) (ap (λ (t : Table). t.count) (sym (refused told told refl after (table_of l count) z))) (left_refused l told count told after refl z))

    pub moved_leaves : (r : MoveAnswer) (m : List ℕ) → Returns r.code r.count r.writes m → Leaves l m r.code r.count (fitting l count rule)
    moved_leaves r m (e, p) =
        subst (λ (x : MoveAnswer). Leaves l m x.code x.count (fitting l count rule)) (sym e)
        (subst (λ (y : List ℕ). Leaves l y (fitting l count rule).code (fitting l count rule).table.count (fitting l count rule)) (sym p) (go (eqb (length l) 64) refl))
      where
        go : (b : Bool) → eqb (length l) 64 ≡ b
            → Leaves l (left_by (fitting l count rule)) (fitting l count rule).code (fitting l count rule).table.count (fitting l count rule)
        go true h =
            subst (λ (x : Tabled). Leaves l (left_by x) x.code x.table.count x) (sym (pick_yes (eqb (length l) 64) rule unfit h)) judged
        go false h =
            subst (λ (x : Tabled). Leaves l (left_by x) x.code x.table.count x) (sym (pick_no (eqb (length l) 64) rule unfit h))
            (record { answers = refl; reads = refl; keeps = λ _. refl; sound = λ w. w })

-- The four calls.
module _ (l m : List ℕ) (count party base : ℕ) where
  abbrev t : Table
  t = table_of l count

  abbrev f : Option ℕ
  f = find_of t party base

  pub take_leaves : party < 256 → (r : TakeAnswer) → r ≡ take_answer l count party base → m ≡ taken_in l count party base
      → Leaves l m r.code count (tabled_of (take_of t party base))
  unfolding taken_in take_of take_reasons
  take_leaves h r e p =
      let new = taken_row (row_of t f) party in
      let told = first (take_reasons t party base) in
      subst (λ (k : ℕ). Leaves l m k count (tabled_of (take_of t party base))) (sym (ap (λ (a : TakeAnswer). a.code) e))
      (subst (λ (x : List ℕ). Leaves l x told count (tabled_of (take_of t party base))) (sym p)
      (chosen l (put_at l f (row_code new)) told count (tabled_of (take_of t party base)) (λ z. left_put l told count told f new refl z (taken_sized (row_of t f) party h (row_sized l count f)))
      (left_refused l told count told (with_row t f new) refl)))

  pub give_leaves : (to : ℕ) → to < 256 → (code : ℕ) → code ≡ (give_of t party base to).code → m ≡ given_in l count party base to
      → Leaves l m code count (give_of t party base to)
  unfolding given_in give_of give_reasons
  give_leaves to h code e p =
      let new = given_row (row_of t f) to in
      let told = first (give_reasons t party base) in
      subst (λ (k : ℕ). Leaves l m k count (give_of t party base to)) (sym e)
      (subst (λ (x : List ℕ). Leaves l x told count (give_of t party base to)) (sym p)
      (chosen l (put_at l f (row_code new)) told count (give_of t party base to) (λ z. left_put l told count told f new refl z (given_sized (row_of t f) to h (row_sized l count f)))
      (left_refused l told count told (with_row t f new) refl)))

  pub split_leaves : (len : ℕ) → len < 65536 → (r : MoveAnswer) → r ≡ split_answer l count party base len → m ≡ split_in l count party base len
      → Leaves l m r.code r.count (split_rule l count party base len)
  unfolding split_in split_of split_reasons
  split_leaves len h r e p =
      let told = first (split_reasons_at t f len) in
      let new = spread_at l count (place_of f) (row_code (lower_part (row_of t f) len)) (row_code (upper_part (row_of t f) len)) in
      moved_leaves l count told (split_at t f len) (split_writes t party base 0) new
      (λ z.
      let found = (split_clear t f len z).found in
      subst (λ (n : ℕ). Leaves l new told n (tabled told t (split_at t f len))) (sym (split_count t f len found)) (left_split l count told told f len h refl z found))
      r m (e, p)

  pub merge_leaves : (r : MoveAnswer) → r ≡ merge_answer l count party base → m ≡ merged_in l count party base
      → Leaves l m r.code r.count (merge_rule l count party base)
  unfolding merged_in merge_of merge_reasons
  merge_leaves r e p =
      let told = first (merge_reasons_at t f party) in
      let n = length (live t) in
      let new = gather_at l n (place_of f) (row_code (joined (row_of t f) (row_of t (next_of t f)))) 0 in
      moved_leaves l count told (merge_at t f) (merge_writes t party base 0) new
      (λ z.
      let found = merge_found t f party z in
      subst (λ (k : ℕ). Leaves l new told k (tabled told t (merge_at t f))) (sym (merge_count t f found)) (left_merge l count told told f n refl refl z found))
      r m (e, p)
