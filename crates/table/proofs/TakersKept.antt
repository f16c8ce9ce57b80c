-- Takers that fit go on to fit, whatever operation comes, granted or refused. Assumes nothing.
use Prim.Native.Nat.{ℕ, ◌+◌, ◌<◌, ◌≤◌}
use native.Mathlib.Omega.{arith}
use mathlib.Core.Bool.{Bool, true, false}
use mathlib.Core.List.{List, [], ◌∷◌}
use mathlib.Core.Path.{◌≡◌, refl, ap, ◌∙◌}
use borrow.Author.Tests.{eqb-true, eqb-false}
use lib.Dec.{eqb}
use lib.ListN.{get_or}
use Rattle.table.specs.declared.Reservation.{Reservation}
use Rattle.table.specs.Table.{Table}
use Rattle.table.specs.Rows.{live, blank}
use Rattle.table.specs.Tiling.{table_sound, taker_sound, takers_sound}
use Rattle.table.specs.Operations.{taken_row, take_of, given_row, give_of, lower_part, upper_part, split_of, joined, merge_of}
use Rattle.table.proofs.Refused.{take_refused, split_refused, merge_refused, give_refused}
use Rattle.table.proofs.After.{Replaced, take_after, give_after, split_after, merge_after}
use Rattle.table.proofs.Takers.{taker_lent, joined_sound, takers_row, takers_none, takers_first, takers_spliced}

-- In a table in which rows stand in place of others, takers fit if the new ones' do.
pub replaced_takers : (t u : Table) (party base i k : ℕ) (new : List Reservation) → Replaced t u party base i k new → takers_sound (live t) ≡ true → takers_sound new ≡ true → takers_sound (live u) ≡ true
replaced_takers t u party base i k new r e f = ap takers_sound r.now ∙ takers_spliced (live t) new i (i + k) e f

-- Granted, or not.
pub either : (code : ℕ) (u : Table) → (code ≡ 0 → takers_sound (live u) ≡ true) → ((code ≡ 0 → ⊥) → takers_sound (live u) ≡ true) → takers_sound (live u) ≡ true
either code u f g = go (eqb code 0) refl
  where
    go : (b : Bool) → eqb code 0 ≡ b → takers_sound (live u) ≡ true
    go true e = f (eqb-true code 0 e)
    go false e = g (eqb-false code 0 e)

pub takers_one : (r : Reservation) → taker_sound r ≡ true → takers_sound (r ∷ []) ≡ true
takers_one r e = takers_first r [] e takers_none

module _ (cells : ℕ) (t : Table) (ok : table_sound cells t ≡ true) (fit : takers_sound (live t) ≡ true) (party base : ℕ) where
  -- The row that was replaced is one of the table's.
  row : (u : Table) (i k : ℕ) (new : List Reservation) → 0 < k → Replaced t u party base i k new → taker_sound (get_or (live t) i blank) ≡ true
  row u i k new some r = takers_row (live t) i fit (omega (arith, r.within))

  pub take_takers : party ≤ 8 → takers_sound (live (take_of t party base).table) ≡ true
  take_takers few =
      either (take_of t party base).code (take_of t party base).table
      (λ z. let (i, o, r) = take_after cells t ok party base z in let new = taken_row (get_or (live t) i blank) party in replaced_takers t (take_of t party base).table party base i 1 (new ∷ []) r fit (takers_one new (taker_lent new refl few)))
      (λ z. ap (λ u. takers_sound (live u)) (take_refused t party base z) ∙ fit)

  pub give_takers : (to : ℕ) → takers_sound (live (give_of t party base to).table) ≡ true
  give_takers to =
      either (give_of t party base to).code (give_of t party base to).table
      (λ z. let (i, o, r) = give_after cells t ok party base to z in let new = given_row (get_or (live t) i blank) to in let u = (give_of t party base to).table in replaced_takers t u party base i 1 (new ∷ []) r fit (takers_one new (row u i 1 (new ∷ []) (omega arith) r)))
      (λ z. ap (λ u. takers_sound (live u)) (give_refused t party base to z) ∙ fit)

  pub split_takers : (len : ℕ) → takers_sound (live (split_of t party base len).table) ≡ true
  split_takers len =
      either (split_of t party base len).code (split_of t party base len).table
      (λ z. let (i, o, r) = split_after cells t ok party base len z in let old = get_or (live t) i blank in replaced_takers t (split_of t party base len).table party base i 1 (lower_part old len ∷ upper_part old len ∷ []) r fit (takers_first (lower_part old len) (upper_part old len ∷ []) refl (takers_one (upper_part old len) refl)))
      (λ z. ap (λ u. takers_sound (live u)) (split_refused t party base len z) ∙ fit)

  pub merge_takers : takers_sound (live (merge_of t party base).table) ≡ true
  merge_takers =
      either (merge_of t party base).code (merge_of t party base).table
      (λ z. let (i, a, r) = merge_after cells t ok party base z in let lower = get_or (live t) i blank in let upper = get_or (live t) (i + 1) blank in let u = (merge_of t party base).table in replaced_takers t u party base i 2 (joined lower upper ∷ []) r fit (takers_one (joined lower upper) (joined_sound lower upper a (row u i 2 (joined lower upper ∷ []) (omega arith) r) (takers_row (live t) (i + 1) fit (omega (arith, r.within))))))
      (λ z. ap (λ u. takers_sound (live u)) (merge_refused t party base z) ∙ fit)
