-- A refusal changes nothing: whatever is not granted hands back what it was given. Assumes nothing.
use Prim.Native.Nat.{ℕ}
use mathlib.Core.Path.{◌≡◌}
use Rattle.capabilities.specs.Refusals.{first}
use Rattle.capabilities.proofs.Choice.{kept}
use Rattle.table.specs.Table.{Table}
use Rattle.table.specs.Find.{find_of, row_of, with_row}
use Rattle.table.specs.Operations.{take_of, take_reasons, taken_row, split_of, split_reasons, split_at, merge_of, merge_reasons, merge_at, give_of, give_reasons, given_row}

module _ (t : Table) (party base : ℕ) where
  pub take_refused : ((take_of t party base).code ≡ 0 → ⊥) → (take_of t party base).table ≡ t
  unfolding take_of
  take_refused z = kept (first (take_reasons t party base)) (with_row t (find_of t party base) (taken_row (row_of t (find_of t party base)) party)) t z

  pub take_length : ((take_of t party base).code ≡ 0 → ⊥) → (take_of t party base).length ≡ 0
  unfolding take_of
  take_length z = kept (first (take_reasons t party base)) (row_of t (find_of t party base)).length 0 z

  pub split_refused : (len : ℕ) → ((split_of t party base len).code ≡ 0 → ⊥) → (split_of t party base len).table ≡ t
  unfolding split_of
  split_refused len z = kept (first (split_reasons t party base len)) (split_at t (find_of t party base) len) t z

  pub merge_refused : ((merge_of t party base).code ≡ 0 → ⊥) → (merge_of t party base).table ≡ t
  unfolding merge_of
  merge_refused z = kept (first (merge_reasons t party base)) (merge_at t (find_of t party base)) t z

  pub give_refused : (to : ℕ) → ((give_of t party base to).code ≡ 0 → ⊥) → (give_of t party base to).table ≡ t
  unfolding give_of
  give_refused to z = kept (first (give_reasons t party base)) (with_row t (find_of t party base) (given_row (row_of t (find_of t party base)) to)) t z
