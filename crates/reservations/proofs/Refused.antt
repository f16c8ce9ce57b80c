-- A refusal changes nothing: whatever is not granted hands back what it was given. Assumes nothing.
use Prim.Native.Nat.{ℕ}
use mathlib.Core.Path.{◌≡◌}
use Rattle.capabilities.specs.Refusals.{first}
use Rattle.capabilities.proofs.Choice.{kept}
use Rattle.table.specs.Find.{find_of}
use Rattle.reservations.specs.Core.{Core}
use Rattle.reservations.specs.Revocation.{revoke_of, revoke_reasons, revoke_at, collect_of, collect_reasons, collected}

module _ (c : Core) where
  pub revoke_refused : (party base : ℕ) → ((revoke_of c party base).code ≡ 0 → ⊥) → (revoke_of c party base).core ≡ c
  unfolding revoke_of
  revoke_refused party base z = kept (first (revoke_reasons c party base)) (revoke_at c (find_of c.table party base)) c z

  pub collect_refused : ((collect_of c).code ≡ 0 → ⊥) → (collect_of c).core ≡ c
  unfolding collect_of
  collect_refused z = kept (first (collect_reasons c)) (collected c) c z
