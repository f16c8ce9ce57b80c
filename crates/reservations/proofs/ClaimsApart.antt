-- Revocation and the core's part of well-formedness do not look at the claims. Assumes nothing.
use Prim.Native.Nat.{ℕ}
use mathlib.Core.Path.{◌≡◌, refl}
use Rattle.claims.specs.Claims.{Claims}
use Rattle.reservations.specs.Core.{Core, with_claims}
use Rattle.reservations.specs.Revocation.{running, revoked, dying, revocation_sound, core_sound}

module _ (c : Core) (x : Claims) where
  abbrev other : Core
  other = with_claims c x

  pub running_apart : running other ≡ running c
  unfolding running
  running_apart = refl

  pub revoked_apart : revoked other ≡ revoked c
  unfolding revoked
  revoked_apart = refl

  pub dying_apart : (cell : ℕ) → dying other cell ≡ dying c cell
  unfolding dying running revoked
  dying_apart cell = refl

  pub sound_apart : core_sound other ≡ core_sound c
  unfolding core_sound revocation_sound running revoked
  sound_apart = refl
