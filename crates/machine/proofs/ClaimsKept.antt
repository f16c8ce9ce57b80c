-- The claims stay well formed: four kinds of call change them, each by its own rule, and no other touches them. Assumes nothing.
use Prim.Native.Nat.{ℕ, ◌≤◌}
use native.Mathlib.Omega.{arith}
use mathlib.Core.Bool.{Bool, true, false}
use mathlib.Core.List.{List}
use mathlib.Core.Path.{◌≡◌, refl, sym, subst}
use lib.Dec.{eqb}
use Rattle.capabilities.specs.Lists.{pick}
use Rattle.capabilities.specs.Refusals.{first}
use Rattle.pages.proofs.Formed as layer
use Rattle.table.specs.Find.{find_of}
use Rattle.claims.specs.Claims.{Claims}
use Rattle.claims.specs.Sound.{claims_sound}
use Rattle.claims.proofs.Created.{create_sound}
use Rattle.claims.proofs.KeptCounts.{claim_sound, release_sound}
use Rattle.claims.proofs.Destroyed.{destroy_sound}
use Rattle.reservations.specs.Core.{Core}
use Rattle.reservations.specs.Revocation.{core_sound, revoke_reasons, revoke_at, revoke_of, collect_reasons, collected, collect_of}
use Rattle.reservations.proofs.CoreKept.{core_facts}
use Rattle.machine.specs.State.{State}
use Rattle.machine.specs.Roles.{Asked}
use Rattle.machine.specs.Effects.{Effect}
use Rattle.machine.proofs.Deeds.{Reclaimed, creates, claims, releases, destroys, Recored, splits, merges, gives, revokes, maps, unmaps, reclaims, Deed, took, recored, swept, collected_all, zeroed, filled, wrote, mailed, received}
use Rattle.machine.proofs.Sizes.{effect_same}

-- A choice between cores with the same claims.
same_claims : (b : Bool) (x y : Core) → x.claims ≡ y.claims → (pick b x y).claims ≡ y.claims
same_claims true x y e = e
same_claims false x y e = refl

pub revoke_claims : (c : Core) (p base : ℕ) → (revoke_of c p base).core.claims ≡ c.claims
unfolding revoke_of revoke_at
revoke_claims c p base = same_claims (eqb (first (revoke_reasons c p base)) 0) (revoke_at c (find_of c.table p base)) c refl

pub collect_claims : (c : Core) → (collect_of c).core.claims ≡ c.claims
unfolding collect_of collected
collect_claims c = same_claims (eqb (first (collect_reasons c)) 0) (collected c) c refl

-- What one of the four kinds makes of well-formed claims.
pub reclaimed_sound : (v : ℕ) (c x : Claims) → v ≤ 256 → claims_sound v c ≡ true → Reclaimed v c x → claims_sound v x ≡ true
reclaimed_sound v c x few ok (creates party parent child limit holder low z) = create_sound v c ok party parent child limit holder low z
reclaimed_sound v c x few ok (claims party p page low z) = claim_sound v c ok party p page low (omega arith) z
reclaimed_sound v c x few ok (releases party p page low z) = release_sound v c ok party p page z
reclaimed_sound v c x few ok (destroys party p z) = destroy_sound v c ok party p z

-- The claims after a granted call, where V is what it was before.
abbrev Sound : ℕ → Core → Type 0
Sound v c = claims_sound v c.claims ≡ true

recored_sound : (v : ℕ) (c k : Core) → v ≡ c.pages.v → v ≤ 256 → Sound v c → Recored c k → Sound v k
recored_sound v c k e few ok (splits p base len z) = ok
recored_sound v c k e few ok (merges p base z) = ok
recored_sound v c k e few ok (gives p base to low z) = ok
recored_sound v c k e few ok (revokes p base z) = subst (λ x. claims_sound v x ≡ true) (sym (revoke_claims c p base)) ok
recored_sound v c k e few ok (maps page frame z) = ok
recored_sound v c k e few ok (unmaps page z) = ok
recored_sound v c k e few ok (reclaims x r) = reclaimed_sound v c.claims x few ok (subst (λ n. Reclaimed n c.claims x) (sym e) r)

deed_sound : (s : State) → s.core.pages.v ≤ 256 → Sound s.core.pages.v s.core → {cells tags : List ℕ} {a : Asked} {e : Effect} → Deed s cells tags a e → Sound s.core.pages.v e.core
deed_sound s small ok (took p base reg permissions low-p low-reg few z) = ok
deed_sound s small ok (recored p k r) = recored_sound s.core.pages.v s.core k refl small ok r
deed_sound s small ok (swept p n runs) = ok
deed_sound s small ok (collected_all p z) = subst (λ x. claims_sound s.core.pages.v x ≡ true) (sym (collect_claims s.core)) ok
deed_sound s small ok (zeroed p frame z) = ok
deed_sound s small ok (filled p d from w answer low g) = ok
deed_sound s small ok (wrote p a off x low-p low-a g) = ok
deed_sound s small ok (mailed p x to t) = ok
deed_sound s small ok (received p d low) = ok

pub claims_kept : (s : State) → core_sound s.core ≡ true → claims_sound s.core.pages.v s.core.claims ≡ true
    → {cells tags : List ℕ} {a : Asked} {e : Effect} → Deed s cells tags a e → claims_sound e.core.pages.v e.core.claims ≡ true
claims_kept s core ok {e} d =
    let small : s.core.pages.v ≤ 256 = (layer.sound s.core.pages (core_facts s.core core).layer).v_most in
    subst (λ v. claims_sound v e.core.claims ≡ true) (sym (effect_same s d).of_v) (deed_sound s small ok d)
