-- Numbers of refusals, and the first reason of a list. Assumes nothing.
use Prim.Native.Nat.{ℕ}
use native.Mathlib.Omega.{arith}
use mathlib.Core.Bool.{Bool, true, false}
use mathlib.Core.List.{List, ◌∷◌}
use mathlib.Core.Path.{◌≡◌, refl}
use Rattle.capabilities.specs.Lists.{pick}
use Rattle.capabilities.specs.declared.refusal.Refusal.{Refusal}
use Rattle.capabilities.specs.declared.refusal.Refusal.TheVariants.{State, Memory, Command, Unnamed, Manager, NoReservation, ReservationState, SplitLength, TableFull, PartPage, Revocation, OutOfRange, PageState, FrameState, Untagged, Permission, Bounds, NotMapped, Mailbox, Principal, Limit, Claimed, Question}
use Rattle.capabilities.specs.Refusals.{Reason, reason, first, number_of}

-- 0 is no refusal's number.
pub number_some : (r : Refusal) → number_of r ≡ 0 → ⊥
number_some State z = omega (arith, z)
number_some Memory z = omega (arith, z)
number_some Command z = omega (arith, z)
number_some Unnamed z = omega (arith, z)
number_some Manager z = omega (arith, z)
number_some NoReservation z = omega (arith, z)
number_some ReservationState z = omega (arith, z)
number_some SplitLength z = omega (arith, z)
number_some TableFull z = omega (arith, z)
number_some PartPage z = omega (arith, z)
number_some Revocation z = omega (arith, z)
number_some OutOfRange z = omega (arith, z)
number_some PageState z = omega (arith, z)
number_some FrameState z = omega (arith, z)
number_some Untagged z = omega (arith, z)
number_some Permission z = omega (arith, z)
number_some Bounds z = omega (arith, z)
number_some NotMapped z = omega (arith, z)
number_some Mailbox z = omega (arith, z)
number_some Principal z = omega (arith, z)
number_some Limit z = omega (arith, z)
number_some Claimed z = omega (arith, z)
number_some Question z = omega (arith, z)

-- No reason applied: the first one did not, and none of the rest. First of numbers, then of a list.
pub pick_clear : (k : ℕ) (b : Bool) (rest : ℕ) → (k ≡ 0 → ⊥) → pick b k rest ≡ 0 → (b ≡ false) × (rest ≡ 0)
pick_clear k true rest h e = absurd (h e)
pick_clear k false rest h e = (refl, e)

pub first_clear : (k : ℕ) (b : Bool) (rest : List Reason) → (k ≡ 0 → ⊥) → first (reason k b ∷ rest) ≡ 0 → (b ≡ false) × (first rest ≡ 0)
unfolding first
first_clear k b rest h e = pick_clear k b (first rest) h e
