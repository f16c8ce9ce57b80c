-- A call is granted, and then done, or changes nothing. Assumes nothing.
use Prim.Native.Nat.{ℕ, ◌*◌}
use native.Mathlib.Omega.{arith}
use mathlib.Core.Bool.{Bool, true, false}
use mathlib.Core.Logic.{◌⊎◌, inl, inr, ⊎_elim}
use mathlib.Core.Path.{◌≡◌, refl, ap}
use borrow.Author.Tests.{eqb-true, eqb-false}
use lib.Dec.{eqb}
use lib.ListN.{length}
use Rattle.capabilities.specs.Refusals.{first}
use Rattle.pages.specs.Layer.{serves}
use Rattle.pages.proofs.Memory.{served}
use Rattle.reservations.specs.Revocation.{core_sound}
use Rattle.calls.specs.declared.Call.{Call}
use Rattle.machine.specs.Formed.{well_formed}
use Rattle.machine.specs.Step.{Outcome, done, reasons_on, effect_on, ruled, judged, step_of}
use Rattle.histories.specs.Runs.{Machine, machine, outcome, next, Granted}
use Rattle.machine.proofs.Keeps.{facts}

-- What an outcome hands on.
abbrev pub handed : Outcome → Machine
handed o = machine o.answer.state o.cells o.tags

pub record Went (m : Machine) (c : Call) : Type 0 where
  pub formed : well_formed m.state ≡ true
  pub serve : serves m.state.core.pages (length m.cells) (length m.tags) ≡ true
  pub clear : first (reasons_on m.state c m.cells m.tags) ≡ 0
  pub now : outcome m c ≡ done m.state (effect_on m.state c m.cells m.tags) m.cells m.tags

pub went_or_not : (m : Machine) (c : Call) → Went m c ⊎ ((next m c ≡ m) × (Granted m c → ⊥))
unfolding next outcome step_of judged ruled
went_or_not m c =
    go (well_formed m.state) refl (serves m.state.core.pages (length m.cells) (length m.tags)) refl (eqb (first (reasons_on m.state c m.cells m.tags)) 0) refl
  where
    go : (x : Bool) → well_formed m.state ≡ x → (y : Bool) → serves m.state.core.pages (length m.cells) (length m.tags) ≡ y → (z : Bool) → eqb (first (reasons_on m.state c m.cells m.tags)) 0 ≡ z
        → Went m c ⊎ ((next m c ≡ m) × (Granted m c → ⊥))
    go true p true q true r = inl (record { formed = p; serve = q; clear = eqb-true (first (reasons_on m.state c m.cells m.tags)) 0 r; now = rw (p, q, r) refl })
    go true p true q false r = inr (rw (p, q, r) refl, λ g. eqb-false (first (reasons_on m.state c m.cells m.tags)) 0 r (rw (p, q, r) at g))
    go true p false q z r = inr (rw (p, q) refl, λ g. let n : ◌≡◌ {A = ℕ} 2 0 = rw (p, q) at g in omega arith)
    go false p y q z r = inr (rw p refl, λ g. let n : ◌≡◌ {A = ℕ} 1 0 = rw p at g in omega arith)

pub went : (m : Machine) (c : Call) → Granted m c → Went m c
went m c g = ⊎_elim (λ w. w) (λ n. absurd (n.1 g)) (went_or_not m c)

module _ (m : Machine) (c : Call) (w : Went m c) where
  pub went_granted : Granted m c
  unfolding done
  went_granted = ap (λ o. o.answer.code) w.now

  pub went_next : next m c ≡ handed (done m.state (effect_on m.state c m.cells m.tags) m.cells m.tags)
  unfolding next
  went_next = ap (λ o. handed o) w.now

  pub went_core : core_sound m.state.core ≡ true
  went_core = (facts m.state w.formed).core

  pub went_cells : length m.cells ≡ 16 * m.state.core.pages.f
  went_cells = (served m.state.core.pages (length m.cells) (length m.tags) w.serve).0

  pub went_tags : length m.tags ≡ 16 * m.state.core.pages.f
  went_tags = (served m.state.core.pages (length m.cells) (length m.tags) w.serve).1
