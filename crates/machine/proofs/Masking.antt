-- Document 02, 2026-01: command 11 "gives the permissions in 15 that are also in mask and is otherwise take". 01 is 11 with mask 3; and what
-- 11 does is what 01 does, but for the permissions of the capability in the register. Of every state and lent memory. Assumes nothing.
use Prim.Native.Nat.{ℕ, ◌+◌, ◌*◌}
use native.Mathlib.Omega.{arith}
use mathlib.Core.Bool.{Bool, true, false}
use mathlib.Core.List.{List}
use mathlib.Core.Path.{◌≡◌, refl, sym, ap}
use lib.Dec.{eqb}
use lib.ListN.{length}
use lib.Seq.{set-set}
use borrow.Author.Tests.{eqb-false, ne_eqb}
use Rattle.capabilities.specs.Capability.{capability, permitted}
use Rattle.capabilities.specs.Lists.{pick}
use Rattle.capabilities.specs.Refusals.{first}
use Rattle.pages.specs.Layer.{serves}
use Rattle.table.specs.Operations.{take_of}
use Rattle.calls.specs.declared.Call.TheVariants.{Take, TakeMasked}
use Rattle.words.specs.Words.{slot}
use Rattle.machine.specs.State.{State}
use Rattle.machine.specs.Formed.{well_formed, answered}
use Rattle.machine.specs.Roles.{plain_permissions}
use Rattle.machine.specs.Reasons.{taking_reasons, reasons}
use Rattle.machine.specs.Effects.{taking, effect}
use Rattle.machine.specs.Step.{Outcome, outcome_with, refused, registers_after, mailboxes_after, cells_after, tags_after, done, ruled, judged, step_of}
use Rattle.machine.specs.Demands.{permitting, PlainStep, MaskedStep}

module _ (s : State) (p base reg : ℕ) (cells tags : List ℕ) where
  -- 01 is 11 with mask 3.
  pub plain_ruled : ruled s (TakeMasked p base reg 3) cells tags ≡ ruled s (Take p base reg) cells tags
  unfolding ruled reasons effect
  plain_ruled = refl

  module _ (x y : ℕ) where
    granted_permitting : done s (taking s.core p base reg y) cells tags ≡ permitting p base reg y (done s (taking s.core p base reg x) cells tags)
    unfolding done registers_after mailboxes_after cells_after tags_after permitting
    granted_permitting =
        let n = (take_of s.core.table p base).length in
        ap (λ l. outcome_with (answered 0 (slot n false) (record { core = (taking s.core p base reg x).core; registers = l; mailboxes = s.mailboxes })) cells tags)
        (sym (set-set s.registers (8 * p + reg) (slot (capability base n x) true) (slot (capability base n y) true)))

    refused_permitting : (k : ℕ) → (k ≡ 0 → ⊥) → refused k s cells tags ≡ permitting p base reg y (refused k s cells tags)
    unfolding permitting
    refused_permitting k h = rw (ne_eqb k 0 h)

  masked : (mask : ℕ) → step_of s (TakeMasked p base reg mask) cells tags ≡ permitting p base reg (permitted mask) (step_of s (Take p base reg) cells tags)
  unfolding step_of judged ruled reasons effect
  masked mask = go (well_formed s) (serves s.core.pages (length cells) (length tags)) (eqb code 0) refl
    where
      code : ℕ
      code = first (taking_reasons s.core p base reg)

      by : ℕ → Outcome
      by permissions = done s (taking s.core p base reg permissions) cells tags

      go : (a b d : Bool) → eqb code 0 ≡ d
          → pick a (pick b (pick d (by (permitted mask)) (refused code s cells tags)) (refused 2 s cells tags)) (refused 1 s cells tags)
          ≡ permitting p base reg (permitted mask) (pick a (pick b (pick d (by plain_permissions) (refused code s cells tags)) (refused 2 s cells tags)) (refused 1 s cells tags))
      go true true true e = granted_permitting plain_permissions (permitted mask)
      go true true false e = refused_permitting plain_permissions (permitted mask) code (eqb-false code 0 e)
      go true false d e = refused_permitting plain_permissions (permitted mask) 2 (λ z. omega arith)
      go false b d e = refused_permitting plain_permissions (permitted mask) 1 (λ z. omega arith)

pub plain_step : PlainStep
unfolding step_of judged ruled reasons effect
plain_step s p base reg cells tags = refl

pub masked_step : MaskedStep
masked_step s p base reg cells tags mask = masked s p base reg cells tags mask
