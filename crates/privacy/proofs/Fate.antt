-- A call is turned down and changes nothing, or its effect is done to a well-formed state; and what decides this. Assumes nothing.
use Prim.Native.Nat.{ℕ}
use native.Mathlib.Omega.{arith}
use mathlib.Core.Bool.{Bool, true, false}
use mathlib.Core.Path.{◌≡◌, refl, sym, ap, ◌∙◌}
use borrow.Author.Tests.{eqb-true, eqb-false}
use lib.Dec.{eqb}
use lib.ListN.{length}
use Rattle.capabilities.specs.Lists.{pick}
use Rattle.capabilities.specs.Refusals.{first}
use Rattle.pages.specs.Layer.{serves}
use Rattle.calls.specs.declared.Call.{Call}
use Rattle.machine.specs.Formed.{well_formed}
use Rattle.machine.specs.Effects.{Effect}
use Rattle.machine.specs.Step.{refused, registers_after, mailboxes_after, cells_after, tags_after, done, reasons_on, effect_on, ruled, judged, step_of}
use Rattle.histories.specs.Runs.{Machine, machine, outcome, next}
use Rattle.privacy.specs.Rule.{told}

-- The code that a call is answered with.
unfoldable pub code_of : Machine → Call → ℕ
code_of m c =
    pick (well_formed m.state) (pick (serves m.state.core.pages (length m.cells) (length m.tags)) (first (reasons_on m.state c m.cells m.tags)) 2) 1

-- What a granted call found.
pub record Granted (m : Machine) (c : Call) : Type 0 where
  pub formed : well_formed m.state ≡ true
  pub served : serves m.state.core.pages (length m.cells) (length m.tags) ≡ true
  pub clear : first (reasons_on m.state c m.cells m.tags) ≡ 0
  pub comes : outcome m c ≡ done m.state (effect_on m.state c m.cells m.tags) m.cells m.tags

pub data Fate (m : Machine) (c : Call) : Type 0 where
  down : (k : ℕ) → (k ≡ 0 → ⊥) → code_of m c ≡ k → outcome m c ≡ refused k m.state m.cells m.tags → Fate m c
  up : code_of m c ≡ 0 → Granted m c → Fate m c

pub fate : (m : Machine) (c : Call) → Fate m c
unfolding outcome step_of judged ruled code_of
fate m c = go (well_formed m.state) refl (serves m.state.core.pages (length m.cells) (length m.tags)) refl (eqb (first (reasons_on m.state c m.cells m.tags)) 0) refl
  where
    go : (a : Bool) → well_formed m.state ≡ a → (b : Bool) → serves m.state.core.pages (length m.cells) (length m.tags) ≡ b → (d : Bool) → eqb (first (reasons_on m.state c m.cells m.tags)) 0 ≡ d → Fate m c
    go true e true f true g =
        up (rw (e, f) (eqb-true (first (reasons_on m.state c m.cells m.tags)) 0 g)) (record { formed = e; served = f; clear = eqb-true (first (reasons_on m.state c m.cells m.tags)) 0 g; comes = rw (e, f, g) })
    go true e true f false g = down (first (reasons_on m.state c m.cells m.tags)) (eqb-false (first (reasons_on m.state c m.cells m.tags)) 0 g) (rw (e, f)) (rw (e, f, g))
    go true e false f d g = down 2 (λ z. omega arith) (rw (e, f)) (rw (e, f))
    go false e b f d g = down 1 (λ z. omega arith) (rw e) (rw e)

-- What an effect leaves.
unfoldable pub after : Machine → Effect → Machine
after m e =
    machine
    (record { core = e.core; registers = registers_after e.registers m.state; mailboxes = mailboxes_after e.mailboxes m.state })
    (cells_after e.memory m.cells) (tags_after e.memory m.state.core m.cells m.tags)

pub next_done : (m : Machine) (c : Call) (e : Effect) → outcome m c ≡ done m.state e m.cells m.tags → next m c ≡ after m e
unfolding next done after
next_done m c e q = ap (λ o. machine o.answer.state o.cells o.tags) q

pub next_down : (m : Machine) (c : Call) (k : ℕ) → outcome m c ≡ refused k m.state m.cells m.tags → next m c ≡ m
unfolding next
next_down m c k q = ap (λ o. machine o.answer.state o.cells o.tags) q

-- What is told of a granted call.
pub told_done : (m : Machine) (c : Call) (e : Effect) → outcome m c ≡ done m.state e m.cells m.tags
    → told (outcome m c).answer ≡ record { code = 0; number = e.answer.cell; tag = e.answer.tag }
unfolding done
told_done m c e q = ap (λ o. told o.answer) q

pub told_down : (m : Machine) (c : Call) (k : ℕ) → outcome m c ≡ refused k m.state m.cells m.tags → told (outcome m c).answer ≡ record { code = k; number = 0; tag = false }
told_down m c k q = ap (λ o. told o.answer) q

done_code : (m : Machine) (e : Effect) → (done m.state e m.cells m.tags).answer.code ≡ 0
unfolding done
done_code m e = refl

-- A call is granted if its code is 0.
pub code_is : (m : Machine) (c : Call) → (outcome m c).answer.code ≡ code_of m c
code_is m c = go (fate m c)
  where
    go : Fate m c → (outcome m c).answer.code ≡ code_of m c
    go (down k n e q) = ap (λ o. o.answer.code) q ∙ sym e
    go (up e k) = ap (λ o. o.answer.code) k.comes ∙ done_code m (effect_on m.state c m.cells m.tags) ∙ sym e
