-- No survivor until a take. Assumes nothing.
use Prim.Native.Nat.{ℕ, ◌<◌}
use native.Mathlib.Omega.{arith}
use mathlib.Core.Bool.{true}
use mathlib.Core.List.{List, [], ◌∷◌}
use mathlib.Core.Path.{◌≡◌, refl, sym, ap, subst, ◌∙◌}
use Rattle.capabilities.specs.declared.Range.{Range}
use Rattle.capabilities.specs.Capability.{capability}
use Rattle.capabilities.specs.Range.{inside}
use Rattle.capabilities.proofs.Capabilities.{made_base, made_length, narrowed_base, narrowed_length}
use Rattle.table.specs.Operations.{take_of}
use Rattle.table.specs.Rows.{range_of}
use Rattle.table.proofs.Cells.{inside_made}
use Rattle.calls.specs.declared.Call.{Call}
use Rattle.calls.specs.declared.Call.TheVariants.{Collect}
use Rattle.machine.specs.Roles.{IsTake}
use Rattle.machine.proofs.Deeds.{taken_by}
use Rattle.reservations.specs.Revocation.{revoked}
use Rattle.histories.specs.Runs.{Machine, next, run}
use Rattle.histories.specs.Live.{Into}
use Rattle.histories.specs.Inv.{Inv, row_at}
use Rattle.histories.specs.Lending.{named_range}
use Rattle.histories.specs.Survivors.{Untaken, NoSurvivorUntilTaken}
use Rattle.histories.proofs.Granted.{Went, went_core}
use Rattle.histories.proofs.Findings.{less_of}
use Rattle.histories.proofs.Always.{inv_reached, inv_step}
use Rattle.histories.proofs.Held.{Narrows}
use Rattle.histories.proofs.Origins.{All, step_came}
use Rattle.histories.proofs.Lending.{lends, named_range_lem, take_number}
use Rattle.histories.proofs.Between.{went_granted}
use Rattle.histories.proofs.Carrying.{row_fits}
use Rattle.histories.proofs.Survivors.{no_survivor}

-- A capability has no cell in a range.
abbrev pub Outside : Range → ℕ → Type 0
Outside r c = Into r c → ⊥

pub outside_narrows : (r : Range) → Narrows (Outside r)
outside_narrows r c off len mask some ends starts out k =
    let short : len < 65536 = omega (arith, less_of c) in
    let b = narrowed_base c off len mask short (omega arith) in
    let l = narrowed_length c off len mask short in
    out (record { cell = k.cell; from = omega (arith, k.from, b); upto = omega (arith, k.upto, b, l, ends); hit = k.hit })

-- What a granted take makes has its cells in the named range.
pub taken_outside : (m : Machine) (take : Call) (p base reg permissions : ℕ) → IsTake take p base reg permissions → Went m take → (r : Range)
    → ((v : ℕ) → inside (named_range m p base) v ≡ true → inside r v ≡ true → ⊥) → Outside r (capability base (take_of m.state.core.table p base).length permissions)
taken_outside m take p base reg permissions is w r apart k =
    let f = lends m take p base reg permissions is w in
    let row = row_at m.state.core.table f.row in
    let named = named_range_lem m take p base reg permissions is w in
    let few = (taken_by m.state take m.cells m.tags p base reg permissions is w.clear).few in
    let start : row.base ≡ base = sym (ap (λ x. x.base) f.range) in
    let n : (take_of m.state.core.table p base).length ≡ row.length = sym (take_number m take p base reg permissions is w) ∙ ap (λ x. x.length) f.range in
    let fits = row_fits m.state.core (went_core m take w) f.row f.used in
    let b = made_base base (take_of m.state.core.table p base).length permissions (omega arith) (omega arith) (omega arith) in
    let l = made_length base (take_of m.state.core.table p base).length permissions (omega arith) (omega arith) (omega arith) in
    apart k.cell (subst (λ x. inside x k.cell ≡ true) (sym named) (inside_made (range_of row) k.cell (omega (arith, k.from, b)) (omega (arith, k.upto, b, l)))) k.hit

run_outside : (r : Range) (calls : List Call) (m : Machine) → Inv m → All (Outside r) m → Untaken m calls r → All (Outside r) (run m calls)
unfolding run
run_outside r [] m inv all none = all
run_outside r (c ∷ calls) m inv all none =
    run_outside r calls (next m c) (inv_step m c inv)
    (step_came (Outside r) (outside_narrows r) m c inv all
    (λ w p base reg permissions is. taken_outside m c p base reg permissions is w r (none [] c calls refl p base reg permissions is (went_granted m c w))))
    (λ before take after e. none (c ∷ before) take after (ap (λ l. c ∷ l) e))

pub no_survivor_until_taken : NoSurvivorUntilTaken
no_survivor_until_taken m r p g calls none =
    run_outside (revoked m.state.core) calls (next m (Collect p)) (inv_step m (Collect p) (inv_reached m r)) (no_survivor m r p g) none
