-- Well-formedness at all times. Assumes nothing.
use Prim.Native.Nat.{ℕ, ◌*◌, ◌<◌}
use native.Mathlib.Omega.{arith}
use mathlib.Core.Bool.{Bool, true, false}
use mathlib.Core.List.{List, [], ◌∷◌}
use mathlib.Core.Logic.{inl, inr, ⊎_elim}
use mathlib.Core.Path.{◌≡◌, refl, sym, ap, subst, ◌∙◌}
use borrow.Author.Tests.{eq-eqb}
use lib.Dec.{eqb}
use lib.ListN.{length}
use Rattle.capabilities.specs.Refusals.{first}
use Rattle.capabilities.proofs.Choice.{pick_yes}
use Rattle.pages.specs.Layer.{serves, in_range, fresh_of, blank}
use Rattle.table.proofs.Truth.{both}
use Rattle.claims.specs.Sound.{claims_sound}
use Rattle.reservations.specs.Revocation.{fresh_core, core_sound}
use Rattle.reservations.proofs.CoreKept.{CoreFacts, core_facts}
use Rattle.calls.specs.declared.Call.{Call}
use Rattle.machine.specs.Formed.{start_of, fresh}
use Rattle.machine.specs.Step.{reasons_on, step_of, judged, ruled}
use Rattle.machine.proofs.Keeps.{facts, step_keeps, start_formed}
use Rattle.machine.proofs.Lengths.{step_sized}
use Rattle.machine.proofs.Sizes.{Same}
use Rattle.machine.proofs.Unchanged.{step_same}
use Rattle.machine.proofs.Order.{late_code, ruled_code}
use Rattle.histories.specs.Runs.{Machine, outcome, next, run, begun, Begins}
use Rattle.histories.specs.Forming.{Standing, AlwaysFormed, NeverUnformed}

pub next_same : (m : Machine) (c : Call) → Same (next m c).state.core.pages m.state.core.pages
unfolding next outcome
next_same m c = step_same m.state c m.cells m.tags

pub standing_next : (m : Machine) (v f : ℕ) (c : Call) → Standing m v f → Standing (next m c) v f
unfolding next outcome
standing_next m v f c k =
    let z = step_sized m.state c m.cells m.tags in
    let n = next_same m c in
    record {
      formed = step_keeps m.state c m.cells m.tags k.formed;
      of_v = n.of_v ∙ k.of_v;
      of_f = n.of_f ∙ k.of_f;
      of_cells = z.of_cells ∙ k.of_cells;
      of_tags = z.of_tags ∙ k.of_tags;
    }

pub standing_run : (calls : List Call) (m : Machine) (v f : ℕ) → Standing m v f → Standing (run m calls) v f
unfolding run
standing_run [] m v f k = k
standing_run (c ∷ calls) m v f k = standing_run calls (next m c) v f (standing_next m v f c k)

pub in_range_lem : (v f : ℕ) → (start_of v f).code ≡ 0 → in_range v f ≡ true
unfolding start_of
in_range_lem v f e = go (in_range v f) refl
  where
    go : (b : Bool) → in_range v f ≡ b → in_range v f ≡ true
    go true q = q
    go false q = let z : ◌≡◌ {A = ℕ} 1 0 = rw q at e in let n : ⊥ = omega arith in absurd n

fresh_same : (v f : ℕ) → in_range v f ≡ true → fresh_of v f ≡ blank v f
unfolding fresh_of
fresh_same v f e = pick_yes (in_range v f) (blank v f) (blank 0 0) e

pub standing_begun : (v f : ℕ) (cells tags : List ℕ) → Begins v f cells tags → Standing (begun v f cells tags) v f
unfolding begun start_of fresh fresh_core
standing_begun v f cells tags b =
    let e = fresh_same v f (in_range_lem v f b.granted) in
    record { formed = start_formed v f b.granted; of_v = ap (λ p. p.v) e; of_f = ap (λ p. p.f) e; of_cells = b.of_cells; of_tags = b.of_tags }

pub always_formed : AlwaysFormed
always_formed m r =
    subst (λ n. Standing n r.v r.f) (sym r.is) (standing_run r.calls (begun r.v r.f r.cells r.tags) r.v r.f (standing_begun r.v r.f r.cells r.tags r.begins))

pub standing_core : (m : Machine) (v f : ℕ) → Standing m v f → core_sound m.state.core ≡ true
standing_core m v f k = (facts m.state k.formed).core

pub standing_facts : (m : Machine) (v f : ℕ) → Standing m v f → CoreFacts m.state.core
standing_facts m v f k = core_facts m.state.core (standing_core m v f k)

pub standing_claims : (m : Machine) (v f : ℕ) → Standing m v f → claims_sound v m.state.core.claims ≡ true
standing_claims m v f k = subst (λ n. claims_sound n m.state.core.claims ≡ true) k.of_v (facts m.state k.formed).claims

pub standing_serves : (m : Machine) (v f : ℕ) → Standing m v f → serves m.state.core.pages (length m.cells) (length m.tags) ≡ true
standing_serves m v f k =
    let n : ℕ = 16 * m.state.core.pages.f in
    both (eqb (length m.cells) (16 * m.state.core.pages.f)) (eqb (length m.tags) (16 * m.state.core.pages.f))
    (eq-eqb (length m.cells) (16 * m.state.core.pages.f) (k.of_cells ∙ ap (λ x. 16 * x) (sym k.of_f)))
    (eq-eqb (length m.tags) (16 * m.state.core.pages.f) (k.of_tags ∙ ap (λ x. 16 * x) (sym k.of_f)))

-- Refusals from 4 on alone decide.
pub standing_ruled : (m : Machine) (v f : ℕ) (c : Call) → Standing m v f → outcome m c ≡ ruled m.state c m.cells m.tags
unfolding outcome step_of judged
standing_ruled m v f c k = rw (k.formed, standing_serves m v f k)

pub standing_code : (m : Machine) (v f : ℕ) (c : Call) → Standing m v f → (outcome m c).answer.code ≡ first (reasons_on m.state c m.cells m.tags)
standing_code m v f c k = ap (λ o. o.answer.code) (standing_ruled m v f c k) ∙ ruled_code m.state c m.cells m.tags

pub never_unformed : NeverUnformed
never_unformed m r c =
    let e = standing_code m r.v r.f c (always_formed m r) in
    ⊎_elim (λ z. inl (e ∙ z)) (λ z. inr (subst (λ n. 3 < n) (sym e) z)) (late_code m.state c m.cells m.tags)
