-- No survivor. Assumes nothing.
use Prim.Native.Nat.{ℕ}
use mathlib.Core.Bool.{true}
use mathlib.Core.Path.{◌≡◌, refl, sym, ap, subst, ◌∙◌}
use Rattle.table.specs.Rows.{live}
use Rattle.reservations.specs.Revocation.{core_sound, collect_of}
use Rattle.reservations.proofs.Revocations.{core_collect}
use Rattle.calls.specs.declared.Call.{Call}
use Rattle.calls.specs.declared.Call.TheVariants.{Collect}
use Rattle.machine.specs.Roles.{IsCollect}
use Rattle.machine.specs.Step.{done, effect_on}
use Rattle.machine.proofs.Deeds.{Collected, collected_as, deed}
use Rattle.histories.specs.Runs.{Machine, next}
use Rattle.histories.specs.Live.{NoneInto}
use Rattle.histories.specs.Survivors.{NoSurvivor}
use Rattle.histories.proofs.Table.{collect_open}
use Rattle.histories.proofs.Granted.{Went, went, went_next, went_core}
use Rattle.histories.proofs.Findings.{Ends, ends}
use Rattle.histories.proofs.Always.{inv_reached, inv_step}
use Rattle.histories.proofs.Confining.{none_into_open}

-- A granted collect.
module _ (m : Machine) (c : Call) (p : ℕ) (is : IsCollect c p) (w : Went m c) where
  collected : Collected m.state (effect_on m.state c m.cells m.tags)
  collected = collected_as m.state (deed m.state c m.cells m.tags w.clear) (ap (λ a. a.role) is)

  pub collect_core : (next m c).state.core ≡ (collect_of m.state.core).core
  unfolding done
  collect_core = ap (λ n. n.state.core) (went_next m c w) ∙ ap (λ e. e.core) collected.is

  pub collect_ends : Ends m.state.core
  collect_ends = ends m.state.core (went_core m c w) (unfold collect_of in collected.clear)

pub no_survivor : NoSurvivor
no_survivor m r p g =
    let w = went m (Collect p) g in
    let c = m.state.core in
    let n = next m (Collect p) in
    let k = collect_ends m (Collect p) p refl w in
    let e = collect_core m (Collect p) p refl w in
    let ok : core_sound (next m (Collect p)).state.core ≡ true = ap core_sound e ∙ core_collect c (went_core m (Collect p) w) in
    let (used, isopen, range) = collect_open c.table n.state.core.table k.row k.used (ap (λ x. live x.table) e ∙ k.now) in
    subst (NoneInto n) (range ∙ sym k.range) (none_into_open n (inv_step m (Collect p) (inv_reached m r)) ok k.row used isopen)
