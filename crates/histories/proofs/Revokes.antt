-- A granted revoke: the reservation that it names is the one Revoking, so that its revocation runs. Assumes nothing.
use Prim.Native.Nat.{ℕ}
use mathlib.Core.Bool.{true, not}
use mathlib.Core.List.{[], ◌∷◌}
use mathlib.Core.Path.{◌≡◌, ap, ◌∙◌}
use Rattle.table.specs.Find.{find_of, row_of}
use Rattle.table.specs.Rows.{live, range_of}
use Rattle.table.proofs.Dying.{dyings, none, first_of}
use Rattle.reservations.specs.Revocation.{running, revoked, revoke_reasons, revoking_row, revoke_of, core_sound}
use Rattle.reservations.proofs.Revocations.{core_revoke, revoke_dies}
use Rattle.calls.specs.declared.Call.TheVariants.{Revoke}
use Rattle.words.specs.WordReasons.{unnamed, not_manager}
use Rattle.machine.specs.Reasons.{reasons}
use Rattle.machine.specs.Effects.{effect}
use Rattle.machine.specs.Step.{done}
use Rattle.machine.proofs.Found.{after_five}
use Rattle.histories.specs.Runs.{Machine, next}
use Rattle.histories.specs.Lending.{named_range}
use Rattle.histories.proofs.Table.{running_by, revoked_by}
use Rattle.histories.proofs.Granted.{Went, went_next, went_core}

module _ (m : Machine) (p base : ℕ) (w : Went m (Revoke p base)) where
  abbrev n : Machine
  n = next m (Revoke p base)

  pub revoke_core : n.state.core ≡ (revoke_of m.state.core p base).core
  unfolding done effect
  revoke_core = ap (λ x. x.state.core) (went_next m (Revoke p base) w)

  pub revoke_code : (revoke_of m.state.core p base).code ≡ 0
  unfolding revoke_of reasons
  revoke_code = after_five (unnamed p) (not_manager p) (revoke_reasons m.state.core p base) w.clear

  one_revoking : dyings (live n.state.core.table) ≡ revoking_row (row_of m.state.core.table (find_of m.state.core.table p base)) ∷ []
  one_revoking = ap (λ k. dyings (live k.table)) revoke_core ∙ revoke_dies m.state.core (went_core m (Revoke p base) w) p base revoke_code

  pub revoke_sound : core_sound n.state.core ≡ true
  revoke_sound = ap core_sound revoke_core ∙ core_revoke m.state.core (went_core m (Revoke p base) w) p base

  pub revoke_runs : running n.state.core ≡ true
  revoke_runs = running_by n.state.core ∙ ap (λ l. not (none l)) one_revoking

  pub revoke_range : revoked n.state.core ≡ named_range m p base
  revoke_range = revoked_by n.state.core ∙ ap (λ l. range_of (first_of l)) one_revoking
