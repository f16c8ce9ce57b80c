-- Well-formedness at all times. After every history the state is well formed, V and F are the start's, and lent memory is 16 F cells
-- and tags; so refusals 1 and 2 never come up: every answer's code is 0 or above 3. Assumes nothing.
use Rattle.std.specs.Prelude.{ℕ, ◌*◌, ◌<◌, true, ◌⊎◌, ◌≡◌, length}
use Rattle.calls.specs.declared.Call.{Call}
use Rattle.machine.specs.Formed.{well_formed}
use Rattle.histories.specs.Runs.{Machine, outcome, Reached}

-- What a start with V and F leads to.
pub record Standing (m : Machine) (v f : ℕ) : Type 0 where
  pub formed : well_formed m.state ≡ true
  pub of_v : m.state.core.pages.v ≡ v
  pub of_f : m.state.core.pages.f ≡ f
  pub of_cells : length m.cells ≡ 16 * f
  pub of_tags : length m.tags ≡ 16 * f

abbrev pub AlwaysFormed : Type 0
AlwaysFormed = (m : Machine) (r : Reached m) → Standing m r.v r.f

abbrev pub NeverUnformed : Type 0
NeverUnformed = (m : Machine) → Reached m → (c : Call) → ((outcome m c).answer.code ≡ 0) ⊎ (3 < (outcome m c).answer.code)
