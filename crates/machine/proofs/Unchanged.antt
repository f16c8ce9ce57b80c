-- No call changes V or F. Assumes nothing.
use Prim.Native.Nat.{ℕ}
use mathlib.Core.List.{List}
use mathlib.Core.Path.{◌≡◌}
use Rattle.capabilities.specs.Refusals.{first}
use Rattle.calls.specs.declared.Call.{Call}
use Rattle.machine.specs.State.{State}
use Rattle.machine.specs.Step.{done, reasons_on, effect_on, step_of}
use Rattle.machine.specs.Command.{command_of}
use Rattle.machine.proofs.Judging.{step_by}
use Rattle.machine.proofs.Deeds.{deed}
use Rattle.machine.proofs.Sizes.{Same, same, effect_same}
use Rattle.machine.proofs.Commands.{command_by}

done_same : (s : State) (c : Call) (cells tags : List ℕ) → first (reasons_on s c cells tags) ≡ 0 → Same (done s (effect_on s c cells tags) cells tags).answer.state.core.pages s.core.pages
unfolding done
done_same s c cells tags z = effect_same s (deed s c cells tags z)

pub step_same : (s : State) (c : Call) (cells tags : List ℕ) → Same (step_of s c cells tags).answer.state.core.pages s.core.pages
step_same s c cells tags =
    step_by s c cells tags (λ o. Same o.answer.state.core.pages s.core.pages) (λ g. done_same s c cells tags g.clear) (λ k n. same s.core.pages)

pub command_same : (s : State) (input : List ℕ) (at : ℕ) (cells tags : List ℕ) → Same (command_of s input at cells tags).command.answered.state.core.pages s.core.pages
command_same s input at cells tags =
    command_by s input at cells tags (λ r. Same r.command.answered.state.core.pages s.core.pages) (λ k n b. same s.core.pages)
    (λ c n w. step_same s c cells tags)
