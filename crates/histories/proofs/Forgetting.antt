-- "From a fresh start no answer changes": both machines ask for the same of the state at the start, so the first step is the same but for
-- takers and they ask for the same again (machine, Forgetting); and so on, step by step. Assumes nothing.
use mathlib.Core.List.{List, [], ◌∷◌, map}
use mathlib.Core.Path.{◌≡◌, refl, ap, ◌∙◌}
use Rattle.calls.specs.declared.Call.{Call}
use Rattle.machine.specs.Forgetting.{forget, forget_answer, forget_outcome, start_bare}
use Rattle.machine.proofs.Forgetting.{Agree, agree_start, agree_step, step_forgets}
use Rattle.histories.specs.Runs.{Machine, machine, outcome, next, run, answers, begun}
use Rattle.histories.specs.Forgetting.{outcome_bare, next_bare, run_bare, answers_bare, begun_bare, NoAnswerChanges}

-- A machine without takers.
abbrev bare : Machine → Machine
bare m = machine (forget m.state) m.cells m.tags

module _ (m : Machine) (c : Call) (a : Agree m.state) where
  outcome_forgets : forget_outcome (outcome m c) ≡ outcome_bare (bare m) c
  unfolding outcome outcome_bare
  outcome_forgets = step_forgets m.state c m.cells m.tags a

  next_forgets : bare (next m c) ≡ next_bare (bare m) c
  unfolding next next_bare
  next_forgets = ap (λ o. machine o.answer.state o.cells o.tags) outcome_forgets

  agree_next : Agree (next m c).state
  unfolding next outcome
  agree_next = agree_step m.state c m.cells m.tags a

run_forgets : (calls : List Call) (m : Machine) → Agree m.state → bare (run m calls) ≡ run_bare (bare m) calls
unfolding run run_bare
run_forgets [] m a = refl
run_forgets (c ∷ calls) m a = run_forgets calls (next m c) (agree_next m c a) ∙ ap (λ n. run_bare n calls) (next_forgets m c a)

answers_forget : (calls : List Call) (m : Machine) → Agree m.state → map forget_answer (answers m calls) ≡ answers_bare (bare m) calls
unfolding answers answers_bare
answers_forget [] m a = refl
answers_forget (c ∷ calls) m a =
    ap (λ l. forget_answer (outcome m c).answer ∷ l) (answers_forget calls (next m c) (agree_next m c a) ∙ ap (λ n. answers_bare n calls) (next_forgets m c a))
    ∙ ap (λ o. o.answer ∷ answers_bare (next_bare (bare m) c) calls) (outcome_forgets m c a)

pub no_answer_changes : NoAnswerChanges
unfolding begun begun_bare start_bare
no_answer_changes v f cells tags calls =
    let m = begun v f cells tags in
    let ends = run_forgets calls m (agree_start v f) in
    record {
      start = refl;
      same = answers_forget calls m (agree_start v f);
      registers = ap (λ n. n.state.registers) ends;
      mailboxes = ap (λ n. n.state.mailboxes) ends;
      of_cells = ap (λ n. n.cells) ends;
      of_tags = ap (λ n. n.tags) ends;
      core = ap (λ n. n.state.core) ends;
    }
