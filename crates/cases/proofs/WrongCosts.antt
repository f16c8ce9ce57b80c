-- The query answers what the list of cases names, and none of the wrong ones does what it does: by one computation over each list.
use mathlib.Core.Bool.{true, false, not, true≢false}
use mathlib.Core.Path.{◌≡◌, refl, sym, ◌∙◌}
use Rattle.capabilities.specs.Lists.{same, all}
use Rattle.capabilities.proofs.Choice.{and_left}
use Rattle.capabilities.proofs.Lists.{every}
use Rattle.claims.specs.Cost.{claimants, cost_of}
use Rattle.machine.specs.Forgetting.{start_bare}
use Rattle.machine.specs.Cost.{cost_reasons, cost_by, page_cost}
use Rattle.cases.specs.Edges.{apart}
use Rattle.cases.specs.CostCases.{claimed_by, shared_by, Query, numbers, meets, cases, asked_by, counts_claims, leaves_n, divides15, pays_nobody, rounds_up, takes_page_v, takes_all, page_first, answers_alike, Wrong, queries, Answers, differs, shown, NoneAnswers}
use Rattle.machine.proofs.Computing.{computing}
use Rattle.cases.proofs.WrongMachines.{not_apart}

pub all_meet : all meets cases ≡ true
unfolding all meets cases numbers same claimed_by shared_by start_bare claimants cost_of cost_reasons cost_by page_cost computing
all_meet = refl

-- The shape with the rule's own parts is the rule.
pub asked_rule : Answers (asked_by cost_reasons claimants cost_of)
unfolding asked_by cost_by page_cost
asked_rule s n = refl

pub all_shown : all shown queries ≡ true
unfolding all shown queries differs apart numbers same asked_by counts_claims leaves_n divides15 pays_nobody rounds_up takes_page_v takes_all page_first answers_alike claimed_by shared_by start_bare claimants cost_of cost_reasons cost_by page_cost computing
all_shown = refl

-- A query that answers what the rule answers does not differ from it.
answering : (q : Query) (w : Wrong) → Answers q → differs q w ≡ false
unfolding differs
answering q w is = not_apart numbers (q w.state w.page) (page_cost w.state w.page) (is w.state w.page)

misanswers : (w : Wrong) → shown w ≡ true → Answers w.wrong → ⊥
unfolding shown
misanswers w e is = true≢false (sym (and_left (differs w.wrong w) (not (differs w.right w)) e) ∙ answering w.wrong w is)

-- No wrong query of the list answers what the rule answers.
pub none_answers : NoneAnswers queries
none_answers = every shown (λ w. Answers w.wrong → ⊥) misanswers queries all_shown
