-- `maps::records::nearest` meets its contract: no list is walked (maps:Asking.asked_nearest).
use Rattle.std.proofs.Common.{[], ap, ◌∙◌}
use Rattle.std.proofs.lemmas.List.{map-id}
use Rattle.std.proofs.lemmas.Result.{err_from_is_err_and}
use Rattle.maps.specs.declared.Question.TheVariants.{Nearest}
use Rattle.maps.specs.Walks.{nothing, seen_over}
use Rattle.maps.proofs.Asking.{asked_refused, asked_nearest}
use Rattle.maps.proofs.records.nearest.Goals as goal

pub returns-in_err-judge_with : goal.returns-in_err-judge_with
returns-in_err-judge_with c =
    let a = c.args in
    let seen = c.survey-seen in
    let judge = c.judge_with in
    let p = err_from_is_err_and c.from_residual.result c.from_residual.ensures.1 in
    rw (p.1, p.2)
    (asked_refused a.records.now (Nearest a.cell a.cells) [] seen.result judge.result (seen.ensures ∙ ap (seen_over (Nearest a.cell a.cells) nothing) (map-id a.records.now)) judge.ensures
    c.in_err-judge_with.field-0.0 c.in_err-judge_with.was)

pub returns : goal.returns
returns c =
    let a = c.args in
    let seen = c.survey-seen in
    let judge = c.judge_with in
    asked_nearest a.records.now a.cell a.cells seen.result judge.result c.in_ok-judge_with.field-0 c.base_of.result (seen.ensures ∙ ap (seen_over (Nearest a.cell a.cells) nothing) (map-id a.records.now))
    judge.ensures c.in_ok-judge_with.was c.base_of.ensures
