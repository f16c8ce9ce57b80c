-- `maps::walk::ask_of` meets its contract: what its calls come to, one after the other, is maps:Asking.asked of the records. Where the
-- question is refused, none is listed from.
use Rattle.std.proofs.Common.{map, length, Ok, Err, sym, ap, ◌∙◌}
use Rattle.std.proofs.lemmas.Result.{err_from_is_err_and}
use lib.ListN.{length-map}
use Rattle.maps.specs.Walks.{judge_with, listing, list_over}
use Rattle.maps.proofs.Asking.{listed_from, result_with, asked}
use Rattle.maps.proofs.walk.ask_of.Goals as goal

pub returns-in_err-judge_with : goal.returns-in_err-judge_with
returns-in_err-judge_with g c =
    let a = c.args in
    let reads = g.R.Record.reads in
    let records = map reads a.records.now in
    let seen = c.survey-seen in
    let judge = c.judge_with in
    let refused = sym c.in_err-judge_with.was in
    let p = err_from_is_err_and c.from_residual.result c.from_residual.ensures.1 in
    rw (p.1, p.2)
    (asked records a.question a.bases.now seen.result judge.result seen.ensures
    (judge.ensures ∙ ap (λ n. judge_with a.question seen.result.end n (length a.bases.now)) (sym (length-map a.records.now reads))) 0 a.bases.now (Err c.in_err-judge_with.field-0.0)
    (ap (λ j. list_over a.question (listing 0 a.bases.now) (listed_from j records)) refused) (ap (λ j. result_with j seen.result 0) refused))

pub returns : goal.returns
returns g c =
    let a = c.args in
    let reads = g.R.Record.reads in
    let records = map reads a.records.now in
    let seen = c.survey-seen in
    let judge = c.judge_with in
    let granted = sym c.in_ok-judge_with.was in
    let list = c.list-count in
    asked records a.question a.bases.now seen.result judge.result seen.ensures
    (judge.ensures ∙ ap (λ n. judge_with a.question seen.result.end n (length a.bases.now)) (sym (length-map a.records.now reads))) list.result list.new.bases (Ok c.answer_with.result)
    (list.ensures ∙ ap (λ j. list_over a.question (listing 0 a.bases.now) (listed_from j records)) granted)
    (ap Ok c.answer_with.ensures ∙ ap (λ j. result_with j seen.result list.result) granted)
