-- `cetomuhi::questions::put_list` meets its contract: by whether it is granted.
use Rattle.std.specs.Option.{unwrap_or}
use mathlib.Core.Path.{refl}
use Rattle.capabilities.specs.Refusals.{number_of}
use Rattle.capabilities.proofs.Refusals.{number_some}
use Rattle.maps.specs.Questions.{answer}
use Rattle.cetomuhi.proofs.Putting.{list_granted, list_refused}
use Rattle.cetomuhi.proofs.questions.put_list.Goals as goal

pub returns-in-Ok : goal.returns-in-Ok
returns-in-Ok c =
    let a = c.args in
    let f = c.in-Ok.found in
    list_granted a.rows.now a.question a.count.now a.bases.now (answer 0 f.count (unwrap_or f.nearest 0)) c.ask_numbers.new.bases c.in-Ok.ensures refl

pub returns-in-Err : goal.returns-in-Err
returns-in-Err c =
    let a = c.args in
    let r = c.in-Err.refusal in
    rw c.number.ensures (list_refused a.rows.now a.question a.count.now a.bases.now (answer (number_of r) 0 0) c.ask_numbers.new.bases c.in-Err.ensures (number_some r))
