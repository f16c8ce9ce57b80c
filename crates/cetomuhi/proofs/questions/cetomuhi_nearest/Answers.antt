-- `cetomuhi::questions::cetomuhi_nearest` meets its contract: by whether it is granted.
use Rattle.std.specs.Prelude.{[]}
use Rattle.std.specs.Option.{unwrap_or}
use mathlib.Core.Path.{refl}
use Rattle.capabilities.specs.Refusals.{number_of}
use Rattle.capabilities.proofs.Refusals.{number_some}
use Rattle.maps.specs.Questions.{answer}
use Rattle.cetomuhi.proofs.Putting.{nearest_granted, nearest_refused}
use Rattle.cetomuhi.proofs.questions.cetomuhi_nearest.Goals as goal

pub returns-in-Ok : goal.returns-in-Ok
returns-in-Ok c =
    let a = c.args in
    let n = c.in-Ok.nearest in
    rw c.unwrap_or.ensures (nearest_granted a.rows.now a.cell a.cells a.found.now a.base.now [] (answer 0 n.count (unwrap_or n.nearest 0)) c.ask_numbers.new.bases c.in-Ok.ensures refl)

pub returns-in-Err : goal.returns-in-Err
returns-in-Err c =
    let a = c.args in
    let r = c.in-Err.refusal in
    rw c.number.ensures (nearest_refused a.rows.now a.cell a.cells a.found.now a.base.now [] (answer (number_of r) 0 0) c.ask_numbers.new.bases c.in-Err.ensures (number_some r))
