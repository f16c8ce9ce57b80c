-- `entries::State::start` meets its contract. It is a start in place, over arrays of zeros.
use Rattle.entries.proofs.Starting.{started}
use Rattle.entries.proofs.State.start.Goals as goal

pub returns : goal.returns
returns c =
    rw c.from-answer.ensures (started c.args.v c.args.f _ _ c.zeros-arrays.result c.zeros-arrays.ensures c.start_in-started.ensures.start)
