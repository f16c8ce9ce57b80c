-- `short_histories::walk::extend` calls itself with one command less to come, so it ends. After k turns the lines that go on from the
-- first k listed commands stand there.
use Rattle.short_histories.specs.Listed.{listed}
use Rattle.short_histories.proofs.Extending.{part_of}
use Rattle.short_histories.proofs.Putting.{Parts}
use Rattle.short_histories.proofs.walk.+extend.Given as goal

abbrev pub decreases-extend : goal.decreases-extend
decreases-extend l = l.more

abbrev pub invariant-loop-k : goal.invariant-loop-k
invariant-loop-k l = Parts (part_of l.more l.history l.machine.state.arrays l.machine.cells l.machine.tags) listed l.at l.initial.out l.k l.end l.out
