-- `short_histories::walk::put_all` meets its contract. After n turns the lines of the histories of fewer than n commands stand there.
use Rattle.short_histories.specs.Histories.{counts}
use Rattle.short_histories.proofs.Walking.{from_start}
use Rattle.short_histories.proofs.Putting.{Parts}
use Rattle.short_histories.proofs.walk.put_all.Given as goal

abbrev pub invariant-loop-count : goal.invariant-loop-count
invariant-loop-count l = Parts from_start counts 0 l.initial.out l.count l.end l.out
