-- `entries::runs::run` meets its contract. After each turn the answers put so far are those of the definition, what is left to do is a run from the place reached, and the arrays stay well formed.
use Prim.Native.Nat.{◌-◌}
use Rattle.arrays.specs.Lent.{held, SameLists}
use Rattle.entries.proofs.Repeating.{Coming}
use Rattle.entries.proofs.runs.run.Given as goal

abbrev pub invariant-loop-at : goal.invariant-loop-at
invariant-loop-at l =
    SameLists l.machine l.initial.machine
    × Coming l.input (held l.initial.machine) l.begin l.initial.machine.cells.now l.initial.machine.tags.now l.initial.answers l.room (held l.machine) l.machine.cells.now l.machine.tags.now l.answers l.at l.done

abbrev pub decreases-loop-at : goal.decreases-loop-at
decreases-loop-at l = l.room - l.done
