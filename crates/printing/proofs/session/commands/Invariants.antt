-- `printing::session::commands` meets its contract. After each turn the lines put so far are those of the definition up to the place reached, and the arrays stay well formed.
use Prim.Native.Nat.{◌-◌}
use lib.ListN.{length}
use Rattle.arrays.specs.Lent.{held, SameLists}
use Rattle.printing.proofs.Arriving.{Arriving}
use Rattle.printing.proofs.session.commands.Given as goal

abbrev pub invariant-loop-at : goal.invariant-loop-at
invariant-loop-at g l =
    SameLists l.machine l.initial.machine
    × Arriving l.input (held l.initial.machine) l.initial.machine.cells.now l.initial.machine.tags.now l.initial.out l.begin (held l.machine) l.machine.cells.now l.machine.tags.now l.out l.at l.end

abbrev pub decreases-loop-at : goal.decreases-loop-at
decreases-loop-at g l = length l.input - l.at
