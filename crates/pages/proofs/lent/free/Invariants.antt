use Rattle.std.proofs.Common.{◌≡◌, ◌++◌, take, drop, map}
use Rattle.pages.proofs.Parts.{freed_code}
use Rattle.pages.proofs.lent.free.Given as goal

abbrev pub invariant-loop-number : goal.invariant-loop-number
invariant-loop-number l = l.number-items ≡ map freed_code (take l.number-index l.initial.number-items) ++ drop l.number-index l.initial.number-items
