-- `calls::kinds_read::call_of` meets its contract: merge's arm, for which the search has too many ways.
use Rattle.std.proofs.Common.{rules}
use Rattle.calls.proofs.kinds_read.call_of.Goals as goal

pub returns-in-len4-up : goal.returns-in-len4-up
returns-in-len4-up c = rw c.in-3.is (search rules)
