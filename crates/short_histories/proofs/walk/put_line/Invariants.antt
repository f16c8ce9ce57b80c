-- `short_histories::walk::put_line` meets its contract. After i turns the digits of the first i bytes stand there.
use Rattle.short_histories.proofs.Putting.{Spelt}
use Rattle.short_histories.proofs.walk.put_line.Given as goal

abbrev pub invariant-loop-byte : goal.invariant-loop-byte
invariant-loop-byte l = Spelt l.bytes l.at l.initial.out l.byte-index l.end l.out
