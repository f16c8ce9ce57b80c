-- `short_histories::lines` meets its contract: the lines fill the buffer.
use Prim.Native.Nat.{ℕ}
use lib.ListN.{replicate, length-replicate}
use Rattle.short_histories.proofs.Computed.{fills}
use Rattle.short_histories.proofs.lines.Goals as goal

pub returns : goal.returns
returns c = fills (replicate 5043 0) c.list.result c.list.new.out (length-replicate {A = ℕ} 5043 0) c.list.ensures
