-- `short_histories::walk::list` meets its contract: the text is as long as the code's constant says, so it fits where that does.
use native.Mathlib.Omega.{arith}
use lib.ListN.{length}
use Rattle.session_rules.proofs.Sessions.{print_fits, print_not}
use Rattle.short_histories.specs.Histories.{text}
use Rattle.short_histories.proofs.Computed.{text_length}
use Rattle.short_histories.proofs.walk.list.Goals as goal

pub returns-then-out-lt-LENGTH : goal.returns-then-out-lt-LENGTH
returns-then-out-lt-LENGTH c = print_not text c.args.out.now (length text) (omega arith) (omega (arith, text_length, c.if-out-lt-LENGTH.true))

pub put_all-requires : goal.put_all-requires
put_all-requires c = omega (arith, text_length, c.if-out-lt-LENGTH.false)

pub shape_of-out : goal.shape_of-out
shape_of-out c = c.put_all.ensures.size

pub returns : goal.returns
returns c =
    print_fits text c.args.out.now c.put_all.result c.put_all.new.out c.put_all.ensures
    (omega (arith, text_length, c.put_all.ensures.ends, c.if-out-lt-LENGTH.false))
