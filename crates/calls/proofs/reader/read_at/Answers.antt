-- Past the end nothing is left of the input.
use native.Mathlib.Omega.{arith}
use Rattle.calls.proofs.Inputs.{nothing_left}
use Rattle.calls.proofs.reader.read_at.Goals as goal

pub returns-in_err-get : goal.returns-in_err-get
returns-in_err-get c = rw c.from_residual.ensures (nothing_left c.args.input.now (omega (arith, c.in_err-get.ensures.lookup.0)))
