-- `entries::runs::put_answer` meets its contract.
use native.Mathlib.Omega.{arith}
use Rattle.entries.proofs.Repeating.{laid_copied}
use Rattle.entries.proofs.runs.put_answer.Goals as goal

pub returns : goal.returns
returns c = rw (c.copy_from_slice.ensures.after, c.numbers.ensures) (laid_copied _ c.args.answers.now c.args.place _ _ (omega arith) (omega arith) c.requires)
