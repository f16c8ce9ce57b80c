-- `printing::session::looked_at` meets its contract.
use native.Mathlib.Nat.{min_comm}
use mathlib.Core.Path.{sym, ◌∙◌}
use lib.ListN.{length}
use Rattle.std.proofs.lemmas.List.{length-take}
use Rattle.printing.proofs.session.looked_at.Goals as goal

pub returns-clause-value : goal.returns-clause-value
returns-clause-value c = c.min.ensures ∙ min_comm (length c.args.input.now) 32768 ∙ sym (length-take 32768 c.args.input.now)
