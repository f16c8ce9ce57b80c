-- `entries::by_value::zeros` meets its contract.
use mathlib.Core.Path.{refl}
use Rattle.entries.proofs.by_value.zeros.Goals as goal

pub returns : goal.returns
returns c = let d = c.default.ensures in rw (d.0, d.1.0, d.1.1.0, d.1.1.1.0, d.1.1.1.1.0, d.1.1.1.1.1) refl
