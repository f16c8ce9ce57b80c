-- `cetomuhi::cetomuhi_well_formed` meets its contract. The test of the arrays, with the small numbers that were read.
use mathlib.Core.Path.{ap, ◌∙◌}
use Rattle.arrays.specs.declared.Numbers.{Numbers}
use Rattle.arrays.specs.Reading.{arrays}
use Rattle.formed.specs.Test.{formed_of}
use Rattle.cetomuhi.specs.Exports.{formed_lent}
use Rattle.cetomuhi.proofs.cetomuhi_well_formed.Goals as goal

pub returns : goal.returns
unfolding formed_lent
returns c =
    let a = c.args in
    c.formed.ensures ∙ ap (λ (n : Numbers). formed_of (arrays n a.words.now a.marks.now a.mail.now a.flags.now a.rows.now a.pages.now a.frames.now a.principals.now a.counts.now)) c.numbers_from.ensures.value
