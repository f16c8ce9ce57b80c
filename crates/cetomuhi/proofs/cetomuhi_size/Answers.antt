-- `cetomuhi::cetomuhi_size` meets its contract. The table is the definition's.
use mathlib.Core.List.{[], ◌∷◌}
use mathlib.Core.Path.{refl, sym}
use lib.ListN.{get_or-eq_default}
use Rattle.cetomuhi.specs.Exports.{size_of}
use Rattle.cetomuhi.proofs.cetomuhi_size.Goals as goal

pub returns-then-which-lt12 : goal.returns-then-which-lt12
unfolding size_of
returns-then-which-lt12 c = refl

pub returns : goal.returns
unfolding size_of
returns c = sym (get_or-eq_default (6 ∷ 64 ∷ 64 ∷ 8 ∷ 8 ∷ 64 ∷ 256 ∷ 128 ∷ 32 ∷ 8192 ∷ 4 ∷ 7 ∷ []) 0 c.if-which-lt12.false)
