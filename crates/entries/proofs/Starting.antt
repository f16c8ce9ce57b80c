-- A start by value is one in place over arrays of zeros. Assumes nothing.
use Prim.Native.Nat.{ℕ}
use mathlib.Core.Path.{◌≡◌, ap, ◌∙◌}
use lib.ListN.{replicate}
use Rattle.capabilities.proofs.Choice.{pick_yes}
use Rattle.words.specs.Words.{empty}
use Rattle.machine.specs.Formed.{start_of}
use Rattle.arrays.specs.declared.Arrays.{Arrays}
use Rattle.arrays.specs.Reading.{arrays_of}
use Rattle.arrays.specs.Steps.{answer}
use Rattle.arrays.proofs.Starting.{begun}
use Rattle.formed.specs.Test.{sized}
use Rattle.formed.specs.Fresh.{Start, starting, start_in}
use Rattle.entries.specs.ByValue.{beginning, start_on}

-- Arrays of zeros.
abbrev pub nothing : Arrays
nothing = begun 0 0 0 (replicate 64 0) (replicate 32 0)

pub started : (v f code : ℕ) (a b : Arrays) → b ≡ nothing → starting code a ≡ start_in v f b → beginning (answer code empty) a ≡ start_on v f
unfolding start_on start_in
started v f code a b z e =
    ap (λ (s : Start). beginning (answer s.code empty) s.arrays)
    (e ∙ pick_yes (sized b) (starting (start_of v f).code (arrays_of (start_of v f).state)) (starting 1 b) (ap sized z))
