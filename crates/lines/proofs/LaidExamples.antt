-- A line that is cut off at the buffer's end, by computing: `lines:Laid.Laid`, which speaks of what fits, holds of it, and
-- `lines:Laid.laid_in` keeps the buffer. Assumes nothing.
use Prim.Native.Nat.{ℕ}
use native.Mathlib.Omega.{arith}
use mathlib.Core.Bool.{false}
use mathlib.Core.List.{List, [], ◌∷◌}
use mathlib.Core.Path.{◌≡◌, refl}
use lib.ListN.{length}
use Rattle.lines.specs.Lines.{digits, decimal, line_of}
use Rattle.lines.specs.Laid.{Laid, laid_in}

abbrev short : List ℕ
short = 7 ∷ 7 ∷ 7 ∷ []

abbrev cut : List ℕ
cut = 48 ∷ 32 ∷ 48 ∷ []

six : length (line_of 0 0 false) ≡ 6
unfolding line_of decimal digits
six = refl

pub cut_laid : Laid (line_of 0 0 false) 0 short 6 cut
cut_laid = record { ends = omega (arith, six); size = refl; fits = λ h. let z : ⊥ = omega (arith, six) in absurd z }

pub cut_kept : laid_in (line_of 0 0 false) 0 short ≡ short
unfolding line_of decimal digits laid_in
cut_kept = refl
