-- The revoked range that is kept beside the arrays is the table's, and so says what dies. Assumes nothing.
use Prim.Native.Nat.{ℕ}
use mathlib.Core.Path.{◌≡◌, sym, ap, ◌∙◌}
use Rattle.capabilities.specs.declared.Range.{Range}
use Rattle.capabilities.specs.Death.{dies}
use Rattle.reservations.specs.Revocation.{revoked, dying}
use Rattle.reservations.proofs.CoreAfter.{dying_dies}
use Rattle.arrays.specs.declared.Arrays.{Arrays}
use Rattle.arrays.specs.declared.Numbers.{Numbers}
use Rattle.arrays.specs.Reading.{numbers_of, state_of, arrays_of, Formed}
use Rattle.calls_in_place.specs.Parts.{range_in, dies_in}

abbrev pub cached_range : Arrays → Range
cached_range a = range_in a.nums

module _ (b : Arrays) (f : Formed b) where
  pub revoked_cached : revoked (state_of b).core ≡ cached_range b
  unfolding arrays_of numbers_of
  revoked_cached = ap cached_range f.kept

  pub dying_cached : (cell : ℕ) → dying (state_of b).core cell ≡ dies (cached_range b) cell
  dying_cached cell = dying_dies (state_of b).core cell ∙ ap (λ (r : Range). dies r cell) revoked_cached

  -- So for small numbers that are the arrays' own.
  pub dies_cached : (n : Numbers) → b.nums ≡ n → (cell : ℕ) → dies_in n cell ≡ dying (state_of b).core cell
  dies_cached n e cell = ap (λ (o : Numbers). dies_in o cell) (sym e) ∙ sym (dying_cached cell)
