-- 0E in place. Assumes nothing.
use Prim.Native.Nat.{ℕ, ◌+◌, ◌*◌}
use mathlib.Core.Bool.{true, false, ◌||◌}
use mathlib.Core.List.{List}
use mathlib.Core.Path.{◌≡◌, refl, sym}
use lib.ListN.{set}
use Rattle.capabilities.specs.declared.refusal.Refusal.TheVariants.{Unnamed}
use Rattle.capabilities.specs.Refusals.{first}
use Rattle.capabilities.proofs.Choice.{pick_yes, pick_no}
use Rattle.capabilities.proofs.Refusals.{number_some}
use Rattle.calls.specs.declared.Call.TheVariants.{Number}
use Rattle.words.specs.Words.{slot, empty}
use Rattle.words.specs.WordReasons.{unnamed}
use Rattle.machine.specs.Reasons.{reasons}
use Rattle.machine.specs.Effects.{effect}
use Rattle.machine.specs.Step.{ruled}
use Rattle.arrays.specs.declared.Arrays.{Arrays}
use Rattle.arrays.specs.Reading.{state_of, Formed}
use Rattle.arrays.specs.Steps.{answer, leaving, left_of, with_words}
use Rattle.arrays.proofs.Ruling.{down, registered}

module _ (b : Arrays) (f : Formed b) (p d value : ℕ) (cells tags : List ℕ) where
  pub number_down : (unnamed p || unnamed d) ≡ true → leaving (answer 4 empty) b cells tags ≡ left_of (ruled (state_of b) (Number p d value) cells tags)
  unfolding reasons first
  number_down u = down b f (Number p d value) cells tags 4 (sym (pick_yes (unnamed p || unnamed d) 4 0 u)) (number_some Unnamed)

  pub number_done : (unnamed p || unnamed d) ≡ false → (words marks : List ℕ) → words ≡ set b.words (8 * p + d) value → marks ≡ set b.marks (8 * p + d) 0
      → leaving (answer 0 empty) (with_words b words marks) cells tags ≡ left_of (ruled (state_of b) (Number p d value) cells tags)
  unfolding reasons first effect
  number_done u words marks ew em =
      rw (ew, em) (registered b f (Number p d value) cells tags 0 (sym (pick_no (unnamed p || unnamed d) 4 0 u)) p d (slot value false) empty refl refl)
