-- What is tested before a call, on any arrays and lent memory. Assumes nothing.
use Rattle.std.specs.Prelude.{ℕ, true, false, ◌&&◌, List, ◌≡◌, Result}
use Rattle.std.specs.Result.{MatchResult}
use Rattle.capabilities.specs.declared.refusal.Refusal.{Refusal}
use Rattle.capabilities.specs.Lists.{pick}
use Rattle.capabilities.specs.Refusals.{number_of}
use Rattle.arrays.specs.declared.Arrays.{Arrays}
use Rattle.arrays.specs.Lent.{fits}
use Rattle.formed.specs.Test.{formed_of}

-- The state is well formed and the memory of its size; else refusal 1, or 2 where the state is well formed.
abbrev pub Fit : {A : Type 0} → Result A Refusal → Arrays → List ℕ → List ℕ → Type 0
Fit r a cells tags =
    MatchResult r (λ x. (formed_of a ≡ true) × (fits a cells tags ≡ true))
    (λ e. (formed_of a && fits a cells tags ≡ false) × (number_of e ≡ pick (formed_of a) 2 1))
