-- Document 01, 'Why a call is turned down': "The lowest number that applies is answered". The requests since have put their numbers between
-- those of document 01, so it is the first number that applies in one order. Assumes nothing.
use Rattle.std.specs.Prelude.{ℕ, not, List, [], ◌∷◌, ◌≡◌, length}
use Rattle.capabilities.specs.Refusals.{Reason, reason, applied, first_in}
use Rattle.pages.specs.Layer.{serves}
use Rattle.calls.specs.declared.Call.{Call}
use Rattle.machine.specs.State.{State}
use Rattle.machine.specs.Formed.{well_formed}
use Rattle.machine.specs.Step.{reasons_on, step_of}

-- Document 02, 2026-02: "20, after 12 .. 21, after 20 .. 22, after 13". The numbers of a call, and then all.
abbrev pub order_of_calls : List ℕ
order_of_calls = 4 ∷ 5 ∷ 6 ∷ 7 ∷ 8 ∷ 9 ∷ 10 ∷ 11 ∷ 12 ∷ 20 ∷ 21 ∷ 13 ∷ 22 ∷ 14 ∷ 15 ∷ 16 ∷ 17 ∷ 18 ∷ 19 ∷ []

abbrev pub order : List ℕ
order = 1 ∷ 2 ∷ 3 ∷ order_of_calls

-- All reasons against a call: 1, 2, and those of its kind. (3 is of bytes that are no call.)
abbrev pub all_reasons : State → Call → List ℕ → List ℕ → List Reason
all_reasons s c cells tags =
    reason 1 (not (well_formed s)) ∷ reason 2 (not (serves s.core.pages (length cells) (length tags))) ∷ reasons_on s c cells tags

-- The code that is answered is the first number in the order of which a reason applies, or 0 if none does.
abbrev pub FirstInOrder : Type 0
FirstInOrder = (s : State) (c : Call) (cells tags : List ℕ) → (step_of s c cells tags).answer.code ≡ first_in order (λ k. applied k (all_reasons s c cells tags))
