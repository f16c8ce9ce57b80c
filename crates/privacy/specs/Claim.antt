-- Document 01, 'The privacy rule': "Demand 3 is a single claim about two whole lists of calls .. and not one for each call."
-- The claim as a type; its proof is a value of that type. Assumes nothing.
use Rattle.std.specs.Prelude.{ℕ, true, List, ◌∷◌, ◌++◌, ◌≡◌}
use Rattle.table.specs.Rows.{live}
use Rattle.maps.specs.declared.Question.{Question}
use Rattle.maps.specs.Questions.{ask_of}
use Rattle.calls.specs.declared.Call.{Call}
use Rattle.machine.specs.Roles.{IsTake}
use Rattle.machine.specs.Cost.{page_cost}
use Rattle.histories.specs.Runs.{Machine, next, run, begun, Begins, granted}
use Rattle.privacy.specs.Rule.{Time, lasting, taken_range, time_after, left, discreet, heard, Alike}

-- "Both lists begin with the same granted start and equal lent memory of 16 × F cells and tags." From it on, `before` is the
-- part of a list before the take. Nothing is struck there, and the take is "the same call in both lists", so `before` is the
-- same in both. The take is of either kind.
module _ (v f : ℕ) (cells tags : List ℕ) (before : List Call) (take : Call) (house base reg permissions : ℕ) where
  abbrev pub start : Machine
  start = begun v f cells tags

  -- What the take gets, and what it leaves.
  abbrev pub at_take : Machine
  at_take = run start before

  abbrev pub after_take : Machine
  after_take = next at_take take

  -- The house's time as it begins.
  abbrev pub time : Time
  time = lasting (taken_range at_take.state.core.table house base)

  -- A whole list.
  abbrev pub whole : List Call → List Call
  whole after = before ++ (take ∷ after)

  -- What two lists of calls, of which the house's take is granted, have to meet.
  pub record Within (after₁ after₂ : List Call) : Type 0 where
    pub begins : Begins v f cells tags
    pub takes : IsTake take house base reg permissions
    pub took : granted at_take take ≡ true
    -- "What is left is the same calls with the same operands in the same order, and each of the house's among them reads equal registers."
    pub same : left house time after_take after₁ ≡ left house time after_take after₂
    -- "In its time no granted one of these grants a capability into the range or stores one to a cell outside."
    pub discreet₁ : discreet house time after_take after₁ ≡ true
    pub discreet₂ : discreet house time after_take after₂ ≡ true

  -- What is concluded: the others have heard the same; the collect came in both lists or in neither; and the others have and see the same.
  pub record Unnoticed (after₁ after₂ : List Call) : Type 0 where
    pub answers : heard house start (whole after₁) ≡ heard house start (whole after₂)
    pub ended : time_after time after_take after₁ ≡ time_after time after_take after₂
    pub alike : Alike house (time_after time after_take after₁) (run start (whole after₁)) (run start (whole after₂))

  -- Document 02, 2026-11: after both lists every page costs the same.
  abbrev pub CostsAlike : List Call → List Call → Type 0
  CostsAlike after₁ after₂ = (n : ℕ) → page_cost (run start (whole after₁)).state n ≡ page_cost (run start (whole after₂)).state n

  -- Document 02, 2026-07: after both lists every question about the table's reservations has the same answer and leaves the same bases.
  abbrev pub MapsAlike : List Call → List Call → Type 0
  MapsAlike after₁ after₂ =
      (q : Question) (bases : List ℕ)
      → ask_of (live (run start (whole after₁)).state.core.table) q bases ≡ ask_of (live (run start (whole after₂)).state.core.table) q bases

-- The cores are equal: the table with its holders and takers, pages and frames, the claims, and the place of the sweep.
abbrev pub CoresUnnoticed : Type 0
CoresUnnoticed =
    (v f : ℕ) (cells tags : List ℕ) (before : List Call) (take : Call) (house base reg permissions : ℕ) (after₁ after₂ : List Call)
    → Within v f cells tags before take house base reg permissions after₁ after₂
    → (run (begun v f cells tags) (before ++ take ∷ after₁)).state.core ≡ (run (begun v f cells tags) (before ++ take ∷ after₂)).state.core

-- Demand 3: whatever a house keeps in a range it took, no history lets others notice it.
abbrev pub Privacy : Type 0
Privacy =
    (v f : ℕ) (cells tags : List ℕ) (before : List Call) (take : Call) (house base reg permissions : ℕ) (after₁ after₂ : List Call)
    → Within v f cells tags before take house base reg permissions after₁ after₂
    → Unnoticed v f cells tags before take house base reg permissions after₁ after₂

-- It speaks of calls. What is asked of a state, and told to the houses on a bill, gives nothing away either.
abbrev pub CostsUnnoticed : Type 0
CostsUnnoticed =
    (v f : ℕ) (cells tags : List ℕ) (before : List Call) (take : Call) (house base reg permissions : ℕ) (after₁ after₂ : List Call)
    → Within v f cells tags before take house base reg permissions after₁ after₂
    → CostsAlike v f cells tags before take house base reg permissions after₁ after₂

abbrev pub MapsUnnoticed : Type 0
MapsUnnoticed =
    (v f : ℕ) (cells tags : List ℕ) (before : List Call) (take : Call) (house base reg permissions : ℕ) (after₁ after₂ : List Call)
    → Within v f cells tags before take house base reg permissions after₁ after₂
    → MapsAlike v f cells tags before take house base reg permissions after₁ after₂
