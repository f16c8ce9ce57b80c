-- The histories, found step by step, in parts: where a call is refused, nothing that begins so is tried. Computations go this way, and
-- wrong programs have one part replaced. Assumes nothing.
use Rattle.std.specs.Prelude.{ℕ, zero, suc, Bool}
use mathlib.Core.List.{List, [], ◌∷◌, map, flatten}
use Rattle.capabilities.specs.Lists.{pick}
use Rattle.calls.specs.declared.Call.{Call}
use Rattle.machine.specs.Step.{Outcome, ruled, is_granted}
use Rattle.histories.specs.Runs.{Machine, machine}
use Rattle.short_histories.specs.Listed.{listed}
use Rattle.short_histories.specs.Text.{line_of}
use Rattle.short_histories.specs.Histories.{fresh_one, counts}

-- What a call leaves, by refusals from 4 on: in a state that a start leads to 1 and 2 do not come up.
unfoldable pub by_rules : Machine → Call → Outcome
by_rules m c = ruled m.state c m.cells m.tags

-- The histories of n commands from a state on: which commands are tried, what each leaves, and after which outcome it goes on.
unfoldable pub found_by : List Call → (Machine → Call → Outcome) → (Outcome → Bool) → ℕ → Machine → List (List Call)
found_by commands by goes zero m = [] ∷ []
found_by commands by goes (suc n) m =
    flatten
    (map
    (λ c.
    let o = by m c in
    pick (goes o) (map (λ h. c ∷ h) (found_by commands by goes n (machine o.answer.state o.cells o.tags))) [])
    commands)

-- The text: by those of each number of commands, the numbers, the arrangement, and the line of each.
unfoldable pub text_by : (ℕ → List (List Call)) → List ℕ → (List (List Call) → List (List Call)) → (List Call → List ℕ) → List ℕ
text_by of ns arrange line = flatten (map line (arrange (flatten (map of ns))))

unfoldable pub found : ℕ → List (List Call)
found n = found_by listed by_rules is_granted n fresh_one

abbrev pub as_they_are : List (List Call) → List (List Call)
as_they_are hs = hs

unfoldable pub right_text : List ℕ
right_text = text_by found counts as_they_are line_of
