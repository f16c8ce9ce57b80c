-- Document 02, 2026-10: "every sequence of 0 to 3 commands, each granted in its turn from the fresh start", "For V 1 and F 1", and their
-- text. Assumes nothing.
use Rattle.std.specs.Prelude.{ℕ, Bool, true, ◌&&◌, replicate}
use mathlib.Core.List.{List, [], ◌∷◌, map, flatten}
use Rattle.capabilities.specs.Lists.{filter}
use Rattle.calls.specs.declared.Call.{Call}
use Rattle.session_rules.specs.Session.{zeroed}
use Rattle.histories.specs.Runs.{Machine, granted, next, begun}
use Rattle.short_histories.specs.Listed.{choices, listed}
use Rattle.short_histories.specs.Text.{line_of}

-- The fresh start for V 1 and F 1, over zeroed memory.
unfoldable pub fresh_one : Machine
fresh_one = begun 1 1 (zeroed 1) (zeroed 1)

-- Each of some calls is granted, in its turn.
unfoldable pub grants_all : Machine → List Call → Bool
grants_all m [] = true
grants_all m (c ∷ calls) = granted m c && grants_all (next m c) calls

-- Every sequence of n listed commands.
unfoldable pub sequences : ℕ → List (List Call)
sequences n = choices (replicate n listed)

-- "0 to 3 commands", "Shorter sequences come first".
abbrev pub counts : List ℕ
counts = 0 ∷ 1 ∷ 2 ∷ 3 ∷ []

-- All short histories.
unfoldable pub histories : List (List Call)
histories = filter (grants_all fresh_one) (flatten (map sequences counts))

-- Their lines, one after the other.
unfoldable pub text : List ℕ
text = flatten (map line_of histories)
