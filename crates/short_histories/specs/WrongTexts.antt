-- Document 02, 2026-10: wrong programs, each the walk over the histories with one part replaced. Assumes nothing.
use Rattle.std.specs.Prelude.{ℕ, zero, suc, ◌+◌, ◌/◌, ◌%◌, Bool, true, false, not, ◌||◌, ◌≡◌, length, take, drop, eqb, ltb}
use mathlib.Core.List.{List, [], ◌∷◌, ◌++◌, map, flatten, reverse}
use Rattle.capabilities.specs.Lists.{pick, Every, filter, same}
use Rattle.calls.specs.declared.Call.{Call}
use Rattle.calls.specs.declared.Call.TheVariants.{Take, TakeMasked}
use Rattle.session_rules.specs.Session.{zeroed}
use Rattle.machine.specs.Step.{Outcome, is_granted}
use Rattle.histories.specs.Runs.{Machine, begun}
use Rattle.short_histories.specs.Listed.{listed}
use Rattle.short_histories.specs.Text.{bytes_in, digit, line_of}
use Rattle.short_histories.specs.Histories.{fresh_one, counts, text}
use Rattle.short_histories.specs.Found.{by_rules, found_by, text_by, found, as_they_are, right_text}

-- ---- The parts
abbrev pub by_commands : List Call → List ℕ
by_commands commands = text_by (λ n. found_by commands by_rules is_granted n fresh_one) counts as_they_are line_of

abbrev pub by_going : (Outcome → Bool) → List ℕ
by_going goes = text_by (λ n. found_by listed by_rules goes n fresh_one) counts as_they_are line_of

abbrev pub by_start : Machine → List ℕ
by_start m = text_by (λ n. found_by listed by_rules is_granted n m) counts as_they_are line_of

abbrev pub by_numbers : List ℕ → List ℕ
by_numbers ns = text_by found ns as_they_are line_of

abbrev pub by_arrangement : (List (List Call) → List (List Call)) → List ℕ
by_arrangement arrange = text_by found counts arrange line_of

abbrev pub by_line : (List Call → List ℕ) → List ℕ
by_line line = text_by found counts as_they_are line

-- Each command tried on the fresh start, and not in its turn.
unfoldable pub afresh : Machine → Call → Outcome
afresh m c = record { answer = (by_rules fresh_one c).answer; cells = m.cells; tags = m.tags }

-- By the length of the line, the shortest first.
unfoldable pub up_to : ℕ → List ℕ
up_to zero = 0 ∷ []
up_to (suc n) = up_to n ++ (suc n ∷ [])

unfoldable pub by_length : List (List Call) → List (List Call)
by_length hs = flatten (map (λ n. filter (λ h. eqb (length (bytes_in h)) n) hs) (up_to 18))

-- A line by what each byte and its end are; one that is left out for the empty history.
unfoldable pub line_by : (ℕ → List ℕ) → List ℕ → List Call → List ℕ
line_by byte end h = flatten (map byte (bytes_in h)) ++ end

abbrev pub lower_case : ℕ → ℕ
lower_case n = pick (ltb n 10) (48 + n) (87 + n)

unfoldable pub skips_empty : List Call → List ℕ
skips_empty h = pick (eqb (length h) 0) [] (line_of h)

-- ---- The list
unfoldable pub wrong_texts : List (List ℕ)
wrong_texts =
    -- It skips a command: the first, the fifth, the last that is granted.
    by_commands (drop 1 listed)
    ∷ by_commands (take 4 listed ++ drop 5 listed)
    ∷ by_commands (take 38 listed ++ drop 39 listed)
    -- It has one more: 11, or register 1.
    ∷ by_commands (listed ++ (TakeMasked 0 0 0 3 ∷ []))
    ∷ by_commands (Take 0 0 1 ∷ listed)
    -- It tries them from the last on, or one twice.
    ∷ by_commands (reverse listed)
    ∷ by_commands (take 1 listed ++ listed)
    -- It lists a refused one: by 5, by 6 or 11, or whatever is refused.
    ∷ by_going (λ o. eqb o.answer.code 0 || eqb o.answer.code 5)
    ∷ by_going (λ o. eqb o.answer.code 0 || eqb o.answer.code 6)
    ∷ by_going (λ o. eqb o.answer.code 0 || eqb o.answer.code 11)
    ∷ by_going (λ o. true)
    -- It lists nothing but the empty one.
    ∷ by_going (λ o. false)
    -- It tries each on the fresh start.
    ∷ text_by (λ n. found_by listed afresh is_granted n fresh_one) counts as_they_are line_of
    -- It starts with V 2, or with F 2.
    ∷ by_start (begun 2 1 (zeroed 1) (zeroed 1))
    ∷ by_start (begun 1 2 (zeroed 2) (zeroed 2))
    -- It forgets the empty one, or those of three; it goes on to four; longer ones come first.
    ∷ by_numbers (1 ∷ 2 ∷ 3 ∷ [])
    ∷ by_numbers (0 ∷ 1 ∷ 2 ∷ [])
    ∷ by_numbers (0 ∷ 1 ∷ 2 ∷ 3 ∷ 4 ∷ [])
    ∷ by_numbers (3 ∷ 2 ∷ 1 ∷ 0 ∷ [])
    -- It orders by the length of the line, or from the last to the first.
    ∷ by_arrangement by_length
    ∷ by_arrangement reverse
    -- Its lines are in lower case, or have the low digit first, spaces, no end, two bytes as an end, none for the empty one.
    ∷ by_line (line_by (λ b. lower_case (b / 16) ∷ lower_case (b % 16) ∷ []) (10 ∷ []))
    ∷ by_line (line_by (λ b. digit (b % 16) ∷ digit (b / 16) ∷ []) (10 ∷ []))
    ∷ by_line (line_by (λ b. digit (b / 16) ∷ digit (b % 16) ∷ 32 ∷ []) (10 ∷ []))
    ∷ by_line (line_by (λ b. digit (b / 16) ∷ digit (b % 16) ∷ []) [])
    ∷ by_line (line_by (λ b. digit (b / 16) ∷ digit (b % 16) ∷ []) (13 ∷ 10 ∷ []))
    ∷ by_line skips_empty
    ∷ []

-- It is another text than the walk's.
unfoldable pub differs : List ℕ → Bool
differs wrong = not (same wrong right_text)

-- None of them is the text.
abbrev pub NoneIsText : List (List ℕ) → Type 0
NoneIsText = Every (λ wrong. wrong ≡ text → ⊥)
