-- How many short histories there are of each number of commands, and how long their text is: by computing, on the rules alone and only
-- from where a granted call led. Assumes nothing.
use Prim.Native.Nat.{ℕ}
use native.Mathlib.Omega.{arith}
use mathlib.Core.Bool.{true}
use mathlib.Core.List.{List, [], ◌∷◌, ◌++◌, map, flatten, append-nil}
use mathlib.Core.Path.{◌≡◌, refl, sym, ◌∙◌, ap}
use lib.ListN.{length, drop, drop_of_length-le}
use lib.Dec.{leb}
use borrow.Author.Tests.{le-leb}
use Rattle.capabilities.specs.Lists.{pick, filter}
use Rattle.capabilities.proofs.Flatten.{map_same}
use Rattle.machine.proofs.Computing.{computing}
use Rattle.session_rules.specs.Session.{printed, print_of}
use Rattle.histories.specs.Runs.{begun}
use Rattle.short_histories.specs.Listed.{choices, operands, listed}
use Rattle.short_histories.specs.Text.{bytes_in, digit, digits, hex_line, line_of}
use Rattle.short_histories.specs.Histories.{fresh_one, grants_all, sequences, counts, histories, text}
use Rattle.short_histories.specs.Found.{by_rules, found_by, found}
use Rattle.short_histories.proofs.Continuing.{continued_all, continued_ruled, histories_continued, fresh_standing}

-- What the histories compute with, named once.
unfoldable pub computing_histories : ℕ
unfolding found_by by_rules found fresh_one choices operands listed bytes_in digit digits hex_line line_of begun flatten computing
computing_histories = 0

pub found_all : (n : ℕ) → filter (grants_all fresh_one) (sequences n) ≡ found n
unfolding found
found_all n = sym (continued_all n fresh_one) ∙ continued_ruled n fresh_one 1 1 fresh_standing

pub histories_found : histories ≡ flatten (map found counts)
unfolding found
histories_found = histories_continued ∙ ap flatten (map_same _ found counts (λ n. continued_ruled n fresh_one 1 1 fresh_standing))

-- So many of 0, 1, 2 and 3 commands.
found_counts : map (λ n. length (found n)) counts ≡ 1 ∷ 6 ∷ 30 ∷ 150 ∷ []
unfolding computing_histories
found_counts = refl

pub history_counts : map (λ n. length (filter (grants_all fresh_one) (sequences n))) counts ≡ 1 ∷ 6 ∷ 30 ∷ 150 ∷ []
history_counts = map_same _ _ counts (λ n. ap length (found_all n)) ∙ found_counts

found_length : length (flatten (map line_of (flatten (map found counts)))) ≡ 5043
unfolding computing_histories
found_length = refl

pub text_length : length text ≡ 5043
unfolding text
text_length = ap (λ hs. length (flatten (map line_of hs))) histories_found ∙ found_length

-- A buffer of just that length holds the text and nothing else.
pub fills : (out : List ℕ) (n : ℕ) (after : List ℕ) → length out ≡ 5043 → printed n after ≡ print_of text out → after ≡ text
unfolding print_of
fills out n after long e =
    ap (λ p. p.buffer) (e ∙ ap (λ b. pick b (printed (length text) (text ++ drop (length text) out)) (printed 0 out)) fits)
    ∙ ap (λ l. text ++ l) (drop_of_length-le out {i = length text} (omega (arith, long, text_length))) ∙ append-nil text
  where
    fits : leb (length text) (length out) ≡ true
    fits = le-leb (length text) (length out) (omega (arith, long, text_length))
