-- "Nothing is missing and nothing comes twice", and the order. `crates/short_histories/proofs` has the proofs, under the same names in
-- small letters. Assumes nothing.
use Rattle.std.specs.Prelude.{ℕ, ◌<◌, ◌≤◌, true, ◌⊎◌, ◌≡◌, length}
use mathlib.Core.List.{List, [], ◌∷◌, map, flatten}
use Rattle.capabilities.specs.Lists.{In, Every, Ordered, filter}
use Rattle.calls.specs.declared.Call.{Call}
use Rattle.histories.specs.Runs.{Machine, next, Granted, begun}
use Rattle.short_histories.specs.Listed.{listed}
use Rattle.short_histories.specs.Text.{bytes_in, lower, digits, lines_in, line_of}
use Rattle.short_histories.specs.Histories.{fresh_one, grants_all, sequences, counts, histories, text}

-- "Each granted in its turn".
unfoldable pub GrantedInTurn : Machine → List Call → Type 0
GrantedInTurn m [] = Unit {0}
GrantedInTurn m (c ∷ calls) = Granted m c × GrantedInTurn (next m c) calls

-- What the request asks of a history.
pub record Asked (calls : List Call) : Type 0 where
  pub short : length calls ≤ 3
  pub of_listed : Every (λ c. In c listed) calls
  pub granted : GrantedInTurn fresh_one calls

-- Each line's history is such a one.
abbrev pub NothingElse : Type 0
NothingElse = (calls : List Call) → In calls histories → Asked calls

-- "Nothing is missing": each such one is there.
abbrev pub NothingMissing : Type 0
NothingMissing = (calls : List Call) → Asked calls → In calls histories

-- "Shorter sequences come first, and equal numbers of commands in rising byte order."
abbrev pub Precedes : List Call → List Call → Type 0
Precedes x y = (length x < length y) ⊎ ((length x ≡ length y) × (lower (bytes_in x) (bytes_in y) ≡ true))

abbrev pub InOrder : Type 0
InOrder = Ordered Precedes histories

-- "Nothing comes twice": no line is equal to a later one.
abbrev pub NothingTwice : Type 0
NothingTwice = Ordered (λ x y. line_of x ≡ line_of y → ⊥) histories

-- The text has a line for each history, in their order, and no other.
abbrev pub LineByLine : Type 0
LineByLine = lines_in [] text ≡ map (λ calls. digits (bytes_in calls)) histories

-- Whatever lent memory holds at the start, the histories are these: no listed command reads it.
abbrev pub MemoryUnseen : Type 0
MemoryUnseen = (cells tags : List ℕ) → length cells ≡ 16 → length tags ≡ 16
    → filter (grants_all (begun 1 1 cells tags)) (flatten (map sequences counts)) ≡ histories
