-- 01 to 04 on a lent slice: what each answers, and every number that it leaves. A refused call leaves all as they were. A number that is
-- put is what the rule's reservation is written as; every other stands as it was, or where the rule moves its row. Assumes nothing.
use Rattle.std.specs.Prelude.{ℕ, List, length, eqb, Result, Ok, Err}
use Rattle.capabilities.specs.Lists.{pick}
use Rattle.table.specs.declared.Moved.{Moved}
use Rattle.capabilities.specs.Refusals.{number_of}
use Rattle.capabilities.specs.declared.refusal.Refusal.{Refusal}
use Rattle.table.specs.Table.{Tabled}
use Rattle.table.specs.Rows.{live}
use Rattle.table.specs.Find.{find_of, next_of, row_of}
use Rattle.table.specs.Operations.{take_of, taken_row, give_of, given_row, split_of, lower_part, upper_part, merge_of, joined}
use Rattle.table.specs.Numbers.{row_code, table_of}
use Rattle.table.specs.Lent.{put_at, place_of, spread_at, gather_at, fitting}
use Rattle.table.specs.Writes.{split_writes, merge_writes}

-- What take answers: 0 or the refusal's number, and the length of what was taken.
pub record TakeAnswer : Type 0 where
  pub code : ℕ
  pub length : ℕ

abbrev pub answered : Result ℕ Refusal → TakeAnswer
answered (Ok length) = record { code = 0; length = length }
answered (Err r) = record { code = number_of r; length = 0 }

-- What split and merge answer: 0 or the refusal's number, how many rows are in use then, and how many were written.
pub record MoveAnswer : Type 0 where
  pub code : ℕ
  pub count : ℕ
  pub writes : ℕ

-- Of a refused one as many rows are in use as before, and none was written.
abbrev pub moved : ℕ → Result Moved Refusal → MoveAnswer
moved count (Ok m) = record { code = 0; count = m.count; writes = m.writes }
moved count (Err r) = record { code = number_of r; count = count; writes = 0 }

-- 01.
abbrev pub take_answer : List ℕ → ℕ → ℕ → ℕ → TakeAnswer
take_answer l count party base = record { code = (take_of (table_of l count) party base).code; length = (take_of (table_of l count) party base).length }

unfoldable pub taken_in : List ℕ → ℕ → ℕ → ℕ → List ℕ
taken_in l count party base =
    let t = table_of l count in
    let f = find_of t party base in
    pick (eqb (take_of t party base).code 0) (put_at l f (row_code (taken_row (row_of t f) party))) l

-- 04, whose answer is the rule's code.
unfoldable pub given_in : List ℕ → ℕ → ℕ → ℕ → ℕ → List ℕ
given_in l count party base to =
    let t = table_of l count in
    let f = find_of t party base in
    pick (eqb (give_of t party base to).code 0) (put_at l f (row_code (given_row (row_of t f) to))) l

-- 02.
abbrev pub split_rule : List ℕ → ℕ → ℕ → ℕ → ℕ → Tabled
split_rule l count party base len = fitting l count (split_of (table_of l count) party base len)

abbrev pub split_answer : List ℕ → ℕ → ℕ → ℕ → ℕ → MoveAnswer
split_answer l count party base len =
    let rule = split_rule l count party base len in
    record { code = rule.code; count = rule.table.count; writes = split_writes (table_of l count) party base rule.code }

unfoldable pub split_in : List ℕ → ℕ → ℕ → ℕ → ℕ → List ℕ
split_in l count party base len =
    let t = table_of l count in
    let f = find_of t party base in
    pick (eqb (split_rule l count party base len).code 0)
    (spread_at l count (place_of f) (row_code (lower_part (row_of t f) len)) (row_code (upper_part (row_of t f) len)))
    l

-- 03: a count above the number of rows means all of them.
abbrev pub merge_rule : List ℕ → ℕ → ℕ → ℕ → Tabled
merge_rule l count party base = fitting l count (merge_of (table_of l count) party base)

abbrev pub merge_answer : List ℕ → ℕ → ℕ → ℕ → MoveAnswer
merge_answer l count party base =
    let rule = merge_rule l count party base in
    record { code = rule.code; count = rule.table.count; writes = merge_writes (table_of l count) party base rule.code }

unfoldable pub merged_in : List ℕ → ℕ → ℕ → ℕ → List ℕ
merged_in l count party base =
    let t = table_of l count in
    let f = find_of t party base in
    pick (eqb (merge_rule l count party base).code 0)
    (gather_at l (length (live t)) (place_of f) (row_code (joined (row_of t f) (row_of t (next_of t f)))) 0)
    l
