-- Document 02, 2026-07, as a server asks it: of records as numbers, with the answer's numbers put into lent ones. Assumes nothing.
use Rattle.std.specs.Prelude.{ℕ, true, false, List, [], map, ◌≡◌, eqb, take}
use Rattle.capabilities.specs.Lists.{pick}
use Rattle.table.specs.Numbers.{row_from}
use Rattle.machine.specs.Formed.{well_formed}
use Rattle.arrays.specs.declared.Arrays.{Arrays}
use Rattle.arrays.specs.Reading.{state_of}
use Rattle.maps.specs.declared.Question.{Question}
use Rattle.maps.specs.declared.Question.TheVariants.{Nearest}
use Rattle.maps.specs.Records.{bad_records}
use Rattle.maps.specs.Questions.{Response, ask_of}

-- What a list leaves: the code, its length, and the slice.
pub record ListAnswer : Type 0 where
  pub code : ℕ
  pub count : ℕ
  pub bases : List ℕ

abbrev pub list_answer : ℕ → ℕ → List ℕ → ListAnswer
list_answer code count bases = record { code = code; count = count; bases = bases }

-- A number that is put if the code is 0: "nothing is then written".
abbrev pub put_if : ℕ → ℕ → ℕ → ℕ
put_if code new old = pick (eqb code 0) new old

abbrev pub listed_by : Response → ℕ → ListAnswer
listed_by o count = list_answer o.answer.code (put_if o.answer.code o.answer.count count) o.bases

-- By the rule, of the records that the numbers read as.
unfoldable pub list_lent : List ℕ → Question → ℕ → List ℕ → ListAnswer
list_lent rows q count bases = listed_by (ask_of (map row_from rows) q bases) count

-- What the search for the nearest leaves: the code, whether there is one, and its base.
pub record Sited : Type 0 where
  pub code : ℕ
  pub found : ℕ
  pub base : ℕ

abbrev pub sited : ℕ → ℕ → ℕ → Sited
sited code found base = record { code = code; found = found; base = base }

abbrev pub sited_by : Response → ℕ → ℕ → Sited
sited_by o found base = sited o.answer.code (put_if o.answer.code o.answer.count found) (put_if o.answer.code o.answer.base base)

unfoldable pub nearest_lent : List ℕ → ℕ → ℕ → ℕ → ℕ → Sited
nearest_lent rows cell cells found base = sited_by (ask_of (map row_from rows) (Nearest cell cells) []) found base

-- A server's own rows, as many as its table counts, are no cause of 25 if its state is well formed.
abbrev pub OwnRowsNever : Type 0
OwnRowsNever = (a : Arrays) → well_formed (state_of a) ≡ true → bad_records (map row_from (take a.nums.count a.rows)) ≡ false
