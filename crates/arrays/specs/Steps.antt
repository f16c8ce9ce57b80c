-- A call on arrays: the rule on the state read, written back. Assumes nothing.
use Rattle.std.specs.Prelude.{ℕ, List, ◌≡◌, Result, Ok, Err}
use Rattle.capabilities.specs.declared.refusal.Refusal.{Refusal}
use Rattle.capabilities.specs.Refusals.{number_of, code}
use Rattle.calls.specs.declared.Call.{Call}
use Rattle.words.specs.declared.Slot.{Slot}
use Rattle.words.specs.Words.{empty}
use Rattle.machine.specs.Step.{Outcome, ruled}
use Rattle.arrays.specs.declared.Numbers.{Numbers}
use Rattle.arrays.specs.declared.Arrays.{Arrays}
use Rattle.arrays.specs.declared.Answer.{Answer}
use Rattle.arrays.specs.Reading.{arrays, state_of, arrays_of, Formed}

abbrev pub answer : ℕ → Slot → Answer
answer code w = record { code = code; number = w.cell; tag = w.tag }

-- The answer of a call: the word that it names, or the refusal's number.
abbrev pub told : Result Slot Refusal → Answer
told (Ok w) = answer 0 w
told (Err r) = answer (number_of r) empty

-- The answer of a call that names no word.
abbrev pub done : Result Unit Refusal → Answer
done r = answer (code r) empty

-- What a call leaves: its answer, the arrays, and the lent cells and tags.
pub record Leaving : Type 0 where
  pub answer : Answer
  pub arrays : Arrays
  pub cells : List ℕ
  pub tags : List ℕ

abbrev pub leaving : Answer → Arrays → List ℕ → List ℕ → Leaving
leaving r a cells tags = record { answer = r; arrays = a; cells = cells; tags = tags }

-- The outcome of a rule, its state written as arrays.
unfoldable pub left_of : Outcome → Leaving
left_of o =
    leaving (record { code = o.answer.code; number = o.answer.number; tag = o.answer.tag }) (arrays_of o.answer.state) o.cells o.tags

-- A call that leaves lent memory alone, on well-formed arrays, is what the rules say on the state read.
abbrev pub Does : Answer → Arrays → Arrays → Call → Type 0
Does r before after c = Formed before → (cells tags : List ℕ) → leaving r after cells tags ≡ left_of (ruled (state_of before) c cells tags)

-- Parts of arrays exchanged.
abbrev pub with_words : Arrays → List ℕ → List ℕ → Arrays
with_words a words marks = arrays a.nums words marks a.mail a.flags a.rows a.pages a.frames a.principals a.counts

abbrev pub with_mail : Arrays → List ℕ → List ℕ → Arrays
with_mail a mail flags = arrays a.nums a.words a.marks mail flags a.rows a.pages a.frames a.principals a.counts

abbrev pub with_rows : Arrays → List ℕ → Arrays
with_rows a rows = arrays a.nums a.words a.marks a.mail a.flags rows a.pages a.frames a.principals a.counts

abbrev pub with_pages : Arrays → List ℕ → List ℕ → Arrays
with_pages a pages frames = arrays a.nums a.words a.marks a.mail a.flags a.rows pages frames a.principals a.counts

abbrev pub with_mails : Arrays → List ℕ → List ℕ → List ℕ → List ℕ → Arrays
with_mails a words marks mail flags = arrays a.nums words marks mail flags a.rows a.pages a.frames a.principals a.counts

abbrev pub with_table : Arrays → Numbers → List ℕ → Arrays
with_table a nums rows = arrays nums a.words a.marks a.mail a.flags rows a.pages a.frames a.principals a.counts

abbrev pub with_claims : Arrays → List ℕ → List ℕ → Arrays
with_claims a principals counts =
    arrays a.nums a.words a.marks a.mail a.flags a.rows a.pages a.frames principals counts

-- The small numbers, with so many rows in use.
abbrev pub counted : Numbers → ℕ → Numbers
counted n count = record { v = n.v; f = n.f; count = count; place = n.place; base = n.base; length = n.length }
