-- Document 02, 2026-07: questions about some records, each with the answer and the slice that its sentences give. Assumes nothing.
use Rattle.std.specs.Prelude.{ℕ, zero, suc, ◌+◌, ◌-◌, Bool, List, [], ◌∷◌, ◌++◌, map, replicate}
use Rattle.capabilities.specs.Lists.{same}
use Rattle.table.specs.declared.Reservation.{Reservation}
use Rattle.table.specs.declared.ReservationState.TheVariants.{Open, Taken, Revoking}
use Rattle.table.specs.Rows.{no_taker, reservation}
use Rattle.maps.specs.declared.Question.{Question}
use Rattle.maps.specs.declared.Question.TheVariants.{Sharing, Within, Nearest}
use Rattle.maps.specs.Questions.{answer, Response, response, ask_of}

-- What answers questions: the type of the rule `ask_of`.
abbrev pub Program : Type 0
Program = List Reservation → Question → List ℕ → Response

-- ---- Records and slices
abbrev pub open_at : ℕ → ℕ → Reservation
open_at base length = reservation base length Open 0 no_taker

abbrev pub taken_at : ℕ → ℕ → Reservation
taken_at base length = reservation base length Taken 0 1

abbrev pub revoking_at : ℕ → ℕ → Reservation
revoking_at base length = reservation base length Revoking 0 1

-- So many numbers, each a step above the one before it.
unfoldable pub stepping : ℕ → ℕ → ℕ → List ℕ
stepping zero from step = []
stepping (suc n) from step = from ∷ stepping n (from + step) step

-- So many Open ones of one length, from cell 0 on.
unfoldable pub alike : ℕ → ℕ → List Reservation
alike n length = map (λ b. open_at b length) (stepping n 0 length)

-- Six that end at cell 100, no multiple of 16. The Open ones are cells 0 to 9, 20 to 24 and 40 to 59.
unfoldable pub mixed : List Reservation
mixed = open_at 0 10 ∷ taken_at 10 10 ∷ open_at 20 5 ∷ revoking_at 25 15 ∷ open_at 40 20 ∷ taken_at 60 40 ∷ []

unfoldable pub slice : ℕ → List ℕ
slice n = replicate n 7

-- ---- A case
-- Records, a question and the slice before it; the answer and the slice after it.
pub record Case : Type 0 where
  pub records : List Reservation
  pub question : Question
  pub bases : List ℕ
  pub expected : Response

-- Refused: 25, and nothing is written.
abbrev pub refuses : List Reservation → Question → List ℕ → Case
refuses l q bases = record { records = l; question = q; bases = bases; expected = response (answer 25 0 0) bases }

-- A list of so many bases at the front of a slice of 64.
abbrev pub lists : List Reservation → Question → ℕ → List ℕ → Case
lists l q count bases = record { records = l; question = q; bases = slice 64; expected = response (answer 0 count 0) (bases ++ slice (64 - count)) }

-- One is found, and its base answered; or none. The slice, here of two, is not looked at.
abbrev pub finds : List Reservation → ℕ → ℕ → ℕ → Case
finds l cell cells base = record { records = l; question = Nearest cell cells; bases = slice 2; expected = response (answer 0 1 base) (slice 2) }

abbrev pub finds_none : List Reservation → ℕ → ℕ → Case
finds_none l cell cells = record { records = l; question = Nearest cell cells; bases = slice 2; expected = response (answer 0 0 0) (slice 2) }

-- ---- The cases
-- What 25 names of the records.
unfoldable pub bad_record_cases : List Case
bad_record_cases =
    -- "The records are none or over 64, have a length 0": all else is as it should be.
    refuses [] (Nearest 0 1) (slice 64)
    ∷ refuses (alike 65 1) (Sharing 0 1) (slice 64)
    ∷ refuses (open_at 0 10 ∷ open_at 10 0 ∷ open_at 10 5 ∷ []) (Sharing 0 1) (slice 64)
    -- "Don't tile from cell 0": cell 10 is in none; cell 9 is in two; cell 0 is in none.
    ∷ refuses (open_at 0 10 ∷ open_at 11 5 ∷ []) (Sharing 0 1) (slice 64)
    ∷ refuses (open_at 0 10 ∷ open_at 9 5 ∷ []) (Within 0 10) (slice 64)
    ∷ refuses (open_at 1 10 ∷ []) (Sharing 1 1) (slice 64)
    -- "Or end above 4,096".
    ∷ refuses (open_at 0 4096 ∷ open_at 4096 1 ∷ []) (Nearest 0 1) (slice 64) ∷ []

-- What 25 names of the question and of the slice.
unfoldable pub bad_question_cases : List Case
bad_question_cases =
    -- "The range is empty or runs past the end": there is no cell 100. In 64 bits 2⁶⁴ − 1 and 2 would add up to 1.
    refuses mixed (Sharing 5 0) (slice 64)
    ∷ refuses mixed (Within 5 0) (slice 64)
    ∷ refuses mixed (Sharing 99 2) (slice 64)
    ∷ refuses mixed (Within 0 101) (slice 64)
    ∷ refuses mixed (Sharing 100 1) (slice 64)
    ∷ refuses mixed (Sharing 18446744073709551615 2) (slice 64)
    -- "n is 0, or a slice for a list is below 64".
    ∷ refuses mixed (Nearest 5 0) (slice 64) ∷ refuses mixed (Sharing 0 100) (slice 63) ∷ refuses mixed (Within 42 5) (slice 63) ∷ []

unfoldable pub list_cases : List Case
list_cases =
    -- Cells 10 to 59 are four records; cells 9 to 60 share a cell with the record before and the one after, cells 9 to 58 don't hold the last.
    lists mixed (Sharing 10 50) 4 (10 ∷ 20 ∷ 25 ∷ 40 ∷ [])
    ∷ lists mixed (Within 10 50) 4 (10 ∷ 20 ∷ 25 ∷ 40 ∷ [])
    ∷ lists mixed (Sharing 9 52) 6 (0 ∷ 10 ∷ 20 ∷ 25 ∷ 40 ∷ 60 ∷ [])
    ∷ lists mixed (Within 9 50) 3 (10 ∷ 20 ∷ 25 ∷ [])
    ∷ lists mixed (Sharing 19 2) 2 (10 ∷ 20 ∷ [])
    -- Cells of one reservation, and cells of two: none lies within.
    ∷ lists mixed (Sharing 42 5) 1 (40 ∷ [])
    ∷ lists mixed (Within 42 5) 0 []
    ∷ lists mixed (Within 15 8) 0 []
    -- The last cell, and all cells.
    ∷ lists mixed (Sharing 99 1) 1 (60 ∷ [])
    ∷ lists mixed (Within 0 100) 6 (0 ∷ 10 ∷ 20 ∷ 25 ∷ 40 ∷ 60 ∷ [])
    -- As many records and cells as there may be: the slice of 64 is full.
    ∷ lists (alike 64 64) (Sharing 0 4096) 64 (stepping 64 0 64)
    ∷ lists (alike 64 64) (Within 1 4095) 63 (stepping 63 64 64)
    ∷ lists (alike 64 64) (Sharing 4095 1) 1 (4032 ∷ [])
    ∷ lists (alike 64 64) (Within 4095 1) 0 []
    ∷ lists (alike 1 4096) (Within 0 4096) 1 (0 ∷ [])
    -- Holder and taker are not judged. A slice may be longer than 64, and its rest is kept.
    ∷ lists (reservation 0 10 Taken 200 77 ∷ []) (Sharing 0 1) 1 (0 ∷ [])
    ∷ record { records = mixed; question = Sharing 20 1; bases = slice 70; expected = response (answer 0 1 0) (20 ∷ slice 69) } ∷ []

unfoldable pub nearest_cases : List Case
nearest_cases =
    -- "0 inside": the first, a middle and the last cell of 40 to 59.
    finds mixed 40 1 40
    ∷ finds mixed 45 1 40
    ∷ finds mixed 59 1 40
    -- Cell 32 is 8 from 24 and 8 from 40: "ties to the lower base". 31 and 33 are nearer to one.
    ∷ finds mixed 32 1 20
    ∷ finds mixed 31 1 20
    ∷ finds mixed 33 1 40
    -- Cell 12 lies in a Taken one, 3 from cell 9 and 8 from 20; cell 26 in a Revoking one, 2 from cell 24.
    ∷ finds mixed 12 1 0
    ∷ finds mixed 26 1 20
    -- Cell 22 lies in an Open one of 5 cells. Of those with 6 cells one ends 13 below, the other begins 18 above.
    ∷ finds mixed 22 5 20
    ∷ finds mixed 22 6 0
    -- Past the end.
    ∷ finds mixed 100 1 40
    ∷ finds mixed 18446744073709551615 10 40
    -- The longest Open one has 20 cells; a Taken one has 40.
    ∷ finds mixed 0 20 40
    ∷ finds_none mixed 0 21
    ∷ finds_none mixed 70 40
    ∷ finds_none (taken_at 0 10 ∷ revoking_at 10 10 ∷ []) 0 1
    -- Two Open ones that touch; as many records as there may be.
    ∷ finds (alike 2 8) 8 1 8 ∷ finds (alike 64 64) 4095 64 4032 ∷ finds (alike 64 64) 5000 64 4032 ∷ []

unfoldable pub cases : List Case
cases = bad_record_cases ++ (bad_question_cases ++ (list_cases ++ nearest_cases))

-- ---- Meeting them
unfoldable pub numbers : Response → List ℕ
numbers o = o.answer.code ∷ o.answer.count ∷ o.answer.base ∷ o.bases

-- A program leaves what the case expects.
unfoldable pub meets_by : Program → Case → Bool
meets_by program c = same (numbers (program c.records c.question c.bases)) (numbers c.expected)

unfoldable pub meets : Case → Bool
meets c = meets_by ask_of c
