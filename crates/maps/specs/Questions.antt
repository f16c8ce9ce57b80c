-- Document 02, 2026-07: the three questions and what is answered. Assumes nothing.
use Rattle.std.specs.Prelude.{ℕ, Bool, false, ◌&&◌, ◌||◌, List, [], ◌∷◌, ◌++◌, map, length, drop, leb, ltb, eqb, Option, Some, None, Result, Ok, Err, unwrap_or}
use Rattle.capabilities.specs.Lists.{pick, filter}
use Rattle.capabilities.specs.declared.Range.{Range}
use Rattle.capabilities.specs.declared.refusal.Refusal.{Refusal}
use Rattle.capabilities.specs.Refusals.{number_of}
use Rattle.table.specs.Rows.{is_open, range_of}
use Rattle.table.specs.declared.Reservation.{Reservation}
use Rattle.maps.specs.declared.Question.{Question}
use Rattle.maps.specs.declared.Question.TheVariants.{Sharing, Within, Nearest}
use Rattle.maps.specs.declared.Found.{Found}
use Rattle.maps.specs.Cells.{span, shares, within, distance, beyond}
use Rattle.maps.specs.Records.{cells_of, bad_records}

-- "List those sharing cells with a cell range and those within it". Nearest lists none.
unfoldable pub is_listed : Question → Range → Bool
is_listed (Sharing first cells) p = shares p (span first cells)
is_listed (Within first cells) p = within p (span first cells)
is_listed (Nearest cell cells) p = false

-- "In rising base"; "each list goes as bases".
unfoldable pub bases_of : Question → List Reservation → List ℕ
bases_of q l = map (λ r. r.base) (filter (λ r. is_listed q (range_of r)) l)

-- "The Open one of at least n cells".
abbrev pub candidate : ℕ → Reservation → Bool
candidate n r = is_open r.state && leb n r.length

-- "Nearest a cell"; "ties to the lower base".
abbrev pub nearer : ℕ → Reservation → Reservation → Bool
nearer c r q =
    ltb (distance c (range_of r)) (distance c (range_of q)) || (eqb (distance c (range_of r)) (distance c (range_of q)) && ltb r.base q.base)

-- The nearest of one and others.
unfoldable pub nearest : ℕ → Reservation → List Reservation → Reservation
nearest c best [] = best
nearest c best (r ∷ l) = nearest c (pick (nearer c r best) r best) l

-- What is answered, in numbers: 0 or the refusal's number; how many reservations were found; and the base of the nearest one, else 0.
pub record Answer : Type 0 where
  pub code : ℕ
  pub count : ℕ
  pub base : ℕ

abbrev pub answer : ℕ → ℕ → ℕ → Answer
answer code count base = record { code = code; count = count; base = base }

-- The numbers of a function's result.
abbrev pub answer_of : Result Found Refusal → Answer
answer_of (Ok f) = answer 0 f.count (unwrap_or f.nearest 0)
answer_of (Err e) = answer (number_of e) 0 0

-- The same of a result that is the nearest one alone.
abbrev pub nearest_answer_of : Result (Option ℕ) Refusal → Answer
nearest_answer_of (Ok (Some base)) = answer 0 1 base
nearest_answer_of (Ok None) = answer 0 0 0
nearest_answer_of (Err e) = answer (number_of e) 0 0

-- "Find the base"; "none is answered only if no Open one has n cells".
unfoldable pub found : ℕ → List Reservation → Answer
found c [] = answer 0 0 0
found c (r ∷ l) = answer 0 1 (nearest c r l).base

-- 25 goes on: "the range is empty or runs past the end, n is 0, or a slice for a list is below 64".
abbrev pub bad_list : ℕ → Range → ℕ → Bool
bad_list end p room = (eqb p.length 0 || beyond end p) || ltb room 64

unfoldable pub bad_question : Question → ℕ → ℕ → Bool
bad_question (Sharing first cells) end room = bad_list end (span first cells) room
bad_question (Within first cells) end room = bad_list end (span first cells) room
bad_question (Nearest cell cells) end room = eqb cells 0

-- The answer, and the slice for a list after it.
pub record Response : Type 0 where
  pub answer : Answer
  pub bases : List ℕ

abbrev pub response : Answer → List ℕ → Response
response a bases = record { answer = a; bases = bases }

-- "Each list goes as bases into a lent slice of numbers, whose rest is kept; its length is answered."
unfoldable pub put : List ℕ → List ℕ → Response
put l bases = response (answer 0 (length l) 0) (l ++ drop (length l) bases)

unfoldable pub granted_answer : List Reservation → Question → List ℕ → Response
granted_answer l (Sharing first cells) bases = put (bases_of (Sharing first cells) l) bases
granted_answer l (Within first cells) bases = put (bases_of (Within first cells) l) bases
granted_answer l (Nearest cell cells) bases = response (found cell (filter (candidate cells) l)) bases

-- Whether 25 comes.
unfoldable pub is_refused : List Reservation → Question → ℕ → Bool
is_refused l q room = bad_records l || bad_question q (cells_of l) room

-- "Errors: only 25 ..; nothing is then written."
unfoldable pub ask_of : List Reservation → Question → List ℕ → Response
ask_of l q bases = pick (is_refused l q (length bases)) (response (answer 25 0 0) bases) (granted_answer l q bases)
