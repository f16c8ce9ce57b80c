-- Document 02, 2026-07: wrong programs, each the rule with one part replaced, and a case at which it leaves something else. Assumes nothing.
use Rattle.std.specs.Prelude.{ℕ, ◌+◌, ◌-◌, Bool, true, false, not, ◌&&◌, ◌||◌, List, [], ◌∷◌, ◌++◌, map, ◌≡◌, length, drop, replicate, eqb, leb, ltb}
use Rattle.capabilities.specs.Lists.{pick, Every, filter}
use Rattle.capabilities.specs.declared.Range.{Range}
use Rattle.table.specs.declared.Reservation.{Reservation}
use Rattle.table.specs.Rows.{is_open, is_taken, range_of}
use Rattle.maps.specs.Questions.{Answer}
use Rattle.maps.specs.declared.Question.{Question}
use Rattle.maps.specs.declared.Question.TheVariants.{Sharing, Within, Nearest}
use Rattle.maps.specs.Cells.{span, shares, within, distance, beyond}
use Rattle.maps.specs.Records.{tile_from, cells_of, bad_records}
use Rattle.maps.specs.Questions.{is_listed, bases_of, candidate, nearer, nearest, answer, bad_question, Response, response, put, ask_of}
use Rattle.maps.specs.Promises.{apart}
use Rattle.cases.specs.MapCases.{Program, open_at, alike, mixed, slice, Case, refuses, lists, finds, meets, meets_by}

-- ---- The rule in parts
-- What is granted, by a list, its writing and a search.
unfoldable pub granted_by : (Question → List Reservation → List ℕ) → (List ℕ → List ℕ → Response) → (ℕ → ℕ → List Reservation → Answer) → Program
granted_by list write find l (Sharing first cells) bases = write (list (Sharing first cells) l) bases
granted_by list write find l (Within first cells) bases = write (list (Within first cells) l) bases
granted_by list write find l (Nearest cell cells) bases = response (find cell cells l) bases

-- All of it, by a test of the records, one of the question, those three, and a refusal, which is handed what would be granted.
unfoldable pub asked_by :
    (List Reservation → Bool) → (Question → ℕ → ℕ → Bool) → (Question → List Reservation → List ℕ) → (List ℕ → List ℕ → Response) → (ℕ → ℕ → List Reservation → Answer)
    → (Response → List ℕ → Response) → Program
asked_by records question list write find refuse l q bases =
    pick (records l || question q (cells_of l) (length bases)) (refuse (granted_by list write find l q bases) bases) (granted_by list write find l q bases)

-- The tiling: which base may follow an end, and which length is enough.
unfoldable pub tile_by : (ℕ → ℕ → Bool) → (ℕ → Bool) → ℕ → List Reservation → Bool
tile_by follows enough from [] = true
tile_by follows enough from (r ∷ l) = (follows r.base from && enough r.length) && tile_by follows enough (r.base + r.length) l

-- The test of records: whether none are too few, how many may be, what tiles, and where they may end.
unfoldable pub records_by : Bool → ℕ → (ℕ → List Reservation → Bool) → ℕ → List Reservation → Bool
records_by few most tile end l = ((few && eqb (length l) 0) || ltb most (length l)) || (not (tile 0 l) || ltb end (cells_of l))

-- The test of the question: which range or n has no cell, what is past the end, and which slice is too short.
unfoldable pub question_by : (ℕ → Bool) → (ℕ → Range → Bool) → ℕ → Question → ℕ → ℕ → Bool
question_by none past least (Sharing first cells) end room = (none cells || past end (span first cells)) || ltb room least
question_by none past least (Within first cells) end room = (none cells || past end (span first cells)) || ltb room least
question_by none past least (Nearest cell cells) end room = none cells

-- The list by a test of each record's cells.
unfoldable pub list_by : (Question → Range → Bool) → Question → List Reservation → List ℕ
list_by test q l = map (λ r. r.base) (filter (λ r. test q (range_of r)) l)

-- The search: which records are looked at, and which of two is kept.
unfoldable pub keep_by : (Reservation → Reservation → Bool) → Reservation → List Reservation → Reservation
keep_by better best [] = best
keep_by better best (r ∷ l) = keep_by better (pick (better r best) r best) l

unfoldable pub found_by : (Reservation → Reservation → Bool) → List Reservation → Answer
found_by better [] = answer 0 0 0
found_by better (r ∷ l) = answer 0 1 (keep_by better r l).base

unfoldable pub find_by : (ℕ → Reservation → Bool) → (ℕ → Reservation → Reservation → Bool) → ℕ → ℕ → List Reservation → Answer
find_by looked better c n l = found_by (better c) (filter (looked n) l)

-- The rule's own parts.
abbrev pub none : ℕ → Bool
none n = eqb n 0

abbrev pub find : ℕ → ℕ → List Reservation → Answer
find = find_by candidate nearer

abbrev pub refuse : Response → List ℕ → Response
refuse granted bases = response (answer 25 0 0) bases

-- The rule with one part as given.
abbrev pub by_records : (List Reservation → Bool) → Program
by_records f = asked_by f bad_question bases_of put find refuse

abbrev pub by_question : (Question → ℕ → ℕ → Bool) → Program
by_question f = asked_by bad_records f bases_of put find refuse

abbrev pub by_list : (Question → List Reservation → List ℕ) → Program
by_list f = asked_by bad_records bad_question f put find refuse

abbrev pub by_writing : (List ℕ → List ℕ → Response) → Program
by_writing f = asked_by bad_records bad_question bases_of f find refuse

abbrev pub by_search : (ℕ → ℕ → List Reservation → Answer) → Program
by_search f = asked_by bad_records bad_question bases_of put f refuse

abbrev pub by_refusal : (Response → List ℕ → Response) → Program
by_refusal f = asked_by bad_records bad_question bases_of put find f

-- ---- Wrong parts
-- Of the tiling: it begins at any base.
unfoldable pub tile_anywhere : ℕ → List Reservation → Bool
tile_anywhere from [] = true
tile_anywhere from (r ∷ l) = tile_from r.base (r ∷ l)

-- Of the range: one that ends at the end is past it, or the sum is made in 64 bits.
unfoldable pub ends_at : ℕ → Range → Bool
ends_at end p = leb end (p.base + p.length)

unfoldable pub wraps : ℕ → Range → Bool
wraps end p = ltb end (pick (ltb (p.base + p.length) 18446744073709551616) (p.base + p.length) (p.base + p.length - 18446744073709551616))

-- A slice is asked of the nearest too.
unfoldable pub slice_always : Question → ℕ → ℕ → Bool
slice_always q end room = bad_question q end room || ltb room 64

-- Of the list: it stops at the first record that is not listed, is in falling base, or leaves out what is not Open.
unfoldable pub leading : {A : Type 0} → (A → Bool) → List A → List A
leading P [] = []
leading P (x ∷ l) = pick (P x) (x ∷ leading P l) []

unfoldable pub stops_at_gap : Question → List Reservation → List ℕ
stops_at_gap q l = map (λ r. r.base) (leading (λ r. is_listed q (range_of r)) l)

unfoldable pub backwards : List ℕ → List ℕ
backwards [] = []
backwards (b ∷ l) = backwards l ++ (b ∷ [])

unfoldable pub falls : Question → List Reservation → List ℕ
falls q l = backwards (bases_of q l)

unfoldable pub open_only : Question → List Reservation → List ℕ
open_only q l = bases_of q (filter (candidate 0) l)

-- One test for the other: `within` for both lists, and `shares` for both.
unfoldable pub all_within : Question → Range → Bool
all_within (Sharing first cells) p = within p (span first cells)
all_within (Within first cells) p = within p (span first cells)
all_within (Nearest cell cells) p = false

unfoldable pub all_share : Question → Range → Bool
all_share (Sharing first cells) p = shares p (span first cells)
all_share (Within first cells) p = shares p (span first cells)
all_share (Nearest cell cells) p = false

-- Of the writing: one entry more is written, the rest is cleared, or the last base is answered instead of the length.
unfoldable pub writes_more : List ℕ → List ℕ → Response
writes_more l bases = response (answer 0 (length l) 0) (l ++ (0 ∷ drop (length l + 1) bases))

unfoldable pub clears_rest : List ℕ → List ℕ → Response
clears_rest l bases = response (answer 0 (length l) 0) (l ++ replicate (length bases - length l) 0)

unfoldable pub last_of : ℕ → List ℕ → ℕ
last_of n [] = n
last_of n (b ∷ l) = last_of b l

unfoldable pub answers_last : List ℕ → List ℕ → Response
answers_last l bases = response (answer 0 (last_of 0 l) 0) (l ++ drop (length l) bases)

-- Of the search: ties go to the higher base, the distance is to the base, or the first one is kept.
unfoldable pub ties_higher : ℕ → Reservation → Reservation → Bool
ties_higher c r q =
    ltb (distance c (range_of r)) (distance c (range_of q)) || (eqb (distance c (range_of r)) (distance c (range_of q)) && ltb q.base r.base)

unfoldable pub to_base : ℕ → Reservation → Reservation → Bool
to_base c r q = ltb (apart c r.base) (apart c q.base)

unfoldable pub keeps_first : ℕ → Reservation → Reservation → Bool
keeps_first c r q = false

-- Taken ones count, Revoking ones count, or more than n cells are asked.
unfoldable pub taken_too : ℕ → Reservation → Bool
taken_too n r = (is_open r.state || is_taken r.state) && leb n r.length

unfoldable pub revoking_too : ℕ → Reservation → Bool
revoking_too n r = not (is_taken r.state) && leb n r.length

unfoldable pub asks_more : ℕ → Reservation → Bool
asks_more n r = is_open r.state && ltb n r.length

-- Only the nearest Open one is looked at, whatever its length.
unfoldable pub long_enough : ℕ → Reservation → Answer
long_enough n r = pick (leb n r.length) (answer 0 1 r.base) (answer 0 0 0)

unfoldable pub first_nearest : ℕ → ℕ → List Reservation → Answer
first_nearest c n [] = answer 0 0 0
first_nearest c n (r ∷ l) = long_enough n (nearest c r l)

unfoldable pub looks_once : ℕ → ℕ → List Reservation → Answer
looks_once c n l = first_nearest c n (filter (candidate 0) l)

-- A refusal that writes the list.
unfoldable pub refusal_writes : Response → List ℕ → Response
refusal_writes granted bases = response (answer 25 0 0) granted.bases

-- One that refuses everything, and one that answers alike.
unfoldable pub refuses_all : Program
refuses_all l q bases = response (answer 25 0 0) bases

unfoldable pub answers_alike : Program
answers_alike l q bases = response (answer 0 0 0) bases

-- ---- The wrong programs
-- A wrong program, the rule in the same shape, and a case that the first one does not meet.
pub record Wrong : Type 0 where
  pub wrong : Program
  pub right : Program
  pub case : Case

abbrev pub wrongly : {A : Type 0} → (A → Program) → A → A → Case → Wrong
wrongly shape wrong right c = record { wrong = shape wrong; right = shape right; case = c }

unfoldable pub wrong_records : List Wrong
wrong_records =
    wrongly (λ few. by_records (records_by few 64 tile_from 4096)) false true (refuses [] (Nearest 0 1) [])
    ∷ wrongly (λ most. by_records (records_by true most tile_from 4096)) 65 64 (refuses (alike 65 1) (Sharing 0 1) (slice 64))
    ∷ wrongly (λ most. by_records (records_by true most tile_from 4096)) 63 64 (lists (alike 64 64) (Sharing 0 1) 1 (0 ∷ []))
    -- A length 0, a gap, an overlap and a first base 1 are taken.
    ∷ wrongly (λ enough. by_records (records_by true 64 (tile_by eqb enough) 4096)) (λ n. true) (ltb 0) (refuses (open_at 0 10 ∷ open_at 10 0 ∷ []) (Sharing 0 1) (slice 64))
    ∷ wrongly (λ follows. by_records (records_by true 64 (tile_by follows (ltb 0)) 4096)) (λ base from. leb from base) eqb (refuses (open_at 0 10 ∷ open_at 11 5 ∷ []) (Sharing 0 1) (slice 64))
    ∷ wrongly (λ follows. by_records (records_by true 64 (tile_by follows (ltb 0)) 4096)) leb eqb (refuses (open_at 0 10 ∷ open_at 9 5 ∷ []) (Sharing 0 1) (slice 64))
    ∷ wrongly (λ tile. by_records (records_by true 64 tile 4096)) tile_anywhere tile_from (refuses (open_at 1 10 ∷ []) (Sharing 1 1) (slice 64))
    ∷ wrongly (λ end. by_records (records_by true 64 tile_from end)) 4097 4096 (refuses (open_at 0 4096 ∷ open_at 4096 1 ∷ []) (Sharing 0 1) (slice 64))
    ∷ wrongly (λ end. by_records (records_by true 64 tile_from end)) 4095 4096 (lists (alike 64 64) (Sharing 0 1) 1 (0 ∷ [])) ∷ []

unfoldable pub wrong_questions : List Wrong
wrong_questions =
    -- An empty range, and n 0.
    wrongly (λ f. by_question (question_by f beyond 64)) (λ n. false) none (refuses mixed (Sharing 5 0) (slice 64))
    ∷ wrongly (λ f. by_question (question_by f beyond 64)) (λ n. false) none (refuses mixed (Nearest 5 0) [])
    ∷ wrongly (λ past. by_question (question_by none past 64)) (λ end p. false) beyond (refuses mixed (Within 0 101) (slice 64))
    ∷ wrongly (λ past. by_question (question_by none past 64)) ends_at beyond (lists mixed (Sharing 99 1) 1 (60 ∷ []))
    ∷ wrongly (λ past. by_question (question_by none past 64)) wraps beyond (refuses mixed (Sharing 18446744073709551615 2) (slice 64))
    ∷ wrongly (λ least. by_question (question_by none beyond least)) 63 64 (refuses mixed (Sharing 0 100) (slice 63))
    ∷ wrongly (λ least. by_question (question_by none beyond least)) 65 64 (lists mixed (Sharing 42 5) 1 (40 ∷ []))
    ∷ wrongly by_question slice_always bad_question (finds mixed 45 1 40) ∷ []

unfoldable pub wrong_lists : List Wrong
wrong_lists =
    wrongly by_list stops_at_gap bases_of (lists mixed (Sharing 10 50) 4 (10 ∷ 20 ∷ 25 ∷ 40 ∷ []))
    ∷ wrongly by_list falls bases_of (lists mixed (Sharing 19 2) 2 (10 ∷ 20 ∷ []))
    ∷ wrongly by_list open_only bases_of (lists mixed (Sharing 19 2) 2 (10 ∷ 20 ∷ []))
    ∷ wrongly (λ test. by_list (list_by test)) all_within is_listed (lists mixed (Sharing 19 2) 2 (10 ∷ 20 ∷ []))
    ∷ wrongly (λ test. by_list (list_by test)) all_share is_listed (lists mixed (Within 42 5) 0 [])
    ∷ wrongly by_writing writes_more put (lists mixed (Sharing 42 5) 1 (40 ∷ []))
    ∷ wrongly by_writing clears_rest put (lists mixed (Sharing 42 5) 1 (40 ∷ []))
    ∷ wrongly by_writing answers_last put (lists mixed (Sharing 42 5) 1 (40 ∷ [])) ∷ []

unfoldable pub wrong_searches : List Wrong
wrong_searches =
    wrongly (λ better. by_search (find_by candidate better)) ties_higher nearer (finds mixed 32 1 20)
    ∷ wrongly (λ better. by_search (find_by candidate better)) to_base nearer (finds mixed 31 1 20)
    ∷ wrongly (λ better. by_search (find_by candidate better)) keeps_first nearer (finds mixed 45 1 40)
    ∷ wrongly (λ looked. by_search (find_by looked nearer)) taken_too candidate (finds mixed 12 1 0)
    ∷ wrongly (λ looked. by_search (find_by looked nearer)) revoking_too candidate (finds mixed 26 1 20)
    ∷ wrongly (λ looked. by_search (find_by looked nearer)) asks_more candidate (finds mixed 0 20 40)
    ∷ wrongly by_search looks_once find (finds mixed 22 6 0) ∷ []

unfoldable pub wrong_wholes : List Wrong
wrong_wholes =
    wrongly by_refusal refusal_writes refuse (refuses mixed (Sharing 0 101) (slice 64))
    ∷ wrongly (λ p. p) refuses_all ask_of (lists mixed (Sharing 42 5) 1 (40 ∷ []))
    ∷ wrongly (λ p. p) answers_alike ask_of (lists mixed (Sharing 42 5) 1 (40 ∷ [])) ∷ []

unfoldable pub programs : List Wrong
programs = wrong_records ++ (wrong_questions ++ (wrong_lists ++ (wrong_searches ++ wrong_wholes)))

-- The case is one that the rule meets, also in this shape, and the wrong program does not.
unfoldable pub shown : Wrong → Bool
shown w = (meets w.case && meets_by w.right w.case) && not (meets_by w.wrong w.case)

-- A program that leaves what the rule leaves, of all records, questions and slices.
abbrev pub Asks : Program → Type 0
Asks program = (l : List Reservation) (q : Question) (bases : List ℕ) → program l q bases ≡ ask_of l q bases

-- None of the wrong programs leaves what the rule leaves.
abbrev pub NoneAsks : List Wrong → Type 0
NoneAsks = Every (λ w. Asks w.wrong → ⊥)
