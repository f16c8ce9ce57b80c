-- The rule leaves what the cases expect, and none of the wrong programs leaves what the rule does: by one computation over each list.
-- Assumes nothing.
use Prim.Native.Nat.{ℕ, ◌+◌}
use mathlib.Core.Bool.{Bool, true, not, ◌&&◌, ◌||◌, true≢false}
use mathlib.Core.List.{List, [], ◌∷◌}
use mathlib.Core.Path.{◌≡◌, refl, sym, ap, ◌∙◌}
use lib.Dec.{eqb, ltb}
use lib.ListN.{length}
use borrow.Author.Tests.{eqb-true, not-true}
use Rattle.capabilities.specs.Lists.{pick, all, same, filter}
use Rattle.capabilities.proofs.Choice.{and_left, and_right, and_under}
use Rattle.capabilities.proofs.Lists.{every}
use Rattle.table.specs.declared.Reservation.{Reservation}
use Rattle.maps.specs.declared.Question.{Question}
use Rattle.maps.specs.declared.Question.TheVariants.{Sharing, Within, Nearest}
use Rattle.maps.specs.Questions.{Answer}
use Rattle.maps.specs.Cells.{shares, within, distance, beyond}
use Rattle.maps.specs.Records.{tile_from, cells_of, bad_records}
use Rattle.maps.specs.Questions.{is_listed, bases_of, candidate, nearer, nearest, answer, found, bad_question, Response, response, put, granted_answer, is_refused, ask_of}
use Rattle.cases.specs.MapCases.{Program, stepping, alike, mixed, slice, Case, bad_record_cases, bad_question_cases, list_cases, nearest_cases, cases, numbers, meets_by, meets}
use Rattle.cases.specs.WrongMaps.{granted_by, asked_by, tile_by, records_by, question_by, list_by, keep_by, found_by, find_by, none, find, refuse, tile_anywhere, ends_at, wraps, slice_always, leading, stops_at_gap, backwards, falls, open_only, all_within, all_share, writes_more, clears_rest, last_of, answers_last, ties_higher, to_base, keeps_first, taken_too, revoking_too, asks_more, long_enough, first_nearest, looks_once, refusal_writes, refuses_all, answers_alike, Wrong, wrong_records, wrong_questions, wrong_lists, wrong_searches, wrong_wholes, programs, shown, Asks, NoneAsks}

-- What the rule and the cases compute with, named once.
unfoldable computing : ℕ
unfolding shares within distance beyond filter tile_from cells_of bad_records is_listed bases_of nearest found bad_question put granted_answer is_refused ask_of all meets meets_by numbers same stepping alike mixed slice
computing = 0

pub all_meet : all meets cases ≡ true
unfolding cases bad_record_cases bad_question_cases list_cases nearest_cases computing
all_meet = refl

-- ---- The shape with the rule's own parts is the rule
kept_rule : (c : ℕ) (best : Reservation) (l : List Reservation) → keep_by (nearer c) best l ≡ nearest c best l
unfolding keep_by nearest
kept_rule c best [] = refl
kept_rule c best (r ∷ l) = kept_rule c (pick (nearer c r best) r best) l

found_rule : (c : ℕ) (l : List Reservation) → found_by (nearer c) l ≡ found c l
unfolding found_by found
found_rule c [] = refl
found_rule c (r ∷ l) = ap (λ (b : Reservation). answer 0 1 b.base) (kept_rule c r l)

granted_rule : (l : List Reservation) (q : Question) (bases : List ℕ) → granted_by (list_by is_listed) put find l q bases ≡ granted_answer l q bases
unfolding granted_by granted_answer list_by bases_of find_by
granted_rule l (Sharing first cells) bases = refl
granted_rule l (Within first cells) bases = refl
granted_rule l (Nearest cell cells) bases = ap (λ (a : Answer). response a bases) (found_rule cell (filter (candidate cells) l))

question_rule : (q : Question) (end room : ℕ) → question_by none beyond 64 q end room ≡ bad_question q end room
unfolding question_by bad_question
question_rule (Sharing first cells) end room = refl
question_rule (Within first cells) end room = refl
question_rule (Nearest cell cells) end room = refl

tile_rule : (from : ℕ) (l : List Reservation) → tile_by eqb (ltb 0) from l ≡ tile_from from l
unfolding tile_by tile_from
tile_rule from [] = refl
tile_rule from (r ∷ l) =
    and_under (eqb r.base from && ltb 0 r.length) (tile_by eqb (ltb 0) (r.base + r.length) l) (tile_from (from + r.length) l)
    (λ e. tile_rule (r.base + r.length) l ∙ ap (λ (n : ℕ). tile_from (n + r.length) l) (eqb-true r.base from (and_left (eqb r.base from) (ltb 0 r.length) e)))

records_rule : (l : List Reservation) → records_by true 64 (tile_by eqb (ltb 0)) 4096 l ≡ bad_records l
unfolding records_by bad_records
records_rule l = ap (λ (t : Bool). (eqb (length l) 0 || ltb 64 (length l)) || (not t || ltb 4096 (cells_of l))) (tile_rule 0 l)

pub asked_rule : Asks (asked_by (records_by true 64 (tile_by eqb (ltb 0)) 4096) (question_by none beyond 64) (list_by is_listed) put find refuse)
unfolding asked_by is_refused ask_of
asked_rule l q bases i =
    pick (records_rule l i || question_rule q (cells_of l) (length bases) i) (response (answer 25 0 0) bases) (granted_rule l q bases i)

-- ---- The wrong programs
pub all_shown : all shown programs ≡ true
unfolding shown programs wrong_records wrong_questions wrong_lists wrong_searches wrong_wholes asked_by granted_by tile_by records_by question_by list_by keep_by found_by find_by tile_anywhere ends_at wraps slice_always leading stops_at_gap backwards falls open_only all_within all_share writes_more clears_rest last_of answers_last ties_higher to_base keeps_first taken_too revoking_too asks_more long_enough first_nearest looks_once refusal_writes refuses_all answers_alike computing
all_shown = refl

-- A program that leaves what the rule leaves meets each case that the rule meets.
meeting : (program : Program) (c : Case) → Asks program → meets_by program c ≡ meets c
unfolding meets meets_by
meeting program c asks = ap (λ (o : Response). same (numbers o) (numbers c.expected)) (asks c.records c.question c.bases)

misses : (w : Wrong) → shown w ≡ true → Asks w.wrong → ⊥
unfolding shown
misses w e asks =
    let good = meets w.case && meets_by w.right w.case in
    let met = and_left (meets w.case) (meets_by w.right w.case) (and_left good (not (meets_by w.wrong w.case)) e) in
    let unmet = not-true (meets_by w.wrong w.case) (and_right good (not (meets_by w.wrong w.case)) e) in
    true≢false (sym met ∙ sym (meeting w.wrong w.case asks) ∙ unmet)

-- No wrong program of the list leaves what the rule leaves.
pub none_asks : NoneAsks programs
none_asks = every shown (λ w. Asks w.wrong → ⊥) misses programs all_shown
