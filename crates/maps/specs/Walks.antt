-- What the walks carry from one record to the next: promises of functions that only this crate uses. Assumes nothing.
use Rattle.std.specs.Prelude.{ℕ, ◌+◌, Bool, true, ◌&&◌, ◌||◌, List, length, set, leb, ltb, eqb, Option, Some, None, Result, Ok, Err, ⊤, fold, option_map, is_some}
use Rattle.capabilities.specs.Lists.{pick}
use Rattle.capabilities.specs.declared.refusal.Refusal.{Refusal}
use Rattle.capabilities.specs.declared.refusal.Refusal.TheVariants as refusal
use Rattle.table.specs.Rows.{range_of}
use Rattle.table.specs.declared.Reservation.{Reservation}
use Rattle.maps.specs.declared.Question.{Question}
use Rattle.maps.specs.declared.Question.TheVariants.{Sharing, Within, Nearest}
use Rattle.maps.specs.declared.Found.{Found}
use Rattle.maps.specs.declared.Near.{Near}
use Rattle.maps.specs.declared.Seen.{Seen}
use Rattle.maps.specs.Cells.{distance}
use Rattle.maps.specs.Questions.{is_listed, candidate, bad_question}

abbrev pub near : ℕ → ℕ → Near
near base distance = record { base = base; distance = distance }

abbrev pub seen : Option ℕ → Option Near → Seen
seen end nearest = record { end = end; nearest = nearest }

-- Before the first record.
abbrev pub nothing : Seen
nothing = seen (Some 0) None

-- The record goes on where the others end, has a cell, and ends at 4,096 at most.
abbrev pub goes_on : ℕ → Reservation → Bool
goes_on from r = eqb r.base from && (ltb 0 r.length && leb (r.base + r.length) 4096)

-- One record more, of the tiling.
abbrev pub tile_with : Option ℕ → Reservation → Option ℕ
tile_with (Some from) r = pick (goes_on from r) (Some (r.base + r.length)) None
tile_with None r = None

-- Of this distance and base: nearer than the nearest so far, by its distance, or by its base at the same distance.
abbrev pub closer : ℕ → ℕ → Option Near → Bool
closer d base (Some n) = ltb d n.distance || (eqb d n.distance && ltb base n.base)
closer d base None = true

-- It is asked for, and takes the place of the nearest so far.
abbrev pub better : ℕ → ℕ → Option Near → Reservation → Bool
better cell cells nearest r = candidate cells r && closer (distance cell (range_of r)) r.base nearest

-- One record more, of those that are asked for.
abbrev pub near_with : ℕ → ℕ → Option Near → Reservation → Option Near
near_with cell cells nearest r = pick (better cell cells nearest r) (Some (near r.base (distance cell (range_of r)))) nearest

-- A list looks for no nearest one.
abbrev pub nearest_with : Question → Option Near → Reservation → Option Near
nearest_with (Sharing first cells) nearest r = nearest
nearest_with (Within first cells) nearest r = nearest
nearest_with (Nearest cell cells) nearest r = near_with cell cells nearest r

abbrev pub seen_with : Question → Seen → Reservation → Seen
seen_with q s r = seen (tile_with s.end r) (nearest_with q s.nearest r)

-- All records, one after the other.
abbrev pub seen_over : Question → Seen → List Reservation → Seen
seen_over q s l = fold (seen_with q) s l

-- 25 from where the records end.
abbrev pub judge_with : Question → Option ℕ → ℕ → ℕ → Result ⊤ Refusal
judge_with q (Some end) records room = pick ((eqb records 0 || ltb 64 records) || bad_question q end room) (Err refusal.Question) (Ok tt)
judge_with q None records room = Err refusal.Question

-- How many bases are listed, and the slice.
pub record Listing : Type 0 where
  pub count : ℕ
  pub bases : List ℕ

abbrev pub listing : ℕ → List ℕ → Listing
listing count bases = record { count = count; bases = bases }

-- One record more.
abbrev pub list_with : Question → Listing → Reservation → Listing
list_with q s r =
    pick (is_listed q (range_of r) && ltb s.count (length s.bases)) (listing (s.count + 1) (set s.bases s.count r.base)) s

abbrev pub list_over : Question → Listing → List Reservation → Listing
list_over q s l = fold (list_with q) s l

abbrev pub base_of : Option Near → Option ℕ
base_of nearest = option_map (λ n. n.base) nearest

-- What is found, from a list's length and the nearest one.
abbrev pub answer_with : Seen → ℕ → Found
answer_with s count = record { count = pick (is_some s.nearest) 1 count; nearest = base_of s.nearest }
