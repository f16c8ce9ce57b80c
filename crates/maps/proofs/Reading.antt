-- A walk over the records that numbers read as, from one turn to the next: maps:Turning, of the number at the place.
use Rattle.std.proofs.Common.{◌≡◌, ℕ, ◌+◌, ◌<◌, List, length, get_or, take, map, ap, ◌∙◌}
use Rattle.std.proofs.lemmas.List.{get_or_default}
use lib.ListN.{drop}
use Rattle.table.specs.declared.Reservation.{Reservation}
use Rattle.table.specs.Numbers.{row_from}
use Rattle.maps.specs.declared.Question.{Question}
use Rattle.maps.specs.declared.Seen.{Seen}
use Rattle.maps.specs.Walks.{seen_with, seen_over, Listing, list_with, list_over}
use Rattle.maps.proofs.Turning.{seen_read, list_read}

module _ (q : Question) (rows : List ℕ) where
  abbrev records : List Reservation
  records = map row_from rows

  -- The number at i, at whatever default.
  number_there : (i : ℕ) → i < length rows → get_or rows i 0 ≡ get_or rows i (get_or rows i 0)
  number_there i l = get_or_default rows i 0 (get_or rows i 0) l

  pub seen_number : (s s' total : Seen) (i : ℕ) (r : Reservation) → i < length rows → seen_over q s (drop i records) ≡ total → r ≡ row_from (get_or rows i 0)
      → s' ≡ seen_with q s r → seen_over q s' (drop (i + 1) records) ≡ total
  seen_number s s' total i r l e read step =
      seen_read row_from q rows s s' total i (get_or rows i 0) l (number_there i l) e (step ∙ ap (seen_with q s) read)

  pub list_number : (upto : ℕ) (s s' total : Listing) (i : ℕ) (r : Reservation) → (i < upto) × (i < length rows) → list_over q s (drop i (take upto records)) ≡ total → r ≡ row_from (get_or rows i 0)
      → s' ≡ list_with q s r → list_over q s' (drop (i + 1) (take upto records)) ≡ total
  list_number upto s s' total i r there e read step =
      list_read row_from q rows upto s s' total i (get_or rows i 0) there (number_there i there.1) e (step ∙ ap (list_with q s) read)
