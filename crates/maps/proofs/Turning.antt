-- What a walk over records still has to come to, from one turn to the next.
use Rattle.std.proofs.Common.{◌≡◌, ℕ, suc, ◌+◌, ◌<◌, List, [], ◌∷◌, length, get_or, take, map, fold, Option, Some, None, Bool, true, false, ◌&&◌, refl, sym, ap, ◌∙◌, subst}
use Rattle.std.proofs.lemmas.List.{get_or_default}
use native.Mathlib.Omega.{arith}
use lib.ListN.{drop, length-map, get_or-map, length-take}
use lib.Seq.{drop-cons, get_or-take, take-length}
use Rattle.table.specs.declared.Reservation.{Reservation}
use Rattle.table.specs.Rows.{blank}
use mathlib.Core.Logic.{◌⊎◌, inl, inr}
use Rattle.maps.specs.declared.Question.{Question}
use Rattle.maps.specs.declared.Question.TheVariants.{Sharing, Within}
use Rattle.maps.specs.declared.Seen.{Seen}
use Rattle.maps.specs.declared.Near.{Near}
use Rattle.capabilities.specs.Lists.{pick}
use Rattle.maps.proofs.Nearing.{lists_find_none}
use Rattle.maps.specs.Walks.{seen, nothing, goes_on, tile_with, nearest_with, seen_with, seen_over, Listing, list_with, list_over}

-- One record more, whatever the walk carries.
turn : {S : Type 0} (f : S → Reservation → S) (ys : List Reservation) (s s' total : S) (i : ℕ) → i < length ys → fold f s (drop i ys) ≡ total → s' ≡ f s (get_or ys i blank)
    → fold f s' (drop (i + 1) ys) ≡ total
turn f ys s s' total i within e step =
    let next : i + 1 ≡ suc i = omega arith in
    ap (λ t. fold f t (drop (i + 1) ys)) step ∙ ap (λ k. fold f (f s (get_or ys i blank)) (drop k ys)) next ∙ sym (ap (fold f s) (drop-cons ys i blank within)) ∙ e

-- What is seen of records is where they end, and the nearest of them: each part goes through a survey by itself.
pub seen_parts : (q : Question) (s : Seen) (l : List Reservation) → seen_over q s l ≡ seen (fold tile_with s.end l) (fold (nearest_with q) s.nearest l)
seen_parts q s [] = refl
seen_parts q s (r ∷ l) = seen_parts q (seen_with q s r) l

-- A question for a list looks for no nearest one.
pub no_nearest : (q : Question) → ((f : ℕ) × (n : ℕ) × (q ≡ Sharing f n)) ⊎ ((f : ℕ) × (n : ℕ) × (q ≡ Within f n)) → (m : Option Near) (r : Reservation) → nearest_with q m r ≡ m
no_nearest q (inl (f, n, is)) m r = ap (λ (k : Question). nearest_with k m r) is
no_nearest q (inr (f, n, is)) m r = ap (λ (k : Question). nearest_with k m r) is

pub list_parts : (q : Question) (l : List Reservation) (e : Option ℕ) → ((n : Option Near) (r : Reservation) → nearest_with q n r ≡ n) → e ≡ fold tile_with (Some 0) l → seen e None ≡ seen_over q nothing l
list_parts q l e same h = (λ j. seen (h j) (sym (lists_find_none q None l same) j)) ∙ sym (seen_parts q nothing l)

-- The end is kept beside a flag that says whether there is one.
pub tile_flag : (t : Bool) (e : ℕ) (r : Reservation) → pick (t && goes_on e r) (Some (r.base + r.length)) None ≡ tile_with (pick t (Some e) None) r
tile_flag true e r = refl
tile_flag false e r = refl

-- One record more of the first part.
tile_turn : (ys : List Reservation) (e e' total : Option ℕ) (i : ℕ) → i < length ys → fold tile_with e (drop i ys) ≡ total → e' ≡ tile_with e (get_or ys i blank)
    → fold tile_with e' (drop (i + 1) ys) ≡ total
tile_turn = turn tile_with

module _ (q : Question) (ys : List Reservation) where
  -- And of the second.
  near_turn : (n n' total : Option Near) (i : ℕ) → i < length ys → fold (nearest_with q) n (drop i ys) ≡ total → n' ≡ nearest_with q n (get_or ys i blank)
      → fold (nearest_with q) n' (drop (i + 1) ys) ≡ total
  near_turn = turn (nearest_with q) ys

  -- One record more is seen: both parts' turns.
  pub seen_turn : (s s' total : Seen) (i : ℕ) → i < length ys → seen_over q s (drop i ys) ≡ total → s' ≡ seen_with q s (get_or ys i blank) → seen_over q s' (drop (i + 1) ys) ≡ total
  seen_turn s s' total i within e step =
      let parts = sym (seen_parts q s (drop i ys)) ∙ e in
      seen_parts q s' (drop (i + 1) ys)
      ∙ (λ j. seen (tile_turn ys s.end s'.end total.end i within (ap (λ (t : Seen). t.end) parts) (ap (λ (t : Seen). t.end) step) j)
      (near_turn s.nearest s'.nearest total.nearest i within (ap (λ (t : Seen). t.nearest) parts) (ap (λ (t : Seen). t.nearest) step) j))

  -- One record more is listed from, of as many as are named.
  pub list_turn : (upto : ℕ) (s s' total : Listing) (i : ℕ) → (i < upto) × (i < length ys) → list_over q s (drop i (take upto ys)) ≡ total
      → s' ≡ list_with q s (get_or ys i blank) → list_over q s' (drop (i + 1) (take upto ys)) ≡ total
  list_turn upto s s' total i there e step =
      turn (list_with q) (take upto ys) s s' total i (let low = there.0 in let high = there.1 in omega (arith, low, high, length-take upto ys)) e
      (step ∙ ap (list_with q s) (sym (get_or-take upto ys i blank there.0)))

-- Whatever the records lie as: what is read at i is the record there.
module _ {X : Type 0} (read : X → Reservation) (xs : List X) where
  inside : (i : ℕ) → i < length xs → i < length (map read xs)
  inside i within = subst (λ (n : ℕ). i < n) (sym (length-map xs read)) within

  read_there : (i : ℕ) (x : X) → i < length xs → x ≡ get_or xs i x → read x ≡ get_or (map read xs) i blank
  read_there i x within there = ap read there ∙ sym (get_or-map read xs i x) ∙ get_or_default (map read xs) i (read x) blank (inside i within)

-- The same where the records are read one by one.
pub turn_read : {X S : Type 0} (read : X → Reservation) (xs : List X) (f : S → Reservation → S) (s s' total : S) (i : ℕ) (x : X) → i < length xs → x ≡ get_or xs i x
    → fold f s (drop i (map read xs)) ≡ total → s' ≡ f s (read x) → fold f s' (drop (i + 1) (map read xs)) ≡ total
turn_read read xs f s s' total i x within there e step =
    turn f (map read xs) s s' total i (inside read xs i within) e (step ∙ ap (f s) (read_there read xs i x within there))

-- A turn of the walk for where the records end.
pub tile_read : {X : Type 0} (read : X → Reservation) (xs : List X) (e e' total : Option ℕ) (i : ℕ) (x : X) → i < length xs → x ≡ get_or xs i x → fold tile_with e (drop i (map read xs)) ≡ total
    → e' ≡ tile_with e (read x) → fold tile_with e' (drop (i + 1) (map read xs)) ≡ total
tile_read read xs e e' total i x within there h step =
    tile_turn (map read xs) e e' total i (inside read xs i within) h (step ∙ ap (tile_with e) (read_there read xs i x within there))

-- A turn of the code, which reads them so: seen_turn and list_turn of what is read.
module _ {X : Type 0} (read : X → Reservation) (q : Question) (xs : List X) where
  abbrev records : List Reservation
  records = map read xs

  -- A turn of the walk for the nearest.
  pub near_read : (n n' total : Option Near) (i : ℕ) (x : X) → i < length xs → x ≡ get_or xs i x → fold (nearest_with q) n (drop i records) ≡ total → n' ≡ nearest_with q n (read x)
      → fold (nearest_with q) n' (drop (i + 1) records) ≡ total
  near_read n n' total i x within there h step =
      near_turn q records n n' total i (inside read xs i within) h (step ∙ ap (nearest_with q n) (read_there read xs i x within there))

  pub seen_read : (s s' total : Seen) (i : ℕ) (x : X) → i < length xs → x ≡ get_or xs i x → seen_over q s (drop i records) ≡ total → s' ≡ seen_with q s (read x)
      → seen_over q s' (drop (i + 1) records) ≡ total
  seen_read s s' total i x within there e step =
      seen_turn q records s s' total i (inside read xs i within) e (step ∙ ap (seen_with q s) (read_there read xs i x within there))

  pub list_read : (upto : ℕ) (s s' total : Listing) (i : ℕ) (x : X) → (i < upto) × (i < length xs) → x ≡ get_or xs i x → list_over q s (drop i (take upto records)) ≡ total
      → s' ≡ list_with q s (read x) → list_over q s' (drop (i + 1) (take upto records)) ≡ total
  list_read upto s s' total i x within there e step =
      list_turn q records upto s s' total i (within.0, inside read xs i within.1) e (step ∙ ap (list_with q s) (read_there read xs i x within.1 there))

  -- All of them are named.
  pub list_read_all : (s s' total : Listing) (i : ℕ) (x : X) → i < length xs → x ≡ get_or xs i x → list_over q s (drop i records) ≡ total → s' ≡ list_with q s (read x)
      → list_over q s' (drop (i + 1) records) ≡ total
  list_read_all s s' total i x within there e step =
      subst (λ (l : List Reservation). list_over q s' (drop (i + 1) l) ≡ total) all
      (list_read (length xs) s s' total i x (within, within) there (ap (λ (l : List Reservation). list_over q s (drop i l)) all ∙ e) step)
    where
      all : take (length xs) records ≡ records
      all = ap (λ (n : ℕ). take n records) (sym (length-map xs read)) ∙ take-length records
