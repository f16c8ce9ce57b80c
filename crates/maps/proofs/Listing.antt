-- What the walk for a list leaves: the bases of those that are asked for, in their order, in front of the rest of the slice; and of a
-- question that lists none, the slice as it was. One law about the bases listed so far and the room behind them.
use mathlib.Core.Path.{◌≡◌, refl, sym, ◌∙◌, ap}
use Prim.Native.Nat.{ℕ, suc, ◌+◌, ◌<◌, ◌≤◌}
use native.Mathlib.Omega.{arith}
use native.Mathlib.Nat.{zero-add, add-zero}
use mathlib.Core.Bool.{Bool, true, false, ◌&&◌}
use mathlib.Core.List.{List, [], ◌∷◌, ◌++◌, map, append_assoc}
use lib.ListN.{length, set, drop, length-append}
use lib.Dec.{ltb}
use borrow.Author.Tests.{lt-ltb}
use Rattle.capabilities.specs.Lists.{filter}
use Rattle.capabilities.proofs.Choice.{pick_yes, pick_no, both}
use Rattle.table.specs.declared.Reservation.{Reservation}
use Rattle.table.specs.Rows.{range_of}
use Rattle.maps.specs.declared.Question.{Question}
use Rattle.maps.specs.declared.Question.TheVariants.{Nearest}
use Rattle.maps.specs.Questions.{is_listed, bases_of}
use Rattle.maps.specs.Walks.{Listing, listing, list_with, list_over}

abbrev asks : Question → Reservation → Bool
asks q r = is_listed q (range_of r)

bases_more : (q : Question) (r : Reservation) (l : List Reservation) → asks q r ≡ true → bases_of q (r ∷ l) ≡ r.base ∷ bases_of q l
unfolding bases_of filter
bases_more q r l e = ap (map (λ (x : Reservation). x.base)) (pick_yes (asks q r) (r ∷ filter (asks q) l) (filter (asks q) l) e)

bases_same : (q : Question) (r : Reservation) (l : List Reservation) → asks q r ≡ false → bases_of q (r ∷ l) ≡ bases_of q l
unfolding bases_of filter
bases_same q r l e = ap (map (λ (x : Reservation). x.base)) (pick_no (asks q r) (r ∷ filter (asks q) l) (filter (asks q) l) e)

bases_none : (q : Question) → bases_of q [] ≡ []
unfolding bases_of filter
bases_none q = refl

-- The first place of the room.
set_there : (done : List ℕ) (x b : ℕ) (room : List ℕ) → set (done ++ (x ∷ room)) (length done) b ≡ (done ++ (b ∷ [])) ++ room
set_there [] x b room = refl
set_there (d ∷ done) x b room = ap (λ (l : List ℕ). d ∷ l) (set_there done x b room)

behind : (done : List ℕ) (b : ℕ) (l : List ℕ) → (done ++ (b ∷ [])) ++ l ≡ done ++ (b ∷ l)
behind done b l = append_assoc done (b ∷ []) l

one_longer : (done : List ℕ) (b : ℕ) → length (done ++ (b ∷ [])) ≡ length done + 1
one_longer done b = length-append done (b ∷ [])

with_more : (q : Question) (r : Reservation) (done : List ℕ) (x : ℕ) (room : List ℕ) → asks q r ≡ true
    → list_with q (listing (length done) (done ++ (x ∷ room))) r ≡ listing (length (done ++ (r.base ∷ []))) ((done ++ (r.base ∷ [])) ++ room)
with_more q r done x room e =
    pick_yes (asks q r && ltb (length done) (length (done ++ (x ∷ room)))) _ _ (both (asks q r) (ltb (length done) (length (done ++ (x ∷ room)))) e (lt-ltb (length done) (length (done ++ (x ∷ room))) there))
    ∙ (λ i. listing (sym (one_longer done r.base) i) (set_there done x r.base room i))
  where
    there : length done < length (done ++ (x ∷ room))
    there = let h = length-append done (x ∷ room) in omega (arith, h)

with_same : (q : Question) (r : Reservation) (s : Listing) → asks q r ≡ false → list_with q s r ≡ s
with_same q r s e = pick_no (asks q r && ltb s.count (length s.bases)) _ s (ap (λ (t : Bool). t && ltb s.count (length s.bases)) e)

-- All records, with room for each.
abbrev leaves : Question → List Reservation → List ℕ → List ℕ → Listing
leaves q l done room = listing (length done + length (bases_of q l)) (done ++ (bases_of q l ++ drop (length (bases_of q l)) room))

none_left : (q : Question) (done room : List ℕ) → listing (length done) (done ++ room) ≡ leaves q [] done room
none_left q done room =
    (λ i. listing (sym (add-zero (length done)) i) (done ++ room)) ∙ ap (λ (k : List ℕ). listing (length done + length k) (done ++ (k ++ drop (length k) room))) (sym (bases_none q))

leaves_more : (q : Question) (r : Reservation) (l : List Reservation) (done : List ℕ) (x : ℕ) (room : List ℕ) → asks q r ≡ true
    → leaves q l (done ++ (r.base ∷ [])) room ≡ leaves q (r ∷ l) done (x ∷ room)
leaves_more q r l done x room e =
    (λ i. listing (counts i) (behind done r.base (bases_of q l ++ drop (length (bases_of q l)) room) i))
    ∙ ap (λ (k : List ℕ). listing (length done + length k) (done ++ (k ++ drop (length k) (x ∷ room)))) (sym (bases_more q r l e))
  where
    counts : length (done ++ (r.base ∷ [])) + length (bases_of q l) ≡ length done + suc (length (bases_of q l))
    counts = let h = one_longer done r.base in omega (arith, h)

leaves_same : (q : Question) (r : Reservation) (l : List Reservation) (done room : List ℕ) → asks q r ≡ false → leaves q l done room ≡ leaves q (r ∷ l) done room
leaves_same q r l done room e = ap (λ (k : List ℕ). listing (length done + length k) (done ++ (k ++ drop (length k) room))) (sym (bases_same q r l e))

pub list_leaves : (q : Question) (l : List Reservation) (done room : List ℕ) → length l ≤ length room → list_over q (listing (length done) (done ++ room)) l ≡ leaves q l done room
list_leaves q [] done room w = none_left q done room
list_leaves q (r ∷ l) done [] w = absurd (no w)
  where
    no : suc (length l) ≤ 0 → ⊥
    no w = omega (arith, w)
list_leaves q (r ∷ l) done (x ∷ room) w =
    go (list_leaves q l (done ++ (r.base ∷ [])) room (omega (arith, w))) (list_leaves q l done (x ∷ room) (omega (arith, w))) (asks q r) refl
  where
    go : list_over q (listing (length (done ++ (r.base ∷ []))) ((done ++ (r.base ∷ [])) ++ room)) l ≡ leaves q l (done ++ (r.base ∷ [])) room
        → list_over q (listing (length done) (done ++ (x ∷ room))) l ≡ leaves q l done (x ∷ room)
        → (t : Bool) → asks q r ≡ t → list_over q (list_with q (listing (length done) (done ++ (x ∷ room))) r) l ≡ leaves q (r ∷ l) done (x ∷ room)
    go more same true e = ap (λ (s : Listing). list_over q s l) (with_more q r done x room e) ∙ more ∙ leaves_more q r l done x room e
    go more same false e = ap (λ (s : Listing). list_over q s l) (with_same q r (listing (length done) (done ++ (x ∷ room))) e) ∙ same ∙ leaves_same q r l done (x ∷ room) e

-- From an empty list on.
pub all_listed : (q : Question) (l : List Reservation) (bases : List ℕ) → length l ≤ length bases
    → list_over q (listing 0 bases) l ≡ listing (length (bases_of q l)) (bases_of q l ++ drop (length (bases_of q l)) bases)
all_listed q l bases w =
    list_leaves q l [] bases w ∙ ap (λ (n : ℕ). listing n (bases_of q l ++ drop (length (bases_of q l)) bases)) (zero-add (length (bases_of q l)))

-- A question for the nearest lists none.
pub none_listed : (cell cells : ℕ) (s : Listing) (l : List Reservation) → list_over (Nearest cell cells) s l ≡ s
unfolding is_listed
none_listed cell cells s [] = refl
none_listed cell cells s (r ∷ l) = none_listed cell cells s l
