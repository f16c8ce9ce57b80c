-- The lists: in a tiling each record begins above those before it, so the bases rise and two records have two bases. Assumes nothing.
use Prim.Native.Nat.{ℕ, ◌+◌, ◌<◌}
use mathlib.Core.Bool.{Bool, true, false, true≢false}
use mathlib.Core.List.{List, [], ◌∷◌, map}
use mathlib.Core.Path.{◌≡◌, sym, ◌∙◌, ap, subst}
use Rattle.capabilities.specs.Lists.{pick, In, Ordered, filter}
use Rattle.capabilities.proofs.Members.{in_map, from_map, in_filter, from_filter}
use Rattle.table.specs.declared.Reservation.{Reservation}
use Rattle.table.specs.Rows.{range_of}
use Rattle.maps.specs.declared.Question.{Question}
use Rattle.maps.specs.Records.{tile_from}
use Rattle.maps.specs.Questions.{is_listed, bases_of}
use Rattle.maps.specs.Promises.{ListRises, ListComplete, ListSound, OthersLeftOut}
use Rattle.maps.proofs.Tiled.{tile_begin, tile_behind, tile_one}

-- ---- The promises
abbrev passes : Question → Reservation → Bool
passes q r = is_listed q (range_of r)

abbrev base : Reservation → ℕ
base r = r.base

pub list_complete : ListComplete
unfolding bases_of
list_complete q l r i e = in_map base (filter (passes q) l) r (in_filter (passes q) l r i e)

pub list_sound : ListSound
unfolding bases_of
list_sound q l b i =
    let (r, (j, e)) = from_map base (filter (passes q) l) b i in
    let (k, h) = from_filter (passes q) l r j in
    (r, (k, (e, h)))

pub others_left_out : OthersLeftOut
others_left_out q l r t i e j =
    let (s, (k, (b, h))) = list_sound q l r.base j in
    true≢false (sym h ∙ ap (passes q) (tile_one 0 l s r t k i b) ∙ e)

-- Each listed base behind the first record is above it.
behind : (q : Question) (from : ℕ) (x : Reservation) (l : List Reservation) → tile_from from (x ∷ l) ≡ true → (c : ℕ) → In c (bases_of q l) → x.base < c
behind q from x l t c i =
    let (r, (j, (e, h))) = list_sound q l c i in
    subst (λ (n : ℕ). x.base < n) e (tile_behind from x l r t j)

rises_from : (q : Question) (from : ℕ) (l : List Reservation) → tile_from from l ≡ true → Ordered ◌<◌ (bases_of q l)
unfolding bases_of filter
rises_from q from [] t = tt
rises_from q from (x ∷ l) t = more (passes q x) (behind q from x l t) (rises_from q (from + x.length) l (tile_begin from x l t).rest)
  where
    more : (b : Bool) → ((c : ℕ) → In c (bases_of q l) → x.base < c) → Ordered ◌<◌ (bases_of q l) → Ordered ◌<◌ (map base (pick b (x ∷ filter (passes q) l) (filter (passes q) l)))
    more true above rest = (above, rest)
    more false above rest = rest

pub list_rises : ListRises
list_rises q l t = rises_from q 0 l t
