-- What a survey tells of the tiling: it goes on exactly if the records seen tile and end at 4,096 at most, and its end is then theirs.
use mathlib.Core.Path.{◌≡◌, refl, sym, ◌∙◌, ap}
use Prim.Native.Nat.{ℕ, ◌+◌, ◌≤◌}
use native.Mathlib.Omega.{arith}
use native.Mathlib.Nat.{add_assoc}
use mathlib.Core.Bool.{Bool, true, false, ◌&&◌, false≢true}
use mathlib.Core.List.{List, [], ◌∷◌}
use lib.Dec.{eqb, leb, ltb}
use borrow.Author.Tests.{eqb-true, leb-true, leb-false, le-leb, lt-leb}
use Rattle.std.specs.Prelude.{Option, Some, None, is_some}
use Rattle.std.specs.Option.{unwrap_or}
use Rattle.capabilities.specs.Lists.{pick}
use Rattle.capabilities.proofs.Choice.{pick_yes, and_left, and_right}
use Rattle.table.specs.declared.Reservation.{Reservation}
use Rattle.maps.specs.declared.Question.{Question}
use Rattle.maps.specs.declared.Near.{Near}
use Rattle.maps.specs.declared.Seen.{Seen}
use Rattle.maps.specs.Records.{tile_from, cells_of}
use Rattle.maps.specs.Walks.{seen, goes_on, nearest_with, seen_over}

-- What a survey comes to that goes on.
unfoldable pub sound_from : ℕ → List Reservation → Bool
sound_from e l = tile_from e l && leb (e + cells_of l) 4096

-- The test of one record, by where those before it end.
abbrev fits : ℕ → Reservation → Bool
fits e r = eqb r.base e && (ltb 0 r.length && leb (e + r.length) 4096)

sound_next : (e : ℕ) (r : Reservation) (l : List Reservation) → sound_from e (r ∷ l) ≡ (fits e r && sound_from (e + r.length) l)
unfolding sound_from tile_from cells_of
sound_next e r l = go (eqb r.base e) (ltb 0 r.length) (tile_from (e + r.length) l) (leb (e + r.length) 4096) refl
  where
    low : leb (e + (r.length + cells_of l)) 4096 ≡ leb (e + r.length + cells_of l) 4096
    low = ap (λ (n : ℕ). leb n 4096) (sym (add_assoc e r.length (cells_of l)))

    high : leb (e + r.length) 4096 ≡ false → leb (e + (r.length + cells_of l)) 4096 ≡ false
    high h = let g = leb-false (e + r.length) 4096 h in lt-leb (e + (r.length + cells_of l)) 4096 (omega (arith, g))

    go : (a b t m : Bool) → leb (e + r.length) 4096 ≡ m
        → ((a && b) && t) && leb (e + (r.length + cells_of l)) 4096 ≡ ((a && (b && m)) && (t && leb (e + r.length + cells_of l) 4096))
    go false b t m h = refl
    go true false t m h = refl
    go true true t true h = ap (λ (x : Bool). t && x) low
    go true true true false h = high h
    go true true false false h = refl

sound_none : (e : ℕ) → e ≤ 4096 → sound_from e [] ≡ true
unfolding sound_from tile_from cells_of
sound_none e w = le-leb (e + 0) 4096 (omega (arith, w))

goes_on_fits : (e : ℕ) (r : Reservation) → goes_on e r ≡ fits e r
goes_on_fits e r = go (eqb r.base e) refl
  where
    go : (t : Bool) → eqb r.base e ≡ t → t && (ltb 0 r.length && leb (r.base + r.length) 4096) ≡ (t && (ltb 0 r.length && leb (e + r.length) 4096))
    go true t = ap (λ (k : ℕ). ltb 0 r.length && leb (k + r.length) 4096) (eqb-true r.base e t)
    go false t = refl

-- Where the records end, if they go on.
abbrev pub ends : ℕ → List Reservation → Option ℕ
ends e l = pick (sound_from e l) (Some (e + cells_of l)) None

ends_none : (e : ℕ) → e ≤ 4096 → Some e ≡ ends e []
unfolding cells_of
ends_none e w = ap Some (omega arith) ∙ sym (pick_yes (sound_from e []) (Some (e + cells_of [])) None (sound_none e w))

ends_next : (e : ℕ) (r : Reservation) (l : List Reservation) (t : Bool) → goes_on e r ≡ t → pick t (ends (e + r.length) l) None ≡ ends e (r ∷ l)
unfolding cells_of
ends_next e r l t h = go t (sound_next e r l ∙ ap (λ (b : Bool). b && sound_from (e + r.length) l) (sym (goes_on_fits e r) ∙ h))
  where
    go : (t : Bool) → sound_from e (r ∷ l) ≡ (t && sound_from (e + r.length) l) → pick t (ends (e + r.length) l) None ≡ pick (sound_from e (r ∷ l)) (Some (e + (r.length + cells_of l))) None
    go true s i = pick (sym s i) (Some (add_assoc e r.length (cells_of l) i)) None
    go false s i = pick (sym s i) (Some (e + (r.length + cells_of l))) None

-- Once it is off, it stays off.
stays_off : (q : Question) (nearest : Option Near) (l : List Reservation) → (seen_over q (seen None nearest) l).end ≡ None
stays_off q nearest [] = refl
stays_off q nearest (r ∷ l) = stays_off q (nearest_with q nearest r) l

-- One that goes on begins where the others end.
next_end : (e : ℕ) (r : Reservation) → goes_on e r ≡ true → r.base + r.length ≡ e + r.length
next_end e r h = ap (λ (k : ℕ). k + r.length) (eqb-true r.base e (and_left (eqb r.base e) (ltb 0 r.length && leb (r.base + r.length) 4096) h))

next_low : (e : ℕ) (r : Reservation) → goes_on e r ≡ true → r.base + r.length ≤ 4096
next_low e r h =
    leb-true (r.base + r.length) 4096 (and_right (ltb 0 r.length) (leb (r.base + r.length) 4096) (and_right (eqb r.base e) (ltb 0 r.length && leb (r.base + r.length) 4096) h))

-- Where a survey that goes on so far ends.
pub ends_lem : (q : Question) (e : ℕ) (nearest : Option Near) (l : List Reservation) → e ≤ 4096 → (seen_over q (seen (Some e) nearest) l).end ≡ ends e l
ends_lem q e nearest [] w = ends_none e w
ends_lem q e nearest (r ∷ l) w = go (λ low. ends_lem q (r.base + r.length) near' l low) (goes_on e r) refl
  where
    near' : Option Near
    near' = nearest_with q nearest r

    go : (r.base + r.length ≤ 4096 → (seen_over q (seen (Some (r.base + r.length)) near') l).end ≡ ends (r.base + r.length) l)
        → (t : Bool) → goes_on e r ≡ t → (seen_over q (seen (pick t (Some (r.base + r.length)) None) near') l).end ≡ ends e (r ∷ l)
    go rest true t = rest (next_low e r t) ∙ ap (λ (k : ℕ). ends k l) (next_end e r t) ∙ ends_next e r l true t
    go rest false t = stays_off q near' l ∙ ends_next e r l false t

-- A survey that goes on so far goes on exactly if the rest is sound.
pub goes_on_lem : (q : Question) (s : Seen) (e : ℕ) (l : List Reservation) → s.end ≡ Some e → e ≤ 4096 → is_some (seen_over q s l).end ≡ sound_from e l
goes_on_lem q s e l on w =
    ap (λ (end : Option ℕ). is_some (seen_over q (seen end s.nearest) l).end) on ∙ ap is_some (ends_lem q e s.nearest l w) ∙ go (sound_from e l)
  where
    go : (t : Bool) → is_some (pick t (Some (e + cells_of l)) None) ≡ t
    go true = refl
    go false = refl

-- Where it went on to the end, its end is that of the records.
end_from : (q : Question) (e k : ℕ) (nearest : Option Near) (l : List Reservation) → (seen_over q (seen (Some e) nearest) l).end ≡ Some k → k ≡ e + cells_of l
unfolding cells_of
end_from q e k nearest [] h = let same : e ≡ k = ap (λ (end : Option ℕ). unwrap_or end 0) h in omega arith
end_from q e k nearest (r ∷ l) h = go (end_from q (r.base + r.length) k near' l) (goes_on e r) refl h
  where
    near' : Option Near
    near' = nearest_with q nearest r

    go : ((seen_over q (seen (Some (r.base + r.length)) near') l).end ≡ Some k → k ≡ (r.base + r.length) + cells_of l)
        → (t : Bool) → goes_on e r ≡ t → (seen_over q (seen (pick t (Some (r.base + r.length)) None) near') l).end ≡ Some k → k ≡ e + (r.length + cells_of l)
    go rest true t i = rest i ∙ ap (λ (n : ℕ). n + cells_of l) (next_end e r t) ∙ add_assoc e r.length (cells_of l)
    go rest false t i = absurd (false≢true (ap is_some (sym (stays_off q near' l) ∙ i)))

pub ends_at : (q : Question) (s : Seen) (e k : ℕ) (l : List Reservation) → s.end ≡ Some e → (seen_over q s l).end ≡ Some k → k ≡ e + cells_of l
ends_at q s e k l on h = end_from q e k s.nearest l (sym (ap (λ (end : Option ℕ). (seen_over q (seen end s.nearest) l).end) on) ∙ h)
