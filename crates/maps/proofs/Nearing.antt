-- What a survey tells of the nearest: the least of those that are asked for among the records seen, or that there is none. The step of the
-- walk is the choice of the running minimum, on the base and the distance that it keeps.
use mathlib.Core.Path.{◌≡◌, refl, ◌∙◌, ap}
use Prim.Native.Nat.{ℕ}
use mathlib.Core.Bool.{Bool, true, false, ◌&&◌}
use mathlib.Core.List.{List, [], ◌∷◌}
use Rattle.std.specs.Prelude.{Option, Some, None, Ok, fold, is_some, unwrap_or}
use Rattle.capabilities.specs.Lists.{pick, filter}
use Rattle.table.specs.declared.Reservation.{Reservation}
use Rattle.table.specs.Rows.{range_of}
use Rattle.maps.specs.declared.Question.{Question}
use Rattle.maps.specs.declared.Near.{Near}
use Rattle.maps.specs.declared.Seen.{Seen}
use Rattle.maps.specs.Cells.{distance}
use Rattle.maps.specs.Questions.{candidate, nearer, nearest, Answer, answer, found, nearest_answer_of}
use Rattle.maps.specs.Walks.{near, near_with, nearest_with, seen_with, seen_over, base_of}

-- The nearest one goes through a survey by itself.
pub nearest_over : (q : Question) (s : Seen) (l : List Reservation) → (seen_over q s l).nearest ≡ fold (nearest_with q) s.nearest l
nearest_over q s [] = refl
nearest_over q s (r ∷ l) = nearest_over q (seen_with q s r) l

-- A question for a list looks for none.
pub lists_find_none : (q : Question) (m : Option Near) (l : List Reservation) → ((n : Option Near) (r : Reservation) → nearest_with q n r ≡ n) → fold (nearest_with q) m l ≡ m
lists_find_none q m [] same = refl
lists_find_none q m (r ∷ l) same = lists_find_none q (nearest_with q m r) l same ∙ same m r

-- What is answered from the nearest one.
abbrev pub told : Option Near → Answer
told m = answer 0 (pick (is_some m) 1 0) (unwrap_or (base_of m) 0)

pub told_alone : (m : Option Near) → nearest_answer_of (Ok (base_of m)) ≡ told m
told_alone None = refl
told_alone (Some n) = refl

module _ (c n : ℕ) where
  -- What the walk keeps of a record.
  abbrev kept : Reservation → Option Near
  kept r = Some (near r.base (distance c (range_of r)))

  abbrev walk : Option Near → List Reservation → Option Near
  walk m l = fold (near_with c n) m l

  abbrev asked : List Reservation → List Reservation
  asked l = filter (candidate n) l

  -- From a nearest one on: beside it the test of the walk is whether the record is nearer.
  best_after : (best : Reservation) (l : List Reservation) → walk (kept best) l ≡ kept (nearest c best (asked l))
  unfolding nearest filter
  best_after best [] = refl
  best_after best (r ∷ l) = go (best_after r l) (best_after best l) (candidate n r) (nearer c r best) ∙ ap kept (chosen (candidate n r))
    where
      go : walk (kept r) l ≡ kept (nearest c r (asked l)) → walk (kept best) l ≡ kept (nearest c best (asked l))
          → (t u : Bool) → walk (pick (t && u) (kept r) (kept best)) l ≡ kept (pick t (nearest c (pick u r best) (asked l)) (nearest c best (asked l)))
      go taken left true true = taken
      go taken left true false = left
      go taken left false u = left

      chosen : (t : Bool) → pick t (nearest c (pick (nearer c r best) r best) (asked l)) (nearest c best (asked l)) ≡ nearest c best (pick t (r ∷ asked l) (asked l))
      chosen true = refl
      chosen false = refl

  -- From none on: the first that is asked for is the nearest so far.
  pub found_after : (l : List Reservation) → told (walk None l) ≡ found c (asked l)
  unfolding found filter
  found_after [] = refl
  found_after (r ∷ l) = go (found_after l) (candidate n r)
    where
      go : told (walk None l) ≡ found c (asked l) → (t : Bool) → told (walk (pick (t && true) (kept r) None) l) ≡ found c (pick t (r ∷ asked l) (asked l))
      go rest true = ap told (best_after r l)
      go rest false = rest
