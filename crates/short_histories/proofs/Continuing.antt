-- The histories, found step by step: where a call is refused, nothing that begins so is tried. Assumes nothing.
use Prim.Native.Nat.{ℕ, zero, suc}
use mathlib.Core.Bool.{Bool, true, false, ◌&&◌}
use mathlib.Core.List.{List, [], ◌∷◌, map, map-map, flatten}
use mathlib.Core.Path.{◌≡◌, refl, sym, ◌∙◌, ap}
use lib.Dec.{eqb}
use Rattle.capabilities.specs.Lists.{pick, filter}
use Rattle.capabilities.proofs.Flatten.{filter_flatten, filter_map, filter_none, map_same}
use Rattle.calls.specs.declared.Call.{Call}
use Rattle.machine.specs.Formed.{start_of}
use Rattle.session_rules.specs.Session.{zeroed}
use Rattle.machine.specs.Step.{Outcome, is_granted}
use Rattle.histories.specs.Runs.{Machine, machine, outcome, next, granted}
use Rattle.histories.specs.Forming.{Standing}
use Rattle.histories.proofs.Forming.{standing_next, standing_ruled, standing_begun}
use Rattle.short_histories.specs.Listed.{choices, listed}
use Rattle.short_histories.specs.Histories.{fresh_one, grants_all, sequences, counts, histories}
use Rattle.short_histories.specs.Found.{by_rules, found_by}

-- Those of n listed commands from a state on.
abbrev pub continued : ℕ → Machine → List (List Call)
continued = found_by listed outcome is_granted

module _ (n : ℕ) (m : Machine) (c : Call) (ih : continued n (next m c) ≡ filter (grants_all (next m c)) (sequences n)) where
  begins : pick (granted m c) (map (λ h. c ∷ h) (continued n (next m c))) [] ≡ filter (grants_all m) (map (λ h. c ∷ h) (sequences n))
  unfolding grants_all
  begins = go (granted m c) ∙ sym (filter_map (grants_all m) (λ h. c ∷ h) (sequences n))
    where
      go : (b : Bool) → pick b (map (λ h. c ∷ h) (continued n (next m c))) [] ≡ map (λ h. c ∷ h) (filter (λ h. b && grants_all (next m c) h) (sequences n))
      go true = ap (map (λ h. c ∷ h)) ih
      go false = ap (map (λ h. c ∷ h)) (sym (filter_none (λ h. false) (sequences n) (λ h. refl)))

pub continued_all : (n : ℕ) (m : Machine) → continued n m ≡ filter (grants_all m) (sequences n)
unfolding found_by sequences choices filter grants_all next
continued_all zero m = refl
continued_all (suc n) m =
    ap flatten
    (map_same (λ c. pick (granted m c) (map (λ h. c ∷ h) (continued n (next m c))) []) (λ c. filter (grants_all m) (map (λ h. c ∷ h) (sequences n))) listed
    (λ c. begins n m c (continued_all n (next m c)))
    ∙ sym (map-map (filter (grants_all m)) (λ c. map (λ h. c ∷ h) (sequences n)) listed))
    ∙ sym (filter_flatten (grants_all m) (map (λ c. map (λ h. c ∷ h) (sequences n)) listed))

-- All short histories, so found.
pub histories_continued : histories ≡ flatten (map (λ n. continued n fresh_one) counts)
unfolding histories
histories_continued =
    filter_flatten (grants_all fresh_one) (map sequences counts)
    ∙ ap flatten
    (map-map (filter (grants_all fresh_one)) sequences counts
    ∙ map_same (λ n. filter (grants_all fresh_one) (sequences n)) (λ n. continued n fresh_one) counts (λ n. sym (continued_all n fresh_one)))

-- ---- The same by the rules alone
pub continued_ruled : (n : ℕ) (m : Machine) (v f : ℕ) → Standing m v f → continued n m ≡ found_by listed by_rules is_granted n m
unfolding found_by by_rules next
continued_ruled zero m v f s = refl
continued_ruled (suc n) m v f s =
    ap flatten
    (map_same _ _ listed
    (λ c.
    ap (λ hs. pick (granted m c) (map (λ h. c ∷ h) hs) []) (continued_ruled n (next m c) v f (standing_next m v f c s))
    ∙ ap
    (λ (o : Outcome). pick (eqb o.answer.code 0) (map (λ h. c ∷ h) (found_by listed by_rules is_granted n (machine o.answer.state o.cells o.tags))) [])
    (standing_ruled m v f c s)))

pub fresh_standing : Standing fresh_one 1 1
unfolding fresh_one
fresh_standing = standing_begun 1 1 (zeroed 1) (zeroed 1) (record { granted = unfold start_of in refl; of_cells = refl; of_tags = refl })
