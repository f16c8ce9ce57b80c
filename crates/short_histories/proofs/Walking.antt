-- What the walk puts from the fresh start's arrays is the text. A well-formed state's arrays do what the state does, and histories that
-- begin alike have lines that begin alike. Assumes nothing.
use Prim.Native.Nat.{ℕ, zero, suc, ◌≤◌}
use native.Mathlib.Omega.{arith}
use mathlib.Core.Bool.{Bool, true, false}
use mathlib.Core.List.{List, [], ◌∷◌, ◌++◌, map, map-map, flatten, append-nil, append_assoc}
use mathlib.Core.Path.{◌≡◌, refl, sym, ◌∙◌, ap}
use lib.ListN.{get_or}
use Rattle.std.specs.Prelude.{Some, None}
use Rattle.capabilities.specs.Lists.{pick}
use Rattle.capabilities.proofs.Flatten.{map_flatten, map_same, flatten_flatten}
use Rattle.calls.specs.Commands.{bytes_of}
use Rattle.calls.specs.declared.Call.{Call}
use Rattle.machine.specs.State.{State}
use Rattle.machine.specs.Formed.{well_formed, start_of}
use Rattle.machine.specs.Step.{step_of}
use Rattle.session_rules.specs.Session.{zeroed}
use Rattle.histories.specs.Runs.{Machine, outcome, next, begun, granted}
use Rattle.histories.specs.Forming.{Standing}
use Rattle.histories.proofs.Forming.{standing_next}
use Rattle.arrays.specs.declared.Answer.{Answer}
use Rattle.arrays.specs.declared.Arrays.{Arrays}
use Rattle.arrays.specs.Reading.{arrays_of}
use Rattle.arrays.specs.Steps.{left_of}
use Rattle.arrays.proofs.RoundTrip.{state_back_again, written_formed}
use Rattle.formed.proofs.Tested.{passing}
use Rattle.step.specs.Entries.{judged_on, step_on}
use Rattle.entries.specs.ByValue.{beginning, start_on}
use Rattle.short_histories.specs.Listed.{listed}
use Rattle.short_histories.specs.Text.{bytes_in, hex_line, line_of}
use Rattle.short_histories.specs.Histories.{fresh_one, counts, text}
use Rattle.short_histories.specs.Found.{found_by}
use Rattle.short_histories.specs.Walk.{leading, led_by, onward, lines_on}
use Rattle.short_histories.proofs.Continuing.{continued, histories_continued, fresh_standing}

-- Lines of lists put together.
lines_of : {A B C : Type 0} (line : B → List C) (g : A → List B) (l : List A)
    → flatten (map line (flatten (map g l))) ≡ flatten (map (λ x. flatten (map line (g x))) l)
lines_of line g l =
    ap flatten (map_flatten line (map g l) ∙ ap flatten (map-map (map line) g l))
    ∙ flatten_flatten (map (λ x. map line (g x)) l) ∙ ap flatten (map-map flatten (λ x. map line (g x)) l)

-- A call on what a well-formed state is written as.
step_written : (s : State) (c : Call) (cells tags : List ℕ) → well_formed s ≡ true → step_on (arrays_of s) c cells tags ≡ left_of (step_of s c cells tags)
unfolding step_on judged_on step_of
step_written s c cells tags w = rw (passing (arrays_of s) (written_formed s w), state_back_again s w, w)

led_to : (m : Machine) (c : Call) → well_formed m.state ≡ true
    → led_by (step_on (arrays_of m.state) c m.cells m.tags) ≡ pick (granted m c) (Some (leading (arrays_of (next m c).state) (next m c).cells (next m c).tags)) None
unfolding led_by left_of outcome next
led_to m c w = ap led_by (step_written m.state c m.cells m.tags w)

-- The lines of those that go on from a state, behind some bytes.
unfoldable pub behind : List ℕ → List (List Call) → List ℕ
behind bytes hs = flatten (map (λ h. hex_line (bytes ++ bytes_in h)) hs)

one_more : (bytes : List ℕ) (c : Call) (hs : List (List Call)) → behind (bytes ++ bytes_of c) hs ≡ behind bytes (map (λ h. c ∷ h) hs)
unfolding behind bytes_in flatten
one_more bytes c hs =
    ap flatten
    (map_same (λ h. hex_line ((bytes ++ bytes_of c) ++ bytes_in h)) (λ h. hex_line (bytes ++ bytes_in (c ∷ h))) hs
    (λ h. ap hex_line (append_assoc bytes (bytes_of c) (bytes_in h)))
    ∙ sym (map-map (λ h. hex_line (bytes ++ bytes_in h)) (λ h. c ∷ h) hs))

pub lines_on_lem : (n : ℕ) (bytes : List ℕ) (m : Machine) (v f : ℕ) → Standing m v f
    → lines_on n bytes (arrays_of m.state) m.cells m.tags ≡ behind bytes (continued n m)
unfolding lines_on behind found_by onward next
lines_on_lem zero bytes m v f s = unfold bytes_in flatten in ap hex_line (sym (append-nil bytes)) ∙ sym (append-nil (hex_line (bytes ++ [])))
lines_on_lem (suc n) bytes m v f s =
    ap flatten
    (map_same (λ c. onward (lines_on n) bytes c (led_by (step_on (arrays_of m.state) c m.cells m.tags)))
    (λ c. behind bytes (pick (granted m c) (map (λ h. c ∷ h) (continued n (next m c))) [])) listed
    (λ c.
    ap (onward (lines_on n) bytes c) (led_to m c s.formed)
    ∙ go (granted m c) c (lines_on_lem n (bytes ++ bytes_of c) (next m c) v f (standing_next m v f c s) ∙ one_more bytes c (continued n (next m c)))))
    ∙ sym (lines_of (λ h. hex_line (bytes ++ bytes_in h)) (λ c. pick (granted m c) (map (λ h. c ∷ h) (continued n (next m c))) []) listed)
  where
    go : (b : Bool) (c : Call)
        → lines_on n (bytes ++ bytes_of c) (arrays_of (next m c).state) (next m c).cells (next m c).tags ≡ behind bytes (map (λ h. c ∷ h) (continued n (next m c)))
        → onward (lines_on n) bytes c (pick b (Some (leading (arrays_of (next m c).state) (next m c).cells (next m c).tags)) None)
        ≡ behind bytes (pick b (map (λ h. c ∷ h) (continued n (next m c))) [])
    go true c e = e
    go false c e = unfold flatten in refl

-- What the walk puts from the fresh start on, of histories of n commands; and the whole text, number by number.
abbrev pub from_start : ℕ → List ℕ
from_start n = lines_on n [] (arrays_of (start_of 1 1).state) (zeroed 1) (zeroed 1)

pub text_walked : text ≡ flatten (map from_start counts)
unfolding text behind line_of
text_walked =
    ap (λ hs. flatten (map line_of hs)) histories_continued
    ∙ lines_of line_of (λ n. continued n fresh_one) counts
    ∙ ap flatten
    (map_same (λ n. flatten (map line_of (continued n fresh_one))) from_start counts
    (λ n. unfold fresh_one begun in sym (lines_on_lem n [] fresh_one 1 1 fresh_standing)))

-- A number up to 3 is the one that stands there among the counts.
count_at : (k : ℕ) → k ≤ 3 → k ≡ get_or counts k 0
count_at zero h = refl
count_at (suc zero) h = refl
count_at (suc (suc zero)) h = refl
count_at (suc (suc (suc zero))) h = refl
count_at (suc (suc (suc (suc k)))) h = let z : ⊥ = omega arith in absurd z

start_arrays : (answer : Answer) (a : Arrays) → beginning answer a ≡ start_on 1 1 → a ≡ arrays_of (start_of 1 1).state
unfolding start_on
start_arrays answer a e = ap (λ b. b.arrays) e

pub starts_so : (answer : Answer) (a : Arrays) → beginning answer a ≡ start_on 1 1 → (k : ℕ) → k ≤ 3
    → lines_on k [] a (zeroed 1) (zeroed 1) ≡ from_start (get_or counts k 0)
starts_so answer a e k h = ap (λ b. lines_on k [] b (zeroed 1) (zeroed 1)) (start_arrays answer a e) ∙ ap from_start (count_at k h)
