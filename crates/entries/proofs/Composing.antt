-- Laws of runs: a run of one is the command, and a run is what it is cut into at any place. Assumes nothing.
use Prim.Native.Nat.{ℕ, zero, suc, ◌+◌, ◌-◌, ◌*◌, ◌≤◌, ◌<◌}
use native.Mathlib.Omega.{arith}
use mathlib.Core.Bool.{Bool, true, false, not, ◌&&◌, and-false}
use mathlib.Core.List.{List, [], ◌∷◌, ◌++◌}
use mathlib.Core.Path.{◌≡◌, refl, sym, ap, ◌∙◌}
use lib.ListN.{length, get_or}
use lib.Dec.{ltb, eqb}
use borrow.Author.Tests.{eq-eqb, eqb-true, ne_eqb, ltb-true, ltb-false}
use Rattle.capabilities.specs.Lists.{pick}
use Rattle.capabilities.proofs.Choice.{pick_yes, pick_no, pick_twice, same_test}
use Rattle.machine.proofs.Judging.{pick_by}
use Rattle.arrays.specs.declared.Arrays.{Arrays}
use Rattle.arrays.specs.declared.Answer.{Answer}
use Rattle.session_rules.specs.Session.{ends_session}
use Rattle.step.specs.Entries.{RanOn, command_on}
use Rattle.entries.specs.Runs.{answer_numbers, Run, run_of, resting, preceded, run_on, last_code, gone_on}
use Rattle.entries.proofs.Repeating.{preceded_twice, preceded_none, preceded_rest, onward, next, run_next, run_past}

-- One command as a run.
abbrev pub once : ℕ → RanOn → Run
once at t = run_of 1 (at + t.used) t.left.arrays t.left.cells t.left.tags (answer_numbers t.left.answer t.used)

pub run_one : (input : List ℕ) (a : Arrays) (at : ℕ) (cells tags : List ℕ) → at < length input
    → run_on 1 a input at cells tags ≡ once at (command_on a input at cells tags)
unfolding run_on
run_one input a at cells tags h =
    let t = command_on a input at cells tags in
    let numbers = answer_numbers t.left.answer t.used in
    let rest = resting (at + t.used) t.left.arrays t.left.cells t.left.tags in
    run_next input at 0 a cells tags h ∙ ap (preceded 1 numbers) (pick_twice (ends_session t.left.answer.code) rest)
    ∙ preceded_rest 1 numbers (at + t.used) t.left.arrays t.left.cells t.left.tags

-- A run has four numbers for each command that it did.
abbrev pub Long : Run → Type 0
Long r = length r.answers ≡ 4 * r.done

long_next : (r : Answer) (used : ℕ) (x : Run) → Long x → Long (preceded 1 (answer_numbers r used) x)
long_next r used x l = omega arith

pub run_long : (input : List ℕ) (room : ℕ) (a : Arrays) (at : ℕ) (cells tags : List ℕ) → Long (run_on room a input at cells tags)
unfolding run_on
run_long input zero a at cells tags = refl
run_long input (suc room) a at cells tags =
    let t = command_on a input at cells tags in
    pick_by Long (ltb at (length input)) (next input at room t) (resting at a cells tags)
    (λ h.
    long_next t.left.answer t.used (onward input at room t)
    (pick_by Long (ends_session t.left.answer.code) (resting (at + t.used) t.left.arrays t.left.cells t.left.tags)
    (run_on room t.left.arrays input (at + t.used) t.left.cells t.left.tags) (λ z. refl)
    (λ z. run_long input room t.left.arrays (at + t.used) t.left.cells t.left.tags))) (λ h. refl)

-- An answer that ends no run, put before others, does not change whether the last one ends it.
last_same : (r : Answer) (used : ℕ) (l : List ℕ) (n : ℕ) → length l ≡ 4 * n → ends_session r.code ≡ false
    → ends_session (last_code (answer_numbers r used ++ l)) ≡ ends_session (last_code l)
unfolding last_code
last_same r used [] n e z = z
last_same r used (x ∷ l) n e z =
    let far : length (answer_numbers r used ++ (x ∷ l)) - 4 ≡ suc (suc (suc (suc (length (x ∷ l) - 4)))) = omega arith in
    ap (λ (k : ℕ). ends_session (get_or (answer_numbers r used ++ (x ∷ l)) k 0)) far

-- A command before a run that may go on.
module _ (input : List ℕ) (m n : ℕ) (r : Answer) (used : ℕ) where
  abbrev numbers : List ℕ
  numbers = answer_numbers r used

  -- One that ends the run.
  gone_ended : ends_session r.code ≡ true → (at : ℕ) (a : Arrays) (cells tags : List ℕ)
      → preceded 1 numbers (resting at a cells tags) ≡ gone_on input m n (preceded 1 numbers (resting at a cells tags))
  unfolding gone_on last_code
  gone_ended z at a cells tags =
      let x = preceded 1 numbers (resting at a cells tags) in
      sym (pick_no (eqb x.done m && not (ends_session r.code)) (preceded x.done x.answers (run_on n a input at cells tags)) x
      (ap (λ (b : Bool). eqb x.done m && not b) z ∙ and-false (eqb x.done m)))

  -- One that does not.
  gone_after : ends_session r.code ≡ false → (x : Run) → Long x → preceded 1 numbers (gone_on input m n x) ≡ gone_on input (suc m) n (preceded 1 numbers x)
  unfolding gone_on
  gone_after z x l =
      let full : eqb (1 + x.done) (suc m) ≡ eqb x.done m =
      same_test (eqb (1 + x.done) (suc m)) (eqb x.done m)
      (λ e. let h : 1 + x.done ≡ suc m = eqb-true (1 + x.done) (suc m) e in eq-eqb x.done m (omega arith))
      (λ e. let h : x.done ≡ m = eqb-true x.done m e in eq-eqb (1 + x.done) (suc m) (omega arith)) in
      let rest = run_on n x.arrays input x.at x.cells x.tags in
      let whole = preceded 1 numbers x in
      let there = eqb x.done m && not (ends_session (last_code x.answers)) in
      go there (preceded x.done x.answers rest) x ∙ ap (λ (y : Run). pick there y whole) (preceded_twice 1 x.done numbers x.answers rest)
      ∙ ap (λ (b : Bool). pick (b && not (ends_session (last_code x.answers))) (preceded (1 + x.done) (numbers ++ x.answers) rest) whole) (sym full)
      ∙ ap (λ (b : Bool). pick (eqb (1 + x.done) (suc m) && not b) (preceded (1 + x.done) (numbers ++ x.answers) rest) whole)
      (sym (last_same r used x.answers x.done l z))
    where
      go : (b : Bool) (y w : Run) → preceded 1 numbers (pick b y w) ≡ pick b (preceded 1 numbers y) (preceded 1 numbers w)
      go true y w = refl
      go false y w = refl

-- A run of no command where there is room stays as it is.
gone_resting : (input : List ℕ) (m n at : ℕ) (a : Arrays) (cells tags : List ℕ) → resting at a cells tags ≡ gone_on input (suc m) n (resting at a cells tags)
unfolding gone_on
gone_resting input m n at a cells tags =
    let none : eqb 0 (suc m) ≡ false = ne_eqb 0 (suc m) (λ e. omega arith) in
    ap (λ (b : Bool). pick (b && not (ends_session (last_code []))) (preceded 0 [] (run_on n a input at cells tags)) (resting at a cells tags)) (sym none)

-- A command, and a run after it that is so cut.
module _ (input : List ℕ) (m n at : ℕ) (t : RanOn) where
  abbrev told : List ℕ
  told = answer_numbers t.left.answer t.used

  abbrev rest : Run
  rest = resting (at + t.used) t.left.arrays t.left.cells t.left.tags

  abbrev later : ℕ → Run
  later k = run_on k t.left.arrays input (at + t.used) t.left.cells t.left.tags

  gone_next : later (m + n) ≡ gone_on input m n (later m) → next input at (m + n) t ≡ gone_on input (suc m) n (next input at m t)
  gone_next e = go (ends_session t.left.answer.code) refl where
    go : (b : Bool) → ends_session t.left.answer.code ≡ b → next input at (m + n) t ≡ gone_on input (suc m) n (next input at m t)
    go true z =
        ap (preceded 1 told) (pick_yes (ends_session t.left.answer.code) rest (later (m + n)) z)
        ∙ gone_ended input (suc m) n t.left.answer t.used z (at + t.used) t.left.arrays t.left.cells t.left.tags
        ∙ ap (λ (x : Run). gone_on input (suc m) n (preceded 1 told x)) (sym (pick_yes (ends_session t.left.answer.code) rest (later m) z))
    go false z =
        ap (preceded 1 told) (pick_no (ends_session t.left.answer.code) rest (later (m + n)) z ∙ e)
        ∙ gone_after input m n t.left.answer t.used z (later m) (run_long input m t.left.arrays (at + t.used) t.left.cells t.left.tags)
        ∙ ap (λ (x : Run). gone_on input (suc m) n (preceded 1 told x)) (sym (pick_no (ends_session t.left.answer.code) rest (later m) z))

gone_first : (input : List ℕ) (n : ℕ) (a : Arrays) (at : ℕ) (cells tags : List ℕ)
    → run_on (0 + n) a input at cells tags ≡ gone_on input 0 n (run_on 0 a input at cells tags)
unfolding run_on gone_on last_code
gone_first input n a at cells tags =
    let all : 0 + n ≡ n = omega arith in
    ap (λ (k : ℕ). run_on k a input at cells tags) all ∙ sym (preceded_none (run_on n a input at cells tags))

-- A run with room for m + n is the one with room for m and, if that goes on, the one with room for n from there.
pub run_both : (input : List ℕ) (m n : ℕ) (a : Arrays) (at : ℕ) (cells tags : List ℕ)
    → run_on (m + n) a input at cells tags ≡ gone_on input m n (run_on m a input at cells tags)
run_both input zero n a at cells tags = gone_first input n a at cells tags
run_both input (suc m) n a at cells tags =
    let t = command_on a input at cells tags in
    let sum : suc m + n ≡ suc (m + n) = omega arith in
    ap (λ (k : ℕ). run_on k a input at cells tags) sum
    ∙ go (ltb at (length input)) refl
    (gone_next input m n at (command_on a input at cells tags) (run_both input m n t.left.arrays (at + t.used) t.left.cells t.left.tags))
  where
    go : (b : Bool) → ltb at (length input) ≡ b
        → next input at (m + n) (command_on a input at cells tags) ≡ gone_on input (suc m) n (next input at m (command_on a input at cells tags))
        → run_on (suc (m + n)) a input at cells tags ≡ gone_on input (suc m) n (run_on (suc m) a input at cells tags)
    go true e cut =
        let h : at < length input = ltb-true at (length input) e in
        run_next input at (m + n) a cells tags h ∙ cut ∙ ap (gone_on input (suc m) n) (sym (run_next input at m a cells tags h))
    go false e cut =
        let h : length input ≤ at = ltb-false at (length input) e in
        run_past input at (suc (m + n)) a cells tags h ∙ gone_resting input m n at a cells tags
        ∙ ap (gone_on input (suc m) n) (sym (run_past input at (suc m) a cells tags h))
