-- The ways of the exported functions, each as its code goes. Assumes nothing.
use Prim.Native.Nat.{ℕ, ◌<◌, ◌≤◌}
use mathlib.Core.Bool.{Bool, true, false, ◌&&◌}
use mathlib.Core.List.{List, ◌++◌}
use mathlib.Core.Logic.{◌≢◌}
use mathlib.Core.Path.{◌≡◌, refl, sym, ap, ◌∙◌}
use lib.ListN.{length, take, drop}
use lib.Seq.{length-take-le}
use lib.Dec.{eqb, leb}
use borrow.Author.Tests.{eq-eqb, ne_eqb, le-leb, lt-leb}
use Rattle.capabilities.proofs.Choice.{pick_yes, pick_no}
use Rattle.words.specs.Words.{empty}
use Rattle.machine.specs.Formed.{start_of}
use Rattle.arrays.specs.declared.Arrays.{Arrays}
use Rattle.arrays.specs.declared.Numbers.{Numbers}
use Rattle.arrays.specs.Reading.{arrays, arrays_of}
use Rattle.arrays.specs.Steps.{answer}
use Rattle.formed.specs.Test.{formed_of, sized}
use Rattle.formed.specs.Fresh.{Start, starting, start_in}
use Rattle.step.specs.Entries.{RanOn, command_on}
use Rattle.entries.specs.Runs.{Run, answer_numbers, run_of, run_in}
use Rattle.cetomuhi.specs.Lent.{Lent, lent, numbers_from, numbers_over, arrays_in, arrays_over}
use Rattle.cetomuhi.proofs.Writing.{lent_back}
use Rattle.cetomuhi.proofs.One.{run_of_one, command_ended}
use Rattle.cetomuhi.specs.Exports.{done, done_one, end_code, reached, Started, started, start_lent, command_lent, commands_lent}

module _ (l : Lent) where
  -- What is lent, with the small numbers that were read from it.
  abbrev with_numbers : Numbers → Arrays
  with_numbers n = arrays n l.words l.marks l.mail l.flags l.rows l.pages l.frames l.principals l.counts

  abbrev over : List ℕ → Arrays → Lent
  over numbers b = lent numbers b.words b.marks b.mail b.flags b.rows b.pages b.frames b.principals b.counts

  abbrev fit : Bool
  fit = eqb (length l.numbers) 6 && sized (arrays_in l)

  module _ (v f : ℕ) where
    abbrev yes : Started
    yes = started (start_of v f).code (arrays_over (arrays_of (start_of v f).state) l)

    abbrev start : Start
    start = starting (start_of v f).code (arrays_of (start_of v f).state)

    kept : fit ≡ false → started 1 l ≡ start_lent v f l
    unfolding start_lent
    kept e = sym (pick_no fit yes (started 1 l) e)

    pub start_other : length l.numbers ≢ 6 → started 1 l ≡ start_lent v f l
    start_other h = kept (ap (λ (x : Bool). x && sized (arrays_in l)) (ne_eqb (length l.numbers) 6 h))

    pub start_six : length l.numbers ≡ 6 → (n : Numbers) → n ≡ numbers_from l.numbers
        → (k : ℕ) (b : Arrays) → starting k b ≡ start_in v f (with_numbers n)
        → (numbers : List ℕ) → numbers ≡ numbers_over b.nums l.numbers → started k (over numbers b) ≡ start_lent v f l
    unfolding start_lent start_in
    start_six h n e k b d numbers q =
        ap (λ (x : List ℕ). started k (over x b)) q
        ∙ ap (λ (x : Start). started x.code (arrays_over x.arrays l)) (d ∙ ap (λ (x : Numbers). start_in v f (with_numbers x)) e) ∙ go (sized (arrays_in l)) refl
      where
        six : (b : Bool) → sized (arrays_in l) ≡ b → fit ≡ b
        six b z = ap (λ (x : Bool). x && sized (arrays_in l)) (eq-eqb (length l.numbers) 6 h) ∙ z

        go : (b : Bool) → sized (arrays_in l) ≡ b → started (start_in v f (arrays_in l)).code (arrays_over (start_in v f (arrays_in l)).arrays l) ≡ start_lent v f l
        go true z =
            ap (λ (x : Start). started x.code (arrays_over x.arrays l)) (pick_yes (sized (arrays_in l)) start (starting 1 (arrays_in l)) z)
            ∙ sym (pick_yes fit yes (started 1 l) (six true z))
        go false z =
            ap (λ (x : Start). started x.code (arrays_over x.arrays l)) (pick_no (sized (arrays_in l)) start (starting 1 (arrays_in l)) z)
            ∙ ap (started 1) (lent_back l) ∙ kept (six false z)

  module _ (input : List ℕ) (at : ℕ) (cells tags answers : List ℕ) where
    abbrev t : RanOn
    t = command_on (arrays_in l) input at cells tags

    pub command_none : length answers < 4 → done 0 l cells tags answers ≡ command_lent l input at cells tags answers
    unfolding command_lent
    command_none h = sym (pick_no (leb 4 (length answers)) (done_one t l answers) (done 0 l cells tags answers) (lt-leb 4 (length answers) h))

    one : 4 ≤ length answers → done_one t l answers ≡ command_lent l input at cells tags answers
    unfolding command_lent
    one h = sym (pick_yes (leb 4 (length answers)) (done_one t l answers) (done 0 l cells tags answers) (le-leb 4 (length answers) h))

    -- A run of one, whose answer was put into the first four.
    pub command_ran : 4 ≤ length answers → at < length input → (n : Numbers) → n ≡ numbers_from l.numbers
        → (k at' : ℕ) (b : Arrays) (cells' tags' front : List ℕ) → run_of k at' b cells' tags' front ≡ run_in (with_numbers n) input at cells tags (take 4 answers)
        → (numbers : List ℕ) → numbers ≡ numbers_over b.nums l.numbers
        → done k (over numbers b) cells' tags' (front ++ drop 4 answers) ≡ command_lent l input at cells tags answers
    command_ran h m n e k at' b cells' tags' front d numbers q =
        ap (λ (x : List ℕ). done k (over x b) cells' tags' (front ++ drop 4 answers)) q
        ∙ ap (λ (x : Run). done x.done (arrays_over x.arrays l) x.cells x.tags (x.answers ++ drop 4 answers))
        (d ∙ ap (λ (x : Numbers). run_in (with_numbers x) input at cells tags (take 4 answers)) e ∙ run_of_one (arrays_in l) input at cells tags m (take 4 answers) (length-take-le 4 answers h))
        ∙ one h

    abbrev refused_first : ℕ → List ℕ
    refused_first code = answer_numbers (answer code empty) 0 ++ drop 4 answers

    -- A refusal where no byte is left.
    pub command_turned : 4 ≤ length answers → length input ≤ at → (n : Numbers) → n ≡ numbers_from l.numbers
        → (answers' : List ℕ) → answers' ≡ refused_first (end_code (formed_of (with_numbers n)) n.f cells tags)
        → done 1 l cells tags answers' ≡ command_lent l input at cells tags answers
    command_turned h m n e answers' p =
        ap (λ (x : List ℕ). done 1 l cells tags x)
        (p ∙ ap (λ (x : Numbers). refused_first (end_code (formed_of (with_numbers x)) x.f cells tags)) e)
        ∙ ap (λ (x : Lent). done 1 x cells tags (refused_first (end_code (formed_of (arrays_in l)) (arrays_in l).nums.f cells tags))) (sym (lent_back l))
        ∙ ap (λ (x : RanOn). done_one x l answers) (command_ended (arrays_in l) input at cells tags m)
        ∙ one h

    pub commands_ran : (n : Numbers) → n ≡ numbers_from l.numbers
        → (k at' : ℕ) (b : Arrays) (cells' tags' answers' : List ℕ) → run_of k at' b cells' tags' answers' ≡ run_in (with_numbers n) input at cells tags answers
        → (numbers : List ℕ) → numbers ≡ numbers_over b.nums l.numbers
        → reached at' (done k (over numbers b) cells' tags' answers') ≡ commands_lent l input at cells tags answers
    unfolding commands_lent
    commands_ran n e k at' b cells' tags' answers' d numbers q =
        ap (λ (x : List ℕ). reached at' (done k (over x b) cells' tags' answers')) q
        ∙ ap (λ (x : Run). reached x.at (done x.done (arrays_over x.arrays l) x.cells x.tags x.answers)) (d ∙ ap (λ (x : Numbers). run_in (with_numbers x) input at cells tags answers) e)
