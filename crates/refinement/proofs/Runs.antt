-- A run of commands on the writing of a machine that a history leaves: the steps of the calls that its bytes read as, one after another.
-- By induction on the room for answers; each answer is the history's, and none of these ends the run. Assumes nothing.
use Rattle.std.specs.Prelude.{Option, Some, None}
use Prim.Native.Nat.{ℕ, zero, suc, ◌+◌}
use native.Mathlib.Omega.{arith}
use mathlib.Core.Bool.{Bool, true, false}
use mathlib.Core.List.{List, [], ◌∷◌, ◌++◌}
use mathlib.Core.Path.{◌≡◌, refl, sym, ap, ◌∙◌}
use lib.ListN.{length, drop}
use lib.Dec.{ltb}
use borrow.Author.Tests.{ltb-true, ltb-false}
use Rattle.capabilities.specs.Lists.{pick}
use Rattle.capabilities.proofs.Choice.{pick_no}
use Rattle.calls.specs.declared.Call.{Call}
use Rattle.calls.specs.Reader.{read_of}
use Rattle.words.specs.Words.{byte_of}
use Rattle.arrays.specs.Reading.{arrays_of}
use Rattle.session_rules.specs.Session.{ends_session}
use Rattle.entries.specs.Runs.{Run, answer_numbers, run_of, resting, preceded, run_on}
use Rattle.entries.proofs.Repeating.{preceded_rest, run_next, run_past}
use Rattle.entries.proofs.Repeating.{next as onNext}
use Rattle.histories.specs.Runs.{Machine, outcome, next, run, answers}
use Rattle.histories.specs.Forming.{Standing}
use Rattle.histories.proofs.Forming.{standing_next}
use Rattle.refinement.specs.Calls.{written}
use Rattle.refinement.specs.Inputs.{Parse, parse, reading, read_then, parse_from}
use Rattle.refinement.specs.Bytes.{replying, replies}
use Rattle.refinement.specs.Answers.{numbers_of, no_call_numbers}
use Rattle.refinement.proofs.Inputs.{read_long, read_within}
use Rattle.refinement.proofs.Commands.{goes_on_lem, command_call, command_none}

-- What the history of a parse leaves, as a run.
abbrev pub run_by : Machine → Parse → Run
run_by m p =
    run_of (length p.calls + byte_of p.stuck) p.at (arrays_of (run m p.calls).state) (run m p.calls).cells (run m p.calls).tags
    (numbers_of (replies p.calls (answers m p.calls)) ++ pick p.stuck no_call_numbers [])

-- A call before a parse is a command before its run.
run_first : (m : Machine) (c : Call) (p : Parse) → preceded 1 (replying c (outcome m c).answer).numbers (run_by (next m c) p) ≡ run_by m (reading c p)
unfolding run answers replies numbers_of
run_first m c p =
    let count : 1 + (length p.calls + byte_of p.stuck) ≡ length (c ∷ p.calls) + byte_of p.stuck = omega arith in
    let after : Machine = next m c in
    ap (λ (n : ℕ). run_of n p.at (arrays_of (run after p.calls).state) (run after p.calls).cells (run after p.calls).tags
    ((replying c (outcome m c).answer).numbers ++ (numbers_of (replies p.calls (answers after p.calls)) ++ pick p.stuck no_call_numbers []))) count

module _ (input : List ℕ) where
  -- No byte, or bytes that read as no call.
  stuck_here : (room : ℕ) (m : Machine) (v f : ℕ) (at : ℕ) → Standing m v f → read_of (drop at input) ≡ None → (b : Bool) → ltb at (length input) ≡ b
      → run_on (suc room) (arrays_of m.state) input at m.cells m.tags ≡ run_by m (parse [] at b)
  unfolding run answers replies numbers_of
  stuck_here room m v f at k e true h =
      let stays : at + 0 ≡ at = omega arith in
      run_next input at room (arrays_of m.state) m.cells m.tags (ltb-true at (length input) h)
      ∙ ap (onNext input at room) (command_none m v f k input at e)
      ∙ preceded_rest 1 no_call_numbers (at + 0) (arrays_of m.state) m.cells m.tags
      ∙ ap (λ (n : ℕ). run_of 1 n (arrays_of m.state) m.cells m.tags no_call_numbers) stays
  stuck_here room m v f at k e false h = run_past input at (suc room) (arrays_of m.state) m.cells m.tags (ltb-false at (length input) h)

  -- A call, and the run after it.
  call_here : (room : ℕ) (m : Machine) (v f : ℕ) (at : ℕ) → Standing m v f → (c : Call) (n : ℕ) → read_of (drop at input) ≡ Some (c, n) → (p : Parse)
      → run_on room (arrays_of (next m c).state) input (at + n) (next m c).cells (next m c).tags ≡ run_by (next m c) p
      → run_on (suc room) (arrays_of m.state) input at m.cells m.tags ≡ run_by m (reading c p)
  call_here room m v f at k c n e p later =
      let a = written (outcome m c).answer in
      let there = arrays_of (next m c).state in
      run_next input at room (arrays_of m.state) m.cells m.tags (read_within input at c n e)
      ∙ ap (onNext input at room) (command_call m v f k input at c n e)
      ∙ ap (preceded 1 (answer_numbers a n))
      (pick_no (ends_session (outcome m c).answer.code) (resting (at + n) there (next m c).cells (next m c).tags) (run_on room there input (at + n) (next m c).cells (next m c).tags) (goes_on_lem m v f k c)
      ∙ later)
      ∙ ap (λ (j : ℕ). preceded 1 (answer_numbers a j) (run_by (next m c) p)) (read_long (drop at input) c n e) ∙ run_first m c p

  pub run_parse : (room : ℕ) (m : Machine) (v f : ℕ) (at : ℕ) → Standing m v f
      → run_on room (arrays_of m.state) input at m.cells m.tags ≡ run_by m (parse_from room input at)
  unfolding run_on parse_from run answers replies numbers_of
  run_parse zero m v f at k = refl
  run_parse (suc room) m v f at k = go (read_of (drop at input)) refl (run_parse room)
    where
      go : (r : Option (Call × ℕ)) → read_of (drop at input) ≡ r
          → ((m : Machine) (v f : ℕ) (at : ℕ) → Standing m v f → run_on room (arrays_of m.state) input at m.cells m.tags ≡ run_by m (parse_from room input at))
          → run_on (suc room) (arrays_of m.state) input at m.cells m.tags ≡ run_by m (read_then (read_of (drop at input)) at (ltb at (length input)) (λ next. parse_from room input next))
      go (Some (c, n)) e later =
          call_here room m v f at k c n e (parse_from room input (at + n)) (later (next m c) v f (at + n) (standing_next m v f c k))
          ∙ ap (λ (r : Option (Call × ℕ)). run_by m (read_then r at (ltb at (length input)) (λ next. parse_from room input next))) (sym e)
      go None e later =
          stuck_here room m v f at k e (ltb at (length input)) refl
          ∙ ap (λ (r : Option (Call × ℕ)). run_by m (read_then r at (ltb at (length input)) (λ next. parse_from room input next))) (sym e)
