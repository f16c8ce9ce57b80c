-- A session's lines are its history's: command by command, by induction on how many may come. Assumes nothing.
use Rattle.std.specs.Prelude.{Option, Some, None}
use Prim.Native.Nat.{ℕ, zero, suc, ◌+◌, ◌*◌, ◌≤◌}
use native.Mathlib.Omega.{arith}
use mathlib.Core.Bool.{Bool, true, false}
use mathlib.Core.List.{List, [], ◌++◌, append-nil, append_assoc}
use mathlib.Core.Path.{◌≡◌, refl, sym, ap, ◌∙◌}
use lib.ListN.{length, get_or, take, drop, length-replicate}
use lib.Dec.{ltb}
use borrow.Author.Tests.{lt-ltb}
use Rattle.capabilities.specs.Lists.{pick}
use Rattle.capabilities.proofs.Choice.{pick_yes, pick_no}
use Rattle.pages.specs.Layer.{in_range}
use Rattle.calls.specs.declared.Call.{Call}
use Rattle.calls.specs.Reader.{read_of}
use Rattle.machine.specs.Formed.{start_of}
use Rattle.machine.specs.Step.{Outcome}
use Rattle.machine.specs.Command.{Ran, used, on_reading, command_of}
use Rattle.machine.proofs.Judging.{judged_step}
use Rattle.lines.specs.Lines.{line_of}
use Rattle.session_rules.specs.Session.{ends_session, line_then, lines_from, zeroed, lines_started, lines_read, lines_of}
use Rattle.session_rules.proofs.Sessions.{lines_enough, take_within}
use Rattle.histories.specs.Runs.{Machine, outcome, next, answers, begun, Begins}
use Rattle.histories.specs.Forming.{Standing}
use Rattle.histories.proofs.Forming.{standing_next, standing_begun}
use Rattle.refinement.specs.Inputs.{Parse, parse, reading, read_then, parse_from}
use Rattle.refinement.specs.Sessions.{answer_lines, history_lines, started_lines, session_lines, SessionsAreHistories}
use Rattle.refinement.proofs.Inputs.{read_within}
use Rattle.refinement.proofs.Commands.{goes_on_lem, command_reading}

-- A command's line and the lines after it.
abbrev following : ℕ → List ℕ → ℕ → Ran → List ℕ
following n input at r = line_then r.command.answered (lines_from n r.command.answered.state input (at + r.command.used) r.cells r.tags)

module _ (input : List ℕ) where
  module _ (n : ℕ) (m : Machine) (v f : ℕ) (at : ℕ) (k : Standing m v f) where
    here : ltb at (length input) ≡ true → lines_from (suc n) m.state input at m.cells m.tags ≡ following n input at (on_reading m.state (read_of (drop at input)) m.cells m.tags)
    unfolding lines_from
    here h =
        pick_yes (ltb at (length input)) (following n input at (command_of m.state input at m.cells m.tags)) [] h
        ∙ ap (following n input at) (command_reading m v f k input at)

    call_line : (c : Call) (j : ℕ) → read_of (drop at input) ≡ Some (c, j) → (p : Parse)
        → lines_from n (next m c).state input (at + j) (next m c).cells (next m c).tags ≡ history_lines (next m c) p
        → lines_from (suc n) m.state input at m.cells m.tags ≡ history_lines m (reading c p)
    unfolding on_reading outcome next answers answer_lines
    call_line c j e p later =
        let a = (outcome m c).answer in
        here (lt-ltb at (length input) (read_within input at c j e))
        ∙ ap (λ (r : Option (Call × ℕ)). following n input at (on_reading m.state r m.cells m.tags)) e
        ∙ ap (λ (o : Outcome). following n input at (used j o)) (judged_step m.state c m.cells m.tags k.formed)
        ∙ ap (λ (l : List ℕ). line_of a.code a.number a.tag ++ l)
        (pick_no (ends_session a.code) [] (lines_from n (next m c).state input (at + j) (next m c).cells (next m c).tags) (goes_on_lem m v f k c) ∙ later)
        ∙ sym (append_assoc (line_of a.code a.number a.tag) (answer_lines (answers (next m c) p.calls)) (pick p.stuck (line_of 3 0 false) []))

    no_line : read_of (drop at input) ≡ None → (b : Bool) → ltb at (length input) ≡ b → lines_from (suc n) m.state input at m.cells m.tags ≡ history_lines m (parse [] at b)
    unfolding lines_from on_reading answers answer_lines
    no_line e true h =
        here h ∙ ap (λ (r : Option (Call × ℕ)). following n input at (on_reading m.state r m.cells m.tags)) e ∙ append-nil (line_of 3 0 false)
    no_line e false h = pick_no (ltb at (length input)) (following n input at (command_of m.state input at m.cells m.tags)) [] h

  lines_parse : (n : ℕ) (m : Machine) (v f : ℕ) (at : ℕ) → Standing m v f → lines_from n m.state input at m.cells m.tags ≡ history_lines m (parse_from n input at)
  unfolding lines_from parse_from answers answer_lines
  lines_parse zero m v f at k = refl
  lines_parse (suc n) m v f at k = go (read_of (drop at input)) refl (lines_parse n)
    where
      go : (r : Option (Call × ℕ)) → read_of (drop at input) ≡ r
          → ((m : Machine) (v f : ℕ) (at : ℕ) → Standing m v f → lines_from n m.state input at m.cells m.tags ≡ history_lines m (parse_from n input at))
          → lines_from (suc n) m.state input at m.cells m.tags ≡ history_lines m (read_then (read_of (drop at input)) at (ltb at (length input)) (λ next. parse_from n input next))
      go (Some (c, j)) e later =
          call_line n m v f at k c j e (parse_from n input (at + j)) (later (next m c) v f (at + j) (standing_next m v f c k))
          ∙ ap (λ (r : Option (Call × ℕ)). history_lines m (read_then r at (ltb at (length input)) (λ next. parse_from n input next))) (sym e)
      go None e later =
          no_line n m v f at k e (ltb at (length input)) refl
          ∙ ap (λ (r : Option (Call × ℕ)). history_lines m (read_then r at (ltb at (length input)) (λ next. parse_from n input next))) (sym e)

  -- After a start.
  module _ (room : ℕ) (enough : length input ≤ room) (v f : ℕ) where
    rest : List ℕ
    rest = lines_from (length input) (start_of v f).state input 3 (zeroed f) (zeroed f)

    rest_is : (start_of v f).code ≡ 0 → rest ≡ history_lines (begun v f (zeroed f) (zeroed f)) (parse_from room input 3)
    unfolding rest begun
    rest_is e =
        let b : Begins v f (zeroed f) (zeroed f) = record { granted = e; of_cells = length-replicate (16 * f) 0; of_tags = length-replicate (16 * f) 0 } in
        lines_enough (length input) room (start_of v f).state input 3 (zeroed f) (zeroed f) (omega arith) (omega arith)
        ∙ lines_parse room (begun v f (zeroed f) (zeroed f)) v f 3 (standing_begun v f (zeroed f) (zeroed f) b)

    -- The code of a start is 0 or 1.
    started : lines_started input v f ≡ started_lines room input v f
    unfolding start_of rest
    started = go (in_range v f) refl
      where
        go : (b : Bool) → in_range v f ≡ b → line_then (start_of v f) rest ≡ started_lines room input v f
        go true e = rw e (ap (λ (l : List ℕ). line_of 0 0 false ++ l) (rest_is (ap (λ (b : Bool). pick b 0 1) e)))
        go false e = rw e (append-nil (line_of 1 0 false))

  pub lines_read_lem : (room : ℕ) → length input ≤ room → lines_read input ≡ session_lines room input
  unfolding lines_read session_lines
  lines_read_lem room h =
      ap (λ (l : List ℕ). pick (ltb (length input) 3) (line_of 1 0 false) l) (started room h (256 * get_or input 0 0 + get_or input 1 0) (get_or input 2 0))

pub sessions_are_histories : SessionsAreHistories
unfolding lines_of
sessions_are_histories input room h = let l : length (take 32768 input) ≤ length input = take_within 32768 input in lines_read_lem (take 32768 input) room (omega arith)
