-- What each function leaves and answers on the writing of a machine that a history leaves. Assumes nothing.
use Rattle.std.specs.Prelude.{Some, None}
use Prim.Native.Nat.{ℕ, ◌/◌, ◌≤◌, ◌<◌}
use mathlib.Core.Bool.{Bool, true}
use mathlib.Core.List.{List, [], ◌++◌, map}
use mathlib.Core.Path.{◌≡◌, refl, sym, ap, ◌∙◌}
use lib.ListN.{length, take, drop}
use lib.Dec.{leb}
use borrow.Author.Tests.{le-leb, lt-leb}
use Rattle.capabilities.proofs.Choice.{pick_yes, pick_no}
use Rattle.capabilities.proofs.Lists.{map_take}
use Rattle.table.specs.declared.Reservation.{Reservation}
use Rattle.table.specs.Rows.{live}
use Rattle.table.specs.Numbers.{row_from}
use Rattle.calls.specs.declared.Call.{Call}
use Rattle.calls.specs.Reader.{read_of}
use Rattle.machine.specs.State.{State}
use Rattle.machine.specs.Formed.{well_formed}
use Rattle.machine.specs.Cost.{cost_by, page_cost}
use Rattle.arrays.specs.declared.Arrays.{Arrays}
use Rattle.arrays.specs.Reading.{core_of, state_of, arrays_of}
use Rattle.arrays.proofs.RoundTrip.{state_back_again}
use Rattle.formed.specs.Test.{formed_of}
use Rattle.cost.specs.Asked.{cost_on}
use Rattle.maps.specs.declared.Question.{Question}
use Rattle.maps.specs.declared.Question.TheVariants.{Nearest}
use Rattle.maps.specs.Questions.{ask_of}
use Rattle.step.specs.Entries.{RanOn, command_on}
use Rattle.entries.specs.Runs.{Run, answer_numbers, run_on, run_in}
use Rattle.histories.specs.Runs.{Machine, outcome, next}
use Rattle.histories.specs.Forming.{Standing}
use Rattle.cetomuhi.specs.Lent.{Lent, numbers_from, numbers_over, arrays_in, arrays_over}
use Rattle.cetomuhi.specs.Exports.{done, done_one, Reached, reached, formed_lent, cost_lent, command_lent, commands_lent}
use Rattle.cetomuhi.specs.Maps.{listed_by, list_lent, sited_by, nearest_lent}
use Rattle.refinement.specs.Inputs.{parse_from}
use Rattle.refinement.specs.Bytes.{lent_of, writing, replying}
use Rattle.refinement.specs.Answers.{leaves, no_call_numbers, ran_from, own_rows, Answers}
use Rattle.refinement.proofs.Inputs.{read_long}
use Rattle.refinement.proofs.Commands.{passes, command_call, command_none}
use Rattle.refinement.proofs.Runs.{run_parse}

-- Arrays written as lists are read back, and arrays written over them leave nothing of them.
pub lists_back : (a : Arrays) → arrays_in (lent_of a) ≡ a
unfolding numbers_from
lists_back a = refl

lists_over : (a b : Arrays) → arrays_over a (lent_of b) ≡ lent_of a
unfolding numbers_over
lists_over a b = refl

-- The rows in use read as the table's.
own_rows_lem : (a : Arrays) → map row_from (take a.nums.count a.rows) ≡ live (state_of a).core.table
unfolding live state_of core_of
own_rows_lem a = map_take row_from a.nums.count a.rows

module _ (m : Machine) (v f : ℕ) (k : Standing m v f) where
  abbrev a : Arrays
  a = arrays_of m.state

  module _ (input : List ℕ) (at : ℕ) (buffer : List ℕ) where
    -- A command whose answer has room, by what it leaves of arrays.
    done_one_lem : 4 ≤ length buffer → (t : RanOn) → command_on a input at m.cells m.tags ≡ t
        → command_lent (lent_of a) input at m.cells m.tags buffer
        ≡ done 1 (lent_of t.left.arrays) t.left.cells t.left.tags (answer_numbers t.left.answer t.used ++ drop 4 buffer)
    unfolding command_lent
    done_one_lem h t e =
        pick_yes (leb 4 (length buffer)) (done_one (command_on (arrays_in (lent_of a)) input at m.cells m.tags) (lent_of a) buffer) (done 0 (lent_of a) m.cells m.tags buffer) (le-leb 4 (length buffer) h)
        ∙ ap (λ (b : Arrays). done_one (command_on b input at m.cells m.tags) (lent_of a) buffer) (lists_back a)
        ∙ ap (λ (x : RanOn). done_one x (lent_of a) buffer) e
        ∙ ap (λ (l : Lent). done 1 l t.left.cells t.left.tags (answer_numbers t.left.answer t.used ++ drop 4 buffer)) (lists_over t.left.arrays a)

    call_done : 4 ≤ length buffer → (c : Call) (n : ℕ) → read_of (drop at input) ≡ Some (c, n)
        → command_lent (lent_of a) input at m.cells m.tags buffer ≡ leaves 1 (next m c) (replying c (outcome m c).answer).numbers buffer
    call_done h c n e =
        done_one_lem h _ (command_call m v f k input at c n e)
        ∙ ap (λ (j : ℕ). done 1 (lent_of (arrays_of (next m c).state)) (next m c).cells (next m c).tags (answer_numbers (record { code = (outcome m c).answer.code; number = (outcome m c).answer.number; tag = (outcome m c).answer.tag }) j ++ drop 4 buffer))
        (read_long (drop at input) c n e)

    none_done : 4 ≤ length buffer → read_of (drop at input) ≡ None → command_lent (lent_of a) input at m.cells m.tags buffer ≡ leaves 1 m no_call_numbers buffer
    none_done h e = done_one_lem h _ (command_none m v f k input at e)

    nothing_done : length buffer < 4 → command_lent (lent_of a) input at m.cells m.tags buffer ≡ done 0 (lent_of a) m.cells m.tags buffer
    unfolding command_lent
    nothing_done h =
        pick_no (leb 4 (length buffer)) (done_one (command_on (arrays_in (lent_of a)) input at m.cells m.tags) (lent_of a) buffer) (done 0 (lent_of a) m.cells m.tags buffer) (lt-leb 4 (length buffer) h)

    run_done : commands_lent (lent_of a) input at m.cells m.tags buffer ≡ ran_from m (parse_from (length buffer / 4) input at) buffer
    unfolding commands_lent run_in numbers_over
    run_done =
        ap (λ (b : Arrays). by (run_on (length buffer / 4) b input at m.cells m.tags)) (lists_back a)
        ∙ ap by (run_parse input (length buffer / 4) m v f at k)
      where
        by : Run → Reached
        by r = reached r.at (done r.done (arrays_over r.arrays (lent_of a)) r.cells r.tags (r.answers ++ drop (length r.answers) buffer))

  well : formed_lent (lent_of a) ≡ true
  unfolding formed_lent
  well = ap formed_of (lists_back a) ∙ passes m v f k

  costs : (n : ℕ) → cost_lent (lent_of a) n ≡ page_cost m.state n
  unfolding cost_lent cost_on page_cost
  costs n =
      ap (λ (b : Arrays). cost_by (formed_of b) (state_of b).core n) (lists_back a)
      ∙ ap (λ (b : Bool). cost_by b (state_of a).core n) (passes m v f k ∙ sym k.formed)
      ∙ ap (λ (s : State). cost_by (well_formed m.state) s.core n) (state_back_again m.state k.formed)

  rows : map row_from (own_rows (lent_of a)) ≡ live m.state.core.table
  rows =
      ap (λ (b : Arrays). map row_from (take b.nums.count a.rows)) (lists_back a) ∙ own_rows_lem a
      ∙ ap (λ (s : State). live s.core.table) (state_back_again m.state k.formed)

  lists : (q : Question) (count : ℕ) (bases : List ℕ) → list_lent (own_rows (lent_of a)) q count bases ≡ listed_by (ask_of (live m.state.core.table) q bases) count
  unfolding list_lent
  lists q count bases = ap (λ (l : List Reservation). listed_by (ask_of l q bases) count) rows

  finds : (cell cells found base : ℕ)
      → nearest_lent (own_rows (lent_of a)) cell cells found base ≡ sited_by (ask_of (live m.state.core.table) (Nearest cell cells) []) found base
  unfolding nearest_lent
  finds cell cells found base = ap (λ (l : List Reservation). sited_by (ask_of l (Nearest cell cells) []) found base) rows

  pub answers_written : Answers (writing m) m
  answers_written = record {
    call = call_done;
    no_call = none_done;
    no_room = nothing_done;
    ran = run_done;
    formed = well;
    cost = costs;
    list = lists;
    nearest = finds;
  }
