-- After any uses, what each function of the boundary leaves and answers, said of the history's machine: a command, with and without a
-- call in its bytes; a whole run, with the place it reaches; and the questions. Assumes nothing.
use Rattle.std.specs.Prelude.{ℕ, ◌+◌, ◌/◌, ◌≤◌, ◌<◌, true, List, [], ◌∷◌, ◌++◌, ◌≡◌, length, take, drop, Some, None}
use Rattle.capabilities.specs.Lists.{pick}
use Rattle.table.specs.Rows.{live}
use Rattle.calls.specs.declared.Call.{Call}
use Rattle.calls.specs.Reader.{read_of}
use Rattle.words.specs.Words.{byte_of}
use Rattle.machine.specs.Cost.{page_cost}
use Rattle.maps.specs.declared.Question.{Question}
use Rattle.maps.specs.declared.Question.TheVariants.{Nearest}
use Rattle.maps.specs.Questions.{ask_of}
use Rattle.histories.specs.Runs.{Machine, outcome, next, run, answers, begun}
use Rattle.cetomuhi.specs.Lent.{Lent, arrays_in}
use Rattle.cetomuhi.specs.Exports.{Done, done, Reached, reached, formed_lent, cost_lent, command_lent, commands_lent}
use Rattle.cetomuhi.specs.Maps.{listed_by, list_lent, sited_by, nearest_lent}
use Rattle.refinement.specs.Inputs.{Parse, parse_from}
use Rattle.refinement.specs.Uses.{Served, Use, exported, begins, calls_of, Reply, served_all}
use Rattle.refinement.specs.Bytes.{writing, Starts, replying, replies}

-- So many commands done, what is lent the writing of a machine, and these numbers first among the answers, whose rest is kept.
abbrev pub leaves : ℕ → Machine → List ℕ → List ℕ → Done
leaves n m numbers buffer = done n (writing m).lent m.cells m.tags (numbers ++ drop (length numbers) buffer)

-- The numbers of replies, one after the other; and those of a refusal 3.
unfoldable pub numbers_of : List Reply → List ℕ
numbers_of [] = []
numbers_of (r ∷ l) = r.numbers ++ numbers_of l

abbrev pub no_call_numbers : List ℕ
no_call_numbers = 3 ∷ 0 ∷ 0 ∷ 0 ∷ []

-- The calls of a run are done, and where bytes are left that read as no call there is one answer more, of refusal 3.
abbrev pub ran_from : Machine → Parse → List ℕ → Reached
ran_from m p buffer =
    reached p.at
    (leaves (length p.calls + byte_of p.stuck) (run m p.calls) (numbers_of (replies p.calls (answers m p.calls)) ++ pick p.stuck no_call_numbers []) buffer)

-- A server's own rows: as many as its table counts.
abbrev pub own_rows : Lent → List ℕ
own_rows l = take (arrays_in l).nums.count l.rows

pub record Answers (s : Served) (m : Machine) : Type 0 where
  -- A command whose bytes read as a call is that call's step.
  pub call : (input : List ℕ) (at : ℕ) (buffer : List ℕ) → 4 ≤ length buffer → (c : Call) (n : ℕ) → read_of (drop at input) ≡ Some (c, n)
      → command_lent s.lent input at s.cells s.tags buffer ≡ leaves 1 (next m c) (replying c (outcome m c).answer).numbers buffer
  -- Bytes that read as no call leave all as it was, and 3 0 0 0 is put.
  pub no_call : (input : List ℕ) (at : ℕ) (buffer : List ℕ) → 4 ≤ length buffer → read_of (drop at input) ≡ None
      → command_lent s.lent input at s.cells s.tags buffer ≡ done 1 s.lent s.cells s.tags (no_call_numbers ++ drop 4 buffer)
  -- Without room for its answer nothing is done.
  pub no_room : (input : List ℕ) (at : ℕ) (buffer : List ℕ) → length buffer < 4
      → command_lent s.lent input at s.cells s.tags buffer ≡ done 0 s.lent s.cells s.tags buffer
  -- A run, whatever its bytes and its room.
  pub ran : (input : List ℕ) (at : ℕ) (buffer : List ℕ)
      → commands_lent s.lent input at s.cells s.tags buffer ≡ ran_from m (parse_from (length buffer / 4) input at) buffer
  -- The questions.
  pub formed : formed_lent s.lent ≡ true
  pub cost : (n : ℕ) → cost_lent s.lent n ≡ page_cost m.state n
  pub list : (q : Question) (count : ℕ) (bases : List ℕ) → list_lent (own_rows s.lent) q count bases ≡ listed_by (ask_of (live m.state.core.table) q bases) count
  pub nearest : (cell cells found base : ℕ)
      → nearest_lent (own_rows s.lent) cell cells found base ≡ sited_by (ask_of (live m.state.core.table) (Nearest cell cells) []) found base

abbrev pub AnsweredByHistory : Type 0
AnsweredByHistory =
    (v f : ℕ) (l : Lent) (cells tags : List ℕ) → Starts v f l cells tags → (uses : List Use)
    → Answers (served_all exported (begins v f l cells tags) uses) (run (begun v f cells tags) (calls_of uses))
