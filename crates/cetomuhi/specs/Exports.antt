-- What the exported functions answer, and what they leave of all that is lent. Assumes nothing.
use Rattle.std.specs.Prelude.{ℕ, ◌*◌, Bool, not, ◌&&◌, List, [], ◌∷◌, ◌++◌, length, get_or, drop, eqb, leb}
use Rattle.capabilities.specs.Lists.{pick}
use Rattle.machine.specs.Formed.{start_of}
use Rattle.machine.specs.Cost.{Costed}
use Rattle.arrays.specs.Reading.{arrays_of}
use Rattle.formed.specs.Test.{formed_of, sized}
use Rattle.cost.specs.Asked.{cost_on}
use Rattle.step.specs.Entries.{RanOn, command_on}
use Rattle.entries.specs.Runs.{answer_numbers, run_in}
use Rattle.cetomuhi.specs.Lent.{Lent, arrays_in, arrays_over}

-- The lengths of the ten lists of a state in their order, the numbers of an answer and those of a call; 0 past these.
unfoldable pub size_of : ℕ → ℕ
size_of which = get_or (6 ∷ 64 ∷ 64 ∷ 8 ∷ 8 ∷ 64 ∷ 256 ∷ 128 ∷ 32 ∷ 8192 ∷ 4 ∷ 7 ∷ []) which 0

-- A start: its code, and what is lent afterwards.
pub record Started : Type 0 where
  pub code : ℕ
  pub lent : Lent

abbrev pub started : ℕ → Lent → Started
started code l = record { code = code; lent = l }

-- A start over lists of the machine's lengths: its state is written there, the all-zero one if V or F is out of range. If a list has
-- another length, nothing is written and the code is 1.
unfoldable pub start_lent : ℕ → ℕ → Lent → Started
start_lent v f l =
    let s = start_of v f in
    pick (eqb (length l.numbers) 6 && sized (arrays_in l)) (started s.code (arrays_over (arrays_of s.state) l)) (started 1 l)

-- Whether what is lent is a well-formed state.
unfoldable pub formed_lent : Lent → Bool
formed_lent l = formed_of (arrays_in l)

-- What those who claim a page pay for it.
unfoldable pub cost_lent : Lent → ℕ → Costed
cost_lent l n = cost_on (arrays_in l) n

-- What commands leave: how many were done, and all that is lent.
pub record Done : Type 0 where
  pub count : ℕ
  pub lent : Lent
  pub cells : List ℕ
  pub tags : List ℕ
  pub answers : List ℕ

abbrev pub done : ℕ → Lent → List ℕ → List ℕ → List ℕ → Done
done n l cells tags answers = record { count = n; lent = l; cells = cells; tags = tags; answers = answers }

-- Why a command is turned down where no byte is left: the state is not well formed, the lent memory is not of 16 F cells and tags, or,
-- if neither, no byte is found.
unfoldable pub end_code : Bool → ℕ → List ℕ → List ℕ → ℕ
end_code good f cells tags =
    pick (not good) 1 (pick (not (eqb (length cells) (16 * f) && eqb (length tags) (16 * f))) 2 3)

-- One command was done, and its answer stands first among the answers.
abbrev pub done_one : RanOn → Lent → List ℕ → Done
done_one t l answers = done 1 (arrays_over t.left.arrays l) t.left.cells t.left.tags (answer_numbers t.left.answer t.used ++ drop 4 answers)

-- One command on what is lent; without room for its answer nothing is done.
unfoldable pub command_lent : Lent → List ℕ → ℕ → List ℕ → List ℕ → List ℕ → Done
command_lent l input at cells tags answers =
    pick (leb 4 (length answers)) (done_one (command_on (arrays_in l) input at cells tags) l answers) (done 0 l cells tags answers)

-- What a run of commands leaves, and the place in the input that it reached.
pub record Reached : Type 0 where
  pub at : ℕ
  pub done : Done

abbrev pub reached : ℕ → Done → Reached
reached at d = record { at = at; done = d }

-- The commands from a place on, on what is lent, for as many answers as there is room.
unfoldable pub commands_lent : Lent → List ℕ → ℕ → List ℕ → List ℕ → List ℕ → Reached
commands_lent l input at cells tags answers =
    let r = run_in (arrays_in l) input at cells tags answers in
    reached r.at (done r.done (arrays_over r.arrays l) r.cells r.tags r.answers)
