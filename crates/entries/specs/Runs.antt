-- Commands one after another on arrays: a run is a command done again and again, each on what the one before left. Assumes nothing.
use Rattle.std.specs.Prelude.{ℕ, zero, suc, ◌+◌, ◌-◌, ◌/◌, not, ◌&&◌, List, [], ◌∷◌, ◌++◌, length, drop, get_or, ltb, eqb}
use Rattle.capabilities.specs.Lists.{pick}
use Rattle.words.specs.Words.{byte_of}
use Rattle.arrays.specs.declared.Answer.{Answer}
use Rattle.arrays.specs.declared.Arrays.{Arrays}
use Rattle.session_rules.specs.Session.{ends_session}
use Rattle.step.specs.Entries.{command_on}

-- A command's answer as four numbers: code, number, tag as 0 or 1, bytes used.
abbrev pub answer_numbers : Answer → ℕ → List ℕ
answer_numbers r used = r.code ∷ r.number ∷ byte_of r.tag ∷ used ∷ []

-- What a run leaves: how many commands it did, the place in the input that it reached, the arrays, the lent memory, and the
-- numbers of its answers in order.
pub record Run : Type 0 where
  pub done : ℕ
  pub at : ℕ
  pub arrays : Arrays
  pub cells : List ℕ
  pub tags : List ℕ
  pub answers : List ℕ

abbrev pub run_of : ℕ → ℕ → Arrays → List ℕ → List ℕ → List ℕ → Run
run_of done at a cells tags answers = record { done = done; at = at; arrays = a; cells = cells; tags = tags; answers = answers }

-- A run of no command.
abbrev pub resting : ℕ → Arrays → List ℕ → List ℕ → Run
resting at a cells tags = run_of 0 at a cells tags []

-- A run with so many commands and these answers before it.
abbrev pub preceded : ℕ → List ℕ → Run → Run
preceded n answers r = run_of (n + r.done) r.at r.arrays r.cells r.tags (answers ++ r.answers)

-- The commands from a place on, for as many answers as there is room. A run ends at the input's end, after a refusal 1 to 3, or
-- where there is no more room.
unfoldable pub run_on : ℕ → Arrays → List ℕ → ℕ → List ℕ → List ℕ → Run
run_on zero a input at cells tags = resting at a cells tags
run_on (suc room) a input at cells tags =
    let t = command_on a input at cells tags in
    let l = t.left in
    pick (ltb at (length input))
    (preceded 1 (answer_numbers l.answer t.used)
    (pick (ends_session l.answer.code) (resting (at + t.used) l.arrays l.cells l.tags) (run_on room l.arrays input (at + t.used) l.cells l.tags)))
    (resting at a cells tags)

-- The same with the answers first in a lent buffer, which has room for one in every four numbers; its rest is kept.
unfoldable pub run_in : Arrays → List ℕ → ℕ → List ℕ → List ℕ → List ℕ → Run
run_in a input at cells tags buffer =
    let r = run_on (length buffer / 4) a input at cells tags in
    run_of r.done r.at r.arrays r.cells r.tags (r.answers ++ drop (length r.answers) buffer)

-- The code of the last answer; 0 where there is none.
unfoldable pub last_code : List ℕ → ℕ
last_code answers = get_or answers (length answers - 4) 0

-- A run with room for m, given room for n more: if it was full and its last answer ends no run, it goes on from the place reached.
unfoldable pub gone_on : List ℕ → ℕ → ℕ → Run → Run
gone_on input m n r =
    pick (eqb r.done m && not (ends_session (last_code r.answers))) (preceded r.done r.answers (run_on n r.arrays input r.at r.cells r.tags)) r
