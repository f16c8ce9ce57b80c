-- Bytes are histories. From a granted start on, whatever a server does with the exported functions leaves exactly the writing of the
-- machine that a history leaves: the one of the calls that its bytes read as. And what the server finds among its lent answers are that
-- history's answers. Assumes nothing.
use Rattle.std.specs.Prelude.{ℕ, ◌*◌, List, [], ◌∷◌, map, ◌≡◌, length, replicate}
use Rattle.calls.specs.declared.Call.{Call}
use Rattle.calls.specs.Commands.{bytes_of}
use Rattle.words.specs.Words.{byte_of}
use Rattle.machine.specs.State.{Answered}
use Rattle.arrays.specs.declared.Arrays.{Arrays}
use Rattle.arrays.specs.Reading.{arrays_of, state_of}
use Rattle.histories.specs.Runs.{Machine, machine, run, answers, begun}
use Rattle.cetomuhi.specs.Lent.{Lent, lent, arrays_in}
use Rattle.cetomuhi.specs.Exports.{start_lent}
use Rattle.refinement.specs.Uses.{Served, serving, Use, command, Entries, exported, begins, calls_of, Reply, reply, served_all, replies_of}

-- Arrays as the ten lists that cross the boundary; a machine so written; and the machine that what is lent reads as.
abbrev pub lent_of : Arrays → Lent
lent_of a =
    let n = a.nums in
    lent (n.v ∷ n.f ∷ n.count ∷ n.place ∷ n.base ∷ n.length ∷ []) a.words a.marks a.mail a.flags a.rows a.pages a.frames a.principals a.counts

abbrev pub writing : Machine → Served
writing m = serving (lent_of (arrays_of m.state)) m.cells m.tags

abbrev pub machine_in : Served → Machine
machine_in s = machine (state_of (arrays_in s.lent)) s.cells s.tags

-- A start with code 0, over memory of 16 F cells and tags.
pub record Starts (v f : ℕ) (l : Lent) (cells tags : List ℕ) : Type 0 where
  pub granted : (start_lent v f l).code ≡ 0
  pub of_cells : length cells ≡ 16 * f
  pub of_tags : length tags ≡ 16 * f

-- A history's answer to a call as four numbers: code, number, tag as 0 or 1, and as bytes used the length of the call's bytes.
abbrev pub replying : Call → Answered → Reply
replying c a = reply c (a.code ∷ a.number ∷ byte_of a.tag ∷ length (bytes_of c) ∷ [])

unfoldable pub replies : List Call → List Answered → List Reply
replies [] l = []
replies (c ∷ calls) [] = []
replies (c ∷ calls) (a ∷ l) = replying c a ∷ replies calls l

-- What entries leave and answer is what the history of the calls leaves and answers.
pub record Refined (e : Entries) (s : Served) (m : Machine) (uses : List Use) : Type 0 where
  pub left : served_all e s uses ≡ writing (run m (calls_of uses))
  pub answered : replies_of e s uses ≡ replies (calls_of uses) (answers m (calls_of uses))

abbrev pub Refines : Entries → Type 0
Refines e =
    (v f : ℕ) (l : Lent) (cells tags : List ℕ) → Starts v f l cells tags → (uses : List Use)
    → Refined e (begins v f l cells tags) (begun v f cells tags) uses

abbrev pub BytesAreHistories : Type 0
BytesAreHistories = Refines exported

-- So the machine that the lent lists, cells and tags read as is the one that these calls reach.
abbrev pub BytesReach : Type 0
BytesReach =
    (v f : ℕ) (l : Lent) (cells tags : List ℕ) → Starts v f l cells tags → (uses : List Use)
    → machine_in (served_all exported (begins v f l cells tags) uses) ≡ run (begun v f cells tags) (calls_of uses)

-- And there is no history that bytes do not reach: each call by a command of its own.
abbrev pub sending : List Call → List Use
sending calls = map (λ c. command (bytes_of c) 0 (replicate 4 0)) calls

abbrev pub EveryHistorySent : Type 0
EveryHistorySent = (calls : List Call) → calls_of (sending calls) ≡ calls
