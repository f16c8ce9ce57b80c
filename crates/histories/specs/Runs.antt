-- A history: calls by any parties, refused ones included, each on the state that the one before handed back and the lent memory that
-- it left, by the machine's own start and step. Assumes nothing.
use Rattle.std.specs.Prelude.{ℕ, ◌*◌, Bool, List, [], ◌∷◌, ◌≡◌, length}
use Rattle.calls.specs.declared.Call.{Call}
use Rattle.machine.specs.State.{State}
use Rattle.machine.specs.State.{Answered}
use Rattle.machine.specs.Formed.{start_of}
use Rattle.machine.specs.Step.{Outcome, is_granted, step_of}

-- A state and the memory that it is lent.
pub record Machine : Type 0 where
  pub state : State
  pub cells : List ℕ
  pub tags : List ℕ

abbrev pub machine : State → List ℕ → List ℕ → Machine
machine s cells tags = record { state = s; cells = cells; tags = tags }

-- What one call leaves, and its answer.
unfoldable pub outcome : Machine → Call → Outcome
outcome m c = step_of m.state c m.cells m.tags

unfoldable pub next : Machine → Call → Machine
next m c = machine (outcome m c).answer.state (outcome m c).cells (outcome m c).tags

-- A call is granted: as a test, and as a statement.
abbrev pub granted : Machine → Call → Bool
granted m c = is_granted (outcome m c)

abbrev pub Granted : Machine → Call → Type 0
Granted m c = (outcome m c).answer.code ≡ 0

-- What a list of calls leaves, and its answers in order.
unfoldable pub run : Machine → List Call → Machine
run m [] = m
run m (c ∷ calls) = run (next m c) calls

unfoldable pub answers : Machine → List Call → List Answered
answers m [] = []
answers m (c ∷ calls) = (outcome m c).answer ∷ answers (next m c) calls

-- A granted start with V virtual pages and F frames, over any lent memory of 16 F cells and tags.
unfoldable pub begun : ℕ → ℕ → List ℕ → List ℕ → Machine
begun v f cells tags = machine (start_of v f).state cells tags

pub record Begins (v f : ℕ) (cells tags : List ℕ) : Type 0 where
  pub granted : (start_of v f).code ≡ 0
  pub of_cells : length cells ≡ 16 * f
  pub of_tags : length tags ≡ 16 * f

-- A state and memory that some history leaves: some V, F and lent memory, and some list of calls from the granted start on.
pub record Reached (m : Machine) : Type 0 where
  pub v : ℕ
  pub f : ℕ
  pub cells : List ℕ
  pub tags : List ℕ
  pub begins : Begins v f cells tags
  pub calls : List Call
  pub is : m ≡ run (begun v f cells tags) calls

-- What holds after every history.
abbrev pub Always : ((m : Machine) → Reached m → Type 0) → Type 0
Always P = (m : Machine) (r : Reached m) → P m r
