-- Demands 1 and 2 of one call and one command, as statements: what a refusal keeps, what every call keeps, and that bytes run as the call
-- that they were written for. Which number is answered is stated in `Order` (FirstInOrder). Assumes nothing.
use Rattle.std.specs.Prelude.{ℕ, ◌+◌, ◌*◌, true, ◌||◌, List, ◌++◌, ◌≡◌, length, set, eqb}
use Rattle.capabilities.specs.Capability.{capability, permitted}
use Rattle.capabilities.specs.Lists.{pick}
use Rattle.calls.specs.declared.Call.{Call}
use Rattle.calls.specs.declared.Call.TheVariants.{Take, TakeMasked}
use Rattle.calls.specs.Commands.{bytes_of}
use Rattle.words.specs.Words.{slot}
use Rattle.machine.specs.State.{State}
use Rattle.machine.specs.Formed.{well_formed, answered, start_of}
use Rattle.machine.specs.Step.{Outcome, outcome_with, refused, step_of}
use Rattle.machine.specs.Command.{used, command_of}

-- "With number 0, tag 0 and every bit of state and memory kept": an answer other than 0 keeps the state, the lent cells and the lent tags.
abbrev pub RefusedKeeps : Type 0
RefusedKeeps =
    (s : State) (c : Call) (cells tags : List ℕ) → ((step_of s c cells tags).answer.code ≡ 0 → ⊥)
    → step_of s c cells tags ≡ refused (step_of s c cells tags).answer.code s cells tags

-- Every call, granted or refused, keeps a well-formed state well formed; and a granted start is.
abbrev pub StepKeeps : Type 0
StepKeeps = (s : State) (c : Call) (cells tags : List ℕ) → well_formed s ≡ true → well_formed (step_of s c cells tags).answer.state ≡ true

abbrev pub StartFormed : Type 0
StartFormed = (v f : ℕ) → (start_of v f).code ≡ 0 → well_formed (start_of v f).state ≡ true

-- An outcome with as many registers, mailboxes, cells and tags as were given.
pub record Sized (s : State) (cells tags : List ℕ) (o : Outcome) : Type 0 where
  pub of_registers : length o.answer.state.registers ≡ length s.registers
  pub of_mailboxes : length o.answer.state.mailboxes ≡ length s.mailboxes
  pub of_cells : length o.cells ≡ length cells
  pub of_tags : length o.tags ≡ length tags

-- Every call, of every state and lent memory, keeps these numbers.
abbrev pub StepSized : Type 0
StepSized = (s : State) (c : Call) (cells tags : List ℕ) → Sized s cells tags (step_of s c cells tags)

-- The bytes that a command of n bytes uses, by the code that is answered: "the command's length, or 0 under refusals 1 to 3".
abbrev pub used_under : ℕ → ℕ → ℕ
used_under code n = pick (eqb code 1 || eqb code 2) 0 n

-- Whatever stands before and after it, a call that was written runs as that call.
abbrev pub CommandWritten : Type 0
CommandWritten =
    (s : State) (c : Call) (before rest cells tags : List ℕ)
    → command_of s (before ++ (bytes_of c ++ rest)) (length before) cells tags
    ≡ used (used_under (step_of s c cells tags).answer.code (length (bytes_of c))) (step_of s c cells tags)

-- Document 02, 2026-01. 01 is 11 with mask 3.
abbrev pub PlainStep : Type 0
PlainStep =
    (s : State) (p base reg : ℕ) (cells tags : List ℕ) → step_of s (TakeMasked p base reg 3) cells tags ≡ step_of s (Take p base reg) cells tags

-- What a granted take leaves, but that register r of party p holds the capability with other permissions: from base on, as many cells as
-- are answered. A refused one is as it was.
unfoldable pub permitting : ℕ → ℕ → ℕ → ℕ → Outcome → Outcome
permitting p base r permissions o =
    let a = o.answer in
    let s = a.state in
    let registers = set s.registers (8 * p + r) (slot (capability base a.number permissions) true) in
    pick (eqb a.code 0)
    (outcome_with (answered 0 (slot a.number a.tag) (record { core = s.core; registers = registers; mailboxes = s.mailboxes })) o.cells o.tags) o

-- 11 leaves what 01 leaves, but for the permissions in reg.
abbrev pub MaskedStep : Type 0
MaskedStep =
    (s : State) (p base reg : ℕ) (cells tags : List ℕ) (mask : ℕ)
    → step_of s (TakeMasked p base reg mask) cells tags ≡ permitting p base reg (permitted mask) (step_of s (Take p base reg) cells tags)
