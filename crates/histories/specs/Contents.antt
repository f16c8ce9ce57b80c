-- Document 02, 2026-02: "Two houses sharing front matter must not lose it", neither its frame (`Sharing`) nor what stands in it. A cell of a
-- Mapped page changes only by a granted store there, its tag also by a granted sweep of a capability that dies. Assumes nothing.
use Rattle.std.specs.Prelude.{ℕ, ◌+◌, ◌*◌, ◌<◌, true, List, ◌≡◌, get_or}
use Rattle.capabilities.specs.Capability.{base_of}
use Rattle.pages.specs.declared.Frame.{Frame}
use Rattle.claims.specs.Claims.{claimed}
use Rattle.reservations.specs.Revocation.{dying}
use Rattle.calls.specs.declared.Call.{Call}
use Rattle.calls.specs.declared.Call.TheVariants.{Sweep}
use Rattle.words.specs.Words.{register_of}
use Rattle.machine.specs.State.{State}
use Rattle.machine.specs.Roles.{stores, Asked, asked, role_of}
use Rattle.machine.specs.Step.{Outcome}
use Rattle.histories.specs.Runs.{Machine, Granted, outcome, run, Reached}
use Rattle.histories.specs.Sharing.{claims_in, counts, Shows, Each, LetsGo}

-- Cell i of a frame, of the lent cells or of the lent tags.
abbrev pub cell_in : List ℕ → Frame → ℕ → ℕ
cell_in lent f i = get_or lent (16 * f.0 + i) 0

-- A store to virtual cell v: "the cell at base + off of the capability in a".
pub data StoresTo (s : State) (v : ℕ) : Asked → Type 0 where
  stores_to : (p a off x : ℕ) → base_of (register_of s.registers p a).cell + off ≡ v → StoresTo s v (asked p (stores a off x))

-- What changes the tag of cell i of page k, which is Mapped to frame f: a store there; or a sweep, if the number there is that of a
-- capability that dies.
pub data Retags (m : Machine) (k : ℕ) (f : Frame) (i : ℕ) : Call → Type 0 where
  by_store : {c : Call} → StoresTo m.state (16 * k + i) (role_of c) → Retags m k f i c
  by_sweep : (party n : ℕ) → dying m.state.core (cell_in m.cells f i) ≡ true → Retags m k f i (Sweep party n)

-- An outcome of a call leaves the cell and its tag as they were, or the call is granted and one of those.
pub record ContentLeft (m : Machine) (k : ℕ) (f : Frame) (i : ℕ) (c : Call) (o : Outcome) : Type 0 where
  pub of_cell : (cell_in o.cells f i ≡ cell_in m.cells f i → ⊥) → (o.answer.code ≡ 0) × StoresTo m.state (16 * k + i) (role_of c)
  pub of_tag : (cell_in o.tags f i ≡ cell_in m.tags f i → ⊥) → (o.answer.code ≡ 0) × Retags m k f i c

-- After every history, of every Mapped page, with a claim or without, and of every call.
abbrev pub ContentKept : Type 0
ContentKept = (m : Machine) → Reached m → (k : ℕ) (f : Frame) → Shows m k f → (i : ℕ) → i < 16 → (c : Call) → ContentLeft m k f i c (outcome m c)

-- What calls leave of the cell and of its tag, if none of them is granted and one of those: what was there.
abbrev pub ContentStands : Machine → ℕ → Frame → ℕ → List Call → Type 0
ContentStands m k f i calls =
    (Each (λ n c. Granted n c → StoresTo n.state (16 * k + i) (role_of c) → ⊥) m calls → cell_in (run m calls).cells f i ≡ cell_in m.cells f i)
    × (Each (λ n c. Granted n c → Retags n k f i c → ⊥) m calls → cell_in (run m calls).tags f i ≡ cell_in m.tags f i)

-- "Must not lose it": so it is while the page has a claim, and with it keeps its frame.
abbrev pub ContentKeptWhileClaimed : Type 0
ContentKeptWhileClaimed =
    (m : Machine) → Reached m → (k : ℕ) (f : Frame) → Shows m k f → (i : ℕ) → i < 16 → (calls : List Call)
    → Each (λ n c. claimed (claims_in n) k ≡ true) m calls → ContentStands m k f i calls

-- And so it is of a page that a principal counts, until one who can lets go.
abbrev pub ContentKeptUntilLetGo : Type 0
ContentKeptUntilLetGo =
    (m : Machine) → Reached m → (q k : ℕ) (f : Frame) → 0 < counts m q k → Shows m k f → (i : ℕ) → i < 16 → (calls : List Call)
    → Each (λ n c. Granted n c → LetsGo (claims_in n) q k c → ⊥) m calls → ContentStands m k f i calls
