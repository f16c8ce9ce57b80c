-- Histories by computing, each call with what is seen after it: so no theorem here holds for want of a case. Wrong machines stand beside
-- the rule, so that a tag is seen to survive a collect, and a dying capability to come back into a register. Assumes nothing.
use Prim.Native.Nat.{ℕ, ◌+◌}
use mathlib.Core.Bool.{Bool, true, ◌&&◌}
use mathlib.Core.List.{List, [], ◌∷◌, ◌++◌, map}
use mathlib.Core.Path.{◌≡◌, refl}
use lib.ListN.{length, replicate}
use Rattle.capabilities.specs.Lists.{same, all}
use Rattle.capabilities.specs.declared.Range.{Range}
use Rattle.pages.specs.Pages.{Pages}
use Rattle.sweep.specs.Sweep.{Passed, passing, sweep_of}
use Rattle.table.specs.Rows.{live}
use Rattle.reservations.specs.Revocation.{dying}
use Rattle.calls.specs.declared.Call.{Call}
use Rattle.calls.specs.declared.Call.TheVariants.{Take, Split, Merge, Revoke, Sweep, Collect, Map, Unmap, Zero, Load, Store, Narrow, Number, Grant, Receive, TakeMasked}
use Rattle.calls.specs.Commands.{page, frame}
use Rattle.words.specs.declared.Slot.{Slot}
use Rattle.words.specs.Words.{byte_of}
use Rattle.machine.specs.Formed.{start_of}
use Rattle.machine.specs.Step.{step_of}
use Rattle.cases.specs.Variants.{Rule, instead, sweep_by, load_by, store_by}
use Rattle.cases.specs.WrongMachines.{untouched, loads_dying, kept_byte}
use Rattle.machine.proofs.Computing.{computing}
use Rattle.histories.specs.Runs.{Machine, machine, begun, Begins}
use Rattle.histories.specs.Live.{Spot, register, virtual, word_in}

-- Two virtual pages and one frame, whose memory is not 0 and all tagged.
unfoldable pub start : Machine
start = begun 2 1 (replicate 16 7) (replicate 16 1)

-- The start is granted, over memory of the right size.
pub begins : Begins 2 1 (replicate 16 7) (replicate 16 1)
unfolding start_of
begins = record { granted = refl; of_cells = refl; of_tags = refl }

-- A call, with its code and what is then seen: how many reservations there are, and which of some spots hold a capability.
pub record Noted : Type 0 where
  pub call : Call
  pub seen : List ℕ

abbrev pub note : Call → List ℕ → Noted
note c seen = record { call = c; seen = seen }

-- A history from the start on: the machine that is run, what is looked at, and the calls.
pub record History : Type 0 where
  pub step : Rule
  pub look : Machine → List ℕ
  pub calls : List Noted

abbrev pub looked : List Spot → Machine → List ℕ
looked spots m = length (live m.state.core.table) ∷ map (λ x. byte_of (word_in m x).tag) spots

unfoldable pub follows : Rule → (Machine → List ℕ) → Machine → List Noted → Bool
follows step look m [] = true
follows step look m (n ∷ l) =
    let o = step m.state n.call m.cells m.tags in
    let after = machine o.answer.state o.cells o.tags in
    same (o.answer.code ∷ look after) n.seen && follows step look after l

unfoldable pub happens : History → Bool
happens h = follows h.step h.look start h.calls

-- Registers 0 and 1 of party 0 and register 0 of party 1 are looked at. Two of them hold capabilities into the range when its
-- collect comes, and none after it, until it is taken again.
abbrev pub again : History
again =
    record {
      step = step_of;
      look = looked (register 0 ∷ register 1 ∷ register 8 ∷ []);
      calls =
          note (Zero 0 (frame 0)) (0 ∷ 1 ∷ 0 ∷ 0 ∷ 0 ∷ [])
          ∷ note (Map 0 (page 0) (frame 0)) (0 ∷ 1 ∷ 0 ∷ 0 ∷ 0 ∷ [])
          ∷ note (Split 0 0 16) (0 ∷ 2 ∷ 0 ∷ 0 ∷ 0 ∷ [])
          ∷ note (TakeMasked 0 0 0 15) (0 ∷ 2 ∷ 1 ∷ 0 ∷ 0 ∷ [])
          ∷ note (Store 0 0 3 0) (0 ∷ 2 ∷ 1 ∷ 0 ∷ 0 ∷ [])
          ∷ note (Grant 0 0 1) (0 ∷ 2 ∷ 1 ∷ 0 ∷ 0 ∷ [])
          ∷ note (Receive 1 0) (0 ∷ 2 ∷ 1 ∷ 0 ∷ 1 ∷ [])
          ∷ note (Unmap 0 (page 0)) (0 ∷ 2 ∷ 1 ∷ 0 ∷ 1 ∷ [])
          ∷ note (Revoke 0 0) (0 ∷ 2 ∷ 1 ∷ 0 ∷ 1 ∷ [])
          ∷ note (Sweep 0 16) (0 ∷ 2 ∷ 1 ∷ 0 ∷ 1 ∷ [])
          ∷ note (Collect 0) (0 ∷ 2 ∷ 0 ∷ 0 ∷ 0 ∷ [])
          ∷ note (Zero 0 (frame 0)) (0 ∷ 2 ∷ 0 ∷ 0 ∷ 0 ∷ [])
          ∷ note (Map 0 (page 0) (frame 0)) (0 ∷ 2 ∷ 0 ∷ 0 ∷ 0 ∷ [])
          ∷ note (Take 0 0 1) (0 ∷ 2 ∷ 0 ∷ 1 ∷ 0 ∷ [])
          ∷ [];
    }

-- All reservations are Open and party 0's after the split, two of them; a merge leads back to one.
abbrev pub merged : History
merged = record { step = step_of; look = looked []; calls = note (Split 0 0 16) (0 ∷ 2 ∷ []) ∷ note (Merge 0 0) (0 ∷ 1 ∷ []) ∷ [] }

-- Party 0 takes cells 0 to 15 into register 0, and 16 to 31, which the frame shows, into register 1 with all permissions; it stores the first capability
-- at virtual cell 19, and cells 0 to 15 are revoked. Virtual cells 18 and 19 and register 0 are looked at.
abbrev pub revoking : Rule → List Noted → History
revoking step rest =
    record {
      step = step;
      look = looked (virtual 18 ∷ virtual 19 ∷ register 0 ∷ []);
      calls =
          note (Zero 0 (frame 0)) (0 ∷ 1 ∷ 0 ∷ 0 ∷ 0 ∷ [])
          ∷ note (Map 0 (page 1) (frame 0)) (0 ∷ 1 ∷ 0 ∷ 0 ∷ 0 ∷ [])
          ∷ note (Split 0 0 16) (0 ∷ 2 ∷ 0 ∷ 0 ∷ 0 ∷ [])
          ∷ note (Take 0 0 0) (0 ∷ 2 ∷ 0 ∷ 0 ∷ 1 ∷ [])
          ∷ note (TakeMasked 0 16 1 15) (0 ∷ 2 ∷ 0 ∷ 0 ∷ 1 ∷ [])
          ∷ note (Store 0 1 3 0) (0 ∷ 2 ∷ 0 ∷ 1 ∷ 1 ∷ [])
          ∷ note (Revoke 0 0) (0 ∷ 2 ∷ 0 ∷ 1 ∷ 1 ∷ [])
          ∷ rest;
    }

-- The sweep takes the tag of cell 19. Behind its place the capability is stored again, at cell 18, and the filter takes its tag. So
-- after the collect there is none.
abbrev pub taken : History
taken =
    revoking step_of
    (note (Sweep 0 8) (0 ∷ 2 ∷ 0 ∷ 0 ∷ 1 ∷ [])
    ∷ note (Store 0 1 2 0) (0 ∷ 2 ∷ 0 ∷ 0 ∷ 1 ∷ [])
    ∷ note (Sweep 0 8) (0 ∷ 2 ∷ 0 ∷ 0 ∷ 1 ∷ [])
    ∷ note (Collect 0) (0 ∷ 2 ∷ 0 ∷ 0 ∷ 0 ∷ [])
    ∷ [])

-- A sweep that clears nothing, and answers as the rule does: the tag of cell 19 survives the collect.
unfoldable pub clears_nothing : Pages → Range → ℕ → ℕ → List ℕ → List ℕ → Passed
clears_nothing s r place n cells tags = passing (sweep_of s r place n cells tags).answer tags

abbrev pub unswept : History
unswept =
    revoking (sweep_by clears_nothing)
    (note (Sweep 0 8) (0 ∷ 2 ∷ 0 ∷ 1 ∷ 1 ∷ [])
    ∷ note (Store 0 1 2 0) (0 ∷ 2 ∷ 0 ∷ 1 ∷ 1 ∷ [])
    ∷ note (Sweep 0 8) (0 ∷ 2 ∷ 0 ∷ 1 ∷ 1 ∷ [])
    ∷ note (Collect 0) (0 ∷ 2 ∷ 0 ∷ 1 ∷ 0 ∷ [])
    ∷ [])

-- A store without the filter: the tag of cell 18 survives the collect.
abbrev pub unfiltered : History
unfiltered =
    revoking (store_by untouched)
    (note (Sweep 0 8) (0 ∷ 2 ∷ 0 ∷ 0 ∷ 1 ∷ [])
    ∷ note (Store 0 1 2 0) (0 ∷ 2 ∷ 1 ∷ 0 ∷ 1 ∷ [])
    ∷ note (Sweep 0 8) (0 ∷ 2 ∷ 1 ∷ 0 ∷ 1 ∷ [])
    ∷ note (Collect 0) (0 ∷ 2 ∷ 1 ∷ 0 ∷ 0 ∷ [])
    ∷ [])

-- How many registers and mailboxes hold a dying capability, and the tag of virtual cell 19, in memory.
unfoldable pub dying_among : Machine → List Slot → ℕ
dying_among m [] = 0
dying_among m (w ∷ l) = byte_of (w.tag && dying m.state.core w.cell) + dying_among m l

abbrev pub dying_held : Machine → List ℕ
dying_held m = dying_among m (m.state.registers ++ m.state.mailboxes) ∷ byte_of (word_in m (virtual 19)).tag ∷ []

-- Party 0 stores its capability to cells 0 to 15 at virtual cell 19, as above, and forgets it. When these cells are revoked, no register and
-- no mailbox holds a dying capability; memory does.
abbrev pub kept_in_memory : Rule → List Noted → History
kept_in_memory step rest =
    record {
      step = step;
      look = dying_held;
      calls =
          note (Zero 0 (frame 0)) (0 ∷ 0 ∷ 0 ∷ [])
          ∷ note (Map 0 (page 1) (frame 0)) (0 ∷ 0 ∷ 0 ∷ [])
          ∷ note (Split 0 0 16) (0 ∷ 0 ∷ 0 ∷ [])
          ∷ note (Take 0 0 0) (0 ∷ 0 ∷ 0 ∷ [])
          ∷ note (TakeMasked 0 16 1 15) (0 ∷ 0 ∷ 0 ∷ [])
          ∷ note (Store 0 1 3 0) (0 ∷ 0 ∷ 1 ∷ [])
          ∷ note (Number 0 0 0) (0 ∷ 0 ∷ 1 ∷ [])
          ∷ note (Revoke 0 0) (0 ∷ 0 ∷ 1 ∷ [])
          ∷ rest;
    }

-- A load takes its tag, and leaves that in memory; so it cannot be narrowed or granted.
abbrev pub dead_at_once : History
dead_at_once =
    kept_in_memory step_of
    (note (Load 0 1 3 2) (0 ∷ 0 ∷ 1 ∷ [])
    ∷ note (Narrow 0 2 0 1 3 4) (15 ∷ 0 ∷ 1 ∷ [])
    ∷ note (Grant 0 2 1) (15 ∷ 0 ∷ 1 ∷ [])
    ∷ note (Sweep 0 16) (0 ∷ 0 ∷ 0 ∷ [])
    ∷ note (Collect 0) (0 ∷ 0 ∷ 0 ∷ [])
    ∷ [])

-- Without the filter on loads it is in a register again, and goes on to others, until the collect.
abbrev pub loaded_back : History
loaded_back =
    kept_in_memory (load_by loads_dying loads_dying kept_byte)
    (note (Load 0 1 3 2) (0 ∷ 1 ∷ 1 ∷ [])
    ∷ note (Narrow 0 2 0 1 3 4) (0 ∷ 2 ∷ 1 ∷ [])
    ∷ note (Grant 0 2 1) (0 ∷ 3 ∷ 1 ∷ [])
    ∷ note (Sweep 0 16) (0 ∷ 3 ∷ 0 ∷ [])
    ∷ note (Collect 0) (0 ∷ 0 ∷ 0 ∷ [])
    ∷ [])

pub all_happen : all happens (again ∷ merged ∷ taken ∷ unswept ∷ unfiltered ∷ dead_at_once ∷ loaded_back ∷ []) ≡ true
unfolding all happens follows dying_among same start begun instead sweep_by store_by load_by clears_nothing computing
all_happen = refl
