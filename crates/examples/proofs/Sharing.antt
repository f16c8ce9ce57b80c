-- Two houses share a page, by computing: it keeps its frame until the second lets go, by a release or by a destroy. Assumes nothing.
use Prim.Native.Nat.{ℕ}
use mathlib.Core.Bool.{true}
use mathlib.Core.List.{List, [], ◌∷◌}
use mathlib.Core.Path.{◌≡◌, refl}
use Rattle.capabilities.specs.Lists.{same, all}
use Rattle.pages.specs.Entries.{maps}
use Rattle.pages.specs.Layer.{page_at}
use Rattle.claims.specs.Claims.{unspent}
use Rattle.calls.specs.declared.Call.TheVariants.{Map, Unmap, Zero, Create, Claim, Release, Destroy}
use Rattle.calls.specs.Commands.{page, frame}
use Rattle.words.specs.Words.{byte_of}
use Rattle.machine.specs.Step.{step_of}
use Rattle.machine.proofs.Computing.{computing}
use Rattle.histories.specs.Runs.{Machine, begun}
use Rattle.histories.specs.Sharing.{claims_in, counts}
use Rattle.examples.proofs.Histories.{Noted, note, History, start, follows, happens}

-- How often principals 3 and 5 count page 1, what principal 0 has unspent, and whether page 1 shows frame 0.
abbrev pub shared_page : Machine → List ℕ
shared_page m = counts m 3 1 ∷ counts m 5 1 ∷ unspent (claims_in m) 0 ∷ byte_of (maps (page_at m.state.core.pages 1) 0) ∷ []

-- Party 0 makes principal 3 for party 1 and principal 5 for party 2, and both claim page 1. Neither can release for the other.
abbrev pub sharing : List Noted → History
sharing rest =
    record {
      step = step_of;
      look = shared_page;
      calls =
          note (Zero 0 (frame 0)) (0 ∷ 0 ∷ 0 ∷ 8192 ∷ 0 ∷ [])
          ∷ note (Map 0 (page 1) (frame 0)) (0 ∷ 0 ∷ 0 ∷ 8192 ∷ 1 ∷ [])
          ∷ note (Create 0 0 3 100 1) (0 ∷ 0 ∷ 0 ∷ 8092 ∷ 1 ∷ [])
          ∷ note (Create 0 0 5 1 2) (0 ∷ 0 ∷ 0 ∷ 8091 ∷ 1 ∷ [])
          ∷ note (Claim 1 3 (page 1)) (0 ∷ 1 ∷ 0 ∷ 8091 ∷ 1 ∷ [])
          ∷ note (Claim 2 5 (page 1)) (0 ∷ 1 ∷ 1 ∷ 8091 ∷ 1 ∷ [])
          ∷ note (Claim 2 5 (page 0)) (21 ∷ 1 ∷ 1 ∷ 8091 ∷ 1 ∷ [])
          ∷ note (Unmap 0 (page 1)) (22 ∷ 1 ∷ 1 ∷ 8091 ∷ 1 ∷ [])
          ∷ note (Release 1 5 (page 1)) (20 ∷ 1 ∷ 1 ∷ 8091 ∷ 1 ∷ [])
          ∷ note (Destroy 1 5) (20 ∷ 1 ∷ 1 ∷ 8091 ∷ 1 ∷ [])
          ∷ rest;
    }

-- One releases it, then the other.
abbrev pub one_then_other : History
one_then_other =
    sharing
    (note (Release 1 3 (page 1)) (0 ∷ 0 ∷ 1 ∷ 8091 ∷ 1 ∷ [])
    ∷ note (Unmap 0 (page 1)) (22 ∷ 0 ∷ 1 ∷ 8091 ∷ 1 ∷ [])
    ∷ note (Release 2 5 (page 1)) (0 ∷ 0 ∷ 0 ∷ 8091 ∷ 1 ∷ [])
    ∷ note (Unmap 0 (page 1)) (0 ∷ 0 ∷ 0 ∷ 8091 ∷ 0 ∷ [])
    ∷ [])

-- One is destroyed, then the other.
abbrev pub destroyed_in_turn : History
destroyed_in_turn =
    sharing
    (note (Destroy 0 3) (0 ∷ 0 ∷ 1 ∷ 8191 ∷ 1 ∷ [])
    ∷ note (Unmap 0 (page 1)) (22 ∷ 0 ∷ 1 ∷ 8191 ∷ 1 ∷ [])
    ∷ note (Destroy 0 5) (0 ∷ 0 ∷ 0 ∷ 8192 ∷ 1 ∷ [])
    ∷ note (Unmap 0 (page 1)) (0 ∷ 0 ∷ 0 ∷ 8192 ∷ 0 ∷ [])
    ∷ [])

pub both_happen : all happens (one_then_other ∷ destroyed_in_turn ∷ []) ≡ true
unfolding all happens follows same start begun computing
both_happen = refl
