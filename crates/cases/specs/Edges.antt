-- Document 01, 'Edges': the cases marked K, as one list. Each is a start and calls, one after the other over zeroed lent
-- memory, with the codes that the document names. Assumes nothing.
use Rattle.std.specs.Prelude.{ℕ, ◌*◌, Bool, not, List, [], ◌∷◌, replicate}
use Rattle.capabilities.specs.Lists.{same}
use Rattle.calls.specs.declared.Call.{Call}
use Rattle.calls.specs.declared.Call.TheVariants.{Take, Split, Give, Revoke, Sweep, Collect, Map, Zero, Load, Store, Narrow}
use Rattle.calls.specs.Commands.{page, frame}
use Rattle.machine.specs.State.{State}
use Rattle.machine.specs.Formed.{start_of}
use Rattle.machine.specs.Step.{step_of}

-- V and F, the calls, and the codes expected: the start's, then each call's.
pub record Case : Type 0 where
  pub v : ℕ
  pub f : ℕ
  pub calls : List Call
  pub expected : List ℕ

abbrev pub edge : ℕ → ℕ → List Call → List ℕ → Case
edge v f calls expected = record { v = v; f = f; calls = calls; expected = expected }

-- The code of each call. "Every call .. gets the state that the one before handed back and the lent memory that it left."
unfoldable pub codes_from : State → List ℕ → List ℕ → List Call → List ℕ
codes_from s cells tags [] = []
codes_from s cells tags (c ∷ rest) =
    let o = step_of s c cells tags in
    o.answer.code ∷ codes_from o.answer.state o.cells o.tags rest

-- The codes of a start and of calls over zeroed lent memory of 16 × F cells and tags.
unfoldable pub codes : ℕ → ℕ → List Call → List ℕ
codes v f calls =
    let a = start_of v f in
    a.code ∷ codes_from a.state (replicate (16 * f) 0) (replicate (16 * f) 0) calls

-- Two things with different numbers.
unfoldable pub apart : {A : Type 0} → (A → List ℕ) → A → A → Bool
apart numbers x y = not (same (numbers x) (numbers y))

unfoldable pub meets : Case → Bool
meets c = same (codes c.v c.f c.calls) c.expected

-- Frame 0 is zeroed and mapped at page 0, and party 0 takes the sixteen cells from 0 on into register 0.
abbrev pub taken16 : List Call → List Call
taken16 rest = Zero 0 (frame 0) ∷ Map 0 (page 0) (frame 0) ∷ Take 0 0 0 ∷ rest

-- With V 1 the one reservation has sixteen cells, from 0 on.
unfoldable pub cases : List Case
cases =
    -- "split of 16 at 15 and at 16 (0, 8); at 0 (8)"
    edge 1 1 (Split 0 0 15 ∷ []) (0 ∷ 0 ∷ [])
    ∷ edge 1 1 (Split 0 0 16 ∷ []) (0 ∷ 8 ∷ [])
    ∷ edge 1 1 (Split 0 0 0 ∷ []) (0 ∷ 8 ∷ [])
    -- "take twice (0, 6 for a taker that isn't party 0, 7 for party 0)"
    ∷ edge 1 1 (Give 0 0 3 ∷ Take 3 0 0 ∷ Take 3 0 0 ∷ []) (0 ∷ 0 ∷ 0 ∷ 6 ∷ [])
    ∷ edge 1 1 (Take 0 0 0 ∷ Take 0 0 0 ∷ []) (0 ∷ 0 ∷ 7 ∷ [])
    -- "offset 15 and 16 in length 16 (0, 17)"
    ∷ edge 1 1 (taken16 (Load 0 0 15 1 ∷ [])) (0 ∷ 0 ∷ 0 ∷ 0 ∷ 0 ∷ [])
    ∷ edge 1 1 (taken16 (Load 0 0 16 1 ∷ [])) (0 ∷ 0 ∷ 0 ∷ 0 ∷ 17 ∷ [])
    ∷ edge 1 1 (taken16 (Store 0 0 15 1 ∷ [])) (0 ∷ 0 ∷ 0 ∷ 0 ∷ 0 ∷ [])
    ∷ edge 1 1 (taken16 (Store 0 0 16 1 ∷ [])) (0 ∷ 0 ∷ 0 ∷ 0 ∷ 17 ∷ [])
    ∷ edge 1 1 (taken16 (Narrow 0 0 15 1 15 1 ∷ [])) (0 ∷ 0 ∷ 0 ∷ 0 ∷ 0 ∷ [])
    ∷ edge 1 1 (taken16 (Narrow 0 0 16 1 15 1 ∷ [])) (0 ∷ 0 ∷ 0 ∷ 0 ∷ 17 ∷ [])
    -- "revoke of 16 and of 15 cells at base 0, unmapped (0, 10)"
    ∷ edge 1 1 (Revoke 0 0 ∷ []) (0 ∷ 0 ∷ [])
    ∷ edge 1 1 (Split 0 0 15 ∷ Revoke 0 0 ∷ []) (0 ∷ 0 ∷ 10 ∷ [])
    -- "collect with 0 and 1 cell left (0, 11)"
    ∷ edge 1 1 (Revoke 0 0 ∷ Sweep 0 16 ∷ Collect 0 ∷ []) (0 ∷ 0 ∷ 0 ∷ 0 ∷ [])
    ∷ edge 1 1 (Revoke 0 0 ∷ Sweep 0 15 ∷ Collect 0 ∷ []) (0 ∷ 0 ∷ 0 ∷ 11 ∷ [])
    -- "V 256 and 257 (0, 1)"
    ∷ edge 256 1 [] (0 ∷ [])
    ∷ edge 257 1 [] (1 ∷ []) ∷ []
