-- Document 02, 2026-02, at the level of the machine: what one call on claims does, another one of the same party takes back, every bit of
-- state and lent memory included. That the first call is granted says that the state is well formed and the memory serves it, since refusals
-- 1 and 2 come before all others; so neither is a premise. Assumes nothing.
use Rattle.std.specs.Prelude.{ℕ, ◌<◌, List, ◌≡◌}
use Rattle.pages.specs.declared.VirtualPage.{VirtualPage}
use Rattle.claims.specs.Claims.{count_of}
use Rattle.calls.specs.declared.Call.{Call}
use Rattle.calls.specs.declared.Call.TheVariants.{Create, Claim, Release, Destroy}
use Rattle.words.specs.Words.{empty}
use Rattle.machine.specs.State.{State}
use Rattle.machine.specs.Formed.{answered}
use Rattle.machine.specs.Step.{outcome_with, step_of}

-- If the first call is granted, the second, made right after it, is granted too, answers 0 0, and leaves state, cells and tags as they were
-- before the first.
abbrev pub Undone : State → List ℕ → List ℕ → Call → Call → Type 0
Undone s cells tags first second =
    let o = step_of s first cells tags in
    o.answer.code ≡ 0 → step_of o.answer.state second o.cells o.tags ≡ outcome_with (answered 0 empty s) cells tags

-- "13 claim .. counts one up, and the first count of a page spends 1. 14 release (the same) counts one down, and the last gives 1 back."
abbrev pub ClaimReleased : Type 0
ClaimReleased =
    (s : State) (cells tags : List ℕ) (party principal : ℕ) (page : VirtualPage)
    → Undone s cells tags (Claim party principal page) (Release party principal page)

-- The other way round the count must be one that a claim can reach, at most 65,535 ("21, .. a count at 65,535"). Each count that the machine
-- is lent is so, being a u16; `Claims` has numbers without a bound, and well-formed ones may be greater, so it is a premise.
abbrev pub ReleaseClaimed : Type 0
ReleaseClaimed =
    (s : State) (cells tags : List ℕ) (party principal : ℕ) (page : VirtualPage) → count_of s.core.claims principal page.0 < 65536
    → Undone s cells tags (Release party principal page) (Claim party principal page)

-- "12 create .. moves unspent limit to the child. .. 15 destroy (principal) drops its claims and all its descendants, and returns their limits
-- to the parent."
abbrev pub CreateDestroyed : Type 0
CreateDestroyed =
    (s : State) (cells tags : List ℕ) (party parent child limit holder : ℕ)
    → Undone s cells tags (Create party parent child limit holder) (Destroy party child)
