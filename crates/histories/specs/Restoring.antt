-- Nothing lost, from every state. After every history some calls, each of them granted in its turn, lead back to one Open reservation of
-- all cells, held by party 0, with every page Unmapped, the claims of a fresh start and no live capability. The calls are computed from the
-- state. Assumes nothing.
use Rattle.std.specs.Prelude.{ℕ, zero, suc, ◌+◌, ◌-◌, ◌*◌, ◌<◌, ◌≤◌, Bool, true, false, not, ◌&&◌, List, [], ◌∷◌, ◌++◌, ◌≡◌, length, replicate, eqb}
use Rattle.capabilities.specs.Lists.{pick}
use Rattle.pages.specs.declared.PageState.TheVariants.{Unmapped}
use Rattle.pages.specs.Pages.{Pages}
use Rattle.pages.specs.Entries.{is_mapped}
use Rattle.pages.specs.Layer.{page_at}
use Rattle.table.specs.declared.ReservationState.TheVariants.{Open}
use Rattle.table.specs.Table.{Table}
use Rattle.table.specs.Rows.{is_open, live, reservation, no_taker}
use Rattle.claims.specs.Claims.{Claims, in_being, parent_of, count_of}
use Rattle.claims.specs.Sound.{fresh_claims}
use Rattle.reservations.specs.Revocation.{running}
use Rattle.calls.specs.declared.Call.{Call}
use Rattle.calls.specs.declared.Call.TheVariants.{Take, Merge, Revoke, Sweep, Collect, Unmap, Release, Destroy}
use Rattle.calls.specs.Commands.{page}
use Rattle.histories.specs.Runs.{Machine, run, Reached, Always}
use Rattle.histories.specs.Live.{Spot, Live}
use Rattle.histories.specs.Inv.{row_at}
use Rattle.histories.specs.Losing.{AllGranted}

-- A call for each number below n that passes a test, the highest first.
unfoldable pub each_below : (ℕ → Bool) → (ℕ → Call) → ℕ → List Call
each_below test call zero = []
each_below test call (suc n) = pick (test n) (call n ∷ each_below test call n) (each_below test call n)

-- So many calls for each number below n, the highest first.
unfoldable pub many_below : (ℕ → ℕ) → (ℕ → Call) → ℕ → List Call
many_below times call zero = []
many_below times call (suc n) = replicate (times n) (call n) ++ many_below times call n

-- All cells of F frames are swept, and the revocation is collected.
unfoldable pub sweep_and_collect : ℕ → List Call
sweep_and_collect f = Sweep 0 (16 * f) ∷ Collect 0 ∷ []

-- 1. The revocation that runs, if one does, is brought to its end.
unfoldable pub finishing : Machine → List Call
finishing m = pick (running m.state.core) (sweep_and_collect m.state.core.pages.f) []

-- 2. Each Open reservation is taken by its holder; then all are Taken, and party 0 holds them.
abbrev pub open_at : Table → ℕ → Bool
open_at t i = is_open (row_at t i).state

abbrev pub take_at : Table → ℕ → Call
take_at t i = Take (row_at t i).holder (row_at t i).base 0

unfoldable pub taking : Machine → List Call
taking m =
    let t = m.state.core.table in
    each_below (open_at t) (take_at t) (length (live t))

-- 3. They are merged into one, which is made of whole pages, wherever the splits were.
unfoldable pub merging : Machine → List Call
merging m = replicate (length (live m.state.core.table) - 1) (Merge 0 0)

-- 4. Each principal right below 0 is destroyed, and with it all below it; then 0 alone is in being.
abbrev pub top_at : Claims → ℕ → Bool
top_at c p = in_being c p && (not (eqb p 0) && eqb (parent_of c p) 0)

unfoldable pub destroying : Machine → List Call
destroying m = each_below (top_at m.state.core.claims) (λ p. Destroy 0 p) 32

-- 5. Each page that principal 0 counts is released as often as it counts it; then no page has a claim.
unfoldable pub releasing : Machine → List Call
releasing m = many_below (λ k. count_of m.state.core.claims 0 k) (λ k. Release 0 0 (page k)) m.state.core.pages.v

-- 6. Each Mapped page is unmapped, of those that pass a test.
abbrev pub mapped_at : Pages → ℕ → Bool
mapped_at s p = is_mapped (page_at s p)

unfoldable pub unmapping : (ℕ → Bool) → Machine → List Call
unmapping among m =
    let s = m.state.core.pages in
    each_below (λ p. among p && mapped_at s p) (λ p. Unmap 0 (page p)) s.v

-- 7. The reservation at a base is revoked, and the revocation brought to its end.
unfoldable pub revoking : ℕ → Machine → List Call
revoking base m = Revoke 0 base ∷ sweep_and_collect m.state.core.pages.f

-- Calls computed from a state, and then those computed from the state that they lead to.
infixr 5 ◌and_then◌
unfoldable pub ◌and_then◌ : (Machine → List Call) → (Machine → List Call) → Machine → List Call
(a and_then b) m = a m ++ b (run m (a m))

-- 4 and 5. No page has a claim then, and each can be unmapped.
unfoldable pub unclaiming : Machine → List Call
unclaiming = destroying and_then releasing

abbrev pub every_page : ℕ → Bool
every_page p = true

unfoldable pub restoring : Machine → List Call
restoring = finishing and_then taking and_then merging and_then unclaiming and_then unmapping every_page and_then revoking 0

-- One Open reservation of 16 V cells, held by party 0; every page Unmapped; no revocation runs; principal 0 alone is in being, with all
-- limit unspent and no count; and no register, mailbox or virtual cell holds a capability, of whatever length.
pub record Restored (m : Machine) (v : ℕ) : Type 0 where
  pub one : live m.state.core.table ≡ reservation 0 (16 * v) Open 0 no_taker ∷ []
  pub pages : (p : ℕ) → p < v → page_at m.state.core.pages p ≡ Unmapped
  pub quiet : running m.state.core ≡ false
  pub claims : m.state.core.claims ≡ fresh_claims true
  pub none : (x : Spot) → Live m x → ⊥

-- The takes are the holders': what party 0 brings about without them is in specs/Manager.antt.
abbrev pub NothingLostAt : (m : Machine) → Reached m → Type 0
NothingLostAt m r = AllGranted m (restoring m) × Restored (run m (restoring m)) r.v

abbrev pub NothingLost : Type 0
NothingLost = Always NothingLostAt

-- So many calls are enough: 2 that end a revocation, 64 takes, 63 merges, 31 destroys, 65,535 releases and an unmap for each page, and 3.
abbrev pub RestoringBounded : Type 0
RestoringBounded = (m : Machine) (r : Reached m) → length (restoring m) ≤ 163 + 65536 * r.v
