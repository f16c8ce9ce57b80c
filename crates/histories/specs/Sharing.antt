-- Document 02, 2026-02: "Two houses sharing front matter must not lose it when one lets go." A page that a principal counts keeps its
-- frame; a principal's count falls only by its holder's release or by a destroy from above it; and limits and counts keep their bounds.
-- Assumes nothing.
use Rattle.std.specs.Prelude.{ℕ, ◌<◌, ◌≤◌, true, List, [], ◌∷◌, ◌≡◌}
use Rattle.pages.specs.declared.Frame.{Frame}
use Rattle.pages.specs.declared.PageState.TheVariants.{Mapped}
use Rattle.pages.specs.declared.VirtualPage.{VirtualPage}
use Rattle.pages.specs.Layer.{page_at}
use Rattle.claims.specs.Claims.{Claims, holds, parent_of, count_of, claimed}
use Rattle.claims.specs.Tree.{LeadsUp}
use Rattle.claims.specs.Sound.{total}
use Rattle.calls.specs.declared.Call.{Call}
use Rattle.calls.specs.declared.Call.TheVariants.{Release, Destroy}
use Rattle.calls.specs.Commands.{page}
use Rattle.histories.specs.Runs.{Machine, Granted, next, run, Reached}

abbrev pub claims_in : Machine → Claims
claims_in m = m.state.core.claims

-- How often a principal counts a page.
abbrev pub counts : Machine → ℕ → ℕ → ℕ
counts m q k = count_of (claims_in m) q k

-- A page is Mapped to a frame.
abbrev pub Shows : Machine → ℕ → Frame → Type 0
Shows m k f = page_at m.state.core.pages k ≡ Mapped f

-- Something holds of each of the calls, where it is made.
pub data Each (P : Machine → Call → Type 0) : Machine → List Call → Type 0 where
  no_call_numbers : {m : Machine} → Each P m []
  each_call : {m : Machine} {c : Call} {calls : List Call} → P m c → Each P (next m c) calls → Each P m (c ∷ calls)

-- "Must not lose it": while a page has a claim when a call is made, whoever's it is from call to call, it keeps its frame.
abbrev pub KeptWhileClaimed : Type 0
KeptWhileClaimed =
    (m : Machine) → Reached m → (k : ℕ) (f : Frame) → Shows m k f → (calls : List Call) → Each (λ n c. claimed (claims_in n) k ≡ true) m calls
    → Shows (run m calls) k f

-- So it does while one principal counts it.
abbrev pub KeptWhileCounted : Type 0
KeptWhileCounted =
    (m : Machine) → Reached m → (q k : ℕ) (f : Frame) → Shows m k f → (calls : List Call) → Each (λ n c. 0 < counts n q k) m calls
    → Shows (run m calls) k f

-- Who can let go of a page that principal q counts: a party that holds q, by a release of the page; and one that holds the parent of a
-- principal to which parents lead up from q, by its destroy.
pub data LetsGo (c : Claims) (q k : ℕ) : Call → Type 0 where
  by_release : (party : ℕ) → holds c party q ≡ true → LetsGo c q k (Release party q (page k))
  by_destroy : (party p : ℕ) → holds c party (parent_of c p) ≡ true → LeadsUp c p q → LetsGo c q k (Destroy party p)

-- Only such a call lowers the count, and only if it is granted.
abbrev pub OnlyLetGo : Type 0
OnlyLetGo = (m : Machine) → Reached m → (c : Call) (q k : ℕ) → counts (next m c) q k < counts m q k → Granted m c × LetsGo (claims_in m) q k c

-- So whatever others do, and whatever is refused, a page that a principal counts keeps the count and the frame until one who can lets go.
abbrev pub KeptUntilLetGo : Type 0
KeptUntilLetGo =
    (m : Machine) → Reached m → (q k : ℕ) (f : Frame) → 0 < counts m q k → Shows m k f → (calls : List Call)
    → Each (λ n c. Granted n c → LetsGo (claims_in n) q k c → ⊥) m calls → (counts m q k ≤ counts (run m calls) q k) × Shows (run m calls) k f

-- "When one lets go", seen from principal q: a release by another principal, or a destroy of one to which parents do not lead up from q.
pub data OtherLetsGo (c : Claims) (q : ℕ) : Call → Type 0 where
  other_releases : (party p : ℕ) (x : VirtualPage) → (q ≡ p → ⊥) → OtherLetsGo c q (Release party p x)
  other_destroyed : (party p : ℕ) → (LeadsUp c p q → ⊥) → OtherLetsGo c q (Destroy party p)

-- Then q counts every page as often as it did, and a page that it counts keeps its frame.
abbrev pub OtherKept : Type 0
OtherKept =
    (m : Machine) → Reached m → (c : Call) (q : ℕ) → OtherLetsGo (claims_in m) q c
    → (k : ℕ) → (counts (next m c) q k ≡ counts m q k) × ((f : Frame) → 0 < counts m q k → Shows m k f → Shows (next m c) k f)

-- "Limits spent and unspent over the tree total 8,192": at all times.
abbrev pub AlwaysTotal : Type 0
AlwaysTotal = (m : Machine) → Reached m → total (claims_in m) ≡ 8192

-- "A count at 65,535" is not passed, so two bytes hold every count.
abbrev pub CountsFit : Type 0
CountsFit = (m : Machine) → Reached m → (q k : ℕ) → counts m q k ≤ 65535
