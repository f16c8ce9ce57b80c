-- Demand 3 of the library. Two servers begin with the same start and equal lent cells and tags, and their bytes read as two lists of
-- calls as the privacy rule compares them. Then no number of an answer to another party differs, and of what is lent afterwards nothing
-- that is not the house's own: a corollary of `privacy:Claim.Privacy` and those beside it. Every two lists of calls are so sent
-- (`Bytes.EveryHistorySent`), those of `examples:Unnoticed` too. Assumes nothing.
use Rattle.std.specs.Prelude.{ℕ, ◌+◌, ◌*◌, ◌<◌, Bool, false, not, List, ◌∷◌, ◌++◌, ◌≡◌, get_or, Some}
use Rattle.capabilities.specs.Lists.{filter}
use Rattle.pages.specs.Mapping.{lookup_of}
use Rattle.calls.specs.declared.Call.{Call}
use Rattle.privacy.specs.Rule.{housed, Time, time_after, hidden}
use Rattle.privacy.specs.Claim.{Within, time, after_take}
use Rattle.cetomuhi.specs.Lent.{Lent}
use Rattle.cetomuhi.specs.Exports.{cost_lent}
use Rattle.refinement.specs.Uses.{Served, Use, exported, begins, calls_of, Reply, served_all, replies_of}
use Rattle.refinement.specs.Bytes.{machine_in, Starts}

-- A reply to another party than the house.
abbrev pub to_other : ℕ → Reply → Bool
to_other house r = not (housed house r.call)

-- A number of a list in both.
abbrev pub SameAt : ℕ → List ℕ → List ℕ → Type 0
SameAt i xs ys = get_or xs i 0 ≡ get_or ys i 0

-- The replies to the others are the same: calls and all four numbers of each. Of what is lent: the small numbers, rows, pages, frames,
-- principals and counts; the registers and the mailbox of each other party, cell and tag; and of cells and tag bytes each that a virtual
-- cell shows, but for those in the range while the house's time lasts. So questions are answered alike: about reservations, since they go
-- by numbers and rows, and what each page costs.
pub record Unnoticed (house : ℕ) (t : Time) (g h : Served) (r q : List Reply) : Type 0 where
  pub replies : filter (to_other house) r ≡ filter (to_other house) q
  pub numbers : g.lent.numbers ≡ h.lent.numbers
  pub rows : g.lent.rows ≡ h.lent.rows
  pub pages : g.lent.pages ≡ h.lent.pages
  pub frames : g.lent.frames ≡ h.lent.frames
  pub principals : g.lent.principals ≡ h.lent.principals
  pub counts : g.lent.counts ≡ h.lent.counts
  pub registers : (p i : ℕ) → p < 8 → i < 8 → (p ≡ house → ⊥) → SameAt (8 * p + i) g.lent.words h.lent.words × SameAt (8 * p + i) g.lent.marks h.lent.marks
  pub mailboxes : (p : ℕ) → (p ≡ house → ⊥) → SameAt p g.lent.mail h.lent.mail × SameAt p g.lent.flags h.lent.flags
  pub shown : (n at : ℕ) → hidden t n ≡ false → lookup_of (machine_in g).state.core.pages n ≡ Some at → SameAt at g.cells h.cells × SameAt at g.tags h.tags
  pub costs : (n : ℕ) → cost_lent g.lent n ≡ cost_lent h.lent n

abbrev pub LibraryPrivacy : Type 0
LibraryPrivacy =
    (v f : ℕ) (cells tags : List ℕ) (before : List Call) (take : Call) (house base reg permissions : ℕ) (after₁ after₂ : List Call)
    → Within v f cells tags before take house base reg permissions after₁ after₂
    → (l₁ l₂ : Lent) → Starts v f l₁ cells tags → Starts v f l₂ cells tags
    → (uses₁ uses₂ : List Use) → calls_of uses₁ ≡ before ++ take ∷ after₁ → calls_of uses₂ ≡ before ++ take ∷ after₂
    → Unnoticed house (time_after (time v f cells tags before take house base reg permissions) (after_take v f cells tags before take house base reg permissions) after₁)
    (served_all exported (begins v f l₁ cells tags) uses₁) (served_all exported (begins v f l₂ cells tags) uses₂)
    (replies_of exported (begins v f l₁ cells tags) uses₁) (replies_of exported (begins v f l₂ cells tags) uses₂)
