-- What stands in the arrays, entry by entry, and what a call on some of them promises. Assumes nothing.
use Rattle.std.specs.Prelude.{ℕ, ◌*◌, Bool, List, [], ◌≡◌, length, Option}
use Rattle.capabilities.specs.declared.Range.{Range}
use Rattle.capabilities.specs.Death.{dies}
use Rattle.pages.specs.Mapping.{lookup_of}
use Rattle.calls.specs.declared.Call.{Call}
use Rattle.machine.specs.Step.{ruled}
use Rattle.arrays.specs.declared.Arrays.{Arrays}
use Rattle.arrays.specs.declared.Answer.{Answer}
use Rattle.arrays.specs.declared.Numbers.{Numbers}
use Rattle.pages.specs.Numbers.{layer_of}
use Rattle.arrays.specs.Reading.{arrays, Formed, state_of}
use Rattle.arrays.specs.Steps.{Does, leaving, left_of, with_words, with_rows, with_pages, with_mails, with_table, with_claims, counted}

-- The place of a virtual cell in lent memory; F and the frames do not matter.
abbrev pub lookup_in : ℕ → List ℕ → ℕ → Option ℕ
lookup_in v pages cell = lookup_of (layer_of v 0 pages []) cell

-- The revoked range as the small numbers have it, empty where no revocation runs; and whether a capability dies with it.
abbrev pub range_in : Numbers → Range
range_in n = record { base = n.base; length = n.length }

abbrev pub dies_in : Numbers → ℕ → Bool
dies_in n cell = dies (range_in n) cell

-- A call on the registers, whatever the rest of the arrays is.
abbrev pub OnWords : Answer → List ℕ → List ℕ → List ℕ → List ℕ → Call → Type 0
OnWords r words marks words' marks' c = (m : Arrays) → Does r (with_words m words marks) (with_words m words' marks') c

-- One on pages and frames, where V and F are these.
abbrev pub OnPages : ℕ → ℕ → Answer → List ℕ → List ℕ → List ℕ → List ℕ → Call → Type 0
OnPages v f r pages frames pages' frames' c =
    (m : Arrays) → m.nums.v ≡ v → m.nums.f ≡ f → Does r (with_pages m pages frames) (with_pages m pages' frames') c

-- One on pages and frames that looks at the counts too.
abbrev pub OnClaimed : ℕ → ℕ → List ℕ → Answer → List ℕ → List ℕ → List ℕ → List ℕ → Call → Type 0
OnClaimed v f counts r pages frames pages' frames' c =
    (m : Arrays) → m.nums.v ≡ v → m.nums.f ≡ f → m.counts ≡ counts → Does r (with_pages m pages frames) (with_pages m pages' frames') c

-- One on principals and counts, where V is this.
abbrev pub OnClaims : ℕ → Answer → List ℕ → List ℕ → List ℕ → List ℕ → Call → Type 0
OnClaims v r principals counts principals' counts' c =
    (m : Arrays) → m.nums.v ≡ v → Does r (with_claims m principals counts) (with_claims m principals' counts') c

-- One on frames and lent memory of the right size, where F is this.
abbrev pub OnFrames : ℕ → Answer → List ℕ → List ℕ → List ℕ → List ℕ → List ℕ → List ℕ → Call → Type 0
OnFrames f r frames cells tags frames' cells' tags' c =
    (m : Arrays) → m.nums.f ≡ f → length cells ≡ 16 * f → length tags ≡ 16 * f → Formed (with_pages m m.pages frames)
    → leaving r (with_pages m m.pages frames') cells' tags' ≡ left_of (ruled (state_of (with_pages m m.pages frames)) c cells tags)

-- One on the rows, of which so many are in use.
abbrev pub OnRows : ℕ → Answer → List ℕ → List ℕ → Call → Type 0
OnRows count r rows rows' c = (m : Arrays) → m.nums.count ≡ count → Does r (with_rows m rows) (with_rows m rows') c

-- One on the rows, of which so many are in use, and the registers.
abbrev pub OnRowsAndWords : ℕ → Answer → List ℕ → List ℕ → List ℕ → List ℕ → List ℕ → List ℕ → Call → Type 0
OnRowsAndWords count r rows words marks rows' words' marks' c =
    (m : Arrays) → m.nums.count ≡ count → Does r (with_rows (with_words m words marks) rows) (with_rows (with_words m words' marks') rows') c

-- One on the rows and how many are in use.
abbrev pub OnTable : ℕ → Answer → List ℕ → ℕ → List ℕ → Call → Type 0
OnTable count r rows count' rows' c =
    (m : Arrays) → m.nums.count ≡ count → Does r (with_rows m rows) (with_table m (counted m.nums count') rows') c

-- One that reads the small numbers, pages and lent memory, and changes the registers.
abbrev pub OnMemory : Numbers → List ℕ → Answer → List ℕ → List ℕ → List ℕ → List ℕ → List ℕ → List ℕ → Call → Type 0
OnMemory n pages r words marks words' marks' cells tags c =
    (m : Arrays) → m.nums ≡ n → m.pages ≡ pages → Formed (with_words m words marks)
    → leaving r (with_words m words' marks') cells tags ≡ left_of (ruled (state_of (with_words m words marks)) c cells tags)

-- One that reads them and the registers, and changes lent memory.
abbrev pub OnStore : Numbers → List ℕ → List ℕ → List ℕ → Answer → List ℕ → List ℕ → List ℕ → List ℕ → Call → Type 0
OnStore n pages words marks r cells tags cells' tags' c =
    (m : Arrays) → m.nums ≡ n → m.pages ≡ pages → m.words ≡ words → m.marks ≡ marks → Formed m
    → leaving r m cells' tags' ≡ left_of (ruled (state_of m) c cells tags)

-- One on registers and mailboxes.
abbrev pub OnMail : Answer → List ℕ → List ℕ → List ℕ → List ℕ → List ℕ → List ℕ → List ℕ → List ℕ → Call → Type 0
OnMail r words marks mail flags words' marks' mail' flags' c =
    (m : Arrays) → Does r (with_mails m words marks mail flags) (with_mails m words' marks' mail' flags') c

-- Arrays around some rows and pages, with these small numbers.
abbrev pub around : Arrays → Numbers → List ℕ → List ℕ → Arrays
around m n rows pages = arrays n m.words m.marks m.mail m.flags rows pages m.frames m.principals m.counts

-- A call that changes the small numbers, rows and pages.
abbrev pub OnRange : Numbers → Answer → Numbers → List ℕ → List ℕ → List ℕ → List ℕ → Call → Type 0
OnRange n r n' rows pages rows' pages' c = (m : Arrays) → Does r (around m n rows pages) (around m n' rows' pages') c

-- Arrays with other small numbers.
abbrev pub with_numbers : Arrays → Numbers → Arrays
with_numbers m n = arrays n m.words m.marks m.mail m.flags m.rows m.pages m.frames m.principals m.counts

-- A call that reads frames and sweeps lent memory of the right size; of the arrays it changes the small numbers alone.
abbrev pub OnSweep : Numbers → List ℕ → Answer → Numbers → List ℕ → List ℕ → List ℕ → Call → Type 0
OnSweep n frames r n' cells tags tags' c =
    (m : Arrays) → m.frames ≡ frames → length cells ≡ 16 * n.f → length tags ≡ 16 * n.f → Formed (with_numbers m n)
    → leaving r (with_numbers m n') cells tags' ≡ left_of (ruled (state_of (with_numbers m n)) c cells tags)

-- A call that reads the registers' cells and changes all but these, the frames and the claims.
abbrev pub OnCollect : Numbers → List ℕ → Answer → Numbers → List ℕ → List ℕ → List ℕ → List ℕ → List ℕ → List ℕ → List ℕ → List ℕ → List ℕ → List ℕ → Call → Type 0
OnCollect n words r n' marks mail flags rows pages marks' mail' flags' rows' pages' c =
    (frames principals counts : List ℕ)
    → Does r (arrays n words marks mail flags rows pages frames principals counts) (arrays n' words marks' mail' flags' rows' pages' frames principals counts) c
