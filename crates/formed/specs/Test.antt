-- Well-formed arrays, as a test. Assumes nothing.
use Rattle.std.specs.Prelude.{ℕ, Bool, true, ◌&&◌, List, ◌≡◌, length, eqb}
use Rattle.capabilities.specs.Lists.{each}
use Rattle.reservations.specs.Core.{Core}
use Rattle.reservations.specs.Revocation.{revoked, revocation_sound}
use Rattle.words.specs.Lent.{bit}
use Rattle.machine.specs.Formed.{well_formed}
use Rattle.arrays.specs.declared.Arrays.{Arrays}
use Rattle.arrays.specs.declared.Numbers.{Numbers}
use Rattle.pages.specs.Numbers.{page_kept, frame_kept}
use Rattle.table.specs.Numbers.{all_written}
use Rattle.claims.specs.Numbers.{sized_in, kept_in}
use Rattle.arrays.specs.Reading.{core_of, state_of, Formed}

-- The arrays have the lengths of the machine.
abbrev pub sized : Arrays → Bool
sized a =
    ((eqb (length a.words) 64 && eqb (length a.marks) 64) && (eqb (length a.mail) 8 && eqb (length a.flags) 8))
    && ((eqb (length a.rows) 64 && (eqb (length a.pages) 256 && eqb (length a.frames) 128)) && sized_in a.principals a.counts)

-- Every number is one that is written: tags are 0 or 1, an entry's number is what the entry is written as, and unused counts are 0.
abbrev pub canonical : Arrays → Bool
canonical a =
    ((each bit 0 a.marks && each bit 0 a.flags) && (all_written a.rows && (each page_kept 0 a.pages && each frame_kept 0 a.frames)))
    && kept_in a.principals a.counts

-- The range that is kept beside V and F is the one that is being revoked.
abbrev pub cached : Numbers → Core → Bool
cached n c = eqb n.base (revoked c).base && eqb n.length (revoked c).length

-- The test of the revocation, which looks at the rows and the pages, at no frame and at no claim.
abbrev pub RevocationKept : Bool → Numbers → List ℕ → List ℕ → Type 0
RevocationKept r n rows pages =
    (frames principals counts : List ℕ)
    → r ≡ (cached n (core_of n rows pages frames principals counts) && revocation_sound (core_of n rows pages frames principals counts))

unfoldable pub formed_of : Arrays → Bool
formed_of a = sized a && (canonical a && (cached a.nums (state_of a).core && well_formed (state_of a)))

-- The test holds of well-formed arrays and of no others.
abbrev pub Tested : Type 0
Tested = (a : Arrays) → formed_of a ≡ true → Formed a

abbrev pub Passing : Type 0
Passing = (a : Arrays) → Formed a → formed_of a ≡ true
