-- Pairs of lists that meet what the claim asks for and differ in what the house stored, by computing. So the claim is not vacuous.
use mathlib.Core.Bool.{true, false}
use mathlib.Core.List.{List, [], ◌∷◌}
use mathlib.Core.Path.{◌≡◌, refl}
use lib.ListN.{replicate}
use Rattle.capabilities.specs.Lists.{all}
use Rattle.calls.specs.Commands.{page, frame}
use Rattle.calls.specs.declared.Call.TheVariants.{Take, Split, Merge, Give, Revoke, Sweep, Collect, Map, Unmap, Zero, Load, Store, Narrow, Number, Grant, Receive, TakeMasked, Create, Claim, Release}
use Rattle.machine.specs.Roles.{plain_permissions}
use Rattle.examples.proofs.Pairs.{Pair, in_both, in_one, in_two, same, says, fine, unnoticed, comparing, EachWithin, each_within}

-- House 3 keeps 42, or 7 and its own capability, in its page; then the page is unmapped, the range revoked and collected,
-- and party 5 takes it and looks.
abbrev pub retaken : Pair
retaken =
    record {
      v = 2;
      f = 1;
      cells = replicate 16 0;
      tags = replicate 16 0;
      before = Zero 0 (frame 0) ∷ Map 0 (page 0) (frame 0) ∷ Split 0 0 16 ∷ Give 0 0 3 ∷ [];
      take = TakeMasked 3 0 0 15;
      house = 3;
      base = 0;
      reg = 0;
      permissions = 15;
      takes = refl;
      after =
          in_one (Number 3 1 42) fine
          ∷ in_two (Number 3 1 7) fine
          ∷ same (Store 3 0 5 1) fine
          ∷ in_two (Store 3 0 6 0) fine
          ∷ in_both (Load 3 0 5 2) (says 0 42 false) (says 0 7 false)
          ∷ same (Unmap 0 (page 0)) fine
          ∷ same (Revoke 0 0) fine
          ∷ same (Sweep 0 16) fine
          ∷ same (Collect 0) fine
          ∷ same (Give 0 0 5) fine
          ∷ same (Take 5 0 0) (says 0 16 false)
          ∷ same (Zero 0 (frame 0)) fine
          ∷ same (Map 0 (page 0) (frame 0)) fine
          ∷ same (Load 5 0 5 1) fine
          ∷ [];
    }

-- The house's range is the first eight cells of a page whose other half is party 4's. Each of the two has a principal, and both claim the page.
abbrev pub shared : Pair
shared =
    record {
      v = 1;
      f = 1;
      cells = replicate 16 0;
      tags = replicate 16 0;
      before = Zero 0 (frame 0) ∷ Map 0 (page 0) (frame 0) ∷ Split 0 0 8 ∷ Give 0 0 3 ∷ Give 0 8 4 ∷ TakeMasked 4 8 0 15 ∷ [];
      take = TakeMasked 3 0 0 15;
      house = 3;
      base = 0;
      reg = 0;
      permissions = 15;
      takes = refl;
      after =
          in_one (Number 3 1 42) fine
          ∷ in_two (Number 3 1 7) fine
          ∷ same (Store 3 0 7 1) fine
          ∷ in_two (Narrow 3 0 2 3 7 2) fine
          ∷ in_two (Store 3 0 0 2) fine
          ∷ in_both (Load 3 0 7 3) (says 0 42 false) (says 0 7 false)
          ∷ same (Load 4 0 0 1) fine
          ∷ same (Load 4 0 7 1) fine
          ∷ same (Store 4 0 1 0) fine
          ∷ same (Create 0 0 1 4 3) fine
          ∷ same (Create 0 0 2 4 4) fine
          ∷ same (Claim 3 1 (page 0)) fine
          ∷ same (Claim 4 2 (page 0)) fine
          ∷ same (Release 3 1 (page 0)) fine
          ∷ same (Unmap 0 (page 0)) (says 22 0 false)
          ∷ [];
    }

-- Party 0 is the house, and party 5 has the next page.
abbrev pub managed : Pair
managed =
    record {
      v = 2;
      f = 2;
      cells = replicate 32 0;
      tags = replicate 32 0;
      before = Zero 0 (frame 0) ∷ Map 0 (page 0) (frame 0) ∷ Zero 0 (frame 1) ∷ Map 0 (page 1) (frame 1) ∷ Split 0 0 16 ∷ Give 0 16 5 ∷ Take 5 16 0 ∷ [];
      take = TakeMasked 0 0 2 15;
      house = 0;
      base = 0;
      reg = 2;
      permissions = 15;
      takes = refl;
      after =
          in_one (Number 0 1 42) fine
          ∷ in_two (Number 0 1 7) fine
          ∷ same (Store 0 2 7 1) fine
          ∷ in_two (Store 0 2 8 2) fine
          ∷ in_both (Load 0 2 7 3) (says 0 42 false) (says 0 7 false)
          ∷ same (Load 5 0 0 1) fine
          ∷ same (Load 5 0 15 1) fine
          ∷ same (Unmap 0 (page 0)) fine
          ∷ same (Load 5 0 2 1) fine
          ∷ [];
    }

-- The house's take is the plain one. Lent memory is not 0 and all tagged. House 3 has the next page too: a store of 9 there and a grant of that page's capability
-- are left, and read equal registers. Both pages' reservations are merged, and the collect of the larger range ends the time:
-- party 4's capability is gone, and party 0, which takes all, finds 0.
abbrev pub merged : Pair
merged =
    record {
      v = 2;
      f = 2;
      cells = replicate 32 7;
      tags = replicate 32 1;
      before = Zero 0 (frame 0) ∷ Map 0 (page 0) (frame 0) ∷ Zero 0 (frame 1) ∷ Map 0 (page 1) (frame 1) ∷ Split 0 0 16 ∷ Give 0 0 3 ∷ Give 0 16 3 ∷ Take 3 16 5 ∷ [];
      take = Take 3 0 0;
      house = 3;
      base = 0;
      reg = 0;
      permissions = plain_permissions;
      takes = refl;
      after =
          in_one (Number 3 1 42) fine
          ∷ in_two (Number 3 1 7) fine
          ∷ same (Store 3 0 5 1) fine
          ∷ in_both (Load 3 0 5 2) (says 0 42 false) (says 0 7 false)
          ∷ same (Number 3 3 9) fine
          ∷ same (Store 3 5 2 3) fine
          ∷ same (Grant 3 5 4) fine
          ∷ same (Receive 4 0) (says 0 12885950480 true)
          ∷ same (Load 4 0 2 1) (says 0 9 false)
          ∷ same (Merge 0 0) fine
          ∷ same (Unmap 0 (page 0)) fine
          ∷ same (Unmap 0 (page 1)) fine
          ∷ same (Revoke 0 0) fine
          ∷ same (Sweep 0 32) fine
          ∷ same (Collect 0) fine
          ∷ same (Load 4 0 2 1) (says 15 0 false)
          ∷ same (Take 0 0 0) (says 0 32 false)
          ∷ same (Zero 0 (frame 0)) fine
          ∷ same (Map 0 (page 0) (frame 0)) fine
          ∷ same (Load 0 0 5 1) fine
          ∷ [];
    }

abbrev pub pairs : List Pair
pairs = retaken ∷ shared ∷ managed ∷ merged ∷ []

pub all_unnoticed : all unnoticed pairs ≡ true
unfolding comparing
all_unnoticed = refl

-- So each is within the claim.
pub all_within : EachWithin pairs
all_within = each_within pairs all_unnoticed
