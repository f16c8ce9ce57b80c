-- Made by tools/kinds from the enum of calls: not to be changed here.
-- The way back from a call to its row.
use Rattle.std.specs.Prelude.{ℕ, List, [], ◌∷◌}
use Rattle.calls.specs.declared.Call.{Call}
use Rattle.calls.specs.declared.Call.TheVariants.{Take, Split, Merge, Give, Revoke, Sweep, Collect, Map, Unmap, Zero, Load, Store, Narrow, Number, Grant, Receive, TakeMasked, Create, Claim, Release, Destroy}

-- A call's command byte and operands.
abbrev pub parts_of : Call → ℕ × List ℕ
parts_of (Take party base reg) = (0x01, party ∷ base ∷ reg ∷ [])
parts_of (Split party base len) = (0x02, party ∷ base ∷ len ∷ [])
parts_of (Merge party base) = (0x03, party ∷ base ∷ [])
parts_of (Give party base to) = (0x04, party ∷ base ∷ to ∷ [])
parts_of (Revoke party base) = (0x05, party ∷ base ∷ [])
parts_of (Sweep party n) = (0x06, party ∷ n ∷ [])
parts_of (Collect party) = (0x07, party ∷ [])
parts_of (Map party page frame) = (0x08, party ∷ page.0 ∷ frame.0 ∷ [])
parts_of (Unmap party page) = (0x09, party ∷ page.0 ∷ [])
parts_of (Zero party frame) = (0x0A, party ∷ frame.0 ∷ [])
parts_of (Load party a off d) = (0x0B, party ∷ a ∷ off ∷ d ∷ [])
parts_of (Store party a off s) = (0x0C, party ∷ a ∷ off ∷ s ∷ [])
parts_of (Narrow party s off len mask d) = (0x0D, party ∷ s ∷ off ∷ len ∷ mask ∷ d ∷ [])
parts_of (Number party d value) = (0x0E, party ∷ d ∷ value ∷ [])
parts_of (Grant party s to) = (0x0F, party ∷ s ∷ to ∷ [])
parts_of (Receive party d) = (0x10, party ∷ d ∷ [])
parts_of (TakeMasked party base reg mask) = (0x11, party ∷ base ∷ reg ∷ mask ∷ [])
parts_of (Create party parent child limit holder) = (0x12, party ∷ parent ∷ child ∷ limit ∷ holder ∷ [])
parts_of (Claim party principal page) = (0x13, party ∷ principal ∷ page.0 ∷ [])
parts_of (Release party principal page) = (0x14, party ∷ principal ∷ page.0 ∷ [])
parts_of (Destroy party principal) = (0x15, party ∷ principal ∷ [])
