-- Which capabilities die with a revocation. Sweep, the filters of load and store, and collect all go by it. Assumes nothing.
use Rattle.std.specs.Prelude.{ℕ, ◌+◌, ◌-◌, min, Bool}
use Rattle.capabilities.specs.declared.Range.{Range}
use Rattle.capabilities.specs.Capability.{base_of}
use Rattle.capabilities.specs.Range.{inside}

-- "The capability's base lies in the revoked range": of the range, and the number that the capability is.
unfoldable pub dies : Range → ℕ → Bool
dies r c = inside r (base_of c)

-- The last base that dies with a range that is not empty.
unfoldable pub last_of : Range → ℕ
last_of r = min (r.base + (r.length - 1)) 65535
