-- The listed commands by their numbers: of each kind, the operands by the number's place among the kind's. Assumes nothing.
use Prim.Native.Nat.{ℕ, ◌+◌, ◌-◌, ◌*◌, ◌/◌, ◌%◌, ◌≤◌, ◌<◌}
use native.Mathlib.Nat.{zero-add}
use native.Mathlib.Omega.{arith}
use mathlib.Core.List.{flatten}
use mathlib.Core.Path.{◌≡◌, refl, sym, ◌∙◌, ap}
use lib.ListN.{length, get_or, get_or-eq_default}
use lib.Dec.{ltb}
use borrow.Author.Tests.{lt-ltb, le-ltb}
use Rattle.capabilities.specs.Lists.{pick, map_each}
use Rattle.capabilities.proofs.Lists.{get_d_map_each}
use Rattle.calls.specs.Commands.{page, frame}
use Rattle.calls.specs.declared.Call.{Call}
use Rattle.calls.specs.declared.Call.TheVariants.{Take, Split, Merge, Give, Revoke, Sweep, Collect, Map, Unmap, Zero}
use Rattle.short_histories.specs.Listed.{choices, operands, listed}

unfoldable numbered : ℕ → Call
numbered k =
    pick (ltb k 4) (Take (k / 2) (8 * (k % 2)) 0)
    (pick (ltb k 12) (Split ((k - 4) / 4) (8 * ((k - 4) / 2 % 2)) (8 + 8 * ((k - 4) % 2)))
    (pick (ltb k 16) (Merge ((k - 12) / 2) (8 * ((k - 12) % 2)))
    (pick (ltb k 24) (Give ((k - 16) / 4) (8 * ((k - 16) / 2 % 2)) ((k - 16) % 2))
    (pick (ltb k 28) (Revoke ((k - 24) / 2) (8 * ((k - 24) % 2)))
    (pick (ltb k 32) (Sweep ((k - 28) / 2) (8 + 8 * ((k - 28) % 2)))
    (pick (ltb k 34) (Collect (k - 32))
    (pick (ltb k 36) (Map (k - 34) (page 0) (frame 0))
    (pick (ltb k 38) (Unmap (k - 36) (page 0)) (Zero (k - 38) (frame 0))))))))))

-- Each of the forty is so, by computing.
all_numbered : map_each (λ k c. numbered k) 0 listed ≡ listed
unfolding map_each listed choices operands flatten numbered
all_numbered = refl

pub listed_length : length listed ≡ 40
unfolding map_each listed choices operands flatten
listed_length = refl

listed_at : (k : ℕ) → k < 40 → numbered k ≡ get_or listed k (Collect 0)
listed_at k h =
    ap numbered (sym (zero-add k))
    ∙ sym (get_d_map_each (λ k c. numbered k) 0 listed k (Collect 0) (Collect 0) (rw listed_length h))
    ∙ ap (λ l. get_or l k (Collect 0)) all_numbered

-- Those of each kind.
module _ (k : ℕ) where
  pub take_at : k < 4 → Take (k / 2) (8 * (k % 2)) 0 ≡ get_or listed k (Collect 0)
  unfolding numbered
  take_at h = rw (lt-ltb k 4 h) at (listed_at k (omega arith))

  pub split_at_lem : 4 ≤ k → k < 12 → Split ((k - 4) / 4) (8 * ((k - 4) / 2 % 2)) (8 + 8 * ((k - 4) % 2)) ≡ get_or listed k (Collect 0)
  unfolding numbered
  split_at_lem l h = rw (le-ltb k 4 l, lt-ltb k 12 h) at (listed_at k (omega arith))

  pub merge_at : 12 ≤ k → k < 16 → Merge ((k - 12) / 2) (8 * ((k - 12) % 2)) ≡ get_or listed k (Collect 0)
  unfolding numbered
  merge_at l h = rw (le-ltb k 4 (omega arith), le-ltb k 12 l, lt-ltb k 16 h) at (listed_at k (omega arith))

  pub give_at : 16 ≤ k → k < 24 → Give ((k - 16) / 4) (8 * ((k - 16) / 2 % 2)) ((k - 16) % 2) ≡ get_or listed k (Collect 0)
  unfolding numbered
  give_at l h = rw (le-ltb k 4 (omega arith), le-ltb k 12 (omega arith), le-ltb k 16 l, lt-ltb k 24 h) at (listed_at k (omega arith))

  pub revoke_at : 24 ≤ k → k < 28 → Revoke ((k - 24) / 2) (8 * ((k - 24) % 2)) ≡ get_or listed k (Collect 0)
  unfolding numbered
  revoke_at l h = rw (le-ltb k 4 (omega arith), le-ltb k 12 (omega arith), le-ltb k 16 (omega arith), le-ltb k 24 l, lt-ltb k 28 h) at (listed_at k (omega arith))

  pub sweep_at : 28 ≤ k → k < 32 → Sweep ((k - 28) / 2) (8 + 8 * ((k - 28) % 2)) ≡ get_or listed k (Collect 0)
  unfolding numbered
  sweep_at l h = rw (le-ltb k 4 (omega arith), le-ltb k 12 (omega arith), le-ltb k 16 (omega arith), le-ltb k 24 (omega arith), le-ltb k 28 l, lt-ltb k 32 h) at (listed_at k (omega arith))

  pub collect_at : 32 ≤ k → k < 34 → Collect (k - 32) ≡ get_or listed k (Collect 0)
  unfolding numbered
  collect_at l h = rw (le-ltb k 4 (omega arith), le-ltb k 12 (omega arith), le-ltb k 16 (omega arith), le-ltb k 24 (omega arith), le-ltb k 28 (omega arith), le-ltb k 32 l, lt-ltb k 34 h) at (listed_at k (omega arith))

  pub map_at : 34 ≤ k → k < 36 → Map (k - 34) (page 0) (frame 0) ≡ get_or listed k (Collect 0)
  unfolding numbered
  map_at l h = rw (le-ltb k 4 (omega arith), le-ltb k 12 (omega arith), le-ltb k 16 (omega arith), le-ltb k 24 (omega arith), le-ltb k 28 (omega arith), le-ltb k 32 (omega arith), le-ltb k 34 l, lt-ltb k 36 h) at (listed_at k (omega arith))

  pub unmap_at : 36 ≤ k → k < 38 → Unmap (k - 36) (page 0) ≡ get_or listed k (Collect 0)
  unfolding numbered
  unmap_at l h = rw (le-ltb k 4 (omega arith), le-ltb k 12 (omega arith), le-ltb k 16 (omega arith), le-ltb k 24 (omega arith), le-ltb k 28 (omega arith), le-ltb k 32 (omega arith), le-ltb k 34 (omega arith), le-ltb k 36 l, lt-ltb k 38 h) at (listed_at k (omega arith))

  pub zero_at : 38 ≤ k → k < 40 → Zero (k - 38) (frame 0) ≡ get_or listed k (Collect 0)
  unfolding numbered
  zero_at l h = rw (le-ltb k 4 (omega arith), le-ltb k 12 (omega arith), le-ltb k 16 (omega arith), le-ltb k 24 (omega arith), le-ltb k 28 (omega arith), le-ltb k 32 (omega arith), le-ltb k 34 (omega arith), le-ltb k 36 (omega arith), le-ltb k 38 l) at (listed_at k h)

  pub past_at : 40 ≤ k → Collect 0 ≡ get_or listed k (Collect 0)
  past_at h = sym (get_or-eq_default listed (Collect 0) (rw listed_length h))
