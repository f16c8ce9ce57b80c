-- What a capability is made of reads back, and bits 40 to 63 are 0. Assumes nothing.
use Prim.Native.Nat.{ℕ, ◌+◌, ◌%◌, ◌<◌, ◌≤◌}
use native.Mathlib.Omega.{arith}
use mathlib.Core.Path.{◌≡◌, ◌∙◌}
use lib.Bits.{bit_and, and_le_l}
use Rattle.capabilities.specs.Capability.{base_of, length_of, permissions_of, capability, narrowed}

module _ (base length permissions : ℕ) (b : base < 65536) (l : length < 65536) (p : permissions < 256) where
  pub made_base : base_of (capability base length permissions) ≡ base
  made_base = omega arith

  pub made_length : length_of (capability base length permissions) ≡ length
  made_length = omega arith

  pub made_permissions : permissions_of (capability base length permissions) ≡ permissions
  made_permissions = omega arith

  pub made_small : capability base length permissions < 1099511627776
  made_small = omega arith

-- The same of a narrowed one, whose permissions are among those it was narrowed from and among the mask's.
module _ (c off len mask : ℕ) (l : len < 65536) where
  among : bit_and (permissions_of c) mask < 256
  among = omega (arith, and_le_l (permissions_of c) mask)

  start : (base_of c + off) % 65536 < 65536
  start = omega arith

  pub narrowed_base : base_of c + off < 65536 → base_of (narrowed c off len mask) ≡ base_of c + off
  narrowed_base h =
      let e : (base_of c + off) % 65536 ≡ base_of c + off = omega arith in
      made_base ((base_of c + off) % 65536) len (bit_and (permissions_of c) mask) start l among ∙ e

  pub narrowed_length : length_of (narrowed c off len mask) ≡ len
  narrowed_length = made_length ((base_of c + off) % 65536) len (bit_and (permissions_of c) mask) start l among

  pub narrowed_permissions : permissions_of (narrowed c off len mask) ≡ bit_and (permissions_of c) mask
  narrowed_permissions = made_permissions ((base_of c + off) % 65536) len (bit_and (permissions_of c) mask) start l among

  pub narrowed_fewer : permissions_of (narrowed c off len mask) ≤ permissions_of c
  narrowed_fewer = rw narrowed_permissions (and_le_l (permissions_of c) mask)

  pub narrowed_small : narrowed c off len mask < 1099511627776
  narrowed_small = made_small ((base_of c + off) % 65536) len (bit_and (permissions_of c) mask) start l among
