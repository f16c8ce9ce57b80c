-- Document 01, 'Things and their sizes': "A tagged cell is a capability: bits 0 to 15 its base (a virtual cell), 16 to 31 its length
-- in cells, 32 to 39 its permissions. The rest are 0 in those the machine makes." Assumes nothing.
use Rattle.std.specs.Prelude.{ℕ, ◌+◌, ◌*◌, ◌/◌, ◌%◌, Bool, eqb}
use Rattle.std.specs.Int.Bits.{bit_and}
use Rattle.capabilities.specs.declared.capability.Permission.{Permission}
use Rattle.capabilities.specs.declared.capability.Permission.TheVariants.{Load, Store, LoadCapability, StoreCapability}

abbrev pub base_of : ℕ → ℕ
base_of c = c % 65536

abbrev pub length_of : ℕ → ℕ
length_of c = c / 65536 % 65536

abbrev pub permissions_of : ℕ → ℕ
permissions_of c = c / 4294967296 % 256

-- "Permission 1 is load, 2 store, 4 load capability, 8 store capability."
abbrev pub bit_of : Permission → ℕ
bit_of Load = 1
bit_of Store = 2
bit_of LoadCapability = 4
bit_of StoreCapability = 8

abbrev pub permits : ℕ → ℕ → Bool
permits c permission = eqb (permissions_of c / permission % 2) 1

abbrev pub capability : ℕ → ℕ → ℕ → ℕ
capability base length permissions = base + 65536 * length + 4294967296 * permissions

-- 0D: "base + off, len, and the permissions that are also in mask."
abbrev pub narrowed : ℕ → ℕ → ℕ → ℕ → ℕ
narrowed c off len mask = capability ((base_of c + off) % 65536) len (bit_and (permissions_of c) mask)

-- Document 02, 2026-01, 11: "the permissions in 15 that are also in mask".
abbrev pub permitted : ℕ → ℕ
permitted mask = bit_and 15 mask
