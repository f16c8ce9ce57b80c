-- The commands of document 01's session, read one after the other by the specification.
use Rattle.std.specs.Prelude.{Some, None}
use Prim.Native.Nat.{ℕ, zero, suc}
use mathlib.Core.List.{List, [], ◌∷◌}
use mathlib.Core.Path.{◌≡◌, refl}
use lib.ListN.{drop}
use Rattle.calls.specs.Reader.{whole, read_of}
use Rattle.calls.specs.Commands.{page, frame}
use Rattle.calls.specs.declared.Call.{Call}
use Rattle.calls.specs.declared.Call.TheVariants.{Split, Give, Revoke, Sweep, Collect, Map, Unmap, Zero, Load, Store, Number, TakeMasked}

-- The calls of an input, `n` at the most, up to the first place where none is read.
pub calls : ℕ → List ℕ → List Call
calls zero s = []
calls (suc n) s = elim (read_of s) [ Some (call, used) ↦ call ∷ calls n (drop used s) | None ↦ [] ]

-- Document 01, "One session in full", without V and F in front. Its take is 11 with mask 0F, as request 2026-01 says.
pub session : List ℕ
session =
    0x0A ∷ 0x00 ∷ 0x00 ∷
    0x08 ∷ 0x00 ∷ 0x00 ∷ 0x00 ∷
    0x02 ∷ 0x00 ∷ 0x00 ∷ 0x00 ∷ 0x00 ∷ 0x10 ∷
    0x04 ∷ 0x00 ∷ 0x00 ∷ 0x00 ∷ 0x03 ∷
    0x11 ∷ 0x03 ∷ 0x00 ∷ 0x00 ∷ 0x00 ∷ 0x0F ∷
    0x0E ∷ 0x03 ∷ 0x01 ∷ 0x00 ∷ 0x00 ∷ 0x00 ∷ 0x00 ∷ 0x00 ∷ 0x00 ∷ 0x00 ∷ 0x2A ∷
    0x0C ∷ 0x03 ∷ 0x00 ∷ 0x00 ∷ 0x05 ∷ 0x01 ∷
    0x0C ∷ 0x03 ∷ 0x00 ∷ 0x00 ∷ 0x06 ∷ 0x00 ∷
    0x0B ∷ 0x03 ∷ 0x00 ∷ 0x00 ∷ 0x06 ∷ 0x02 ∷
    0x05 ∷ 0x00 ∷ 0x00 ∷ 0x00 ∷
    0x09 ∷ 0x00 ∷ 0x00 ∷
    0x05 ∷ 0x00 ∷ 0x00 ∷ 0x00 ∷
    0x06 ∷ 0x00 ∷ 0x00 ∷ 0x0A ∷
    0x07 ∷ 0x00 ∷
    0x06 ∷ 0x00 ∷ 0x00 ∷ 0xFF ∷
    0x07 ∷ 0x00 ∷
    0x0B ∷ 0x03 ∷ 0x00 ∷ 0x00 ∷ 0x06 ∷ 0x02 ∷
    []

pub session_read :
    calls 32 session
    ≡ Zero 0 (frame 0)
    ∷ Map 0 (page 0) (frame 0)
    ∷ Split 0 0 16
    ∷ Give 0 0 3
    ∷ TakeMasked 3 0 0 15
    ∷ Number 3 1 42
    ∷ Store 3 0 5 1
    ∷ Store 3 0 6 0
    ∷ Load 3 0 6 2
    ∷ Revoke 0 0
    ∷ Unmap 0 (page 0)
    ∷ Revoke 0 0
    ∷ Sweep 0 10
    ∷ Collect 0
    ∷ Sweep 0 255
    ∷ Collect 0
    ∷ Load 3 0 6 2
    ∷ []
unfolding calls session whole read_of
session_read = refl
