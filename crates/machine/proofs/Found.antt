-- What a granted call has found: of the numbers that it names, of the words that it reads and of the cell that it addresses. Assumes nothing.
use Rattle.std.specs.Prelude.{Option, Some, None}
use Prim.Native.Nat.{ℕ, ◌+◌, ◌<◌, ◌≤◌}
use native.Mathlib.Omega.{arith}
use mathlib.Core.Bool.{Bool, true, false, not, ◌||◌, true≢false}
use mathlib.Core.List.{List, [], ◌∷◌}
use mathlib.Core.Path.{◌≡◌, refl}
use borrow.Author.Tests.{ltb-true, leb-false, ltb-false, eqb-false, not-false}
use lib.Dec.{eqb, ltb}
use Rattle.capabilities.specs.Capability.{base_of, length_of}
use Rattle.capabilities.specs.Refusals.{Reason, first, reason}
use Rattle.capabilities.proofs.Choice.{or_false}
use Rattle.capabilities.proofs.Refusals.{first_clear}
use Rattle.pages.specs.Mapping.{lookup_of}
use Rattle.reservations.specs.Core.{Core}
use Rattle.words.specs.declared.Slot.{Slot}
use Rattle.words.specs.Words.{named}
use Rattle.words.specs.Words.{nowhere}
use Rattle.words.specs.WordReasons.{unnamed, past_end, bad_narrow, cell_reasons}
use Rattle.words.specs.Words.{place_number}
use Rattle.machine.specs.Reasons.{addressed}

pub named_low : (n : ℕ) → unnamed n ≡ false → n < 8
named_low n e = ltb-true n 8 (not-false (named n) e)

-- The reasons after refusals 4 and 5.
pub after_five : (a b : Bool) (rest : List Reason) → first (reason 4 a ∷ reason 5 b ∷ rest) ≡ 0 → first rest ≡ 0
after_five a b rest e = (first_clear 5 b rest (λ z. omega arith) (first_clear 4 a (reason 5 b ∷ rest) (λ z. omega arith) e).1).1

-- Two and three names under refusal 4.
pub low_two : (a b : ℕ) (rest : List Reason) → first (reason 4 (unnamed a || unnamed b) ∷ rest) ≡ 0 → (a < 8) × (b < 8)
low_two a b rest z =
    let k = or_false (unnamed a) (unnamed b) (first_clear 4 (unnamed a || unnamed b) rest (λ x. omega arith) z).0 in
    (named_low a k.0, named_low b k.1)

pub low_three : (a b d : ℕ) (rest : List Reason) → first (reason 4 ((unnamed a || unnamed b) || unnamed d) ∷ rest) ≡ 0 → (a < 8) × (b < 8) × (d < 8)
low_three a b d rest z =
    let k = or_false (unnamed a || unnamed b) (unnamed d) (first_clear 4 ((unnamed a || unnamed b) || unnamed d) rest (λ x. omega arith) z).0 in
    let j = or_false (unnamed a) (unnamed b) k.0 in
    (named_low a j.0, named_low b j.1, named_low d k.1)

-- The addressed cell of a load or a store.
pub record Addressing (k : Core) (a : Slot) (off : ℕ) : Type 0 where
  pub tagged : a.tag ≡ true
  pub short : off < length_of a.cell
  pub place : lookup_of k.pages (base_of a.cell + off) ≡ Some (place_number (addressed k a off))

placed : (x : Option ℕ) → nowhere x ≡ false → x ≡ Some (place_number x)
placed (Some at) e = refl
placed None e = absurd (true≢false e)

reach : (k : Core) (a : Slot) (off : ℕ) → nowhere (addressed k a off) ≡ false → lookup_of k.pages (base_of a.cell + off) ≡ Some (place_number (addressed k a off))
unfolding addressed
reach k a off e = placed (lookup_of k.pages (base_of a.cell + off)) e

pub addressing : (k : Core) (a : Slot) (off : ℕ) (denied : Bool) → first (cell_reasons denied a off (addressed k a off)) ≡ 0 → Addressing k a off
addressing k a off denied z =
    let z15 = first_clear 15 _ _ (λ x. omega arith) z in
    let z16 = first_clear 16 _ _ (λ x. omega arith) z15.1 in
    let z17 = first_clear 17 _ _ (λ x. omega arith) z16.1 in
    let z18 = first_clear 18 _ _ (λ x. omega arith) z17.1 in
    record { tagged = not-false a.tag z15.0; short = leb-false (length_of a.cell) off z17.0; place = reach k a off z18.0 }

-- A narrowing that lies within its source.
pub record Narrowing (s : Slot) (off len : ℕ) : Type 0 where
  pub tagged : s.tag ≡ true
  pub some : 1 ≤ len
  pub ends : off + len ≤ length_of s.cell
  pub starts : base_of s.cell + off ≤ 65535

pub narrowing : (s : Slot) (off len : ℕ) (u : Bool) → first (reason 4 u ∷ reason 15 (not s.tag) ∷ reason 17 (past_end s off || bad_narrow s off len) ∷ []) ≡ 0 → Narrowing s off len
narrowing s off len u z =
    let z4 = first_clear 4 _ _ (λ x. omega arith) z in
    let z15 = first_clear 15 _ _ (λ x. omega arith) z4.1 in
    let z17 = first_clear 17 (past_end s off || bad_narrow s off len) _ (λ x. omega arith) z15.1 in
    let a = or_false (past_end s off) (bad_narrow s off len) z17.0 in
    let b = or_false (eqb len 0 || ltb (length_of s.cell) (off + len)) (ltb 65535 (base_of s.cell + off)) a.1 in
    let d = or_false (eqb len 0) (ltb (length_of s.cell) (off + len)) b.0 in
    record { tagged = not-false s.tag z15.0; some = positive len (eqb-false len 0 d.0); ends = ltb-false (length_of s.cell) (off + len) d.1; starts = ltb-false 65535 (base_of s.cell + off) b.1 }
  where
    positive : (n : ℕ) → (n ≡ 0 → ⊥) → 1 ≤ n
    positive n h = omega (arith, h)
