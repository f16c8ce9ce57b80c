-- A reservation's number reads back, and a written number is what its reservation is written as. Assumes nothing.
use Prim.Native.Nat.{ℕ, ◌+◌, ◌*◌, ◌/◌, ◌%◌, ◌<◌, ◌≤◌}
use native.Mathlib.Omega.{arith}
use mathlib.Core.Bool.{Bool, true, false, ◌&&◌}
use mathlib.Core.Path.{◌≡◌, refl, sym, ap, ◌∙◌}
use borrow.Author.Tests.{eqb-true, eqb-false, eq-eqb, ne_eqb, leb-true, ltb-true, le-leb, lt-ltb, le-ltb}
use lib.Bits.{bit_and, and_block, and_mask}
use lib.Dec.{eqb, leb, ltb}
use Rattle.capabilities.specs.Lists.{pick}
use Rattle.capabilities.proofs.Choice.{pick_yes, pick_no, and_left, and_right}
use Rattle.table.specs.declared.ReservationState.{ReservationState}
use Rattle.table.specs.declared.ReservationState.TheVariants.{Open, Taken, Revoking}
use Rattle.table.specs.declared.Reservation.{Reservation}
use Rattle.table.specs.Rows.{state_number, is_revoking, blank}
use Rattle.table.proofs.Truth.{both, same_test}
use Rattle.table.specs.Numbers.{state_from, row_from, row_code, written}

pub state_small : (s : ReservationState) → state_number s ≤ 2
state_small Open = omega arith
state_small Taken = omega arith
state_small Revoking = omega arith

pub state_back : (s : ReservationState) → state_from (state_number s) ≡ s
unfolding state_from
state_back Open = refl
state_back Taken = refl
state_back Revoking = refl

-- The three numbers, one by one.
pub state_open : (k : ℕ) → k ≡ 0 → state_from k ≡ Open
unfolding state_from
state_open k e = pick_yes (eqb k 0) Open _ (eq-eqb k 0 e)

pub state_taken : (k : ℕ) → k ≡ 1 → state_from k ≡ Taken
unfolding state_from
state_taken k e = pick_no (eqb k 0) Open (pick (eqb k 1) Taken Revoking) (ne_eqb k 0 (λ z. omega arith)) ∙ pick_yes (eqb k 1) Taken Revoking (eq-eqb k 1 e)

pub state_revoking : (k : ℕ) → 1 < k → state_from k ≡ Revoking
unfolding state_from
state_revoking k h = pick_no (eqb k 0) Open (pick (eqb k 1) Taken Revoking) (ne_eqb k 0 (λ z. omega arith)) ∙ pick_no (eqb k 1) Taken Revoking (ne_eqb k 1 (λ z. omega arith))

pub state_number_lem : (k : ℕ) → k ≤ 2 → state_number (state_from k) ≡ k
state_number_lem k h = go (eqb k 0) refl (eqb k 1) refl
  where
    go : (a : Bool) → eqb k 0 ≡ a → (b : Bool) → eqb k 1 ≡ b → state_number (state_from k) ≡ k
    go true p b q = let e = eqb-true k 0 p in ap state_number (state_open k e) ∙ sym e
    go false p true q = let e = eqb-true k 1 q in ap state_number (state_taken k e) ∙ sym e
    go false p false q =
        let e : k ≡ 2 = omega (arith, eqb-false k 0 p, eqb-false k 1 q) in
        ap state_number (state_revoking k (omega arith)) ∙ sym e

pub revoking_test : (k : ℕ) → ltb 1 k ≡ is_revoking (state_from k)
revoking_test k = go (eqb k 0) refl (eqb k 1) refl
  where
    go : (a : Bool) → eqb k 0 ≡ a → (b : Bool) → eqb k 1 ≡ b → ltb 1 k ≡ is_revoking (state_from k)
    go true p b q = let e = eqb-true k 0 p in le-ltb 1 k (omega (arith, e)) ∙ sym (ap is_revoking (state_open k e))
    go false p true q = let e = eqb-true k 1 q in le-ltb 1 k (omega (arith, e)) ∙ sym (ap is_revoking (state_taken k e))
    go false p false q =
        let h : 1 < k = omega (arith, eqb-false k 0 p, eqb-false k 1 q) in
        lt-ltb 1 k h ∙ sym (ap is_revoking (state_revoking k h))

-- The fields have their sizes.
pub record Sized (r : Reservation) : Type 0 where
  pub base : r.base < 65536
  pub length : r.length < 65536
  pub holder : r.holder < 256
  pub taker : r.taker < 256

low_half : (x y : ℕ) → x < 65536 → (x + 65536 * y) % 65536 ≡ x
low_half x y h = omega arith

low_byte : (x y : ℕ) → x < 256 → (x + 256 * y) % 256 ≡ x
low_byte x y h = omega arith

own_byte : (x : ℕ) → x < 256 → x % 256 ≡ x
own_byte x h = omega arith

-- Rows with the same fields are the same.
pub same_row :
    (r s : Reservation) → r.base ≡ s.base → r.length ≡ s.length → r.state ≡ s.state → r.holder ≡ s.holder → r.taker ≡ s.taker
    → r ≡ s
same_row r s a b c d e = λ i. record { base = a i; length = b i; state = c i; holder = d i; taker = e i }

pub read_back : (r : Reservation) → Sized r → row_from (row_code r) ≡ r
unfolding row_from row_code
read_back r s =
    let small = state_small r.state in
    let k = state_number r.state in
    let n = r.base + 65536 * r.length + 4294967296 * k + 1099511627776 * r.holder + 281474976710656 * r.taker in
    let top = r.holder + 256 * r.taker in
    let b : n % 65536 ≡ r.base = omega (arith, s.base, s.length, s.holder, small) in
    let p : n / 65536 ≡ r.length + 65536 * (k + 256 * top) = omega (arith, s.base) in
    let l : n / 65536 % 65536 ≡ r.length = ap (λ x. x % 65536) p ∙ low_half r.length (k + 256 * top) s.length in
    let q : n / 4294967296 ≡ k + 256 * top = omega (arith, s.base, s.length) in
    let e : n / 4294967296 % 256 ≡ k = ap (λ x. x % 256) q ∙ low_byte k top (omega (arith, small)) in
    let u : n / 1099511627776 ≡ top = omega (arith, s.base, s.length, small) in
    let h : n / 1099511627776 % 256 ≡ r.holder = ap (λ x. x % 256) u ∙ low_byte r.holder r.taker s.holder in
    let v : n / 281474976710656 ≡ r.taker = omega (arith, s.base, s.length, s.holder, small) in
    let w : n / 281474976710656 % 256 ≡ r.taker = ap (λ x. x % 256) v ∙ own_byte r.taker s.taker in
    same_row (row_from n) r b l (ap state_from e ∙ state_back r.state) h w

pub write_back : (n : ℕ) → written n ≡ true → row_code (row_from n) ≡ n
unfolding row_from row_code written
write_back n w =
    let a = leb-true (n / 4294967296 % 256) 2 (and_left (leb (n / 4294967296 % 256) 2) (ltb n 72057594037927936) w) in
    let b = ltb-true n 72057594037927936 (and_right (leb (n / 4294967296 % 256) 2) (ltb n 72057594037927936) w) in
    let k = state_number_lem (n / 4294967296 % 256) a in
    let q = n / 65536 in
    let t = n / 4294967296 in
    let u = n / 1099511627776 in
    let e : q / 65536 ≡ t = omega arith in
    let f : t / 256 ≡ u = omega arith in
    let c : u / 256 ≡ n / 281474976710656 = omega arith in
    let g : n / 281474976710656 % 256 ≡ n / 281474976710656 = omega (arith, b) in
    let d : u ≡ u % 256 + 256 * (n / 281474976710656) = omega (arith, c) in
    let h : t ≡ t % 256 + 256 * u = omega (arith, f) in
    let i : q ≡ q % 65536 + 65536 * t = omega (arith, e) in
    let j : n ≡ n % 65536 + 65536 * q = omega arith in
    omega (arith, k, g, d, h, i, j)

pub number_written : (r : Reservation) → Sized r → written (row_code r) ≡ true
unfolding row_code written
number_written r s =
    let small = state_small r.state in
    let k = state_number r.state in
    let n = r.base + 65536 * r.length + 4294967296 * k + 1099511627776 * r.holder + 281474976710656 * r.taker in
    let top = r.holder + 256 * r.taker in
    let q : n / 4294967296 ≡ k + 256 * top = omega (arith, s.base, s.length) in
    let e : n / 4294967296 % 256 ≡ k = ap (λ x. x % 256) q ∙ low_byte k top (omega (arith, small)) in
    both (leb (n / 4294967296 % 256) 2) (ltb n 72057594037927936)
    (le-leb (n / 4294967296 % 256) 2 (omega (arith, e, small)))
    (lt-ltb n 72057594037927936 (omega (arith, s.base, s.length, s.holder, s.taker, small)))

-- Every number reads as a reservation whose fields have their sizes.
pub read_sized : (n : ℕ) → Sized (row_from n)
unfolding row_from
read_sized n = record { base = omega arith; length = omega arith; holder = omega arith; taker = omega arith }

pub zero_blank : row_from 0 ≡ blank
unfolding row_from state_from
zero_blank = refl

same_low : (x y a b : ℕ) → x < 65536 → a < 65536 → x + 1099511627776 * y ≡ a + 1099511627776 * b → x ≡ a
same_low x y a b h k e = omega arith

same_high : (x y a b : ℕ) → x < 65536 → a < 65536 → x + 1099511627776 * y ≡ a + 1099511627776 * b → y ≡ b
same_high x y a b h k e = omega arith

-- Base and holder in their places, the other bits 0.
masked : (n : ℕ) → bit_and n 280375465148415 ≡ n % 65536 + 1099511627776 * (n / 1099511627776 % 256)
masked n =
    let a = n / 1099511627776 in
    let r = n % 1099511627776 in
    let parts : n ≡ a * 1099511627776 + r = omega arith in
    let low : r % 65536 ≡ n % 65536 = omega arith in
    ap (λ x. bit_and x 280375465148415) parts
    ∙ and_block 40 a 255 r 65535 (omega arith) (omega arith)
    ∙ ap (λ x. x * 1099511627776 + bit_and r 65535) (and_mask a 8)
    ∙ ap (λ x. a % 256 * 1099511627776 + x) (and_mask r 16 ∙ low)
    ∙ omega arith

pub begins_test : (n party base : ℕ) → party < 256 → base < 65536 → eqb (bit_and n 280375465148415) (base + 1099511627776 * party) ≡ (eqb (n % 65536) base && eqb (n / 1099511627776 % 256) party)
begins_test n party base p b =
    let x = n % 65536 in
    let y = n / 1099511627776 % 256 in
    let e = masked n in
    same_test (eqb (bit_and n 280375465148415) (base + 1099511627776 * party)) (eqb x base && eqb y party)
    (λ t. let k = sym e ∙ eqb-true (bit_and n 280375465148415) (base + 1099511627776 * party) t in both (eqb x base) (eqb y party) (eq-eqb x base (same_low x y base party (omega arith) b k)) (eq-eqb y party (same_high x y base party (omega arith) b k)))
    (λ t. let k = eqb-true x base (and_left (eqb x base) (eqb y party) t) in let h = eqb-true y party (and_right (eqb x base) (eqb y party) t) in eq-eqb (bit_and n 280375465148415) (base + 1099511627776 * party) (e ∙ ap (λ z. z + 1099511627776 * y) k ∙ ap (λ z. base + 1099511627776 * z) h))
