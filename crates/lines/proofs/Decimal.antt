-- A number in decimal: its last digit, and how long it is. Assumes nothing.
use Prim.Native.Nat.{ℕ, zero, suc, ◌+◌, ◌*◌, ◌/◌, ◌%◌, ◌^◌, ◌≤◌, ◌<◌}
use native.Mathlib.Omega.{arith}
use Rattle.std.proofs.Math.Nat.{pow-succ', one-le-pow}
use mathlib.Core.Bool.{Bool, true, false}
use mathlib.Core.List.{List, [], ◌∷◌, ◌++◌, append_assoc}
use mathlib.Core.Path.{◌≡◌, refl, ap, ◌∙◌}
use lib.ListN.{length, length-append}
use lib.Dec.{ltb}
use borrow.Author.Tests.{lt-ltb, le-ltb}
use Rattle.capabilities.specs.Lists.{pick}
use Rattle.words.specs.Words.{byte_of}
use Rattle.lines.specs.Lines.{digits, decimal, line_of}

-- Enough digits are enough.
digits_enough : (k m n : ℕ) → n < 10 * 10 ^ k → n < 10 * 10 ^ m → digits (suc k) n ≡ digits (suc m) n
unfolding digits
digits_enough zero zero n p q = refl
digits_enough zero (suc m) n p q = rw (lt-ltb n 10 (omega arith))
digits_enough (suc k) zero n p q = rw (lt-ltb n 10 (omega arith))
digits_enough (suc k) (suc m) n p q =
    let same = digits_enough k m (n / 10) (omega arith) (omega arith) in
    ap (λ (s : List ℕ). pick (ltb n 10) ((48 + n) ∷ []) (s ++ ((48 + n % 10) ∷ []))) same

pub decimal_one : (n : ℕ) → n < 10 → decimal n ≡ (48 + n) ∷ []
unfolding decimal digits
decimal_one n h = rw (lt-ltb n 10 h)

pub decimal_more : (n : ℕ) → n < 100000000000000000000 → 10 ≤ n → decimal n ≡ decimal (n / 10) ++ ((48 + n % 10) ∷ [])
unfolding decimal
decimal_more n w h = more n h ∙ ap (λ (s : List ℕ). s ++ ((48 + n % 10) ∷ [])) (digits_enough 18 19 (n / 10) (omega arith) (omega arith))
  where
    more : (n : ℕ) → 10 ≤ n → digits 20 n ≡ digits 19 (n / 10) ++ ((48 + n % 10) ∷ [])
    more n h = unfold digits in rw (le-ltb n 10 h)

digits_short : (m k n : ℕ) → n < 10 * 10 ^ k → length (digits m n) ≤ suc k
unfolding digits
digits_short zero k n h = omega arith
digits_short (suc m) zero n h = rw (lt-ltb n 10 (omega arith)) (omega arith)
digits_short (suc m) (suc k) n h = go (ltb n 10) (digits_short m k (n / 10) (omega arith)) where
  go : (b : Bool) → length (digits m (n / 10)) ≤ suc k → length (pick b ((48 + n) ∷ []) (digits m (n / 10) ++ ((48 + n % 10) ∷ []))) ≤ suc (suc k)
  go true ih = omega arith
  go false ih = simp length-append (omega (arith, ih))

pub decimal_short : (k n : ℕ) → n < 10 * 10 ^ k → length (decimal n) ≤ suc k
unfolding decimal
decimal_short k n h = digits_short 20 k n h

pub decimal_some : (n : ℕ) → 1 ≤ length (decimal n)
unfolding decimal digits
decimal_some n = go (ltb n 10) (digits 19 (n / 10)) where
  go : (b : Bool) (l : List ℕ) → 1 ≤ length (pick b ((48 + n) ∷ []) (l ++ ((48 + n % 10) ∷ [])))
  go true l = omega arith
  go false l = simp length-append (omega arith)

-- A word has twenty digits at most, a tag one.
pub word_short : (n : ℕ) → n < 18446744073709551616 → length (decimal n) ≤ 20
word_short n h = decimal_short 19 n (omega arith)

pub tag_short : (tag : Bool) → length (decimal (byte_of tag)) ≤ 1
tag_short true = decimal_short 0 1 (omega arith)
tag_short false = decimal_short 0 0 (omega arith)

pub line_short : (code number : ℕ) (tag : Bool) → number < 18446744073709551616 → code < 100 → length (line_of code number tag) ≤ 26
unfolding line_of
line_short code number tag n h =
    let c : length (decimal code) ≤ 2 = decimal_short 1 code (omega arith) in
    let w : length (decimal number) ≤ 20 = word_short number n in
    let t : length (decimal (byte_of tag)) ≤ 1 = tag_short tag in
    simp length-append (omega arith)

-- The last two digits of a number.
pub decimal_pair : (n : ℕ) → n < 100 → 10 ≤ n → decimal n ≡ (48 + n / 10) ∷ (48 + n % 10) ∷ []
decimal_pair n w h = decimal_more n (omega arith) h ∙ ap (λ (s : List ℕ). s ++ ((48 + n % 10) ∷ [])) (decimal_one (n / 10) (omega arith))

pub decimal_two :
    (n : ℕ) → n < 100000000000000000000 → 100 ≤ n → decimal n ≡ decimal (n / 100) ++ ((48 + n % 100 / 10) ∷ (48 + n % 100 % 10) ∷ [])
decimal_two n w h =
    let a : n / 10 / 10 ≡ n / 100 = omega arith in
    let b : n / 10 % 10 ≡ n % 100 / 10 = omega arith in
    let d : n % 10 ≡ n % 100 % 10 = omega arith in
    decimal_more n w (omega arith)
    ∙ ap (λ (s : List ℕ). s ++ ((48 + n % 10) ∷ [])) (decimal_more (n / 10) (omega arith) (omega arith))
    ∙ append_assoc (decimal (n / 10 / 10)) ((48 + n / 10 % 10) ∷ []) ((48 + n % 10) ∷ [])
    ∙ rw (a, b, d)

-- A number from a power of ten on has one digit more than the power has zeros.
digits_long : (m k n : ℕ) → k < m → 10 ^ k ≤ n → suc k ≤ length (digits m n)
unfolding digits
digits_long zero k n l h = let z : ⊥ = omega arith in absurd z
digits_long (suc m) zero n l h = go (ltb n 10) (digits m (n / 10)) where
  go : (b : Bool) (l : List ℕ) → 1 ≤ length (pick b ((48 + n) ∷ []) (l ++ ((48 + n % 10) ∷ [])))
  go true l = omega arith
  go false l = simp length-append (omega arith)
digits_long (suc m) (suc k) n l h =
    let some : 1 ≤ 10 ^ k = one-le-pow k 10 (omega arith) in
    let next : 10 ^ suc k ≡ 10 * 10 ^ k = pow-succ' 10 k in
    let ih : suc k ≤ length (digits m (n / 10)) = digits_long m k (n / 10) (omega arith) (omega arith) in
    rw (le-ltb n 10 (omega arith)) (simp length-append (omega (arith, ih)))

pub decimal_long : (k n : ℕ) → k < 20 → 10 ^ k ≤ n → suc k ≤ length (decimal n)
unfolding decimal
decimal_long k n l h = digits_long 20 k n l h

-- How long a number is, by the power of ten that it reaches.
pub decimal_length : (n k : ℕ) → k < 20 → 10 ^ k ≤ n → n < 10 * 10 ^ k → k + 1 ≡ length (decimal n)
decimal_length n k l h w = omega (arith, decimal_long k n l (omega arith), decimal_short k n (omega arith))
