-- Numbers as bytes, high byte first: writing and reading undo each other. One number in its width first, then several in theirs.
use Prim.Native.Nat.{ℕ, zero, suc, ◌+◌, ◌*◌, ◌/◌, ◌%◌, ◌^◌, ◌≤◌, ◌<◌}
use mathlib.Core.Bool.{Bool, true, false, true≢false}
use mathlib.Core.List.{List, [], ◌∷◌, ◌++◌, append_assoc}
use mathlib.Core.Path.{◌≡◌, ◌∙◌, refl, sym, ap, subst}
use native.Mathlib.Nat.{div-add-mod', pow-suc, mod-lt, div-lt_iff_lt-mul}
use native.Mathlib.Omega.{arith}
use Rattle.std.specs.Int.{w16, w64, from_be_bytes}
use lib.Arith.{digits_div, digits_mod, digits_lt}
use lib.ListN.{length, get_or, take, drop, length-append, length-drop}
use lib.Seq.{append_snoc, get_or_at, drop-cons, take-suc, take-add, drop-drop, get_or-drop}
use Rattle.calls.specs.Bytes.{bytes, number, bytes_in, numbers_at, sum, Fit, Bytes}

-- What the library reads of two bytes, and of eight.
pub two_bytes : (a b : ℕ) → from_be_bytes w16 (a ∷ b ∷ []) ≡ number 2 0 (a ∷ b ∷ [])
two_bytes a b = omega arith

pub eight_bytes : (a b c d e f g h : ℕ) → from_be_bytes w64 (a ∷ b ∷ c ∷ d ∷ e ∷ f ∷ g ∷ h ∷ []) ≡ number 8 0 (a ∷ b ∷ c ∷ d ∷ e ∷ f ∷ g ∷ h ∷ [])
eight_bytes a b c d e f g h = omega arith

-- The eighth digit of a number of eight bytes has nothing above it.
pub top_digit : (x : ℕ) → x < 2 ^ 64 → x / 256 / 256 / 256 / 256 / 256 / 256 / 256 % 256 ≡ x / 256 / 256 / 256 / 256 / 256 / 256 / 256
top_digit x h =
    let h₁ : x / 256 < 2 ^ 56 = omega arith in
    let h₂ : x / 256 / 256 < 2 ^ 48 = omega arith in
    let h₄ : x / 256 / 256 / 256 / 256 < 2 ^ 32 = omega arith in
    let h₆ : x / 256 / 256 / 256 / 256 / 256 / 256 < 2 ^ 16 = omega arith in
    omega arith

-- ---- one number

pub length_bytes : (w x : ℕ) → length (bytes w x) ≡ w
length_bytes zero x = refl
length_bytes (suc zero) x = refl
length_bytes (suc (suc w)) x =
    let front : length (bytes (suc w) (x / 256)) ≡ suc w = length_bytes (suc w) (x / 256) in
    simp length-append (omega arith)

-- One more byte behind a number.
pub in_order : {m n p q : ℕ} → m ≡ n → p ≡ q → m * 256 + p ≡ n * 256 + q
in_order e f = cc

-- The number that was written is read.
number_of_bytes : (w x i : ℕ) (a rest : List ℕ) → length a ≡ i → number (suc w) i (a ++ (bytes (suc w) x ++ rest)) ≡ x
number_of_bytes zero x i a rest h = get_or_at a x rest 0 i h
number_of_bytes (suc w) x i a rest h =
    subst (λ (s : List ℕ). number (suc (suc w)) i (a ++ s) ≡ x) (sym (append_snoc front (x % 256) rest))
    (in_order (number_of_bytes w (x / 256) i a (x % 256 ∷ rest) h) last ∙ div-add-mod' x 256)
  where
    front : List ℕ
    front = bytes (suc w) (x / 256)

    last : get_or (a ++ (front ++ (x % 256 ∷ rest))) (i + suc w) 0 ≡ x % 256
    last =
        rw (← append_assoc) (get_or_at (a ++ front) (x % 256) rest 0 (i + suc w)
        (simp length-append (omega (arith, length_bytes (suc w) (x / 256)))))

one_more : (w n b : ℕ) → b < 256 → bytes (suc (suc w)) (n * 256 + b) ≡ bytes (suc w) n ++ (b ∷ [])
one_more w n b h =
    ap (λ (q : ℕ). bytes (suc w) q ++ ((n * 256 + b) % 256 ∷ [])) (digits_div n h)
    ∙ ap (λ (r : ℕ). bytes (suc w) n ++ (r ∷ [])) (digits_mod n h)

-- What was read is written as the bytes that were there.
bytes_of_number : (w i : ℕ) (s : List ℕ) → Bytes s → i + w ≤ length s → bytes w (number w i s) ≡ take w (drop i s)
bytes_of_number zero i s b h = refl
bytes_of_number (suc zero) i s b h =
    let here : i < length s = omega arith in
    rw (drop-cons s i 0 here)
bytes_of_number (suc (suc w)) i s b h =
    let here : suc w < length (drop i s) = simp length-drop (omega arith) in
    one_more w (number (suc w) i s) (get_or s (i + suc w) 0) (b (i + suc w))
    ∙ ap (λ (l : List ℕ). l ++ (get_or s (i + suc w) 0 ∷ [])) (bytes_of_number (suc w) i s b (omega arith))
    ∙ ap (λ (x : ℕ). take (suc w) (drop i s) ++ (x ∷ [])) (sym (get_or-drop i s (suc w) 0))
    ∙ sym (take-suc (drop i s) (suc w) 0 here)

-- A number that was read fits.
number_fits : (w i : ℕ) (s : List ℕ) → Bytes s → number w i s < 256 ^ w
number_fits zero i s b = omega arith
number_fits (suc zero) i s b = b i
number_fits (suc (suc w)) i s b =
    subst (λ (n : ℕ). number (suc (suc w)) i s < n) (sym (pow-suc 256 (suc w)))
    (digits_lt (number_fits (suc w) i s b) (b (i + suc w)))

bytes_append : (s t : List ℕ) → Bytes s → Bytes t → Bytes (s ++ t)
bytes_append [] t bs bt i = bt i
bytes_append (x ∷ s) t bs bt zero = bs zero
bytes_append (x ∷ s) t bs bt (suc i) = bytes_append s t (λ j. bs (suc j)) bt i

one_byte : (x : ℕ) → x < 256 → Bytes (x ∷ [])
one_byte x h zero = h
one_byte x h (suc i) = omega arith

-- A number that fits is written in bytes.
fitting_bytes : (w x : ℕ) → x < 256 ^ w → Bytes (bytes w x)
fitting_bytes zero x h i = omega arith
fitting_bytes (suc zero) x h i = one_byte x h i
fitting_bytes (suc (suc w)) x h i =
    bytes_append (bytes (suc w) (x / 256)) (x % 256 ∷ [])
    (fitting_bytes (suc w) (x / 256) ((div-lt_iff_lt-mul (omega arith)).1 (subst (λ (n : ℕ). x < n) (pow-suc 256 (suc w)) h)))
    (one_byte (x % 256) (mod-lt x (omega arith))) i

-- ---- several numbers, each in its own width

-- There is a number for each width, and no width is 0.
abbrev pub formed : List ℕ → List ℕ → Bool
formed [] [] = true
formed [] (x ∷ xs) = false
formed (w ∷ ws) [] = false
formed (zero ∷ ws) (x ∷ xs) = false
formed (suc w ∷ ws) (x ∷ xs) = formed ws xs

pub length_bytes_in : (ws xs : List ℕ) → formed ws xs ≡ true → length (bytes_in ws xs) ≡ sum ws
length_bytes_in [] [] f = refl
length_bytes_in [] (x ∷ xs) f = refl
length_bytes_in (w ∷ ws) [] f = absurd (true≢false (sym f))
length_bytes_in (zero ∷ ws) (x ∷ xs) f = absurd (true≢false (sym f))
length_bytes_in (suc w ∷ ws) (x ∷ xs) f =
    let first : length (bytes (suc w) x) ≡ suc w = length_bytes (suc w) x in
    let others : length (bytes_in ws xs) ≡ sum ws = length_bytes_in ws xs f in
    simp length-append (omega arith)

pub numbers_of_bytes : (ws xs : List ℕ) (i : ℕ) (a rest : List ℕ) → formed ws xs ≡ true → length a ≡ i
    → numbers_at ws i (a ++ (bytes_in ws xs ++ rest)) ≡ xs
numbers_of_bytes [] [] i a rest f h = refl
numbers_of_bytes [] (x ∷ xs) i a rest f h = absurd (true≢false (sym f))
numbers_of_bytes (w ∷ ws) [] i a rest f h = absurd (true≢false (sym f))
numbers_of_bytes (zero ∷ ws) (x ∷ xs) i a rest f h = absurd (true≢false (sym f))
numbers_of_bytes (suc w ∷ ws) (x ∷ xs) i a rest f h =
    subst (λ (s : List ℕ). numbers_at (suc w ∷ ws) i (a ++ s) ≡ x ∷ xs) (sym (append_assoc first others rest))
    (cons₂ (number_of_bytes w x i a (others ++ rest) h)
    (subst (λ (s : List ℕ). numbers_at ws (i + suc w) s ≡ xs) (append_assoc a first (others ++ rest))
    (numbers_of_bytes ws xs (i + suc w) (a ++ first) rest f longer)))
  where
    first : List ℕ
    first = bytes (suc w) x

    others : List ℕ
    others = bytes_in ws xs

    cons₂ : {m n : ℕ} {p q : List ℕ} → m ≡ n → p ≡ q → m ∷ p ≡ n ∷ q
    cons₂ d e = cc

    longer : length (a ++ first) ≡ i + suc w
    longer = simp length-append (omega (arith, length_bytes (suc w) x))

pub bytes_of_numbers : (ws : List ℕ) (i : ℕ) (s : List ℕ) → Bytes s → i + sum ws ≤ length s
    → bytes_in ws (numbers_at ws i s) ≡ take (sum ws) (drop i s)
bytes_of_numbers [] i s b h = refl
bytes_of_numbers (w ∷ ws) i s b h =
    ap (λ (l : List ℕ). l ++ bytes_in ws (numbers_at ws (i + w) s)) (bytes_of_number w i s b (omega arith))
    ∙ ap (λ (l : List ℕ). take w (drop i s) ++ l) (bytes_of_numbers ws (i + w) s b (omega arith))
    ∙ ap (λ (l : List ℕ). take w (drop i s) ++ take (sum ws) l) (sym (drop-drop w i s))
    ∙ sym (take-add w (sum ws) (drop i s))

pub numbers_fit : (ws : List ℕ) (i : ℕ) (s : List ℕ) → Bytes s → Fit ws (numbers_at ws i s)
numbers_fit [] i s b = tt
numbers_fit (w ∷ ws) i s b = (number_fits w i s b, numbers_fit ws (i + w) s b)

pub fitting_bytes_in : (ws xs : List ℕ) → Fit ws xs → Bytes (bytes_in ws xs)
fitting_bytes_in [] xs f i = omega arith
fitting_bytes_in (w ∷ ws) [] f i = omega arith
fitting_bytes_in (w ∷ ws) (x ∷ xs) f i =
    bytes_append (bytes w x) (bytes_in ws xs) (fitting_bytes w x f.0) (fitting_bytes_in ws xs f.1) i
