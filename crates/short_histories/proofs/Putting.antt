-- Lines in a lent buffer: a byte's two digits after those before it, and one part of a text after another. Assumes nothing.
use Prim.Native.Nat.{ℕ, ◌+◌, ◌*◌, ◌/◌, ◌%◌, ◌<◌, ◌≤◌}
use native.Mathlib.Omega.{arith}
use native.Mathlib.Numerals.{add-one}
use mathlib.Core.List.{List, [], ◌∷◌, ◌++◌, map, map-append, flatten, append-nil}
use mathlib.Core.Path.{◌≡◌, refl, sym, ◌∙◌, ap, subst}
use lib.ListN.{length, get_or, take, drop, set, length-append, length-set, take-append-drop}
use lib.Seq.{take-suc, take_all}
use Rattle.capabilities.proofs.Flatten.{flatten_append}
use Rattle.lines.specs.Laid.{Laid}
use Rattle.lines.proofs.Laying.{laid_both, laid_none, laid_one}
use Rattle.short_histories.specs.Text.{digit, digits, hex_line}

-- ---- Digits
digits_append : (xs ys : List ℕ) → digits (xs ++ ys) ≡ digits xs ++ digits ys
unfolding digits
digits_append [] ys = refl
digits_append (x ∷ xs) ys = ap (λ l. digit (x / 16) ∷ digit (x % 16) ∷ l) (digits_append xs ys)

pub length_digits : (xs : List ℕ) → length (digits xs) ≡ 2 * length xs
unfolding digits
length_digits [] = refl
length_digits (x ∷ xs) = let e : length (digits xs) ≡ 2 * length xs = length_digits xs in omega arith

pub length_line : (xs : List ℕ) → length (hex_line xs) ≡ 2 * length xs + 1
unfolding hex_line
length_line xs = length-append (digits xs) (10 ∷ []) ∙ ap (λ n. n + 1) (length_digits xs)

-- The digits of the bytes so far stand from a place on.
pub record Spelt (bytes : List ℕ) (at : ℕ) (a : List ℕ) (i end : ℕ) (b : List ℕ) : Type 0 where
  pub within : i ≤ length bytes
  pub laid : Laid (digits (take i bytes)) at a end b
  pub is : end ≡ at + 2 * i

pub spelt_none : (bytes : List ℕ) (at : ℕ) (a : List ℕ) → Spelt bytes at a 0 at a
spelt_none bytes at a = record { within = omega arith; laid = unfold digits in laid_none at a; is = omega arith }

module _ (bytes : List ℕ) (at : ℕ) (a : List ℕ) (room : at + length (hex_line bytes) ≤ length a) (i end : ℕ) (b : List ℕ) (p : Spelt bytes at a i end b) where
  all_room : end + 2 * length bytes + 1 ≤ length b + 2 * i
  all_room = omega (arith, room, length_line bytes, p.is, p.laid.size)

  pub spelt_two : (high low : ℕ) → i < length bytes → high ≡ digit (get_or bytes i 0 / 16) → low ≡ digit (get_or bytes i 0 % 16)
      → Spelt bytes at a (i + 1) (end + 2) (set (set b end high) (end + 1) low)
  spelt_two high low h e f = record {
    within = omega arith;
    laid = subst (λ l. Laid l at a (end + 2) (set (set b end high) (end + 1) low)) (sym more) put;
    is = omega (arith, p.is);
  }
    where
      byte : ℕ
      byte = get_or bytes i 0

      pair : List ℕ
      pair = high ∷ low ∷ []

      more : digits (take (i + 1) bytes) ≡ digits (take i bytes) ++ (high ∷ low ∷ [])
      more =
          rw (add-one, take-suc bytes i 0 h, digits_append (take i bytes) (get_or bytes i 0 ∷ []), e, f) (unfold digits in refl)

      two : Laid (high ∷ low ∷ []) end b (end + 2) (set (set b end high) (end + 1) low)
      two =
          laid_both (high ∷ []) (low ∷ []) end (end + 1) (end + 2) b (set b end high) (set (set b end high) (end + 1) low)
          (laid_one high end (end + 1) b refl (omega (arith, all_room)))
          (laid_one low (end + 1) (end + 2) (set b end high) (omega arith) (rw length-set (omega (arith, all_room))))

      put : Laid (digits (take i bytes) ++ (high ∷ low ∷ [])) at a (end + 2) (set (set b end high) (end + 1) low)
      put = laid_both (digits (take i bytes)) (high ∷ low ∷ []) at end (end + 2) a b (set (set b end high) (end + 1) low) p.laid two

  pub spelt_room : i < length bytes → end + 2 ≤ length b
  spelt_room h = omega (arith, all_room)

  pub line_room : end + 1 ≤ length b
  line_room = omega (arith, all_room, p.within)

  pub spelt_line : length bytes ≤ i → Laid (hex_line bytes) at a (end + 1) (set b end 10)
  unfolding hex_line
  spelt_line h =
      laid_both (digits bytes) (10 ∷ []) at end (end + 1) a b (set b end 10) (subst (λ l. Laid (digits l) at a end b) (take_all i bytes h) p.laid)
      (laid_one 10 end (end + 1) b refl line_room)

-- ---- A text in parts, one for each entry of a list
-- The parts of the first k entries stand from a place on.
pub record Parts {A : Type 0} (part : A → List ℕ) (l : List A) (at : ℕ) (a : List ℕ) (k end : ℕ) (b : List ℕ) : Type 0 where
  pub within : k ≤ length l
  pub laid : Laid (flatten (map part (take k l))) at a end b

module _ {A : Type 0} (part : A → List ℕ) (l : List A) (d : A) (at : ℕ) (a : List ℕ) where
  pub parts_none : Parts part l at a 0 at a
  parts_none = record { within = omega arith; laid = unfold flatten in laid_none at a }

  module _ (k end : ℕ) (b : List ℕ) (p : Parts part l at a k end b) where
    one_more : k < length l → flatten (map part (take (k + 1) l)) ≡ flatten (map part (take k l)) ++ part (get_or l k d)
    one_more h =
        ap (λ m. flatten (map part m)) (ap (λ n. take n l) (add-one k) ∙ take-suc l k d h)
        ∙ ap flatten (map-append part (take k l) (get_or l k d ∷ []))
        ∙ flatten_append (map part (take k l)) (part (get_or l k d) ∷ [])
        ∙ ap (λ m. flatten (map part (take k l)) ++ m) (unfold flatten in append-nil (part (get_or l k d)))

    pub parts_next : k < length l → (end₂ : ℕ) (c : List ℕ) → Laid (part (get_or l k d)) end b end₂ c → Parts part l at a (k + 1) end₂ c
    parts_next h end₂ c q = record {
      within = omega arith;
      laid = subst (λ m. Laid m at a end₂ c) (sym (one_more h)) (laid_both (flatten (map part (take k l))) (part (get_or l k d)) at end end₂ a b c p.laid q);
    }

    -- If there is room for all, there is for the next.
    pub parts_room : k < length l → at + length (flatten (map part l)) ≤ length a → end + length (part (get_or l k d)) ≤ length b
    parts_room h room =
        let all : length (flatten (map part (take k l))) + length (part (get_or l k d)) ≤ length (flatten (map part l)) = first_parts in
        omega (arith, room, p.laid.ends, p.laid.size)
      where
        whole : flatten (map part l) ≡ (flatten (map part (take k l)) ++ part (get_or l k d)) ++ flatten (map part (drop (k + 1) l))
        whole =
            ap (λ m. flatten (map part m)) (sym (take-append-drop (k + 1) l))
            ∙ ap flatten (map-append part (take (k + 1) l) (drop (k + 1) l))
            ∙ flatten_append (map part (take (k + 1) l)) (map part (drop (k + 1) l))
            ∙ ap (λ m. m ++ flatten (map part (drop (k + 1) l))) (one_more h)

        first_parts : length (flatten (map part (take k l))) + length (part (get_or l k d)) ≤ length (flatten (map part l))
        first_parts = rw whole (simp length-append (omega arith))

    pub parts_all : length l ≤ k → Laid (flatten (map part l)) at a end b
    parts_all h = subst (λ m. Laid (flatten (map part m)) at a end b) (take_all k l h) p.laid
