-- Words read from lists of cells and tag bytes, and the two lists changed beside each other. Assumes nothing.
use Prim.Native.Nat.{ℕ, zero, suc, ◌+◌, ◌*◌, ◌<◌, ◌≤◌, min}
use native.Mathlib.Numerals.{add-one}
use native.Mathlib.Omega.{arith}
use mathlib.Core.Bool.{Bool, true, false, not, ◌&&◌, ◌||◌}
use mathlib.Core.List.{List, [], ◌∷◌, map}
use mathlib.Core.Path.{◌≡◌, refl, ap, ◌∙◌}
use mir.Val.{bool_byte}
use lib.ListN.{length, get_or, set, take}
use lib.Dec.{leb, eqb}
use borrow.Author.Tests.{leb-true}
use Rattle.capabilities.specs.declared.Range.{Range}
use Rattle.capabilities.specs.Lists.{pick, each}
use Rattle.capabilities.specs.Death.{dies}
use Rattle.capabilities.proofs.Choice.{and_left, and_right}
use Rattle.capabilities.proofs.Lists.{each_more}
use Rattle.words.specs.declared.Slot.{Slot}
use Rattle.words.specs.Words.{slot, empty, keep_tag, tag_of, byte_of, word_at, mailbox_sound}
use Rattle.words.specs.Lent.{slots_of, cells_of, tag_bytes, bit, map_beside, collected_mark, collected_cell, collected_marks, collected_mail}

pub tag_byte : (b : Bool) → tag_of (byte_of b) ≡ b
tag_byte true = refl
tag_byte false = refl

-- Words, written and read again.
pub slots_back : (l : List Slot) → slots_of (cells_of l) (tag_bytes l) ≡ l
unfolding slots_of
slots_back [] = refl
slots_back (w ∷ l) = ap (λ b. slot w.cell b ∷ slots_of (cells_of l) (tag_bytes l)) (tag_byte w.tag) ∙ ap (λ k. w ∷ k) (slots_back l)

pub slots_get : (cells tags : List ℕ) (i : ℕ) → length cells ≡ length tags → get_or (slots_of cells tags) i empty ≡ word_at cells tags i
unfolding slots_of word_at
slots_get [] [] i e = refl
slots_get [] (t ∷ tags) i e = let z : ⊥ = omega arith in absurd z
slots_get (c ∷ cells) [] i e = let z : ⊥ = omega arith in absurd z
slots_get (c ∷ cells) (t ∷ tags) zero e = refl
slots_get (c ∷ cells) (t ∷ tags) (suc i) e = slots_get cells tags i (omega arith)

-- The same of lists of any lengths, where there is a word.
pub slots_length : (cells tags : List ℕ) → length (slots_of cells tags) ≡ min (length cells) (length tags)
unfolding slots_of
slots_length [] tags = omega arith
slots_length (c ∷ cells) [] = omega arith
slots_length (c ∷ cells) (t ∷ tags) = omega (arith, slots_length cells tags)

pub slots_at : (cells tags : List ℕ) (i : ℕ) → i < length (slots_of cells tags) → get_or (slots_of cells tags) i empty ≡ word_at cells tags i
unfolding slots_of word_at
slots_at [] tags i h = let z : ⊥ = omega arith in absurd z
slots_at (c ∷ cells) [] i h = let z : ⊥ = omega arith in absurd z
slots_at (c ∷ cells) (t ∷ tags) zero h = refl
slots_at (c ∷ cells) (t ∷ tags) (suc i) h = slots_at cells tags i (omega arith)

-- A loop over mailboxes, which tests one a turn.
pub mailbox_turn : (cells tags : List ℕ) (i c t : ℕ) → i < length cells → i < length tags → c ≡ get_or cells i 0 → t ≡ get_or tags i 0
    → each mailbox_sound 0 (take (i + 1) (slots_of cells tags)) ≡ (each mailbox_sound 0 (take i (slots_of cells tags)) && (tag_of t || eqb c 0))
unfolding word_at
mailbox_turn cells tags i c t h k e f =
    let w : i < length (slots_of cells tags) = omega (arith, slots_length cells tags) in
    rw (each_more mailbox_sound (slots_of cells tags) i empty w, slots_at cells tags i w, e, f)

-- Cells and tag bytes, read and written again: the same where the bytes are 0 and 1.
bit_back : (t : ℕ) → leb t 1 ≡ true → byte_of (tag_of t) ≡ t
bit_back zero e = refl
bit_back (suc zero) e = refl
bit_back (suc (suc t)) e = let h = leb-true (suc (suc t)) 1 e in let z : ⊥ = omega arith in absurd z

pub cells_kept : (cells tags : List ℕ) → length cells ≡ length tags → cells_of (slots_of cells tags) ≡ cells
unfolding slots_of
cells_kept [] tags e = refl
cells_kept (c ∷ cells) [] e = let z : ⊥ = omega arith in absurd z
cells_kept (c ∷ cells) (t ∷ tags) e = ap (λ l. c ∷ l) (cells_kept cells tags (omega arith))

pub bytes_kept : (n : ℕ) (cells tags : List ℕ) → length cells ≡ length tags → each bit n tags ≡ true → tag_bytes (slots_of cells tags) ≡ tags
unfolding slots_of each
bytes_kept n [] [] e k = refl
bytes_kept n [] (t ∷ tags) e k = let z : ⊥ = omega arith in absurd z
bytes_kept n (c ∷ cells) [] e k = let z : ⊥ = omega arith in absurd z
bytes_kept n (c ∷ cells) (t ∷ tags) e k =
    ap (λ b. b ∷ tag_bytes (slots_of cells tags)) (bit_back t (and_left (leb t 1) _ k))
    ∙ ap (λ l. t ∷ l) (bytes_kept (suc n) cells tags (omega arith) (and_right (leb t 1) _ k))

-- And words are written with such bytes.
byte_bit : (b : Bool) → leb (byte_of b) 1 ≡ true
byte_bit true = refl
byte_bit false = refl

pub bytes_bits : (n : ℕ) (l : List Slot) → each bit n (tag_bytes l) ≡ true
unfolding each
bytes_bits n [] = refl
bytes_bits n (w ∷ l) = rw (byte_bit w.tag) (bytes_bits (suc n) l)

-- A product with a flag is no more than the number.
pub times_most : (d : Bool) (n : ℕ) → n * bool_byte (not d) ≤ n
times_most true n = omega arith
times_most false n = omega arith

-- A loop that changes one number a turn: the next one is still the old one, and after a turn one more is changed.
module _ (f : ℕ → ℕ → ℕ) where
  pub beside_length : (xs ys : List ℕ) → length (map_beside f xs ys) ≡ length ys
  unfolding map_beside
  beside_length [] ys = refl
  beside_length (x ∷ xs) [] = refl
  beside_length (x ∷ xs) (y ∷ ys) = ap suc (beside_length xs ys)

  pub beside_none : (xs ys : List ℕ) → ys ≡ map_beside f (take 0 xs) ys
  unfolding map_beside
  beside_none xs ys = refl

  pub beside_next : (xs ys : List ℕ) (i : ℕ) → get_or (map_beside f (take i xs) ys) i 0 ≡ get_or ys i 0
  unfolding map_beside
  beside_next xs ys zero = refl
  beside_next [] ys (suc i) = refl
  beside_next (x ∷ xs) [] (suc i) = refl
  beside_next (x ∷ xs) (y ∷ ys) (suc i) = beside_next xs ys i

  pub beside_more : (xs ys : List ℕ) (i : ℕ) → i < length xs → i < length ys
      → set (map_beside f (take i xs) ys) i (f (get_or xs i 0) (get_or ys i 0)) ≡ map_beside f (take (suc i) xs) ys
  unfolding map_beside
  beside_more [] ys i h k = let z : ⊥ = omega arith in absurd z
  beside_more (x ∷ xs) [] i h k = let z : ⊥ = omega arith in absurd z
  beside_more (x ∷ xs) (y ∷ ys) zero h k = refl
  beside_more (x ∷ xs) (y ∷ ys) (suc i) h k = ap (λ l. f x y ∷ l) (beside_more xs ys i (omega arith) (omega arith))

  -- A whole turn: the number read, what f makes of it written.
  pub beside_turn : (xs ys : List ℕ) (i : ℕ) (t : List ℕ) (x : ℕ) → i < length xs → i < length ys → t ≡ map_beside f (take i xs) ys
      → x ≡ f (get_or xs i 0) (get_or t i 0) → set t i x ≡ map_beside f (take (i + 1) xs) ys
  beside_turn xs ys i t x h k e y =
      rw (y, e, beside_next xs ys i, add-one) (beside_more xs ys i h k)

  pub beside_whole : (xs ys : List ℕ) (i : ℕ) → min (length xs) (length ys) ≤ i → map_beside f (take i xs) ys ≡ map_beside f xs ys
  unfolding map_beside
  beside_whole [] ys zero h = refl
  beside_whole [] ys (suc i) h = refl
  beside_whole (x ∷ xs) [] zero h = refl
  beside_whole (x ∷ xs) [] (suc i) h = refl
  beside_whole (x ∷ xs) (y ∷ ys) zero h = let z : ⊥ = omega arith in absurd z
  beside_whole (x ∷ xs) (y ∷ ys) (suc i) h = ap (λ l. f x y ∷ l) (beside_whole xs ys i (omega arith))

-- What a collect makes of the lists is what it makes of the words, written.
kept_byte : (t : ℕ) (d : Bool) → leb t 1 ≡ true → byte_of (tag_of t && not d) ≡ pick d 0 t
kept_byte zero true e = refl
kept_byte zero false e = refl
kept_byte (suc zero) true e = refl
kept_byte (suc zero) false e = refl
kept_byte (suc (suc t)) d e = let h = leb-true (suc (suc t)) 1 e in let z : ⊥ = omega arith in absurd z

emptied_byte : (c t : ℕ) (d : Bool) → leb t 1 ≡ true → byte_of (pick (tag_of t && d) empty (slot c (tag_of t))).tag ≡ pick d 0 t
emptied_byte c zero true e = refl
emptied_byte c zero false e = refl
emptied_byte c (suc zero) true e = refl
emptied_byte c (suc zero) false e = refl
emptied_byte c (suc (suc t)) d e = let h = leb-true (suc (suc t)) 1 e in let z : ⊥ = omega arith in absurd z

emptied_cell : (c : ℕ) (t b : Bool) → (pick b empty (slot c t)).cell ≡ pick b 0 c
emptied_cell c t true = refl
emptied_cell c t false = refl

module _ (r : Range) where
  -- 07, of registers and of mailboxes, by whether the base lies in the range.
  abbrev pub untagged : Slot → Slot
  untagged w = keep_tag w (not (dies r w.cell))

  abbrev pub emptied : Slot → Slot
  emptied w = pick (w.tag && dies r w.cell) empty w

  pub cells_collected : (words marks : List ℕ) → length words ≡ length marks → cells_of (map untagged (slots_of words marks)) ≡ words
  unfolding slots_of
  cells_collected [] marks e = refl
  cells_collected (c ∷ words) [] e = let z : ⊥ = omega arith in absurd z
  cells_collected (c ∷ words) (t ∷ marks) e = ap (λ l. c ∷ l) (cells_collected words marks (omega arith))

  pub marks_collected : (n : ℕ) (words marks : List ℕ) → length words ≡ length marks → each bit n marks ≡ true
      → tag_bytes (map untagged (slots_of words marks)) ≡ collected_marks r words marks
  unfolding slots_of each map_beside collected_marks
  marks_collected n [] [] e k = refl
  marks_collected n [] (t ∷ marks) e k = let z : ⊥ = omega arith in absurd z
  marks_collected n (c ∷ words) [] e k = let z : ⊥ = omega arith in absurd z
  marks_collected n (c ∷ words) (t ∷ marks) e k =
      ap (λ b. b ∷ tag_bytes (map untagged (slots_of words marks))) (kept_byte t (dies r c) (and_left (leb t 1) _ k))
      ∙ ap (λ l. collected_mark r c t ∷ l) (marks_collected (suc n) words marks (omega arith) (and_right (leb t 1) _ k))

  pub mail_collected : (mail flags : List ℕ) → length mail ≡ length flags → cells_of (map emptied (slots_of mail flags)) ≡ collected_mail r mail flags
  unfolding slots_of map_beside collected_mail
  mail_collected [] [] e = refl
  mail_collected [] (t ∷ flags) e = let z : ⊥ = omega arith in absurd z
  mail_collected (c ∷ mail) [] e = let z : ⊥ = omega arith in absurd z
  mail_collected (c ∷ mail) (t ∷ flags) e =
      ap (λ b. b ∷ cells_of (map emptied (slots_of mail flags))) (emptied_cell c (tag_of t) (tag_of t && dies r c))
      ∙ ap (λ l. collected_cell r t c ∷ l) (mail_collected mail flags (omega arith))

  pub flags_collected : (n : ℕ) (mail flags : List ℕ) → length mail ≡ length flags → each bit n flags ≡ true
      → tag_bytes (map emptied (slots_of mail flags)) ≡ collected_marks r mail flags
  unfolding slots_of each map_beside collected_marks
  flags_collected n [] [] e k = refl
  flags_collected n [] (t ∷ flags) e k = let z : ⊥ = omega arith in absurd z
  flags_collected n (c ∷ mail) [] e k = let z : ⊥ = omega arith in absurd z
  flags_collected n (c ∷ mail) (t ∷ flags) e k =
      ap (λ b. b ∷ tag_bytes (map emptied (slots_of mail flags))) (emptied_byte c t (dies r c) (and_left (leb t 1) _ k))
      ∙ ap (λ l. collected_mark r c t ∷ l) (flags_collected (suc n) mail flags (omega arith) (and_right (leb t 1) _ k))
