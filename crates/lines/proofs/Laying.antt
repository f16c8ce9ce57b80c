-- Bytes put into a buffer: one after another, one before others, and a number's digits from the last to the first. Assumes nothing.
use Prim.Native.Nat.{ℕ, suc, ◌+◌, ◌/◌, ◌%◌, ◌≤◌, ◌<◌}
use native.Mathlib.Omega.{arith}
use mathlib.Core.Bool.{Bool, true, false}
use mathlib.Core.List.{List, [], ◌∷◌, ◌++◌, append_assoc, append-nil}
use mathlib.Core.Path.{◌≡◌, refl, sym, ◌∙◌, ap, subst}
use lib.Dec.{leb}
use borrow.Author.Tests.{leb-true, le-leb, lt-leb}
use lib.ListN.{length, take, drop, set, length-append, length-drop, length-set, take-append-drop}
use lib.Seq.{set_split, take-append-le, take-take, take_at, drop_at, drop-drop, length-take-le}
use Rattle.capabilities.proofs.Choice.{pick_yes, pick_no}
use Rattle.words.specs.Words.{byte_of}
use Rattle.lines.specs.Lines.{decimal, line_of}
use Rattle.lines.specs.Laid.{Laid, laid_in}
use Rattle.lines.proofs.Decimal.{decimal_one, decimal_pair, decimal_two, decimal_some, decimal_long, line_short}

-- One put after another.
module _ (xs ys : List ℕ) (at end end₂ : ℕ) (a b c : List ℕ) (p : Laid xs at a end b) (q : Laid ys end b end₂ c) where
  module _ (h : at + (length xs + length ys) ≤ length a) where
    first : List ℕ
    first = take at a ++ xs

    rest : List ℕ
    rest = drop (at + length xs) a

    split : b ≡ first ++ rest
    unfolding first rest
    split = p.fits (omega arith) ∙ sym (append_assoc (take at a) xs (drop (at + length xs) a))

    long : length first ≡ end
    unfolding first
    long =
        length-append (take at a) xs
        ∙ ap (λ (n : ℕ). n + length xs) (length-take-le at a (omega arith))
        ∙ sym p.ends

    before : take end b ≡ first
    before = ap (take end) split ∙ take_at first rest end long

    longer : at + length xs + length ys ≡ at + length (xs ++ ys)
    longer = simp length-append (omega arith)

    after : drop (end + length ys) b ≡ drop (at + length (xs ++ ys)) a
    unfolding rest
    after =
        sym (drop-drop (length ys) end b)
        ∙ ap (drop (length ys)) (ap (drop end) split ∙ drop_at first rest end long)
        ∙ drop-drop (length ys) (at + length xs) a
        ∙ ap (λ (n : ℕ). drop n a) longer

    both_fit : c ≡ take at a ++ ((xs ++ ys) ++ drop (at + length (xs ++ ys)) a)
    unfolding first
    both_fit =
        q.fits (omega (arith, p.ends, p.size))
        ∙ ap (λ (l : List ℕ). l ++ (ys ++ drop (end + length ys) b)) before
        ∙ ap (λ (l : List ℕ). (take at a ++ xs) ++ (ys ++ l)) after
        ∙ append_assoc (take at a) xs (ys ++ drop (at + length (xs ++ ys)) a)
        ∙ ap (λ (l : List ℕ). take at a ++ l) (sym (append_assoc xs ys (drop (at + length (xs ++ ys)) a)))

  pub laid_both : Laid (xs ++ ys) at a end₂ c
  laid_both = record {
    ends = simp length-append (omega (arith, p.ends, q.ends));
    size = q.size ∙ p.size;
    fits = λ h. both_fit (subst (λ (n : ℕ). at + n ≤ length a) (length-append xs ys) h);
  }

pub laid_none : (at : ℕ) (a : List ℕ) → Laid [] at a at a
laid_none at a =
    let same : at ≡ at + 0 = omega arith in
    record { ends = same; size = refl; fits = λ w. sym (take-append-drop at a) ∙ ap (λ (n : ℕ). take at a ++ drop n a) same }

-- One piece, which is put if it fits.
module _ (new : List ℕ) (at end : ℕ) (a : List ℕ) where
  pub laid_in_lem : {b : List ℕ} → end ≡ at + length new → b ≡ laid_in new at a → Laid new at a end b
  unfolding laid_in
  laid_in_lem {b} e p = record { ends = e; size = ap length p ∙ go (leb (at + length new) (length a)) refl; fits = λ h. p ∙ pick_yes _ _ _ (le-leb (at + length new) (length a) h) }
    where
      go : (c : Bool) → leb (at + length new) (length a) ≡ c → length (laid_in new at a) ≡ length a
      go true f =
          let h = leb-true (at + length new) (length a) f in
          ap length (pick_yes _ (take at a ++ (new ++ drop (at + length new) a)) a f)
          ∙ simp (length-append, length-drop, length-take-le at a (omega arith)) (omega arith)
      go false f = ap length (pick_no _ (take at a ++ (new ++ drop (at + length new) a)) a f)

  -- Put where it fits, and kept where it does not.
  pub in_laid : {b : List ℕ} → end ≤ length a → Laid new at a end b → (end ≡ at + length new) × (b ≡ laid_in new at a)
  unfolding laid_in
  in_laid h p =
      let w : at + length new ≤ length a = omega (arith, p.ends) in
      (p.ends, p.fits w ∙ sym (pick_yes _ (take at a ++ (new ++ drop (at + length new) a)) a (le-leb (at + length new) (length a) w)))

  pub in_past : end ≡ at + length new → length a < end → (end ≡ at + length new) × (a ≡ laid_in new at a)
  unfolding laid_in
  in_past e h = (e, sym (pick_no _ (take at a ++ (new ++ drop (at + length new) a)) a (lt-leb (at + length new) (length a) (omega arith))))

-- One byte stored.
pub laid_one : (x at end : ℕ) (a : List ℕ) → end ≡ at + 1 → end ≤ length a → Laid (x ∷ []) at a end (set a at x)
laid_one x at end a e h =
    let next : suc at ≡ at + 1 = omega arith in
    record { ends = e; size = length-set a at x; fits = λ w. set_split a at x (omega arith) ∙ ap (λ (n : ℕ). take at a ++ (x ∷ drop n a)) next }

-- One byte stored before others.
module _ (x : ℕ) (last : List ℕ) (j k end : ℕ) (a b : List ℕ) (e : k ≡ suc j) (h : end ≤ length a) (p : Laid last k a end b) where
  whole : b ≡ take k a ++ (last ++ drop (k + length last) a)
  whole = p.fits (omega (arith, p.ends))

  reach : length (take k a) ≡ k
  reach = length-take-le k a (omega (arith, p.ends))

  front : take j b ≡ take j a
  front =
      ap (take j) whole
      ∙ take-append-le j (take k a) (last ++ drop (k + length last) a) (rw reach (omega arith))
      ∙ take-take j k a (omega arith)

  back : drop k b ≡ last ++ drop (k + length last) a
  back = ap (drop k) whole ∙ drop_at (take k a) (last ++ drop (k + length last) a) k reach

  shifted : k + length last ≡ j + suc (length last)
  shifted = omega arith

  pub laid_before : Laid (x ∷ last) j a end (set b j x)
  laid_before = record {
    ends = omega (arith, p.ends);
    size = length-set b j x ∙ p.size;
    fits = λ w.
        set_split b j x (omega (arith, p.ends, p.size))
        ∙ ap (λ (l : List ℕ). l ++ (x ∷ drop (suc j) b)) front
        ∙ ap (λ (n : ℕ). take j a ++ (x ∷ drop n b)) (sym e)
        ∙ ap (λ (l : List ℕ). take j a ++ (x ∷ l)) back
        ∙ ap (λ (n : ℕ). take j a ++ (x ∷ (last ++ drop n a))) shifted;
  }

-- How far a number is put: `last`, from `first` to `end`, holds the digits that stand after those of `rest`.
pub record Spelt (n rest first end : ℕ) (a b : List ℕ) : Type 0 where
  pub last : List ℕ
  pub is : decimal n ≡ decimal rest ++ last
  pub laid : Laid last first a end b

pub spelt_none : (n end : ℕ) (a : List ℕ) → Spelt n n end end a a
spelt_none n end a = record { last = []; is = sym (append-nil (decimal n)); laid = laid_none end a }

-- All digits are put.
pub spelt_all : (n first end : ℕ) (a b last : List ℕ) → decimal n ≡ last → Laid last first a end b
    → (at : ℕ) → end ≡ at + length (decimal n) → Laid (decimal n) at a end b
spelt_all n first end a b last e p at at-end =
    let long : length (decimal n) ≡ length last = ap length e in
    let same : first ≡ at = omega (arith, p.ends) in
    subst (λ (l : List ℕ). Laid l at a end b) (sym e) (subst (λ (k : ℕ). Laid last k a end b) same p)

module _ {n rest first end : ℕ} {a b : List ℕ} (s : Spelt n rest first end a b) where
  -- The digits that are left have their place.
  room : length (decimal n) ≤ end → length (decimal rest) ≤ first
  room h =
      let all : length (decimal n) ≡ length (decimal rest) + length s.last = ap length s.is ∙ length-append (decimal rest) s.last in
      omega (arith, s.laid.ends)

  pub spelt_one_room : length (decimal n) ≤ end → 1 ≤ first
  spelt_one_room h = let r : length (decimal rest) ≤ first = room h in let d : 1 ≤ length (decimal rest) = decimal_some rest in omega arith

  pub spelt_pair_room : length (decimal n) ≤ end → 10 ≤ rest → 2 ≤ first
  spelt_pair_room h more =
      let r : length (decimal rest) ≤ first = room h in let d : 2 ≤ length (decimal rest) = decimal_long 1 rest (omega arith) more in omega arith

  pub spelt_within : first ≤ end
  spelt_within = omega (arith, s.laid.ends)

  module _ (h : end ≤ length a) (j : ℕ) (e : first ≡ j + 2) (x y : ℕ) where
    pair : Laid (x ∷ y ∷ s.last) j a end (set (set b (j + 1) y) j x)
    pair =
        laid_before x (y ∷ s.last) j (j + 1) end a (set b (j + 1) y) (omega arith) h
        (laid_before y s.last (j + 1) first end a b (omega arith) h s.laid)

  pub spelt_two : end ≤ length a → 100 ≤ rest → rest < 100000000000000000000 → (j : ℕ) → first ≡ j + 2
      → Spelt n (rest / 100) j end a (set (set b (j + 1) (48 + rest % 100 % 10)) j (48 + rest % 100 / 10))
  spelt_two h more word j e = record {
    last = (48 + rest % 100 / 10) ∷ (48 + rest % 100 % 10) ∷ s.last;
    is =
        s.is ∙ ap (λ (l : List ℕ). l ++ s.last) (decimal_two rest word more)
        ∙ append_assoc (decimal (rest / 100)) ((48 + rest % 100 / 10) ∷ (48 + rest % 100 % 10) ∷ []) s.last;
    laid = pair h j e (48 + rest % 100 / 10) (48 + rest % 100 % 10);
  }

  pub spelt_pair : end ≤ length a → 10 ≤ rest → rest < 100 → (j : ℕ) → first ≡ j + 2 → (at : ℕ) → end ≡ at + length (decimal n)
      → Laid (decimal n) at a end (set (set b (j + 1) (48 + rest % 10)) j (48 + rest / 10))
  spelt_pair h more less j e =
      spelt_all n j end a (set (set b (j + 1) (48 + rest % 10)) j (48 + rest / 10)) _
      (s.is ∙ ap (λ (l : List ℕ). l ++ s.last) (decimal_pair rest less more)) (pair h j e (48 + rest / 10) (48 + rest % 10))

  pub spelt_one : end ≤ length a → rest < 10 → (j : ℕ) → first ≡ j + 1 → (at : ℕ) → end ≡ at + length (decimal n)
      → Laid (decimal n) at a end (set b j (48 + rest))
  spelt_one h less j e =
      spelt_all n j end a (set b j (48 + rest)) _ (s.is ∙ ap (λ (l : List ℕ). l ++ s.last) (decimal_one rest less))
      (laid_before (48 + rest) s.last j first end a b (omega arith) h s.laid)

-- Three bytes stored.
pub laid_three :
    (x y z at : ℕ) (a : List ℕ) → at + 3 ≤ length a → Laid (x ∷ y ∷ z ∷ []) at a (at + 3) (set (set (set a at x) (at + 1) y) (at + 2) z)
laid_three x y z at a h =
    let b = set a at x in
    let c = set b (at + 1) y in
    laid_both (x ∷ []) (y ∷ z ∷ []) at (at + 1) (at + 3) a b (set c (at + 2) z) (laid_one x at (at + 1) a refl (omega arith))
    (laid_both (y ∷ []) (z ∷ []) (at + 1) (at + 2) (at + 3) b c (set c (at + 2) z)
    (laid_one y (at + 1) (at + 2) b (omega arith) (rw (length-set a at x) (omega arith)))
    (laid_one z (at + 2) (at + 3) c (omega arith) (rw (length-set b (at + 1) y, length-set a at x) (omega arith))))

-- A line's end: a space, the tag, a newline.
abbrev pub tagged : Bool → List ℕ
tagged tag = 32 ∷ (decimal (byte_of tag) ++ (10 ∷ []))

tag_one : (tag : Bool) → decimal (byte_of tag) ≡ (48 + byte_of tag) ∷ []
tag_one true = decimal_one 1 (omega arith)
tag_one false = decimal_one 0 (omega arith)

pub laid_tag :
    (tag : Bool) (n at : ℕ) (a : List ℕ) → n ≡ byte_of tag → at + 3 ≤ length a
    → Laid (tagged tag) at a (at + 3) (set (set (set a at 32) (at + 1) (48 + n)) (at + 2) 10)
laid_tag tag n at a e h =
    let digit : (48 + n) ∷ [] ≡ decimal (byte_of tag) = rw e (sym (tag_one tag)) in
    subst (λ (l : List ℕ). Laid (32 ∷ (l ++ (10 ∷ []))) at a (at + 3) (set (set (set a at 32) (at + 1) (48 + n)) (at + 2) 10)) digit
    (laid_three 32 (48 + n) 10 at a h)

-- How long a line is.
pub line_length : (code number : ℕ) (tag : Bool) → length (line_of code number tag) ≡ length (decimal code) + length (decimal number) + 4
unfolding line_of
line_length code number tag =
    let one : length (decimal (byte_of tag)) ≡ 1 = ap length (tag_one tag) in
    simp length-append (omega arith)

-- A line of six bytes.
module _ (code number : ℕ) (tag : Bool) (at : ℕ) (a : List ℕ) (h : code < 10) (w : number < 10) where
  pub short_past : length a < at + 6 → (at + 6 ≡ at + length (line_of code number tag)) × (a ≡ laid_in (line_of code number tag) at a)
  short_past p =
      let c : length (decimal code) ≡ 1 = ap length (decimal_one code h) in
      let n : length (decimal number) ≡ 1 = ap length (decimal_one number w) in
      in_past (line_of code number tag) at (at + 6) a (rw (line_length code number tag) (omega arith)) p

  pub laid_short :
      (b d : List ℕ) → Laid ((48 + code) ∷ 32 ∷ (48 + number) ∷ []) at a (at + 3) b → Laid (tagged tag) (at + 3) b (at + 3 + 3) d
      → Laid (line_of code number tag) at a (at + 6) d
  unfolding line_of
  laid_short b d p q =
      let six : at + 3 + 3 ≡ at + 6 = omega arith in
      subst (λ (l : List ℕ). Laid (l ++ (32 ∷ (decimal number ++ tagged tag))) at a (at + 6) d) (sym (decimal_one code h))
      (subst (λ (l : List ℕ). Laid ((48 + code) ∷ 32 ∷ (l ++ tagged tag)) at a (at + 6) d) (sym (decimal_one number w))
      (subst (λ (n : ℕ). Laid ((48 + code) ∷ 32 ∷ (48 + number) ∷ tagged tag) at a n d) six
      (laid_both ((48 + code) ∷ 32 ∷ (48 + number) ∷ []) (tagged tag) at (at + 3) (at + 3 + 3) a b d p q)))

-- The line's three numbers, one after another.
module _ (code number : ℕ) (tag : Bool) (at first second end : ℕ) (a b c d : List ℕ) where
  pub spaced_size : Laid (decimal code) at a first b → Laid (decimal number) (first + 1) (set b first 32) second c → length c ≡ length a
  spaced_size p q = q.size ∙ length-set b first 32 ∙ p.size

  pub laid_line :
      Laid (decimal code) at a first b → first < length b → Laid (decimal number) (first + 1) (set b first 32) second c
      → Laid (tagged tag) second c end d → Laid (line_of code number tag) at a end d
  unfolding line_of
  laid_line p h q r =
      laid_both (decimal code) _ at first end a b d p
      (laid_both (32 ∷ []) _ first (first + 1) end b (set b first 32) d (laid_one 32 first (first + 1) b refl (omega arith))
      (laid_both (decimal number) _ (first + 1) second end (set b first 32) c d q r))

-- A line ends near its place.
pub line_near :
    (code number : ℕ) (tag : Bool) (at end : ℕ) → end ≡ at + length (line_of code number tag) → code < 100 → number < 18446744073709551616 → end ≤ at + 26
line_near code number tag at end e h w =
    let l : length (line_of code number tag) ≤ 26 = line_short code number tag w h in omega arith
