-- Laws of `above`, how many counts are above 0, and of `any_above`, whether a page has a claim. Assumes nothing.
use Prim.Native.Nat.{ℕ, zero, suc, ◌+◌, ◌<◌, ◌≤◌}
use native.Mathlib.Nat.{zero-add, add-zero}
use native.Mathlib.Numerals.{add-one}
use native.Mathlib.Omega.{arith}
use mathlib.Core.Bool.{Bool, true, false, ◌||◌, or_comm, or_assoc, false≢true}
use mathlib.Core.List.{List, [], ◌∷◌, ◌++◌}
use mathlib.Core.Path.{◌≡◌, refl, sym, ap, ap₂, ◌∙◌}
use lib.ListN.{length, get_or, set, take, drop, replicate, take-append-drop}
use lib.Seq.{take-suc}
use lib.Dec.{ltb}
use borrow.Author.Tests.{ltb-true, ltb-false, lt-ltb, le-ltb}
use Rattle.capabilities.proofs.Choice.{at_most, is_false, pick_yes, pick_no, or_false}
use Rattle.capabilities.proofs.Lists.{same_everywhere}
use Rattle.claims.specs.Claims.{Claims, one, above, any_above, claimed, counts_of, count_of}

pub one_none : (n : ℕ) → n ≡ 0 → one n ≡ 0
one_none n e = pick_no {A = ℕ} (ltb 0 n) 1 0 (le-ltb 0 n (omega arith))

pub one_some : (n : ℕ) → 0 < n → one n ≡ 1
one_some n h = pick_yes {A = ℕ} (ltb 0 n) 1 0 (lt-ltb 0 n h)

none_one : (n : ℕ) → one n ≡ 0 → n ≡ 0
none_one n e = go (ltb 0 n) refl
  where
    go : (b : Bool) → ltb 0 n ≡ b → n ≡ 0
    go true q = let s = one_some n (ltb-true 0 n q) in let z : ⊥ = omega (arith, e, s) in absurd z
    go false q = let s = ltb-false 0 n q in omega arith

-- One count put in place of another.
pub above_set : (l : List ℕ) (k n : ℕ) → k < length l → above (set l k n) + one (get_or l k 0) ≡ above l + one n
unfolding above
above_set [] k n h = let z : ⊥ = omega arith in absurd z
above_set (x ∷ l) zero n h = omega arith
above_set (x ∷ l) (suc k) n h = let a = above_set l k n (omega arith) in omega (arith, a)

pub above_zeros : (n : ℕ) → above (replicate n 0) ≡ 0
unfolding above
above_zeros zero = refl
above_zeros (suc n) = let a = above_zeros n in omega (arith, a)

-- None is above 0: all are 0.
pub above_none : (l : List ℕ) → above l ≡ 0 → l ≡ replicate (length l) 0
unfolding above
above_none [] e = refl
above_none (x ∷ l) e = ap₂ ◌∷◌ (none_one x (omega (arith, e))) (above_none l (omega (arith, e)))

pub zero_at : (l : List ℕ) → above l ≡ 0 → (k : ℕ) → get_or l k 0 ≡ 0
zero_at l e k = ap (λ m. get_or m k 0) (above_none l e) ∙ same_everywhere {A = ℕ} (length l) k 0

above_append : (l m : List ℕ) → above (l ++ m) ≡ above l + above m
unfolding above
above_append [] m = sym (zero-add (above m))
above_append (x ∷ l) m = let a = above_append l m in omega (arith, a)

pub above_parts : (k : ℕ) (l : List ℕ) → above l ≡ above (take k l) + above (drop k l)
above_parts k l = ap above (sym (take-append-drop k l)) ∙ above_append (take k l) (drop k l)

-- One count more, as a loop goes.
pub above_more : (l : List ℕ) (i : ℕ) → i < length l → above (take (i + 1) l) ≡ above (take i l) + one (get_or l i 0)
unfolding above
above_more l i h =
    ap (λ k. above (take k l)) (add-one i) ∙ ap above (take-suc l i 0 h) ∙ above_append (take i l) (get_or l i 0 ∷ [])
    ∙ ap (λ k. above (take i l) + k) (add-zero (one (get_or l i 0)))

-- Where none is above 0, none is from a page on.
pub above_past : (v : ℕ) (l : List ℕ) → above l ≡ 0 → above (drop v l) ≡ 0
above_past v l e = let a = above_parts v l in omega (arith, a, e)

pub above_length : (l : List ℕ) → above l ≤ length l
unfolding above
above_length [] = omega arith
above_length (x ∷ l) = let a = above_length l in let b = at_most (ltb 0 x) in omega (arith, a, b)

-- A list of counts with a number above 0 for the page, by its number.
abbrev Found : ℕ → List (List ℕ) → Type 0
Found page ls = (p : ℕ) × (p < length ls) × (0 < get_or (get_or ls p []) page 0)

any_found : (page : ℕ) (ls : List (List ℕ)) → any_above page ls ≡ true → Found page ls
unfolding any_above
any_found page [] e = absurd (false≢true e)
any_found page (l ∷ rest) e = go (ltb 0 (get_or l page 0)) refl e (any_found page rest)
  where
    go : (b : Bool) → ltb 0 (get_or l page 0) ≡ b → b || any_above page rest ≡ true → (any_above page rest ≡ true → Found page rest) → Found page (l ∷ rest)
    go true q e more = (0, omega arith, ltb-true 0 (get_or l page 0) q)
    go false q e more = let f = more e in let w = f.1 in (suc f.0, omega (arith, w), f.2)

any_none : (page : ℕ) (ls : List (List ℕ)) → any_above page ls ≡ false → (p : ℕ) → get_or (get_or ls p []) page 0 ≡ 0
unfolding any_above
any_none page [] e p = refl
any_none page (l ∷ rest) e zero = let s = ltb-false 0 (get_or l page 0) (or_false (ltb 0 (get_or l page 0)) (any_above page rest) e).0 in omega (arith, s)
any_none page (l ∷ rest) e (suc p) = any_none page rest (or_false (ltb 0 (get_or l page 0)) (any_above page rest) e).1 p

-- One list more.
pub any_snoc : (page : ℕ) (ls : List (List ℕ)) (l : List ℕ) → any_above page (ls ++ (l ∷ [])) ≡ (any_above page ls || ltb 0 (get_or l page 0))
unfolding any_above
any_snoc page [] l = or_comm (ltb 0 (get_or l page 0)) false
any_snoc page (m ∷ ls) l =
    ap (λ b. ltb 0 (get_or m page 0) || b) (any_snoc page ls l) ∙ sym (or_assoc (ltb 0 (get_or m page 0)) (any_above page ls) (ltb 0 (get_or l page 0)))

-- A page with a claim is counted above 0 by a principal.
pub record ClaimedBy (c : Claims) (page : ℕ) : Type 0 where
  pub who : ℕ
  pub within : who < length c.counts
  pub counts : 0 < count_of c who page

module _ (c : Claims) where
  pub claimed_by : (page : ℕ) → claimed c page ≡ true → ClaimedBy c page
  unfolding counts_of
  claimed_by page e = let f = any_found page c.counts e in record { who = f.0; within = f.1; counts = f.2 }

  pub claimed_if : (p page : ℕ) → 0 < count_of c p page → claimed c page ≡ true
  unfolding counts_of
  claimed_if p page h = go (claimed c page) refl
    where
      go : (b : Bool) → claimed c page ≡ b → claimed c page ≡ true
      go true q = q
      go false q = let s = any_none page c.counts q p in let z : ⊥ = omega (arith, s, h) in absurd z

  pub unclaimed : (page : ℕ) → ((p : ℕ) → count_of c p page ≡ 0) → claimed c page ≡ false
  unclaimed page h = is_false (claimed c page) (λ q. let f = claimed_by page q in let s = h f.who in let t = f.counts in omega (arith, s, t))
