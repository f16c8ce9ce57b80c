-- What well-formed claims say of one principal and of its counts. Assumes nothing.
use Prim.Native.Nat.{ℕ, ◌+◌, ◌-◌, ◌<◌, ◌≤◌}
use native.Mathlib.Omega.{arith}
use mathlib.Core.Bool.{Bool, true, false, not, ◌&&◌, true≢false}
use mathlib.Core.List.{List, []}
use mathlib.Core.Path.{◌≡◌, refl, sym, ap, subst, ◌∙◌}
use lib.ListN.{length, get_or, drop, get_or-eq_default}
use lib.Seq.{get_or-drop}
use lib.Dec.{leb, ltb, eqb}
use borrow.Author.Tests.{eqb-true, eq-eqb, leb-true, le-leb, ltb-true, ltb-false, not-true}
use Rattle.capabilities.specs.Lists.{pick}
use Rattle.capabilities.proofs.Choice.{pick_yes, pick_no, and_left, and_right, both}
use Rattle.capabilities.proofs.Lists.{empty}
use Rattle.claims.specs.declared.Principal.{Principal}
use Rattle.claims.specs.Claims.{Claims, principal, nobody, principal_at, in_being, holds, parent_of, unspent, counts_of, count_of, above, limit_of}
use Rattle.claims.specs.Tree.{leads_up}
use Rattle.claims.specs.Sound.{is_nobody, principal_sound, counts_sound, claims_sound}
use Rattle.claims.proofs.Facts.{facts}
use Rattle.claims.proofs.Sums.{summand}
use Rattle.claims.proofs.Counting.{zero_at}

pub held_being : (c : Claims) (party p : ℕ) → holds c party p ≡ true → in_being c p ≡ true
held_being c party p e = and_left (in_being c p) (eqb (principal_at c p).holder party) e

-- One in being is not one that is not.
pub apart : (c : Claims) (p q : ℕ) → in_being c p ≡ true → in_being c q ≡ false → p ≡ q → ⊥
apart c p q b e i = true≢false (sym b ∙ ap (λ x. in_being c x) i ∙ e)

-- What is tested of a principal in being, and of an entry of none.
module _ (c : Claims) (p : ℕ) (q : Principal) where
  abbrev placed : Bool
  placed = leb q.holder 7 && in_being c q.parent

  pub being_test : q.being ≡ true → principal_sound c p q ≡ ((leb q.holder 7 && in_being c q.parent) && leads_up c 0 p)
  unfolding principal_sound
  being_test e = pick_yes q.being (placed && leads_up c 0 p) (is_nobody q) e

  pub nobody_test : q.being ≡ false → principal_sound c p q ≡ is_nobody q
  unfolding principal_sound
  nobody_test e = pick_no q.being (placed && leads_up c 0 p) (is_nobody q) e

  pub nobody_sound : q ≡ nobody → principal_sound c p q ≡ true
  unfolding principal_sound
  nobody_sound e = rw e refl

-- What is tested of their counts.
module _ (v : ℕ) (c : Claims) (p : ℕ) (l : List ℕ) where
  pub counted_test : in_being c p ≡ true → counts_sound v c p l ≡ (eqb (length l) 256 && eqb (above (drop v l)) 0)
  unfolding counts_sound
  counted_test e = pick_yes (in_being c p) (eqb (length l) 256 && eqb (above (drop v l)) 0) (eqb (length l) 0) e

  pub none_test : in_being c p ≡ false → counts_sound v c p l ≡ eqb (length l) 0
  unfolding counts_sound
  none_test e = pick_no (in_being c p) (eqb (length l) 256 && eqb (above (drop v l)) 0) (eqb (length l) 0) e

  pub counted_sound : in_being c p ≡ true → length l ≡ 256 → above (drop v l) ≡ 0 → counts_sound v c p l ≡ true
  counted_sound e long none =
      counted_test e ∙ both (eqb (length l) 256) (eqb (above (drop v l)) 0) (eq-eqb (length l) 256 long) (eq-eqb (above (drop v l)) 0 none)

  pub none_sound : in_being c p ≡ false → l ≡ [] → counts_sound v c p l ≡ true
  none_sound e n = none_test e ∙ eq-eqb (length l) 0 (ap length n)

-- Counts are as well formed as others that are as long, with as many above 0 from V on.
pub counts_alike :
    (c d : Claims) (p v w : ℕ) (l m : List ℕ) → in_being d p ≡ in_being c p → length l ≡ length m → above (drop v l) ≡ above (drop w m)
    → counts_sound v d p l ≡ counts_sound w c p m
unfolding counts_sound
counts_alike c d p v w l m e a b = λ i. pick (e i) (eqb (a i) 256 && eqb (b i) 0) (eqb (a i) 0)

-- Of one in being.
pub record Being (c : Claims) (p : ℕ) : Type 0 where
  pub held : (principal_at c p).holder ≤ 7
  pub under : in_being c (parent_of c p) ≡ true
  pub reaches : leads_up c 0 p ≡ true

-- It has 256 counts, and counts no page at V or above.
pub record Counted (v : ℕ) (c : Claims) (p : ℕ) : Type 0 where
  pub long : length (counts_of c p) ≡ 256
  pub past : above (drop v (counts_of c p)) ≡ 0

module _ (c : Claims) (p : ℕ) (e : in_being c p ≡ true) where
  abbrev fits : Bool
  fits = leb (principal_at c p).holder 7 && in_being c (parent_of c p)

  being_facts : principal_sound c p (principal_at c p) ≡ true → Being c p
  being_facts s =
      let t = sym (being_test c p (principal_at c p) e) ∙ s in
      let a = and_left fits (leads_up c 0 p) t in
      let holder = and_left (leb (principal_at c p).holder 7) (in_being c (parent_of c p)) a in
      record {
        held = leb-true (principal_at c p).holder 7 holder;
        under = and_right (leb (principal_at c p).holder 7) (in_being c (parent_of c p)) a;
        reaches = and_right fits (leads_up c 0 p) t;
      }

  pub being_sound : Being c p → principal_sound c p (principal_at c p) ≡ true
  being_sound b =
      being_test c p (principal_at c p) e
      ∙ both fits (leads_up c 0 p)
      (both (leb (principal_at c p).holder 7) (in_being c (parent_of c p)) (le-leb (principal_at c p).holder 7 b.held) b.under) b.reaches

nobody_is : (q : Principal) → is_nobody q ≡ true → q ≡ nobody
nobody_is q e =
    let rest = eqb q.holder 0 && (eqb q.parent 0 && eqb q.unspent 0) in
    let a = not-true q.being (and_left (not q.being) rest e) in
    let t = and_right (not q.being) rest e in
    let u = and_right (eqb q.holder 0) (eqb q.parent 0 && eqb q.unspent 0) t in
    let b = eqb-true q.holder 0 (and_left (eqb q.holder 0) (eqb q.parent 0 && eqb q.unspent 0) t) in
    let d = eqb-true q.parent 0 (and_left (eqb q.parent 0) (eqb q.unspent 0) u) in
    let f = eqb-true q.unspent 0 (and_right (eqb q.parent 0) (eqb q.unspent 0) u) in
    λ i. principal (a i) (b i) (d i) (f i)

module _ (v : ℕ) (c : Claims) (s : claims_sound v c ≡ true) where
  -- All in being are below 32, and what is not is all 0.
  beyond : (p : ℕ) → 32 ≤ p → principal_at c p ≡ nobody
  unfolding principal_at
  beyond p h = get_or-eq_default c.principals nobody (omega (arith, h, (facts v c s).of_principals))

  beyond_counts : (p : ℕ) → 32 ≤ p → counts_of c p ≡ []
  unfolding counts_of
  beyond_counts p h = get_or-eq_default c.counts [] (omega (arith, h, (facts v c s).of_counts))

  pub being_below : (p : ℕ) → in_being c p ≡ true → p < 32
  being_below p e = go (ltb p 32) refl
    where
      go : (b : Bool) → ltb p 32 ≡ b → p < 32
      go true h = ltb-true p 32 h
      go false h = absurd (true≢false (sym e ∙ ap (λ q. q.being) (beyond p (ltb-false p 32 h))))

  pub nobody_at : (p : ℕ) → in_being c p ≡ false → principal_at c p ≡ nobody
  nobody_at p e = go (ltb p 32) refl
    where
      go : (b : Bool) → ltb p 32 ≡ b → principal_at c p ≡ nobody
      go true h = nobody_is (principal_at c p) (sym (nobody_test c p (principal_at c p) e) ∙ (facts v c s).principals p (ltb-true p 32 h))
      go false h = beyond p (ltb-false p 32 h)

  pub none_at : (p : ℕ) → in_being c p ≡ false → counts_of c p ≡ []
  none_at p e = go (ltb p 32) refl
    where
      go : (b : Bool) → ltb p 32 ≡ b → counts_of c p ≡ []
      go true h = empty (counts_of c p) (eqb-true (length (counts_of c p)) 0 (sym (none_test v c p (counts_of c p) e) ∙ (facts v c s).counts p (ltb-true p 32 h)))
      go false h = beyond_counts p (ltb-false p 32 h)

  pub uncounted : (p : ℕ) → in_being c p ≡ false → (page : ℕ) → count_of c p page ≡ 0
  uncounted p e page = ap (λ l. get_or l page 0) (none_at p e)

  pub being_at : (p : ℕ) → in_being c p ≡ true → Being c p
  being_at p e = being_facts c p e ((facts v c s).principals p (being_below p e))

  pub counted_at : (p : ℕ) → in_being c p ≡ true → Counted v c p
  counted_at p e =
      let l = counts_of c p in
      let own = sym (counted_test v c p l e) ∙ (facts v c s).counts p (being_below p e) in
      record {
        long = eqb-true (length l) 256 (and_left (eqb (length l) 256) (eqb (above (drop v l)) 0) own);
        past = eqb-true (above (drop v l)) 0 (and_right (eqb (length l) 256) (eqb (above (drop v l)) 0) own);
      }

  pub unspent_small : (p : ℕ) → p < 32 → unspent c p ≤ 8192
  unspent_small p h = omega (arith, summand 32 p (limit_of c) h, (facts v c s).of_limits)

  -- Principal 0 is party 0's, and its own parent.
  pub root_held : holds c 0 0 ≡ true
  root_held =
      let holder = eqb (principal_at c 0).holder 0 in
      let parent = eqb (parent_of c 0) 0 in
      let r = (facts v c s).root in
      both (in_being c 0) holder (and_left (in_being c 0) (holder && parent) r) (and_left holder parent (and_right (in_being c 0) (holder && parent) r))

  pub root_being : in_being c 0 ≡ true
  root_being = held_being c 0 0 root_held

  pub root_parent : parent_of c 0 ≡ 0
  root_parent =
      let rest = and_right (in_being c 0) (eqb (principal_at c 0).holder 0 && eqb (parent_of c 0) 0) (facts v c s).root in
      eqb-true (parent_of c 0) 0 (and_right (eqb (principal_at c 0).holder 0) (eqb (parent_of c 0) 0) rest)

  -- Every parent is in being; an entry of no principal has parent 0.
  pub parent_being : (p : ℕ) → in_being c (parent_of c p) ≡ true
  parent_being p = go (in_being c p) refl
    where
      go : (b : Bool) → in_being c p ≡ b → in_being c (parent_of c p) ≡ true
      go true e = (being_at p e).under
      go false e = ap (λ q. in_being c q.parent) (nobody_at p e) ∙ root_being

  pub holder_small : (p : ℕ) → (principal_at c p).holder ≤ 7
  holder_small p = go (in_being c p) refl
    where
      go : (b : Bool) → in_being c p ≡ b → (principal_at c p).holder ≤ 7
      go true e = (being_at p e).held
      go false e = subst (λ q. q.holder ≤ 7) (sym (nobody_at p e)) (omega arith)

-- A page that one in being counts is below V, and one of 256.
module _ (v : ℕ) (c : Claims) (p : ℕ) (k : Counted v c p) (page : ℕ) (h : 0 < count_of c p page) where
  pub counted_below : page < v
  counted_below = let z = past_it in omega (arith, z)
    where
      past_it : v ≤ page → ⊥
      past_it m =
          let s : v + (page - v) ≡ page = omega (arith, m) in
          let a = get_or-drop v (counts_of c p) (page - v) 0 in
          let b = zero_at (drop v (counts_of c p)) k.past (page - v) in
          let n = ap (λ i. count_of c p i) s in
          omega (arith, h, a, b, n)

  pub counted_within : page < 256
  counted_within = let z = past_it in omega (arith, z)
    where
      past_it : 256 ≤ page → ⊥
      past_it m =
          let l = k.long in
          let n : count_of c p page ≡ 0 = get_or-eq_default (counts_of c p) 0 (omega (arith, m, l)) in
          omega (arith, h, n)
