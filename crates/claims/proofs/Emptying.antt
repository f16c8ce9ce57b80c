-- A principal's holder can release a page as often as the principal counts it, and then no count is left. Assumes nothing.
use Prim.Native.Nat.{ℕ, zero, suc, ◌+◌, ◌-◌, ◌<◌, ◌≤◌}
use native.Mathlib.Omega.{arith}
use mathlib.Core.Bool.{true, false}
use mathlib.Core.Path.{◌≡◌, refl, ◌∙◌}
use Rattle.capabilities.specs.Refusals.{first}
use Rattle.claims.specs.Claims.{Claims, in_being, holds, count_of, limit_of, claimed}
use Rattle.claims.specs.Operations.{release_reasons, release_of}
use Rattle.claims.specs.Sound.{claims_sound}
use Rattle.claims.proofs.Counting.{unclaimed}
use Rattle.claims.proofs.Entries.{one_or_other}
use Rattle.claims.proofs.Unspent.{SameTree, but_being, but_holds}
use Rattle.claims.proofs.Balanced.{change_tree}
use Rattle.claims.proofs.Principals.{uncounted, root_held}
use Rattle.claims.proofs.Claimable.{release_free}
use Rattle.claims.proofs.KeptCounts.{release_granted, release_sound, release_counts, release_others, release_limit}

-- A step taken so many times.
unfoldable pub repeated : ℕ → (Claims → Claims) → Claims → Claims
repeated zero f c = c
repeated (suc n) f c = f (repeated n f c)

-- The claims after so many releases of a page.
abbrev pub released : ℕ → Claims → ℕ → ℕ → Claims
released n c p page = repeated n (λ d. release_of d p page) c

-- What they are then.
pub record Lowered (v : ℕ) (c : Claims) (p page n : ℕ) (d : Claims) : Type 0 where
  pub kept : claims_sound v d ≡ true
  pub tree : SameTree c d
  pub count : count_of d p page + n ≡ count_of c p page
  pub others : (q k : ℕ) → ((q ≡ p) × (k ≡ page) → ⊥) → count_of d q k ≡ count_of c q k
  pub limits : (q : ℕ) → limit_of d q ≡ limit_of c q

module _ (v : ℕ) (c : Claims) (s : claims_sound v c ≡ true) (party p : ℕ) (h : holds c party p ≡ true) (page : ℕ) where
  -- While a count is left, the next release is granted.
  next : (n : ℕ) (d : Claims) → n < count_of c p page → Lowered v c p page n d → first (release_reasons d party p page) ≡ 0
  next n d l t = release_free d party p page (record {
    held = but_holds c d p (t.tree p) party ∙ h;
    some = let e = t.count in omega (arith, l, e);
  })

  lower : (n : ℕ) (d : Claims) → n < count_of c p page → Lowered v c p page n d → Lowered v c p page (suc n) (release_of d p page)
  lower n d l t =
      let r = next n d l t in
      let w = change_tree d p page (count_of d p page - 1) (release_of d p page) (release_granted v d t.kept party p page r) in
      record {
        kept = release_sound v d t.kept party p page r;
        tree = λ q. w q ∙ t.tree q;
        count = let e = t.count in let m = release_counts v d t.kept party p page r in omega (arith, e, m);
        others = λ q k o. release_others d p page q k o ∙ t.others q k o;
        limits = λ q. release_limit v d t.kept party p page r q ∙ t.limits q;
      }

  pub lowered : (n : ℕ) → n ≤ count_of c p page → Lowered v c p page n (released n c p page)
  unfolding repeated
  lowered zero l = record {
    kept = s;
    tree = λ q. refl;
    count = omega arith;
    others = λ q k o. refl;
    limits = λ q. refl;
  }
  lowered (suc n) l = lower n (released n c p page) (omega (arith, l)) (lowered n (omega (arith, l)))

  pub grants : (n : ℕ) → n < count_of c p page → first (release_reasons (released n c p page) party p page) ≡ 0
  grants n l = next n (released n c p page) l (lowered n (omega (arith, l)))

-- No principal but 0 is in being.
abbrev pub Alone : Claims → Type 0
Alone c = (q : ℕ) → (q ≡ 0 → ⊥) → in_being c q ≡ false

-- Party 0 releases a page as often as principal 0 counts it.
pub record Emptied (v : ℕ) (c : Claims) (page : ℕ) (d : Claims) : Type 0 where
  pub granted : (n : ℕ) → n < count_of c 0 page → first (release_reasons (released n c 0 page) 0 0 page) ≡ 0
  pub kept : claims_sound v d ≡ true
  pub alone : Alone d
  pub none : count_of d 0 page ≡ 0
  pub others : (q k : ℕ) → ((q ≡ 0) × (k ≡ page) → ⊥) → count_of d q k ≡ count_of c q k
  pub no_claim : claimed d page ≡ false

module _ (v : ℕ) (c : Claims) (s : claims_sound v c ≡ true) where
  pub release_all : Alone c → (page : ℕ) → Emptied v c page (released (count_of c 0 page) c 0 page)
  release_all a page = record {
    granted = grants v c s 0 0 (root_held v c s) page;
    kept = t.kept;
    alone = still;
    none = nothing;
    others = t.others;
    no_claim = unclaimed d page (one_or_other (λ q. count_of d q page ≡ 0) 0 nothing (λ q o. uncounted v d t.kept q (still q o) page));
  }
    where
      d : Claims
      d = released (count_of c 0 page) c 0 page

      t : Lowered v c 0 page (count_of c 0 page) d
      t = lowered v c s 0 0 (root_held v c s) page (count_of c 0 page) (omega arith)

      nothing : count_of d 0 page ≡ 0
      nothing = let e = t.count in omega (arith, e)

      still : Alone d
      still q o = but_being c d q (t.tree q) ∙ a q o
