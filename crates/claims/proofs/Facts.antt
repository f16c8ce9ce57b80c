-- Well-formed claims as plain facts, and the way back. Assumes nothing.
use Prim.Native.Nat.{ℕ, ◌<◌}
use native.Mathlib.Nat.{zero-add}
use mathlib.Core.Bool.{Bool, true, ◌&&◌}
use mathlib.Core.List.{[]}
use mathlib.Core.Path.{◌≡◌, subst}
use lib.ListN.{length}
use lib.Dec.{eqb}
use borrow.Author.Tests.{eqb-true, eq-eqb}
use Rattle.capabilities.specs.Lists.{each}
use Rattle.capabilities.proofs.Choice.{and_left, and_right, both}
use Rattle.capabilities.proofs.Lists.{each_at, each_all}
use Rattle.claims.specs.Claims.{Claims, nobody, principal_at, counts_of}
use Rattle.claims.specs.Sound.{principal_sound, root_sound, counts_sound, total, sized_claims, claims_sound}

pub record Facts (v : ℕ) (c : Claims) : Type 0 where
  pub of_principals : length c.principals ≡ 32
  pub of_counts : length c.counts ≡ 32
  pub root : root_sound (principal_at c 0) ≡ true
  pub principals : (p : ℕ) → p < 32 → principal_sound c p (principal_at c p) ≡ true
  pub counts : (p : ℕ) → p < 32 → counts_sound v c p (counts_of c p) ≡ true
  pub of_limits : total c ≡ 8192

module _ (v : ℕ) (c : Claims) where
  abbrev front : Bool
  front = (sized_claims c && root_sound (principal_at c 0)) && each (principal_sound c) 0 c.principals

  abbrev back : Bool
  back = each (counts_sound v c) 0 c.counts && eqb (total c) 8192

  pub facts : claims_sound v c ≡ true → Facts v c
  unfolding claims_sound principal_at counts_of
  facts e =
      let head = and_left (sized_claims c && root_sound (principal_at c 0)) (each (principal_sound c) 0 c.principals) (and_left front back e) in
      let size = and_left (sized_claims c) (root_sound (principal_at c 0)) head in
      let long = eqb-true (length c.principals) 32 (and_left (eqb (length c.principals) 32) (eqb (length c.counts) 32) size) in
      let many = eqb-true (length c.counts) 32 (and_right (eqb (length c.principals) 32) (eqb (length c.counts) 32) size) in
      let all = and_right (sized_claims c && root_sound (principal_at c 0)) (each (principal_sound c) 0 c.principals) (and_left front back e) in
      let rest = and_right front back e in
      record {
        of_principals = long;
        of_counts = many;
        root = and_right (sized_claims c) (root_sound (principal_at c 0)) head;
        principals = λ p h. rw zero-add at (each_at (principal_sound c) 0 c.principals p nobody (rw long h) all);
        counts = λ p h. rw zero-add at (each_at (counts_sound v c) 0 c.counts p [] (rw many h) (and_left (each (counts_sound v c) 0 c.counts) (eqb (total c) 8192) rest));
        of_limits = eqb-true (total c) 8192 (and_right (each (counts_sound v c) 0 c.counts) (eqb (total c) 8192) rest);
      }

  pub sound : Facts v c → claims_sound v c ≡ true
  unfolding claims_sound principal_at counts_of
  sound f =
      both front back
      (both (sized_claims c && root_sound (principal_at c 0)) (each (principal_sound c) 0 c.principals)
      (both (sized_claims c) (root_sound (principal_at c 0)) (both (eqb (length c.principals) 32) (eqb (length c.counts) 32) (eq-eqb (length c.principals) 32 f.of_principals) (eq-eqb (length c.counts) 32 f.of_counts)) f.root)
      (each_all (principal_sound c) 0 c.principals nobody (λ p h. rw zero-add (f.principals p (subst (λ n. p < n) f.of_principals h)))))
      (both (each (counts_sound v c) 0 c.counts) (eqb (total c) 8192)
      (each_all (counts_sound v c) 0 c.counts [] (λ p h. rw zero-add (f.counts p (subst (λ n. p < n) f.of_counts h))))
      (eq-eqb (total c) 8192 f.of_limits))
