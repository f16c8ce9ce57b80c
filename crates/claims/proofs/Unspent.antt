-- Principals that are as they were but for their unspent limit. Assumes nothing.
use Prim.Native.Nat.{ℕ, ◌≤◌}
use mathlib.Core.Bool.{Bool, true, false, ◌&&◌}
use mathlib.Core.List.{List}
use mathlib.Core.Path.{◌≡◌, refl, sym, ap, subst, ◌∙◌}
use lib.Dec.{eqb}
use Rattle.claims.specs.Claims.{Claims, principal_at, in_being, holds, parent_of, leaving}
use Rattle.claims.specs.Tree.{leads_up}
use Rattle.claims.specs.Sound.{root_sound, principal_sound, counts_sound, claims_sound}
use Rattle.claims.proofs.Principals.{counts_alike, being_at, being_sound, nobody_at, nobody_sound, parent_being}
use Rattle.claims.proofs.Descent.{leads_same}

abbrev pub ButUnspent : Claims → Claims → ℕ → Type 0
ButUnspent c d q = leaving (principal_at d q) 0 ≡ leaving (principal_at c q) 0

-- All of them are.
abbrev pub SameTree : Claims → Claims → Type 0
SameTree c d = (q : ℕ) → ButUnspent c d q

module _ (c d : Claims) (q : ℕ) where
  pub but_unspent : (n : ℕ) → principal_at d q ≡ leaving (principal_at c q) n → ButUnspent c d q
  but_unspent n e = ap (λ x. leaving x 0) e

  module _ (same : ButUnspent c d q) where
    pub but_being : in_being d q ≡ in_being c q
    but_being = ap (λ x. x.being) same

    pub but_parent : parent_of d q ≡ parent_of c q
    but_parent = ap (λ x. x.parent) same

    pub but_holds : (party : ℕ) → holds d party q ≡ holds c party q
    but_holds party = ap (λ x. x.being && eqb x.holder party) same

    pub but_root : root_sound (principal_at d q) ≡ root_sound (principal_at c q)
    but_root = ap root_sound same

    pub but_counts : (v : ℕ) (l : List ℕ) → counts_sound v d q l ≡ counts_sound v c q l
    but_counts v l = counts_alike c d q v v l l but_being refl refl

-- Some of them are, each with its parent: these stay well formed, unless one that is not in being has something unspent.
module _ (v : ℕ) (c : Claims) (s : claims_sound v c ≡ true) (d : Claims) (P : ℕ → Type 0)
    (up : (q : ℕ) → in_being c q ≡ true → P q → P (parent_of c q)) (same : (q : ℕ) → P q → ButUnspent c d q) where
  pub still_leads : (q : ℕ) → in_being c q ≡ true → P q → leads_up d 0 q ≡ leads_up c 0 q
  still_leads q b h =
      leads_same c d (λ x. (in_being c x ≡ true) × P x) (λ x k. (parent_being v c s x, up x k.0 k.1)) (λ x k. but_parent c d x (same x k.1)) 31 0 q (b, h)

  pub still_sound : ((q : ℕ) → P q → in_being c q ≡ false → principal_at d q ≡ principal_at c q) → (q : ℕ) → P q → principal_sound d q (principal_at d q) ≡ true
  still_sound unused q h = go (in_being c q) refl
    where
      go : (b : Bool) → in_being c q ≡ b → principal_sound d q (principal_at d q) ≡ true
      go true e =
          let old = being_at v c s q e in
          being_sound d q (but_being c d q (same q h) ∙ e)
          (record {
            held = subst (λ x. x.holder ≤ 7) (sym (same q h)) old.held;
            under = ap (λ x. in_being d x) (but_parent c d q (same q h)) ∙ but_being c d (parent_of c q) (same (parent_of c q) (up q e h)) ∙ old.under;
            reaches = still_leads q e h ∙ old.reaches;
          })
      go false e = nobody_sound d q (principal_at d q) (unused q h e ∙ nobody_at v c s q e)
