-- One count changed where what is unspent changes by as much as what is spent: limits stay, and claims stay well formed. Assumes nothing.
use Prim.Native.Nat.{ℕ, ◌+◌, ◌<◌}
use native.Mathlib.Omega.{arith}
use mathlib.Core.Bool.{true}
use mathlib.Core.Path.{◌≡◌, refl, sym, ap, ◌∙◌, subst}
use lib.ListN.{length, set, length-set}
use lib.Seq.{drop-set-lt}
use Rattle.claims.specs.Claims.{Claims, principal_at, in_being, parent_of, unspent, counts_of, count_of, above, spent, limit_of, one}
use Rattle.claims.specs.Sound.{principal_sound, counts_sound, claims_sound}
use Rattle.claims.proofs.Facts.{facts, sound}
use Rattle.claims.proofs.Sums.{sum_same}
use Rattle.claims.proofs.Counting.{above_set}
use Rattle.claims.proofs.Principals.{counts_alike, apart}
use Rattle.claims.proofs.Entries.{one_or_other}
use Rattle.claims.proofs.Unspent.{ButUnspent, SameTree, but_root, but_counts, still_sound}
use Rattle.claims.proofs.Changed.{changed, changed_tree, changed_principals, changed_lists, changed_it, changed_else, changed_counts, changed_counts_else}
use Rattle.claims.proofs.Changed.{changed_count, changed_limit, changed_twice, changed_back}

-- The second claims are the first with the principal's count of the page at n. The principal and the page have entries.
pub record Change (c : Claims) (p page n : ℕ) (d : Claims) : Type 0 where
  pub placed : p < length c.principals
  pub within : page < length (counts_of c p)
  pub left : ℕ
  pub is : d ≡ changed c p page left n
  pub balance : one n + left ≡ one (count_of c p page) + unspent c p

module _ (c : Claims) (p page n : ℕ) (d : Claims) (t : Change c p page n d) where
  pub change_tree : SameTree c d
  change_tree = subst (SameTree c) (sym t.is) (changed_tree c p page t.left n)

  pub change_count : count_of d p page ≡ n
  change_count = ap (λ x. count_of x p page) t.is ∙ changed_count c p page t.left n t.within

  pub change_unspent : unspent d p ≡ t.left
  change_unspent = ap (λ x. unspent x p) t.is ∙ ap (λ q. q.unspent) (changed_it c p page t.left n t.placed)

  pub change_limit : (q : ℕ) → limit_of d q ≡ limit_of c q
  change_limit q = ap (λ x. limit_of x q) t.is ∙ changed_limit c p page t.left n t.placed t.within t.balance q

  pub change_spent : spent d p + one (count_of c p page) ≡ spent c p + one n
  change_spent =
      ap (λ x. spent x p + one (count_of c p page)) t.is ∙ ap (λ l. above l + one (count_of c p page)) (changed_counts c p page t.left n)
      ∙ above_set (counts_of c p) page n t.within

  pub change_placed : p < length d.principals
  change_placed =
      let h = t.placed in
      let l = ap (λ x. length x.principals) t.is in
      let m = changed_principals c p page t.left n in
      omega (arith, h, l, m)

  pub change_within : page < length (counts_of d p)
  change_within =
      let h = t.within in
      let l = ap (λ x. length (counts_of x p)) t.is in
      let m = ap (λ x. length x) (changed_counts c p page t.left n) in
      let o = length-set (counts_of c p) page n in
      omega (arith, h, l, m, o)

  -- Changed back.
  pub change_undone : (e : Claims) (m : ℕ) → m ≡ count_of c p page → Change d p page m e → e ≡ c
  change_undone e m h w =
      w.is ∙ ap (λ x. changed x p page w.left m) t.is ∙ changed_twice c p page t.left n w.left m
      ∙ ap (λ x. changed c p page x m) balanced ∙ ap (λ x. changed c p page (unspent c p) x) h ∙ changed_back c p page
    where
      balanced : w.left ≡ unspent c p
      balanced =
          let a = t.balance in
          let b = w.balance in
          let g = change_unspent in
          let k = ap one change_count in
          let l = ap one h in
          omega (arith, a, b, g, k, l)

  module _ (v : ℕ) (s : claims_sound v c ≡ true) (b : in_being c p ≡ true) where
    principals_sound : (q : ℕ) → principal_sound d q (principal_at d q) ≡ true
    principals_sound q =
        still_sound v c s d (ButUnspent c d) (λ r e h. change_tree (parent_of c r)) (λ r h. h)
        (λ r h e. ap (λ x. principal_at x r) t.is ∙ changed_else c p page t.left n r (λ i. apart c p r b e (sym i)))
        q (change_tree q)

    lists_alike : page < v → (q : ℕ) → counts_sound v c q (counts_of d q) ≡ counts_sound v c q (counts_of c q)
    lists_alike h q =
        ap (λ x. counts_sound v c q (counts_of x q)) t.is
        ∙ one_or_other (λ q. counts_sound v c q (counts_of (changed c p page t.left n) q) ≡ counts_sound v c q (counts_of c q)) p
        (ap (counts_sound v c p) (changed_counts c p page t.left n)
        ∙ counts_alike c c p v v (set (counts_of c p) page n) (counts_of c p) refl (length-set (counts_of c p) page n) (ap above (drop-set-lt v (counts_of c p) page n h)))
        (λ q w. ap (counts_sound v c q) (changed_counts_else c p page t.left n q w)) q

    pub change_sound : page < v → claims_sound v d ≡ true
    change_sound h = sound v d (record {
      of_principals = ap (λ x. length x.principals) t.is ∙ changed_principals c p page t.left n ∙ (facts v c s).of_principals;
      of_counts = ap (λ x. length x.counts) t.is ∙ changed_lists c p page t.left n ∙ (facts v c s).of_counts;
      root = but_root c d 0 (change_tree 0) ∙ (facts v c s).root;
      principals = λ q l. principals_sound q;
      counts = λ q l. but_counts c d q (change_tree q) v (counts_of d q) ∙ lists_alike h q ∙ (facts v c s).counts q l;
      of_limits = sum_same 32 (limit_of d) (limit_of c) (λ q l. change_limit q) ∙ (facts v c s).of_limits;
    })
