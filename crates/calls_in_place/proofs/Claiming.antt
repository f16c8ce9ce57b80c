-- 12 to 15 in place: what the claims' function leaves is what the rules say. Assumes nothing.
use Prim.Native.Nat.{ℕ, ◌+◌, ◌-◌, ◌*◌, ◌<◌}
use native.Mathlib.Omega.{arith}
use mathlib.Core.Bool.{true, ◌||◌}
use mathlib.Core.List.{List}
use mathlib.Core.Path.{◌≡◌, refl, sym, ap, ap₂, ◌∙◌}
use lib.ListN.{set}
use lib.Dec.{leb}
use Rattle.std.specs.Prelude.{Result, Ok, Err, is_ok}
use Rattle.capabilities.specs.Lists.{pick}
use Rattle.capabilities.specs.Refusals.{first, code, number_of}
use Rattle.capabilities.specs.declared.refusal.Refusal.{Refusal}
use Rattle.capabilities.proofs.Choice.{pick_yes, pick_no, pick_twice, and_left}
use Rattle.capabilities.proofs.Refusals.{number_some}
use Rattle.pages.specs.declared.VirtualPage.{VirtualPage}
use Rattle.claims.specs.Claims.{Claims, claimed}
use Rattle.claims.specs.Operations.{create_reasons, create_of, claim_reasons, claim_of, release_reasons, release_of, destroy_reasons, destroy_of}
use Rattle.claims.specs.Numbers.{claims_in, laid, sized_in, sound_in}
use Rattle.claims.specs.Numbers.{numbers_of as claim_numbers}
use Rattle.claims.specs.Lent.{count_in, created_in, claimed_in, released_in, destroyed_in, cleared_in, any_counts}
use Rattle.claims.proofs.OnNumbers.{create_put, create_laid, claim_put, claim_laid, release_put, release_laid, destroy_put, destroy_laid, claimed_in_lem}
use Rattle.reservations.specs.Core.{with_claims as coreClaims}
use Rattle.calls.specs.declared.Call.{Call}
use Rattle.calls.specs.declared.Call.TheVariants.{Create, Claim, Release, Destroy}
use Rattle.words.specs.Words.{empty}
use Rattle.words.specs.WordReasons.{unnamed}
use Rattle.machine.specs.Reasons.{reasons}
use Rattle.machine.specs.Effects.{effect, claims_change}
use Rattle.machine.specs.Step.{reasons_on, effect_on, ruled}
use Rattle.arrays.specs.declared.Arrays.{Arrays}
use Rattle.arrays.specs.Reading.{core_of, state_of, Formed}
use Rattle.arrays.specs.Steps.{answer, leaving, left_of, with_claims}
use Rattle.arrays.proofs.Writing.{put_claims}
use Rattle.arrays.proofs.Ruling.{down, cored}
use Rattle.arrays.proofs.Facts.{claims_pass}
use Rattle.calls_in_place.proofs.Early.{Checked, unknown, known, CheckedTwo, early, late}

module _ (b : Arrays) (f : Formed b) where
  abbrev x : Claims
  x = claims_in b.principals b.counts

  sound : sound_in b.nums.v b.principals b.counts ≡ true
  sound = claims_pass b f

  -- 22: the counts say whether a page has a claim.
  pub claimed_is : (page : ℕ) → page < 256 → claimed (state_of b).core.claims page ≡ any_counts 32 b.counts page
  unfolding state_of core_of
  claimed_is page low = claimed_in_lem b.nums.v b.principals b.counts sound page low

  module _ (cells tags : List ℕ) where
    -- A call that changes the claims alone: refused, or the new claims written.
    module _ (call : Call) (y : Claims) (g : effect_on (state_of b) call cells tags ≡ claims_change (state_of b).core y) where
      claims_left : (r : Result Unit Refusal) → code r ≡ first (reasons_on (state_of b) call cells tags)
          → (put cleared principals counts : List ℕ) → (code r ≡ 0 → claim_numbers y ≡ put) → (code r ≡ 0 → laid y.counts ≡ cleared)
          → principals ≡ pick (is_ok r) put b.principals → counts ≡ pick (is_ok r) cleared b.counts
          → leaving (answer (code r) empty) (with_claims b principals counts) cells tags ≡ left_of (ruled (state_of b) call cells tags)
      claims_left (Ok _) e put cleared principals counts p l u w =
          ap₂ (λ (n m : List ℕ). leaving (answer 0 empty) (with_claims b n m) cells tags) (u ∙ sym (p refl)) (w ∙ sym (l refl))
          ∙ cored b f call cells tags 0 e (coreClaims (state_of b).core y) _ refl g (put_claims b f.kept y)
      claims_left (Err r) e put cleared principals counts p l u w =
          ap₂ (λ (n m : List ℕ). leaving (answer (number_of r) empty) (with_claims b n m) cells tags) u w
          ∙ down b f call cells tags (number_of r) e (number_some r)

    -- 12.
    module _ (party parent child limit holder : ℕ) where
      abbrev create : Call
      create = Create party parent child limit holder

      pub create_unknown : (r : Refusal) → Checked (number_of r) (unnamed party || unnamed holder)
          → leaving (answer (number_of r) empty) b cells tags ≡ left_of (ruled (state_of b) create cells tags)
      unfolding reasons first
      create_unknown r e = down b f create cells tags (number_of r) (unknown (unnamed party || unnamed holder) r _ e) (number_some r)

      pub create_left : Checked 0 (unnamed party || unnamed holder)
          → (r : Result Unit Refusal) → code r ≡ first (create_reasons (claims_in b.principals b.counts) party parent child limit)
          → (principals : List ℕ) → principals ≡ pick (is_ok r) (created_in b.principals parent child limit holder) b.principals
          → leaving (answer (code r) empty) (with_claims b principals b.counts) cells tags ≡ left_of (ruled (state_of b) create cells tags)
      unfolding reasons first effect state_of core_of
      create_left passed r told principals w =
          claims_left create (create_of x parent child limit holder) refl
          r (told ∙ sym (pick_no (unnamed party || unnamed holder) 4 _ (known (unnamed party || unnamed holder) passed)))
          (created_in b.principals parent child limit holder) b.counts principals b.counts
          (λ z. create_put b.nums.v b.principals b.counts sound party parent child limit holder (sym told ∙ z))
          (λ z. create_laid b.nums.v b.principals b.counts sound party parent child limit holder (sym told ∙ z)) w (sym (pick_twice (is_ok r) b.counts))

    -- 13 and 14.
    module _ (v : ℕ) (ev : b.nums.v ≡ v) (party p : ℕ) (page : VirtualPage) where
      abbrev Early : ℕ → Type 0
      Early k = CheckedTwo k (unnamed party) (leb v page.0) 12

      early_is : (k : ℕ) → Early k → CheckedTwo k (unnamed party) (leb b.nums.v page.0) 12
      early_is k e = e ∙ ap (λ n. pick (unnamed party) 4 (pick (leb n page.0) 12 0)) (sym ev)

      pub claim_early : (r : Refusal) → Early (number_of r) → leaving (answer (number_of r) empty) b cells tags ≡ left_of (ruled (state_of b) (Claim party p page) cells tags)
      unfolding reasons first state_of core_of
      claim_early r e = down b f (Claim party p page) cells tags (number_of r) (early (unnamed party) (leb b.nums.v page.0) 12 r _ (early_is _ e)) (number_some r)

      pub release_early : (r : Refusal) → Early (number_of r) → leaving (answer (number_of r) empty) b cells tags ≡ left_of (ruled (state_of b) (Release party p page) cells tags)
      unfolding reasons first state_of core_of
      release_early r e = down b f (Release party p page) cells tags (number_of r) (early (unnamed party) (leb b.nums.v page.0) 12 r _ (early_is _ e)) (number_some r)

      module _ (passed : Early 0) (low : page.0 < 256) (r : Result Unit Refusal) (principals counts : List ℕ) where
        after : (rest : ℕ) → rest ≡ pick (unnamed party) 4 (pick (leb b.nums.v page.0) 12 rest)
        after rest = late (unnamed party) (leb b.nums.v page.0) 12 (λ n. omega (arith, n)) rest (early_is 0 passed)

        pub claim_left : code r ≡ first (claim_reasons (claims_in b.principals b.counts) party p page.0)
            → principals ≡ pick (is_ok r) (claimed_in b.principals p (count_in b.counts p page.0)) b.principals
            → counts ≡ pick (is_ok r) (set b.counts (256 * p + page.0) (count_in b.counts p page.0 + 1)) b.counts
            → leaving (answer (code r) empty) (with_claims b principals counts) cells tags ≡ left_of (ruled (state_of b) (Claim party p page) cells tags)
        unfolding reasons first effect state_of core_of
        claim_left told u w =
            claims_left (Claim party p page) (claim_of x p page.0) refl r (told ∙ after _) _ _ principals counts
            (λ o. claim_put b.nums.v b.principals b.counts sound party p page.0 low (sym told ∙ o))
            (λ o. claim_laid b.nums.v b.principals b.counts sound party p page.0 low (sym told ∙ o)) u w

        pub release_left : code r ≡ first (release_reasons (claims_in b.principals b.counts) party p page.0)
            → principals ≡ pick (is_ok r) (released_in b.principals p (count_in b.counts p page.0)) b.principals
            → counts ≡ pick (is_ok r) (set b.counts (256 * p + page.0) (count_in b.counts p page.0 - 1)) b.counts
            → leaving (answer (code r) empty) (with_claims b principals counts) cells tags ≡ left_of (ruled (state_of b) (Release party p page) cells tags)
        unfolding reasons first effect state_of core_of
        release_left told u w =
            claims_left (Release party p page) (release_of x p page.0) refl r (told ∙ after _) _ _ principals counts
            (λ o. release_put b.nums.v b.principals b.counts sound party p page.0 low (sym told ∙ o))
            (λ o. release_laid b.nums.v b.principals b.counts sound party p page.0 low (sym told ∙ o)) u w

    -- 15.
    module _ (party p : ℕ) where
      pub destroy_unknown : (r : Refusal) → Checked (number_of r) (unnamed party)
          → leaving (answer (number_of r) empty) b cells tags ≡ left_of (ruled (state_of b) (Destroy party p) cells tags)
      unfolding reasons first
      destroy_unknown r e = down b f (Destroy party p) cells tags (number_of r) (unknown (unnamed party) r _ e) (number_some r)

      sized : sized_in b.principals b.counts ≡ true
      unfolding sound_in
      sized = and_left (sized_in b.principals b.counts) _ sound

      pub destroy_left : Checked 0 (unnamed party) → (r : Result Unit Refusal)
          → code r ≡ pick (sized_in b.principals b.counts) (first (destroy_reasons (claims_in b.principals b.counts) party p)) 1
          → (principals counts : List ℕ) → principals ≡ pick (is_ok r) (destroyed_in b.principals b.counts p) b.principals
          → counts ≡ pick (is_ok r) (cleared_in b.principals b.counts p) b.counts
          → leaving (answer (code r) empty) (with_claims b principals counts) cells tags ≡ left_of (ruled (state_of b) (Destroy party p) cells tags)
      unfolding reasons first effect state_of core_of
      destroy_left passed r told principals counts w o =
          let judged = told ∙ pick_yes (sized_in b.principals b.counts) _ 1 sized in
          claims_left (Destroy party p) (destroy_of x p) refl r (judged ∙ sym (pick_no (unnamed party) 4 _ (known (unnamed party) passed))) _ _ principals counts
          (λ z. destroy_put b.nums.v b.principals b.counts sound party p (sym judged ∙ z))
          (λ z. destroy_laid b.nums.v b.principals b.counts sound party p (sym judged ∙ z)) w o
