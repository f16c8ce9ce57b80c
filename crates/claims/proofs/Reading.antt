-- One entry of the claims that numbers and counts read as, and the refusals by it. Assumes nothing.
use Prim.Native.Nat.{ℕ, ◌+◌, ◌<◌}
use mathlib.Core.Bool.{Bool, true, false, not, ◌&&◌, ◌||◌}
use mathlib.Core.List.{List, []}
use mathlib.Core.Path.{◌≡◌, refl, sym, ap, ◌∙◌}
use lib.ListN.{length, get_or, get_or-map}
use lib.Dec.{eqb, leb, ltb}
use borrow.Author.Tests.{eqb-true, eq-eqb}
use Rattle.capabilities.specs.Lists.{pick}
use Rattle.capabilities.specs.Refusals.{first}
use Rattle.capabilities.proofs.Lists.{map_each_at}
use Rattle.capabilities.proofs.Choice.{pick_yes, both, and_left, and_right}
use Rattle.claims.specs.declared.Principal.{Principal}
use Rattle.claims.specs.Claims.{Claims, principal_at, parent_of, counts_of, count_of, above, limit_of}
use Rattle.claims.specs.Operations.{create_reasons, claim_reasons, release_reasons, destroy_reasons}
use Rattle.claims.specs.Numbers.{principal_from, counts_read, claims_in, window, sized_in}
use Rattle.claims.specs.Lent.{principal_in, count_in}
use Rattle.claims.proofs.Laid.{get_d_window}
use Rattle.claims.proofs.Claimable.{two_clear, stopped, not_stopped}

-- As many numbers and counts as the machine's.
module _ (numbers counts : List ℕ) (sized : sized_in numbers counts ≡ true) where
  pub of_numbers : length numbers ≡ 32
  of_numbers = eqb-true (length numbers) 32 (and_left (eqb (length numbers) 32) (eqb (length counts) 8192) sized)

  pub of_counts : length counts ≡ 8192
  of_counts = eqb-true (length counts) 8192 (and_right (eqb (length numbers) 32) (eqb (length counts) 8192) sized)

pub sized_choice : (numbers counts : List ℕ) (x : ℕ) → length numbers ≡ 32 → length counts ≡ 8192 → pick (sized_in numbers counts) x 1 ≡ x
sized_choice numbers counts x n k = pick_yes (sized_in numbers counts) x 1 (both (eqb (length numbers) 32) (eqb (length counts) 8192) (eq-eqb (length numbers) 32 n) (eq-eqb (length counts) 8192 k))

module _ (numbers counts : List ℕ) (p : ℕ) where
  pub principal_read : principal_at (claims_in numbers counts) p ≡ principal_in numbers p
  unfolding principal_at principal_from
  principal_read = get_or-map principal_from numbers p 0

  pub counts_read_lem : counts_of (claims_in numbers counts) p ≡ counts_read counts p (get_or numbers p 0)
  unfolding counts_of
  counts_read_lem = map_each_at (counts_read counts) 0 [] (λ i. unfold counts_read principal_from in refl) numbers p

  -- The parent that a number says.
  pub parent_read : (q : Principal) → q ≡ principal_in numbers p → parent_of (claims_in numbers counts) p ≡ q.parent
  parent_read q e = ap (λ (x : Principal). x.parent) (principal_read ∙ sym e)

  -- The count of a principal in being stands in its window.
  pub count_read : (page : ℕ) → page < 256 → count_of (claims_in numbers counts) p page ≡ pick (principal_in numbers p).being (count_in counts p page) 0
  unfolding counts_read
  count_read page h = ap (λ (l : List ℕ). get_or l page 0) counts_read_lem ∙ go (principal_in numbers p).being
    where
      go : (b : Bool) → get_or (pick b (window counts p) []) page 0 ≡ pick b (count_in counts p page) 0
      go true = get_d_window counts p page h
      go false = refl

  pub limit_read : limit_of (claims_in numbers counts) p ≡ pick (principal_in numbers p).being (above (window counts p)) 0 + (principal_in numbers p).unspent
  unfolding counts_read
  limit_read =
      ap (λ (l : List ℕ). above l + (principal_at (claims_in numbers counts) p).unspent) counts_read_lem
      ∙ ap (λ (q : Principal). above (counts_read counts p (get_or numbers p 0)) + q.unspent) principal_read
      ∙ ap (λ (n : ℕ). n + (principal_in numbers p).unspent) (go (principal_in numbers p).being)
    where
      go : (b : Bool) → above (pick b (window counts p) []) ≡ pick b (above (window counts p)) 0
      go true = refl
      go false = unfold above in refl

-- The refusals by the principals and the count that they are judged by.
abbrev holding : ℕ → Principal → Bool
holding party q = q.being && eqb q.holder party

abbrev pub create_code : ℕ → Principal → Principal → ℕ → ℕ → ℕ
create_code party from to child limit = pick (not (holding party from) || (to.being || leb 32 child)) 20 (pick (ltb from.unspent limit) 21 0)

abbrev pub claim_code : ℕ → Principal → ℕ → ℕ
claim_code party q n = pick (not (holding party q)) 20 (pick ((eqb n 0 && eqb q.unspent 0) || leb 65535 n) 21 0)

abbrev pub release_code : ℕ → Principal → ℕ → ℕ
release_code party q n = pick (not (holding party q)) 20 (pick (eqb n 0) 21 0)

abbrev pub destroy_code : ℕ → ℕ → Principal → Principal → ℕ
destroy_code party p q parent = pick (not (q.being && (not (eqb p 0) && holding party parent))) 20 0

module _ (numbers counts : List ℕ) (party : ℕ) where
  abbrev all : Claims
  all = claims_in numbers counts

  pub create_read : (parent child limit : ℕ)
      → first (create_reasons all party parent child limit) ≡ create_code party (principal_in numbers parent) (principal_in numbers child) child limit
  unfolding create_reasons first
  create_read parent child limit =
      ap (λ (q : Principal). create_code party q (principal_at all child) child limit) (principal_read numbers counts parent)
      ∙ ap (λ (q : Principal). create_code party (principal_in numbers parent) q child limit) (principal_read numbers counts child)

  pub destroy_read : (p : ℕ) → first (destroy_reasons all party p) ≡ destroy_code party p (principal_in numbers p) (principal_in numbers (principal_in numbers p).parent)
  unfolding destroy_reasons first
  destroy_read p =
      ap (λ (q : Principal). destroy_code party p q (principal_at all q.parent)) (principal_read numbers counts p)
      ∙ ap (destroy_code party p (principal_in numbers p)) (principal_read numbers counts (principal_in numbers p).parent)

  -- Whoever is not in being has no count, and is refused by its holder.
  module _ (p page : ℕ) (h : page < 256) where
    counted :
        (code : ℕ → ℕ) → pick (not (holding party (principal_in numbers p))) 20 (code (count_of all p page))
        ≡ pick (not (holding party (principal_in numbers p))) 20 (code (count_in counts p page))
    counted code =
        ap (λ (n : ℕ). pick (not (holding party (principal_in numbers p))) 20 (code n)) (count_read numbers counts p page h)
        ∙ go (principal_in numbers p).being (eqb (principal_in numbers p).holder party)
      where
        go : (b held : Bool) → pick (not (b && held)) 20 (code (pick b (count_in counts p page) 0)) ≡ pick (not (b && held)) 20 (code (count_in counts p page))
        go true held = refl
        go false held = refl

    pub claim_read : first (claim_reasons all party p page) ≡ claim_code party (principal_in numbers p) (count_in counts p page)
    unfolding claim_reasons first
    claim_read =
        ap (λ (q : Principal). claim_code party q (count_of all p page)) (principal_read numbers counts p)
        ∙ counted (λ (n : ℕ). pick (stopped n (principal_in numbers p).unspent) 21 0)

    pub release_read : first (release_reasons all party p page) ≡ release_code party (principal_in numbers p) (count_in counts p page)
    unfolding release_reasons first
    release_read =
        ap (λ (q : Principal). release_code party q (count_of all p page)) (principal_read numbers counts p) ∙ counted (λ (n : ℕ). pick (eqb n 0) 21 0)

-- A granted claim finds a count below 65,535.
pub claim_room : (party : ℕ) (q : Principal) (n : ℕ) → claim_code party q n ≡ 0 → n < 65535
unfolding first
claim_room party q n e = (not_stopped n q.unspent (two_clear (not (holding party q)) (stopped n q.unspent) e).1).1
