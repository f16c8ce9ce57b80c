-- The principals right below 0 are destroyed and the claims of 0 are released, so that the claims are those of a fresh start; the table and
-- the pages are as they were. Assumes nothing.
use Prim.Native.Nat.{ℕ, zero, suc, ◌<◌, ◌≤◌}
use native.Mathlib.Omega.{arith}
use mathlib.Core.Bool.{Bool, true, false}
use mathlib.Core.List.{List}
use mathlib.Core.Path.{◌≡◌, refl, sym, ap, subst, ◌∙◌}
use borrow.Author.Tests.{eqb-true, eqb-false, ltb-true, ltb-false, lt-leb}
use lib.Dec.{eqb, ltb}
use lib.ListN.{replicate}
use Rattle.capabilities.specs.Refusals.{first}
use Rattle.claims.specs.Claims.{Claims, count_of}
use Rattle.claims.specs.Operations.{destroy_reasons, destroy_of, release_reasons, release_of}
use Rattle.claims.specs.Sound.{claims_sound, fresh_claims}
use Rattle.claims.proofs.Principals.{root_being, counted_at, counted_below}
use Rattle.claims.proofs.Emptying.{repeated, released, Alone, Emptied, release_all}
use Rattle.reservations.specs.Core.{Core}
use Rattle.calls.specs.declared.Call.{Call}
use Rattle.calls.specs.declared.Call.TheVariants.{Release, Destroy}
use Rattle.calls.specs.Commands.{page}
use Rattle.machine.specs.State.{State}
use Rattle.machine.specs.Effects.{with_claims, claims_change, effect}
use Rattle.machine.specs.Reasons.{reasons}
use Rattle.machine.specs.Step.{done, reasons_on, effect_on}
use Rattle.histories.specs.Runs.{Machine, Granted, next, run}
use Rattle.histories.specs.Forming.{Standing}
use Rattle.histories.specs.Restoring.{each_below, many_below, top_at, destroying, releasing, unclaiming}
use Rattle.histories.proofs.Granted.{went, went_next}
use Rattle.histories.proofs.Forming.{standing_claims, standing_code, standing_next}
use Rattle.histories.proofs.Leading.{Leads, leads_none, leads_more, leads_to, leads_then, each_leads, many_leads}
use Rattle.histories.proofs.SoleClaims.{top_low, top_clear, top_gone, top_others, alone, fresh_again}

-- A call against which there is no reason, and which changes the claims alone.
module _ (m : Machine) (v f : ℕ) (k : Standing m v f) (call : Call) (x : Claims)
    (clear : first (reasons_on m.state call m.cells m.tags) ≡ 0) (is : effect_on m.state call m.cells m.tags ≡ claims_change m.state.core x) where
  reclaim_goes : Granted m call
  reclaim_goes = standing_code m v f call k ∙ clear

  reclaim_core : (next m call).state.core ≡ with_claims m.state.core x
  unfolding done
  reclaim_core = ap (λ n. n.state.core) (went_next m call (went m call reclaim_goes)) ∙ ap (λ e. e.core) is

-- The table and the pages are those of a core.
pub record Kept (c₀ : Core) (m : Machine) : Type 0 where
  pub table : m.state.core.table ≡ c₀.table
  pub pages : m.state.core.pages ≡ c₀.pages

kept_claims : (c₀ : Core) (m n : Machine) (x : Claims) → n.state.core ≡ with_claims m.state.core x → Kept c₀ m → Kept c₀ n
kept_claims c₀ m n x now k = record { table = ap (λ c. c.table) now ∙ k.table; pages = ap (λ c. c.pages) now ∙ k.pages }

-- A destroy by party 0, and a release of a page below V.
module _ (s : State) (cells tags : List ℕ) where
  destroy_clear : (p : ℕ) → first (destroy_reasons s.core.claims 0 p) ≡ 0 → first (reasons_on s (Destroy 0 p) cells tags) ≡ 0
  unfolding reasons first
  destroy_clear p clear = clear

  destroy_effect : (p : ℕ) → effect_on s (Destroy 0 p) cells tags ≡ claims_change s.core (destroy_of s.core.claims p)
  unfolding effect
  destroy_effect p = refl

  release_clear : (p : ℕ) → p < s.core.pages.v → first (release_reasons s.core.claims 0 0 p) ≡ 0 → first (reasons_on s (Release 0 0 (page p)) cells tags) ≡ 0
  unfolding reasons first
  release_clear p h clear = rw (lt-leb s.core.pages.v p h) clear

  release_effect : (p : ℕ) → effect_on s (Release 0 0 (page p)) cells tags ≡ claims_change s.core (release_of s.core.claims 0 p)
  unfolding effect
  release_effect p = refl

-- No principal from the n-th on is right below 0, and those below n are so if they were in the core c₀.
record DestroyedFrom (c₀ : Core) (v f n : ℕ) (m : Machine) : Type 0 where
  standing : Standing m v f
  kept : Kept c₀ m
  below : (q : ℕ) → q < n → top_at m.state.core.claims q ≡ top_at c₀.claims q
  above : (q : ℕ) → n ≤ q → top_at m.state.core.claims q ≡ false

-- The next one down: it is not right below 0, or it is destroyed.
module _ (c₀ : Core) (v f n : ℕ) (m : Machine) (q : DestroyedFrom c₀ v f (suc n) m) where
  abbrev c : Claims
  c = m.state.core.claims

  same : top_at c n ≡ top_at c₀.claims n
  same = q.below n (omega arith)

  skip : top_at c₀.claims n ≡ false → DestroyedFrom c₀ v f n m
  skip e = record { standing = q.standing; kept = q.kept; below = λ p b. q.below p (omega arith); above = λ p a. go p a (eqb p n) refl }
    where
      go : (p : ℕ) → n ≤ p → (b : Bool) → eqb p n ≡ b → top_at c p ≡ false
      go p a true z = ap (λ j. top_at c j) (eqb-true p n z) ∙ same ∙ e
      go p a false z = q.above p (omega (arith, eqb-false p n z))

  destroyed : top_at c₀.claims n ≡ true → Granted m (Destroy 0 n) × DestroyedFrom c₀ v f n (next m (Destroy 0 n))
  destroyed e = (
    reclaim_goes m v f q.standing (Destroy 0 n) after clear (destroy_effect m.state m.cells m.tags n),
    record {
      standing = standing_next m v f (Destroy 0 n) q.standing;
      kept = kept_claims c₀ m (next m (Destroy 0 n)) after now q.kept;
      below = λ p b. ap (λ k. top_at k.claims p) now ∙ top_others v c ok n shown p (λ z. omega arith) ∙ q.below p (omega arith);
      above = λ p a. ap (λ k. top_at k.claims p) now ∙ go p a (eqb p n) refl;
    },
  )
    where
      ok : claims_sound v c ≡ true
      ok = standing_claims m v f q.standing

      shown : top_at c n ≡ true
      shown = same ∙ e

      after : Claims
      after = destroy_of c n

      clear : first (reasons_on m.state (Destroy 0 n) m.cells m.tags) ≡ 0
      clear = destroy_clear m.state m.cells m.tags n (top_clear v c ok n shown)

      now : (next m (Destroy 0 n)).state.core ≡ with_claims m.state.core after
      now = reclaim_core m v f q.standing (Destroy 0 n) after clear (destroy_effect m.state m.cells m.tags n)

      go : (p : ℕ) → n ≤ p → (b : Bool) → eqb p n ≡ b → top_at after p ≡ false
      go p a true z = ap (λ j. top_at after j) (eqb-true p n z) ∙ top_gone v c ok n shown
      go p a false z = top_others v c ok n shown p (eqb-false p n z) ∙ q.above p (omega (arith, eqb-false p n z))

-- Principal 0 alone is in being.
record Sole (c₀ : Core) (m : Machine) : Type 0 where
  kept : Kept c₀ m
  sole : Alone m.state.core.claims

destroying_leads : (m : Machine) (v f : ℕ) → Standing m v f → Leads (Sole m.state.core) m (destroying m)
unfolding destroying
destroying_leads m v f k =
    let c = m.state.core in
    let calls = each_below (top_at c.claims) (λ p. Destroy 0 p) 32 in
    leads_to (DestroyedFrom c v f 0) (Sole c) m calls
    (each_leads (top_at c.claims) (λ p. Destroy 0 p) (DestroyedFrom c v f) (λ n x q e. destroyed c v f n x q e) (λ n x q e. skip c v f n x q e) 32 m
    (record { standing = k; kept = record { table = refl; pages = refl }; below = λ q b. refl; above = λ q b. top_low v c.claims (standing_claims m v f k) q b }))
    (λ q. record { kept = q.kept; sole = alone v (run m calls).state.core.claims (standing_claims (run m calls) v f q.standing) (λ p. q.above p (omega arith)) })

-- The claims are these.
record Having (c₀ : Core) (v f : ℕ) (c : Claims) (m : Machine) : Type 0 where
  standing : Standing m v f
  kept : Kept c₀ m
  is : m.state.core.claims ≡ c

-- So many releases of a page by party 0, where the claims have no reason against any of them.
first_last : (n : ℕ) (g : Claims → Claims) (c : Claims) → repeated n g (g c) ≡ repeated (suc n) g c
unfolding repeated
first_last zero g c = refl
first_last (suc n) g c = ap g (first_last n g c)

module _ (c₀ : Core) (v f : ℕ) where
  release_once : (c : Claims) (p : ℕ) → p < v → first (release_reasons c 0 0 p) ≡ 0 → (m : Machine) → Having c₀ v f c m
      → Granted m (Release 0 0 (page p)) × Having c₀ v f (release_of c 0 p) (next m (Release 0 0 (page p)))
  release_once c p h clear m q =
      let call = Release 0 0 (page p) in
      let x = release_of m.state.core.claims 0 p in
      let free = release_clear m.state m.cells m.tags p (omega (arith, h, q.standing.of_v)) (subst (λ y. first (release_reasons y 0 0 p) ≡ 0) (sym q.is) clear) in
      let now = reclaim_core m v f q.standing call x free (release_effect m.state m.cells m.tags p) in (
        reclaim_goes m v f q.standing call x free (release_effect m.state m.cells m.tags p),
        record {
          standing = standing_next m v f call q.standing;
          kept = kept_claims c₀ m (next m call) x now q.kept;
          is = ap (λ k. k.claims) now ∙ ap (λ y. release_of y 0 p) q.is;
        },
      )

  releases_lead : (times : ℕ) (c : Claims) (p : ℕ) → p < v → ((n : ℕ) → n < times → first (release_reasons (released n c 0 p) 0 0 p) ≡ 0) → (m : Machine) → Having c₀ v f c m
      → Leads (Having c₀ v f (released times c 0 p)) m (replicate times (Release 0 0 (page p)))
  unfolding repeated
  releases_lead zero c p h clear m q = leads_none (Having c₀ v f c) m q
  releases_lead (suc times) c p h clear m q =
      let call = Release 0 0 (page p) in
      let (g, l) = release_once c p h (clear 0 (omega arith)) m q in
      leads_more (Having c₀ v f (released (suc times) c 0 p)) m call (replicate times call) g
      (subst (λ d. Leads (Having c₀ v f d) (next m call) (replicate times call)) (first_last times (λ d. release_of d 0 p) c)
      (releases_lead times (release_of c 0 p) p h
      (λ n b. subst (λ d. first (release_reasons d 0 0 p) ≡ 0) (sym (first_last n (λ d. release_of d 0 p) c)) (clear (suc n) (omega arith)))
      (next m call) l))

-- Principal 0 alone is in being. It counts no page from the n-th on, and those below as often as in the claims y₀.
record ReleasedFrom (c₀ : Core) (y₀ : Claims) (v f n : ℕ) (m : Machine) : Type 0 where
  standing : Standing m v f
  kept : Kept c₀ m
  sole : Alone m.state.core.claims
  within : n ≤ v
  below : (k : ℕ) → k < n → count_of m.state.core.claims 0 k ≡ count_of y₀ 0 k
  above : (k : ℕ) → n ≤ k → count_of m.state.core.claims 0 k ≡ 0

-- The next one down is released as often as it is counted.
module _ (c₀ : Core) (y₀ : Claims) (v f n : ℕ) (m : Machine) (q : ReleasedFrom c₀ y₀ v f (suc n) m) where
  abbrev y : Claims
  y = m.state.core.claims

  abbrev d : Claims
  d = released (count_of y 0 n) y 0 n

  emptied : Emptied v y n d
  emptied = release_all v y (standing_claims m v f q.standing) q.sole n

  released_here : (x : Machine) → Having c₀ v f d x → ReleasedFrom c₀ y₀ v f n x
  released_here x h =
      record {
        standing = h.standing;
        kept = h.kept;
        sole = subst (λ c. Alone c) (sym h.is) emptied.alone;
        within = let w = q.within in omega (arith, w);
        below = λ k b. ap (λ c. count_of c 0 k) h.is ∙ emptied.others 0 k (λ z. let e = z.1 in omega (arith, e, b)) ∙ q.below k (omega arith);
        above = λ k a. ap (λ c. count_of c 0 k) h.is ∙ go k a (eqb k n) refl;
      }
    where
      go : (k : ℕ) → n ≤ k → (b : Bool) → eqb k n ≡ b → count_of d 0 k ≡ 0
      go k a true z = ap (λ j. count_of d 0 j) (eqb-true k n z) ∙ emptied.none
      go k a false z = emptied.others 0 k (λ e. eqb-false k n z e.1) ∙ q.above k (omega (arith, eqb-false k n z))

  page_released : Leads (ReleasedFrom c₀ y₀ v f n) m (replicate (count_of y₀ 0 n) (Release 0 0 (page n)))
  page_released =
      let calls = replicate (count_of y 0 n) (Release 0 0 (page n)) in
      let low : n < v = let w = q.within in omega (arith, w) in
      subst (λ t. Leads (ReleasedFrom c₀ y₀ v f n) m (replicate t (Release 0 0 (page n)))) (q.below n (omega arith))
      (leads_to (Having c₀ v f d) (ReleasedFrom c₀ y₀ v f n) m calls
      (releases_lead c₀ v f (count_of y 0 n) y n low emptied.granted m (record { standing = q.standing; kept = q.kept; is = refl }))
      (released_here (run m calls)))

-- No page at V or above is counted.
none_past : (v : ℕ) (c : Claims) → claims_sound v c ≡ true → (k : ℕ) → v ≤ k → count_of c 0 k ≡ 0
none_past v c s k h = go (ltb 0 (count_of c 0 k)) refl
  where
    go : (b : Bool) → ltb 0 (count_of c 0 k) ≡ b → count_of c 0 k ≡ 0
    go true e =
        let l = counted_below v c 0 (counted_at v c s 0 (root_being v c s)) k (ltb-true 0 (count_of c 0 k) e) in
        let z : ⊥ = omega (arith, l, h) in
        absurd z
    go false e = let l = ltb-false 0 (count_of c 0 k) e in omega (arith, l)

-- The claims are those of a fresh start.
pub record Unclaimed (c₀ : Core) (m : Machine) : Type 0 where
  pub kept : Kept c₀ m
  pub free : m.state.core.claims ≡ fresh_claims true

releasing_leads : (c₀ : Core) (m : Machine) (v f : ℕ) → Standing m v f → Sole c₀ m → Leads (Unclaimed c₀) m (releasing m)
unfolding releasing
releasing_leads c₀ m v f k s =
    let c = m.state.core.claims in
    let ok = standing_claims m v f k in
    let calls = many_below (λ p. count_of c 0 p) (λ p. Release 0 0 (page p)) m.state.core.pages.v in
    leads_to (ReleasedFrom c₀ c v f 0) (Unclaimed c₀) m calls
    (many_leads (λ p. count_of c 0 p) (λ p. Release 0 0 (page p)) (ReleasedFrom c₀ c v f) (page_released c₀ c v f) m.state.core.pages.v m
    (record {
      standing = k;
      kept = s.kept;
      sole = s.sole;
      within = omega (arith, k.of_v);
      below = λ p b. refl;
      above = λ p a. none_past v c ok p (omega (arith, k.of_v, a));
    }))
    (λ q.
    let sound = standing_claims (run m calls) v f q.standing in
    record { kept = q.kept; free = fresh_again v (run m calls).state.core.claims sound q.sole (λ p. q.above p (omega arith)) })

pub unclaiming_leads : (m : Machine) (v f : ℕ) → Standing m v f → Leads (Unclaimed m.state.core) m (unclaiming m)
unfolding unclaiming
unclaiming_leads m v f k =
    let c = m.state.core in
    leads_then v f (Sole c) (Unclaimed c) destroying releasing m k (destroying_leads m v f k) (λ n l s. releasing_leads c n v f l s)
