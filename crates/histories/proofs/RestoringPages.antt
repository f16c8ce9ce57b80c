-- Where no page has a claim, each Mapped page of those that pass a test is unmapped, the highest first. Assumes nothing.
use Prim.Native.Nat.{ℕ, suc, ◌<◌, ◌≤◌}
use native.Mathlib.Omega.{arith}
use mathlib.Core.Bool.{Bool, true, false, ◌&&◌}
use mathlib.Core.Path.{◌≡◌, refl, sym, ap, ◌∙◌}
use borrow.Author.Tests.{eqb-true, eqb-false, lt-leb}
use lib.Dec.{eqb}
use lib.ListN.{length}
use Rattle.capabilities.specs.Lists.{pick}
use Rattle.capabilities.specs.Refusals.{first}
use Rattle.capabilities.proofs.Choice.{pick_yes, pick_no, and_right}
use Rattle.capabilities.proofs.Refusals.{first_clear}
use Rattle.pages.specs.declared.PageState.{PageState}
use Rattle.pages.specs.declared.PageState.TheVariants.{Freed}
use Rattle.pages.specs.Pages.{Pages}
use Rattle.pages.specs.Entries.{is_mapped}
use Rattle.pages.specs.Layer.{page_at}
use Rattle.pages.specs.Mapping.{unmap_reasons, unmapped}
use Rattle.pages.proofs.Formed.{sound as layered}
use Rattle.table.specs.Table.{Table}
use Rattle.claims.specs.Claims.{claimed}
use Rattle.claims.specs.Sound.{fresh_claims}
use Rattle.reservations.specs.Core.{Core}
use Rattle.calls.specs.declared.Call.TheVariants.{Unmap}
use Rattle.calls.specs.Commands.{page}
use Rattle.words.specs.WordReasons.{unnamed, not_manager}
use Rattle.machine.specs.Effects.{effect}
use Rattle.machine.specs.Reasons.{reasons}
use Rattle.machine.specs.Step.{done, reasons_on}
use Rattle.histories.specs.Runs.{Machine, Granted, next}
use Rattle.histories.specs.Forming.{Standing}
use Rattle.histories.specs.Restoring.{each_below, mapped_at, unmapping}
use Rattle.histories.proofs.Granted.{Went, went, went_next}
use Rattle.histories.proofs.Layer.{unmap_done, unmap_other, unmap_here}
use Rattle.histories.proofs.Forming.{standing_facts, standing_code, standing_next}
use Rattle.histories.proofs.Leading.{Leads, leads_to, each_leads}
use Rattle.histories.proofs.SoleClaims.{fresh_unclaimed}
use Rattle.histories.proofs.RestoringClaims.{Unclaimed}

-- A page below V has an entry.
pub page_long : (m : Machine) (v f : ℕ) → Standing m v f → (p : ℕ) → p < v → p < length m.state.core.pages.pages
page_long m v f k p h = let l = layered m.state.core.pages (standing_facts m v f k).layer in omega (arith, l.long_pages, l.v_most, k.of_v)

module _ (m : Machine) (v f : ℕ) (k : Standing m v f) (free : m.state.core.claims ≡ fresh_claims true)
    (p : ℕ) (h : p < v) (shown : is_mapped (page_at m.state.core.pages p) ≡ true) where
  abbrev c : Core
  c = m.state.core

  unclaimed_here : claimed c.claims p ≡ false
  unclaimed_here = ap (λ x. claimed x p) free ∙ fresh_unclaimed p

  no_reason : first (reasons_on m.state (Unmap 0 (page p)) m.cells m.tags) ≡ 0
  unfolding reasons first unmap_reasons
  no_reason = rw (lt-leb c.pages.v p (omega (arith, k.of_v)), shown, unclaimed_here)

  unmap_goes : Granted m (Unmap 0 (page p))
  unmap_goes = standing_code m v f (Unmap 0 (page p)) k ∙ no_reason

  w : Went m (Unmap 0 (page p))
  w = went m (Unmap 0 (page p)) unmap_goes

  abbrev taken : Bool
  taken = claimed c.claims p

  clear : first (unmap_reasons c.pages (page p) taken) ≡ 0
  unfolding reasons
  clear = (first_clear 5 (not_manager 0) (unmap_reasons c.pages (page p) taken) (λ x. omega arith) (first_clear 4 (unnamed 0) _ (λ x. omega arith) w.clear).1).1

  unmap_pages : (next m (Unmap 0 (page p))).state.core.pages ≡ unmapped c.pages (page p)
  unfolding effect done
  unmap_pages = ap (λ n. n.state.core.pages) (went_next m (Unmap 0 (page p)) w) ∙ unmap_done c.pages (page p) taken clear

  unmap_table : (next m (Unmap 0 (page p))).state.core.table ≡ c.table
  unfolding effect done
  unmap_table = ap (λ n. n.state.core.table) (went_next m (Unmap 0 (page p)) w)

  unmap_claims : (next m (Unmap 0 (page p))).state.core.claims ≡ c.claims
  unfolding effect done
  unmap_claims = ap (λ n. n.state.core.claims) (went_next m (Unmap 0 (page p)) w)

-- What a page of the layer s₀ is then.
abbrev bared : (ℕ → Bool) → Pages → ℕ → PageState
bared among s₀ p = pick (among p && mapped_at s₀ p) Freed (page_at s₀ p)

-- The pages at n and above are so, and those below are as they were in the layer s₀; the table is the given one, and there is no claim.
record UnmappedFrom (among : ℕ → Bool) (t : Table) (s₀ : Pages) (v f n : ℕ) (m : Machine) : Type 0 where
  standing : Standing m v f
  table : m.state.core.table ≡ t
  free : m.state.core.claims ≡ fresh_claims true
  within : n ≤ v
  below : (p : ℕ) → p < n → page_at m.state.core.pages p ≡ page_at s₀ p
  above : (p : ℕ) → n ≤ p → p < v → page_at m.state.core.pages p ≡ bared among s₀ p

-- The next one down: it stays, or it is unmapped.
module _ (among : ℕ → Bool) (t : Table) (s₀ : Pages) (v f n : ℕ) (m : Machine) (q : UnmappedFrom among t s₀ v f (suc n) m) where
  abbrev s : Pages
  s = m.state.core.pages

  abbrev test : Bool
  test = among n && mapped_at s₀ n

  same : page_at s n ≡ page_at s₀ n
  same = q.below n (omega arith)

  skip : test ≡ false → UnmappedFrom among t s₀ v f n m
  skip e = record { standing = q.standing; table = q.table; free = q.free; within = omega (arith, q.within); below = λ p b. q.below p (omega arith); above = λ p a b. go p a b (eqb p n) refl }
    where
      go : (p : ℕ) → n ≤ p → p < v → (b : Bool) → eqb p n ≡ b → page_at s p ≡ bared among s₀ p
      go p a b true z =
          let i = eqb-true p n z in
          ap (page_at s) i ∙ same ∙ sym (pick_no test Freed (page_at s₀ n) e) ∙ sym (ap (bared among s₀) i)
      go p a b false z = q.above p (omega (arith, eqb-false p n z)) b

  taken_off : test ≡ true → Granted m (Unmap 0 (page n)) × UnmappedFrom among t s₀ v f n (next m (Unmap 0 (page n)))
  taken_off e = (
    unmap_goes m v f q.standing q.free n low shown,
    record {
      standing = standing_next m v f (Unmap 0 (page n)) q.standing;
      table = unmap_table m v f q.standing q.free n low shown ∙ q.table;
      free = unmap_claims m v f q.standing q.free n low shown ∙ q.free;
      within = omega (arith, q.within);
      below = λ p b. ap (λ x. page_at x p) now ∙ unmap_other s (page n) p (λ z. omega arith) ∙ q.below p (omega arith);
      above = λ p a b. ap (λ x. page_at x p) now ∙ go p a b (eqb p n) refl;
    },
  )
    where
      low : n < v
      low = omega (arith, q.within)

      shown : is_mapped (page_at s n) ≡ true
      shown = ap is_mapped same ∙ and_right (among n) (mapped_at s₀ n) e

      now : (next m (Unmap 0 (page n))).state.core.pages ≡ unmapped s (page n)
      now = unmap_pages m v f q.standing q.free n low shown

      go : (p : ℕ) → n ≤ p → p < v → (b : Bool) → eqb p n ≡ b → page_at (unmapped s (page n)) p ≡ bared among s₀ p
      go p a b true z =
          let i = eqb-true p n z in
          ap (page_at (unmapped s (page n))) i ∙ unmap_here s (page n) (page_long m v f q.standing n low) ∙ sym (pick_yes test Freed (page_at s₀ n) e) ∙ sym (ap (bared among s₀) i)
      go p a b false z = unmap_other s (page n) p (eqb-false p n z) ∙ q.above p (omega (arith, eqb-false p n z)) b

-- Against a core: the table is the same, none of the pages that pass the test is Mapped, the others are the same, and the claims are those of a fresh start.
pub record Bare (c₀ : Core) (among : ℕ → Bool) (v : ℕ) (m : Machine) : Type 0 where
  pub table : m.state.core.table ≡ c₀.table
  pub free : m.state.core.claims ≡ fresh_claims true
  pub none : (p : ℕ) → p < v → among p ≡ true → is_mapped (page_at m.state.core.pages p) ≡ false
  pub others : (p : ℕ) → p < v → among p ≡ false → page_at m.state.core.pages p ≡ page_at c₀.pages p

bare_page : (b : Bool) (x : PageState) → is_mapped x ≡ b → is_mapped (pick (is_mapped x) Freed x) ≡ false
bare_page true x e = rw e refl
bare_page false x e = rw e e

pub unmapping_leads : (c₀ : Core) (among : ℕ → Bool) (m : Machine) (v f : ℕ) → Standing m v f → Unclaimed c₀ m → Leads (Bare c₀ among v) m (unmapping among m)
unfolding unmapping
unmapping_leads c₀ among m v f k u =
    let s = m.state.core.pages in
    let calls = each_below (λ p. among p && mapped_at s p) (λ p. Unmap 0 (page p)) s.v in
    leads_to (UnmappedFrom among c₀.table s v f 0) (Bare c₀ among v) m calls
    (each_leads (λ p. among p && mapped_at s p) (λ p. Unmap 0 (page p)) (UnmappedFrom among c₀.table s v f) (λ n x q e. taken_off among c₀.table s v f n x q e)
    (λ n x q e. skip among c₀.table s v f n x q e) s.v m
    (record { standing = k; table = u.kept.table; free = u.free; within = omega (arith, k.of_v); below = λ p b. refl; above = λ p a b. absurd (omega (arith, k.of_v)) }))
    (λ q.
    record {
      table = q.table;
      free = q.free;
      none = λ p h e. ap is_mapped (q.above p (omega arith) h ∙ ap (λ b. pick (b && mapped_at s p) Freed (page_at s p)) e) ∙ bare_page (mapped_at s p) (page_at s p) refl;
      others = λ p h e. q.above p (omega arith) h ∙ ap (λ b. pick (b && mapped_at s p) Freed (page_at s p)) e ∙ ap (λ x. page_at x p) u.kept.pages;
    })
