-- What becomes of one page by a granted call: it stays as it is, or it was Unmapped and is mapped or freed, or it was Mapped without a claim
-- and is unmapped, or a collect releases it, which was not Mapped. Assumes nothing.
use Prim.Native.Nat.{ℕ, ◌<◌}
use native.Mathlib.Omega.{arith}
use mathlib.Core.Bool.{Bool, true, false, not, ◌&&◌, false≢true, and-false}
use mathlib.Core.List.{List, []}
use mathlib.Core.Path.{◌≡◌, refl, sym, ap, ◌∙◌}
use borrow.Author.Tests.{eqb-true, eqb-false}
use lib.Dec.{eqb}
use lib.ListN.{length}
use Rattle.capabilities.specs.declared.Range.{Range}
use Rattle.capabilities.specs.Range.{page_inside}
use Rattle.capabilities.specs.Refusals.{first}
use Rattle.capabilities.proofs.Choice.{pick_no}
use Rattle.capabilities.proofs.Refusals.{first_clear}
use Rattle.pages.specs.declared.Frame.{Frame}
use Rattle.pages.specs.declared.PageState.{PageState}
use Rattle.pages.specs.declared.PageState.TheVariants.{Unmapped, Freed, Mapped}
use Rattle.pages.specs.declared.VirtualPage.{VirtualPage}
use Rattle.pages.specs.Pages.{Pages}
use Rattle.pages.specs.Entries.{is_unmapped, is_mapped}
use Rattle.pages.specs.Layer.{page_at}
use Rattle.pages.specs.Mapping.{no_page, map_reasons, map_of, unmap_reasons, unmap_of}
use Rattle.pages.proofs.Formed.{sound as layered}
use Rattle.pages.proofs.Freeing.{freed_at, released_at, none_mapped_at}
use Rattle.pages.proofs.Kept.{mappable, unmappable}
use Rattle.pages.proofs.View.{page_of_frame}
use Rattle.table.specs.Find.{find_of, row_of}
use Rattle.table.specs.Rows.{range_of}
use Rattle.claims.specs.Claims.{claimed}
use Rattle.reservations.specs.Core.{Core}
use Rattle.reservations.specs.Revocation.{revoked, revoke_of, collect_of, core_sound}
use Rattle.reservations.proofs.CoreKept.{core_facts}
use Rattle.calls.specs.declared.Call.{Call}
use Rattle.machine.specs.State.{State}
use Rattle.machine.specs.Roles.{collects, plain, Asked, asked}
use Rattle.machine.specs.Effects.{Effect, with_pages}
use Rattle.machine.specs.Step.{done, effect_on}
use Rattle.machine.proofs.Deeds.{Recored, splits, merges, gives, revokes, maps, unmaps, reclaims, Deed, took, recored, swept, collected_all, zeroed, filled, wrote, mailed, received}
use Rattle.histories.specs.Runs.{Machine, next}
use Rattle.histories.proofs.Findings.{Ends, ends, revoke_parts}
use Rattle.histories.proofs.Granted.{Went, went_next}
use Rattle.histories.proofs.Layer.{map_done, unmap_done, map_other, unmap_other}

pub data PageFate (c : Core) (n : ℕ) (a : Asked) (k : Core) : Type 0 where
  stays : page_at k.pages n ≡ page_at c.pages n → PageFate c n a k
  was_unmapped : page_at c.pages n ≡ Unmapped → PageFate c n a k
  was_unclaimed : is_mapped (page_at c.pages n) ≡ true → claimed c.claims n ≡ false → PageFate c n a k
  was_released : a.role ≡ collects → is_mapped (page_at c.pages n) ≡ false → PageFate c n a k

-- 22 did not apply.
unclaimed_by : (s : Pages) (page : VirtualPage) (claim : Bool) → first (unmap_reasons s page claim) ≡ 0 → claim ≡ false
unfolding unmap_reasons
unclaimed_by s page claim e =
    let a = first_clear 12 (no_page s page) _ (λ x. omega arith) e in
    let b = first_clear 13 (not (is_mapped (page_at s page.0))) _ (λ x. omega arith) a.1 in
    (first_clear 22 claim [] (λ x. omega arith) b.1).0

unmapped_is : (x : PageState) → is_unmapped x ≡ true → x ≡ Unmapped
unmapped_is Unmapped e = refl
unmapped_is Freed e = absurd (false≢true e)
unmapped_is (Mapped f) e = absurd (false≢true e)

module _ (s : State) (ok : core_sound s.core ≡ true) (n : ℕ) (low : n < 256) where
  abbrev c : Core
  c = s.core

  abbrev pages : Pages
  pages = s.core.pages

  long : n < length pages.pages
  long = let l = (layered pages (core_facts c ok).layer).long_pages in omega (arith, low, l)

  revoke_fate : (a : Asked) (p base : ℕ) → (revoke_of c p base).code ≡ 0 → PageFate c n a (revoke_of c p base).core
  revoke_fate a p base z = go (is_unmapped (page_at pages n)) refl
    where
      r : Range
      r = range_of (row_of c.table (find_of c.table p base))

      go : (b : Bool) → is_unmapped (page_at pages n) ≡ b → PageFate c n a (revoke_of c p base).core
      go true e = was_unmapped (unmapped_is (page_at pages n) e)
      go false e =
          stays
          (ap (λ x. page_at x.pages n) (revoke_parts c p base z) ∙ freed_at pages r n long
          ∙ pick_no (page_inside r n && is_unmapped (page_at pages n)) Freed (page_at pages n) (ap (λ b. page_inside r n && b) e ∙ and-false (page_inside r n)))

  -- A collect finds no Mapped page in its range.
  collect_fate : (a : Asked) → a.role ≡ collects → (collect_of c).code ≡ 0 → PageFate c n a (collect_of c).core
  collect_fate a is z = go (is_mapped (page_at pages n)) refl
    where
      e : Ends c
      e = ends c ok z

      out : (b : Bool) → page_inside (revoked c) n ≡ b → is_mapped (page_at pages n) ≡ true → page_inside (revoked c) n ≡ false
      out true q shown = absurd (false≢true (sym (none_mapped_at pages (revoked c) n long e.freed q) ∙ shown))
      out false q shown = q

      go : (b : Bool) → is_mapped (page_at pages n) ≡ b → PageFate c n a (collect_of c).core
      go true shown =
          stays
          (ap (λ x. page_at x.pages n) e.parts ∙ released_at pages (revoked c) n long
          ∙ pick_no (page_inside (revoked c) n) Unmapped (page_at pages n) (out (page_inside (revoked c) n) refl shown))
      go false shown = was_released is shown

  map_fate : (a : Asked) (page : VirtualPage) (frame : Frame) → first (map_reasons pages page frame) ≡ 0
      → PageFate c n a (with_pages c (map_of pages page frame).pages)
  map_fate a page frame z = go (eqb n page.0) refl
    where
      go : (b : Bool) → eqb n page.0 ≡ b → PageFate c n a (with_pages c (map_of pages page frame).pages)
      go true e = was_unmapped (ap (page_at pages) (eqb-true n page.0 e) ∙ (mappable pages page frame z).free_page)
      go false e = stays (ap (λ x. page_at x n) (map_done pages page frame z) ∙ map_other pages page frame n (eqb-false n page.0 e))

  unmap_fate : (a : Asked) (page : VirtualPage) → first (unmap_reasons pages page (claimed c.claims page.0)) ≡ 0
      → PageFate c n a (with_pages c (unmap_of pages page (claimed c.claims page.0)).pages)
  unmap_fate a page z = go (eqb n page.0) refl
    where
      claim : Bool
      claim = claimed c.claims page.0

      go : (b : Bool) → eqb n page.0 ≡ b → PageFate c n a (with_pages c (unmap_of pages page (claimed c.claims page.0)).pages)
      go true e =
          let i = eqb-true n page.0 e in
          was_unclaimed (ap (λ j. is_mapped (page_at pages j)) i ∙ (unmappable pages page claim z).shown) (ap (λ j. claimed c.claims j) i ∙ unclaimed_by pages page claim z)
      go false e = stays (ap (λ x. page_at x n) (unmap_done pages page claim z) ∙ unmap_other pages page n (eqb-false n page.0 e))

  recored_page : (a : Asked) (k : Core) → Recored c k → PageFate c n a k
  recored_page a k (splits p base len z) = stays refl
  recored_page a k (merges p base z) = stays refl
  recored_page a k (gives p base to low-to z) = stays refl
  recored_page a k (revokes p base z) = revoke_fate a p base (unfold revoke_of in z)
  recored_page a k (maps page frame z) = map_fate a page frame z
  recored_page a k (unmaps page z) = unmap_fate a page z
  recored_page a k (reclaims x r) = stays refl

  pub deed_page : {cells tags : List ℕ} {a : Asked} {e : Effect} → Deed s cells tags a e → PageFate c n a e.core
  deed_page (took p base reg permissions low-p low-reg few z) = stays refl
  deed_page (recored p k r) = recored_page (asked p plain) k r
  deed_page (swept p x runs) = stays refl
  deed_page (collected_all p z) = collect_fate (asked p collects) refl (unfold collect_of in z)
  deed_page (zeroed p frame z) = stays (page_of_frame pages frame.0 n _)
  deed_page (filled p d from w answer low-d g) = stays refl
  deed_page (wrote p a off x low-p low-a g) = stays refl
  deed_page (mailed p x to t) = stays refl
  deed_page (received p d low-d) = stays refl

-- The page after a granted call.
pub done_pages : (m : Machine) (c : Call) → Went m c → (n : ℕ) → page_at (next m c).state.core.pages n ≡ page_at (effect_on m.state c m.cells m.tags).core.pages n
unfolding done
done_pages m c w n = ap (λ x. page_at x.state.core.pages n) (went_next m c w)
