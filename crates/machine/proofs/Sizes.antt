-- No effect of a granted call changes V or F. Assumes nothing.
use Prim.Native.Nat.{ℕ}
use mathlib.Core.Bool.{Bool, true, false}
use mathlib.Core.List.{List}
use mathlib.Core.Path.{◌≡◌, refl}
use lib.Dec.{eqb}
use Rattle.capabilities.specs.Lists.{pick}
use Rattle.capabilities.specs.Refusals.{first}
use Rattle.pages.specs.declared.Frame.{Frame}
use Rattle.pages.specs.declared.PageState.{PageState}
use Rattle.pages.specs.declared.PageState.TheVariants.{Unmapped, Freed, Mapped}
use Rattle.pages.specs.Pages.{Pages}
use Rattle.pages.specs.declared.VirtualPage.{VirtualPage}
use Rattle.pages.specs.Layer.{page_at, with_page, with_frame}
use Rattle.pages.specs.Mapping.{map_of, mapped, unmap_of, unmapped, soiled, map_reasons, unmap_reasons, freed_of, released_of}
use Rattle.table.specs.Find.{find_of}
use Rattle.reservations.specs.Core.{Core}
use Rattle.reservations.specs.Revocation.{revoke_of, revoke_at, revoke_reasons, collect_of, collected, collect_reasons}
use Rattle.machine.specs.State.{State}
use Rattle.machine.specs.Roles.{Asked}
use Rattle.machine.specs.Effects.{Effect}
use Rattle.machine.proofs.Deeds.{Recored, splits, merges, gives, revokes, maps, unmaps, reclaims, Deed, took, recored, swept, collected_all, zeroed, filled, wrote, mailed, received}

pub record Same (p q : Pages) : Type 0 where
  pub of_v : p.v ≡ q.v
  pub of_f : p.f ≡ q.f

pub same : (p : Pages) → Same p p
same p = record { of_v = refl; of_f = refl }

pick_same : (b : Bool) (p q : Pages) → Same p q → Same (pick b p q) q
pick_same true p q k = k
pick_same false p q k = same q

core_same : (b : Bool) (x y : Core) → Same x.pages y.pages → Same (pick b x y).pages y.pages
core_same true x y k = k
core_same false x y k = same y.pages

map_same : (s : Pages) (page : VirtualPage) (frame : Frame) → Same (map_of s page frame).pages s
unfolding map_of mapped with_frame with_page
map_same s page frame = pick_same (eqb (first (map_reasons s page frame)) 0) (mapped s page frame) s (record { of_v = refl; of_f = refl })

unmap_same : (s : Pages) (page : VirtualPage) (claimed : Bool) → Same (unmap_of s page claimed).pages s
unfolding unmap_of unmapped soiled with_frame with_page
unmap_same s page claimed = pick_same (eqb (first (unmap_reasons s page claimed)) 0) (unmapped s page) s (go (page_at s page.0))
  where
    go : (x : PageState) → Same (soiled (with_page s page.0 Freed) x) s
    go Unmapped = record { of_v = refl; of_f = refl }
    go Freed = record { of_v = refl; of_f = refl }
    go (Mapped g) = record { of_v = refl; of_f = refl }

revoke_same : (c : Core) (p base : ℕ) → Same (revoke_of c p base).core.pages c.pages
unfolding revoke_of revoke_at freed_of
revoke_same c p base = core_same (eqb (first (revoke_reasons c p base)) 0) (revoke_at c (find_of c.table p base)) c (record { of_v = refl; of_f = refl })

collect_same : (c : Core) → Same (collect_of c).core.pages c.pages
unfolding collect_of collected released_of
collect_same c = core_same (eqb (first (collect_reasons c)) 0) (collected c) c (record { of_v = refl; of_f = refl })

recored_same : (c k : Core) → Recored c k → Same k.pages c.pages
recored_same c k (splits p base len z) = same c.pages
recored_same c k (merges p base z) = same c.pages
recored_same c k (gives p base to low z) = same c.pages
recored_same c k (revokes p base z) = revoke_same c p base
recored_same c k (maps page frame z) = map_same c.pages page frame
recored_same c k (unmaps page z) = unmap_same c.pages page _
recored_same c k (reclaims x r) = same c.pages

pub effect_same : (s : State) {cells tags : List ℕ} {a : Asked} {e : Effect} → Deed s cells tags a e → Same e.core.pages s.core.pages
unfolding with_frame
effect_same s (took p base reg permissions low-p low-reg few z) = same s.core.pages
effect_same s (recored p k r) = recored_same s.core k r
effect_same s (swept p n runs) = same s.core.pages
effect_same s (collected_all p z) = collect_same s.core
effect_same s (zeroed p frame z) = record { of_v = refl; of_f = refl }
effect_same s (filled p d from w answer low g) = same s.core.pages
effect_same s (wrote p a off x low-p low-a g) = same s.core.pages
effect_same s (mailed p x to t) = same s.core.pages
effect_same s (received p d low) = same s.core.pages
