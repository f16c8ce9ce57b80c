-- "The lowest number that applies is answered": each kind's reasons stand in the order of refusals, so that the first of them that applies
-- is the first in the order. Assumes nothing.
use Prim.Native.Nat.{ℕ, ◌<◌, ◌≤◌}
use native.Mathlib.Omega.{arith}
use mathlib.Core.Bool.{Bool, true, false, not}
use mathlib.Core.List.{List}
use mathlib.Core.Logic.{◌⊎◌, inl, inr}
use mathlib.Core.Path.{◌≡◌, refl, sym, ◌∙◌}
use lib.ListN.{length}
use lib.Dec.{leb, ltb, eqb}
use borrow.Author.Tests.{ltb-true, leb-true, eqb-true}
use Rattle.capabilities.specs.Lists.{pick, all}
use Rattle.capabilities.specs.Refusals.{first}
use Rattle.capabilities.proofs.Ordered.{ordered, absent, distinct, ordered_wider, first_in_lem, first_passes}
use Rattle.pages.specs.Layer.{serves}
use Rattle.pages.specs.Mapping.{map_reasons, unmap_reasons, dirty_reasons}
use Rattle.table.specs.Operations.{open_reasons, take_reasons, split_reasons_at, split_reasons, merge_reasons_at, merge_reasons, give_reasons}
use Rattle.claims.specs.Operations.{create_reasons, claim_reasons, release_reasons, destroy_reasons}
use Rattle.reservations.specs.Revocation.{revoke_reasons_at, revoke_reasons, collect_reasons}
use Rattle.calls.specs.declared.Call.{Call}
use Rattle.calls.specs.declared.Call.TheVariants.{Take, Split, Merge, Give, Revoke, Sweep, Collect, Map, Unmap, Zero, Load, Store, Narrow, Number, Grant, Receive, TakeMasked, Create, Claim, Release, Destroy}
use Rattle.machine.specs.State.{State}
use Rattle.machine.specs.Formed.{well_formed}
use Rattle.machine.specs.Reasons.{last_refusal, reasons}
use Rattle.machine.specs.Step.{refused, done, reasons_on, effect_on, ruled, judged, step_of}
use Rattle.machine.specs.Order.{order_of_calls, order, all_reasons, FirstInOrder}
use Rattle.machine.proofs.Judging.{pick_by}

-- The reasons against each kind of call stand in the order.
pub reasons_ordered : (s : State) (c : Call) (cells tags : List ℕ) → ordered order_of_calls (reasons_on s c cells tags) ≡ true
unfolding ordered reasons open_reasons take_reasons split_reasons_at split_reasons merge_reasons_at merge_reasons give_reasons revoke_reasons_at revoke_reasons collect_reasons map_reasons unmap_reasons dirty_reasons create_reasons claim_reasons release_reasons destroy_reasons
reasons_ordered s (Take p base reg) cells tags = refl
reasons_ordered s (Split p base len) cells tags = refl
reasons_ordered s (Merge p base) cells tags = refl
reasons_ordered s (Give p base to) cells tags = refl
reasons_ordered s (Revoke p base) cells tags = refl
reasons_ordered s (Sweep p n) cells tags = refl
reasons_ordered s (Collect p) cells tags = refl
reasons_ordered s (Map p page frame) cells tags = refl
reasons_ordered s (Unmap p page) cells tags = refl
reasons_ordered s (Zero p frame) cells tags = refl
reasons_ordered s (Load p a off d) cells tags = refl
reasons_ordered s (Store p a off r) cells tags = refl
reasons_ordered s (Narrow p r off len mask d) cells tags = refl
reasons_ordered s (Number p d value) cells tags = refl
reasons_ordered s (Grant p r to) cells tags = refl
reasons_ordered s (Receive p d) cells tags = refl
reasons_ordered s (TakeMasked p base reg mask) cells tags = refl
reasons_ordered s (Create p parent child limit holder) cells tags = refl
reasons_ordered s (Claim p principal page) cells tags = refl
reasons_ordered s (Release p principal page) cells tags = refl
reasons_ordered s (Destroy p principal) cells tags = refl

-- So do all, 1 and 2 before the others.
all_ordered : (s : State) (c : Call) (cells tags : List ℕ) → ordered order (all_reasons s c cells tags) ≡ true
unfolding ordered
all_ordered s c cells tags = ordered_wider 3 order_of_calls (reasons_on s c cells tags) (unfold absent in refl) (reasons_ordered s c cells tags)

module _ (s : State) (c : Call) (cells tags : List ℕ) where
  -- By refusals from 4 on the number answered is that of the first of them that applies.
  pub ruled_code : (ruled s c cells tags).answer.code ≡ first (reasons_on s c cells tags)
  unfolding ruled done
  ruled_code =
      let k = first (reasons_on s c cells tags) in
      pick_by (λ o. o.answer.code ≡ k) (eqb k 0) (done s (effect_on s c cells tags) cells tags) (refused k s cells tags)
      (λ e. sym (eqb-true k 0 e)) (λ e. refl)

  judged_code : (judged s c cells tags).answer.code ≡ pick (not (serves s.core.pages (length cells) (length tags))) 2 (first (reasons_on s c cells tags))
  unfolding judged
  judged_code = go (serves s.core.pages (length cells) (length tags))
    where
      go : (b : Bool) → (pick b (ruled s c cells tags) (refused 2 s cells tags)).answer.code ≡ pick (not b) 2 (first (reasons_on s c cells tags))
      go true = ruled_code
      go false = refl

  -- The number answered is that of the first of all reasons that applies.
  pub step_code : (step_of s c cells tags).answer.code ≡ first (all_reasons s c cells tags)
  unfolding step_of first
  step_code = go (well_formed s)
    where
      go : (b : Bool) → (pick b (judged s c cells tags) (refused 1 s cells tags)).answer.code
          ≡ pick (not b) 1 (pick (not (serves s.core.pages (length cells) (length tags))) 2 (first (reasons_on s c cells tags)))
      go true = judged_code
      go false = refl

  -- The code is 0, or the number of a refusal.
  pub code_at_most : (step_of s c cells tags).answer.code ≤ last_refusal
  code_at_most = rw step_code (go (first_passes (λ k. leb k last_refusal) order (all_reasons s c cells tags) (unfold all in refl) (all_ordered s c cells tags)))
    where
      go : (first (all_reasons s c cells tags) ≡ 0) ⊎ (leb (first (all_reasons s c cells tags)) last_refusal ≡ true) → first (all_reasons s c cells tags) ≤ last_refusal
      go (inl z) = omega arith
      go (inr e) = leb-true (first (all_reasons s c cells tags)) last_refusal e

  -- The number of a call's own reason is above 3.
  pub late_code : (first (reasons_on s c cells tags) ≡ 0) ⊎ (3 < first (reasons_on s c cells tags))
  late_code = go (first_passes (λ k. ltb 3 k) order_of_calls (reasons_on s c cells tags) (unfold all in refl) (reasons_ordered s c cells tags))
    where
      go : (first (reasons_on s c cells tags) ≡ 0) ⊎ (ltb 3 (first (reasons_on s c cells tags)) ≡ true) → (first (reasons_on s c cells tags) ≡ 0) ⊎ (3 < first (reasons_on s c cells tags))
      go (inl z) = inl z
      go (inr e) = inr (ltb-true 3 (first (reasons_on s c cells tags)) e)

pub first_in_order : FirstInOrder
first_in_order s c cells tags = step_code s c cells tags ∙ first_in_lem order (all_reasons s c cells tags) (unfold distinct in unfold absent in refl) (all_ordered s c cells tags)
