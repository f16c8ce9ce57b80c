-- The table's own calls carry the lent reservations along. Assumes nothing.
use Rattle.std.specs.Prelude.{Some}
use Prim.Native.Nat.{ℕ, suc, ◌+◌, ◌*◌, ◌<◌, ◌≤◌}
use native.Mathlib.Omega.{arith}
use mathlib.Core.Bool.{true}
use mathlib.Core.Path.{◌≡◌, ap, subst, ◌∙◌}
use lib.ListN.{length}
use Rattle.table.specs.Table.{Table}
use Rattle.table.specs.Find.{row_of, find_of}
use Rattle.table.specs.Operations.{take_of, split_reasons, split_of, merge_of, give_of}
use Rattle.table.specs.Rows.{live}
use Rattle.table.proofs.After.{take_after, split_after, merge_after, give_after}
use Rattle.table.proofs.Answers.{split_clear, split_fits}
use Rattle.table.proofs.Kept.{row_live}
use Rattle.table.proofs.Sound.{sound}
use Rattle.table.proofs.Tiled.{tiled_next, tiled_fits}
use Rattle.reservations.specs.Core.{Core}
use Rattle.reservations.specs.Revocation.{revoke_of, core_sound}
use Rattle.reservations.proofs.CoreAfter.{revoke_after}
use Rattle.reservations.proofs.CoreKept.{CoreFacts, core_facts}
use Rattle.histories.specs.Inv.{row_at}
use Rattle.histories.proofs.Table.{Carried, take_carried, give_carried, split_carried, merge_carried, revoke_carried}

module _ (c : Core) (ok : core_sound c ≡ true) where
  abbrev t : Table
  t = c.table

  abbrev size : ℕ
  size = 16 * c.pages.v

  facts : CoreFacts c
  facts = core_facts c ok

  -- Rows end at the last cell.
  pub row_fits : (i : ℕ) → i < length (live t) → (row_at t i).base + (row_at t i).length < 65536
  row_fits i h = omega (arith, facts.fits, tiled_fits size (live t) 0 i (sound size t facts.rows).tiled h)

  -- The row above begins where one ends.
  pub row_seam : (i : ℕ) → i + 1 < length (live t) → (row_at t (i + 1)).base ≡ (row_at t i).base + (row_at t i).length
  row_seam i h =
      let n : i + 1 ≡ suc i = omega arith in
      ap (λ k. (row_at t k).base) n ∙ tiled_next size (live t) 0 i (sound size t facts.rows).tiled (omega arith)

  pub take_kept : (p base : ℕ) → (take_of t p base).code ≡ 0 → Carried t (take_of t p base).table
  take_kept p base z = let (i, o, r) = take_after size t facts.rows p base z in take_carried t (take_of t p base).table p base i o r

  -- What a granted split cuts off is part of what it has found.
  pub split_short : (p base len i : ℕ) → (split_of t p base len).code ≡ 0 → find_of t p base ≡ Some i → i < length (live t) → len ≤ (row_at t i).length
  split_short p base len i z found h =
      subst (λ r. len ≤ r.length) (ap (row_of t) found ∙ row_live t i h)
      (split_fits (row_of t (find_of t p base)) len (split_clear t (find_of t p base) len (unfold split_of split_reasons in z)).fits)

  pub split_kept : (p base len : ℕ) → (split_of t p base len).code ≡ 0 → Carried t (split_of t p base len).table
  split_kept p base len z =
      let (i, o, r) = split_after size t facts.rows p base len z in
      let h : i < length (live t) = omega (arith, r.within) in
      split_carried t (split_of t p base len).table p base i len (row_fits i h) o r (split_short p base len i z r.found h)

  pub merge_kept : (p base : ℕ) → (merge_of t p base).code ≡ 0 → Carried t (merge_of t p base).table
  merge_kept p base z =
      let (i, same, r) = merge_after size t facts.rows p base z in
      let h : i + 1 < length (live t) = omega (arith, r.within) in
      let seam = row_seam i h in
      merge_carried t (merge_of t p base).table p base i seam (omega (arith, row_fits (i + 1) h)) same r

  pub give_kept : (p base to : ℕ) → (give_of t p base to).code ≡ 0 → Carried t (give_of t p base to).table
  give_kept p base to z = let (i, o, r) = give_after size t facts.rows p base to z in give_carried t (give_of t p base to).table p base i to o r

  pub revoke_kept : (p base : ℕ) → (revoke_of c p base).code ≡ 0 → Carried t (revoke_of c p base).core.table
  revoke_kept p base z = let (i, r) = revoke_after c ok p base z in revoke_carried t (revoke_of c p base).core.table p base i r
