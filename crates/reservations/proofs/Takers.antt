-- Takers that fit go on to fit after a revoke and a collect, granted or refused, and a fresh core's fit. Assumes nothing.
use Prim.Native.Nat.{ℕ, ◌+◌, ◌*◌, ◌<◌, ◌≤◌}
use native.Mathlib.Omega.{arith}
use mathlib.Core.Bool.{Bool, true, false, ◌&&◌}
use mathlib.Core.List.{[], ◌∷◌}
use mathlib.Core.Path.{◌≡◌, refl, ap, ◌∙◌}
use lib.Dec.{ltb, leb}
use lib.ListN.{get_or, replicate}
use borrow.Author.Tests.{ltb-true}
use Rattle.capabilities.proofs.Choice.{and_left, pick_yes, pick_no}
use Rattle.pages.specs.Layer.{in_range}
use Rattle.table.specs.declared.Reservation.{Reservation}
use Rattle.table.specs.Rows.{is_open, live, blank}
use Rattle.table.specs.Tiling.{taker_sound, takers_sound, fresh_table}
use Rattle.table.proofs.Sound.{live_made}
use Rattle.table.proofs.Takers.{lent_taker, taker_lent, takers_row, takers_spliced}
use Rattle.table.proofs.TakersKept.{replaced_takers, either, takers_one}
use Rattle.reservations.specs.Core.{Core}
use Rattle.reservations.specs.Revocation.{revoking_taker, revoking_row, revoke_of, collected_row, collect_of, fresh_core, core_sound}
use Rattle.reservations.proofs.Refused.{revoke_refused, collect_refused}
use Rattle.reservations.proofs.CoreAfter.{revoke_after, collect_after}
use Rattle.reservations.proofs.Starts.{whole, fresh_is}

-- "Revoking an Open one sets 0", and the taker of another was at most 8.
revoking_small : (r : Reservation) → taker_sound r ≡ true → revoking_taker r ≤ 8
revoking_small r e = go (is_open r.state) refl
  where
    go : (b : Bool) → is_open r.state ≡ b → revoking_taker r ≤ 8
    go true o = omega (arith, pick_yes (is_open r.state) 0 r.taker o)
    go false o = omega (arith, pick_no (is_open r.state) 0 r.taker o, lent_taker r o e)

module _ (c : Core) (ok : core_sound c ≡ true) (fit : takers_sound (live c.table) ≡ true) where
  pub revoke_takers : (party base : ℕ) → takers_sound (live (revoke_of c party base).core.table) ≡ true
  revoke_takers party base =
      let t = c.table in
      let u = (revoke_of c party base).core.table in
      either (revoke_of c party base).code u
      (λ z. let (i, r) = revoke_after c ok party base z in let old = get_or (live t) i blank in let new = revoking_row old in replaced_takers t u party base i 1 (new ∷ []) r fit (takers_one new (taker_lent new refl (revoking_small old (takers_row (live t) i fit (omega (arith, r.within)))))))
      (λ z. ap (λ x. takers_sound (live x.table)) (revoke_refused c party base z) ∙ fit)

  pub collect_takers : takers_sound (live (collect_of c).core.table) ≡ true
  collect_takers =
      let t = c.table in
      either (collect_of c).code (collect_of c).core.table
      (λ z. let (i, h, r, e) = collect_after c ok z in let new = collected_row (get_or (live t) i blank) in ap takers_sound e ∙ takers_spliced (live t) (new ∷ []) i (i + 1) fit (takers_one new refl))
      (λ z. ap (λ x. takers_sound (live x.table)) (collect_refused c z) ∙ fit)

pub fresh_takers : (v f : ℕ) → in_range v f ≡ true → takers_sound (live (fresh_core v f).table) ≡ true
unfolding fresh_core
fresh_takers v f e =
    let some : 0 < v = ltb-true 0 v (and_left (ltb 0 v) (leb v 256) (and_left (ltb 0 v && leb v 256) (ltb 0 f && leb f 128) e)) in
    let cells = 16 * v in
    ap (λ n. takers_sound (live (fresh_table n))) (pick_yes (in_range v f) cells 0 e)
    ∙ ap (λ t. takers_sound (live t)) (fresh_is cells (omega arith)) ∙ ap takers_sound (live_made (whole cells ∷ []) (replicate 63 blank)) ∙ takers_one (whole cells) refl
