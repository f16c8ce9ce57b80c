-- A fresh table and a fresh core are well formed. Assumes nothing.
use Prim.Native.Nat.{ℕ, ◌+◌, ◌*◌, ◌<◌}
use native.Mathlib.Nat.{zero-add}
use native.Mathlib.Omega.{arith}
use mathlib.Core.Bool.{true, ◌&&◌}
use mathlib.Core.List.{[], ◌∷◌}
use mathlib.Core.Path.{◌≡◌, refl, ap, ◌∙◌}
use borrow.Author.Tests.{eq-eqb, ne_eqb, ltb-true}
use lib.Dec.{eqb, ltb, leb}
use lib.ListN.{replicate}
use Rattle.capabilities.specs.Lists.{pick}
use Rattle.capabilities.proofs.Choice.{and_left, pick_yes, pick_no}
use Rattle.pages.specs.Layer.{in_range, blank as blankPages, fresh_of}
use Rattle.pages.proofs.Kept.{fresh_formed}
use Rattle.table.specs.declared.Reservation.{Reservation}
use Rattle.table.specs.declared.ReservationState.TheVariants.{Open}
use Rattle.table.specs.Rows.{blank, live, reservation, table, no_taker}
use Rattle.table.specs.Tiling.{tiles, all_blank, revokings, table_sound, fresh_table}
use Rattle.table.proofs.Tiled.{tiles_made, row_open}
use Rattle.table.proofs.Sound.{made_sound, live_made}
use Rattle.table.proofs.Dying.{dyings}
use Rattle.reservations.specs.Revocation.{fresh_core, core_sound}
use Rattle.reservations.proofs.CoreKept.{core_made, dying_sound, dying_sound_lem}

abbrev pub whole : ℕ → Reservation
whole cells = reservation 0 cells Open 0 no_taker

pub fresh_is : (cells : ℕ) → 0 < cells → fresh_table cells ≡ table (whole cells ∷ replicate 63 blank) 1
unfolding fresh_table
fresh_is cells h = pick_no (eqb cells 0) (table (replicate 64 blank) 0) (table (whole cells ∷ replicate 63 blank) 1) (ne_eqb cells 0 (λ z. omega arith))

whole_tiles : (cells : ℕ) → 0 < cells → tiles 0 cells (whole cells ∷ []) ≡ true
whole_tiles cells h = tiles_made 0 cells (whole cells) [] refl (row_open 0 cells 0 no_taker refl h) (unfold tiles in eq-eqb (0 + cells) cells (zero-add cells))

pub table_fresh : (cells : ℕ) → 0 < cells → table_sound cells (fresh_table cells) ≡ true
table_fresh cells h =
    ap (table_sound cells) (fresh_is cells h)
    ∙ made_sound cells (whole cells ∷ []) (replicate 63 blank) refl (omega arith) (whole_tiles cells h) (unfold all_blank in refl) (unfold revokings in omega arith)

fresh_quiet : (cells : ℕ) → 0 < cells → dyings (live (fresh_table cells)) ≡ []
unfolding dyings
fresh_quiet cells h = ap (λ t. dyings (live t)) (fresh_is cells h) ∙ ap dyings (live_made (whole cells ∷ []) (replicate 63 blank))

pub core_fresh : (v f : ℕ) → in_range v f ≡ true → core_sound (fresh_core v f) ≡ true
unfolding fresh_core
core_fresh v f e =
    let some : 0 < v = ltb-true 0 v (and_left (ltb 0 v) (leb v 256) (and_left (ltb 0 v && leb v 256) (ltb 0 f && leb f 128) e)) in
    let size : pick (in_range v f) (16 * v) 0 ≡ 16 * v = pick_yes (in_range v f) (16 * v) 0 e in
    let pages : (fresh_of v f).v ≡ v = unfold fresh_of in ap (λ s. s.v) (pick_yes (in_range v f) (blankPages v f) (blankPages 0 0) e) in
    core_made (fresh_core v f) (fresh_formed v f e)
    (ap (λ k. table_sound (16 * k) (fresh_table (pick (in_range v f) (16 * v) 0))) pages ∙ ap (λ k. table_sound (16 * v) (fresh_table k)) size ∙ table_fresh (16 * v) (omega arith))
    (omega arith)
    (dying_sound_lem (fresh_core v f) ∙ ap (dying_sound (fresh_of v f) 0) (ap (λ k. dyings (live (fresh_table k))) size ∙ fresh_quiet (16 * v) (omega arith)) ∙ (unfold dying_sound in refl))
