-- A frame's sixteen cells, lent as a part of memory and cleared. Assumes nothing.
use Prim.Native.Nat.{ℕ, ◌+◌, ◌-◌, ◌*◌, ◌≤◌, ◌<◌}
use native.Mathlib.Omega.{arith}
use mathlib.Core.Bool.{true, not}
use mathlib.Core.List.{List, ◌++◌}
use mathlib.Core.Path.{◌≡◌}
use lib.ListN.{length, take, drop, replicate, length-drop}
use lib.Seq.{length-take-le, drop-drop}
use lib.Dec.{eqb}
use borrow.Author.Tests.{eqb-true, leb-false, not-false}
use Rattle.capabilities.specs.Refusals.{first}
use Rattle.capabilities.proofs.Choice.{and_left, and_right}
use Rattle.capabilities.proofs.Refusals.{first_clear}
use Rattle.pages.specs.declared.Frame.{Frame}
use Rattle.pages.specs.Pages.{Pages}
use Rattle.pages.specs.declared.FrameState.TheVariants.{Dirty}
use Rattle.pages.specs.Entries.{is_dirty}
use Rattle.pages.specs.Layer.{frame_at, serves}
use Rattle.pages.specs.Mapping.{zero_reasons, dirty_reasons, no_frame, cleared}
use Rattle.pages.proofs.States.{is_dirty_lem}

-- The part comes back cleared, between what stood before it and what stood after it.
pub put_cleared :
    (frame : Frame) (xs ys : List ℕ) → 16 * frame.0 + 16 ≤ length xs
    → ys ≡ replicate (length (take (16 * frame.0 + 16 - 16 * frame.0) (drop (16 * frame.0) xs))) 0
    → take (16 * frame.0) xs ++ (ys ++ drop (16 * frame.0 + 16 - 16 * frame.0) (drop (16 * frame.0) xs)) ≡ cleared frame xs
unfolding cleared
put_cleared frame xs ys h e =
    let a : ℕ = 16 * frame.0 in
    let n : a + 16 - a ≡ 16 = omega arith in
    let m : length (take 16 (drop a xs)) ≡ 16 = length-take-le 16 (drop a xs) (simp length-drop (omega arith)) in
    rw (e, n, m, drop-drop 16 a xs)

-- Lent memory of the size that is served.
pub served : (s : Pages) (cells tags : ℕ) → serves s cells tags ≡ true → (cells ≡ 16 * s.f) × (tags ≡ 16 * s.f)
served s cells tags e =
    (eqb-true cells (16 * s.f) (and_left (eqb cells (16 * s.f)) _ e), eqb-true tags (16 * s.f) (and_right (eqb cells (16 * s.f)) _ e))

-- What a granted zero knows of the lent lengths and the frame.
pub record Served (s : Pages) (frame : Frame) (cells tags : ℕ) : Type 0 where
  pub of_cells : cells ≡ 16 * s.f
  pub of_tags : tags ≡ 16 * s.f
  pub below : frame.0 < s.f
  pub dirty : frame_at s frame.0 ≡ Dirty

pub zero_served :
    (s : Pages) (frame : Frame) (cells tags : ℕ) → first (zero_reasons s frame cells tags) ≡ 0 → Served s frame cells tags
unfolding zero_reasons dirty_reasons
zero_served s frame cells tags e =
    let one = first_clear 2 (not (serves s cells tags)) _ (λ x. omega arith) e in
    let both = served s cells tags (not-false _ one.0) in
    let two = first_clear 12 (no_frame s frame) _ (λ x. omega arith) one.1 in
    let three = first_clear 14 (not (is_dirty (frame_at s frame.0))) _ (λ x. omega arith) two.1 in
    record { of_cells = both.0; of_tags = both.1; below = leb-false s.f frame.0 two.0; dirty = is_dirty_lem _ (not-false _ three.0) }
