-- The arrays that a start's state is written as. Assumes nothing.
use Prim.Native.Nat.{ℕ, ◌+◌, ◌*◌, ◌<◌}
use native.Mathlib.Omega.{arith}
use mathlib.Core.Bool.{Bool, true, false, ◌&&◌}
use mathlib.Core.List.{List, ◌∷◌}
use mathlib.Core.Path.{◌≡◌, ap, ◌∙◌}
use lib.ListN.{set, replicate}
use lib.Dec.{eqb, ltb, leb}
use borrow.Author.Tests.{ne_eqb, ltb-true}
use Rattle.capabilities.specs.Lists.{pick}
use Rattle.capabilities.proofs.Choice.{pick_yes, pick_no, and_left}
use Rattle.pages.specs.Pages.{Pages}
use Rattle.pages.specs.Layer.{in_range, blank, fresh_of}
use Rattle.pages.specs.Numbers.{page_code, frame_code}
use Rattle.table.specs.Table.{Table}
use Rattle.table.specs.declared.ReservationState.TheVariants.{Open}
use Rattle.table.specs.Rows.{table, reservation, no_taker, live}
use Rattle.table.specs.Rows as rows
use Rattle.table.specs.Find.{seek, revoking_of, row_of}
use Rattle.table.specs.Tiling.{fresh_table}
use Rattle.table.specs.Numbers.{row_code}
use Rattle.claims.specs.Claims.{Claims}
use Rattle.claims.specs.Sound.{fresh_claims}
use Rattle.claims.proofs.RoundTrip.{fresh_numbers, fresh_counts, blank_numbers, blank_counts}
use Rattle.reservations.specs.Core.{core}
use Rattle.reservations.specs.Revocation.{fresh_core, revoked}
use Rattle.words.specs.Words.{empty}
use Rattle.machine.specs.State.{State}
use Rattle.machine.specs.Formed.{fresh}
use Rattle.arrays.specs.declared.Arrays.{Arrays}
use Rattle.arrays.specs.Reading.{arrays, numbers_of, arrays_of}

-- All numbers but V, F, the count, the first row and the first principal are 0.
abbrev pub begun : ℕ → ℕ → ℕ → List ℕ → List ℕ → Arrays
begun v f count rows principals =
    arrays (record { v = v; f = f; count = count; place = 0; base = 0; length = 0 })
    (replicate 64 0) (replicate 64 0) (replicate 8 0) (replicate 8 0) rows (replicate 256 0) (replicate 128 0) principals (replicate 8192 0)

-- The number of a fresh start's one reservation: 16 V cells from 0 on, Open, held by party 0, with taker 9.
abbrev pub first_number : ℕ → ℕ
first_number v = 1048576 * v + 2533274790395904

-- The number of principal 0: in being, party 0's, with 8,192 unspent.
abbrev pub root_number : ℕ
root_number = 4294975488

-- A state with this layer, this table and these claims, and nothing else.
abbrev bare : Pages → Table → Claims → State
bare p t x = record { core = core p t 0 x; registers = replicate 64 empty; mailboxes = replicate 8 empty }

-- Arrays with these claims' numbers.
claiming : (b : List ℕ → List ℕ → Arrays) {x y u w : List ℕ} → x ≡ y → u ≡ w → b x u ≡ b y w
claiming b {y} {u} e g = ap (λ l. b l u) e ∙ ap (b y) g

abbrev around : ℕ → ℕ → ℕ → List ℕ → List ℕ → List ℕ → Arrays
around v f count rows principals counts =
    arrays (record { v = v; f = f; count = count; place = 0; base = 0; length = 0 })
    (replicate 64 0) (replicate 64 0) (replicate 8 0) (replicate 8 0) rows (replicate 256 0) (replicate 128 0) principals counts

written_zero : arrays_of (bare (blank 0 0) (table (replicate 64 rows.blank) 0) (fresh_claims false)) ≡ begun 0 0 0 (replicate 64 0) (replicate 32 0)
unfolding arrays_of numbers_of revoked revoking_of row_of seek live row_code page_code frame_code
written_zero = claiming (around 0 0 0 (replicate 64 0)) blank_numbers blank_counts

written_one : (v f n : ℕ) → arrays_of (bare (blank v f) (table (reservation 0 n Open 0 no_taker ∷ replicate 63 rows.blank) 1) (fresh_claims true))
    ≡ begun v f 1 (set (replicate 64 0) 0 (65536 * n + 2533274790395904)) (set (replicate 32 0) 0 root_number)
unfolding arrays_of numbers_of revoked revoking_of row_of seek live row_code page_code frame_code
written_one v f n =
    claiming (around v f 1 _) fresh_numbers fresh_counts ∙ ap (λ (x : ℕ). begun v f 1 (x ∷ replicate 63 0) (root_number ∷ replicate 31 0)) (omega arith)

pub fresh_in : (v f : ℕ) → in_range v f ≡ true → arrays_of (fresh v f) ≡ begun v f 1 (set (replicate 64 0) 0 (first_number v)) (set (replicate 32 0) 0 root_number)
unfolding fresh fresh_core fresh_of fresh_table
fresh_in v f e =
    let some : 0 < v = ltb-true 0 v (and_left (ltb 0 v) (leb v 256) (and_left (ltb 0 v && leb v 256) (ltb 0 f && leb f 128) e)) in
    let cells : pick (in_range v f) (16 * v) 0 ≡ 16 * v = pick_yes (in_range v f) (16 * v) 0 e in
    ap (λ (b : Bool). arrays_of (bare (fresh_of v f) (fresh_table (pick (in_range v f) (16 * v) 0)) (fresh_claims b))) e
    ∙ ap (λ (p : Pages). arrays_of (bare p (fresh_table (pick (in_range v f) (16 * v) 0)) (fresh_claims true))) (pick_yes (in_range v f) (blank v f) (blank 0 0) e)
    ∙ ap (λ (n : ℕ). arrays_of (bare (blank v f) (fresh_table n) (fresh_claims true))) cells
    ∙ ap (λ (t : Table). arrays_of (bare (blank v f) t (fresh_claims true))) (pick_no (eqb (16 * v) 0) (table (replicate 64 rows.blank) 0) (table (reservation 0 (16 * v) Open 0 no_taker ∷ replicate 63 rows.blank) 1) (ne_eqb (16 * v) 0 (λ z. omega arith)))
    ∙ written_one v f (16 * v) ∙ ap (λ (n : ℕ). begun v f 1 (set (replicate 64 0) 0 n) (set (replicate 32 0) 0 root_number)) (omega arith)

pub fresh_out : (v f : ℕ) → in_range v f ≡ false → arrays_of (fresh v f) ≡ begun 0 0 0 (replicate 64 0) (replicate 32 0)
unfolding fresh fresh_core fresh_of
fresh_out v f e =
    ap (λ (b : Bool). arrays_of (bare (fresh_of v f) (fresh_table (pick (in_range v f) (16 * v) 0)) (fresh_claims b))) e
    ∙ ap (λ (p : Pages). arrays_of (bare p (fresh_table (pick (in_range v f) (16 * v) 0)) (fresh_claims false))) (pick_no (in_range v f) (blank v f) (blank 0 0) e)
    ∙ ap (λ (n : ℕ). arrays_of (bare (blank 0 0) (fresh_table n) (fresh_claims false))) (pick_no (in_range v f) (16 * v) 0 e)
    ∙ unfold fresh_table in written_zero
