-- 06 in place. Assumes nothing.
use Prim.Native.Nat.{ℕ, ◌-◌, ◌*◌}
use native.Mathlib.Omega.{arith}
use mathlib.Core.Bool.{Bool, false, not, not-not}
use mathlib.Core.List.{List}
use mathlib.Core.Path.{◌≡◌, refl, sym, ap, ◌∙◌}
use lib.ListN.{length}
use lib.Dec.{eqb}
use borrow.Author.Tests.{eq-eqb, ne_eqb}
use Rattle.capabilities.specs.declared.Range.{Range}
use Rattle.capabilities.specs.Lists.{pick}
use Rattle.capabilities.specs.declared.refusal.Refusal.{Refusal}
use Rattle.capabilities.specs.Refusals.{number_of, first}
use Rattle.capabilities.proofs.Refusals.{number_some}
use Rattle.capabilities.proofs.Choice.{pick_yes, pick_no}
use Rattle.pages.specs.Numbers.{layer_of}
use Rattle.sweep.specs.Sweep.{Answer, Passed, swept_tags, swept, passing, sweep_of}
use Rattle.table.proofs.Truth.{both}
use Rattle.reservations.specs.Core.{Core, with_place}
use Rattle.reservations.specs.Revocation.{running, revoked}
use Rattle.calls.specs.declared.Call.{Call}
use Rattle.calls.specs.declared.Call.TheVariants.{Sweep}
use Rattle.words.specs.Words.{slot, empty}
use Rattle.words.specs.WordReasons.{unnamed, not_manager}
use Rattle.machine.specs.State.{State}
use Rattle.machine.specs.Reasons.{reasons}
use Rattle.machine.specs.Effects.{effect, effect_of, keep_registers, keep_mailboxes, sweep_cells, swept_to}
use Rattle.machine.specs.Step.{done, with_core, reasons_on, effect_on, ruled}
use Rattle.machine.proofs.Ruled.{ruled_done, done_sweep}
use Rattle.arrays.specs.declared.Arrays.{Arrays}
use Rattle.arrays.specs.declared.Numbers.{Numbers}
use Rattle.arrays.specs.Reading.{numbers_of, core_of, state_of, arrays_of, Formed}
use Rattle.arrays.specs.Steps.{answer, leaving, left_of}
use Rattle.arrays.proofs.Ruling.{wrote, down}
use Rattle.calls_in_place.specs.Parts.{with_numbers}
use Rattle.calls_in_place.proofs.Early.{early, late}
use Rattle.calls_in_place.proofs.Revoking.{caller_code, running_cached}
use Rattle.calls_in_place.proofs.Cached.{cached_range, revoked_cached}

-- The small numbers, with the sweep at another place.
abbrev pub placed : Numbers → ℕ → Numbers
placed n place = record { v = n.v; f = n.f; count = n.count; place = place; base = n.base; length = n.length }

write_place : (s : State) (q : ℕ) → with_numbers (arrays_of s) (placed (arrays_of s).nums q) ≡ arrays_of (with_core s (with_place s.core q))
unfolding arrays_of numbers_of with_core revoked
write_place s q = refl

module _ (b : Arrays) (f : Formed b) where
  -- No revocation runs if and only if the range that is kept is empty.
  pub still_cached : not (running (state_of b).core) ≡ eqb b.nums.length 0
  still_cached = ap not (running_cached b f) ∙ not-not (eqb b.nums.length 0)

-- 11 where no revocation runs.
abbrev idle_code : Arrays → ℕ
idle_code b = pick (eqb b.nums.length 0) 11 0

module _ (b : Arrays) (f : Formed b) (p n : ℕ) (cells tags : List ℕ) where
  abbrev call : Call
  call = Sweep p n

  -- What every manager's command asks comes first; then a revocation has to run.
  pub sweep_early : (r : Refusal) → number_of r ≡ caller_code p
      → leaving (answer (number_of r) empty) b cells tags ≡ left_of (ruled (state_of b) call cells tags)
  unfolding reasons first
  sweep_early r e = down b f call cells tags (number_of r) (early (unnamed p) (not_manager p) 5 r _ e) (number_some r)

  code_is : 0 ≡ caller_code p → idle_code b ≡ first (reasons_on (state_of b) call cells tags)
  unfolding reasons first
  code_is e0 =
      late (unnamed p) (not_manager p) 5 (λ x. omega (arith, x)) (idle_code b) e0
      ∙ ap (λ (x : Bool). pick (unnamed p) 4 (pick (not_manager p) 5 (pick x 11 0))) (sym (still_cached b f))

  pub sweep_down : 0 ≡ caller_code p → b.nums.length ≡ 0
      → leaving (answer 11 empty) b cells tags ≡ left_of (ruled (state_of b) call cells tags)
  sweep_down e0 z = down b f call cells tags 11 (sym (pick_yes (eqb b.nums.length 0) 11 0 (eq-eqb _ _ z)) ∙ code_is e0) (λ x. omega (arith, x))

  abbrev next : ℕ
  next = swept_to (state_of b).core n

  effect_is : effect_on (state_of b) call cells tags
      ≡ effect_of (with_place (state_of b).core next) keep_registers keep_mailboxes (sweep_cells (revoked (state_of b).core) (state_of b).core.place next) (slot (16 * (state_of b).core.pages.f - next) false)
  unfolding effect
  effect_is = refl

  -- What the sweep of lent memory leaves, where memory is of the right size.
  passes : length cells ≡ 16 * b.nums.f → length tags ≡ 16 * b.nums.f
      → sweep_of (layer_of b.nums.v b.nums.f b.pages b.frames) (cached_range b) b.nums.place n cells tags
      ≡ passing (swept 0 (16 * (state_of b).core.pages.f - next) next) (swept_tags (state_of b).core.pages.frames (revoked (state_of b).core) (state_of b).core.place next cells tags)
  unfolding sweep_of state_of core_of
  passes u v =
      pick_yes _ _ _ (both (eqb (length cells) (16 * b.nums.f)) (eqb (length tags) (16 * b.nums.f)) (eq-eqb _ _ u) (eq-eqb _ _ v))
      ∙ ap (λ (r : Range). passing (swept 0 (16 * (state_of b).core.pages.f - next) next) (swept_tags (state_of b).core.pages.frames r (state_of b).core.place next cells tags)) (sym (revoked_cached b f))

  -- Of small numbers that are lent apart.
  sweep_fits : length cells ≡ 16 * b.nums.f → length tags ≡ 16 * b.nums.f → (frames : List ℕ) → b.frames ≡ frames → (range : Range) → range ≡ cached_range b → (r : Answer) (tags' : List ℕ)
      → passing r tags' ≡ sweep_of (layer_of b.nums.v b.nums.f b.pages frames) range b.nums.place n cells tags
      → passing r tags' ≡ passing (swept 0 (16 * (state_of b).core.pages.f - next) next) (swept_tags (state_of b).core.pages.frames (revoked (state_of b).core) (state_of b).core.place next cells tags)
  sweep_fits u v frames ef range er r tags' d =
      d ∙ ap (λ (o : Range). sweep_of (layer_of b.nums.v b.nums.f b.pages frames) o b.nums.place n cells tags) er
      ∙ ap (λ (l : List ℕ). sweep_of (layer_of b.nums.v b.nums.f b.pages l) (cached_range b) b.nums.place n cells tags) (sym ef) ∙ passes u v

  -- Memory is of the right size, so the sweep itself refuses nothing.
  pub sweep_sized : (r : Refusal) (frames : List ℕ) (range : Range) (tags' : List ℕ)
      → ((v : ℕ) (pages : List ℕ) → passing (swept (number_of r) 0 b.nums.place) tags' ≡ sweep_of (layer_of v b.nums.f pages frames) range b.nums.place n cells tags)
      → b.frames ≡ frames → range ≡ cached_range b → length cells ≡ 16 * b.nums.f → length tags ≡ 16 * b.nums.f
      → leaving (answer (number_of r) empty) b cells tags' ≡ left_of (ruled (state_of b) call cells tags)
  sweep_sized r frames range tags' d ef er u v =
      absurd (number_some r (ap (λ (y : Passed). y.answer.code) (sweep_fits u v frames ef range er (swept (number_of r) 0 b.nums.place) tags' (d b.nums.v b.pages))))

  pub sweep_done : 0 ≡ caller_code p → (b.nums.length ≡ 0 → ⊥)
      → (left place : ℕ) (frames : List ℕ) (range : Range) (tags' : List ℕ)
      → ((v : ℕ) (pages : List ℕ) → passing (swept 0 left place) tags' ≡ sweep_of (layer_of v b.nums.f pages frames) range b.nums.place n cells tags)
      → b.frames ≡ frames → range ≡ cached_range b → length cells ≡ 16 * b.nums.f → length tags ≡ 16 * b.nums.f
      → leaving (answer 0 (slot left false)) (with_numbers b (placed b.nums place)) cells tags' ≡ left_of (ruled (state_of b) call cells tags)
  sweep_done e0 some left place frames range tags' d ef er u v =
      let x : Core = with_place (state_of b).core next in
      let w = slot (16 * (state_of b).core.pages.f - next) false in
      let t = swept_tags (state_of b).core.pages.frames (revoked (state_of b).core) (state_of b).core.place next cells tags in
      let went = sweep_fits u v frames ef range er (swept 0 left place) tags' (d b.nums.v b.pages) in
      ap (λ (y : Passed). leaving (answer 0 (slot y.answer.left false)) (with_numbers b (placed b.nums y.answer.place)) cells y.tags) went
      ∙ wrote 0 w (with_core (state_of b) x) _ cells t (ap (λ (a : Arrays). with_numbers a (placed a.nums next)) (sym f.kept) ∙ write_place (state_of b) next)
      ∙ ap left_of (ruled_done (state_of b) call cells tags 0 (sym (pick_no (eqb b.nums.length 0) 11 0 (ne_eqb _ _ some)) ∙ code_is e0) refl _
      (done_sweep (state_of b) x w cells tags (revoked (state_of b).core) (state_of b).core.place next ∙ sym (ap (λ y. done (state_of b) y cells tags) effect_is)))
