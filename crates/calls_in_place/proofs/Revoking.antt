-- 05 in place. Assumes nothing.
use Rattle.std.specs.Prelude.{Some, Option, None}
use Prim.Native.Nat.{ℕ, ◌*◌, ◌<◌}
use native.Mathlib.Omega.{arith}
use mathlib.Core.Bool.{Bool, false, not, true≢false}
use mathlib.Core.List.{List}
use mathlib.Core.Path.{◌≡◌, refl, sym, ap, subst, ◌∙◌}
use lib.ListN.{length}
use lib.Dec.{eqb}
use borrow.Author.Tests.{eq-eqb, ne_eqb}
use Rattle.capabilities.specs.declared.Range.{Range}
use Rattle.capabilities.specs.Lists.{pick}
use Rattle.capabilities.specs.declared.refusal.Refusal.{Refusal}
use Rattle.capabilities.specs.Refusals.{number_of, first}
use Rattle.capabilities.proofs.Refusals.{number_some}
use Rattle.capabilities.proofs.Choice.{pick_yes}
use Rattle.pages.specs.Mapping.{freed_of}
use Rattle.table.specs.declared.Reservation.{Reservation}
use Rattle.table.specs.Table.{Table}
use Rattle.table.specs.Rows.{is_revoking, range_of, blank, live}
use Rattle.table.specs.Find.{missing, begins, find_of, revoking_of, row_of, with_row}
use Rattle.table.proofs.Sound.{Sound, sound}
use Rattle.table.proofs.Finding.{found_at}
use Rattle.table.proofs.Kept.{row_live}
use Rattle.table.proofs.Tiled.{tiled_some}
use Rattle.table.proofs.Dying.{first_of, revoking_row_lem}
use Rattle.reservations.specs.Core.{Core}
use Rattle.reservations.specs.Revocation.{running, revoked, revoking_row, revoke_reasons_of, revoke_reasons_at, revoke_reasons, revoke_at, revoke_of}
use Rattle.reservations.specs.Lent.{revoked_rows, revoked_pages}
use Rattle.reservations.proofs.CoreKept.{CoreFacts, core_facts}
use Rattle.reservations.proofs.Revocations.{Revokes, revoke_clear, revoking_dies}
use Rattle.reservations.proofs.RowsAndPages.{revoke_rows, revoke_pages}
use Rattle.calls.specs.declared.Call.{Call}
use Rattle.calls.specs.declared.Call.TheVariants.{Revoke}
use Rattle.words.specs.Words.{empty}
use Rattle.words.specs.WordReasons.{unnamed, not_manager}
use Rattle.machine.specs.Reasons.{reasons}
use Rattle.machine.specs.Effects.{effect, effect_of, keep_registers, keep_mailboxes, keep_memory}
use Rattle.machine.specs.Step.{with_core, reasons_on, effect_on, ruled}
use Rattle.machine.proofs.Keeps.{facts}
use Rattle.arrays.specs.declared.Arrays.{Arrays}
use Rattle.arrays.specs.declared.Numbers.{Numbers}
use Rattle.pages.specs.Numbers.{layer_of}
use Rattle.table.specs.Numbers.{table_of}
use Rattle.claims.specs.Numbers.{claims_in}
use Rattle.arrays.specs.Reading.{numbers_of, core_of, state_of, arrays_of, Formed}
use Rattle.arrays.specs.Steps.{answer, leaving, left_of}
use Rattle.arrays.proofs.Ruling.{down, cored}
use Rattle.arrays.proofs.Writing.{same_arrays}
use Rattle.calls_in_place.specs.Parts.{around}
use Rattle.calls_in_place.proofs.Early.{early, late}

-- What a manager's command asks of who calls: 0, or the refusal.
abbrev pub caller_code : ℕ → ℕ
caller_code p = pick (unnamed p) 4 (pick (not_manager p) 5 0)

found_below : (t : Table) (party base i : ℕ) → find_of t party base ≡ Some i → i < length (live t)
unfolding find_of
found_below t party base i e = (found_at (begins party base) (live t) i blank e).0

-- A revocation runs if and only if the range that is kept is not empty.
module _ (b : Arrays) (f : Formed b) where
  abbrev c : Core
  c = (state_of b).core

  abbrev t : Table
  t = (state_of b).core.table

  cf : CoreFacts (state_of b).core
  cf = core_facts (state_of b).core (facts (state_of b) f.well).core

  ts : Sound (16 * (state_of b).core.pages.v) (state_of b).core.table
  ts = sound (16 * c.pages.v) t cf.rows

  found_long : (g : Option ℕ) → revoking_of t ≡ g → not (missing g) ≡ not (eqb (row_of t g).length 0)
  found_long (Some i) e =
      let h = (found_at (λ r. is_revoking r.state) (live t) i blank (unfold revoking_of in e)).0 in
      let p = tiled_some (16 * c.pages.v) (live t) 0 i ts.tiled h in
      let q : 0 < (row_of t (Some i)).length = subst (λ (r : Reservation). 0 < r.length) (sym (row_live t i h)) p in
      sym (ap not (ne_eqb (row_of t (Some i)).length 0 (λ z. omega (arith, q))))
  found_long None e = unfold row_of in refl

  cached_length : b.nums.length ≡ (revoked c).length
  unfolding arrays_of numbers_of
  cached_length = sym (ap (λ (x : Arrays). x.nums.length) f.kept)

  pub running_cached : running c ≡ not (eqb b.nums.length 0)
  unfolding running revoked
  running_cached = found_long (revoking_of t) refl ∙ ap (λ (n : ℕ). not (eqb n 0)) (sym cached_length)

  -- The range after a revoke is the row's.
  revoked_after : (i : ℕ) → i < length (live t) → running c ≡ false → revoked (revoke_at c (Some i)) ≡ range_of (row_of t (Some i))
  unfolding revoked revoke_at
  revoked_after i h run =
      ap range_of (revoking_row_lem (with_row t (Some i) (revoking_row (row_of t (Some i)))) ∙ ap first_of (revoking_dies c (facts (state_of b) f.well).core i h run))

abbrev pub numbers_revoking : Numbers → Range → Numbers
numbers_revoking n r = record { v = n.v; f = n.f; count = n.count; place = 0; base = r.base; length = r.length }

module _ (b : Arrays) (f : Formed b) where
  put_revoked : (i : ℕ) (range : Range) → revoked (revoke_at (state_of b).core (Some i)) ≡ range
      → around b (numbers_revoking b.nums range) (revoked_rows b.rows b.nums.count (Some i)) (revoked_pages b.rows b.nums.count (Some i) b.pages)
      ≡ arrays_of (with_core (state_of b) (revoke_at (state_of b).core (Some i)))
  unfolding arrays_of with_core revoke_at freed_of with_row state_of core_of numbers_of
  put_revoked i range er =
      let n = b.nums in
      let claims = claims_in b.principals b.counts in
      sym (same_arrays (ap (λ (r : Range). r.base) er) (ap (λ (r : Range). r.length) er)
      (ap (λ (x : Arrays). x.words) f.kept) (ap (λ (x : Arrays). x.marks) f.kept) (ap (λ (x : Arrays). x.mail) f.kept) (ap (λ (x : Arrays). x.flags) f.kept)
      (revoke_rows b.rows n.count b.pages n.v n.f n.place b.frames claims (Some i) (ap (λ (x : Arrays). x.rows) f.kept))
      (revoke_pages b.rows n.count b.pages n.v n.f n.place b.frames claims (Some i) (ap (λ (x : Arrays). x.pages) f.kept))
      (ap (λ (x : Arrays). x.frames) f.kept) (ap (λ (x : Arrays). x.principals) f.kept) (ap (λ (x : Arrays). x.counts) f.kept))

-- The call.
module _ (b : Arrays) (f : Formed b) (p base : ℕ) where
  abbrev call : Call
  call = Revoke p base

  module _ (cells tags : List ℕ) where
    -- What every manager's command asks comes first.
    pub revoke_early : (r : Refusal) → number_of r ≡ caller_code p
        → leaving (answer (number_of r) empty) b cells tags ≡ left_of (ruled (state_of b) call cells tags)
    unfolding reasons first
    revoke_early r e = down b f call cells tags (number_of r) (early (unnamed p) (not_manager p) 5 r _ e) (number_some r)

    module _ (e0 : 0 ≡ caller_code p) (at : Option ℕ) (e1 : at ≡ find_of (table_of b.rows b.nums.count) p base) (rest : ℕ)
        (er : rest ≡ first (revoke_reasons_of (layer_of b.nums.v b.nums.f b.pages b.frames) (table_of b.rows b.nums.count) at (not (eqb b.nums.length 0)))) where
      at_is : at ≡ find_of (state_of b).core.table p base
      unfolding state_of core_of
      at_is = e1

      at_rest : rest ≡ first (revoke_reasons_at (state_of b).core at)
      unfolding revoke_reasons_at state_of core_of
      at_rest = er ∙ ap (λ (runs : Bool). first (revoke_reasons_of (state_of b).core.pages (state_of b).core.table at runs)) (sym (running_cached b f))

      rest_is : rest ≡ first (revoke_reasons (state_of b).core p base)
      unfolding revoke_reasons
      rest_is = at_rest ∙ ap (λ g. first (revoke_reasons_at (state_of b).core g)) at_is

      clear_of : rest ≡ 0 → Revokes (state_of b).core at
      clear_of z = revoke_clear (state_of b).core at (sym at_rest ∙ z)

      code_is : rest ≡ first (reasons_on (state_of b) call cells tags)
      unfolding reasons first
      code_is = late (unnamed p) (not_manager p) 5 (λ x. omega (arith, x)) rest e0 ∙ ap (λ n. pick (unnamed p) 4 (pick (not_manager p) 5 n)) rest_is

      effect_is : rest ≡ 0 → effect_on (state_of b) call cells tags ≡ effect_of (revoke_at (state_of b).core at) keep_registers keep_mailboxes keep_memory empty
      unfolding effect revoke_of
      effect_is z =
          let r : first (revoke_reasons (state_of b).core p base) ≡ 0 = sym rest_is ∙ z in
          ap (λ x. effect_of x keep_registers keep_mailboxes keep_memory empty)
          (pick_yes _ (revoke_at (state_of b).core (find_of (state_of b).core.table p base)) (state_of b).core (eq-eqb (first (revoke_reasons (state_of b).core p base)) 0 r) ∙ ap (revoke_at (state_of b).core) (sym at_is))

      done : rest ≡ 0
          → leaving (answer 0 empty) (around b (numbers_revoking b.nums (range_of (row_of (table_of b.rows b.nums.count) at))) (revoked_rows b.rows b.nums.count at) (revoked_pages b.rows b.nums.count at b.pages)) cells tags
          ≡ left_of (ruled (state_of b) call cells tags)
      unfolding state_of core_of
      done z = cored b f call cells tags rest code_is (revoke_at (state_of b).core at) _ z (effect_is z) (go at refl)
        where
          go : (g : Option ℕ) → at ≡ g
              → around b (numbers_revoking b.nums (range_of (row_of (table_of b.rows b.nums.count) at))) (revoked_rows b.rows b.nums.count at) (revoked_pages b.rows b.nums.count at b.pages)
              ≡ arrays_of (with_core (state_of b) (revoke_at (state_of b).core at))
          go (Some i) q =
              let h = found_below (state_of b).core.table p base i (sym at_is ∙ q) in
              subst (λ (g : Option ℕ). around b (numbers_revoking b.nums (range_of (row_of (table_of b.rows b.nums.count) g))) (revoked_rows b.rows b.nums.count g) (revoked_pages b.rows b.nums.count g b.pages)
              ≡ arrays_of (with_core (state_of b) (revoke_at (state_of b).core g))) (sym q)
              (put_revoked b f i (range_of (row_of (table_of b.rows b.nums.count) (Some i))) (revoked_after b f i h (clear_of z).free))
          go None q = absurd (true≢false (sym (ap missing q) ∙ (clear_of z).found))

    pub revoke_down : 0 ≡ caller_code p → (at : Option ℕ) → at ≡ find_of (table_of b.rows b.nums.count) p base → (r : Refusal)
        → ((v f : ℕ) (frames : List ℕ) → number_of r ≡ first (revoke_reasons_of (layer_of v f b.pages frames) (table_of b.rows b.nums.count) at (not (eqb b.nums.length 0))))
        → leaving (answer (number_of r) empty) b cells tags ≡ left_of (ruled (state_of b) call cells tags)
    revoke_down e0 at e1 r er = down b f call cells tags (number_of r) (code_is e0 at e1 (number_of r) (er b.nums.v b.nums.f b.frames)) (number_some r)

    pub revoke_done : 0 ≡ caller_code p → (at : Option ℕ) → at ≡ find_of (table_of b.rows b.nums.count) p base
        → ((v f : ℕ) (frames : List ℕ) → 0 ≡ first (revoke_reasons_of (layer_of v f b.pages frames) (table_of b.rows b.nums.count) at (not (eqb b.nums.length 0))))
        → (range : Range) → range ≡ range_of (row_of (table_of b.rows b.nums.count) at)
        → (rows pages : List ℕ) → rows ≡ revoked_rows b.rows b.nums.count at → pages ≡ revoked_pages b.rows b.nums.count at b.pages
        → leaving (answer 0 empty) (around b (numbers_revoking b.nums range) rows pages) cells tags ≡ left_of (ruled (state_of b) call cells tags)
    revoke_done e0 at e1 er range eg rows pages ew ep = rw (eg, ew, ep) (done e0 at e1 0 (er b.nums.v b.nums.f b.frames) refl)
