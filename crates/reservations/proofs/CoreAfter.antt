-- The core after a granted revoke and collect; no cell is lost by either; what dies is what the revoked range names.
-- Assumes nothing.
use Rattle.std.specs.Prelude.{Option, Some, None}
use Prim.Native.Nat.{ℕ, ◌+◌, ◌*◌, ◌<◌}
use native.Mathlib.Omega.{arith}
use mathlib.Core.Bool.{Bool, true, false, ◌&&◌, true≢false}
use mathlib.Core.List.{[], ◌∷◌, ◌++◌}
use mathlib.Core.Path.{◌≡◌, refl, sym, ap, subst, ◌∙◌}
use borrow.Author.Tests.{eq-eqb, not-true, not-false}
use lib.Dec.{eqb}
use lib.ListN.{length, get_or, take, drop}
use Rattle.capabilities.specs.Capability.{base_of}
use Rattle.capabilities.specs.Death.{dies}
use Rattle.capabilities.specs.Lists.{pick}
use Rattle.capabilities.specs.Range.{inside}
use Rattle.capabilities.specs.Refusals.{first}
use Rattle.capabilities.proofs.Choice.{pick_yes}
use Rattle.capabilities.proofs.Deaths.{none_dies}
use Rattle.pages.specs.Mapping.{freed_of, released_of}
use Rattle.table.specs.Rows.{is_revoking, live, blank, range_of}
use Rattle.table.specs.Find.{find_of, begins, missing, revoking_of, row_of, with_row}
use Rattle.table.specs.Tiling.{table_sound, covers}
use Rattle.table.proofs.Finding.{found_at}
use Rattle.table.proofs.Sound.{sound}
use Rattle.table.proofs.Kept.{row_live}
use Rattle.table.proofs.Cells.{none_lost}
use Rattle.table.proofs.Unrevoked.{with_live}
use Rattle.table.proofs.After.{Replaced}
use Rattle.reservations.specs.Core.{Core}
use Rattle.reservations.specs.Revocation.{running, revoked, dying, revoke_reasons_at, revoke_reasons, revoking_row, revoke_at, revoke_of, collect_reasons, collected_row, collected, collect_of, core_sound}
use Rattle.reservations.proofs.CoreKept.{core_facts}
use Rattle.reservations.proofs.Revocations.{Revokes, revoke_clear, collect_clear, collected_at, core_revoke, core_collect}

module _ (c : Core) (ok : core_sound c ≡ true) where
  abbrev cells : ℕ
  cells = 16 * c.pages.v

  revoke_at_after : (party base : ℕ) (g : Option ℕ) → find_of c.table party base ≡ g → Revokes c g → (i : ℕ) × Replaced c.table (revoke_at c g).table party base i 1 (revoking_row (get_or (live c.table) i blank) ∷ [])
  unfolding revoke_at
  revoke_at_after party base (Some i) e k =
      let t = c.table in
      let here = found_at (begins party base) (live t) i blank (unfold find_of in e) in
      let row = row_live t i here.0 in (
        i,
        record {
          found = e;
          within = omega (arith, here.0);
          named = here.1;
          now = ap (λ r. live (with_row t (Some i) (revoking_row r))) row ∙ with_live cells t (sound cells t (core_facts c ok).rows) i here.0 (revoking_row (get_or (live t) i blank));
        },
      )
  revoke_at_after party base None e k = absurd (true≢false k.found)

  -- A granted revoke: the named reservation is Revoking, and its pages are freed.
  pub revoke_after : (party base : ℕ) → (revoke_of c party base).code ≡ 0 → (i : ℕ) × Replaced c.table (revoke_of c party base).core.table party base i 1 (revoking_row (get_or (live c.table) i blank) ∷ [])
  unfolding revoke_of revoke_reasons
  revoke_after party base z =
      let f = find_of c.table party base in
      let (i, r) = revoke_at_after party base f refl (revoke_clear c f z) in
      let e = pick_yes (eqb (first (revoke_reasons_at c f)) 0) (revoke_at c f) c (eq-eqb (first (revoke_reasons_at c f)) 0 z) in
      (i, record { found = r.found; within = r.within; named = r.named; now = ap (λ x. live x.table) e ∙ r.now })

  collected_after : (f : Option ℕ) → revoking_of c.table ≡ f → running c ≡ true
      → (i : ℕ) × (i < length (live c.table)) × (is_revoking (get_or (live c.table) i blank).state ≡ true)
      × (live (collected c).table ≡ take i (live c.table) ++ collected_row (get_or (live c.table) i blank) ∷ drop (i + 1) (live c.table))
  collected_after (Some i) e run =
      let t = c.table in
      let here = found_at (λ r. is_revoking r.state) (live t) i blank (unfold revoking_of in e) in (
        i,
        here.0,
        here.1,
        ap (λ x. live x.table) (collected_at c (Some i) e) ∙ ap (λ r. live (with_row t (Some i) (collected_row r))) (row_live t i here.0)
            ∙ with_live cells t (sound cells t (core_facts c ok).rows) i here.0 (collected_row (get_or (live t) i blank)),
      )
  collected_after None e run = absurd (true≢false (sym (ap (λ f. missing f) e) ∙ not-true (missing (revoking_of c.table)) (unfold running in run)))

  -- A granted collect: the Revoking reservation is Open.
  pub collect_after : (collect_of c).code ≡ 0
      → (i : ℕ) × (i < length (live c.table)) × (is_revoking (get_or (live c.table) i blank).state ≡ true)
      × (live (collect_of c).core.table ≡ take i (live c.table) ++ collected_row (get_or (live c.table) i blank) ∷ drop (i + 1) (live c.table))
  unfolding collect_of
  collect_after z =
      let (i, h, r, e) = collected_after (revoking_of c.table) refl (not-false (running c) (collect_clear c z).0) in
      (i, h, r, ap (λ x. live x.table) (pick_yes (eqb (first (collect_reasons c)) 0) (collected c) c (eq-eqb (first (collect_reasons c)) 0 z)) ∙ e)

  same_v : (b : Bool) (x : Core) → x.pages.v ≡ c.pages.v → (pick b x c).pages.v ≡ c.pages.v
  same_v true x e = e
  same_v false x e = refl

  -- No cell is lost by a revoke or a collect.
  pub revoke_covers : (party base cell : ℕ) → covers (revoke_of c party base).core.table cell ≡ covers c.table cell
  unfolding revoke_of revoke_at freed_of
  revoke_covers party base cell =
      let x = (revoke_of c party base).core in
      let v = same_v (eqb (first (revoke_reasons c party base)) 0) (revoke_at c (find_of c.table party base)) refl in
      none_lost cells c.table x.table cell (core_facts c ok).rows (subst (λ k. table_sound (16 * k) x.table ≡ true) v (core_facts x (core_revoke c ok party base)).rows)

  pub collect_covers : (cell : ℕ) → covers (collect_of c).core.table cell ≡ covers c.table cell
  unfolding collect_of collected released_of
  collect_covers cell =
      let x = (collect_of c).core in
      let v = same_v (eqb (first (collect_reasons c)) 0) (collected c) refl in
      none_lost cells c.table x.table cell (core_facts c ok).rows (subst (λ k. table_sound (16 * k) x.table ≡ true) v (core_facts x (core_collect c ok)).rows)

-- Where no revocation runs the revoked range is empty, so that the range alone says what dies.
empty_range : (c : Core) (f : Option ℕ) → revoking_of c.table ≡ f → running c ≡ false → (revoked c).length ≡ 0
unfolding revoked row_of
empty_range c (Some i) e q = absurd (true≢false (sym (not-false (missing (revoking_of c.table)) (unfold running in q)) ∙ ap missing e))
empty_range c None e q = ap (λ f. (range_of (row_of c.table f)).length) e

pub dying_dies : (c : Core) (cell : ℕ) → dying c cell ≡ dies (revoked c) cell
unfolding dying
dying_dies c cell = go (running c) refl
  where
    go : (a : Bool) → running c ≡ a → running c && dies (revoked c) cell ≡ dies (revoked c) cell
    go true p = rw p refl
    go false p = rw p (sym (none_dies (revoked c) cell (empty_range c (revoking_of c.table) refl p)))

-- What dies, by its base.
pub dying_inside : (c : Core) (cell : ℕ) → dying c cell ≡ inside (revoked c) (base_of cell)
unfolding dies
dying_inside c cell = dying_dies c cell
