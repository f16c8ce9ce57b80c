-- No rule of revocations looks at a taker but to write one: which reservation is Revoking, and its cells, are the same without takers.
-- So the same capabilities die, and revoke and collect make the same of a core but for takers. Assumes nothing.
use Prim.Native.Nat.{ℕ, ◌*◌}
use mathlib.Core.Bool.{true, not, ◌&&◌, ◌||◌}
use mathlib.Core.List.{[], ◌∷◌}
use mathlib.Core.Path.{◌≡◌, refl, ap, ◌∙◌}
use lib.Dec.{eqb, leb}
use Rattle.capabilities.specs.Lists.{pick}
use Rattle.capabilities.specs.Death.{dies}
use Rattle.capabilities.specs.Refusals.{reason}
use Rattle.pages.specs.Freed.{all_freed}
use Rattle.pages.specs.Mapping.{any_mapped, freed_of, released_of}
use Rattle.table.specs.Rows.{is_revoking, range_of, forget_table}
use Rattle.table.specs.Find.{missing, find_of, revoking_of, row_of, with_row}
use Rattle.reservations.specs.Core.{Core, with_table, unswept}
use Rattle.reservations.specs.Revocation.{forget_core, running, revoked, dying, whole_pages, revoke_reasons_at, revoke_reasons, revoking_row, revoke_at, revoke_of, collect_reasons, collected_row, collected, collect_of, revocation_sound, core_sound}
use Rattle.reservations.proofs.CoreKept.{core_facts, core_made}
use Rattle.table.proofs.Forgetting.{granted_like, table_twice, find_forgets, revoking_forgets, row_forgets, put_by, sound_forgets}

module _ (c : Core) where
  pub core_twice : forget_core (forget_core c) ≡ forget_core c
  core_twice = ap (λ t. with_table c t) (table_twice c.table)

  pub running_forgets : running (forget_core c) ≡ running c
  unfolding running
  running_forgets = ap (λ f. not (missing f)) (revoking_forgets c.table)

  pub revoked_forgets : revoked (forget_core c) ≡ revoked c
  unfolding revoked
  revoked_forgets = ap (λ f. range_of (row_of (forget_table c.table) f)) (revoking_forgets c.table) ∙ ap range_of (row_forgets c.table (revoking_of c.table))

  -- The same capabilities die.
  pub dying_forgets : dying (forget_core c) ≡ dying c
  unfolding dying
  dying_forgets = ap (λ b cell. b && dies (revoked (forget_core c)) cell) running_forgets ∙ ap (λ r cell. running c && dies r cell) revoked_forgets

  pub revoke_reasons_lem : (party base : ℕ) → revoke_reasons (forget_core c) party base ≡ revoke_reasons c party base
  unfolding revoke_reasons revoke_reasons_at
  revoke_reasons_lem party base =
      let f = find_of c.table party base in
      ap (revoke_reasons_at (forget_core c)) (find_forgets c.table party base)
      ∙ ap (λ r. reason 6 (missing f) ∷ reason 7 (is_revoking r.state) ∷ reason 10 (not (whole_pages r)) ∷ reason 11 (running (forget_core c)) ∷ reason 13 (any_mapped c.pages (range_of r)) ∷ []) (row_forgets c.table f)
      ∙ ap (λ b. reason 6 (missing f) ∷ reason 7 (is_revoking (row_of c.table f).state) ∷ reason 10 (not (whole_pages (row_of c.table f))) ∷ reason 11 b ∷ reason 13 (any_mapped c.pages (range_of (row_of c.table f))) ∷ []) running_forgets

  pub revoke_forgets : (party base : ℕ) → forget_core (revoke_of (forget_core c) party base).core ≡ forget_core (revoke_of c party base).core
  unfolding revoke_of revoke_at
  revoke_forgets party base =
      let t = c.table in
      let f = find_of t party base in
      granted_like forget_core (revoke_reasons_lem party base)
      (ap (λ u. unswept c (freed_of c.pages (range_of (row_of (forget_table t) (find_of (forget_table t) party base)))) u)
      (put_by t revoking_row (λ r. refl) (find_of (forget_table t) party base) f (find_forgets t party base))
      ∙ ap (λ x. unswept c (freed_of c.pages (range_of (row_of (forget_table t) x))) (forget_table (with_row t f (revoking_row (row_of t f))))) (find_forgets t party base)
      ∙ ap (λ r. unswept c (freed_of c.pages (range_of r)) (forget_table (with_row t f (revoking_row (row_of t f))))) (row_forgets t f))
      core_twice

  pub collect_reasons_lem : collect_reasons (forget_core c) ≡ collect_reasons c
  unfolding collect_reasons
  collect_reasons_lem = ap (λ b. reason 11 (not b || not (leb (16 * c.pages.f) c.place)) ∷ []) running_forgets

  pub collect_forgets : forget_core (collect_of (forget_core c)).core ≡ forget_core (collect_of c).core
  unfolding collect_of collected
  collect_forgets =
      let t = c.table in
      granted_like forget_core collect_reasons_lem
      (ap (λ u. unswept c (released_of c.pages (revoked (forget_core c))) u) (put_by t collected_row (λ r. refl) (revoking_of (forget_table t)) (revoking_of t) (revoking_forgets t))
      ∙ ap (λ r. unswept c (released_of c.pages r) (forget_table (with_row t (revoking_of t) (collected_row (row_of t (revoking_of t)))))) revoked_forgets)
      core_twice

  revocation_forgets : revocation_sound (forget_core c) ≡ revocation_sound c
  unfolding revocation_sound
  revocation_forgets =
      let bare = forget_core c in
      let t = c.table in
      ap (λ b. pick b (whole_pages (row_of bare.table (revoking_of bare.table)) && all_freed c.pages (revoked bare)) (eqb c.place 0)) running_forgets
      ∙ ap (λ r. pick (running c) (whole_pages (row_of bare.table (revoking_of bare.table)) && all_freed c.pages r) (eqb c.place 0)) revoked_forgets
      ∙ ap (λ f. pick (running c) (whole_pages (row_of bare.table f) && all_freed c.pages (revoked c)) (eqb c.place 0)) (revoking_forgets t)
      ∙ ap (λ r. pick (running c) (whole_pages r && all_freed c.pages (revoked c)) (eqb c.place 0)) (row_forgets t (revoking_of t))

  pub core_forgets : core_sound c ≡ true → core_sound (forget_core c) ≡ true
  core_forgets e =
      let k = core_facts c e in
      core_made (forget_core c) k.layer (sound_forgets (16 * c.pages.v) c.table k.rows) k.place (revocation_forgets ∙ k.revocation)
