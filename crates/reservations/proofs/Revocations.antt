-- Revoke and collect keep the core well formed, granted or refused, and so does a sweep's new place. Assumes nothing.
use Rattle.std.specs.Prelude.{Option, Some, None}
use Prim.Native.Nat.{ℕ, ◌+◌, ◌-◌, ◌*◌, ◌<◌, ◌≤◌, min}
use native.Mathlib.Omega.{arith}
use mathlib.Core.Bool.{Bool, true, false, not, ◌&&◌, ◌||◌, true≢false}
use mathlib.Core.List.{List, [], ◌∷◌, ◌++◌}
use mathlib.Core.Path.{◌≡◌, refl, sym, ap, subst, ◌∙◌}
use borrow.Author.Tests.{eqb-true, eq-eqb, leb-true, le-leb, not-true, not-false, lt-ltb}
use lib.Dec.{eqb, leb, ltb}
use lib.ListN.{length, get_or, take, drop}
use Rattle.capabilities.specs.Lists.{pick}
use Rattle.capabilities.specs.Refusals.{first}
use Rattle.capabilities.proofs.Choice.{and_right, pick_yes, pick_no}
use Rattle.capabilities.proofs.Refusals.{first_clear}
use Rattle.pages.specs.Pages.{Pages}
use Rattle.pages.specs.Freed.{all_freed}
use Rattle.pages.specs.Mapping.{any_mapped, freed_of, released_of}
use Rattle.pages.proofs.AllFreed.{freed_all, freed_none_mapped}
use Rattle.pages.proofs.Freeing.{freed_keeps, released_keeps}
use Rattle.sweep.specs.Sweep.{passed, reached}
use Rattle.table.specs.declared.Reservation.{Reservation}
use Rattle.table.specs.Rows.{is_open, is_revoking, blank, live, range_of}
use Rattle.table.specs.Find.{missing, find_of, begins, revoking_of, row_of, with_row}
use Rattle.table.specs.Tiling.{row_sound, revokings, weight}
use Rattle.table.proofs.Truth.{both, or_left, or_right, or_second}
use Rattle.table.proofs.Finding.{found_at}
use Rattle.table.proofs.Dying.{dyings, none, none_is, revoking_none, dyings_length, dyings_not, dyings_yes, no_dyings}
use Rattle.table.proofs.Tiled.{row_some, tiled_row, tiled_fits, revokings_append, revokings_first}
use Rattle.table.proofs.Sound.{sound}
use Rattle.table.proofs.Kept.{cut_one, row_live, row_kept}
use Rattle.table.proofs.Unrevoked.{after_dyings}
use Rattle.reservations.specs.Core.{Core, with_place, unswept}
use Rattle.reservations.specs.Revocation.{running, revoked, whole_pages, revoke_reasons_at, revoke_reasons, revoking_row, revoke_at, revoke_of}
use Rattle.reservations.specs.Revocation.{collect_reasons, collected_row, collected, collect_of, revocation_sound, core_sound}
use Rattle.reservations.proofs.CoreKept.{CoreFacts, core_facts, core_made, dying_sound, dying_sound_lem}

zero_row : (r n : Reservation) → row_sound r ≡ true → n.length ≡ r.length → n.holder ≡ 0 → row_sound n ≡ true
zero_row r n e size holder =
    both (ltb 0 n.length && leb n.holder 7) (is_open n.state || eqb n.holder 0)
    (both (ltb 0 n.length) (leb n.holder 7) (lt-ltb 0 n.length (omega (arith, row_some r e))) (le-leb n.holder 7 (omega arith)))
    (or_second (is_open n.state) (eqb n.holder 0) (eq-eqb n.holder 0 holder))

-- Those below a row, the row and those above it are all.
parts : (l : List Reservation) (i : ℕ) → i < length l → revokings l ≡ revokings (take i l) + (weight (get_or l i blank) + revokings (drop (i + 1) l))
parts l i h =
    let q = drop (i + 1) l in
    ap revokings (cut_one l i h) ∙ revokings_append (take i l) (get_or l i blank ∷ q) ∙ ap (λ k. revokings (take i l) + k) (revokings_first (get_or l i blank) q)

silent : (l : List Reservation) → revokings l ≡ 0 → dyings l ≡ []
silent l e = no_dyings l (sym (dyings_length l) ∙ e)

-- Where no revocation runs, no reservation is Revoking.
pub none_revoking : (c : Core) → running c ≡ false → revokings (live c.table) ≡ 0
unfolding running
none_revoking c e =
    let l = live c.table in
    dyings_length l ∙ ap length (none_is (dyings l) (sym (revoking_none c.table) ∙ not-false _ e))

-- What a granted revoke has found.
pub record Revokes (c : Core) (f : Option ℕ) : Type 0 where
  pub found : missing f ≡ false
  pub whole : whole_pages (row_of c.table f) ≡ true
  pub free : running c ≡ false
  pub unmapped : any_mapped c.pages (range_of (row_of c.table f)) ≡ false

pub revoke_clear : (c : Core) (f : Option ℕ) → first (revoke_reasons_at c f) ≡ 0 → Revokes c f
unfolding revoke_reasons_at
revoke_clear c f e =
    let after6 = first_clear 6 _ _ (λ z. omega arith) e in
    let after7 = first_clear 7 _ _ (λ z. omega arith) after6.1 in
    let after10 = first_clear 10 _ _ (λ z. omega arith) after7.1 in
    let after11 = first_clear 11 _ _ (λ z. omega arith) after10.1 in
    record { found = after6.0; whole = not-false _ after10.0; free = after11.0; unmapped = (first_clear 13 _ _ (λ z. omega arith) after11.1).0 }

pub core_pick : (c x : Core) (code : ℕ) → core_sound c ≡ true → (code ≡ 0 → core_sound x ≡ true) → core_sound (pick (eqb code 0) x c) ≡ true
core_pick c x code ok f = go (eqb code 0) refl
  where
    go : (b : Bool) → eqb code 0 ≡ b → core_sound (pick (eqb code 0) x c) ≡ true
    go true e = ap core_sound (pick_yes (eqb code 0) x c e) ∙ f (eqb-true code 0 e)
    go false e = ap core_sound (pick_no (eqb code 0) x c e) ∙ ok

-- The pages of the range are Freed while a revocation runs.
pub freed_while : (c : Core) → CoreFacts c → running c ≡ true → all_freed c.pages (revoked c) ≡ true
freed_while c facts run =
    let r = row_of c.table (revoking_of c.table) in
    and_right (whole_pages r) (all_freed c.pages (revoked c))
    (sym (pick_yes (running c) (whole_pages r && all_freed c.pages (revoked c)) (eqb c.place 0) run) ∙ (unfold revocation_sound in facts.revocation))

pub collected_at : (c : Core) (f : Option ℕ) → revoking_of c.table ≡ f → collected c ≡ unswept c (released_of c.pages (revoked c)) (with_row c.table f (collected_row (row_of c.table f)))
unfolding collected
collected_at c f e = ap (λ f. unswept c (released_of c.pages (revoked c)) (with_row c.table f (collected_row (row_of c.table f)))) e

-- What a granted collect has found: a revocation runs, and no cell is left.
pub collect_clear : (c : Core) → first (collect_reasons c) ≡ 0 → (not (running c) ≡ false) × (16 * c.pages.f ≤ c.place)
unfolding collect_reasons
collect_clear c e =
    let z = (first_clear 11 _ _ (λ z. omega arith) e).0 in
    let done = leb (16 * c.pages.f) c.place in
    (or_left (not (running c)) (not done) z, leb-true (16 * c.pages.f) c.place (not-false done (or_right (not (running c)) (not done) z)))

any_place : (p : Pages) (a b : ℕ) (d : List Reservation) → none d ≡ false → dying_sound p a d ≡ dying_sound p b d
unfolding dying_sound
any_place p a b [] e = absurd (true≢false e)
any_place p a b (r ∷ d) e = refl

module _ (c : Core) (ok : core_sound c ≡ true) where
  -- Where no revocation runs, the reservation that is revoked is the one Revoking.
  pub revoking_dies : (i : ℕ) → i < length (live c.table) → running c ≡ false
      → dyings (live (with_row c.table (Some i) (revoking_row (row_of c.table (Some i))))) ≡ revoking_row (row_of c.table (Some i)) ∷ []
  revoking_dies i h run =
      let t = c.table in
      let l = live t in
      let q = drop (i + 1) l in
      let n = revoking_row (row_of t (Some i)) in
      let cells = 16 * c.pages.v in
      let zero = none_revoking c run in
      let sums = parts l i h in
      after_dyings cells t (sound cells t (core_facts c ok).rows) i h n ∙ ap (λ d. d ++ dyings (n ∷ q)) (silent (take i l) (omega arith))
      ∙ dyings_yes n q refl ∙ ap (λ d. n ∷ d) (silent q (omega arith))

  revoke_at_kept : (party base : ℕ) (f : Option ℕ) → find_of c.table party base ≡ f → Revokes c f → core_sound (revoke_at c f) ≡ true
  unfolding revoke_at freed_of
  revoke_at_kept party base (Some i) e k =
      let facts = core_facts c ok in
      let t = c.table in
      let cells = 16 * c.pages.v in
      let s = sound cells t facts.rows in
      let h = (found_at (begins party base) (live t) i blank (unfold find_of in e)).0 in
      let l = live t in
      let r = row_of t (Some i) in
      let row = row_live t i h in
      let n = revoking_row r in
      let fit : r.base + r.length ≤ cells = subst (λ x. x.base + x.length ≤ cells) (sym row) (tiled_fits cells l 0 i s.tiled h) in
      let sound-n = zero_row (get_or l i blank) n (tiled_row cells l 0 i s.tiled h) (ap (λ x. x.length) row) refl in
      let zero = none_revoking c k.free in
      let rows = row_kept cells t s i n h (ap (λ x. x.base) row) (ap (λ x. x.length) row) sound-n (omega arith) in
      let x = unswept c (freed_of c.pages (range_of r)) (with_row t (Some i) n) in
      core_made x (freed_keeps c.pages (range_of r) fit facts.layer) rows (omega arith)
      (dying_sound_lem x ∙ ap (dying_sound x.pages 0) (revoking_dies i h k.free) ∙ (unfold dying_sound in both (whole_pages r) (all_freed (freed_of c.pages (range_of r)) (range_of r)) k.whole (freed_all c.pages (range_of r) k.unmapped)))
  revoke_at_kept party base None e k = absurd (true≢false k.found)

  -- 05.
  pub core_revoke : (party base : ℕ) → core_sound (revoke_of c party base).core ≡ true
  unfolding revoke_of revoke_reasons
  core_revoke party base =
      let f = find_of c.table party base in
      core_pick c (revoke_at c f) (first (revoke_reasons_at c f)) ok (λ z. revoke_at_kept party base f refl (revoke_clear c f z))

  -- After a granted one the reservation that it names is the one Revoking.
  pub revoke_dies : (party base : ℕ) → (revoke_of c party base).code ≡ 0 → dyings (live (revoke_of c party base).core.table) ≡ revoking_row (row_of c.table (find_of c.table party base)) ∷ []
  unfolding revoke_of revoke_reasons revoke_at
  revoke_dies party base z =
      let f = find_of c.table party base in
      ap (λ x. dyings (live x.table)) (pick_yes (eqb (first (revoke_reasons_at c f)) 0) (revoke_at c f) c (eq-eqb (first (revoke_reasons_at c f)) 0 z))
      ∙ go f refl (revoke_clear c f z)
    where
      go : (f : Option ℕ) → find_of c.table party base ≡ f → Revokes c f → dyings (live (with_row c.table f (revoking_row (row_of c.table f)))) ≡ revoking_row (row_of c.table f) ∷ []
      go (Some i) e k = revoking_dies i (found_at (begins party base) (live c.table) i blank (unfold find_of in e)).0 k.free
      go None e k = absurd (true≢false k.found)

  collected_kept : (f : Option ℕ) → revoking_of c.table ≡ f → running c ≡ true → core_sound (collected c) ≡ true
  unfolding released_of dying_sound
  collected_kept (Some i) e run =
      let facts = core_facts c ok in
      let t = c.table in
      let cells = 16 * c.pages.v in
      let s = sound cells t facts.rows in
      let l = live t in
      let q = drop (i + 1) l in
      let here = found_at (λ r. is_revoking r.state) l i blank (unfold revoking_of in e) in
      let h = here.0 in
      let r = row_of t (Some i) in
      let row = row_live t i h in
      let n = collected_row r in
      let one : ◌≡◌ {A = ℕ} (weight (get_or l i blank)) 1 = pick_yes (is_revoking (get_or l i blank).state) 1 0 here.1 in
      let sums = parts l i h in
      let sound-n = zero_row (get_or l i blank) n (tiled_row cells l 0 i s.tiled h) (ap (λ x. x.length) row) refl in
      let rows = row_kept cells t s i n h (ap (λ x. x.base) row) (ap (λ x. x.length) row) sound-n (omega (arith, s.single)) in
      let range = revoked c in
      let freed : all_freed c.pages range ≡ true = freed_while c facts run in
      let x = unswept c (released_of c.pages range) (with_row t (Some i) n) in
      let now : dyings (live (with_row t (Some i) n)) ≡ [] =
      after_dyings cells t s i h n ∙ ap (λ d. d ++ dyings (n ∷ q)) (silent (take i l) (omega (arith, s.single)))
      ∙ dyings_not n q refl ∙ silent q (omega (arith, s.single)) in
      ap core_sound (collected_at c (Some i) e)
      ∙ core_made x (released_keeps c.pages range (freed_none_mapped c.pages range freed) facts.layer) rows (omega arith)
      (dying_sound_lem x ∙ ap (dying_sound x.pages 0) now)
  collected_kept None e run = absurd (true≢false (sym (ap (λ f. missing f) e) ∙ not-true (missing (revoking_of c.table)) (unfold running in run)))

  -- 07.
  pub core_collect : core_sound (collect_of c).core ≡ true
  unfolding collect_of
  core_collect =
      core_pick c (collected c) (first (collect_reasons c)) ok
      (λ z. collected_kept (revoking_of c.table) refl (not-false (running c) (collect_clear c z).0))

  -- 06: the place moves on, and nothing else changes.
  sweep_place : (n place : ℕ) → place ≤ 16 * c.pages.f → place + min n (16 * c.pages.f - place) ≤ 16 * c.pages.f
  sweep_place n place h = omega arith

  moved_kept : (place : ℕ) → place ≤ 16 * c.pages.f → running c ≡ true → core_sound (with_place c place) ≡ true
  moved_kept place h run =
      let facts = core_facts c ok in
      let x = with_place c place in
      core_made x facts.layer facts.rows h
      (dying_sound_lem x
      ∙ any_place c.pages place c.place (dyings (live c.table)) (sym (revoking_none c.table) ∙ not-true (missing (revoking_of c.table)) (unfold running in run))
      ∙ sym (dying_sound_lem c) ∙ facts.revocation)

  pub core_sweep : (n : ℕ) → running c ≡ true → core_sound (with_place c (reached c.pages c.place n)) ≡ true
  core_sweep n run = moved_kept (reached c.pages c.place n) (unfold passed in sweep_place n c.place (core_facts c ok).place) run
