-- A revocation that runs is brought to its end by a sweep of all cells and a collect; so is one of a Taken reservation of whole pages that
-- has no Mapped page. Assumes nothing.
use Rattle.std.specs.Prelude.{Some}
use Prim.Native.Nat.{ℕ, zero, suc, ◌+◌, ◌*◌, ◌<◌, ◌≤◌}
use native.Mathlib.Nat.{zero-add}
use native.Mathlib.Numerals.{add-one}
use native.Mathlib.Omega.{arith}
use mathlib.Core.Bool.{Bool, true, false, not, ◌&&◌}
use mathlib.Core.List.{List, [], ◌∷◌, ◌++◌}
use mathlib.Core.Path.{◌≡◌, refl, sym, ap, subst, ◌∙◌}
use borrow.Author.Tests.{le-leb}
use lib.ListN.{length, get_or, take, drop, set, length-set}
use lib.Seq.{set_split, get_or-set_same}
use Rattle.capabilities.specs.declared.Range.{Range}
use Rattle.capabilities.specs.Lists.{pick}
use Rattle.capabilities.specs.Range.{inside, page_inside}
use Rattle.capabilities.specs.Refusals.{first}
use Rattle.capabilities.proofs.Choice.{pick_yes}
use Rattle.capabilities.proofs.Lists.{each_all, length_map_each}
use Rattle.pages.specs.declared.PageState.TheVariants.{Unmapped, Freed}
use Rattle.pages.specs.Pages.{Pages}
use Rattle.pages.specs.Entries.{is_unmapped, is_mapped, page_entry}
use Rattle.pages.specs.Layer.{page_at}
use Rattle.pages.specs.Mapping.{any_mapped, not_mapped_in, freed_entry, freed_of, released_of}
use Rattle.pages.proofs.Freeing.{page_below, freed_at, released_at}
use Rattle.table.specs.declared.Reservation.{Reservation}
use Rattle.table.specs.declared.ReservationState.TheVariants.{Taken}
use Rattle.table.specs.Table.{Table}
use Rattle.table.specs.Find.{find_of, row_of}
use Rattle.table.specs.Rows.{is_revoking, blank, live, range_of}
use Rattle.table.specs.Tiling.{revokings, weight}
use Rattle.table.proofs.Cells.{inside_made, no_shared_cell}
use Rattle.table.proofs.Dying.{none, dyings_length, no_dyings}
use Rattle.table.proofs.Finding.{at_same}
use Rattle.table.proofs.Kept.{cut_one, row_live}
use Rattle.table.proofs.Sound.{sound}
use Rattle.table.proofs.Tiled.{row_some, tiled_fits, revokings_append, revokings_first}
use Rattle.sweep.specs.Sweep.{passed}
use Rattle.reservations.specs.Core.{Core, with_place}
use Rattle.reservations.specs.Revocation.{running, revoked, whole_pages, revoke_reasons, revoke_reasons_at, revoke_of, revoking_row, collect_reasons, collected_row, collect_of, core_sound}
use Rattle.reservations.proofs.CoreAfter.{revoke_after}
use Rattle.reservations.proofs.CoreKept.{core_facts}
use Rattle.calls.specs.declared.Call.{Call}
use Rattle.calls.specs.declared.Call.TheVariants.{Revoke, Sweep, Collect}
use Rattle.words.specs.declared.Slot.{Slot}
use Rattle.words.specs.Words.{empty}
use Rattle.machine.specs.Effects.{effect, swept_to}
use Rattle.machine.specs.Reasons.{Reads, reading, reasons}
use Rattle.machine.specs.Step.{done, reasons_on}
use Rattle.machine.proofs.ClaimsKept.{revoke_claims, collect_claims}
use Rattle.histories.specs.Runs.{Machine, Granted, next, run}
use Rattle.histories.specs.Inv.{row_at}
use Rattle.histories.specs.Forming.{Standing}
use Rattle.histories.specs.Restoring.{sweep_and_collect, finishing, revoking}
use Rattle.histories.proofs.Granted.{Went, went, went_next}
use Rattle.histories.proofs.Findings.{Ends, revoke_parts}
use Rattle.histories.proofs.Survivors.{collect_core, collect_ends}
use Rattle.histories.proofs.Forming.{standing_core, standing_facts, standing_code, standing_next}
use Rattle.reservations.proofs.Revocations.{none_revoking}
use Rattle.histories.proofs.Table.{running_by}
use Rattle.histories.proofs.Revokes.{revoke_core, revoke_runs, revoke_range}
use Rattle.histories.proofs.Leading.{Leads, leads_none, leads_more, leads_to}
use Rattle.histories.proofs.Naming.{sound_row, find_row}
use Rattle.histories.proofs.RestoringPages.{page_long}

-- A core once its revocation has ended.
pub record Finished (c : Core) (n : Machine) : Type 0 where
  pub row : ℕ
  pub used : row < length (live c.table)
  pub dies : is_revoking (row_at c.table row).state ≡ true
  pub range : revoked c ≡ range_of (row_at c.table row)
  pub rows : live n.state.core.table ≡ set (live c.table) row (collected_row (row_at c.table row))
  pub pages : n.state.core.pages ≡ released_of c.pages (range_of (row_at c.table row))
  pub claims : n.state.core.claims ≡ c.claims

-- A row in place of another.
set_row : (l : List Reservation) (i : ℕ) (r : Reservation) → i < length l → set l i r ≡ take i l ++ r ∷ drop (i + 1) l
set_row l i r h = rw (add-one i) (set_split l i r h)

sweep_free : (c : Core) (mail : List Slot) (r : Reads) (n : ℕ) → running c ≡ true → first (reasons c mail r (Sweep 0 n)) ≡ 0
unfolding reasons first
sweep_free c mail r n e = rw e

collect_free : (c : Core) (mail : List Slot) (r : Reads) → running c ≡ true → 16 * c.pages.f ≤ c.place → first (reasons c mail r (Collect 0)) ≡ 0
unfolding reasons first collect_reasons
collect_free c mail r e over = rw (e, le-leb (16 * c.pages.f) c.place over)

same_running : (c : Core) (place : ℕ) → running (with_place c place) ≡ running c
unfolding running
same_running c place = refl

same_revoked : (c : Core) (place : ℕ) → revoked (with_place c place) ≡ revoked c
unfolding revoked
same_revoked c place = refl

all_swept : (c : Core) (n : ℕ) → c.place ≤ 16 * c.pages.f → 16 * c.pages.f ≤ n → swept_to c n ≡ 16 * c.pages.f
unfolding passed
all_swept c n h b = omega arith

-- A sweep of as many cells as there are, or more.
module _ (m : Machine) (v f : ℕ) (k : Standing m v f) (e : running m.state.core ≡ true) (cells : ℕ) (all : 16 * f ≤ cells) where
  abbrev c : Core
  c = m.state.core

  abbrev n₁ : Machine
  n₁ = next m (Sweep 0 cells)

  abbrev c₁ : Core
  c₁ = with_place c (16 * c.pages.f)

  sweep_goes : Granted m (Sweep 0 cells)
  sweep_goes = standing_code m v f (Sweep 0 cells) k ∙ sweep_free c m.state.mailboxes _ cells e

  swept_core : n₁.state.core ≡ c₁
  unfolding effect done
  swept_core =
      ap (λ n. n.state.core) (went_next m (Sweep 0 cells) (went m (Sweep 0 cells) sweep_goes))
      ∙ ap (λ place. with_place c place) (all_swept c cells (standing_facts m v f k).place (omega (arith, k.of_f)))

  collect_goes : Granted n₁ (Collect 0)
  collect_goes =
      standing_code n₁ v f (Collect 0) (standing_next m v f (Sweep 0 cells) k)
      ∙ ap (λ d. first (reasons d n₁.state.mailboxes (reading empty empty []) (Collect 0))) swept_core
      ∙ collect_free c₁ n₁.state.mailboxes (reading empty empty []) (same_running c (16 * c.pages.f) ∙ e) (omega arith)

  finished : Finished c (next n₁ (Collect 0))
  finished =
      let w = went n₁ (Collect 0) collect_goes in
      subst (λ d. (next n₁ (Collect 0)).state.core ≡ (collect_of d).core → Ends d → Finished c (next n₁ (Collect 0))) (sym swept_core)
      (λ g s.
      record {
        row = s.row;
        used = s.used;
        dies = s.dies;
        range = sym (same_revoked c (16 * c.pages.f)) ∙ s.range;
        rows = ap (λ x. live x.table) g ∙ s.now ∙ sym (set_row (live c.table) s.row (collected_row (row_at c.table s.row)) s.used);
        pages = ap (λ x. x.pages) (g ∙ s.parts) ∙ ap (released_of c.pages) s.range;
        claims = ap (λ x. x.claims) g ∙ collect_claims c₁;
      })
      (collect_core n₁ (Collect 0) 0 refl w) (collect_ends n₁ (Collect 0) 0 refl w)

  finished_by : Leads (Finished c) m (Sweep 0 cells ∷ Collect 0 ∷ [])
  finished_by = leads_more (Finished c) m (Sweep 0 cells) (Collect 0 ∷ []) sweep_goes (leads_more (Finished c) n₁ (Collect 0) [] collect_goes (leads_none (Finished c) (next n₁ (Collect 0)) finished))

pub ending_leads : (m : Machine) (v f : ℕ) → Standing m v f → running m.state.core ≡ true → Leads (Finished m.state.core) m (sweep_and_collect f)
unfolding sweep_and_collect
ending_leads m v f k e = finished_by m v f k e _ (omega arith)

-- Once it has ended no reservation is Revoking.
finished_still : (c : Core) (n : Machine) → core_sound c ≡ true → Finished c n → revokings (live n.state.core.table) ≡ 0
finished_still c n ok k =
    let l = live c.table in
    let i = k.row in
    let q = drop (k.row + 1) (live c.table) in
    let r = row_at c.table k.row in
    let s = sound (16 * c.pages.v) c.table (core_facts c ok).rows in
    let one : ◌≡◌ {A = ℕ} (weight (row_at c.table k.row)) 1 = pick_yes (is_revoking r.state) 1 0 k.dies in
    omega (
      arith,
      ap revokings (k.rows ∙ set_row l i (collected_row r) k.used),
      revokings_append (take i l) (collected_row r ∷ q),
      revokings_first (collected_row r) q,
      ap revokings (cut_one l i k.used),
      revokings_append (take i l) (r ∷ q),
      revokings_first r q,
      s.single,
    )

pub finished_quiet : (c : Core) (n : Machine) → core_sound c ≡ true → Finished c n → running n.state.core ≡ false
finished_quiet c n ok k =
    let l = live n.state.core.table in
    running_by n.state.core ∙ ap (λ x. not (none x)) (no_dyings l (sym (dyings_length l) ∙ finished_still c n ok k))

pub finishing_leads : (m : Machine) (v f : ℕ) → Standing m v f → Leads (λ n. revokings (live n.state.core.table) ≡ 0) m (finishing m)
unfolding finishing
finishing_leads m v f k = go (running m.state.core) refl
  where
    Q : Machine → Type 0
    Q n = revokings (live n.state.core.table) ≡ 0

    go : (b : Bool) → running m.state.core ≡ b → Leads Q m (pick (running m.state.core) (sweep_and_collect m.state.core.pages.f) [])
    go true e =
        rw e
        (subst (λ x. Leads Q m (sweep_and_collect x)) (sym k.of_f)
        (leads_to (Finished m.state.core) Q m (sweep_and_collect f) (ending_leads m v f k e) (finished_still m.state.core (run m (sweep_and_collect f)) (standing_core m v f k))))
    go false e = rw e (leads_none Q m (none_revoking m.state.core e))

-- A reservation once it was revoked and the revocation has ended.
pub record Recovered (c : Core) (v i : ℕ) (n : Machine) : Type 0 where
  pub rows : live n.state.core.table ≡ set (live c.table) i (collected_row (row_at c.table i))
  pub pages : (p : ℕ) → p < v → page_at n.state.core.pages p ≡ pick (page_inside (range_of (row_at c.table i)) p) Unmapped (page_at c.pages p)
  pub quiet : running n.state.core ≡ false
  pub claims : n.state.core.claims ≡ c.claims

set_twice : (l : List Reservation) (i : ℕ) (r q : Reservation) → set (set l i r) i q ≡ set l i q
set_twice [] i r q = refl
set_twice (x ∷ l) zero r q = refl
set_twice (x ∷ l) (suc i) r q = ap (λ y. x ∷ y) (set_twice l i r q)

freed_length : (s : Pages) (r : Range) → length (freed_of s r).pages ≡ length s.pages
unfolding freed_of
freed_length s r = length_map_each (freed_entry r) 0 s.pages

-- A page of a range that was freed and then released, and one outside of it.
freed_released : (s : Pages) (r : Range) (p : ℕ) → p < length s.pages → page_at (released_of (freed_of s r) r) p ≡ pick (page_inside r p) Unmapped (page_at s p)
freed_released s r p b = released_at (freed_of s r) r p (subst (λ n. p < n) (sym (freed_length s r)) b) ∙ go (page_inside r p) refl
  where
    go : (b : Bool) → page_inside r p ≡ b → pick b Unmapped (page_at (freed_of s r) p) ≡ pick b Unmapped (page_at s p)
    go true e = refl
    go false e = freed_at s r p b ∙ ap (λ x. pick (x && is_unmapped (page_at s p)) Freed (page_at s p)) e

-- No revocation runs, and a reservation of whole pages that party 0 holds has no Mapped page.
module _ (m : Machine) (v f : ℕ) (k : Standing m v f) (still : running m.state.core ≡ false) (i : ℕ) (h : i < length (live m.state.core.table))
    (lent : (row_at m.state.core.table i).state ≡ Taken) (holder : (row_at m.state.core.table i).holder ≡ 0) (whole : whole_pages (row_at m.state.core.table i) ≡ true)
    (bare : (p : ℕ) → p < v → page_inside (range_of (row_at m.state.core.table i)) p ≡ true → is_mapped (page_at m.state.core.pages p) ≡ false) where
  abbrev c₀ : Core
  c₀ = m.state.core

  abbrev t : Table
  t = m.state.core.table

  abbrev r₀ : Reservation
  r₀ = row_at t i

  abbrev call : Call
  call = Revoke 0 r₀.base

  found : find_of t 0 r₀.base ≡ Some i
  found = sym (ap (λ p. find_of t p r₀.base) holder) ∙ find_row (16 * c₀.pages.v) t (standing_facts m v f k).rows i h

  row_found : row_of t (Some i) ≡ r₀
  row_found = row_live t i h

  none_mapped : any_mapped c₀.pages (range_of r₀) ≡ false
  unfolding any_mapped not_mapped_in page_at
  none_mapped = ap not (each_all (not_mapped_in (range_of r₀)) 0 c₀.pages.pages (page_entry Unmapped) (λ p b. go p (page_inside (range_of r₀) (0 + p)) refl))
    where
      fits : r₀.base + r₀.length ≤ 16 * c₀.pages.v
      fits = tiled_fits (16 * c₀.pages.v) (live t) 0 i (sound (16 * c₀.pages.v) t (standing_facts m v f k).rows).tiled h

      go : (p : ℕ) (b : Bool) → page_inside (range_of r₀) (0 + p) ≡ b → not (b && is_mapped (get_or c₀.pages.pages p (page_entry Unmapped)).state) ≡ true
      go p true e =
          let n : 0 + p ≡ p = zero-add p in
          ap not (bare p (omega (arith, k.of_v, page_below c₀.pages (range_of r₀) (0 + p) fits e)) (sym (ap (page_inside (range_of r₀)) n) ∙ e))
      go p false e = refl

  revoke_clear : first (revoke_reasons c₀ 0 r₀.base) ≡ 0
  unfolding first revoke_reasons revoke_reasons_at
  revoke_clear = let calm : is_revoking r₀.state ≡ false = ap is_revoking lent in rw (found, row_found, calm, whole, still, none_mapped)

  revoke_free : first (reasons_on m.state call m.cells m.tags) ≡ 0
  unfolding reasons first
  revoke_free = revoke_clear

  revoke_goes : Granted m call
  revoke_goes = standing_code m v f call k ∙ revoke_free

  abbrev n₂ : Machine
  n₂ = next m call

  abbrev t₂ : Table
  t₂ = n₂.state.core.table

  revoke_went : Went m call
  revoke_went = went m call revoke_goes

  revoke_granted : (revoke_of c₀ 0 r₀.base).code ≡ 0
  unfolding revoke_of
  revoke_granted = revoke_clear

  k₂ : Standing n₂ v f
  k₂ = standing_next m v f call k

  rows_then : live t₂ ≡ set (live t) i (revoking_row r₀)
  rows_then =
      let (j, r) = revoke_after c₀ (standing_core m v f k) 0 r₀.base revoke_granted in
      let n : j ≡ i = at_same (sym r.found ∙ found) in
      ap (λ x. live x.table) (revoke_core m 0 r₀.base revoke_went) ∙ r.now ∙ ap (λ y. take y (live t) ++ revoking_row (row_at t y) ∷ drop (y + 1) (live t)) n
      ∙ sym (set_row (live t) i (revoking_row r₀) h)

  row_then : row_at t₂ i ≡ revoking_row r₀
  row_then = ap (λ l. get_or l i blank) rows_then ∙ get_or-set_same (live t) i (revoking_row r₀) blank h

  pages_then : n₂.state.core.pages ≡ freed_of c₀.pages (range_of r₀)
  pages_then =
      ap (λ x. x.pages) (revoke_core m 0 r₀.base revoke_went ∙ revoke_parts c₀ 0 r₀.base revoke_granted)
      ∙ ap (λ g. freed_of c₀.pages (range_of (row_of t g))) found ∙ ap (λ r. freed_of c₀.pages (range_of r)) row_found

  -- The one that dies is this one, for they have the same cells.
  this_dies : (n : Machine) (e : Finished n₂.state.core n) → e.row ≡ i
  this_dies n e =
      let ok = (standing_facts n₂ v f k₂).rows in
      let here : i < length (live t₂) = subst (λ x. i < x) (sym (ap length rows_then ∙ length-set (live t) i (revoking_row r₀))) h in
      let some = row_some (row_at t₂ i) (sound_row (16 * n₂.state.core.pages.v) t₂ ok i here) in
      let mine : inside (range_of (row_at t₂ i)) (row_at t₂ i).base ≡ true = inside_made (range_of (row_at t₂ i)) (row_at t₂ i).base (omega arith) (omega (arith, some)) in
      let same : range_of (row_at t₂ e.row) ≡ range_of (row_at t₂ i) =
      sym e.range ∙ revoke_range m 0 r₀.base revoke_went ∙ ap (λ g. range_of (row_of t g)) found ∙ ap (λ r. range_of r) row_found ∙ sym (ap (λ r. range_of r) row_then) in
      no_shared_cell (16 * n₂.state.core.pages.v) t₂ e.row i (row_at t₂ i).base ok e.used here (ap (λ r. inside r (row_at t₂ i).base) same ∙ mine) mine

  recovered : (n : Machine) → Finished n₂.state.core n → Recovered c₀ v i n
  recovered n e =
      let j = this_dies n e in
      let row = ap (λ y. row_at t₂ y) j ∙ row_then in
      record {
        rows =
            e.rows ∙ ap (λ r. set (live t₂) e.row (collected_row r)) row ∙ ap (λ y. set (live t₂) y (collected_row r₀)) j ∙ ap (λ l. set l i (collected_row r₀)) rows_then
            ∙ set_twice (live t) i (revoking_row r₀) (collected_row r₀);
        pages = λ p b.
            ap (λ s. page_at s p) (e.pages ∙ ap (λ r. released_of n₂.state.core.pages (range_of r)) row ∙ ap (λ s. released_of s (range_of r₀)) pages_then)
            ∙ freed_released c₀.pages (range_of r₀) p (page_long m v f k p b);
        quiet = finished_quiet n₂.state.core n (standing_core n₂ v f k₂) e;
        claims = e.claims ∙ ap (λ x. x.claims) (revoke_core m 0 r₀.base revoke_went) ∙ revoke_claims c₀ 0 r₀.base;
      }

  pub revoking_leads : Leads (Recovered c₀ v i) m (revoking r₀.base m)
  unfolding revoking
  revoking_leads =
      leads_more (Recovered c₀ v i) m call (sweep_and_collect c₀.pages.f) revoke_goes
      (subst (λ x. Leads (Recovered c₀ v i) n₂ (sweep_and_collect x)) (sym k.of_f)
      (leads_to (Finished n₂.state.core) (Recovered c₀ v i) n₂ (sweep_and_collect f) (ending_leads n₂ v f k₂ (revoke_runs m 0 r₀.base revoke_went))
      (recovered (run n₂ (sweep_and_collect f)))))
