-- Nothing lost. Assumes nothing.
use Rattle.std.specs.Prelude.{Some}
use Prim.Native.Nat.{ℕ, zero, suc, ◌+◌, ◌-◌, ◌*◌, ◌<◌, ◌≤◌}
use native.Mathlib.Nat.{zero-add}
use native.Mathlib.Omega.{arith}
use mathlib.Core.Bool.{Bool, true, false, not, ◌&&◌}
use mathlib.Core.List.{List, [], ◌∷◌}
use mathlib.Core.Path.{◌≡◌, refl, sym, ap, subst, ◌∙◌}
use borrow.Author.Tests.{eq-eqb, eqb-true, eqb-false, ltb-true, ltb-false}
use lib.Dec.{eqb, ltb}
use lib.ListN.{length, get_or, replicate}
use Rattle.capabilities.specs.Refusals.{first}
use Rattle.capabilities.proofs.Refusals.{first_clear}
use Rattle.table.specs.declared.Reservation.{Reservation}
use Rattle.table.specs.declared.ReservationState.{ReservationState}
use Rattle.table.specs.declared.ReservationState.TheVariants.{Open}
use Rattle.table.specs.Table.{Table}
use Rattle.table.specs.Find.{find_of, next_of, row_of, missing}
use Rattle.table.specs.Operations.{alike, joined, mergeable, merge_reasons_at, merge_reasons, merge_of}
use Rattle.table.specs.Rows.{is_open, held, blank, live, reservation}
use Rattle.table.specs.Tiling.{tiles, table_sound}
use Rattle.table.proofs.After.{Replaced, merge_after}
use Rattle.table.proofs.Finding.{next_at}
use Rattle.table.proofs.Kept.{row_live}
use Rattle.table.proofs.Sound.{sound}
use Rattle.table.proofs.Tiled.{tiles_begin, tiles_none}
use Rattle.table.proofs.Truth.{both}
use Rattle.reservations.proofs.CoreKept.{core_facts}
use Rattle.calls.specs.declared.Call.TheVariants.{Merge}
use Rattle.words.specs.WordReasons.{unnamed}
use Rattle.machine.specs.Effects.{effect}
use Rattle.machine.specs.Reasons.{reasons}
use Rattle.machine.specs.Step.{reasons_on}
use Rattle.histories.specs.Runs.{Machine, Granted, next, run}
use Rattle.histories.specs.Inv.{row_at}
use Rattle.histories.specs.Forming.{Standing}
use Rattle.histories.specs.Losing.{AlwaysTiled, MergesLeadBack}
use Rattle.histories.proofs.Table.{long, low_row, mid_row, high_row}
use Rattle.histories.proofs.Granted.{Went, went, went_core}
use Rattle.histories.proofs.Leading.{Leads, leads_none, leads_more}
use Rattle.histories.proofs.Naming.{find_row, holder_named}
use Rattle.histories.proofs.Between.{done_table}
use Rattle.histories.proofs.Forming.{always_formed, standing_facts, standing_code, standing_next, standing_run}
use Rattle.table.proofs.Numbers.{same_row}
use Rattle.table.proofs.Takers.{takers_row, open_taker}
use Rattle.machine.proofs.Keeps.{facts}
use Rattle.table.proofs.Inverse.{open_is}

standing_tiled : (m : Machine) (v f : ℕ) → Standing m v f → tiles 0 (16 * v) (live m.state.core.table) ≡ true
standing_tiled m v f k =
    let c = m.state.core in
    subst (λ n. tiles 0 (16 * n) (live c.table) ≡ true) k.of_v (sound (16 * c.pages.v) c.table (standing_facts m v f k).rows).tiled

pub always_tiled : AlwaysTiled
always_tiled m r = standing_tiled m r.v r.f (always_formed m r)

first_base : (upto : ℕ) (l : List Reservation) → tiles 0 upto l ≡ true → 0 < length l → (get_or l 0 blank).base ≡ 0
first_base upto [] e h = absurd (omega arith)
first_base upto (r ∷ l) e h = (tiles_begin 0 upto r l e).base

-- All reservations are in one state, and a party holds them.
pub record Uniform (m : Machine) (s : ReservationState) (p : ℕ) : Type 0 where
  pub state : (i : ℕ) → i < length (live m.state.core.table) → (row_at m.state.core.table i).state ≡ s
  pub holder : (i : ℕ) → i < length (live m.state.core.table) → (row_at m.state.core.table i).holder ≡ p

module _ (m : Machine) (s : ReservationState) (p v f : ℕ) (like : alike s s ≡ true) (k : Standing m v f) (a : Uniform m s p) (h : 2 ≤ length (live m.state.core.table)) where
  abbrev t : Table
  t = m.state.core.table

  rows : table_sound (16 * m.state.core.pages.v) t ≡ true
  rows = (standing_facts m v f k).rows

  found : find_of t p 0 ≡ Some 0
  found =
      sym (ap (λ n. find_of t n 0) (a.holder 0 (omega arith))) ∙ sym (ap (find_of t (row_at t 0).holder) (first_base (16 * v) (live t) (standing_tiled m v f k) (omega arith)))
      ∙ find_row (16 * m.state.core.pages.v) t rows 0 (omega arith)

  joins : mergeable t (Some 0) p ≡ true
  unfolding mergeable
  joins =
      let n : next_of t (Some 0) ≡ Some 1 = next_at t 0 (omega arith) in
      let low = row_live t 0 (omega arith) in
      let high : row_of t (next_of t (Some 0)) ≡ row_at t 1 = ap (row_of t) n ∙ row_live t 1 (omega arith) in
      both (not (missing (next_of t (Some 0)))) (held (row_of t (next_of t (Some 0))) p && alike (row_of t (Some 0)).state (row_of t (next_of t (Some 0))).state) (ap (λ g. not (missing g)) n)
      (both (held (row_of t (next_of t (Some 0))) p) (alike (row_of t (Some 0)).state (row_of t (next_of t (Some 0))).state) (ap (λ r. held r p) high ∙ eq-eqb (row_at t 1).holder p (a.holder 1 (omega arith)))
      (ap (λ x. alike x (row_of t (next_of t (Some 0))).state) (ap (λ r. r.state) low ∙ a.state 0 (omega arith)) ∙ ap (λ x. alike s x) (ap (λ r. r.state) high ∙ a.state 1 (omega arith)) ∙ like))

  named : unnamed p ≡ false
  named = sym (ap (λ n. unnamed n) (a.holder 0 (omega arith))) ∙ holder_named (16 * m.state.core.pages.v) t rows 0 (omega arith)

  no_reason : first (reasons_on m.state (Merge p 0) m.cells m.tags) ≡ 0
  unfolding reasons first merge_reasons merge_reasons_at
  no_reason = rw (named, found, joins)

  pub merge_goes : Granted m (Merge p 0)
  merge_goes = standing_code m v f (Merge p 0) k ∙ no_reason

merge_code : (m : Machine) (p : ℕ) → Went m (Merge p 0) → (merge_of m.state.core.table p 0).code ≡ 0
unfolding reasons merge_of
merge_code m p w = (first_clear 4 (unnamed p) (merge_reasons m.state.core.table p 0) (λ x. omega arith) w.clear).1

merge_table : (m : Machine) (p : ℕ) → Went m (Merge p 0) → (next m (Merge p 0)).state.core.table ≡ (merge_of m.state.core.table p 0).table
unfolding effect
merge_table m p w = done_table m (Merge p 0) w

-- After a merge the reservations are what they were, and there is one less.
module _ (t u : Table) (p base i : ℕ) (k : Replaced t u p base i 2 (joined (row_at t i) (row_at t (i + 1)) ∷ [])) where
  pub one_less : length (live u) + 1 ≡ length (live t)
  one_less = omega (arith, long t u (joined (row_at t i) (row_at t (i + 1)) ∷ []) i 2 k.within k.now, k.within)

  pub each_old : (P : Reservation → Type 0) → P (joined (row_at t i) (row_at t (i + 1))) → ((j : ℕ) → j < length (live t) → P (row_at t j)) → (j : ℕ) → j < length (live u) → P (row_at u j)
  each_old P new old j h = go (ltb j i) refl (eqb j i) refl
    where
      l₀ : List Reservation
      l₀ = joined (row_at t i) (row_at t (i + 1)) ∷ []

      go : (b : Bool) → ltb j i ≡ b → (d : Bool) → eqb j i ≡ d → P (row_at u j)
      go true b d e = let q : j < i = ltb-true j i b in subst P (sym (low_row t u l₀ i 2 k.within k.now j q)) (old j (omega (arith, k.within)))
      go false b true e =
          let n : i + 0 ≡ j = omega (arith, eqb-true j i e) in
          subst P (sym (sym (ap (λ x. row_at u x) n) ∙ mid_row t u l₀ i 2 k.within k.now 0 (omega arith))) new
      go false b false e =
          let q : i ≤ j = ltb-false j i b in
          let n : i + (1 + (j - (i + 1))) ≡ j = omega (arith, eqb-false j i e) in
          subst P (sym (sym (ap (λ x. row_at u x) n) ∙ high_row t u l₀ i 2 k.within k.now (j - (i + 1)))) (old (i + 2 + (j - (i + 1))) (omega (arith, one_less, eqb-false j i e)))

uniform_next : (m : Machine) (s : ReservationState) (p : ℕ) → Went m (Merge p 0) → Uniform m s p → Uniform (next m (Merge p 0)) s p × (length (live (next m (Merge p 0)).state.core.table) + 1 ≡ length (live m.state.core.table))
uniform_next m s p w a =
    let t = m.state.core.table in
    let u = (merge_of t p 0).table in
    let e = merge_table m p w in
    let (i, same, r) = merge_after (16 * m.state.core.pages.v) t (core_facts m.state.core (went_core m (Merge p 0) w)).rows p 0 (merge_code m p w) in
    let h : i < length (live t) = omega (arith, r.within) in
    let states = each_old t u p 0 i r (λ x. x.state ≡ s) (a.state i h) a.state in
    let holders = each_old t u p 0 i r (λ x. x.holder ≡ p) (a.holder i h) a.holder in (
      record {
        state = subst (λ x. (j : ℕ) → j < length (live x) → (row_at x j).state ≡ s) (sym e) states;
        holder = subst (λ x. (j : ℕ) → j < length (live x) → (row_at x j).holder ≡ p) (sym e) holders;
      },
      ap (λ x. length (live x) + 1) e ∙ one_less t u p 0 i r,
    )

-- One reservation that tiles all cells.
whole : (upto : ℕ) (s : ReservationState) (p : ℕ) (l : List Reservation) → length l ≡ 1 → tiles 0 upto l ≡ true → (get_or l 0 blank).state ≡ s → (get_or l 0 blank).holder ≡ p → l ≡ reservation 0 upto s p (get_or l 0 blank).taker ∷ []
whole upto s p [] n e o h = absurd (omega arith)
whole upto s p (r ∷ []) n e o h =
    let b = tiles_begin 0 upto r [] e in
    let size : r.length ≡ upto = sym (zero-add r.length) ∙ tiles_none (0 + r.length) upto b.rest in
    ap (λ x. x ∷ []) (same_row r (reservation 0 upto s p r.taker) b.base size o h refl)
whole upto s p (r ∷ (x ∷ l)) n e o h = absurd (omega arith)

-- One reservation of all cells is left, with whatever taker it has.
abbrev pub WholeTable : ℕ → ReservationState → ℕ → Table → Type 0
WholeTable v s p t = live t ≡ reservation 0 (16 * v) s p (row_at t 0).taker ∷ []

abbrev pub Whole : ℕ → ReservationState → ℕ → Machine → Type 0
Whole v s p m = WholeTable v s p m.state.core.table

pub whole_table : (v : ℕ) (s : ReservationState) (p taker : ℕ) (t : Table) → live t ≡ reservation 0 (16 * v) s p taker ∷ [] → WholeTable v s p t
whole_table v s p taker t e = e ∙ ap (λ k. reservation 0 (16 * v) s p k ∷ []) (sym (ap (λ l. (get_or l 0 blank).taker) e))

-- Merges lead back from reservations that are all Open, or all Taken.
lead_back : (n : ℕ) (m : Machine) (s : ReservationState) (p v f : ℕ) → alike s s ≡ true → Standing m v f → Uniform m s p → length (live m.state.core.table) ≡ suc n → Leads (Whole v s p) m (replicate n (Merge p 0))
lead_back zero m s p v f like k a e =
    leads_none (Whole v s p) m (whole (16 * v) s p (live m.state.core.table) e (standing_tiled m v f k) (a.state 0 (omega arith)) (a.holder 0 (omega arith)))
lead_back (suc n) m s p v f like k a e =
    let g = merge_goes m s p v f like k a (omega arith) in
    let (b, less) = uniform_next m s p (went m (Merge p 0) g) a in
    leads_more (Whole v s p) m (Merge p 0) (replicate n (Merge p 0)) g (lead_back n (next m (Merge p 0)) s p v f like (standing_next m v f (Merge p 0) k) b (omega arith))

pub merged_back : (m : Machine) (s : ReservationState) (p v f : ℕ) → alike s s ≡ true → Standing m v f → Uniform m s p → Leads (Whole v s p) m (replicate (length (live m.state.core.table) - 1) (Merge p 0))
merged_back m s p v f like k a =
    let t = sound _ m.state.core.table (standing_facts m v f k).rows in
    lead_back (length (live m.state.core.table) - 1) m s p v f like k a (omega (arith, t.some, t.used))

pub merges_lead_back : MergesLeadBack
merges_lead_back m r p a =
    let l = merged_back m Open p r.v r.f refl (always_formed m r) (record { state = λ i h. open_is _ (a.isopen i h); holder = a.holds }) in
    let calls = replicate (length (live m.state.core.table) - 1) (Merge p 0) in
    let n = run m calls in
    let t = n.state.core.table in
    let row = ap (λ x. get_or x 0 blank) l.reaches in
    let few : 0 < length (live t) = rw l.reaches (omega arith) in
    let fit = takers_row (live t) 0 (facts n.state (standing_run calls m r.v r.f (always_formed m r)).formed).takers few in
    let none = open_taker (row_at t 0) (ap (λ x. is_open x.state) row) fit in
    record {
      times = length (live m.state.core.table) - 1;
      granted = l.granted;
      one = l.reaches ∙ ap (λ k. reservation 0 (16 * r.v) Open p k ∷ []) none;
    }
