-- Nothing lost, from every state: the lists of calls, each from where the one before leads. Assumes nothing.
use Prim.Native.Nat.{ℕ, ◌*◌, ◌%◌, ◌<◌}
use native.Mathlib.Omega.{arith}
use mathlib.Core.Bool.{true, false, not, true≢false}
use mathlib.Core.List.{[], ◌∷◌}
use mathlib.Core.Path.{◌≡◌, refl, sym, ap, subst, ◌∙◌}
use lib.ListN.{length, get_or, set}
use Rattle.capabilities.specs.Range.{page_inside}
use Rattle.capabilities.proofs.Choice.{pick_yes}
use Rattle.pages.specs.declared.PageState.TheVariants.{Unmapped}
use Rattle.pages.specs.Entries.{is_mapped}
use Rattle.pages.specs.Layer.{page_at}
use Rattle.table.specs.declared.Reservation.{Reservation}
use Rattle.table.specs.declared.ReservationState.TheVariants.{Open, Taken}
use Rattle.table.specs.Rows.{is_open, blank, live, range_of, reservation, no_taker}
use Rattle.table.specs.Tiling.{revokings}
use Rattle.table.proofs.Cells.{inside_made}
use Rattle.table.proofs.Dying.{dyings, none}
use Rattle.claims.specs.Sound.{fresh_claims}
use Rattle.reservations.specs.Revocation.{running, whole_pages, collected_row}
use Rattle.histories.specs.Runs.{Machine, run}
use Rattle.histories.specs.Live.{Spot, Live}
use Rattle.histories.specs.Inv.{row_at, Inv}
use Rattle.histories.specs.Forming.{Standing}
use Rattle.histories.specs.Restoring.{finishing, taking, merging, unclaiming, every_page, unmapping, revoking, ◌and_then◌, restoring, NothingLost}
use Rattle.histories.proofs.Table.{running_by}
use Rattle.histories.proofs.Always.{inv_reached, inv_run}
use Rattle.histories.proofs.Confining.{live_confined}
use Rattle.histories.proofs.Forming.{always_formed}
use Rattle.histories.proofs.Leading.{Leads, leads_to, leads_then}
use Rattle.histories.proofs.Losing.{Uniform, WholeTable, Whole, merged_back}
use Rattle.histories.proofs.RestoringTakes.{taking_leads}
use Rattle.histories.proofs.RestoringClaims.{Unclaimed, unclaiming_leads}
use Rattle.histories.proofs.RestoringPages.{Bare, unmapping_leads}
use Rattle.histories.proofs.RestoringEnds.{finishing_leads, Recovered, revoking_leads}

merging_leads : (m : Machine) (v f : ℕ) → Standing m v f → Uniform m Taken 0 → Leads (Whole v Taken 0) m (merging m)
unfolding merging
merging_leads m v f k a = merged_back m Taken 0 v f refl k a

-- All is as at a start, but for what may be live.
record Back (v : ℕ) (n : Machine) : Type 0 where
  one : live n.state.core.table ≡ reservation 0 (16 * v) Open 0 no_taker ∷ []
  pages : (p : ℕ) → p < v → page_at n.state.core.pages p ≡ Unmapped
  quiet : running n.state.core ≡ false
  claims : n.state.core.claims ≡ fresh_claims true

-- One reservation is left, which is Taken; no page is Mapped, and none has a claim. The reservation is taken back.
module _ (m : Machine) (v f : ℕ) (k : Standing m v f) (one : Whole v Taken 0 m) (free : m.state.core.claims ≡ fresh_claims true)
    (bare : (p : ℕ) → p < v → is_mapped (page_at m.state.core.pages p) ≡ false) where
  abbrev r₀ : Reservation
  r₀ = reservation 0 (16 * v) Taken 0 (row_at m.state.core.table 0).taker

  row : row_at m.state.core.table 0 ≡ r₀
  row = ap (λ l. get_or l 0 blank) one

  still : running m.state.core ≡ false
  unfolding dyings
  still = running_by m.state.core ∙ ap (λ l. not (none (dyings l))) one

  whole : whole_pages r₀ ≡ true
  whole = let n : (16 * v) % 16 ≡ 0 = omega arith in rw n refl

  back : (n : Machine) → Recovered m.state.core v 0 n → Back v n
  back n e =
      record {
        one = e.rows ∙ ap (λ r. set (live m.state.core.table) 0 (collected_row r)) row ∙ ap (λ l. set l 0 (collected_row r₀)) one;
        pages = λ p h.
            e.pages p h
            ∙ pick_yes (page_inside (range_of (row_at m.state.core.table 0)) p) Unmapped (page_at m.state.core.pages p)
            (ap (λ r. page_inside (range_of r) p) row ∙ inside_made (range_of r₀) (16 * p) (omega arith) (omega arith));
        quiet = e.quiet;
        claims = e.claims ∙ free;
      }

  last_leads : Leads (Back v) m (revoking 0 m)
  last_leads =
      let t = m.state.core.table in
      let h : 0 < length (live t) = rw one (omega arith) in
      let l = revoking_leads m v f k still 0 h (ap (λ r. r.state) row) (ap (λ r. r.holder) row) (ap (λ r. whole_pages r) row ∙ whole) (λ p b e. bare p b) in
      leads_to (Recovered m.state.core v 0) (Back v) m (revoking 0 m) (subst (λ b. Leads (Recovered m.state.core v 0) m (revoking b m)) (ap (λ r. r.base) row) l) (back (run m (revoking 0 m)))

restoring_leads : (m : Machine) (v f : ℕ) → Standing m v f → Leads (Back v) m (restoring m)
unfolding restoring
restoring_leads m v f k =
    leads_then v f (λ n. revokings (live n.state.core.table) ≡ 0) (Back v) finishing (taking and_then merging and_then unclaiming and_then unmapping every_page and_then revoking 0) m k
    (finishing_leads m v f k)
    (λ n₁ k₁ still.
    leads_then v f (λ n. Uniform n Taken 0) (Back v) taking (merging and_then unclaiming and_then unmapping every_page and_then revoking 0) n₁ k₁ (taking_leads n₁ v f k₁ still)
    (λ n₂ k₂ all.
    leads_then v f (Whole v Taken 0) (Back v) merging (unclaiming and_then unmapping every_page and_then revoking 0) n₂ k₂ (merging_leads n₂ v f k₂ all)
    (λ n₃ k₃ one.
    let c = n₃.state.core in
    leads_then v f (Unclaimed c) (Back v) unclaiming (unmapping every_page and_then revoking 0) n₃ k₃ (unclaiming_leads n₃ v f k₃)
    (λ n₄ k₄ free.
    leads_then v f (Bare c every_page v) (Back v) (unmapping every_page) (revoking 0) n₄ k₄ (unmapping_leads c every_page n₄ v f k₄ free)
    (λ n₅ k₅ bare. last_leads n₅ v f k₅ (subst (WholeTable v Taken 0) (sym bare.table) one) bare.free (λ p h. bare.none p h refl))))))

-- What is live lies within a reservation that is not Open.
none_live : (v : ℕ) (m : Machine) → Inv m → live m.state.core.table ≡ reservation 0 (16 * v) Open 0 no_taker ∷ [] → (x : Spot) → Live m x → ⊥
none_live v m inv one x e =
    let k = live_confined m inv x e in
    let i : k.row ≡ 0 = omega (arith, k.used, ap length one) in
    true≢false (sym (ap (λ j. is_open (row_at m.state.core.table j).state) i ∙ ap (λ l. is_open (get_or l 0 blank).state) one) ∙ k.lent)

pub nothing_lost : NothingLost
nothing_lost m r =
    let l = restoring_leads m r.v r.f (always_formed m r) in
    let b = l.reaches in
    let n = run m (restoring m) in (
      l.granted,
      record { one = b.one; pages = b.pages; quiet = b.quiet; claims = b.claims; none = none_live r.v n (inv_run (restoring m) m (inv_reached m r)) b.one },
    )
