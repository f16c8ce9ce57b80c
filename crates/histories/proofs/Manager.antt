-- What party 0 alone brings about. Assumes nothing.
use Prim.Native.Nat.{ℕ, zero, suc, ◌*◌, ◌<◌}
use mathlib.Core.Bool.{Bool, true, false, not, ◌&&◌, false≢true}
use mathlib.Core.List.{List, [], ◌∷◌, ◌++◌}
use mathlib.Core.Path.{◌≡◌, refl, sym, ap, subst, ◌∙◌}
use lib.ListN.{length, get_or, set, replicate, length-set}
use lib.Seq.{get_or-set_same}
use Rattle.capabilities.specs.Lists.{pick, Every}
use Rattle.capabilities.specs.Range.{page_inside}
use Rattle.capabilities.proofs.Choice.{pick_yes, pick_no}
use Rattle.pages.specs.declared.PageState.TheVariants.{Unmapped}
use Rattle.pages.specs.Layer.{page_at}
use Rattle.pages.proofs.Freeing.{released_at}
use Rattle.table.specs.declared.ReservationState.{ReservationState}
use Rattle.table.specs.declared.ReservationState.TheVariants.{Open, Taken, Revoking}
use Rattle.table.specs.Table.{Table}
use Rattle.table.specs.Rows.{is_open, is_revoking, blank, live, range_of}
use Rattle.table.proofs.Dying.{dyings, none}
use Rattle.claims.specs.Claims.{count_of}
use Rattle.claims.specs.Sound.{fresh_claims}
use Rattle.reservations.specs.Core.{Core, with_claims}
use Rattle.reservations.specs.Revocation.{running, whole_pages, collected_row}
use Rattle.calls.specs.declared.Call.{Call}
use Rattle.calls.specs.declared.Call.TheVariants.{Unmap, Release, Destroy}
use Rattle.calls.specs.Commands.{page}
use Rattle.machine.specs.Roles.{caller_of}
use Rattle.histories.specs.Runs.{Machine, run, Reached}
use Rattle.histories.specs.Live.{NoneInto}
use Rattle.histories.specs.Inv.{row_at}
use Rattle.histories.specs.Forming.{Standing}
use Rattle.histories.specs.Restoring.{each_below, many_below, sweep_and_collect, top_at, destroying, releasing, unclaiming, mapped_at, every_page, unmapping, revoking, ◌and_then◌}
use Rattle.histories.specs.Manager.{Returned, RevocationEnds, unmapping_all, AllUnmapped, taking_back, TakenBack}
use Rattle.histories.proofs.Table.{running_by}
use Rattle.histories.proofs.Always.{inv_reached}
use Rattle.histories.proofs.Confining.{none_into_open}
use Rattle.histories.proofs.Forming.{always_formed, standing_core, standing_facts}
use Rattle.histories.proofs.Leading.{Leads, leads_to, leads_then, reached_run}
use Rattle.histories.proofs.Naming.{sound_row}
use Rattle.histories.proofs.RestoringTakes.{lent_row}
use Rattle.histories.proofs.RestoringClaims.{Unclaimed, unclaiming_leads}
use Rattle.histories.proofs.RestoringPages.{Bare, page_long, unmapping_leads}
use Rattle.histories.proofs.RestoringEnds.{ending_leads, finished_quiet, Recovered, revoking_leads}

-- The calls are party 0's, list by list.
abbrev Own : List Call → Type 0
Own calls = Every (λ c. caller_of c ≡ 0) calls

own_append : (a b : List Call) → Own a → Own b → Own (a ++ b)
unfolding Every
own_append [] b p q = q
own_append (c ∷ a) b p q = (p.0, own_append a b p.1 q)

own_then : (a b : Machine → List Call) → ((m : Machine) → Own (a m)) → ((m : Machine) → Own (b m)) → (m : Machine) → Own ((a and_then b) m)
unfolding ◌and_then◌
own_then a b p q m = own_append (a m) (b (run m (a m))) (p m) (q (run m (a m)))

own_each : (test : ℕ → Bool) (call : ℕ → Call) → ((n : ℕ) → caller_of (call n) ≡ 0) → (n : ℕ) → Own (each_below test call n)
unfolding Every each_below
own_each test call p zero = tt
own_each test call p (suc n) = go (test n) (own_each test call p n)
  where
    go : (b : Bool) → Own (each_below test call n) → Own (pick b (call n ∷ each_below test call n) (each_below test call n))
    go true q = (p n, q)
    go false q = q

own_same : (times : ℕ) (c : Call) → caller_of c ≡ 0 → Own (replicate times c)
unfolding Every
own_same zero c p = tt
own_same (suc times) c p = (p, own_same times c p)

own_many : (times : ℕ → ℕ) (call : ℕ → Call) → ((n : ℕ) → caller_of (call n) ≡ 0) → (n : ℕ) → Own (many_below times call n)
unfolding Every many_below
own_many times call p zero = tt
own_many times call p (suc n) = own_append (replicate (times n) (call n)) (many_below times call n) (own_same (times n) (call n) (p n)) (own_many times call p n)

own_ending : (f : ℕ) → Own (sweep_and_collect f)
unfolding Every sweep_and_collect
own_ending f = (refl, (refl, tt))

own_destroying : (m : Machine) → Own (destroying m)
unfolding destroying
own_destroying m = own_each (top_at m.state.core.claims) (λ p. Destroy 0 p) (λ n. refl) 32

own_releasing : (m : Machine) → Own (releasing m)
unfolding releasing
own_releasing m = own_many (λ k. count_of m.state.core.claims 0 k) (λ k. Release 0 0 (page k)) (λ n. refl) m.state.core.pages.v

own_unclaiming : (m : Machine) → Own (unclaiming m)
unfolding unclaiming
own_unclaiming = own_then destroying releasing own_destroying own_releasing

own_unmapping : (among : ℕ → Bool) (m : Machine) → Own (unmapping among m)
unfolding unmapping
own_unmapping among m = own_each (λ p. among p && mapped_at m.state.core.pages p) (λ p. Unmap 0 (page p)) (λ n. refl) m.state.core.pages.v

own_revoking : (base : ℕ) (m : Machine) → Own (revoking base m)
unfolding Every revoking
own_revoking base m = (refl, own_ending m.state.core.pages.f)

-- A reservation that is Open again has no live capability into it.
open_again : (t : Table) (n : Machine) (i : ℕ) → Reached n → i < length (live t) → live n.state.core.table ≡ set (live t) i (collected_row (row_at t i)) → NoneInto n (range_of (row_at t i))
open_again t n i r h rows =
    let row : row_at n.state.core.table i ≡ collected_row (row_at t i) = ap (λ l. get_or l i blank) rows ∙ get_or-set_same (live t) i (collected_row (row_at t i)) blank h in
    subst (NoneInto n) (ap (λ x. range_of x) row)
    (none_into_open n (inv_reached n r) (standing_core n r.v r.f (always_formed n r)) i
    (subst (λ k. i < k) (sym (ap length rows ∙ length-set (live t) i (collected_row (row_at t i)))) h) (ap (λ x. is_open x.state) row))

-- A reservation of m that is Open again in n: what is said of it, by what a page is then.
returned : (m n : Machine) (v i : ℕ) → Reached n → i < length (live m.state.core.table) → live n.state.core.table ≡ set (live m.state.core.table) i (collected_row (row_at m.state.core.table i))
    → ((p : ℕ) → p < v → page_at n.state.core.pages p ≡ pick (page_inside (range_of (row_at m.state.core.table i)) p) Unmapped (page_at m.state.core.pages p)) → running n.state.core ≡ false
    → Returned m n v i
returned m n v i r h rows at quiet =
    let t = m.state.core.table in
    record {
      rows = rows;
      pages = λ p b e. at p b ∙ pick_yes (page_inside (range_of (row_at t i)) p) Unmapped (page_at m.state.core.pages p) e;
      others = λ p b e. at p b ∙ pick_no (page_inside (range_of (row_at t i)) p) Unmapped (page_at m.state.core.pages p) e;
      quiet = quiet;
      none = open_again t n i r h rows;
    }

is_revoking_lem : (s : ReservationState) → is_revoking s ≡ true → s ≡ Revoking
is_revoking_lem Open e = absurd (false≢true e)
is_revoking_lem Taken e = absurd (false≢true e)
is_revoking_lem Revoking e = refl

pub revocation_ends : RevocationEnds
revocation_ends m r e =
    let k = always_formed m r in
    let c = m.state.core in
    let l = ending_leads m r.v r.f k e in
    let n = run m (sweep_and_collect r.f) in
    let d = l.reaches in (
      record { granted = l.granted; own = own_ending r.f },
      record {
        row = d.row;
        used = d.used;
        was = is_revoking_lem (row_at c.table d.row).state d.dies;
        now =
            returned m n r.v d.row (reached_run m r (sweep_and_collect r.f)) d.used d.rows
            (λ p h. ap (λ s. page_at s p) d.pages ∙ released_at c.pages (range_of (row_at c.table d.row)) p (page_long m r.v r.f k p h))
            (finished_quiet c n (standing_core m r.v r.f k) d);
      },
    )

-- Claims are dropped, and pages unmapped.
unmapped_leads : (among : ℕ → Bool) (m : Machine) (v f : ℕ) → Standing m v f → Leads (Bare m.state.core among v) m ((unclaiming and_then unmapping among) m)
unmapped_leads among m v f k =
    let c = m.state.core in
    leads_then v f (Unclaimed c) (Bare c among v) unclaiming (unmapping among) m k (unclaiming_leads m v f k) (λ n l u. unmapping_leads c among n v f l u)

pub all_unmapped : AllUnmapped
unfolding unmapping_all
all_unmapped m r =
    let l = unmapped_leads every_page m r.v r.f (always_formed m r) in
    (record { granted = l.granted; own = own_then unclaiming (unmapping every_page) own_unclaiming (own_unmapping every_page) m }, λ p h. l.reaches.none p h refl)

-- A Taken reservation of whole pages, where no revocation runs.
module _ (m : Machine) (v f : ℕ) (k : Standing m v f) (still : running m.state.core ≡ false) (i : ℕ) (h : i < length (live m.state.core.table))
    (lent : (row_at m.state.core.table i).state ≡ Taken) (whole : whole_pages (row_at m.state.core.table i) ≡ true) where
  abbrev c : Core
  c = m.state.core

  abbrev base : ℕ
  base = (row_at c.table i).base

  abbrev among : ℕ → Bool
  among = page_inside (range_of (row_at c.table i))

  holder : (row_at c.table i).holder ≡ 0
  holder = (lent_row (row_at c.table i) (sound_row (16 * c.pages.v) c.table (standing_facts m v f k).rows i h) (ap is_open lent) (ap is_revoking lent)).1

  -- The table and the other pages are as they were; so it is taken back from m too.
  module _ (n : Machine) (l : Standing n v f) (b : Bare c among v n) where
    same_row : row_at n.state.core.table i ≡ row_at c.table i
    same_row = ap (λ t. row_at t i) b.table

    quiet : running n.state.core ≡ false
    quiet = running_by n.state.core ∙ ap (λ t. not (none (dyings (live t)))) b.table ∙ sym (running_by c) ∙ still

    last_leads : Leads (Recovered n.state.core v i) n (revoking base n)
    last_leads =
        subst (λ x. Leads (Recovered n.state.core v i) n (revoking x n)) (ap (λ r. r.base) same_row)
        (revoking_leads n v f l quiet i (subst (λ t. i < length (live t)) (sym b.table) h) (ap (λ r. r.state) same_row ∙ lent) (ap (λ r. r.holder) same_row ∙ holder)
        (ap (λ r. whole_pages r) same_row ∙ whole) (λ p a e. b.none p a (sym (ap (λ r. page_inside (range_of r) p) same_row) ∙ e)))

    from_first : (x : Machine) → Recovered n.state.core v i x → Recovered (with_claims c (fresh_claims true)) v i x
    from_first x e =
        record {
          rows = e.rows ∙ ap (λ t. set (live t) i (collected_row (row_at t i))) b.table;
          pages = λ p a. e.pages p a ∙ ap (λ r. pick (page_inside (range_of r) p) Unmapped (page_at n.state.core.pages p)) same_row ∙ go p a (among p) refl;
          quiet = e.quiet;
          claims = e.claims ∙ b.free;
        }
      where
        go : (p : ℕ) → p < v → (y : Bool) → among p ≡ y → pick y Unmapped (page_at n.state.core.pages p) ≡ pick y Unmapped (page_at c.pages p)
        go p a true e = refl
        go p a false e = b.others p a e

  taking_back_leads : Leads (Recovered (with_claims c (fresh_claims true)) v i) m (taking_back i m)
  unfolding taking_back
  taking_back_leads =
      leads_then v f (Unclaimed c) (Recovered (with_claims c (fresh_claims true)) v i) unclaiming (unmapping among and_then revoking base) m k (unclaiming_leads m v f k)
      (λ n₁ k₁ u.
      leads_then v f (Bare c among v) (Recovered (with_claims c (fresh_claims true)) v i) (unmapping among) (revoking base) n₁ k₁ (unmapping_leads c among n₁ v f k₁ u)
      (λ n₂ k₂ b. leads_to (Recovered n₂.state.core v i) (Recovered (with_claims c (fresh_claims true)) v i) n₂ (revoking base n₂) (last_leads n₂ k₂ b) (from_first n₂ k₂ b (run n₂ (revoking base n₂)))))

  own_taking_back : Own (taking_back i m)
  unfolding taking_back
  own_taking_back = own_then unclaiming (unmapping among and_then revoking base) own_unclaiming (own_then (unmapping among) (revoking base) (own_unmapping among) (own_revoking base)) m

pub taken_back : TakenBack
taken_back m r still i h lent whole =
    let k = always_formed m r in
    let l = taking_back_leads m r.v r.f k still i h lent whole in
    let e = l.reaches in (
      record { granted = l.granted; own = own_taking_back m r.v r.f k still i h lent whole },
      returned m (run m (taking_back i m)) r.v i (reached_run m r (taking_back i m)) h e.rows e.pages e.quiet,
    )
