-- Sharing. A Mapped page leaves its frame only by an unmap, which refusal 22 keeps off while the page has a claim. Counts fall only by a
-- release or a destroy. Assumes nothing.
use Prim.Native.Nat.{ℕ, ◌<◌, ◌≤◌}
use native.Mathlib.Omega.{arith}
use mathlib.Core.Bool.{Bool, true, false, true≢false, false≢true}
use mathlib.Core.List.{List, [], ◌∷◌}
use mathlib.Core.Logic.{⊎_elim}
use mathlib.Core.Path.{◌≡◌, refl, sym, ap, subst, ◌∙◌}
use borrow.Author.Tests.{ltb-true, ltb-false}
use lib.Dec.{ltb}
use Rattle.pages.specs.declared.Frame.{Frame}
use Rattle.pages.specs.declared.PageState.TheVariants.{Mapped}
use Rattle.pages.specs.Entries.{is_unmapped, is_mapped}
use Rattle.pages.specs.Layer.{page_at}
use Rattle.pages.proofs.Formed.{sound as layered}
use Rattle.claims.specs.Claims.{Claims, in_being, claimed, count_of}
use Rattle.claims.specs.Sound.{claims_sound, fresh_claims}
use Rattle.claims.proofs.Facts.{facts}
use Rattle.claims.proofs.Counting.{claimed_by, claimed_if}
use Rattle.claims.proofs.Principals.{uncounted, counted_at, counted_within}
use Rattle.reservations.specs.Core.{Core}
use Rattle.reservations.specs.Revocation.{fresh_core}
use Rattle.machine.specs.Roles.{Asked, role_of}
use Rattle.machine.specs.Formed.{fresh, start_of}
use Rattle.machine.specs.Step.{done, effect_on}
use Rattle.machine.proofs.Deeds.{deed}
use Rattle.calls.specs.declared.Call.{Call}
use Rattle.histories.specs.Runs.{Machine, Granted, next, run, begun, Begins}
use Rattle.histories.specs.Forming.{Standing}
use Rattle.histories.specs.Sharing.{claims_in, counts, Shows, Each, no_call_numbers, each_call, KeptWhileClaimed, KeptWhileCounted, LetsGo, OnlyLetGo, KeptUntilLetGo, OtherLetsGo, OtherKept, AlwaysTotal, CountsFit}
use Rattle.histories.proofs.PageAfter.{PageFate, stays, was_unmapped, was_unclaimed, was_released, deed_page, done_pages}
use Rattle.histories.proofs.Forming.{always_formed, standing_facts, standing_claims, standing_next, standing_begun, in_range_lem}
use Rattle.histories.proofs.Granted.{Went, went_or_not, went_next, went_core, went_granted}
use Rattle.histories.proofs.LettingGo.{touches, falls, other_stays, fits}
use Rattle.histories.proofs.SoleClaims.{fresh_uncounted}

-- A Mapped page keeps its frame by every granted call, while it has a claim.
fate_keeps : (c k : Core) (n : ℕ) (a : Asked) (f : Frame) → page_at c.pages n ≡ Mapped f → claimed c.claims n ≡ true → PageFate c n a k
    → page_at k.pages n ≡ Mapped f
fate_keeps c k n a f is claim (stays e) = e ∙ is
fate_keeps c k n a f is claim (was_unmapped e) = absurd (false≢true (sym (ap is_unmapped is) ∙ ap is_unmapped e))
fate_keeps c k n a f is claim (was_unclaimed shown free) = absurd (true≢false (sym claim ∙ free))
fate_keeps c k n a f is claim (was_released role hidden) = absurd (true≢false (sym (ap is_mapped is) ∙ hidden))

-- A page with a claim is one of 256.
claimed_low : (v : ℕ) (c : Claims) → claims_sound v c ≡ true → (k : ℕ) → claimed c k ≡ true → k < 256
claimed_low v c s k e =
    let w = claimed_by c k e in
    counted_within v c w.who (counted_at v c s w.who (in_being_lem w.who w.counts)) k w.counts
  where
    in_being_lem : (q : ℕ) → 0 < count_of c q k → in_being c q ≡ true
    in_being_lem q h = go (in_being c q) refl
      where
        go : (b : Bool) → in_being c q ≡ b → in_being c q ≡ true
        go true x = x
        go false x = let n = uncounted v c s q x k in let z : ⊥ = omega (arith, n, h) in absurd z

pub step_keeps : (m : Machine) (v f : ℕ) → Standing m v f → (c : Call) (k : ℕ) (x : Frame) → claimed (claims_in m) k ≡ true → Shows m k x → Shows (next m c) k x
step_keeps m v f st c k x claim is =
    let low = claimed_low v (claims_in m) (standing_claims m v f st) k claim in
    ⊎_elim
    (λ w.
    let fate = deed_page m.state (went_core m c w) k low (deed m.state c m.cells m.tags w.clear) in
    done_pages m c w k ∙ fate_keeps m.state.core (effect_on m.state c m.cells m.tags).core k (role_of c) x is claim fate)
    (λ n. ap (λ y. page_at y.state.core.pages k) n.0 ∙ is) (went_or_not m c)

run_keeps : (calls : List Call) (m : Machine) (v f : ℕ) → Standing m v f → (k : ℕ) (x : Frame) → Shows m k x
    → Each (λ n c. claimed (claims_in n) k ≡ true) m calls → Shows (run m calls) k x
unfolding run
run_keeps [] m v f st k x is no_call_numbers = is
run_keeps (c ∷ calls) m v f st k x is (each_call now rest) =
    run_keeps calls (next m c) v f (standing_next m v f c st) k x (step_keeps m v f st c k x now is) rest

pub kept_while_claimed : KeptWhileClaimed
kept_while_claimed m r k x is calls b = run_keeps calls m r.v r.f (always_formed m r) k x is b

pub each_claimed : (q k : ℕ) (calls : List Call) (m : Machine) → Each (λ n c. 0 < counts n q k) m calls → Each (λ n c. claimed (claims_in n) k ≡ true) m calls
each_claimed q k [] m no_call_numbers = no_call_numbers
each_claimed q k (c ∷ calls) m (each_call now rest) = each_call (claimed_if (claims_in m) q k now) (each_claimed q k calls (next m c) rest)

pub kept_while_counted : KeptWhileCounted
kept_while_counted m r q k x is calls b = kept_while_claimed m r k x is calls (each_claimed q k calls m b)

-- The claims after a granted call.
done_claims : (m : Machine) (c : Call) → Went m c → claims_in (next m c) ≡ (effect_on m.state c m.cells m.tags).core.claims
unfolding done
done_claims m c w = ap claims_in (went_next m c w)

-- A principal's count of a page after a call.
module _ (m : Machine) (v f : ℕ) (st : Standing m v f) (c : Call) (q k : ℕ) where
  few : m.state.core.pages.v ≤ 256
  few = (layered m.state.core.pages (standing_facts m v f st).layer).v_most

  sound : claims_sound v (claims_in m) ≡ true
  sound = standing_claims m v f st

  -- A refused call changes no count.
  count_by : (P : ℕ → Type 0) → (Went m c → P (count_of (effect_on m.state c m.cells m.tags).core.claims q k)) → P (counts m q k) → P (counts (next m c) q k)
  count_by P goes same =
      ⊎_elim (λ w. subst (λ x. P (count_of x q k)) (sym (done_claims m c w)) (goes w)) (λ n. subst (λ x. P (counts x q k)) (sym n.0) same) (went_or_not m c)

  count_falls : counts (next m c) q k < counts m q k → Granted m c × LetsGo (claims_in m) q k c
  count_falls =
      count_by (λ n. n < counts m q k → Granted m c × LetsGo (claims_in m) q k c)
      (λ w l. (went_granted m c w, falls m.state v few sound q k (touches m.state c m.cells m.tags w.clear) l))
      (λ l. let z : ⊥ = omega (arith, l) in absurd z)

  count_stays : OtherLetsGo (claims_in m) q c → counts (next m c) q k ≡ counts m q k
  count_stays o = count_by (λ n. n ≡ counts m q k) (λ w. other_stays m.state v few sound q k (touches m.state c m.cells m.tags w.clear) o) refl

  count_fits : counts m q k ≤ 65535 → counts (next m c) q k ≤ 65535
  count_fits l = count_by (λ n. n ≤ 65535) (λ w. fits m.state v few sound q k (touches m.state c m.cells m.tags w.clear) l) l

pub only_let_go : OnlyLetGo
only_let_go m r c q k l = count_falls m r.v r.f (always_formed m r) c q k l

pub run_counts : (calls : List Call) (m : Machine) (v f : ℕ) → Standing m v f → (q k : ℕ)
    → Each (λ n c. Granted n c → LetsGo (claims_in n) q k c → ⊥) m calls
    → (counts m q k ≤ counts (run m calls) q k) × (0 < counts m q k → Each (λ n c. 0 < counts n q k) m calls)
unfolding run
run_counts [] m v f st q k no_call_numbers = (omega arith, λ h. no_call_numbers)
run_counts (c ∷ calls) m v f st q k (each_call holding rest) =
    go (ltb (counts (next m c) q k) (counts m q k)) refl (run_counts calls (next m c) v f (standing_next m v f c st) q k rest)
  where
    go : (b : Bool) → ltb (counts (next m c) q k) (counts m q k) ≡ b
        → (counts (next m c) q k ≤ counts (run (next m c) calls) q k) × (0 < counts (next m c) q k → Each (λ n c. 0 < counts n q k) (next m c) calls)
        → (counts m q k ≤ counts (run (next m c) calls) q k) × (0 < counts m q k → Each (λ n c. 0 < counts n q k) m (c ∷ calls))
    go true e later =
        let fell = count_falls m v f st c q k (ltb-true (counts (next m c) q k) (counts m q k) e) in
        absurd (holding fell.0 fell.1)
    go false e later =
        let l = ltb-false (counts (next m c) q k) (counts m q k) e in
        let more = later.0 in
        (omega (arith, l, more), λ h. each_call h (later.1 (omega (arith, l, h))))

pub kept_until_let_go : KeptUntilLetGo
kept_until_let_go m r q k f h is calls none =
    let l = run_counts calls m r.v r.f (always_formed m r) q k none in
    (l.0, kept_while_counted m r q k f is calls (l.1 h))

pub other_kept : OtherKept
other_kept m r c q o k =
    let st = always_formed m r in
    (count_stays m r.v r.f st c q k o, λ f h is. step_keeps m r.v r.f st c k f (claimed_if (claims_in m) q k h) is)

pub always_total : AlwaysTotal
always_total m r = (facts r.v (claims_in m) (standing_claims m r.v r.f (always_formed m r))).of_limits

run_fits : (calls : List Call) (m : Machine) (v f : ℕ) → Standing m v f → ((q k : ℕ) → counts m q k ≤ 65535) → (q k : ℕ) → counts (run m calls) q k ≤ 65535
unfolding run
run_fits [] m v f st fit = fit
run_fits (c ∷ calls) m v f st fit = run_fits calls (next m c) v f (standing_next m v f c st) (λ q k. count_fits m v f st c q k (fit q k))

begun_fits : (v f : ℕ) (cells tags : List ℕ) → Begins v f cells tags → (q k : ℕ) → counts (begun v f cells tags) q k ≤ 65535
unfolding begun start_of fresh fresh_core
begun_fits v f cells tags b q k =
    let none = ap (λ x. count_of (fresh_claims x) q k) (in_range_lem v f b.granted) ∙ fresh_uncounted q k in
    omega (arith, none)

pub counts_fit : CountsFit
counts_fit m r =
    let start = begun r.v r.f r.cells r.tags in
    subst (λ n. (q k : ℕ) → counts n q k ≤ 65535) (sym r.is)
    (run_fits r.calls start r.v r.f (standing_begun r.v r.f r.cells r.tags r.begins) (begun_fits r.v r.f r.cells r.tags r.begins))
