-- How many calls lead back, list by list. Assumes nothing.
use Prim.Native.Nat.{ℕ, zero, suc, ◌+◌, ◌-◌, ◌*◌, ◌≤◌}
use native.Mathlib.Omega.{arith}
use mathlib.Core.Bool.{Bool, true, false, ◌&&◌}
use mathlib.Core.List.{List, [], ◌∷◌}
use mathlib.Core.Path.{◌≡◌, refl}
use lib.ListN.{length, replicate, length-append, length-replicate}
use Rattle.capabilities.specs.Lists.{pick}
use Rattle.table.specs.Rows.{live}
use Rattle.table.proofs.Sound.{sound}
use Rattle.claims.specs.Claims.{Claims, in_being, count_of}
use Rattle.reservations.specs.Revocation.{running}
use Rattle.calls.specs.declared.Call.{Call}
use Rattle.calls.specs.declared.Call.TheVariants.{Merge, Unmap, Release, Destroy}
use Rattle.calls.specs.Commands.{page}
use Rattle.histories.specs.Runs.{Machine, run, Reached}
use Rattle.histories.specs.Restoring.{each_below, many_below, sweep_and_collect, finishing, open_at, take_at, taking, merging, top_at, destroying, releasing, unclaiming, mapped_at, every_page, unmapping, revoking, ◌and_then◌, restoring, RestoringBounded}
use Rattle.histories.proofs.Forming.{always_formed, standing_facts}
use Rattle.histories.proofs.Leading.{reached_run}
use Rattle.histories.proofs.Sharing.{counts_fit}

each_length : (test : ℕ → Bool) (call : ℕ → Call) (n : ℕ) → length (each_below test call n) ≤ n
unfolding each_below
each_length test call zero = omega arith
each_length test call (suc n) = go (test n) (each_length test call n)
  where
    go : (b : Bool) → length (each_below test call n) ≤ n → length (pick b (call n ∷ each_below test call n) (each_below test call n)) ≤ suc n
    go true h = omega (arith, h)
    go false h = omega (arith, h)

-- One less where 0 does not pass the test.
each_but_first : (test : ℕ → Bool) (call : ℕ → Call) (n : ℕ) → test 0 ≡ false → length (each_below test call (suc n)) ≤ n
unfolding each_below
each_but_first test call zero e = rw e (omega arith)
each_but_first test call (suc n) e = go (test (suc n)) (each_but_first test call n e)
  where
    go : (b : Bool) → length (each_below test call (suc n)) ≤ n → length (pick b (call (suc n) ∷ each_below test call (suc n)) (each_below test call (suc n))) ≤ suc n
    go true h = omega (arith, h)
    go false h = omega (arith, h)

many_length : (times : ℕ → ℕ) (call : ℕ → Call) → ((k : ℕ) → times k ≤ 65535) → (n : ℕ) → length (many_below times call n) ≤ 65535 * n
unfolding many_below
many_length times call most zero = omega arith
many_length times call most (suc n) =
    let h = many_length times call most n in
    let a = length-append (replicate (times n) (call n)) (many_below times call n) in
    let b = length-replicate (times n) (call n) in
    omega (arith, h, a, b, most n)

-- In every state that a start with V leads to, a list has so many calls or fewer.
abbrev Within : ℕ → ℕ → (Machine → List Call) → Type 0
Within v n calls = (m : Machine) (r : Reached m) → r.v ≡ v → length (calls m) ≤ n

then_within : (v n k : ℕ) (a b : Machine → List Call) → Within v n a → Within v k b → Within v (n + k) (a and_then b)
unfolding ◌and_then◌ reached_run
then_within v n k a b f g m r e =
    let one = f m r e in
    let two = g (run m (a m)) (reached_run m r (a m)) e in
    let all = length-append (a m) (b (run m (a m))) in
    omega (arith, one, two, all)

few_rows : (m : Machine) → Reached m → length (live m.state.core.table) ≤ 64
few_rows m r =
    let s = sound (16 * m.state.core.pages.v) m.state.core.table (standing_facts m r.v r.f (always_formed m r)).rows in
    omega (arith, s.used, s.most)

module _ (v : ℕ) where
  finishing_within : Within v 2 finishing
  unfolding finishing sweep_and_collect
  finishing_within m r e = go (running m.state.core)
    where
      go : (b : Bool) → length (pick b (sweep_and_collect m.state.core.pages.f) []) ≤ 2
      go true = omega arith
      go false = omega arith

  taking_within : Within v 64 taking
  unfolding taking
  taking_within m r e =
      let t = m.state.core.table in
      let h = each_length (open_at t) (take_at t) (length (live t)) in
      let k = few_rows m r in
      omega (arith, h, k)

  merging_within : Within v 63 merging
  unfolding merging
  merging_within m r e =
      let h = length-replicate (length (live m.state.core.table) - 1) (Merge 0 0) in
      let k = few_rows m r in
      omega (arith, h, k)

  top_zero : (c : Claims) → top_at c 0 ≡ false
  top_zero c = go (in_being c 0)
    where
      go : (b : Bool) → b && false ≡ false
      go true = refl
      go false = refl

  destroying_within : Within v 31 destroying
  unfolding destroying
  destroying_within m r e = each_but_first (top_at m.state.core.claims) (λ p. Destroy 0 p) 31 (top_zero m.state.core.claims)

  releasing_within : Within v (65535 * v) releasing
  unfolding releasing
  releasing_within m r e =
      let h = many_length (λ k. count_of m.state.core.claims 0 k) (λ k. Release 0 0 (page k)) (λ k. counts_fit m r 0 k) m.state.core.pages.v in
      omega (arith, h, (always_formed m r).of_v, e)

  unmapping_within : Within v v (unmapping every_page)
  unfolding unmapping
  unmapping_within m r e =
      let s = m.state.core.pages in
      let h = each_length (λ p. every_page p && mapped_at s p) (λ p. Unmap 0 (page p)) s.v in
      omega (arith, h, (always_formed m r).of_v, e)

  revoking_within : Within v 3 (revoking 0)
  unfolding revoking sweep_and_collect
  revoking_within m r e = omega arith

  unclaiming_within : Within v (31 + 65535 * v) unclaiming
  unfolding unclaiming
  unclaiming_within = then_within v 31 (65535 * v) destroying releasing destroying_within releasing_within

pub restoring_bounded : RestoringBounded
unfolding restoring
restoring_bounded m r =
    let v = r.v in
    let a = then_within v v 3 (unmapping every_page) (revoking 0) (unmapping_within v) (revoking_within v) in
    let b = then_within v (31 + 65535 * v) (v + 3) unclaiming (unmapping every_page and_then revoking 0) (unclaiming_within v) a in
    let c = then_within v 63 (31 + 65535 * v + (v + 3)) merging (unclaiming and_then unmapping every_page and_then revoking 0) (merging_within v) b in
    let d = then_within v 64 (63 + (31 + 65535 * v + (v + 3))) taking (merging and_then unclaiming and_then unmapping every_page and_then revoking 0) (taking_within v) c in
    let e = then_within v 2 (64 + (63 + (31 + 65535 * v + (v + 3)))) finishing (taking and_then merging and_then unclaiming and_then unmapping every_page and_then revoking 0) (finishing_within v) d m r refl in
    omega (arith, e)
