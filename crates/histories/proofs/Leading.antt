-- Calls that are granted in their turn and lead to a state of which something holds, and how such lists are composed. Assumes nothing.
use Prim.Native.Nat.{ℕ, zero, suc}
use mathlib.Core.Bool.{Bool, true, false}
use mathlib.Core.List.{List, [], ◌∷◌, ◌++◌}
use mathlib.Core.Path.{◌≡◌, refl, sym, ap, subst, ◌∙◌}
use lib.ListN.{replicate}
use Rattle.capabilities.specs.Lists.{pick}
use Rattle.calls.specs.declared.Call.{Call}
use Rattle.histories.specs.Runs.{Machine, Granted, next, run, begun, Reached}
use Rattle.histories.specs.Forming.{Standing}
use Rattle.histories.specs.Losing.{AllGranted, nothing, more}
use Rattle.histories.specs.Restoring.{each_below, many_below, ◌and_then◌}
use Rattle.histories.proofs.Forming.{standing_run}

pub record Leads (Q : Machine → Type 0) (m : Machine) (calls : List Call) : Type 0 where
  pub granted : AllGranted m calls
  pub reaches : Q (run m calls)

pub leads_none : (Q : Machine → Type 0) (m : Machine) → Q m → Leads Q m []
unfolding run
leads_none Q m q = record { granted = nothing; reaches = q }

pub leads_more : (Q : Machine → Type 0) (m : Machine) (c : Call) (calls : List Call) → Granted m c → Leads Q (next m c) calls → Leads Q m (c ∷ calls)
unfolding run
leads_more Q m c calls g k = record { granted = more g k.granted; reaches = k.reaches }

pub leads_to : (P Q : Machine → Type 0) (m : Machine) (calls : List Call) → Leads P m calls → (P (run m calls) → Q (run m calls)) → Leads Q m calls
leads_to P Q m calls k f = record { granted = k.granted; reaches = f k.reaches }

pub run_append : (a b : List Call) (m : Machine) → run m (a ++ b) ≡ run (run m a) b
unfolding run
run_append [] b m = refl
run_append (c ∷ a) b m = run_append a b (next m c)

-- What calls lead to from a reached state is reached.
unfoldable pub reached_run : (m : Machine) → Reached m → (calls : List Call) → Reached (run m calls)
reached_run m r calls =
    record {
      v = r.v;
      f = r.f;
      cells = r.cells;
      tags = r.tags;
      begins = r.begins;
      calls = r.calls ++ calls;
      is = ap (λ n. run n calls) r.is ∙ sym (run_append r.calls calls (begun r.v r.f r.cells r.tags));
    }

granted_append : (a b : List Call) (m : Machine) → AllGranted m a → AllGranted (run m a) b → AllGranted m (a ++ b)
unfolding run
granted_append [] b m nothing q = q
granted_append (c ∷ a) b m (more g p) q = more g (granted_append a b (next m c) p q)

-- One list after another.
leads_append : (P Q : Machine → Type 0) (a b : List Call) (m : Machine) → Leads P m a → (P (run m a) → Leads Q (run m a) b) → Leads Q m (a ++ b)
leads_append P Q a b m k g =
    let l = g k.reaches in
    record { granted = granted_append a b m k.granted l.granted; reaches = subst Q (sym (run_append a b m)) l.reaches }

-- Two lists, the second computed from where the first leads.
pub leads_then : (v f : ℕ) (P Q : Machine → Type 0) (a b : Machine → List Call) (m : Machine) → Standing m v f → Leads P m (a m) → ((n : Machine) → Standing n v f → P n → Leads Q n (b n))
    → Leads Q m ((a and_then b) m)
unfolding ◌and_then◌
leads_then v f P Q a b m s k g = leads_append P Q (a m) (b (run m (a m))) m k (g (run m (a m)) (standing_run (a m) m v f s))

-- A call for each number that passes a test: Q n says that what is at n and above is done.
pub each_leads : (test : ℕ → Bool) (call : ℕ → Call) (Q : ℕ → Machine → Type 0)
    → ((n : ℕ) (m : Machine) → Q (suc n) m → test n ≡ true → Granted m (call n) × Q n (next m (call n)))
    → ((n : ℕ) (m : Machine) → Q (suc n) m → test n ≡ false → Q n m) → (n : ℕ) (m : Machine) → Q n m → Leads (Q 0) m (each_below test call n)
unfolding each_below
each_leads test call Q goes skips zero m q = leads_none (Q 0) m q
each_leads test call Q goes skips (suc n) m q = go (test n) refl (each_leads test call Q goes skips n)
  where
    go : (b : Bool) → test n ≡ b → ((m : Machine) → Q n m → Leads (Q 0) m (each_below test call n)) → Leads (Q 0) m (pick (test n) (call n ∷ each_below test call n) (each_below test call n))
    go true e f = let (g, l) = goes n m q e in rw e (leads_more (Q 0) m (call n) (each_below test call n) g (f (next m (call n)) l))
    go false e f = rw e (f m (skips n m q e))

-- So many calls for each number.
pub many_leads : (times : ℕ → ℕ) (call : ℕ → Call) (Q : ℕ → Machine → Type 0)
    → ((n : ℕ) (m : Machine) → Q (suc n) m → Leads (Q n) m (replicate (times n) (call n))) → (n : ℕ) (m : Machine) → Q n m → Leads (Q 0) m (many_below times call n)
unfolding many_below
many_leads times call Q goes zero m q = leads_none (Q 0) m q
many_leads times call Q goes (suc n) m q =
    let calls = replicate (times n) (call n) in
    leads_append (Q n) (Q 0) calls (many_below times call n) m (goes n m q) (many_leads times call Q goes n (run m calls))
