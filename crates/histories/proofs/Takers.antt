-- Who took it. A fresh start has one Open reservation, and nobody has taken a cell; each call keeps the takers as written (TakersKept).
-- Who has taken a cell becomes a party by a granted take of that party alone, so going over the calls finds the take. Assumes nothing.
use Prim.Native.Nat.{ℕ, zero, suc, ◌*◌, ◌<◌}
use native.Mathlib.Omega.{arith}
use mathlib.Core.Bool.{Bool, true, false}
use mathlib.Core.List.{List, [], ◌∷◌}
use mathlib.Core.Logic.{◌⊎◌, inl, inr, ⊎_elim}
use mathlib.Core.Path.{◌≡◌, refl, sym, ap, subst, ◌∙◌}
use borrow.Author.Tests.{eqb-true, ne_eqb}
use lib.Dec.{eqb}
use lib.ListN.{length, take, replicate}
use Rattle.capabilities.specs.Lists.{pick}
use Rattle.capabilities.specs.Range.{inside}
use Rattle.pages.specs.Layer.{in_range}
use Rattle.table.specs.Table.{Table}
use Rattle.table.specs.Rows.{is_taken, no_taker, blank, live, range_of, table}
use Rattle.table.specs.Tiling.{fresh_table}
use Rattle.reservations.specs.Revocation.{revoked, fresh_core}
use Rattle.reservations.proofs.Starts.{whole}
use Rattle.calls.specs.declared.Call.{Call}
use Rattle.machine.specs.Formed.{fresh, start_of}
use Rattle.machine.specs.Roles.{Role, takes, collects, fills, stores, grants, receives, plain, asked, role_of, caller_of, IsTake}
use Rattle.machine.specs.Step.{effect_on}
use Rattle.machine.proofs.Deeds.{deed}
use Rattle.histories.specs.Runs.{Machine, outcome, next, run, begun, Granted}
use Rattle.histories.specs.Inv.{row_at}
use Rattle.histories.specs.Lending.{named_range}
use Rattle.histories.specs.Takers.{taker_by, taker_after, taken_by, TakersWrittenDown, Came, TakerTookIt}
use Rattle.histories.proofs.Granted.{went_or_not}
use Rattle.histories.proofs.Between.{done_table, went_granted}
use Rattle.histories.proofs.TakersKept.{TakerTook, AllWritten, written_open, written_taken, written_revoking, written_several, deed_written}

-- A step, granted or refused.
step_written : (m : Machine) (c : Call) (took : ℕ → ℕ) → AllWritten m.state.core.table took → AllWritten (next m c).state.core.table (λ cell. taker_after m c cell (took cell))
unfolding taker_after
step_written m c took all =
    ⊎_elim
    (λ w.
    subst (λ t. AllWritten t (after (eqb (outcome m c).answer.code 0))) (sym (done_table m c w))
    (subst (λ n. AllWritten (effect_on m.state c m.cells m.tags).core.table (after (eqb n 0))) (sym (went_granted m c w)) (deed_written m w.formed took all (deed m.state c m.cells m.tags w.clear))))
    (λ n.
    subst (λ x. AllWritten x.state.core.table (after (eqb (outcome m c).answer.code 0))) (sym n.0)
    (subst (λ b. AllWritten m.state.core.table (after b)) (sym (ne_eqb (outcome m c).answer.code 0 n.1)) all))
    (went_or_not m c)
  where
    after : Bool → ℕ → ℕ
    after granted cell = pick granted (taker_by m (caller_of c) (role_of c).role cell (took cell)) (took cell)

run_written : (calls : List Call) (m : Machine) (took : ℕ → ℕ) → AllWritten m.state.core.table took → AllWritten (run m calls).state.core.table (λ cell. taken_by m calls cell (took cell))
unfolding run taken_by
run_written [] m took all = all
run_written (c ∷ calls) m took all = run_written calls (next m c) (λ cell. taker_after m c cell (took cell)) (step_written m c took all)

-- A fresh table has one Open reservation, or none.
fresh_written : (cells : ℕ) → AllWritten (fresh_table cells) (λ cell. no_taker)
unfolding fresh_table live
fresh_written cells = go (eqb cells 0)
  where
    go : (b : Bool) → AllWritten (pick b (table (replicate 64 blank) 0) (table (whole cells ∷ replicate 63 blank) 1)) (λ cell. no_taker)
    go true j h = absurd (omega arith)
    go false zero h = λ cell e. refl
    go false (suc j) h = absurd (omega arith)

pub always_written : (v f : ℕ) (cells tags : List ℕ) (calls : List Call)
    → AllWritten (run (begun v f cells tags) calls).state.core.table (λ cell. taken_by (begun v f cells tags) calls cell no_taker)
unfolding begun start_of fresh fresh_core
always_written v f cells tags calls = run_written calls (begun v f cells tags) (λ cell. no_taker) (fresh_written (pick (in_range v f) (16 * v) 0))

pub takers_written_down : TakersWrittenDown
takers_written_down v f cells tags b calls =
    record {
      of_open = λ i cell k o. written_open (row_at t i).state (range_of (row_at t i)) (row_at t i).taker took (all i k.0) o cell k.1;
      of_taken = λ i cell k o. (taken i k.0 o).by_party cell k.1;
      of_one = λ i cell k o few. (taken i k.0 o).by_one (omega (arith, few)) cell k.1;
      of_several = λ i h o z. let d = written_several (row_at t i).state (range_of (row_at t i)) (row_at t i).taker took (all i h) o z in (d.one, d.other, (h, d.has_one), (h, d.has_other), d.apart);
      of_revoking = λ i cell k o few. ⊎_elim (λ x. inl (x.by_one (omega (arith, few)) cell k.1)) (λ x. inr (x.1, x.0 cell k.1)) (written_revoking (row_at t i).state (range_of (row_at t i)) (row_at t i).taker took (all i k.0) o);
    }
  where
    t : Table
    t = (run (begun v f cells tags) calls).state.core.table

    took : ℕ → ℕ
    took cell = taken_by (begun v f cells tags) calls cell no_taker

    all : AllWritten t took
    all = always_written v f cells tags calls

    taken : (i : ℕ) → i < length (live t) → is_taken (row_at t i).state ≡ true → TakerTook (range_of (row_at t i)) (row_at t i).taker took
    taken i h o = written_taken (row_at t i).state (range_of (row_at t i)) (row_at t i).taker took (all i h) o

-- A call is a granted take of a range with a cell.
record Takes (m : Machine) (c : Call) (p cell : ℕ) : Type 0 where
  base : ℕ
  reg : ℕ
  permissions : ℕ
  is : IsTake c p base reg permissions
  granted : Granted m c
  has : inside (named_range m p base) cell ≡ true

pick_either : (b : Bool) (x y n : ℕ) → pick b x y ≡ n → ((b ≡ true) × (x ≡ n)) ⊎ (y ≡ n)
pick_either true x y n e = inl (refl, e)
pick_either false x y n e = inr e

-- A party that has taken a cell had taken it before the call, or the call is its take.
takes_or_had : (m : Machine) (c : Call) (p cell had : ℕ) → p < 8 → taker_after m c cell had ≡ p → (had ≡ p) ⊎ Takes m c p cell
unfolding taker_after
takes_or_had m c p cell had low e =
    ⊎_elim (λ (g, z). by_role (eqb-true (outcome m c).answer.code 0 g) (role_of c).role refl z) inl
    (pick_either (eqb (outcome m c).answer.code 0) (taker_by m (caller_of c) (role_of c).role cell had) had p e)
  where
    by_role : Granted m c → (role : Role) → (role_of c).role ≡ role → taker_by m (caller_of c) role cell had ≡ p → (had ≡ p) ⊎ Takes m c p cell
    by_role g (takes base reg permissions) is z =
        ⊎_elim (λ (h, own). inr (subst (λ q. Takes m c q cell) own (record { base = base; reg = reg; permissions = permissions; is = ap (asked (caller_of c)) is; granted = g; has = h }))) inl
        (pick_either (inside (named_range m (caller_of c) base) cell) (caller_of c) had p z)
    by_role g collects is z = ⊎_elim (λ (h, none). absurd (omega arith)) inl (pick_either (inside (revoked m.state.core) cell) no_taker had p z)
    by_role g (fills from d) is z = inl z
    by_role g (stores a off x) is z = inl z
    by_role g (grants x to) is z = inl z
    by_role g (receives d) is z = inl z
    by_role g plain is z = inl z

-- A cell stays a party's after each of the calls.
abbrev Lasts : Machine → List Call → ℕ → ℕ → Type 0
Lasts m calls p cell = (n : ℕ) → taken_by m (take n calls) cell p ≡ p

lasts_on : (m : Machine) (c : Call) (calls : List Call) (p cell : ℕ) → taker_after m c cell p ≡ p → Lasts (next m c) calls p cell → Lasts m (c ∷ calls) p cell
unfolding taken_by
lasts_on m c calls p cell e k zero = refl
lasts_on m c calls p cell e k (suc n) = ap (taken_by (next m c) (take n calls) cell) e ∙ k n

lasts_nothing : (m : Machine) (p cell : ℕ) → Lasts m [] p cell
unfolding taken_by
lasts_nothing m p cell zero = refl
lasts_nothing m p cell (suc n) = refl

-- The last take of a cell that a party has in the end: after it the cell stays the party's all along.
last_take : (calls : List Call) (m : Machine) (p cell had : ℕ) → p < 8 → taken_by m calls cell had ≡ p → ((had ≡ p) × Lasts m calls p cell) ⊎ Came m calls p cell
unfolding run taken_by
last_take [] m p cell had low e = inl (e, lasts_nothing m p cell)
last_take (c ∷ calls) m p cell had low e =
    ⊎_elim
    (λ (now, lasts).
    ⊎_elim (λ same. inl (same, lasts_on m c calls p cell (subst (λ n. taker_after m c cell n ≡ p) same now) lasts))
    (λ k. inr (record { before = []; take = c; base = k.base; reg = k.reg; permissions = k.permissions; after = calls; are = refl; is = k.is; granted = k.granted; has = k.has; stays = lasts }))
    (takes_or_had m c p cell had low now))
    (λ k.
    inr (record { before = c ∷ k.before; take = k.take; base = k.base; reg = k.reg; permissions = k.permissions; after = k.after; are = ap (λ l. c ∷ l) k.are; is = k.is; granted = k.granted; has = k.has; stays = k.stays }))
    (last_take calls (next m c) p cell (taker_after m c cell had) low e)

pub taker_took_it : TakerTookIt
taker_took_it v f cells tags b calls i cell k o few =
    ⊎_elim (λ x. absurd (omega (arith, x.0))) (λ x. x)
    (last_take calls (begun v f cells tags) (row_at (run (begun v f cells tags) calls).state.core.table i).taker cell no_taker few ((takers_written_down v f cells tags b calls).of_one i cell k o few))
