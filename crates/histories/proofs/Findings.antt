-- What the calls find and make: confined capabilities, the place of a cell, the end of a revocation. Assumes nothing.
use Rattle.std.specs.Prelude.{None, Some, Option}
use Prim.Native.Nat.{ℕ, ◌+◌, ◌*◌, ◌/◌, ◌%◌, ◌<◌, ◌≤◌}
use native.Mathlib.Omega.{arith}
use mathlib.Core.Bool.{true, false, ◌&&◌, true≢false}
use mathlib.Core.List.{List, ◌∷◌, ◌++◌}
use mathlib.Core.Path.{◌≡◌, refl, sym, ap, subst, ◌∙◌}
use borrow.Author.Tests.{eqb-true, eq-eqb, not-true, not-false}
use lib.Bits.{bit_and, and_le_l}
use lib.Dec.{eqb}
use lib.ListN.{length, take, drop}
use Rattle.capabilities.specs.Capability.{base_of, length_of, permissions_of, capability, narrowed}
use Rattle.capabilities.specs.Refusals.{first}
use Rattle.capabilities.proofs.Capabilities.{made_base, made_length, made_permissions, made_small}
use Rattle.capabilities.proofs.Choice.{pick_yes, and_left, and_right}
use Rattle.pages.specs.Mapping.{freed_of, released_of, any_mapped}
use Rattle.pages.specs.Freed.{all_freed}
use Rattle.pages.proofs.AllFreed.{freed_none_mapped}
use Rattle.table.specs.declared.Reservation.{Reservation}
use Rattle.table.specs.Table.{Table}
use Rattle.table.specs.Find.{find_of, row_of, with_row, revoking_of, missing}
use Rattle.table.specs.Operations.{take_reasons, take_of}
use Rattle.table.specs.Rows.{is_open, is_revoking, blank, live, range_of}
use Rattle.table.proofs.After.{Replaced}
use Rattle.table.proofs.Unrevoked.{with_live}
use Rattle.table.proofs.Finding.{found_at}
use Rattle.table.proofs.Kept.{row_live}
use Rattle.table.proofs.Sound.{sound}
use Rattle.reservations.specs.Core.{Core, unswept}
use Rattle.reservations.specs.Revocation.{running, revoked, whole_pages, revoke_reasons, revoke_at, revoke_of, collect_reasons, collected_row, collected, collect_of, core_sound, revocation_sound}
use Rattle.reservations.proofs.CoreKept.{CoreFacts, core_facts}
use Rattle.reservations.proofs.Revocations.{collected_at, collect_clear, freed_while}
use Rattle.histories.specs.Inv.{row_at, Confined}
use Rattle.histories.proofs.Table.{long, mid_row}

-- The first of the rows that stand in place of others.
pub row_first : (t u : Table) (party base i k : ℕ) (x : Reservation) (rest : List Reservation) → Replaced t u party base i k (x ∷ rest) → (i < length (live u)) × (row_at u i ≡ x)
row_first t u party base i k x rest r =
    let n : i + 0 ≡ i = omega arith in
    (omega (arith, long t u (x ∷ rest) i k r.within r.now), ap (λ j. row_at u j) (sym n) ∙ mid_row t u (x ∷ rest) i k r.within r.now 0 (omega arith))

-- A capability made for cells of a lent reservation.
pub made_confined : (t : Table) (i base len permissions : ℕ) → i < length (live t) → is_open (row_at t i).state ≡ false → base < 65536 → len < 65536 → permissions ≤ 15
    → (row_at t i).base ≤ base → base + len ≤ (row_at t i).base + (row_at t i).length → 1 ≤ len → Confined t (capability base len permissions)
made_confined t i base len permissions used lent small short few from upto some =
    let p : permissions < 256 = at_most_15 permissions few in
    let b = made_base base len permissions small short p in
    let l = made_length base len permissions small short p in
    record {
      row = i;
      used = used;
      lent = lent;
      within = record { from = subst (λ n. (row_at t i).base ≤ n) (sym b) from; upto = subst (λ n. n + length_of (capability base len permissions) ≤ (row_at t i).base + (row_at t i).length) (sym b) (subst (λ n. base + n ≤ (row_at t i).base + (row_at t i).length) (sym l) upto) };
      some = subst (λ n. 1 ≤ n) (sym l) some;
      few = subst (λ n. n ≤ 15) (sym (made_permissions base len permissions small short p)) few;
      small = made_small base len permissions small short p;
    }
  where
    at_most_15 : (n : ℕ) → n ≤ 15 → n < 256
    at_most_15 n h = omega arith

pub less_of : (n : ℕ) → n / 65536 % 65536 < 65536
less_of n = omega arith

le_below : (a b n : ℕ) → a + b ≤ n → n < 65536 → b < 65536
le_below a b n h k = omega arith

le_le : (a b n : ℕ) → a ≤ b → b ≤ n → a ≤ n
le_le a b n h k = omega arith

mod_small : (n : ℕ) → n ≤ 65535 → n % 65536 ≡ n
mod_small n h = omega arith

mod_less : (n : ℕ) → n % 65536 < 65536
mod_less n = omega arith

pub further : (a b off : ℕ) → a ≤ b → a ≤ b + off
further a b off h = omega arith

pub short_of : (b off n e : ℕ) → off < n → b + n ≤ e → b + off < e
short_of b off n e h k = omega arith

shorter : (b off len n e : ℕ) → off + len ≤ n → b + n ≤ e → b + off + len ≤ e
shorter b off len n e h k = omega arith

-- A narrowed capability lies within the one that it was narrowed from.
pub narrowed_confined : (t : Table) (c off len mask : ℕ) → Confined t c → 1 ≤ len → off + len ≤ length_of c → base_of c + off ≤ 65535 → Confined t (narrowed c off len mask)
narrowed_confined t c off len mask k some ends starts =
    made_confined t k.row ((base_of c + off) % 65536) len (bit_and (permissions_of c) mask) k.used k.lent (mod_less (base_of c + off)) (le_below off len (length_of c) ends (less_of c))
    (le_le (bit_and (permissions_of c) mask) (permissions_of c) 15 (and_le_l (permissions_of c) mask) k.few)
    (subst (λ n. (row_at t k.row).base ≤ n) (sym (mod_small (base_of c + off) starts)) (further (row_at t k.row).base (base_of c) off k.within.from))
    (subst (λ n. n + len ≤ (row_at t k.row).base + (row_at t k.row).length) (sym (mod_small (base_of c + off) starts)) (shorter (base_of c) off len (length_of c) ((row_at t k.row).base + (row_at t k.row).length) ends k.within.upto))
    some

pub take_length : (t : Table) (p base : ℕ) → (take_of t p base).code ≡ 0 → (take_of t p base).length ≡ (row_of t (find_of t p base)).length
unfolding take_of
take_length t p base z = pick_yes (eqb (first (take_reasons t p base)) 0) (row_of t (find_of t p base)).length 0 (eq-eqb (first (take_reasons t p base)) 0 z)

pub revoke_parts : (c : Core) (p base : ℕ) → (revoke_of c p base).code ≡ 0 → (revoke_of c p base).core ≡ unswept c (freed_of c.pages (range_of (row_of c.table (find_of c.table p base)))) (revoke_of c p base).core.table
unfolding revoke_of revoke_at
revoke_parts c p base z =
    let e = pick_yes (eqb (first (revoke_reasons c p base)) 0) (revoke_at c (find_of c.table p base)) c (eq-eqb (first (revoke_reasons c p base)) 0 z) in
    e ∙ ap (λ x. unswept c (freed_of c.pages (range_of (row_of c.table (find_of c.table p base)))) x) (sym (ap (λ x. x.table) e))

revoked_row : (c : Core) → revoked c ≡ range_of (row_of c.table (revoking_of c.table))
unfolding revoked
revoked_row c = refl

-- The reservation that is Revoking while a revocation runs.
pub record Revoked (c : Core) : Type 0 where
  pub row : ℕ
  pub found : revoking_of c.table ≡ Some row
  pub used : row < length (live c.table)
  pub dies : is_revoking (row_at c.table row).state ≡ true
  pub is : row_of c.table (revoking_of c.table) ≡ row_at c.table row
  pub range : revoked c ≡ range_of (row_at c.table row)

pub revoked_while : (c : Core) → running c ≡ true → Revoked c
revoked_while c run = go (revoking_of c.table) refl
  where
    go : (f : Option ℕ) → revoking_of c.table ≡ f → Revoked c
    go (Some i) e =
        let t = c.table in
        let here = found_at (λ r. is_revoking r.state) (live t) i blank (unfold revoking_of in e) in
        let row : row_of t (revoking_of t) ≡ row_at t i = ap (row_of t) e ∙ row_live t i here.0 in
        record { row = i; found = e; used = here.0; dies = here.1; is = row; range = revoked_row c ∙ ap (λ r. range_of r) row }
    go None e = absurd (true≢false (sym (ap (λ f. missing f) e) ∙ not-true (missing (revoking_of c.table)) (unfold running in run)))

-- What a granted collect has found and leaves.
pub record Ends (c : Core) : Type 0 where
  pub row : ℕ
  pub used : row < length (live c.table)
  pub dies : is_revoking (row_at c.table row).state ≡ true
  pub range : revoked c ≡ range_of (row_at c.table row)
  pub now : live (collect_of c).core.table ≡ take row (live c.table) ++ collected_row (row_at c.table row) ∷ drop (row + 1) (live c.table)
  pub parts : (collect_of c).core ≡ unswept c (released_of c.pages (revoked c)) (collect_of c).core.table
  pub over : 16 * c.pages.f ≤ c.place
  pub whole_base : (row_at c.table row).base % 16 ≡ 0
  pub whole_length : (row_at c.table row).length % 16 ≡ 0
  pub freed : any_mapped c.pages (revoked c) ≡ false

pub whole_while : (c : Core) → CoreFacts c → running c ≡ true → whole_pages (row_of c.table (revoking_of c.table)) ≡ true
whole_while c facts run =
    let r = row_of c.table (revoking_of c.table) in
    and_left (whole_pages r) (all_freed c.pages (revoked c))
    (sym (pick_yes (running c) (whole_pages r && all_freed c.pages (revoked c)) (eqb c.place 0) run) ∙ (unfold revocation_sound in facts.revocation))

collect_parts : (c : Core) → (collect_of c).code ≡ 0 → (collect_of c).core ≡ collected c
unfolding collect_of
collect_parts c z = pick_yes (eqb (first (collect_reasons c)) 0) (collected c) c (eq-eqb (first (collect_reasons c)) 0 z)

collected_parts : (c : Core) → collected c ≡ unswept c (released_of c.pages (revoked c)) (collected c).table
unfolding collected
collected_parts c = refl

pub ends : (c : Core) → core_sound c ≡ true → (collect_of c).code ≡ 0 → Ends c
ends c ok z =
    let facts = core_facts c ok in
    let clear = collect_clear c (unfold collect_of in z) in
    let run : running c ≡ true = not-false (running c) clear.0 in
    let k = revoked_while c run in
    let t = c.table in
    let i = k.row in
    let whole : whole_pages (row_at t i) ≡ true = sym (ap (λ r. whole_pages r) k.is) ∙ whole_while c facts run in
    let p = collect_parts c z in
    record {
      row = i;
      used = k.used;
      dies = k.dies;
      range = k.range;
      now =
          ap (λ x. live x.table) (p ∙ collected_at c (Some i) k.found) ∙ ap (λ r. live (with_row t (Some i) (collected_row r))) (row_live t i k.used)
          ∙ with_live (16 * c.pages.v) t (sound (16 * c.pages.v) t facts.rows) i k.used (collected_row (row_at t i));
      parts = p ∙ collected_parts c ∙ ap (λ x. unswept c (released_of c.pages (revoked c)) x.table) (sym p);
      over = clear.1;
      whole_base = eqb-true ((row_at t i).base % 16) 0 (and_left (eqb ((row_at t i).base % 16) 0) (eqb ((row_at t i).length % 16) 0) whole);
      whole_length = eqb-true ((row_at t i).length % 16) 0 (and_right (eqb ((row_at t i).base % 16) 0) (eqb ((row_at t i).length % 16) 0) whole);
      freed = freed_none_mapped c.pages (revoked c) (freed_while c facts run);
    }
