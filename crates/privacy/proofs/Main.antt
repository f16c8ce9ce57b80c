-- Demand 3: the privacy rule. The plan: every history has the invariant of `histories`; by it nothing live is into an Open range, so
-- that the house's take begins its time with nothing live into its range but its own capability (here). In its time only the house's
-- registers and the range itself hold such capabilities (`House`, kept by `Steps.keeps`). Two histories have equal cores, mailboxes,
-- registers of the others and Mapped cells that are not hidden (`Relate`): a struck call in one keeps this (`Steps.alone`), and so does
-- a call that is left in both (`Twice.both_left`). Induction on the two lists (`Glue`) does the rest. Assumes nothing.
use Prim.Native.Nat.{ℕ, ◌+◌, ◌*◌, ◌<◌}
use native.Mathlib.Omega.{arith}
use mathlib.Core.Bool.{Bool, true, false, ◌&&◌, true≢false, false≢true}
use mathlib.Core.List.{List, [], ◌∷◌, ◌++◌}
use mathlib.Core.Path.{◌≡◌, refl, sym, ap, subst, ◌∙◌}
use borrow.Author.Tests.{eq-eqb}
use lib.Dec.{eqb}
use lib.ListN.{length, get_or}
use Rattle.capabilities.specs.declared.Range.{Range}
use Rattle.capabilities.specs.Capability.{capability}
use Rattle.capabilities.specs.Lists.{pick}
use Rattle.capabilities.specs.Range.{inside}
use Rattle.table.specs.Operations.{take_of, taken_row}
use Rattle.table.specs.Rows.{is_open, live, range_of}
use Rattle.table.proofs.Cells.{inside_made}
use Rattle.maps.specs.Questions.{ask_of}
use Rattle.reservations.specs.Core.{Core}
use Rattle.reservations.specs.Revocation.{core_sound}
use Rattle.calls.specs.declared.Call.{Call}
use Rattle.words.specs.declared.Slot.{Slot}
use Rattle.words.specs.Words.{slot, empty, named, register_of, mailbox_of, word_at}
use Rattle.machine.specs.Roles.{IsTake}
use Rattle.machine.specs.Effects.{taking}
use Rattle.machine.specs.Formed.{well_formed}
use Rattle.machine.proofs.Deeds.{Taken, taken_by}
use Rattle.machine.proofs.Costs.{cost_same}
use Rattle.machine.specs.Step.{effect_on, registers_after, mailboxes_after, cells_after, tags_after}
use Rattle.histories.specs.Inv.{row_at, Confined, Inv}
use Rattle.histories.specs.Inv.{Sound as Bounded}
use Rattle.histories.specs.Runs.{Machine, outcome, next, run, begun, granted, Begins}
use Rattle.histories.proofs.Always.{inv_step, inv_run, inv_begun}
use Rattle.histories.proofs.Findings.{row_first}
use Rattle.histories.proofs.Forming.{always_formed}
use Rattle.histories.proofs.Leading.{run_append}
use Rattle.histories.proofs.View.{shown_at_lem}
use Rattle.privacy.specs.Rule.{housed, Time, lasting, taken_range, time_after, into, told, heard}
use Rattle.privacy.specs.Claim.{Within, Privacy, CostsUnnoticed, CoresUnnoticed, MapsUnnoticed}
use Rattle.privacy.proofs.Fate.{Granted, Fate, down, up, fate, after}
use Rattle.privacy.proofs.Glue.{Same, glue}
use Rattle.privacy.proofs.House.{into_cell, Apart, Tame, Good, apart_good, Housed}
use Rattle.privacy.proofs.Relate.{Rel, turned, itself, alike}
use Rattle.privacy.proofs.Steps.{granted_core, granted_next, refused_test, Ok, keeps, alone}
use Rattle.privacy.proofs.Tables.{Takes, takes, taken_base, taken_length, row_long, one_row}
use Rattle.privacy.proofs.Twice.{both_left}
use Rattle.privacy.proofs.Words.{put_register_lem}

-- Nothing live is into an Open range (F2).
module _ (k : Core) (ok : core_sound k ≡ true) (j : ℕ) (used : j < length (live k.table)) (free : is_open (row_at k.table j).state ≡ true) where
  open_apart : (w : Slot) → Bounded k.table w → Apart (range_of (row_at k.table j)) w
  open_apart w b t = go (into (range_of (row_at k.table j)) w.cell) refl
    where
      go : (x : Bool) → into (range_of (row_at k.table j)) w.cell ≡ x → into (range_of (row_at k.table j)) w.cell ≡ false
      go true e =
          let c : Confined k.table w.cell = b t in
          let (v, from, upto, hit) = into_cell (range_of (row_at k.table j)) w.cell e in
          let same = one_row k ok c.row j v c.used used (inside_made (range_of (row_at k.table c.row)) v (omega (arith, from, c.within.from)) (omega (arith, upto, c.within.upto))) hit in
          absurd (true≢false (sym free ∙ ap (λ i. is_open (row_at k.table i).state) (sym same) ∙ c.lent))
      go false e = e

-- The house's range after its granted take.
module _ (m : Machine) (take : Call) (house base reg permissions : ℕ) (is : IsTake take house base reg permissions) (inv : Inv m) (g : Granted m take) where
  ok : core_sound m.state.core ≡ true
  ok = granted_core m take g

  t : Taken m.state house base reg permissions (effect_on m.state take m.cells m.tags)
  t = taken_by m.state take m.cells m.tags house base reg permissions is g.clear

  w : Takes m.state.core ok house base
  w = takes m.state.core ok house base t.clear

  abbrev r : Range
  r = range_of (row_at m.state.core.table w.row)

  none_yet : (x : Slot) → Bounded m.state.core.table x → Apart r x
  none_yet = open_apart m.state.core ok w.row w.used w.isopen

  register_none_yet : (p d : ℕ) → Apart r (register_of m.state.registers p d)
  unfolding register_of
  register_none_yet p d = go (named p && named d)
    where
      go : (b : Bool) → Apart r (pick b (get_or m.state.registers (8 * p + d) empty) empty)
      go true = none_yet (get_or m.state.registers (8 * p + d) empty) (inv.registers (8 * p + d))
      go false = λ t. absurd (false≢true t)

  new_tame : Tame r (slot (capability base (take_of m.state.core.table house base).length permissions) true)
  new_tame x e =
      let b = taken_base m.state.core ok house base w permissions t.few in
      let l = taken_length m.state.core ok house base w permissions t.few in
      record { from = omega (arith, b, w.begins); upto = omega (arith, b, l, w.begins, w.long) }

  taken_housed : Housed house r (after m (taking m.state.core house base reg permissions))
  unfolding after registers_after mailboxes_after cells_after tags_after mailbox_of
  taken_housed =
      let row = row_first m.state.core.table (take_of m.state.core.table house base).table house base w.row 1 (taken_row (row_at m.state.core.table w.row) house) [] w.replaced in
      record {
        some = row_long m.state.core ok w.row w.used;
        around =
            record {
              row = w.row;
              used = row.0;
              lent = ap (λ x. is_open x.state) row.1;
              from = omega (arith, ap (λ x. x.base) row.1);
              upto = omega (arith, ap (λ x. x.base) row.1, ap (λ x. x.length) row.1);
            };
        registers =
            put_register_lem (λ q x. Good r (eqb q house) x) m.state.registers house reg (slot (capability base (take_of m.state.core.table house base).length permissions) true) t.register
            (subst (λ b. Good r b (slot (capability base (take_of m.state.core.table house base).length permissions) true)) (sym (eq-eqb house house refl)) new_tame)
            (λ q d. apart_good r (eqb q house) (register_of m.state.registers q d) (register_none_yet q d));
        mailboxes = λ p. none_yet (get_or m.state.mailboxes p empty) (inv.mailboxes p);
        words =
            λ v at q. apart_good r (inside r v) (word_at m.cells m.tags at)
            (none_yet (word_at m.cells m.tags at) (subst (Bounded m.state.core.table) (shown_at_lem m.state.core.pages m.cells m.tags v at q) (inv.memory.confined v)));
      }

  range_is : taken_range m.state.core.table house base ≡ r
  unfolding taken_range
  range_is = ap (λ x. range_of x) w.named

  pub take_housed : Housed house (taken_range m.state.core.table house base) (next m take)
  take_housed = subst (λ x. Housed house x (next m take)) (sym range_is) (subst (λ x. Housed house r x) (sym (granted_next m take g ∙ ap (after m) t.is)) taken_housed)

pub take_ok : (m : Machine) (take : Call) (house base reg permissions : ℕ) → IsTake take house base reg permissions → Inv m → granted m take ≡ true
    → Ok house (lasting (taken_range m.state.core.table house base)) (next m take)
take_ok m take house base reg permissions is inv t = go (fate m take)
  where
    go : Fate m take → Ok house (lasting (taken_range m.state.core.table house base)) (next m take)
    go (down k n e q) = absurd (true≢false (sym t ∙ refused_test m take k n e))
    go (up e g) =
        record {
          inv = inv_step m take inv;
          own = λ r x. let s : taken_range m.state.core.table house base ≡ r = cc in subst (λ y. Housed house y (next m take)) s (take_housed m take house base reg permissions is inv g);
        }

-- Two lists that begin alike.
heard_on : (house : ℕ) (m : Machine) (k l₁ l₂ : List Call) → heard house (run m k) l₁ ≡ heard house (run m k) l₂ → heard house m (k ++ l₁) ≡ heard house m (k ++ l₂)
unfolding run heard
heard_on house m [] l₁ l₂ e = e
heard_on house m (c ∷ k) l₁ l₂ e = ap (λ x. pick (housed house c) x (told (outcome m c).answer ∷ x)) (heard_on house (next m c) k l₁ l₂ e)

heard_first : (house : ℕ) (m : Machine) (c : Call) (l₁ l₂ : List Call) → heard house (next m c) l₁ ≡ heard house (next m c) l₂ → heard house m (c ∷ l₁) ≡ heard house m (c ∷ l₂)
unfolding heard
heard_first house m c l₁ l₂ e = ap (λ x. pick (housed house c) x (told (outcome m c).answer ∷ x)) e

run_first : (m : Machine) (c : Call) (l : List Call) → run m (c ∷ l) ≡ run (next m c) l
unfolding run
run_first m c l = refl

module _ (v f : ℕ) (cells tags : List ℕ) (before : List Call) (c : Call) (house base reg permissions : ℕ) (after₁ after₂ : List Call)
    (w : Within v f cells tags before c house base reg permissions after₁ after₂) where
  abbrev begin : Machine
  begin = begun v f cells tags

  abbrev taken : Machine
  taken = run begin before

  abbrev span : Time
  span = lasting (taken_range taken.state.core.table house base)

  -- What the lists come to after the take, which is the same in both.
  same_after : Same house (Rel house) span (next taken c) (next taken c) after₁ after₂
  same_after =
      let ok : Ok house span (next taken c) = take_ok taken c house base reg permissions w.takes (inv_run before begin (inv_begun v f cells tags)) w.took in
      glue house (Ok house) (Rel house) (keeps house) (turned house) (alone house) (both_left house) after₁ after₂ span (next taken c) (next taken c) ok ok (itself house span (next taken c)) w.same w.discreet₁ w.discreet₂

  ran : (l : List Call) → run (next taken c) l ≡ run begin (before ++ c ∷ l)
  ran l = sym (run_append before (c ∷ l) begin ∙ run_first taken c l)

  -- What the whole lists leave.
  left_related : Rel house (time_after span (next taken c) after₁) (run begin (before ++ c ∷ after₁)) (run begin (before ++ c ∷ after₂))
  left_related =
      subst (λ x. Rel house (time_after span (next taken c) after₁) x (run begin (before ++ c ∷ after₂))) (ran after₁)
      (subst (λ x. Rel house (time_after span (next taken c) after₁) (run (next taken c) after₁) x) (ran after₂) same_after.related)

-- Whatever a house keeps in a range it took, no history lets others notice it.
pub privacy : Privacy
privacy v f cells tags before c house base reg permissions after₁ after₂ w =
    let begin : Machine = begun v f cells tags in
    let m : Machine = run begin before in
    let s = same_after v f cells tags before c house base reg permissions after₁ after₂ w in
    record {
      answers = heard_on house begin before (c ∷ after₁) (c ∷ after₂) (heard_first house m c after₁ after₂ s.answers);
      ended = s.ended;
      alike = alike house _ (run begin (before ++ c ∷ after₁)) (run begin (before ++ c ∷ after₂)) (left_related v f cells tags before c house base reg permissions after₁ after₂ w);
    }

pub cores_unnoticed : CoresUnnoticed
cores_unnoticed v f cells tags before c house base reg permissions after₁ after₂ w =
    (left_related v f cells tags before c house base reg permissions after₁ after₂ w).core

-- So what is asked of a core is answered alike, as the takers are alike (`Relate.alike`): the cost of a page, of states that are well formed as
-- after every history; and which reservations lie where.
always : (v f : ℕ) (cells tags : List ℕ) → Begins v f cells tags → (calls : List Call) → well_formed (run (begun v f cells tags) calls).state ≡ true
always v f cells tags b calls =
    (always_formed (run (begun v f cells tags) calls) (record { v = v; f = f; cells = cells; tags = tags; begins = b; calls = calls; is = refl })).formed

pub costs_unnoticed : CostsUnnoticed
costs_unnoticed v f cells tags before c house base reg permissions after₁ after₂ w n =
    cost_same _ _ n (cores_unnoticed v f cells tags before c house base reg permissions after₁ after₂ w)
    (always v f cells tags w.begins (before ++ c ∷ after₁) ∙ sym (always v f cells tags w.begins (before ++ c ∷ after₂)))

pub maps_unnoticed : MapsUnnoticed
maps_unnoticed v f cells tags before c house base reg permissions after₁ after₂ w q bases =
    ap (λ k. ask_of (live k.table) q bases) (cores_unnoticed v f cells tags before c house base reg permissions after₁ after₂ w)
