-- Lent once. Assumes nothing.
use Prim.Native.Nat.{ℕ, ◌+◌, ◌*◌, ◌<◌}
use native.Mathlib.Omega.{arith}
use mathlib.Core.Bool.{Bool, true, false}
use mathlib.Core.Logic.{◌⊎◌, inl, inr, ⊎_elim}
use mathlib.Core.List.{[], ◌∷◌}
use mathlib.Core.Path.{◌≡◌, refl, sym, ap, subst, ◌∙◌}
use borrow.Author.Tests.{eqb-true, eqb-false}
use lib.Dec.{eqb}
use lib.ListN.{length, get_or, set}
use lib.Seq.{get_or-set_same, get_or-set_other}
use Rattle.capabilities.specs.declared.Range.{Range}
use Rattle.capabilities.specs.Capability.{capability}
use Rattle.capabilities.proofs.Choice.{and_left}
use Rattle.table.specs.Table.{Table}
use Rattle.table.specs.Find.{row_of}
use Rattle.table.specs.Operations.{take_of, taken_row}
use Rattle.table.specs.Rows.{is_open, held, live, range_of}
use Rattle.table.proofs.After.{Replaced, take_after}
use Rattle.table.proofs.Kept.{row_live}
use Rattle.reservations.proofs.CoreKept.{core_facts}
use Rattle.calls.specs.declared.Call.{Call}
use Rattle.words.specs.declared.Slot.{Slot}
use Rattle.words.specs.Words.{slot, empty}
use Rattle.machine.specs.Roles.{IsTake}
use Rattle.machine.specs.Effects.{taking}
use Rattle.machine.specs.Step.{done, effect_on, registers_after, mailboxes_after, cells_after, tags_after}
use Rattle.machine.proofs.Deeds.{Taken, taken_by}
use Rattle.machine.proofs.Keeps.{facts}
use Rattle.histories.specs.Runs.{Machine, outcome, next}
use Rattle.histories.specs.Live.{Spot, register, mailbox, virtual, word_in, Into, NoneInto}
use Rattle.histories.specs.Inv.{Inv, row_at}
use Rattle.histories.specs.Lending.{lent_range, named_range, LentOnce, LentBy, LentByCapability}
use Rattle.histories.proofs.Granted.{Went, handed, went, went_core}
use Rattle.histories.proofs.Findings.{take_length}
use Rattle.histories.proofs.Always.{inv_reached}
use Rattle.histories.proofs.Confining.{none_into_open}

-- What a granted take has found.
pub record Lends (m : Machine) (take : Call) (p base : ℕ) : Type 0 where
  pub row : ℕ
  pub used : row < length (live m.state.core.table)
  pub isopen : is_open (row_at m.state.core.table row).state ≡ true
  pub range : lent_range m take base ≡ range_of (row_at m.state.core.table row)
  pub now : Replaced m.state.core.table (next m take).state.core.table p base row 1 (taken_row (row_at m.state.core.table row) p ∷ [])

-- A granted take, of either kind.
module _ (m : Machine) (take : Call) (p base reg permissions : ℕ) (is : IsTake take p base reg permissions) (w : Went m take) where
  abbrev t : Table
  t = m.state.core.table

  abbrev n : Machine
  n = next m take

  abbrev lent_word : Slot
  lent_word = slot (capability base (take_of t p base).length permissions) true

  taken : Taken m.state p base reg permissions (effect_on m.state take m.cells m.tags)
  taken = taken_by m.state take m.cells m.tags p base reg permissions is w.clear

  -- What it leaves, and its answer.
  took_now : outcome m take ≡ done m.state (taking m.state.core p base reg permissions) m.cells m.tags
  took_now = w.now ∙ ap (λ e. done m.state e m.cells m.tags) taken.is

  took_next : n ≡ handed (done m.state (taking m.state.core p base reg permissions) m.cells m.tags)
  unfolding next
  took_next = ap handed took_now

  take_code : (take_of t p base).code ≡ 0
  unfolding take_of
  take_code = taken.clear

  take_table : n.state.core.table ≡ (take_of t p base).table
  unfolding done
  take_table = ap (λ x. x.state.core.table) took_next

  pub take_number : (outcome m take).answer.number ≡ (take_of t p base).length
  unfolding done
  take_number = ap (λ o. o.answer.number) took_now

  pub lends : Lends m take p base
  lends =
      let (i, o, r) = take_after (16 * m.state.core.pages.v) t (core_facts m.state.core (went_core m take w)).rows p base take_code in
      let h : i < length (live t) = omega (arith, r.within) in
      let start : (row_at t i).base ≡ base = eqb-true (row_at t i).base base (and_left (eqb (row_at t i).base base) (held (row_at t i) p) r.named) in
      let size : (outcome m take).answer.number ≡ (row_at t i).length = take_number ∙ take_length t p base take_code ∙ ap (λ f. (row_of t f).length) r.found ∙ ap (λ x. x.length) (row_live t i h) in
      record {
        row = i;
        used = h;
        isopen = o;
        range = ap (λ n. range_of_lem n (outcome m take).answer.number) (sym start) ∙ ap (range_of_lem (row_at t i).base) size;
        now = record { found = r.found; within = r.within; named = r.named; now = ap live take_table ∙ r.now };
      }
    where
      range_of_lem : ℕ → ℕ → Range
      range_of_lem b n = record { base = b; length = n }

  -- What it has found is what it names.
  pub named_range_lem : named_range m p base ≡ range_of (row_at t lends.row)
  named_range_lem = ap (λ f. range_of (row_of t f)) lends.now.found ∙ ap range_of (row_live t lends.row lends.used)

  -- The register that it writes.
  registers_now : n.state.registers ≡ set m.state.registers (8 * p + reg) lent_word
  unfolding done registers_after
  registers_now = ap (λ x. x.state.registers) took_next

  elsewhere_now : (x : Spot) → (x ≡ register (8 * p + reg) → ⊥) → word_in n x ≡ word_in m x
  unfolding done mailboxes_after cells_after tags_after
  elsewhere_now (register i) other = ap (λ l. get_or l i empty) registers_now ∙ get_or-set_other m.state.registers (8 * p + reg) i lent_word empty (λ e. other (ap register e))
  elsewhere_now (mailbox q) other = ap (λ x. word_in x (mailbox q)) took_next
  elsewhere_now (virtual v) other = ap (λ x. word_in x (virtual v)) took_next

  same_spot : (x : Spot) → (x ≡ register (8 * p + reg)) ⊎ (x ≡ register (8 * p + reg) → ⊥)
  same_spot (register i) = go (eqb i (8 * p + reg)) refl
    where
      go : (b : Bool) → eqb i (8 * p + reg) ≡ b → (register i ≡ register (8 * p + reg)) ⊎ (register i ≡ register (8 * p + reg) → ⊥)
      go true e = inl (ap register (eqb-true i (8 * p + reg) e))
      go false e = inr (λ z. eqb-false i (8 * p + reg) e cc)
  same_spot (mailbox q) = inr (λ z. let y : ◌≡◌ {A = ℕ} 0 1 = cc in omega arith)
  same_spot (virtual v) = inr (λ z. let y : ◌≡◌ {A = ℕ} 0 1 = cc in omega arith)

  lent_by : Inv m → LentBy m take p base reg permissions
  lent_by inv =
      let none = subst (NoneInto m) (sym named_range_lem) (none_into_open m inv (went_core m take w) lends.row lends.used lends.isopen) in
      record {
        begins = ap (λ r. r.base) (named_range_lem ∙ sym lends.range);
        holds =
            ap (λ l. get_or l (8 * p + reg) empty) registers_now
            ∙ get_or-set_same m.state.registers (8 * p + reg) lent_word empty (omega (arith, taken.party, taken.register, (facts m.state w.formed).of_registers))
            ∙ ap (λ l. slot (capability base l permissions) true) (sym take_number ∙ ap (λ r. r.length) (lends.range ∙ sym named_range_lem));
        only = λ x live into.
            ⊎_elim (λ e. e) (λ other. absurd (none x (sym (ap (λ s. s.tag) (elsewhere_now x other)) ∙ live) (subst (λ s. Into (named_range m p base) s.cell) (elsewhere_now x other) into)))
            (same_spot x);
      }

pub lent_once : LentOnce
lent_once m r take p base reg permissions is g =
    let w = went m take g in
    let k = lends m take p base reg permissions is w in
    subst (NoneInto m) (sym k.range) (none_into_open m (inv_reached m r) (went_core m take w) k.row k.used k.isopen)

pub lent_by_capability : LentByCapability
lent_by_capability m r take p base reg permissions is g = lent_by m take p base reg permissions is (went m take g) (inv_reached m r)
