-- 01 to 04 and 11 in place: the numbers that the table's call leaves are what the rule's table is written as. Assumes nothing.
use Prim.Native.Nat.{ℕ, ◌+◌, ◌*◌}
use mathlib.Core.Bool.{Bool, true, false, ◌||◌}
use mathlib.Core.List.{List}
use mathlib.Core.Path.{◌≡◌, refl, sym, ap, subst, ◌∙◌}
use lib.ListN.{length, set}
use lib.Dec.{eqb}
use borrow.Author.Tests.{eqb-true, eqb-false, eq-eqb}
use Rattle.capabilities.specs.Capability.{capability, permitted}
use Rattle.capabilities.specs.Lists.{pick}
use Rattle.capabilities.specs.Refusals.{first, number_of}
use Rattle.capabilities.specs.declared.refusal.Refusal.{Refusal}
use Rattle.capabilities.proofs.Choice.{pick_yes, pick_no}
use Rattle.capabilities.proofs.Refusals.{number_some}
use Rattle.table.specs.Table.{Table}
use Rattle.table.specs.Table.{Tabled}
use Rattle.table.specs.Rows.{live}
use Rattle.table.specs.Operations.{take_of, split_of, merge_of, give_of}
use Rattle.table.specs.Tiling.{table_sound}
use Rattle.table.proofs.Answers.{refused}
use Rattle.table.proofs.Dying.{dyings}
use Rattle.table.proofs.Unrevoked.{take_still, give_still, split_still, merge_still}
use Rattle.reservations.specs.Core.{Core, with_table as coreTable}
use Rattle.reservations.proofs.CoreKept.{core_facts, revoked_kept}
use Rattle.calls.specs.declared.Call.{Call}
use Rattle.calls.specs.declared.Call.TheVariants.{Take, Split, Merge, Give, TakeMasked}
use Rattle.words.specs.declared.Slot.{Slot}
use Rattle.words.specs.Words.{slot, empty, byte_of}
use Rattle.words.specs.WordReasons.{unnamed}
use Rattle.machine.specs.State.{State}
use Rattle.machine.specs.Reasons.{reasons}
use Rattle.machine.specs.Effects.{effect, effect_of, table_change, put_register, keep_mailboxes, keep_memory}
use Rattle.machine.specs.Step.{with_core, reasons_on, effect_on, ruled}
use Rattle.machine.proofs.Keeps.{facts}
use Rattle.machine.proofs.Masking.{plain_ruled}
use Rattle.table.specs.Numbers.{table_of, all_written}
use Rattle.table.specs.Lent.{Leaves, fitting, tabled_of}
use Rattle.table.specs.Numbered.{split_rule, merge_rule}
use Rattle.table.proofs.RoundTrip.{kept_written, left_numbers}
use Rattle.arrays.specs.declared.Arrays.{Arrays}
use Rattle.arrays.specs.Reading.{core_of, state_of, arrays_of, Formed}
use Rattle.arrays.specs.Steps.{Leaving, answer, leaving, left_of, with_words, with_rows, with_table, counted}
use Rattle.arrays.proofs.Facts.{lengths}
use Rattle.arrays.proofs.Writing.{put_table}
use Rattle.arrays.proofs.Ruling.{down, cored, core_registered}
use Rattle.calls_in_place.proofs.Early.{Checked, known, unknown as unnamed_first}

-- A call that 4 refuses or else a rule on the table judges; refused, the table stays, and the Revoking reservations always do.
pub record Judges (s : State) (call : Call) (unknown : Bool) (rule : Tabled) : Type 0 where
  pub told : (cells tags : List ℕ) → first (reasons_on s call cells tags) ≡ pick unknown 4 rule.code
  pub kept : (rule.code ≡ 0 → ⊥) → rule.table ≡ s.core.table
  pub still : dyings (live rule.table) ≡ dyings (live s.core.table)

own_written : (b : Arrays) → Formed b → all_written b.rows ≡ true
unfolding arrays_of state_of core_of
own_written b f = kept_written b.rows b.nums.count (ap (λ (a : Arrays). a.rows) f.kept)

-- So many rows are in use, which is what the arrays say.
module _ (b : Arrays) (f : Formed b) (call : Call) (unknown : Bool) (rule : Tabled) (j : Judges (state_of b) call unknown rule) (count : ℕ) (ec : b.nums.count ≡ count) (cells tags : List ℕ) where
  pub unknown_down : (r : Refusal) → Checked (number_of r) unknown
      → leaving (answer (number_of r) empty) (with_table b (counted b.nums count) b.rows) cells tags ≡ left_of (ruled (state_of b) call cells tags)
  unknown_down r e =
      ap (λ k. leaving (answer (number_of r) empty) (with_table b (counted b.nums k) b.rows) cells tags) (sym ec)
      ∙ down b f call cells tags (number_of r) (unnamed_first unknown r rule.code e ∙ sym (j.told cells tags)) (number_some r)

  module _ (rows : List ℕ) (code n : ℕ) (d : Leaves b.rows rows code n rule) (passed : Checked 0 unknown) where
    abbrev new : Core
    new = coreTable (state_of b).core rule.table

    code_is : code ≡ first (reasons_on (state_of b) call cells tags)
    code_is = d.answers ∙ sym (j.told cells tags ∙ pick_no unknown 4 rule.code (known unknown passed))

    rows_are : with_table b (counted b.nums n) rows ≡ arrays_of (with_core (state_of b) new)
    rows_are =
        ap (λ k. with_table b (counted b.nums k) rows) (ap (λ (t : Table). t.count) d.reads)
        ∙ ap (with_table b (counted b.nums rule.table.count)) (left_numbers b.rows rows code n n rule d (own_written b f))
        ∙ put_table b f.kept rule.table (revoked_kept (state_of b).core rule.table j.still)

    pub table_down : (code ≡ 0 → ⊥) → leaving (answer code empty) (with_table b (counted b.nums n) rows) cells tags ≡ left_of (ruled (state_of b) call cells tags)
    unfolding state_of core_of
    table_down h =
        let same : n ≡ b.nums.count = ap (λ (t : Table). t.count) (d.reads ∙ j.kept (λ z. h (d.answers ∙ z))) in
        ap (λ k. leaving (answer code empty) (with_table b (counted b.nums k) rows) cells tags) same
        ∙ ap (λ l. leaving (answer code empty) (with_table b b.nums l) cells tags) (d.keeps h)
        ∙ down b f call cells tags code code_is h

    -- Granted or refused, where the rule's table is all that changes.
    pub table_judged : effect_on (state_of b) call cells tags ≡ table_change (state_of b).core rule.table
        → leaving (answer code empty) (with_table b (counted b.nums n) rows) cells tags ≡ left_of (ruled (state_of b) call cells tags)
    table_judged g = go (eqb code 0) refl
      where
        go : (q : Bool) → eqb code 0 ≡ q → leaving (answer code empty) (with_table b (counted b.nums n) rows) cells tags ≡ left_of (ruled (state_of b) call cells tags)
        go true e =
            let z = eqb-true code 0 e in
            ap (λ k. leaving (answer k empty) (with_table b (counted b.nums n) rows) cells tags) z
            ∙ cored b f call cells tags code code_is new (with_table b (counted b.nums n) rows) z g rows_are
        go false e = table_down (eqb-false code 0 e)

    -- Granted, where a register changes too.
    pub table_registered : (p r : ℕ) (x w : Slot) → code ≡ 0 → effect_on (state_of b) call cells tags ≡ effect_of new (put_register p r x) keep_mailboxes keep_memory w
        → leaving (answer 0 w) (with_words (with_table b (counted b.nums n) rows) (set b.words (8 * p + r) x.cell) (set b.marks (8 * p + r) (byte_of x.tag))) cells tags
        ≡ left_of (ruled (state_of b) call cells tags)
    table_registered p r x w z g = core_registered b f call cells tags code code_is new (with_table b (counted b.nums n) rows) rows_are p r x w z g

-- The calls on the table.
module _ (b : Arrays) (f : Formed b) where
  abbrev t : Table
  t = (state_of b).core.table

  sound : table_sound (16 * (state_of b).core.pages.v) (state_of b).core.table ≡ true
  sound = (core_facts (state_of b).core (facts (state_of b) f.well).core).rows

  table_is : (count : ℕ) → b.nums.count ≡ count → table_of b.rows count ≡ (state_of b).core.table
  unfolding state_of core_of
  table_is count ec = ap (table_of b.rows) (sym ec)

  fits : (count : ℕ) (rule : Tabled) → fitting b.rows count rule ≡ rule
  fits count rule = pick_yes (eqb (length b.rows) 64) rule (record { code = 1; table = table_of b.rows count }) (eq-eqb (length b.rows) 64 (lengths b f).rows)

  take_judges : (p base reg mask : ℕ) → Judges (state_of b) (TakeMasked p base reg mask) (unnamed p || unnamed reg) (tabled_of (take_of (state_of b).core.table p base))
  unfolding reasons first take_of
  take_judges p base reg mask =
      record { told = λ cells tags. refl; kept = refused _ _ refl _ t; still = take_still (16 * (state_of b).core.pages.v) t sound p base }

  split_judges : (p base len : ℕ) → Judges (state_of b) (Split p base len) (unnamed p) (split_of (state_of b).core.table p base len)
  unfolding reasons first split_of
  split_judges p base len =
      record { told = λ cells tags. refl; kept = refused _ _ refl _ t; still = split_still (16 * (state_of b).core.pages.v) t sound p base len }

  merge_judges : (p base : ℕ) → Judges (state_of b) (Merge p base) (unnamed p) (merge_of (state_of b).core.table p base)
  unfolding reasons first merge_of
  merge_judges p base =
      record { told = λ cells tags. refl; kept = refused _ _ refl _ t; still = merge_still (16 * (state_of b).core.pages.v) t sound p base }

  give_judges : (p base to : ℕ) → Judges (state_of b) (Give p base to) (unnamed p || unnamed to) (give_of (state_of b).core.table p base to)
  unfolding reasons first give_of
  give_judges p base to =
      record { told = λ cells tags. refl; kept = refused _ _ refl _ t; still = give_still (16 * (state_of b).core.pages.v) t sound p base to }

module _ (b : Arrays) (f : Formed b) (count : ℕ) (ec : b.nums.count ≡ count) (p base : ℕ) (cells tags : List ℕ) where
  -- 11.
  module _ (reg mask : ℕ) where
    abbrev took : Call
    took = TakeMasked p base reg mask

    pub take_unknown : (r : Refusal) → Checked (number_of r) (unnamed p || unnamed reg)
        → leaving (answer (number_of r) empty) (with_rows b b.rows) cells tags ≡ left_of (ruled (state_of b) took cells tags)
    take_unknown r e =
        ap (λ k. leaving (answer (number_of r) empty) (with_table b (counted b.nums k) b.rows) cells tags) ec
        ∙ unknown_down b f took _ _ (take_judges b f p base reg mask) count ec cells tags r e

    module _ (passed : Checked 0 (unnamed p || unnamed reg)) (rows : List ℕ) where
      own : (code : ℕ) → Leaves b.rows rows code count (tabled_of (take_of (table_of b.rows count) p base)) → Leaves b.rows rows code count (tabled_of (take_of (state_of b).core.table p base))
      own code d = subst (λ u. Leaves b.rows rows code count (tabled_of (take_of u p base))) (table_is b f count ec) d

      pub take_down : (r : Refusal) → Leaves b.rows rows (number_of r) count (tabled_of (take_of (table_of b.rows count) p base))
          → leaving (answer (number_of r) empty) (with_rows b rows) cells tags ≡ left_of (ruled (state_of b) took cells tags)
      take_down r d =
          ap (λ k. leaving (answer (number_of r) empty) (with_table b (counted b.nums k) rows) cells tags) ec
          ∙ table_down b f took _ _ (take_judges b f p base reg mask) count ec cells tags rows (number_of r) count (own (number_of r) d) passed (number_some r)

      effect_is : effect_on (state_of b) took cells tags
          ≡ effect_of (coreTable (state_of b).core (take_of (state_of b).core.table p base).table)
          (put_register p reg (slot (capability base (take_of (state_of b).core.table p base).length (permitted mask)) true)) keep_mailboxes keep_memory (slot (take_of (state_of b).core.table p base).length false)
      unfolding effect
      effect_is = refl

      -- The arrays after a granted take of so many cells.
      abbrev taken : ℕ → ℕ → Leaving
      taken n len =
          leaving (answer 0 (slot len false))
          (with_words (with_table b (counted b.nums n) rows) (set b.words (8 * p + reg) (capability base len (permitted mask))) (set b.marks (8 * p + reg) (byte_of true))) cells tags

      pub take_done : (len : ℕ) → len ≡ (take_of (table_of b.rows count) p base).length → Leaves b.rows rows 0 count (tabled_of (take_of (table_of b.rows count) p base))
          → taken b.nums.count len ≡ left_of (ruled (state_of b) took cells tags)
      take_done len e d =
          let own-length = (take_of (state_of b).core.table p base).length in
          ap (taken b.nums.count) (e ∙ ap (λ u. (take_of u p base).length) (table_is b f count ec)) ∙ ap (λ n. taken n own-length) ec
          ∙ table_registered b f took _ _ (take_judges b f p base reg mask) count ec cells tags rows 0 count (own 0 d) passed p reg
          (slot (capability base own-length (permitted mask)) true) (slot own-length false) refl effect_is

  -- 02, 03.
  pub split_unknown : (len : ℕ) (r : Refusal) → Checked (number_of r) (unnamed p)
      → leaving (answer (number_of r) empty) (with_table b (counted b.nums count) b.rows) cells tags ≡ left_of (ruled (state_of b) (Split p base len) cells tags)
  split_unknown len = unknown_down b f (Split p base len) _ _ (split_judges b f p base len) count ec cells tags

  pub split_judged : (len : ℕ) → Checked 0 (unnamed p) → (rows : List ℕ) (code n : ℕ) → Leaves b.rows rows code n (split_rule b.rows count p base len)
      → leaving (answer code empty) (with_table b (counted b.nums n) rows) cells tags ≡ left_of (ruled (state_of b) (Split p base len) cells tags)
  unfolding effect
  split_judged len passed rows code n d =
      table_judged b f (Split p base len) _ _ (split_judges b f p base len) count ec cells tags rows code n
      (subst (Leaves b.rows rows code n) (fits b f count _ ∙ ap (λ u. split_of u p base len) (table_is b f count ec)) d) passed refl

  pub merge_unknown : (r : Refusal) → Checked (number_of r) (unnamed p)
      → leaving (answer (number_of r) empty) (with_table b (counted b.nums count) b.rows) cells tags ≡ left_of (ruled (state_of b) (Merge p base) cells tags)
  merge_unknown = unknown_down b f (Merge p base) _ _ (merge_judges b f p base) count ec cells tags

  pub merge_judged : Checked 0 (unnamed p) → (rows : List ℕ) (code n : ℕ) → Leaves b.rows rows code n (merge_rule b.rows count p base)
      → leaving (answer code empty) (with_table b (counted b.nums n) rows) cells tags ≡ left_of (ruled (state_of b) (Merge p base) cells tags)
  unfolding effect
  merge_judged passed rows code n d =
      table_judged b f (Merge p base) _ _ (merge_judges b f p base) count ec cells tags rows code n
      (subst (Leaves b.rows rows code n) (fits b f count _ ∙ ap (λ u. merge_of u p base) (table_is b f count ec)) d) passed refl

  -- 04.
  pub give_unknown : (to : ℕ) (r : Refusal) → Checked (number_of r) (unnamed p || unnamed to)
      → leaving (answer (number_of r) empty) (with_rows b b.rows) cells tags ≡ left_of (ruled (state_of b) (Give p base to) cells tags)
  give_unknown to r e =
      ap (λ k. leaving (answer (number_of r) empty) (with_table b (counted b.nums k) b.rows) cells tags) ec
      ∙ unknown_down b f (Give p base to) _ _ (give_judges b f p base to) count ec cells tags r e

  pub give_judged : (to : ℕ) → Checked 0 (unnamed p || unnamed to) → (rows : List ℕ) (code : ℕ) → Leaves b.rows rows code count (give_of (table_of b.rows count) p base to)
      → leaving (answer code empty) (with_rows b rows) cells tags ≡ left_of (ruled (state_of b) (Give p base to) cells tags)
  unfolding effect
  give_judged to passed rows code d =
      ap (λ k. leaving (answer code empty) (with_table b (counted b.nums k) rows) cells tags) ec
      ∙ table_judged b f (Give p base to) _ _ (give_judges b f p base to) count ec cells tags rows code count
      (subst (λ u. Leaves b.rows rows code count (give_of u p base to)) (table_is b f count ec) d) passed refl

-- 01 is 11 with mask 3.
pub take_plain : (s : State) (p base reg : ℕ) (cells tags : List ℕ) (x : Leaving) → x ≡ left_of (ruled s (TakeMasked p base reg 3) cells tags)
    → x ≡ left_of (ruled s (Take p base reg) cells tags)
take_plain s p base reg cells tags x e = e ∙ ap left_of (plain_ruled s p base reg cells tags)
