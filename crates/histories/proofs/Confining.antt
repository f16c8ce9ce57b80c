-- Confined; and so nothing live has a cell in an Open range. Assumes nothing.
use Prim.Native.Nat.{ℕ, ◌+◌, ◌<◌, ◌≤◌}
use native.Mathlib.Omega.{arith}
use mathlib.Core.Bool.{true, false, true≢false}
use mathlib.Core.Path.{◌≡◌, sym, ap, ◌∙◌}
use borrow.Author.Tests.{eqb-true, not-false}
use lib.Dec.{eqb}
use lib.ListN.{length, get_or}
use Rattle.capabilities.specs.Capability.{base_of, length_of}
use Rattle.capabilities.specs.Range.{inside}
use Rattle.table.specs.Table.{Table}
use Rattle.table.specs.Rows.{is_open, live, range_of}
use Rattle.table.proofs.Cells.{inside_made, no_shared_cell}
use Rattle.reservations.specs.Revocation.{core_sound}
use Rattle.reservations.proofs.CoreKept.{core_facts}
use Rattle.words.specs.Words.{empty, tag_of, word_at}
use Rattle.histories.specs.Runs.{Machine}
use Rattle.histories.specs.Live.{Spot, register, mailbox, virtual, Live, word_in, NoneInto}
use Rattle.histories.specs.Inv.{row_at, Confined, Inv}
use Rattle.histories.specs.Confining.{LiveIsConfined, OpenIsZero, TagsAreBits}
use Rattle.histories.proofs.View.{shown_at_lem, word_cell, word_tag}
use Rattle.histories.proofs.Always.{inv_reached}

pub live_confined : (m : Machine) → Inv m → (x : Spot) → Live m x → Confined m.state.core.table (word_in m x).cell
live_confined m i (register n) e = i.registers n e
live_confined m i (mailbox n) e = i.mailboxes n e
live_confined m i (virtual v) e = i.memory.confined v e

-- A cell of a confined capability lies in its reservation.
pub cell_in : (t : Table) (c v : ℕ) (k : Confined t c) → base_of c ≤ v → v < base_of c + length_of c → inside (range_of (row_at t k.row)) v ≡ true
cell_in t c v k a b = inside_made (range_of (row_at t k.row)) v (from (row_at t k.row).base (base_of c) v k.within.from a) (upto v (base_of c + length_of c) ((row_at t k.row).base + (row_at t k.row).length) b k.within.upto)
  where
    from : (x y z : ℕ) → x ≤ y → y ≤ z → x ≤ z
    from x y z h j = omega arith

    upto : (x y z : ℕ) → x < y → y ≤ z → x < z
    upto x y z h j = omega arith

-- F2: nothing live is into an Open range.
pub none_into_open : (m : Machine) → Inv m → core_sound m.state.core ≡ true → (i : ℕ) → i < length (live m.state.core.table) → is_open (row_at m.state.core.table i).state ≡ true
    → NoneInto m (range_of (row_at m.state.core.table i))
none_into_open m inv ok i h o x e n =
    let t = m.state.core.table in
    let k = live_confined m inv x e in
    let same = no_shared_cell _ t k.row i n.cell (core_facts m.state.core ok).rows k.used h (cell_in t (word_in m x).cell n.cell k n.from n.upto) n.hit in
    true≢false (sym o ∙ sym (ap (λ j. is_open (row_at t j).state) same) ∙ k.lent)

pub live_is_confined : LiveIsConfined
live_is_confined m r = live_confined m (inv_reached m r)

tag_zero : (n : ℕ) → tag_of n ≡ false → n ≡ 0
tag_zero n e = eqb-true n 0 (not-false (eqb n 0) e)

pub open_is_zero : OpenIsZero
open_is_zero m r i v at h o e q =
    let z : word_at m.cells m.tags at ≡ empty = sym (shown_at_lem m.state.core.pages m.cells m.tags v at q) ∙ (inv_reached m r).memory.unlent v i h o e in
    record {
      cell = sym (word_cell m.cells m.tags at) ∙ ap (λ w. w.cell) z;
      tag = tag_zero (get_or m.tags at 0) (sym (word_tag m.cells m.tags at) ∙ ap (λ w. w.tag) z);
    }

pub tags_are_bits : TagsAreBits
tags_are_bits m r = (inv_reached m r).memory.bytes
