-- Whatever a granted call does keeps the invariant. Assumes nothing.
use Rattle.std.specs.Prelude.{Option, Some, None}
use Prim.Native.Nat.{ℕ, ◌+◌, ◌*◌, ◌%◌, ◌<◌, ◌≤◌}
use native.Mathlib.Omega.{arith}
use mathlib.Core.Bool.{Bool, true, false, not, ◌&&◌, true≢false}
use mathlib.Core.List.{List, [], ◌∷◌, map}
use mathlib.Core.Logic.{inl, inr, ⊎_elim}
use mathlib.Core.Path.{◌≡◌, refl, sym, ap, subst, ◌∙◌}
use borrow.Author.Tests.{eqb-true, not-true}
use lib.Dec.{eqb}
use lib.ListN.{length, get_or, set}
use Rattle.capabilities.specs.Capability.{base_of, length_of, capability}
use Rattle.capabilities.specs.Lists.{pick}
use Rattle.capabilities.specs.Range.{inside}
use Rattle.capabilities.specs.Refusals.{first}
use Rattle.capabilities.proofs.Choice.{and_left, and_right}
use Rattle.pages.specs.declared.Frame.{Frame}
use Rattle.pages.specs.Pages.{Pages}
use Rattle.pages.specs.declared.VirtualPage.{VirtualPage}
use Rattle.pages.specs.Mapping.{lookup_of, freed_of, released_of, map_reasons, unmap_reasons, dirty_reasons, mapped, unmapped, map_of, unmap_of}
use Rattle.pages.proofs.Formed.{Sound as Layered, sound as layered}
use Rattle.pages.proofs.Kept.{mappable, unmappable}
use Rattle.table.specs.Table.{Table}
use Rattle.table.specs.Find.{find_of, row_of}
use Rattle.table.specs.Operations.{take_reasons, take_of, taken_row, split_reasons, split_of, lower_part, upper_part, merge_reasons, merge_of, joined, give_reasons, give_of, given_row}
use Rattle.table.specs.Rows.{is_open, held, live, range_of}
use Rattle.table.proofs.After.{Replaced, take_after, give_after, split_after, merge_after}
use Rattle.table.proofs.Cells.{inside_made, no_shared_cell}
use Rattle.table.proofs.Dying.{dyings}
use Rattle.table.proofs.Kept.{row_live, open_still}
use Rattle.table.proofs.Sound.{sound}
use Rattle.table.proofs.Tiled.{tiled_some}
use Rattle.table.proofs.Unrevoked.{alike_still}
use Rattle.table.proofs.Truth.{and_yes}
use Rattle.reservations.specs.Core.{Core}
use Rattle.reservations.specs.Revocation.{revoked, dying, revoke_reasons, revoke_of, collect_reasons, collect_of, core_sound}
use Rattle.reservations.proofs.CoreAfter.{dying_inside}
use Rattle.reservations.proofs.CoreKept.{CoreFacts, core_facts}
use Rattle.words.specs.declared.Slot.{Slot}
use Rattle.words.specs.Words.{slot, empty, register_of, mailbox_of, word_at, stored, collected_register, collected_mailbox}
use Rattle.claims.specs.Claims.{Claims}
use Rattle.reservations.proofs.ClaimsApart.{dying_apart}
use Rattle.machine.specs.State.{State}
use Rattle.machine.specs.Roles.{Asked}
use Rattle.machine.specs.Effects.{Effect, with_table, with_pages, with_claims, sweeping, swept_to, taking, RegisterChange, keep_registers, put_register, MailboxChange, keep_mailboxes, put_mailbox, keep_memory, effect_of}
use Rattle.machine.specs.Step.{done, registers_after, mailboxes_after, written_cells, written_tags, cells_after, tags_after}
use Rattle.machine.proofs.Deeds.{core_alone, collecting, zeroing, storing, Recored, splits, merges, gives, revokes, maps, unmaps, reclaims, aimed_at, Deed, took, recored, swept, collected_all, zeroed, filled, wrote, mailed, received}
use Rattle.machine.proofs.Found.{Addressing}
use Rattle.machine.proofs.PagesKept.{zero_clear}
use Rattle.histories.specs.Runs.{Machine, machine}
use Rattle.histories.specs.Inv.{row_at, Confined, Sound, Memory, Inv}
use Rattle.histories.proofs.View.{put_each, collected_registers, collected_mailboxes, seen}
use Rattle.histories.proofs.Table.{Carried, take_carried, dies_same, dyings_one, dyings_two, open_no_dying}
use Rattle.histories.proofs.Carrying.{row_fits, split_kept, merge_kept, give_kept, revoke_kept}
use Rattle.histories.proofs.Keep.{Blank, none_sound, carried_sound, place_sound, place_below, keep_table, keep_begun, keep_pages, keep_write, keep_clear, keep_sweep, collect_sound, keep_ended}
use Rattle.histories.proofs.Granted.{handed}
use Rattle.histories.proofs.Layer.{map_done, map_view, map_free, unmap_done, unmap_view, unmap_free, freed_shows, freed_free, released_shows, released_free, none_shown}
use Rattle.histories.proofs.Held.{Narrows, Holds, OfLoad, InRegister, InMailbox, none, kept, of_register, of_mailbox, registers_hold, mailboxes_hold, filling_holds}
use Rattle.histories.proofs.Findings.{Ends, ends, further, made_confined, narrowed_confined, revoke_parts, row_first, short_of, take_length}

module _ (s : State) (cells tags : List ℕ) (inv : Inv (machine s cells tags)) where
  abbrev c : Core
  c = s.core

  abbrev t : Table
  t = s.core.table

  -- What an effect leaves.
  abbrev after : Effect → Machine
  after e = handed (done s e cells tags)

  module _ (ok : core_sound s.core ≡ true) (of_cells : length cells ≡ 16 * s.core.pages.f) (of_tags : length tags ≡ 16 * s.core.pages.f) where
    abbrev facts : CoreFacts s.core
    facts = core_facts s.core ok

    abbrev size : ℕ
    size = 16 * s.core.pages.v

    layer : Layered s.core.pages
    layer = layered s.core.pages facts.layer

    -- No cell of a confined capability lies in an Open range.
    lent_not_open : {x : ℕ} (k : Confined t x) (off : ℕ) → off < length_of x → (i : ℕ) → i < length (live t) → is_open (row_at t i).state ≡ true → inside (range_of (row_at t i)) (base_of x + off) ≡ true → ⊥
    lent_not_open {x} k off h i b o e =
        let v : ℕ = base_of x + off in
        let mine : inside (range_of (row_at t k.row)) (base_of x + off) ≡ true = inside_made (range_of (row_at t k.row)) (base_of x + off) (further (row_at t k.row).base (base_of x) off k.within.from) (short_of (base_of x) off (length_of x) ((row_at t k.row).base + (row_at t k.row).length) h k.within.upto) in
        let n = no_shared_cell size t k.row i (base_of x + off) facts.rows k.used b mine e in
        true≢false (sym o ∙ sym (ap (λ j. is_open (row_at t j).state) n) ∙ k.lent)

    table_change : (u : Table) → Carried t u → ((cell : ℕ) → dying (with_table c u) cell ≡ dying c cell)
        → Inv (machine (record { core = with_table c u; registers = s.registers; mailboxes = s.mailboxes }) cells tags)
    table_change u k d =
        record {
          registers = λ i. carried_sound t u (get_or s.registers i empty) k (inv.registers i);
          mailboxes = λ i. carried_sound t u (get_or s.mailboxes i empty) k (inv.mailboxes i);
          memory = keep_table c cells tags inv.memory u k d;
        }

    -- 01 take.
    take_change : (p base reg x i : ℕ) (u : Table) (n : ℕ) → x ≤ 15 → is_open (row_at t i).state ≡ true → Replaced t u p base i 1 (taken_row (row_at t i) p ∷ []) → n ≡ (row_at t i).length
        → Inv (machine (record { core = with_table c u; registers = set s.registers (8 * p + reg) (slot (capability base n x) true); mailboxes = s.mailboxes }) cells tags)
    take_change p base reg x i u n few o r e =
        let k = take_carried t u p base i o r in
        let h : i < length (live t) = omega (arith, r.within) in
        let d = dies_same c (with_table c u) (dyings_one t u i (taken_row (row_at t i) p ∷ []) h r.now (open_still (row_at t i).state o) (open_no_dying (taken_row (row_at t i) p) refl)) in
        let j = table_change u k d in
        let (used, row) = row_first t u p base i 1 (taken_row (row_at t i) p) [] r in
        let start : (row_at t i).base ≡ base = eqb-true (row_at t i).base base (and_left (eqb (row_at t i).base base) (held (row_at t i) p) r.named) in
        let fits = row_fits c ok i h in
        let some = tiled_some size (live t) 0 i (sound size t facts.rows).tiled h in
        let b : (row_at u i).base ≡ (row_at t i).base = ap (λ x. x.base) row in
        let l : (row_at u i).length ≡ (row_at t i).length = ap (λ x. x.length) row in
        let made : Confined u (capability base n x) =
        made_confined u i base n x used (ap (λ y. is_open y.state) row) (omega arith) (omega arith) few (omega arith) (omega arith) (omega arith)
        in
        record { registers = put_each (Sound u) s.registers (8 * p + reg) (slot (capability base n x) true) (λ y. made) j.registers; mailboxes = j.mailboxes; memory = j.memory }

    keep_take : (p base reg x : ℕ) → x ≤ 15 → first (take_reasons t p base) ≡ 0 → Inv (after (taking c p base reg x))
    unfolding done registers_after mailboxes_after cells_after tags_after
    keep_take p base reg x few z =
        let code : (take_of t p base).code ≡ 0 = unfold take_of in z in
        let (i, o, r) = take_after size t facts.rows p base code in
        take_change p base reg x i (take_of t p base).table (take_of t p base).length few o r
        (take_length t p base code ∙ ap (λ f. (row_of t f).length) r.found ∙ ap (λ x. x.length) (row_live t i (omega (arith, r.within))))

    -- 02 split, 03 merge, 04 give.
    keep_split : (p base len : ℕ) → first (split_reasons t p base len) ≡ 0 → Inv (after (core_alone (with_table c (split_of t p base len).table)))
    unfolding done registers_after mailboxes_after cells_after tags_after
    keep_split p base len z =
        let code : (split_of t p base len).code ≡ 0 = unfold split_of in z in
        let u = (split_of t p base len).table in
        let (i, o, r) = split_after size t facts.rows p base len code in
        let h : i < length (live t) = omega (arith, r.within) in
        table_change u (split_kept c ok p base len code)
        (dies_same c (with_table c u)
        (dyings_one t u i (lower_part (row_at t i) len ∷ upper_part (row_at t i) len ∷ []) h r.now (open_still (row_at t i).state o) (unfold dyings in refl)))

    keep_merge : (p base : ℕ) → first (merge_reasons t p base) ≡ 0 → Inv (after (core_alone (with_table c (merge_of t p base).table)))
    unfolding done registers_after mailboxes_after cells_after tags_after
    keep_merge p base z =
        let code : (merge_of t p base).code ≡ 0 = unfold merge_of in z in
        let u = (merge_of t p base).table in
        let (i, same, r) = merge_after size t facts.rows p base code in
        let h : i + 1 < length (live t) = omega (arith, r.within) in
        let still = alike_still (row_at t i).state (row_at t (i + 1)).state same in
        table_change u (merge_kept c ok p base code)
        (dies_same c (with_table c u)
        (dyings_two t u i (joined (row_at t i) (row_at t (i + 1)) ∷ []) h r.now still.0 still.1 (open_no_dying (joined (row_at t i) (row_at t (i + 1))) still.0)))

    keep_give : (p base to : ℕ) → first (give_reasons t p base) ≡ 0 → Inv (after (core_alone (with_table c (give_of t p base to).table)))
    unfolding done registers_after mailboxes_after cells_after tags_after
    keep_give p base to z =
        let code : (give_of t p base to).code ≡ 0 = unfold give_of in z in
        let u = (give_of t p base to).table in
        let (i, o, r) = give_after size t facts.rows p base to code in
        let h : i < length (live t) = omega (arith, r.within) in
        let still = open_still (row_at t i).state o in
        table_change u (give_kept c ok p base to code)
        (dies_same c (with_table c u) (dyings_one t u i (given_row (row_at t i) to ∷ []) h r.now still (open_no_dying (given_row (row_at t i) to) still)))

    -- 0B, 0D, 0E, 0F, 10: registers and mailboxes alone.
    confined : Holds (Confined t) s
    confined = record { registers = inv.registers; mailboxes = inv.mailboxes }

    held_change : (x : RegisterChange) (b : MailboxChange) (w : Slot) → InRegister (Confined t) s confined x → InMailbox (Confined t) s confined b → Inv (after (effect_of c x b keep_memory w))
    unfolding done cells_after tags_after
    held_change x b w r m =
        record { registers = registers_hold (Confined t) s confined x r; mailboxes = mailboxes_hold (Confined t) s confined b m; memory = inv.memory }

    narrower : Narrows (Confined t)
    narrower x off len mask some ends starts k = narrowed_confined t x off len mask k some ends starts

    load_confined : OfLoad (Confined t) s cells tags
    load_confined p a off g =
        let w = register_of s.registers p a in
        kept (Confined t) (word_at cells tags (aimed_at s p a off)) _ (place_sound c cells tags inv.memory (base_of w.cell + off) (aimed_at s p a off) g.place)

    -- 0C store.
    keep_store : (p a off r : ℕ) → Addressing c (register_of s.registers p a) off
        → Inv (after (storing s p a off r))
    unfolding done registers_after mailboxes_after written_cells written_tags cells_after tags_after
    keep_store p a off r g =
        let w = register_of s.registers p a in
        let x = register_of s.registers p r in
        record {
          registers = inv.registers;
          mailboxes = inv.mailboxes;
          memory =
              keep_write c cells tags inv.memory layer of_cells of_tags (base_of w.cell + off) (aimed_at s p a off) (stored c x) g.place
              (kept (Confined t) x (not (dying c x.cell)) (of_register (Confined t) s confined p r))
              (λ e. not-true (dying c x.cell) (and_right x.tag (not (dying c x.cell)) e))
              (λ i b o h. lent_not_open (of_register (Confined t) s confined p a g.tagged) off g.short i b o h);
        }

    -- 06 sweep.
    keep_swept : (n : ℕ) → Inv (after (sweeping c n))
    unfolding done registers_after mailboxes_after cells_after tags_after
    keep_swept n = record { registers = inv.registers; mailboxes = inv.mailboxes; memory = keep_sweep c cells tags inv.memory layer of_cells of_tags (swept_to c n) }

    -- 08 map, 09 unmap, 0A zero.
    page_change : (q : Pages) → Memory (with_pages c q) cells tags → Inv (machine (record { core = with_pages c q; registers = s.registers; mailboxes = s.mailboxes }) cells tags)
    page_change q m = record { registers = inv.registers; mailboxes = inv.mailboxes; memory = m }

    keep_map : (page : VirtualPage) (frame : Frame) → first (map_reasons c.pages page frame) ≡ 0 → Inv (after (core_alone (with_pages c (map_of c.pages page frame).pages)))
    unfolding done registers_after mailboxes_after cells_after tags_after
    keep_map page frame z =
        let k = mappable c.pages page frame z in
        page_change (map_of c.pages page frame).pages
        (subst (λ q. Memory (with_pages c q) cells tags) (sym (map_done c.pages page frame z))
        (keep_pages c cells tags inv.memory (mapped c.pages page frame)
        (λ v at e. ⊎_elim inl (λ q. inr (subst (Blank cells tags) (sym q.1) (inv.memory.free frame.0 (v % 16) k.free_frame (omega arith)))) (map_view c.pages layer page frame k v at e))
        (map_free c.pages layer page frame k)))

    keep_unmap : (page : VirtualPage) (claimed : Bool) → first (unmap_reasons c.pages page claimed) ≡ 0 → Inv (after (core_alone (with_pages c (unmap_of c.pages page claimed).pages)))
    unfolding done registers_after mailboxes_after cells_after tags_after
    keep_unmap page claimed z =
        let k = unmappable c.pages page claimed z in
        page_change (unmap_of c.pages page claimed).pages
        (subst (λ q. Memory (with_pages c q) cells tags) (sym (unmap_done c.pages page claimed z))
        (keep_pages c cells tags inv.memory (unmapped c.pages page) (λ v at e. inl (unmap_view c.pages layer page k v at e)) (unmap_free c.pages layer page k)))

    keep_zero : (frame : Frame) → first (dirty_reasons c.pages frame) ≡ 0
        → Inv (after (zeroing c frame))
    unfolding done registers_after mailboxes_after cells_after tags_after
    keep_zero frame z =
        let (low, dirty) = zero_clear c.pages frame z in
        record { registers = inv.registers; mailboxes = inv.mailboxes; memory = keep_clear c cells tags inv.memory layer of_cells of_tags frame low dirty }

    -- 05 revoke.
    keep_revoke : (p base : ℕ) → first (revoke_reasons c p base) ≡ 0 → Inv (after (core_alone (revoke_of c p base).core))
    unfolding done registers_after mailboxes_after cells_after tags_after
    keep_revoke p base z =
        let code : (revoke_of c p base).code ≡ 0 = unfold revoke_of in z in
        let u = (revoke_of c p base).core.table in
        let range = range_of (row_of t (find_of t p base)) in
        let k = revoke_kept c ok p base code in
        let pages = keep_pages c cells tags inv.memory (freed_of c.pages range) (λ v at e. inl (freed_shows c.pages layer range v at e)) (freed_free c.pages layer range) in
        record {
          registers = λ i. carried_sound t u (get_or s.registers i empty) k (inv.registers i);
          mailboxes = λ i. carried_sound t u (get_or s.mailboxes i empty) k (inv.mailboxes i);
          memory = subst (λ x. Memory x cells tags) (sym (revoke_parts c p base code)) (keep_begun (with_pages c (freed_of c.pages range)) cells tags pages u k);
        }

    collect_change : (k : Ends c)
        → Inv (machine (record { core = (collect_of c).core; registers = map (collected_register c) s.registers; mailboxes = map (collected_mailbox c) s.mailboxes }) cells tags)
    collect_change k =
        record {
          registers = λ j.
              let w = get_or s.registers j empty in
              subst (Sound u) (sym (collected_registers c s.registers j))
              (collect_sound t u k.row k.used k.now (collected_register c w) (kept (Confined t) w (not (dying c w.cell)) (inv.registers j))
              (λ e. out w.cell (not-true (dying c w.cell) (and_right w.tag (not (dying c w.cell)) e))));
          mailboxes = λ j. subst (Sound u) (sym (collected_mailboxes c s.mailboxes j)) (mail (get_or s.mailboxes j empty) (inv.mailboxes j));
          memory =
              subst (λ x. Memory x cells tags) (sym k.parts)
              (keep_ended (with_pages c after_pages) cells tags u k.row k.used k.now
              (keep_pages c cells tags inv.memory after_pages (λ v at e. inl (old v at e)) (released_free c.pages layer (revoked c)))
              (λ v e. gone v e (lookup_of after_pages v) refl)
              (λ v at e h.
              out (word_at cells tags at).cell (inv.memory.behind v at (old v at e) (far (place_below c cells tags inv.memory layer of_cells of_tags v at (seen c.pages v at (old v at e)))) h)));
        }
      where
        u : Table
        u = (collect_of c).core.table

        after_pages : Pages
        after_pages = released_of c.pages (revoked c)

        far : {at : ℕ} → at < 16 * c.pages.f → at < c.place
        far h = omega (arith, k.over)

        out : (cell : ℕ) → dying c cell ≡ false → inside (range_of (row_at t k.row)) (base_of cell) ≡ false
        out cell e = ap (λ r. inside r (base_of cell)) (sym k.range) ∙ sym (dying_inside c cell) ∙ e

        mail : (w : Slot) → Sound t w → Sound u (collected_mailbox c w)
        mail w x = go (w.tag && dying c w.cell) refl
          where
            go : (b : Bool) → w.tag && dying c w.cell ≡ b → Sound u (pick b empty w)
            go true e = none_sound u
            go false e = collect_sound t u k.row k.used k.now w x (λ h. out w.cell (sym (and_yes w.tag (dying c w.cell) h) ∙ e))

        old : (v at : ℕ) → lookup_of after_pages v ≡ Some at → lookup_of c.pages v ≡ Some at
        old v at e = released_shows c.pages layer (revoked c) v at e

        gone : (v : ℕ) → inside (range_of (row_at t k.row)) v ≡ true → (x : Option ℕ) → lookup_of after_pages v ≡ x → lookup_of after_pages v ≡ None
        gone v e None q = q
        gone v e (Some at) q =
            let none = none_shown c.pages layer (revoked c) (ap (λ r. r.base % 16) k.range ∙ k.whole_base) (ap (λ r. r.length % 16) k.range ∙ k.whole_length) k.freed v (ap (λ r. inside r v) k.range ∙ e) in
            absurd (let z : ◌≡◌ {A = ℕ} 0 1 = let y : None ≡ Some at = sym none ∙ old v at q in cc in omega arith)

    -- 07 collect.
    keep_collect : first (collect_reasons c) ≡ 0 → Inv (after (collecting c))
    unfolding done registers_after mailboxes_after cells_after tags_after
    keep_collect z = let code : (collect_of c).code ≡ 0 = unfold collect_of in z in collect_change (ends c ok code)

    -- 12 to 15.
    keep_claims : (x : Claims) → Inv (after (core_alone (with_claims c x)))
    unfolding done registers_after mailboxes_after cells_after tags_after
    keep_claims x =
        let k = inv.memory in
        let memory : Memory (with_claims c x) cells tags =
        record {
          confined = k.confined;
          free = k.free;
          behind = λ v at e h tagged. dying_apart c x (word_at cells tags at).cell ∙ k.behind v at e h tagged;
          unlent = k.unlent;
          bytes = k.bytes;
        } in
        record { registers = inv.registers; mailboxes = inv.mailboxes; memory = memory }

    keep_recored : (k : Core) → Recored c k → Inv (after (core_alone k))
    keep_recored k (splits p base len z) = keep_split p base len z
    keep_recored k (merges p base z) = keep_merge p base z
    keep_recored k (gives p base to low z) = keep_give p base to z
    keep_recored k (revokes p base z) = keep_revoke p base z
    keep_recored k (maps page frame z) = keep_map page frame z
    keep_recored k (unmaps page z) = keep_unmap page _ z
    keep_recored k (reclaims x r) = keep_claims x

    -- Whatever a granted call does keeps the invariant.
    pub keep_deed : {a : Asked} {e : Effect} → Deed s cells tags a e → Inv (after e)
    keep_deed (took p base reg permissions low-p low-reg few z) = keep_take p base reg permissions few z
    keep_deed (recored p k r) = keep_recored k r
    keep_deed (swept p n runs) = keep_swept n
    keep_deed (collected_all p z) = keep_collect z
    keep_deed (zeroed p frame z) = keep_zero frame z
    keep_deed (filled p d from w answer low g) =
        held_change (put_register p d w) keep_mailboxes answer (filling_holds (Confined t) s confined cells tags narrower load_confined p g) tt
    keep_deed (wrote p a off x low-p low-a g) = keep_store p a off x g
    keep_deed (mailed p x to e) = held_change keep_registers (put_mailbox to (register_of s.registers p x)) empty tt (of_register (Confined t) s confined p x)
    keep_deed (received p d low) = held_change (put_register p d (mailbox_of s.mailboxes p)) (put_mailbox p empty) (mailbox_of s.mailboxes p) (of_mailbox (Confined t) s confined p) (none (Confined t) empty refl)
