-- `words::registers::mailboxes_sound` meets its contract: one mailbox more is tested in a turn (`mailbox_turn`).
use Prim.Native.Nat.{◌+◌}
use native.Mathlib.Omega.{arith}
use mathlib.Core.List.{[], ◌∷◌, ◌++◌}
use mathlib.Core.Path.{◌≡◌, refl, ap, ◌∙◌}
use lib.ListN.{length, length-append}
use lib.Seq.{take_all}
use Rattle.std.specs.Slice.Iter.{iter_rest}
use Rattle.std.specs.Iterator.Adapters.{zip_first, zip_second}
use Rattle.std.proofs.lemmas.Slice.Zip.{zip_turn, zip_end}
use Rattle.capabilities.specs.Lists.{each}
use Rattle.words.specs.Words.{mailbox_sound}
use Rattle.words.specs.Lent.{slots_of}
use Rattle.words.proofs.Lent.{slots_length, mailbox_turn}
use Rattle.words.proofs.registers.mailboxes_sound.Goals as goal

pub loop-cell-init : goal.loop-cell-init
unfolding each
loop-cell-init c = refl

pub loop-cell-preserved : goal.loop-cell-preserved
loop-cell-preserved c =
    let a = c.args in
    let l = c.loop-cell in
    let s = c.into_iter-cell-iterator.result in
    let one : iter_rest (zip_first s) ≡ a.mail.now = cc in
    let two : iter_rest (zip_second s) ≡ a.flags.now = cc in
    let t = zip_turn a.mail.now a.flags.now l.yielded s l.cell-iterator c.next.new.self c.next.result one two l.yielded_by _ c.in-Some.is c.next.ensures.steps in
    let next : length (l.yielded ++ ((c.in-Some.cell, c.in-Some.flag) ∷ [])) ≡ length l.yielded + 1 = simp length-append in
    rw (next, mailbox_turn a.mail.now a.flags.now (length l.yielded) c.in-Some.cell.now c.in-Some.flag.now t.0 t.1 (t.2 0) (t.3 0), l.invariant)

pub returns : goal.returns
returns c =
    let a = c.args in
    let l = c.loop-cell in
    let s = c.into_iter-cell-iterator.result in
    let one : iter_rest (zip_first s) ≡ a.mail.now = cc in
    let two : iter_rest (zip_second s) ≡ a.flags.now = cc in
    let t = zip_end a.mail.now a.flags.now l.yielded s l.cell-iterator c.next.new.self c.next.result one two l.yielded_by c.in-None.is c.next.ensures.steps in
    l.invariant ∙ ap (each mailbox_sound 0) (take_all (length l.yielded) (slots_of a.mail.now a.flags.now) (omega (arith, slots_length a.mail.now a.flags.now, t)))
