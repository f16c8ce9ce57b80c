-- `formed::formed` meets its contract. What it tests are the parts, which hold together if and only if the arrays are well formed.
use mathlib.Core.Bool.{Bool, ◌&&◌}
use mathlib.Core.Path.{sym, ap, ◌∙◌}
use borrow.Author.Tests.{not-true, not-false}
use Rattle.arrays.specs.Lent.{seen}
use Rattle.formed.proofs.Tested.{lengths_fit, front_fails, back_decides}
use mathlib.Core.Bool.{not}
use Rattle.formed.proofs.formed.Goals as goal

pub returns-then-not-sized-layer : goal.returns-then-not-sized-layer
returns-then-not-sized-layer c =
    let a = c.args in
    let m = seen a.view in
    front_fails m (ap (λ (x : Bool). lengths_fit m && x) (sym c.layer_sound-layer.ensures) ∙ not-true _ (ap not c.if-not-sized-layer.true))

pub returns : goal.returns
returns c =
    let a = c.args in
    let m = seen a.view in
    let e = not-false _ (ap not c.if-not-sized-layer.false) in
    back_decides m (ap (λ (x : Bool). lengths_fit m && x) (sym c.layer_sound-layer.ensures) ∙ e) _
    (rw (c.claims_sound-claims.ensures, c.mailboxes_sound.ensures, c.bits-2.ensures, c.bits.ensures, c.revocation_kept-kept.ensures m.frames m.principals m.counts, c.well_formed-table.ensures))
