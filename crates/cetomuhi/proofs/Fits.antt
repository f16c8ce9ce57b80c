-- What commands keep: well-formed arrays, and small numbers below 65,536. Assumes nothing.
use Prim.Native.Nat.{ℕ, zero, suc, ◌+◌, ◌<◌, ◌/◌}
use native.Mathlib.Omega.{arith}
use mathlib.Core.Bool.{Bool, true, false}
use mathlib.Core.List.{List}
use mathlib.Core.Path.{◌≡◌, refl, sym, ap, subst, ◌∙◌}
use lib.ListN.{length}
use lib.Dec.{ltb}
use Rattle.capabilities.specs.Lists.{pick}
use Rattle.capabilities.proofs.Choice.{pick_yes, pick_no}
use Rattle.pages.specs.Layer.{in_range}
use Rattle.pages.proofs.Formed.{sound}
use Rattle.reservations.proofs.CoreKept.{core_facts}
use Rattle.machine.specs.Formed.{fresh, start_of}
use Rattle.machine.proofs.Keeps.{facts}
use Rattle.arrays.specs.declared.Arrays.{Arrays}
use Rattle.arrays.specs.declared.Numbers.{Numbers}
use Rattle.arrays.specs.Reading.{core_of, state_of, arrays_of, Formed}
use Rattle.arrays.proofs.Facts.{lengths}
use Rattle.arrays.proofs.Starting.{fresh_in, fresh_out}
use Rattle.formed.specs.Test.{formed_of, sized}
use Rattle.formed.specs.Fresh.{Start, starting, start_in}
use Rattle.formed.proofs.Tested.{tested, passing}
use Rattle.session_rules.specs.Session.{ends_session}
use Rattle.step.specs.Entries.{RanOn, command_judged_on, command_on}
use Rattle.entries.specs.Runs.{Run, answer_numbers, resting, preceded, run_on, run_in}
use Rattle.step.proofs.Commanding.{command_unformed, command_formed}
use Rattle.step.proofs.Running.{ran_formed}

-- A command keeps arrays well formed.
pub command_formed_on : (a : Arrays) → formed_of a ≡ true → (input : List ℕ) (at : ℕ) (cells tags : List ℕ) → formed_of (command_on a input at cells tags).left.arrays ≡ true
command_formed_on a e input at cells tags =
    let t = command_on a input at cells tags in
    passing t.left.arrays
    (ran_formed a (tested a e) input at cells tags t.left.answer t.left.arrays t.left.cells t.left.tags t.used
    (sym (command_formed a cells tags input at e (command_judged_on a input at cells tags) refl)))

-- What every command keeps, a run of them keeps.
either : {A : Type 0} (Q : A → Type 0) (b : Bool) (x y : A) → Q x → Q y → Q (pick b x y)
either Q true x y p q = p
either Q false x y p q = q

module _ (P : Arrays → Type 0) (input : List ℕ) (keeps : (a : Arrays) → P a → (at : ℕ) (cells tags : List ℕ) → P (command_on a input at cells tags).left.arrays) where
  pub run_keeps : (room : ℕ) (a : Arrays) → P a → (at : ℕ) (cells tags : List ℕ) → P (run_on room a input at cells tags).arrays
  unfolding run_on
  run_keeps zero a p at cells tags = p
  run_keeps (suc room) a p at cells tags =
      let t = command_on a input at cells tags in
      let l = t.left in
      let q = keeps a p at cells tags in
      let rest = run_on room l.arrays input (at + t.used) l.cells l.tags in
      let stop = resting (at + t.used) l.arrays l.cells l.tags in
      either (λ (r : Run). P r.arrays) (ltb at (length input)) (preceded 1 (answer_numbers l.answer t.used) (pick (ends_session l.answer.code) stop rest)) (resting at a cells tags)
      (either (λ (r : Run). P r.arrays) (ends_session l.answer.code) stop rest q (run_keeps room l.arrays q (at + t.used) l.cells l.tags)) p

-- V, F and the range are 16-bit numbers by their type; so are the other two.
pub record Fits (n : Numbers) : Type 0 where
  pub count : n.count < 65536
  pub place : n.place < 65536

-- Those of well-formed arrays are: at most 64 rows are in use, and the place is within 2,048 cells.
formed_fits : (a : Arrays) → Formed a → Fits a.nums
unfolding state_of core_of
formed_fits a f =
    let c = core_facts (state_of a).core (facts (state_of a) f.well).core in
    let p = sound (state_of a).core.pages c.layer in
    record { count = omega (arith, (lengths a f).count); place = omega (arith, c.place, p.f_most) }

-- A command leaves well-formed arrays, or those that it was given.
pub command_fits : (a : Arrays) → Fits a.nums → (input : List ℕ) (at : ℕ) (cells tags : List ℕ) → Fits (command_on a input at cells tags).left.arrays.nums
command_fits a h input at cells tags = go (formed_of a) refl
  where
    t : RanOn
    t = command_on a input at cells tags

    go : (b : Bool) → formed_of a ≡ b → Fits t.left.arrays.nums
    go true d = formed_fits t.left.arrays (tested t.left.arrays (command_formed_on a d input at cells tags))
    go false d = subst (λ (x : RanOn). Fits x.left.arrays.nums) (command_unformed a cells tags input at d) h

pub run_fits : (a : Arrays) → Fits a.nums → (input : List ℕ) (at : ℕ) (cells tags answers : List ℕ) → Fits (run_in a input at cells tags answers).arrays.nums
unfolding run_in
run_fits a h input at cells tags answers =
    run_keeps (λ (x : Arrays). Fits x.nums) input (λ x q at cells tags. command_fits x q input at cells tags) (length answers / 4) a h at cells tags

-- A start leaves at most one row in use, or the arrays that it was given.
fresh_fits : (v f : ℕ) → Fits (arrays_of (fresh v f)).nums
fresh_fits v f = go (in_range v f) refl
  where
    go : (t : Bool) → in_range v f ≡ t → Fits (arrays_of (fresh v f)).nums
    go true d = subst (λ (x : Arrays). Fits x.nums) (sym (fresh_in v f d)) (record { count = omega arith; place = omega arith })
    go false d = subst (λ (x : Arrays). Fits x.nums) (sym (fresh_out v f d)) (record { count = omega arith; place = omega arith })

pub start_fits : (v f : ℕ) (a : Arrays) → Fits a.nums → (k : ℕ) (b : Arrays) → starting k b ≡ start_in v f a → Fits b.nums
unfolding start_in start_of
start_fits v f a h k b e = go (sized a) refl
  where
    go : (t : Bool) → sized a ≡ t → Fits b.nums
    go true d = subst (λ (x : Arrays). Fits x.nums) (sym (ap (λ (s : Start). s.arrays) (e ∙ pick_yes (sized a) (starting (pick (in_range v f) 0 1) (arrays_of (fresh v f))) (starting 1 a) d))) (fresh_fits v f)
    go false d = subst (λ (x : Arrays). Fits x.nums) (sym (ap (λ (s : Start). s.arrays) (e ∙ pick_no (sized a) (starting (pick (in_range v f) 0 1) (arrays_of (fresh v f))) (starting 1 a) d))) h
