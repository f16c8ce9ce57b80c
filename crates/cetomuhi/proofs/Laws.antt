-- What a server may rely on from one call to the next. Assumes nothing.
use Prim.Native.Nat.{ℕ, ◌<◌, ◌≤◌, ◌/◌}
use native.Mathlib.Omega.{arith}
use mathlib.Core.Bool.{Bool, true, false, ◌&&◌}
use mathlib.Core.List.{List, ◌∷◌}
use mathlib.Core.Path.{◌≡◌, refl, sym, ap, ◌∙◌}
use lib.ListN.{length, drop}
use lib.Dec.{eqb, leb}
use borrow.Author.Tests.{eqb-true, le-leb}
use Rattle.capabilities.proofs.Choice.{pick_yes, pick_no, and_left}
use Rattle.pages.proofs.Formed.{sound}
use Rattle.claims.specs.Cost.{claimants, Shares}
use Rattle.claims.specs.Numbers.{claims_in}
use Rattle.reservations.proofs.CoreKept.{core_facts}
use Rattle.machine.specs.Formed.{start_of}
use Rattle.machine.proofs.Keeps.{facts, start_formed}
use Rattle.machine.proofs.Costs.{cost_met}
use Rattle.arrays.specs.declared.Arrays.{Arrays}
use Rattle.arrays.specs.declared.Numbers.{Numbers}
use Rattle.arrays.specs.Reading.{core_of, state_of, arrays_of}
use Rattle.arrays.proofs.RoundTrip.{written_formed}
use Rattle.formed.specs.Test.{formed_of, sized}
use Rattle.formed.proofs.Tested.{tested, passing}
use Rattle.cost.specs.Asked.{cost_on}
use Rattle.step.specs.Entries.{RanOn, command_on}
use Rattle.entries.specs.Runs.{run_in}
use Rattle.step.proofs.Commanding.{command_unformed}
use Rattle.cetomuhi.specs.Lent.{Lent, small, numbers_from, arrays_in, arrays_over}
use Rattle.cetomuhi.proofs.Fits.{command_formed_on, run_keeps}
use Rattle.cetomuhi.proofs.Writing.{arrays_back, lent_back}
use Rattle.cetomuhi.specs.Exports.{Done, done, done_one, Started, started, start_lent, formed_lent, cost_lent, command_lent, commands_lent}

-- A state of another count of small numbers than six is not well formed.
pub six_numbers : (l : Lent) → formed_lent l ≡ true → length l.numbers ≡ 6
unfolding formed_lent numbers_from state_of core_of
six_numbers l w = go (eqb (length l.numbers) 6) refl
  where
    go : (b : Bool) → eqb (length l.numbers) 6 ≡ b → length l.numbers ≡ 6
    go true e = eqb-true (length l.numbers) 6 e
    go false e =
        let f = tested (arrays_in l) w in
        let c = core_facts (state_of (arrays_in l)).core (facts (state_of (arrays_in l)) f.well).core in
        let s = sound (state_of (arrays_in l)).core.pages c.layer in
        let z : (numbers_from l.numbers).v ≡ 0 = ap (λ (n : Numbers). n.v) (pick_no (eqb (length l.numbers) 6) _ (small 0 0 0 0 0 0) e) in
        let y : ⊥ = omega (arith, s.v_least, z) in absurd y

-- A granted start leaves a well-formed state.
pub start_lent_formed : (v f : ℕ) (l : Lent) → (start_lent v f l).code ≡ 0 → formed_lent (start_lent v f l).lent ≡ true
unfolding start_lent formed_lent
start_lent_formed v f l e = go fit refl
  where
    fit : Bool
    fit = eqb (length l.numbers) 6 && sized (arrays_in l)

    yes : Started
    yes = started (start_of v f).code (arrays_over (arrays_of (start_of v f).state) l)

    go : (b : Bool) → fit ≡ b → formed_of (arrays_in (start_lent v f l).lent) ≡ true
    go true d =
        let s = pick_yes fit yes (started 1 l) d in
        let w = start_formed v f (sym (ap (λ (x : Started). x.code) s) ∙ e) in
        ap (λ (x : Started). formed_of (arrays_in x.lent)) s
        ∙ ap formed_of (arrays_back (arrays_of (start_of v f).state) l (eqb-true (length l.numbers) 6 (and_left (eqb (length l.numbers) 6) (sized (arrays_in l)) d)))
        ∙ passing (arrays_of (start_of v f).state) (written_formed (start_of v f).state w)
    go false d =
        let y : ◌≡◌ {A = ℕ} 1 0 = sym (ap (λ (x : Started). x.code) (pick_no fit yes (started 1 l) d)) ∙ e in
        let z : ⊥ = omega (arith, y) in absurd z

module _ (l : Lent) (input : List ℕ) (at : ℕ) (cells tags answers : List ℕ) (room : 4 ≤ length answers) where
  abbrev t : RanOn
  t = command_on (arrays_in l) input at cells tags

  ran : command_lent l input at cells tags answers ≡ done_one t l answers
  unfolding command_lent
  ran = pick_yes (leb 4 (length answers)) (done_one t l answers) (done 0 l cells tags answers) (le-leb 4 (length answers) room)

  -- One command after another: what is lent afterwards reads as the arrays that the command leaves.
  pub command_lent_lem : length l.numbers ≡ 6 → arrays_in (command_lent l input at cells tags answers).lent ≡ (command_on (arrays_in l) input at cells tags).left.arrays
  command_lent_lem h = ap (λ (d : Done). arrays_in d.lent) ran ∙ arrays_back t.left.arrays l h

  -- A state that is not well formed gets refusal 1, and nothing that is lent changes but the answer's four numbers.
  pub command_lent_refused : formed_lent l ≡ false → command_lent l input at cells tags answers ≡ done 1 l cells tags (1 ∷ 0 ∷ 0 ∷ 0 ∷ drop 4 answers)
  unfolding formed_lent
  command_lent_refused e =
      ran ∙ ap (λ (x : RanOn). done_one x l answers) (sym (command_unformed (arrays_in l) cells tags input at e))
      ∙ ap (λ (x : Lent). done 1 x cells tags (1 ∷ 0 ∷ 0 ∷ 0 ∷ drop 4 answers)) (lent_back l)

  -- A command keeps a state well formed.
  pub command_lent_formed : formed_lent l ≡ true → formed_lent (command_lent l input at cells tags answers).lent ≡ true
  unfolding formed_lent
  command_lent_formed e =
      ap formed_of (command_lent_lem (six_numbers l e)) ∙ command_formed_on (arrays_in l) e input at cells tags

module _ (l : Lent) (input : List ℕ) (at : ℕ) (cells tags answers : List ℕ) where
  -- One run after another: what is lent afterwards reads as the arrays that the run leaves.
  pub commands_lent_lem : length l.numbers ≡ 6 → arrays_in (commands_lent l input at cells tags answers).done.lent ≡ (run_in (arrays_in l) input at cells tags answers).arrays
  unfolding commands_lent
  commands_lent_lem h = arrays_back (run_in (arrays_in l) input at cells tags answers).arrays l h

  -- A run keeps a state well formed.
  pub commands_lent_formed : formed_lent l ≡ true → formed_lent (commands_lent l input at cells tags answers).done.lent ≡ true
  unfolding formed_lent run_in
  commands_lent_formed e =
      ap formed_of (commands_lent_lem (six_numbers l e))
      ∙ run_keeps (λ (x : Arrays). formed_of x ≡ true) input (λ x q at cells tags. command_formed_on x q input at cells tags) (length answers / 4) (arrays_in l) e at cells tags

-- The cost of a page of a well-formed state: it is granted, and those who claim the page pay for its 16 cells.
pub cost_lent_lem :
    (l : Lent) (n : ℕ) → formed_lent l ≡ true → n < (numbers_from l.numbers).v
    → ((cost_lent l n).code ≡ 0) × Shares (claimants (claims_in l.principals l.counts) n) (cost_lent l n).cost
unfolding formed_lent cost_lent cost_on state_of core_of
cost_lent_lem l n = cost_met (formed_of (arrays_in l)) (state_of (arrays_in l)).core n
