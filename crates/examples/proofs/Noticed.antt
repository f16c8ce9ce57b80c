-- A wrong machine that equal cores, and equal maps, exclude, by computing: a store of an odd number splits a reservation that is not the
-- house's. The two lists are within the claim, and with this machine a question about the reservations tells them apart. Assumes nothing.
use Prim.Native.Nat.{ℕ, ◌%◌}
use native.Mathlib.Omega.{arith}
use mathlib.Core.List.{List, [], ◌∷◌, ◌++◌}
use mathlib.Core.Path.{◌≡◌, refl, sym, ap, ◌∙◌}
use lib.Dec.{eqb}
use lib.ListN.{replicate}
use Rattle.capabilities.specs.Lists.{pick, filter}
use Rattle.table.specs.Operations.{split_of}
use Rattle.table.specs.Rows.{live}
use Rattle.maps.specs.declared.Question.TheVariants.{Sharing}
use Rattle.maps.specs.Cells.{shares, beyond}
use Rattle.maps.specs.Records.{tile_from, cells_of, bad_records}
use Rattle.maps.specs.Questions.{is_listed, bases_of, bad_question, put, granted_answer, is_refused, Response, ask_of}
use Rattle.calls.specs.declared.Call.{Call}
use Rattle.calls.specs.declared.Call.TheVariants.{Split, Give, Map, Zero, Store, Number, TakeMasked}
use Rattle.calls.specs.Commands.{page, frame}
use Rattle.machine.specs.Reasons.{reads}
use Rattle.machine.specs.Effects.{with_table}
use Rattle.machine.specs.Formed.{answered}
use Rattle.machine.specs.Step.{outcome_with, with_core}
use Rattle.cases.specs.Variants.{Rule, instead}
use Rattle.words.specs.Words.{empty}
use Rattle.histories.specs.Runs.{Machine, machine, begun}
use Rattle.examples.proofs.Pairs.{Pair, in_one, in_two, same, fine, ones, twos, WithinOf, within, comparing}

-- House 3 keeps 42 or 7 in its page. Cells 16 to 31 are the manager's.
abbrev pub kept : Pair
kept =
    record {
      v = 2;
      f = 1;
      cells = replicate 16 0;
      tags = replicate 16 0;
      before = Zero 0 (frame 0) ∷ Map 0 (page 0) (frame 0) ∷ Split 0 0 16 ∷ Give 0 0 3 ∷ [];
      take = TakeMasked 3 0 0 15;
      house = 3;
      base = 0;
      reg = 0;
      permissions = 15;
      takes = refl;
      after = in_one (Number 3 1 42) fine ∷ in_two (Number 3 1 7) fine ∷ same (Store 3 0 5 1) fine ∷ [];
    }

pub kept_within : WithinOf kept
kept_within = within kept (unfold comparing in refl)

unfoldable pub splits_odd : Rule
splits_odd =
    instead 0x0C
    (λ s c cells tags o.
    let n = (reads s.core s.registers cells tags c).two.cell in
    let other = with_table s.core (split_of s.core.table 0 16 8).table in
    pick (eqb (n % 2) 1) (outcome_with (answered 0 empty (with_core s other)) o.cells o.tags) o)

-- What a list of calls leaves by another rule.
unfoldable pub run_by : Rule → Machine → List Call → Machine
run_by rule m [] = m
run_by rule m (c ∷ calls) =
    let o = rule m.state c m.cells m.tags in
    run_by rule (machine o.answer.state o.cells o.tags) calls

abbrev leaves : List Call → Machine
leaves after = run_by splits_odd (begun 2 1 (replicate 16 0) (replicate 16 0)) (kept.before ++ (kept.take ∷ after))

-- Those that share cells with the 32 of the map.
abbrev asked : Machine → Response
asked m = ask_of (live m.state.core.table) (Sharing 0 32) (replicate 64 0)

unfoldable noticing : ℕ
unfolding instead splits_odd run_by shares beyond filter tile_from cells_of bad_records is_listed bases_of bad_question put granted_answer is_refused ask_of comparing
noticing = 0

two_listed : (asked (leaves (ones kept.after))).answer.count ≡ 2
unfolding noticing
two_listed = refl

three_listed : (asked (leaves (twos kept.after))).answer.count ≡ 3
unfolding noticing
three_listed = refl

pub maps_differ : asked (leaves (ones kept.after)) ≡ asked (leaves (twos kept.after)) → ⊥
maps_differ e =
    let z : ◌≡◌ {A = ℕ} 2 3 = sym two_listed ∙ ap (λ x. x.answer.count) e ∙ three_listed in
    omega (arith, z)

pub cores_differ : (leaves (ones kept.after)).state.core ≡ (leaves (twos kept.after)).state.core → ⊥
cores_differ e = maps_differ (ap (λ k. ask_of (live k.table) (Sharing 0 32) (replicate 64 0)) e)
