-- None of the wrong machines is the rule: by one computation over the list, and since equal outcomes have equal numbers.
use Prim.Native.Nat.{ℕ}
use mathlib.Core.Bool.{true, false, not, true≢false}
use mathlib.Core.List.{List, [], ◌∷◌}
use mathlib.Core.Path.{◌≡◌, refl, sym, ap, ◌∙◌}
use lib.Dec.{eqb}
use borrow.Author.Tests.{eq-eqb}
use Rattle.capabilities.specs.Lists.{same, all}
use Rattle.capabilities.proofs.Choice.{and_left, both}
use Rattle.capabilities.proofs.Lists.{every}
use Rattle.pages.specs.Numbers.{page_code, frame_code}
use Rattle.table.specs.Numbers.{row_code}
use Rattle.claims.specs.Numbers.{principal_code}
use Rattle.calls.specs.declared.Call.TheVariants.{Take}
use Rattle.machine.specs.Step.{step_of}
use Rattle.machine.specs.Forgetting.{start_bare}
use Rattle.cases.specs.Edges.{apart}
use Rattle.cases.specs.Variants.{Rule, Obeys, instead, sweep_by, take_by, mask_by, plain_by, split_by, merge_by, revoke_by, end_by, unmap_by, store_by, load_by, collect_by, create_by, claim_by, release_by, destroy_by, ruled_by, claim_against, destroy_against, told_by}
use Rattle.cases.specs.WrongClaims.{takes_no_limit, spends_always, returns_always, destroys, own_may_destroy, passes_last, all_counts}
use Rattle.cases.specs.WrongMachines.{Wrong, clears_all, invents_left, invents_length, pleads_full, takes_for_nobody, takes_for_manager, keeps_lower, says_several, joins_own, revokes_for_nobody, collects_no_taker, filters_at_rest, drops_number, clears_byte, turns_down, answers_alike, keeps_state, releases, tagged, tells_tags, refusal_writes, after, from, lent, splits, neighbours, family, counted, machines, numbers, leaves, differs, shown, start_refused, NoneObeys}
use Rattle.machine.proofs.Computing.{computing}

pub all_shown : all shown machines ≡ true
unfolding all shown machines differs apart numbers same instead sweep_by take_by mask_by plain_by split_by merge_by revoke_by end_by unmap_by store_by load_by collect_by create_by claim_by release_by destroy_by ruled_by claim_against destroy_against told_by clears_all invents_left invents_length pleads_full takes_for_nobody takes_for_manager keeps_lower says_several joins_own revokes_for_nobody collects_no_taker filters_at_rest drops_number clears_byte turns_down answers_alike keeps_state releases tagged tells_tags refusal_writes takes_no_limit spends_always returns_always destroys own_may_destroy passes_last all_counts after from lent splits neighbours family counted page_code frame_code row_code principal_code computing
all_shown = refl

-- A fresh table with taker 0: a take that the rule grants from a start is refused under 1.
pub taker_0_refused : start_refused (Take 0 0 0) ≡ true
unfolding start_refused start_bare computing
taker_0_refused = refl

-- A list is the same as itself.
same_self : (l : List ℕ) → same l l ≡ true
unfolding same
same_self [] = refl
same_self (x ∷ l) = both (eqb x x) (same l l) (eq-eqb x x refl) (same_self l)

-- Equal things are not apart.
pub not_apart : {A : Type 0} (numbers : A → List ℕ) (x y : A) → x ≡ y → apart numbers x y ≡ false
unfolding apart
not_apart numbers x y e = ap (λ z. not (same (numbers z) (numbers y))) e ∙ ap not (same_self (numbers y))

-- A machine that obeys the rule does not differ from it.
obeying : (m : Rule) (w : Wrong) → Obeys m → differs m w ≡ false
unfolding differs
obeying m w obeys = not_apart numbers (leaves m w) (leaves step_of w) (obeys w.before.answer.state w.call w.before.cells w.before.tags)

disobeys : (w : Wrong) → shown w ≡ true → Obeys w.wrong → ⊥
unfolding shown
disobeys w e obeys = true≢false (sym (and_left (differs w.wrong w) (not (differs w.right w)) e) ∙ obeying w.wrong w obeys)

-- No wrong machine of the list obeys the rule.
pub none_obeys : NoneObeys machines
none_obeys = every shown (λ w. Obeys w.wrong → ⊥) disobeys machines all_shown
