-- What is put of an answer, by whether its code is 0.
use Rattle.std.specs.Prelude.{Result, Ok, Err}
use Rattle.std.specs.Result.{result_unwrap_or}
use mathlib.Core.Path.{◌≡◌, refl, sym, ◌∙◌, ap}
use Rattle.capabilities.specs.declared.refusal.Refusal.{Refusal}
use Rattle.capabilities.specs.Refusals.{code}
use Rattle.claims.specs.Cost.{cost}
use Rattle.machine.specs.Cost.{costed}
use Rattle.cost.specs.declared.Cost.{Cost}
use Rattle.cost.specs.Told.{told}
use Prim.Native.Nat.{ℕ}
use mathlib.Core.List.{List, [], map}
use lib.Dec.{eqb}
use borrow.Author.Tests.{eq-eqb}
use Rattle.capabilities.proofs.Choice.{pick_yes, kept}
use Rattle.table.specs.Numbers.{row_from}
use Rattle.maps.specs.declared.Question.{Question}
use Rattle.maps.specs.declared.Question.TheVariants.{Nearest}
use Rattle.maps.specs.Questions.{Answer}
use Rattle.maps.specs.Questions.{Response, response, ask_of}
use Rattle.maps.proofs.Asking.{no_slice}
use Rattle.cetomuhi.specs.Maps.{list_answer, put_if, listed_by, list_lent, Sited, sited, nearest_lent}

put_granted : (code new old : ℕ) → code ≡ 0 → new ≡ put_if code new old
put_granted code new old e = sym (pick_yes (eqb code 0) new old (eq-eqb code 0 e))

put_refused : (code new old : ℕ) → (code ≡ 0 → ⊥) → old ≡ put_if code new old
put_refused code new old e = sym (kept code new old e)

module _ (rows : List ℕ) (q : Question) (count : ℕ) (bases : List ℕ) (a : Answer) (after : List ℕ) (e : response a after ≡ ask_of (map row_from rows) q bases) where
  pub list_granted : a.code ≡ 0 → list_answer a.code a.count after ≡ list_lent rows q count bases
  unfolding list_lent
  list_granted z = ap (λ (n : ℕ). list_answer a.code n after) (put_granted a.code a.count count z) ∙ ap (λ (o : Response). listed_by o count) e

  pub list_refused : (a.code ≡ 0 → ⊥) → list_answer a.code count after ≡ list_lent rows q count bases
  unfolding list_lent
  list_refused z = ap (λ (n : ℕ). list_answer a.code n after) (put_refused a.code a.count count z) ∙ ap (λ (o : Response). listed_by o count) e

module _ (rows : List ℕ) (cell cells found base : ℕ) (bases : List ℕ) (a : Answer) (after : List ℕ) (e : response a after ≡ ask_of (map row_from rows) (Nearest cell cells) bases) where
  same : a ≡ (ask_of (map row_from rows) (Nearest cell cells) []).answer
  same = ap (λ (o : Response). o.answer) e ∙ no_slice (map row_from rows) cell cells bases

  -- What is put of an answer alone.
  abbrev by : Answer → Sited
  by b = sited b.code (put_if b.code b.count found) (put_if b.code b.base base)

  pub nearest_granted : a.code ≡ 0 → sited a.code a.count a.base ≡ nearest_lent rows cell cells found base
  unfolding nearest_lent
  nearest_granted z = (λ i. sited a.code (put_granted a.code a.count found z i) (put_granted a.code a.base base z i)) ∙ ap by same

  pub nearest_refused : (a.code ≡ 0 → ⊥) → sited a.code found base ≡ nearest_lent rows cell cells found base
  unfolding nearest_lent
  nearest_refused z = (λ i. sited a.code (put_refused a.code a.count found z i) (put_refused a.code a.base base z i)) ∙ ap by same

-- A cost that was asked, as it is put: 0 and 0 where it is refused.
pub told_is : (r : Result Cost Refusal) (k : ℕ) (c : Cost) → k ≡ code r → c ≡ result_unwrap_or r (record { share = 0; remainder = 0 }) → costed k (cost c.share c.remainder) ≡ told r
told_is (Ok x) k c e d = rw (e, d) refl
told_is (Err x) k c e d = rw (e, d) refl
