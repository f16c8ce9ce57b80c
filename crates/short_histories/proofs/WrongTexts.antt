-- None of the wrong programs puts the text: each differs from it, by one computation over the list. Assumes nothing.
use mathlib.Core.Bool.{true, true≢false}
use mathlib.Core.List.{List, map, flatten}
use mathlib.Core.Path.{◌≡◌, refl, sym, ◌∙◌, ap}
use Prim.Native.Nat.{ℕ}
use borrow.Author.Tests.{not-true}
use Rattle.capabilities.specs.Lists.{all, filter, same}
use Rattle.capabilities.proofs.Lists.{every}
use Rattle.short_histories.specs.Text.{line_of}
use Rattle.short_histories.specs.Histories.{text}
use Rattle.short_histories.specs.Found.{text_by, right_text}
use Rattle.short_histories.specs.WrongTexts.{afresh, up_to, by_length, line_by, skips_empty, wrong_texts, differs, NoneIsText}
use Rattle.short_histories.proofs.Computed.{computing_histories, histories_found}

-- The walk with the rule's own parts puts the text.
pub right_text_lem : right_text ≡ text
unfolding right_text text_by text
right_text_lem = ap (λ hs. flatten (map line_of hs)) (sym histories_found)

computed_same : same right_text right_text ≡ true
unfolding right_text text_by same computing_histories
computed_same = refl

pub all_differ : all differs wrong_texts ≡ true
unfolding all differs wrong_texts right_text text_by afresh up_to by_length line_by skips_empty filter same computing_histories
all_differ = refl

is_not : (wrong : List ℕ) → differs wrong ≡ true → wrong ≡ text → ⊥
unfolding differs
is_not wrong d e = true≢false (sym computed_same ∙ ap (λ l. same l right_text) (right_text_lem ∙ sym e) ∙ not-true (same wrong right_text) d)

pub none_is_text : NoneIsText wrong_texts
none_is_text = every differs (λ wrong. wrong ≡ text → ⊥) is_not wrong_texts all_differ
