-- The examples and the wrong entries by computing: what is lent is compared by the histories that it is the writing of, so that no array
-- is tested. Assumes nothing.
use Prim.Native.Nat.{ℕ}
use native.Mathlib.Omega.{arith}
use mathlib.Core.List.{List, [], ◌∷◌, ◌++◌}
use mathlib.Core.Path.{◌≡◌, refl, sym, ap, ◌∙◌}
use lib.ListN.{get_or, replicate}
use Rattle.calls.specs.declared.Call.{Call}
use Rattle.calls.specs.declared.Call.TheVariants.{Take, Give, Map, Zero}
use Rattle.calls.specs.Commands.{page, frame}
use Rattle.calls.specs.Reader.{whole, read_of}
use Rattle.machine.specs.Formed.{start_of}
use Rattle.machine.proofs.Computing.{computing}
use Rattle.histories.specs.Runs.{Machine, outcome, next, run, answers, begun}
use Rattle.arrays.specs.Reading.{arrays_of}
use Rattle.cetomuhi.specs.Exports.{start_lent}
use Rattle.refinement.specs.Inputs.{parse_from}
use Rattle.refinement.specs.Uses.{Served, Use, command, commands, Entries, exported, calls_in, calls_of, Reply, reply, replies_in, used, served_all, replies_of}
use Rattle.refinement.specs.Bytes.{writing, Starts, replies, Refines}
use Rattle.refinement.specs.WrongEntries.{zeros, sevens, tagged, start, uses, Comes, on_copies, skipping, silent, roomless, AllExcluded}
use Rattle.refinement.proofs.Bytes.{start_written, bytes_are_histories}

starts : Starts 2 1 zeros sevens tagged
unfolding start_lent start_of
starts = record { granted = refl; of_cells = refl; of_tags = refl }

calls_are : calls_of uses ≡ Zero 0 (frame 0) ∷ Map 0 (page 0) (frame 0) ∷ Give 0 0 1 ∷ Take 1 0 2 ∷ []
unfolding calls_of calls_in parse_from read_of whole
calls_are = refl

-- What the calls of the example are answered, and what they leave in register 2 of party 1.
abbrev fresh : Machine
fresh = begun 2 1 sevens tagged

abbrev calls : List Call
calls = Zero 0 (frame 0) ∷ Map 0 (page 0) (frame 0) ∷ Give 0 0 1 ∷ Take 1 0 2 ∷ []

abbrev answered : List Reply
answered =
    reply (Zero 0 (frame 0)) (0 ∷ 0 ∷ 0 ∷ 3 ∷ [])
    ∷ reply (Map 0 (page 0) (frame 0)) (0 ∷ 0 ∷ 0 ∷ 4 ∷ [])
    ∷ reply (Give 0 0 1) (0 ∷ 0 ∷ 0 ∷ 5 ∷ [])
    ∷ reply (Take 1 0 2) (0 ∷ 32 ∷ 0 ∷ 5 ∷ [])
    ∷ []

answers_are : replies calls (answers fresh calls) ≡ answered
unfolding replies answers outcome next begun computing
answers_are = refl

word_is : get_or (writing (run fresh calls)).lent.words 10 0 ≡ 12886999040
unfolding run outcome next begun arrays_of computing
word_is = refl

mark_is : get_or (writing (run fresh calls)).lent.marks 10 0 ≡ 1
unfolding run outcome next begun arrays_of computing
mark_is = refl

pub comes : Comes
comes =
    let b = bytes_are_histories 2 1 zeros sevens tagged starts uses in
    let left : served_all exported start uses ≡ writing (run fresh calls) = b.left ∙ ap (λ (l : List Call). writing (run fresh l)) calls_are in
    record {
      starts = starts;
      calls = calls_are;
      answers = b.answered ∙ ap (λ (l : List Call). replies l (answers fresh l)) calls_are ∙ answers_are;
      word = ap (λ (s : Served). get_or s.lent.words 10 0) left ∙ word_is;
      mark = ap (λ (s : Served). get_or s.lent.marks 10 0) left ∙ mark_is;
    }

-- A use of each wrong entry: party 0 takes all cells into register 2; or a run, of which the first command gives them to party 1, which
-- takes them.
abbrev takes : ℕ → Use
takes n = command (1 ∷ 0 ∷ 0 ∷ 0 ∷ 2 ∷ []) 0 (replicate n 9)

abbrev run₂ : ℕ → Use
run₂ at = commands (4 ∷ 0 ∷ 0 ∷ 0 ∷ 1 ∷ 1 ∷ 1 ∷ 0 ∷ 0 ∷ 2 ∷ []) at (replicate 16 9)

taken : calls_of (takes 4 ∷ []) ≡ Take 0 0 2 ∷ []
unfolding calls_of calls_in parse_from read_of whole
taken = refl

untaken : calls_of (takes 3 ∷ []) ≡ []
unfolding calls_of calls_in parse_from
untaken = refl

taken_anyway : calls_of (command (1 ∷ 0 ∷ 0 ∷ 0 ∷ 2 ∷ []) 0 (replicate 3 9 ++ replicate 4 0) ∷ []) ≡ Take 0 0 2 ∷ []
unfolding calls_of calls_in parse_from read_of whole
taken_anyway = refl

both_done : calls_of (run₂ 0 ∷ []) ≡ Give 0 0 1 ∷ Take 1 0 2 ∷ []
unfolding calls_of calls_in parse_from read_of whole
both_done = refl

one_skipped : calls_of (run₂ 5 ∷ []) ≡ Take 1 0 2 ∷ []
unfolding calls_of calls_in parse_from read_of whole
one_skipped = refl

-- The word in a register after calls.
abbrev word_after : ℕ → List Call → ℕ
word_after i l = get_or (writing (run fresh l)).lent.words i 0

fresh_word : word_after 2 [] ≡ 0
unfolding run begun arrays_of computing
fresh_word = refl

taken_word : word_after 2 (Take 0 0 2 ∷ []) ≡ 12886999040
unfolding run outcome next begun arrays_of computing
taken_word = refl

given_word : word_after 10 (Give 0 0 1 ∷ Take 1 0 2 ∷ []) ≡ 12886999040
unfolding run outcome next begun arrays_of computing
given_word = refl

ungiven_word : word_after 10 (Take 1 0 2 ∷ []) ≡ 0
unfolding run outcome next begun arrays_of computing
ungiven_word = refl

taken_code : replies (Take 0 0 2 ∷ []) (answers fresh (Take 0 0 2 ∷ [])) ≡ reply (Take 0 0 2) (0 ∷ 32 ∷ 0 ∷ 5 ∷ []) ∷ []
unfolding replies answers outcome next begun computing
taken_code = refl

differ : (x y : ℕ) → x ≡ 0 → y ≡ 12886999040 → x ≡ y → ⊥
differ x y p q e = omega arith

-- The word that a statement says stands in a register, by its calls.
said : (e : Entries) → Refines e → (u : Use) (l : List Call) → calls_of (u ∷ []) ≡ l → (i : ℕ) → get_or (served_all e start (u ∷ [])).lent.words i 0 ≡ word_after i l
said e r u l is i =
    ap (λ (s : Served). get_or s.lent.words i 0) ((r 2 1 zeros sevens tagged starts (u ∷ [])).left ∙ ap (λ (x : List Call). writing (run fresh x)) is)

on_copies_not_lem : Refines on_copies → ⊥
unfolding served_all used run
on_copies_not_lem r =
    differ (word_after 2 []) (word_after 2 (Take 0 0 2 ∷ [])) fresh_word taken_word
    (sym (ap (λ (s : Served). get_or s.lent.words 2 0) (start_written 2 1 zeros sevens tagged starts)) ∙ said on_copies r (takes 4) (Take 0 0 2 ∷ []) taken 2)

skipping_not : Refines skipping → ⊥
unfolding served_all used parse_from read_of whole
skipping_not r =
    differ (word_after 10 (Take 1 0 2 ∷ [])) (word_after 10 (Give 0 0 1 ∷ Take 1 0 2 ∷ [])) ungiven_word given_word
    (sym (said exported bytes_are_histories (run₂ 5) (Take 1 0 2 ∷ []) one_skipped 10) ∙ said skipping r (run₂ 0) (Give 0 0 1 ∷ Take 1 0 2 ∷ []) both_done 10)

roomless_not : Refines roomless → ⊥
unfolding served_all used
roomless_not r =
    differ (word_after 2 []) (word_after 2 (Take 0 0 2 ∷ [])) fresh_word taken_word
    (sym (said roomless r (takes 3) [] untaken 2)
    ∙ said exported bytes_are_histories (command (1 ∷ 0 ∷ 0 ∷ 0 ∷ 2 ∷ []) 0 (replicate 3 9 ++ replicate 4 0)) (Take 0 0 2 ∷ []) taken_anyway 2)

-- The code of a first reply.
abbrev first_code : List Reply → ℕ
first_code [] = 0
first_code (r ∷ l) = get_or r.numbers 0 0

silent_not : Refines silent → ⊥
unfolding replies_of replies_in used calls_in parse_from read_of whole
silent_not r =
    let e : replies_of silent start (takes 4 ∷ []) ≡ reply (Take 0 0 2) (0 ∷ 32 ∷ 0 ∷ 5 ∷ []) ∷ [] =
    (r 2 1 zeros sevens tagged starts (takes 4 ∷ [])).answered ∙ ap (λ (x : List Call). replies x (answers fresh x)) taken ∙ taken_code in
    let z : ◌≡◌ {A = ℕ} 9 0 = ap first_code e in
    omega arith

pub all_excluded : AllExcluded
all_excluded = record { on_copies_not = on_copies_not_lem; skipping_not = skipping_not; silent_not = silent_not; roomless_not = roomless_not }
