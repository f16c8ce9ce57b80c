-- A run on arrays, command by command: what one command adds to it, where it ends, and how its answers lie in the buffer. Assumes nothing.
use Prim.Native.Nat.{ℕ, zero, suc, ◌+◌, ◌-◌, ◌*◌, ◌/◌, ◌≤◌, ◌<◌}
use native.Mathlib.Omega.{arith}
use mathlib.Core.Bool.{Bool, true, false, ◌&&◌}
use mathlib.Core.List.{List, [], ◌++◌, append_assoc, append-nil}
use mathlib.Core.Path.{◌≡◌, refl, sym, ap, subst, ◌∙◌}
use lib.ListN.{length, take, drop, length-drop}
use lib.Seq.{drop-drop, length-take-le}
use borrow.Rule.Slice.PartMut.{put_mid, same_len_mid}
use lib.Dec.{ltb, leb}
use borrow.Author.Tests.{lt-ltb, le-ltb, ltb-true, ltb-false, leb-true, leb-false}
use Rattle.capabilities.specs.Lists.{pick}
use Rattle.capabilities.proofs.Choice.{pick_yes, pick_no, and_left, and_right}
use Rattle.machine.specs.Command.{Ran, ran, command_of}
use Rattle.machine.proofs.Commands.{command_sized}
use Rattle.arrays.specs.declared.Arrays.{Arrays}
use Rattle.arrays.specs.declared.Answer.{Answer}
use Rattle.arrays.specs.Reading.{state_of, Formed}
use Rattle.arrays.specs.Steps.{leaving}
use Rattle.formed.proofs.Tested.{passing}
use Rattle.lines.specs.Laid.{Laid}
use Rattle.lines.proofs.Laying.{laid_none, laid_both}
use Rattle.session_rules.specs.Session.{ends_session}
use Rattle.session_rules.proofs.Sessions.{command_used}
use Rattle.step.specs.Entries.{OnFormed, RanOn, ran_on, command_judged_on, command_on}
use Rattle.entries.specs.Runs.{answer_numbers, Run, run_of, resting, preceded, run_on, run_in}
use Rattle.step.proofs.Commanding.{command_formed}
use Rattle.step.proofs.Running.{commanded, ran_formed, ran_on_lem, ran_sized}

-- Numbers copied to a place.
pub laid_copied : (new buffer : List ℕ) (place n end : ℕ) → n ≡ length new → end ≡ place + n → end ≤ length buffer → Laid new place buffer end (put_mid place n buffer new)
laid_copied new buffer place n end e f h = record {
  ends = f ∙ ap (λ k. place + k) e;
  size = same_len_mid place n buffer new (sym e ∙ sym (length-take-le n (drop place buffer) (omega (arith, length-drop place buffer, f, h))));
  fits = λ x. ap (λ l. take place buffer ++ (new ++ l)) (drop-drop n place buffer ∙ ap (λ k. drop (place + k) buffer) e);
}

-- Commands before commands.
pub preceded_twice : (n m : ℕ) (xs ys : List ℕ) (r : Run) → preceded n xs (preceded m ys r) ≡ preceded (n + m) (xs ++ ys) r
preceded_twice n m xs ys r =
    let sum : n + (m + r.done) ≡ n + m + r.done = omega arith in
    ap (λ (k : ℕ). run_of k r.at r.arrays r.cells r.tags (xs ++ (ys ++ r.answers))) sum
    ∙ ap (λ (l : List ℕ). run_of (n + m + r.done) r.at r.arrays r.cells r.tags l) (sym (append_assoc xs ys r.answers))

pub preceded_none : (r : Run) → preceded 0 [] r ≡ r
preceded_none r = let sum : 0 + r.done ≡ r.done = omega arith in ap (λ (k : ℕ). run_of k r.at r.arrays r.cells r.tags r.answers) sum

pub preceded_rest : (n : ℕ) (xs : List ℕ) (at : ℕ) (a : Arrays) (cells tags : List ℕ) → preceded n xs (resting at a cells tags) ≡ run_of n at a cells tags xs
preceded_rest n xs at a cells tags =
    let sum : n + 0 ≡ n = omega arith in
    ap (λ (k : ℕ). run_of k at a cells tags (xs ++ [])) sum ∙ ap (λ (l : List ℕ). run_of n at a cells tags l) (append-nil xs)

-- A command and what comes after it.
module _ (input : List ℕ) (at : ℕ) where
  abbrev pub onward : ℕ → RanOn → Run
  onward room t =
      pick (ends_session t.left.answer.code) (resting (at + t.used) t.left.arrays t.left.cells t.left.tags)
      (run_on room t.left.arrays input (at + t.used) t.left.cells t.left.tags)

  abbrev pub next : ℕ → RanOn → Run
  next room t = preceded 1 (answer_numbers t.left.answer t.used) (onward room t)

  module _ (room : ℕ) (a : Arrays) (cells tags : List ℕ) where
    pub run_next : at < length input → run_on (suc room) a input at cells tags ≡ next room (command_on a input at cells tags)
    unfolding run_on
    run_next h = pick_yes (ltb at (length input)) (next room (command_on a input at cells tags)) (resting at a cells tags) (lt-ltb at (length input) h)

  -- No command is done at the input's end, nor where there is no room.
  pub run_past : (room : ℕ) (a : Arrays) (cells tags : List ℕ) → length input ≤ at → run_on room a input at cells tags ≡ resting at a cells tags
  unfolding run_on
  run_past zero a cells tags h = refl
  run_past (suc room) a cells tags h =
      pick_no (ltb at (length input)) (next room (command_on a input at cells tags)) (resting at a cells tags) (le-ltb at (length input) h)

  module _ (a : Arrays) (cells tags : List ℕ) where
    pub run_full : (room : ℕ) → room ≡ 0 → run_on room a input at cells tags ≡ resting at a cells tags
    unfolding run_on
    run_full room e = ap (λ (k : ℕ). run_on k a input at cells tags) e

    pub run_over : (done room : ℕ) → ltb at (length input) && ltb done room ≡ false → run_on (room - done) a input at cells tags ≡ resting at a cells tags
    run_over done room e = go (ltb at (length input)) refl e where
      go : (b : Bool) → ltb at (length input) ≡ b → b && ltb done room ≡ false → run_on (room - done) a input at cells tags ≡ resting at a cells tags
      go true p z = let h : room ≤ done = ltb-false done room z in run_full (room - done) (omega arith)
      go false p z = run_past (room - done) a cells tags (ltb-false at (length input) p)

-- A run whose answers are laid first in the buffer.
module _ (a₀ : Arrays) (input : List ℕ) (at₀ : ℕ) (cells₀ tags₀ buffer : List ℕ) where
  pub run_laid : (done at : ℕ) (a : Arrays) (cells tags written : List ℕ) → run_on (length buffer / 4) a₀ input at₀ cells₀ tags₀ ≡ run_of done at a cells tags written
      → (end : ℕ) (after : List ℕ) → Laid written 0 buffer end after → end ≤ length buffer → run_of done at a cells tags after ≡ run_in a₀ input at₀ cells₀ tags₀ buffer
  unfolding run_in
  run_laid done at a cells tags written e end after p h =
      let zero_is : 0 + length written ≡ length written = omega arith in
      ap (λ (l : List ℕ). run_of done at a cells tags l)
      (p.fits (omega (arith, p.ends)) ∙ ap (λ (n : ℕ). written ++ drop n buffer) zero_is)
      ∙ ap (λ (r : Run). run_of r.done r.at r.arrays r.cells r.tags (r.answers ++ drop (length r.answers) buffer)) (sym e)

-- Whether a run does a command at all.
abbrev pub ready : List ℕ → ℕ → List ℕ → Bool
ready input at buffer = ltb at (length input) && leb 4 (length buffer)

-- A run that does none, and one whose first command is refused before it is read.
module _ (a : Arrays) (input : List ℕ) (at : ℕ) (cells tags buffer : List ℕ) where
  pub run_unready : ready input at buffer ≡ false → run_of 0 at a cells tags buffer ≡ run_in a input at cells tags buffer
  run_unready e =
      run_laid a input at cells tags buffer 0 at a cells tags [] (go (ltb at (length input)) refl e) 0 buffer (laid_none 0 buffer) (omega arith)
    where
      go : (b : Bool) → ltb at (length input) ≡ b → b && leb 4 (length buffer) ≡ false → run_on (length buffer / 4) a input at cells tags ≡ resting at a cells tags
      go true p z = let h : length buffer < 4 = leb-false 4 (length buffer) z in run_full input at a cells tags (length buffer / 4) (omega arith)
      go false p z = run_past input at (length buffer / 4) a cells tags (ltb-false at (length input) p)

  module _ (e : ready input at buffer ≡ true) where
    pub ready_room : 4 ≤ length buffer
    ready_room = leb-true 4 (length buffer) (and_right (ltb at (length input)) (leb 4 (length buffer)) e)

    pub run_refused : (r : Answer) → ran_on (leaving r a cells tags) 0 ≡ command_on a input at cells tags → ends_session r.code ≡ true → (after : List ℕ)
        → Laid (answer_numbers r 0) 0 buffer 4 after → run_of 1 at a cells tags after ≡ run_in a input at cells tags buffer
    run_refused r told stop after put =
        let k = length buffer / 4 - 1 in
        let one : length buffer / 4 ≡ suc k = omega (arith, ready_room) in
        let stays : at + 0 ≡ at = omega arith in
        run_laid a input at cells tags buffer 1 at a cells tags (answer_numbers r 0)
        (ap (λ (j : ℕ). run_on j a input at cells tags) one
        ∙ run_next input at k a cells tags (ltb-true at (length input) (and_left (ltb at (length input)) (leb 4 (length buffer)) e))
        ∙ ap (next input at k) (sym told)
        ∙ ap (preceded 1 (answer_numbers r 0)) (pick_yes (ends_session r.code) (resting (at + 0) a cells tags) (run_on k a input (at + 0) cells tags) stop)
        ∙ preceded_rest 1 (answer_numbers r 0) (at + 0) a cells tags
        ∙ ap (λ (j : ℕ). run_of 1 j a cells tags (answer_numbers r 0)) stays) 4 after put ready_room

-- How far a run on arrays has come: what is written, and what is left to do.
pub record Coming (input : List ℕ) (a₀ : Arrays) (at₀ : ℕ) (cells₀ tags₀ buffer : List ℕ) (room : ℕ) (a : Arrays) (cells tags answers : List ℕ) (at done : ℕ) : Type 0 where
  pub spaces : room ≡ length buffer / 4
  pub few : done ≤ room
  pub formed : Formed a
  pub fits : (length cells ≡ 16 * a.nums.f) × (length tags ≡ 16 * a.nums.f)
  pub written : List ℕ
  pub is : run_on room a₀ input at₀ cells₀ tags₀ ≡ preceded done written (run_on (room - done) a input at cells tags)
  pub laid : Laid written 0 buffer (4 * done) answers

pub coming : (input : List ℕ) (a : Arrays) (at : ℕ) (cells tags buffer : List ℕ) → Formed a → (length cells ≡ 16 * a.nums.f) × (length tags ≡ 16 * a.nums.f)
    → Coming input a at cells tags buffer (length buffer / 4) a cells tags buffer at 0
coming input a at cells tags buffer f m = record {
  spaces = refl;
  few = omega arith;
  formed = f;
  fits = m;
  written = [];
  is =
      let all : length buffer / 4 ≡ length buffer / 4 - 0 = omega arith in
      ap (λ (k : ℕ). run_on k a input at cells tags) all ∙ sym (preceded_none (run_on (length buffer / 4 - 0) a input at cells tags));
  laid = laid_none 0 buffer;
}

module _ {input : List ℕ} {a₀ : Arrays} {at₀ : ℕ} {cells₀ tags₀ buffer : List ℕ} {room : ℕ} {a : Arrays} {cells tags answers : List ℕ} {at done : ℕ}
    (g : Coming input a₀ at₀ cells₀ tags₀ buffer room a cells tags answers at done) where
  pub came : ltb at (length input) && ltb done room ≡ false → run_of done at a cells tags answers ≡ run_in a₀ input at₀ cells₀ tags₀ buffer
  came e =
      run_laid a₀ input at₀ cells₀ tags₀ buffer done at a cells tags g.written
      (ap (λ (k : ℕ). run_on k a₀ input at₀ cells₀ tags₀) (sym g.spaces) ∙ g.is ∙ ap (preceded done g.written) (run_over input at a cells tags done room e)
      ∙ preceded_rest done g.written at a cells tags) (4 * done) answers g.laid (omega (arith, g.spaces, g.few))

  -- The next answer's place.
  module _ (test : ltb at (length input) && ltb done room ≡ true) where
    pub more : at < length input
    more = ltb-true at (length input) (and_left (ltb at (length input)) (ltb done room) test)

    pub roomy : done < room
    roomy = ltb-true done room (and_right (ltb at (length input)) (ltb done room) test)

    pub spacious : 4 * done + 4 ≤ length answers
    spacious = omega (arith, roomy, g.spaces, g.laid.size)

    -- One turn of the loop.
    module _ {r : Answer} {a' : Arrays} {cells' tags' : List ℕ} {n : ℕ}
        (promise : OnFormed a cells tags (ran_on (leaving r a' cells' tags') n ≡ command_judged_on a input at cells tags)) where
      abbrev e : ran_on (leaving r a' cells' tags') n ≡ command_judged_on a input at cells tags
      e = promise g.formed g.fits

      on : ran (commanded r a' n) cells' tags' ≡ command_of (state_of a) input at cells tags
      on = ran_on_lem a g.formed input at cells tags r a' cells' tags' n e

      told : ran_on (leaving r a' cells' tags') n ≡ command_on a input at cells tags
      told = command_formed a cells tags input at (passing a g.formed) (ran_on (leaving r a' cells' tags') n) e

      pub formed_on : Formed a'
      formed_on = ran_formed a g.formed input at cells tags r a' cells' tags' n e

      pub within_on : at + n ≤ length input
      within_on =
          let h : at ≤ length input = omega (arith, more) in
          subst (λ (x : Ran). at + x.command.used ≤ length input) (sym on) (command_used (state_of a) input at cells tags h).within

      cells_same : length cells' ≡ length cells
      cells_same = subst (λ (x : Ran). length x.cells ≡ length cells) (sym on) (command_sized (state_of a) input at cells tags).of_cells

      tags_same : length tags' ≡ length tags
      tags_same = subst (λ (x : Ran). length x.tags ≡ length tags) (sym on) (command_sized (state_of a) input at cells tags).of_tags

      split : run_on room a₀ input at₀ cells₀ tags₀
          ≡ preceded (done + 1) (g.written ++ answer_numbers r n) (onward input at (room - (done + 1)) (ran_on (leaving r a' cells' tags') n))
      split =
          let k = room - (done + 1) in
          let one : room - done ≡ suc k = omega (arith, roomy) in
          g.is
          ∙ ap (preceded done g.written)
          (ap (λ (j : ℕ). run_on j a input at cells tags) one ∙ run_next input at k a cells tags more ∙ ap (next input at k) (sym told))
          ∙ preceded_twice done 1 g.written (answer_numbers r n) (onward input at k (ran_on (leaving r a' cells' tags') n))

      module _ {answers' : List ℕ} (put : Laid (answer_numbers r n) (4 * done) answers (4 * done + 4) answers') where
        laid : Laid (g.written ++ answer_numbers r n) 0 buffer (4 * (done + 1)) answers'
        laid =
            let four : 4 * done + 4 ≡ 4 * (done + 1) = omega arith in
            subst (λ (k : ℕ). Laid (g.written ++ answer_numbers r n) 0 buffer k answers') four
            (laid_both g.written (answer_numbers r n) 0 (4 * done) (4 * done + 4) buffer answers answers' g.laid put)

        pub stops : ends_session r.code ≡ true → run_of (done + 1) (at + n) a' cells' tags' answers' ≡ run_in a₀ input at₀ cells₀ tags₀ buffer
        stops z =
            run_laid a₀ input at₀ cells₀ tags₀ buffer (done + 1) (at + n) a' cells' tags' (g.written ++ answer_numbers r n)
            (ap (λ (k : ℕ). run_on k a₀ input at₀ cells₀ tags₀) (sym g.spaces) ∙ split
            ∙ ap (preceded (done + 1) (g.written ++ answer_numbers r n))
            (pick_yes (ends_session r.code) (resting (at + n) a' cells' tags') (run_on (room - (done + 1)) a' input (at + n) cells' tags') z)
            ∙ preceded_rest (done + 1) (g.written ++ answer_numbers r n) (at + n) a' cells' tags')
            (4 * (done + 1)) answers' laid (omega (arith, roomy, g.spaces))

        pub comes_on : ends_session r.code ≡ false → Coming input a₀ at₀ cells₀ tags₀ buffer room a' cells' tags' answers' (at + n) (done + 1)
        comes_on z =
            let f_same : a'.nums.f ≡ a.nums.f = ran_sized a g.formed input at cells tags r a' cells' tags' n e in
            record {
              spaces = g.spaces;
              few = omega (arith, roomy);
              formed = formed_on;
              fits = (cells_same ∙ g.fits.0 ∙ ap (λ (x : ℕ). 16 * x) (sym f_same), tags_same ∙ g.fits.1 ∙ ap (λ (x : ℕ). 16 * x) (sym f_same));
              written = g.written ++ answer_numbers r n;
              is =
                  split
                  ∙ ap (preceded (done + 1) (g.written ++ answer_numbers r n))
                  (pick_no (ends_session r.code) (resting (at + n) a' cells' tags') (run_on (room - (done + 1)) a' input (at + n) cells' tags') z);
              laid = laid;
            }
