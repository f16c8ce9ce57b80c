-- Bytes are histories: each use on the writing of a history's machine leaves the writing of what its calls lead to, and its answers are
-- the history's. By induction on the uses. Assumes nothing.
use Rattle.std.specs.Prelude.{Option, Some, None}
use Prim.Native.Nat.{ℕ, ◌/◌}
use native.Mathlib.Omega.{arith}
use mathlib.Core.Bool.{Bool, true, false, ◌&&◌}
use mathlib.Core.List.{List, [], ◌∷◌, ◌++◌, append-nil}
use mathlib.Core.Path.{◌≡◌, refl, sym, ap, ap₂, subst, ◌∙◌}
use lib.ListN.{length, drop}
use lib.Dec.{eqb, leb, ltb}
use borrow.Author.Tests.{leb-true, leb-false}
use Rattle.capabilities.specs.Lists.{pick}
use Rattle.capabilities.proofs.Choice.{pick_yes, pick_no, and_left}
use Rattle.calls.specs.declared.Call.{Call}
use Rattle.calls.specs.Commands.{bytes_of}
use Rattle.calls.specs.Reader.{read_of}
use Rattle.calls.proofs.RoundTrip.{round_trip}
use Rattle.machine.specs.Formed.{start_of}
use Rattle.machine.specs.State.{State}
use Rattle.arrays.specs.declared.Arrays.{Arrays}
use Rattle.arrays.specs.Reading.{state_of, arrays_of}
use Rattle.arrays.proofs.RoundTrip.{state_back_again}
use Rattle.formed.specs.Test.{sized}
use Rattle.histories.specs.Runs.{Machine, machine, outcome, next, run, answers, begun, Begins}
use Rattle.histories.specs.Forming.{Standing}
use Rattle.histories.proofs.Forming.{standing_run, standing_begun}
use Rattle.histories.proofs.Leading.{run_append}
use Rattle.cetomuhi.specs.Lent.{Lent, lent, numbers_over, arrays_in, arrays_over}
use Rattle.cetomuhi.specs.Exports.{Done, done, Started, started, start_lent, command_lent}
use Rattle.refinement.specs.Inputs.{read_then, parse_from}
use Rattle.refinement.specs.Uses.{Served, serving, Use, command, commands, formed, cost, list, nearest, exported, begins, calls_in, calls_of, Reply, replies_in, used, served_all, replies_of}
use Rattle.refinement.specs.Bytes.{lent_of, writing, machine_in, Starts, replying, replies, Refined, BytesAreHistories, BytesReach, EveryHistorySent}
use Rattle.refinement.specs.Answers.{leaves, numbers_of, no_call_numbers, ran_from, Answers, AnsweredByHistory}
use Rattle.refinement.proofs.Answers.{lists_back, answers_written}

-- What a use that did some calls leaves.
record Did (m : Machine) (calls : List Call) (d : Done) : Type 0 where
  left : serving d.lent d.cells d.tags ≡ writing (run m calls)
  answered : replies_in calls d.answers ≡ replies calls (answers m calls)

-- The replies of a run, found again among its answers.
replies_laid : (calls : List Call) (m : Machine) (tail rest : List ℕ)
    → replies_in calls ((numbers_of (replies calls (answers m calls)) ++ tail) ++ rest) ≡ replies calls (answers m calls)
unfolding replies_in answers replies numbers_of
replies_laid [] m tail rest = refl
replies_laid (c ∷ calls) m tail rest = ap (λ (l : List Reply). replying c (outcome m c).answer ∷ l) (replies_laid calls (next m c) tail rest)

did_none : (m : Machine) (numbers : List ℕ) → Did m [] (done 0 (writing m).lent m.cells m.tags numbers)
unfolding run answers replies replies_in
did_none m numbers = record { left = refl; answered = refl }

module _ (m : Machine) (input : List ℕ) (at : ℕ) (buffer : List ℕ) where
  did_call : (c : Call) → Did m (c ∷ []) (leaves 1 (next m c) (replying c (outcome m c).answer).numbers buffer)
  unfolding run answers replies replies_in
  did_call c = record { left = refl; answered = refl }

  did_no_call : Did m [] (leaves 1 m no_call_numbers buffer)
  unfolding run answers replies replies_in
  did_no_call = record { left = refl; answered = refl }

  did_run : (room : ℕ) → Did m (parse_from room input at).calls (ran_from m (parse_from room input at) buffer).done
  did_run room =
      let p = parse_from room input at in
      record { left = refl; answered = replies_laid p.calls m (pick p.stuck no_call_numbers []) (drop (length (numbers_of (replies p.calls (answers m p.calls)) ++ pick p.stuck no_call_numbers [])) buffer) }

  -- One command: by its room and by what is read.
  did_one : Answers (writing m) m → Did m (parse_from (pick (leb 4 (length buffer)) 1 0) input at).calls (command_lent (writing m).lent input at m.cells m.tags buffer)
  did_one g = go (leb 4 (length buffer)) refl
    where
      reads : (r : Option (Call × ℕ)) → read_of (drop at input) ≡ r → leb 4 (length buffer) ≡ true
          → Did m (read_then r at (ltb at (length input)) (λ next. parse_from 0 input next)).calls (command_lent (writing m).lent input at m.cells m.tags buffer)
      reads (Some (c, n)) e h = unfold parse_from in subst (Did m (c ∷ [])) (sym (g.call input at buffer (leb-true 4 (length buffer) h) c n e)) (did_call c)
      reads None e h = subst (Did m []) (sym (g.no_call input at buffer (leb-true 4 (length buffer) h) e)) did_no_call

      go : (b : Bool) → leb 4 (length buffer) ≡ b → Did m (parse_from (pick b 1 0) input at).calls (command_lent (writing m).lent input at m.cells m.tags buffer)
      go true h = unfold parse_from in reads (read_of (drop at input)) refl h
      go false h = unfold parse_from in subst (Did m []) (sym (g.no_room input at buffer (leb-false 4 (length buffer) h))) (did_none m buffer)

did_use : (m : Machine) → Answers (writing m) m → (u : Use) → Did m (calls_in u) (used exported (writing m) u)
unfolding calls_in used
did_use m g (command input at buffer) = did_one m input at buffer g
did_use m g (commands input at buffer) =
    subst (λ x. Did m (parse_from (length buffer / 4) input at).calls x.done) (sym (g.ran input at buffer)) (did_run m input at buffer (length buffer / 4))
did_use m g formed = did_none m []
did_use m g (cost n) = did_none m []
did_use m g (list q count bases) = did_none m []
did_use m g (nearest cell cells found base) = did_none m []

-- Replies of calls after calls.
replies_on : (calls rest : List Call) (m : Machine)
    → replies calls (answers m calls) ++ replies rest (answers (run m calls) rest) ≡ replies (calls ++ rest) (answers m (calls ++ rest))
unfolding run answers replies
replies_on [] rest m = refl
replies_on (c ∷ calls) rest m = ap (λ (l : List Reply). replying c (outcome m c).answer ∷ l) (replies_on calls rest (next m c))

refined : (uses : List Use) (m : Machine) (v f : ℕ) → Standing m v f → Refined exported (writing m) m uses
unfolding served_all replies_of calls_of run answers replies
refined [] m v f k = record { left = refl; answered = refl }
refined (u ∷ uses) m v f k =
    let d = did_use m (answers_written m v f k) u in
    let rest = refined uses (run m (calls_in u)) v f (standing_run (calls_in u) m v f k) in
    record {
      left = ap (λ (s : Served). served_all exported s uses) d.left ∙ rest.left ∙ ap writing (sym (run_append (calls_in u) (calls_of uses) m));
      answered =
          ap₂ (λ (x y : List Reply). x ++ y) d.answered (ap (λ (s : Served). replies_of exported s uses) d.left ∙ rest.answered)
          ∙ replies_on (calls_in u) (calls_of uses) m;
    }

-- A granted start begins a history.
module _ (v f : ℕ) (l : Lent) (cells tags : List ℕ) (s : Starts v f l cells tags) where
  abbrev fit : Bool
  fit = eqb (length l.numbers) 6 && sized (arrays_in l)

  abbrev yes : Started
  yes = started (start_of v f).code (arrays_over (arrays_of (start_of v f).state) l)

  fits : fit ≡ true
  unfolding start_lent
  fits = go fit refl
    where
      go : (b : Bool) → fit ≡ b → fit ≡ true
      go true e = e
      go false e =
          let z : ◌≡◌ {A = ℕ} 1 0 = ap (λ (x : Started). x.code) (sym (pick_no fit yes (started 1 l) e)) ∙ s.granted in
          let n : ⊥ = omega arith in
          absurd n

  is_started : start_lent v f l ≡ yes
  unfolding start_lent
  is_started = pick_yes fit yes (started 1 l) fits

  pub start_begins : Begins v f cells tags
  start_begins = record { granted = sym (ap (λ (x : Started). x.code) is_started) ∙ s.granted; of_cells = s.of_cells; of_tags = s.of_tags }

  pub start_written : begins v f l cells tags ≡ writing (begun v f cells tags)
  unfolding numbers_over begun
  start_written =
      let a = arrays_of (start_of v f).state in
      ap (λ (x : Started). serving x.lent cells tags) is_started
      ∙ ap (λ (b : Bool). serving (lent (pick b (lent_of a).numbers l.numbers) a.words a.marks a.mail a.flags a.rows a.pages a.frames a.principals a.counts) cells tags)
      (and_left (eqb (length l.numbers) 6) (sized (arrays_in l)) fits)

pub bytes_are_histories : BytesAreHistories
bytes_are_histories v f l cells tags s uses =
    subst (λ (x : Served). Refined exported x (begun v f cells tags) uses) (sym (start_written v f l cells tags s))
    (refined uses (begun v f cells tags) v f (standing_begun v f cells tags (start_begins v f l cells tags s)))

-- The writing of a history's machine reads as that machine.
pub machine_back : (m : Machine) (v f : ℕ) → Standing m v f → machine_in (writing m) ≡ m
machine_back m v f k =
    ap (λ (a : Arrays). machine (state_of a) m.cells m.tags) (lists_back (arrays_of m.state))
    ∙ ap (λ (s : State). machine s m.cells m.tags) (state_back_again m.state k.formed)

pub bytes_reach : BytesReach
bytes_reach v f l cells tags s uses =
    let k = standing_run (calls_of uses) (begun v f cells tags) v f (standing_begun v f cells tags (start_begins v f l cells tags s)) in
    ap machine_in (bytes_are_histories v f l cells tags s uses).left ∙ machine_back (run (begun v f cells tags) (calls_of uses)) v f k

-- A call that is sent is read.
pub every_history_sent : EveryHistorySent
unfolding calls_of calls_in parse_from
every_history_sent [] = refl
every_history_sent (c ∷ calls) =
    ap₂ (λ (r : Option (Call × ℕ)) (l : List Call). (read_then r 0 (ltb 0 (length (bytes_of c))) (λ next. parse_from 0 (bytes_of c) next)).calls ++ l)
    (ap read_of (sym (append-nil (bytes_of c))) ∙ round_trip c []) (every_history_sent calls)

pub answered_by_history : AnsweredByHistory
answered_by_history v f l cells tags s uses =
    let k = standing_begun v f cells tags (start_begins v f l cells tags s) in
    let m = run (begun v f cells tags) (calls_of uses) in
    subst (λ (x : Served). Answers x (run (begun v f cells tags) (calls_of uses))) (sym (bytes_are_histories v f l cells tags s uses).left)
    (answers_written m v f (standing_run (calls_of uses) (begun v f cells tags) v f k))
