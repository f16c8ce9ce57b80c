-- A session goes on from command to command to its input's end. Assumes nothing.
use Rattle.std.specs.Prelude.{Some, None}
use Prim.Native.Nat.{ℕ, zero, suc, ◌+◌, ◌*◌, ◌≤◌, ◌<◌}
use native.Mathlib.Omega.{arith}
use mathlib.Core.Bool.{Bool, true, false, ◌&&◌, ◌||◌}
use mathlib.Core.List.{List, [], ◌∷◌, ◌++◌, append-nil, append_assoc}
use mathlib.Core.Path.{◌≡◌, refl, sym, ◌∙◌, ap, subst}
use lib.ListN.{length, get_or, take, drop, replicate, length-drop, length-append}
use lib.Dec.{ltb, leb, eqb}
use borrow.Author.Tests.{lt-ltb, le-ltb, ltb-true, leb-true, eqb-true, le-leb, lt-leb}
use Rattle.capabilities.specs.Lists.{pick}
use Rattle.pages.specs.Layer.{serves, in_range}
use Rattle.calls.specs.Commands.{lengths, command_length, call_at}
use Rattle.calls.specs.Reader.{whole, read_of, first_byte}
use Rattle.capabilities.proofs.Choice.{and_left, and_right}
use Rattle.machine.specs.State.{State}
use Rattle.machine.specs.Formed.{well_formed, fresh, start_of}
use Rattle.machine.specs.Reasons.{last_refusal}
use Rattle.machine.specs.Step.{refused}
use Rattle.machine.specs.State.{Commanded}
use Rattle.machine.specs.Command.{Ran, ran, used, on_reading, command_judged, command_of}
use Rattle.machine.proofs.Judging.{pick_by}
use Rattle.machine.proofs.Commands.{command_keeps, command_at_most, command_sized}
use Rattle.lines.specs.Laid.{Laid}
use Rattle.lines.specs.Lines.{line_of, decimal, digits}
use Rattle.lines.proofs.Laying.{laid_none, laid_both}
use Rattle.session_rules.specs.Session.{ends_session, line_then, lines_from, zeroed, lines_started, lines_read, lines_of, Printed, printed, print_of, Spared}

-- Every command's length is two at least, by the table.
unfoldable two : List ℕ → Bool
two [] = true
two (n ∷ l) = (eqb n 0 || leb 2 n) && two l

either : (n : ℕ) → eqb n 0 || leb 2 n ≡ true → 0 < n → 2 ≤ n
either n e h = go (eqb n 0) refl e where
  go : (b : Bool) → eqb n 0 ≡ b → b || leb 2 n ≡ true → 2 ≤ n
  go true z w = let y : n ≡ 0 = eqb-true n 0 z in omega arith
  go false z w = leb-true 2 n w

two_at : (l : List ℕ) (k : ℕ) → two l ≡ true → 0 < get_or l k 0 → 2 ≤ get_or l k 0
unfolding two
two_at [] k e h = let z : ⊥ = omega arith in absurd z
two_at (n ∷ l) zero e h = either n (and_left (eqb n 0 || leb 2 n) (two l) e) h
two_at (n ∷ l) (suc k) e h = two_at l k (and_right (eqb n 0 || leb 2 n) (two l) e) h

two_all : two lengths ≡ true
unfolding two
two_all = refl

-- A whole command is within its input and two bytes long at least.
whole_fits : (l : List ℕ) → whole l ≡ true → command_length (first_byte l) ≤ length l
unfolding whole
whole_fits [] e = let z : ◌≡◌ {A = ℕ} 0 1 = ap (λ (b : Bool). pick b 1 0) e in omega arith
whole_fits (k ∷ l) e = leb-true (command_length k) (length (k ∷ l)) (and_right (ltb 0 (command_length k)) (leb (command_length k) (length (k ∷ l))) e)

whole_two : (l : List ℕ) → whole l ≡ true → 2 ≤ command_length (first_byte l)
unfolding whole
whole_two [] e = let z : ◌≡◌ {A = ℕ} 0 1 = ap (λ (b : Bool). pick b 1 0) e in omega arith
whole_two (k ∷ l) e =
    two_at lengths k two_all (ltb-true 0 (command_length k) (and_left (ltb 0 (command_length k)) (leb (command_length k) (length (k ∷ l))) e))

-- What a command uses lies within the input, and is two bytes at least where the session goes on.
pub record Used (input : List ℕ) (at : ℕ) (r : Ran) : Type 0 where
  pub within : at + r.command.used ≤ length input
  pub some : ends_session r.command.answered.code ≡ false → 2 ≤ r.command.used

module _ (s : State) (input : List ℕ) (at : ℕ) (cells tags : List ℕ) (h : at ≤ length input) where
  ended : (k : ℕ) → ends_session k ≡ true → Used input at (used 0 (refused k s cells tags))
  ended k e = record {
    within = omega arith;
    some = λ z. let y : ◌≡◌ {A = ℕ} 1 0 = ap (λ (b : Bool). pick b 1 0) (sym e ∙ z) in let q : ⊥ = omega arith in absurd q;
  }

  read_used : Used input at (on_reading s (read_of (drop at input)) cells tags)
  unfolding on_reading read_of
  read_used =
      pick_by (λ r. Used input at (on_reading s r cells tags)) (whole (drop at input))
      (Some (call_at (first_byte (drop at input)) (drop at input), command_length (first_byte (drop at input)))) None
      (λ w.
      let fits : command_length (first_byte (drop at input)) ≤ length (drop at input) = whole_fits (drop at input) w in
      let long : length (drop at input) + at ≡ length input = simp length-drop (omega arith) in
      record { within = omega arith; some = λ z. whole_two (drop at input) w })
      (λ w. ended 3 refl)

  pub command_used : Used input at (command_of s input at cells tags)
  unfolding command_of command_judged
  command_used =
      pick_by (Used input at) (well_formed s) (command_judged s input at cells tags) (used 0 (refused 1 s cells tags))
      (λ w.
      pick_by (Used input at) (serves s.core.pages (length cells) (length tags)) (on_reading s (read_of (drop at input)) cells tags)
      (used 0 (refused 2 s cells tags)) (λ m. read_used) (λ m. ended 2 refl))
      (λ w. ended 1 refl)

-- No line is printed at the input's end.
pub lines_past : (n : ℕ) (s : State) (input : List ℕ) (at : ℕ) (cells tags : List ℕ) → length input ≤ at → lines_from n s input at cells tags ≡ []
unfolding lines_from
lines_past zero s input at cells tags h = refl
lines_past (suc n) s input at cells tags h = rw (le-ltb at (length input) h)

-- The lines that follow a command, by whether the session ends and whether the rest is the same.
follow : (b : Bool) (xs ys : List ℕ) → (b ≡ false → xs ≡ ys) → pick b [] xs ≡ pick b [] ys
follow true xs ys e = refl
follow false xs ys e = e refl

-- Enough commands are enough.
pub lines_enough :
    (n m : ℕ) (s : State) (input : List ℕ) (at : ℕ) (cells tags : List ℕ) → length input ≤ at + n → length input ≤ at + m
    → lines_from n s input at cells tags ≡ lines_from m s input at cells tags
unfolding lines_from
lines_enough zero m s input at cells tags p q = sym (lines_past m s input at cells tags (omega arith))
lines_enough (suc n) zero s input at cells tags p q = lines_past (suc n) s input at cells tags (omega arith)
lines_enough (suc n) (suc m) s input at cells tags p q =
    go (ltb at (length input)) refl (command_of s input at cells tags) (command_used s input at cells tags)
    (lines_enough n m)
  where
    go : (b : Bool) → ltb at (length input) ≡ b → (r : Ran) → (at ≤ length input → Used input at r)
        → ((s : State) (input : List ℕ) (at : ℕ) (cells tags : List ℕ) → length input ≤ at + n → length input ≤ at + m
        → lines_from n s input at cells tags ≡ lines_from m s input at cells tags)
        → pick b (line_then r.command.answered (lines_from n r.command.answered.state input (at + r.command.used) r.cells r.tags)) []
        ≡ pick b (line_then r.command.answered (lines_from m r.command.answered.state input (at + r.command.used) r.cells r.tags)) []
    go false e r u ih = refl
    go true e r u ih =
        let more : at < length input = ltb-true at (length input) e in
        let fit = u (omega arith) in
        ap (λ (l : List ℕ). line_of r.command.answered.code r.command.answered.number r.command.answered.tag ++ l)
        (follow (ends_session r.command.answered.code) _ _
        (λ z. let some : 2 ≤ r.command.used = fit.some z in ih r.command.answered.state input (at + r.command.used) r.cells r.tags (omega arith) (omega arith)))

-- One command's line and then the rest, with as many commands allowed as before.
module _ (s : State) (input : List ℕ) (at : ℕ) (cells tags : List ℕ) (h : at < length input) where
  abbrev pub next : Ran → List ℕ
  next r = line_then r.command.answered (lines_from (length input) r.command.answered.state input (at + r.command.used) r.cells r.tags)

  one_more : (n : ℕ) → length input ≡ suc n → lines_from (suc n) s input at cells tags ≡ next (command_of s input at cells tags)
  unfolding lines_from
  one_more n e = rw (lt-ltb at (length input) h)
      (ap (λ (l : List ℕ). line_of r.command.answered.code r.command.answered.number r.command.answered.tag ++ l)
      (follow (ends_session r.command.answered.code) _ _
      (λ z. let some : 2 ≤ r.command.used = fit.some z in lines_enough n (length input) r.command.answered.state input (at + r.command.used) r.cells r.tags (omega arith) (omega arith))))
    where
      r : Ran
      r = command_of s input at cells tags

      fit : Used input at r
      fit = command_used s input at cells tags (omega arith)

  pub lines_next : lines_from (length input) s input at cells tags ≡ next (command_of s input at cells tags)
  lines_next = go (length input) refl where
    go : (n : ℕ) → length input ≡ n → lines_from n s input at cells tags ≡ next (command_of s input at cells tags)
    go zero e = let z : ⊥ = omega arith in absurd z
    go (suc n) e = one_more n e

-- How far a session has come: what is written, and what is left to write.
pub record Going (input : List ℕ) (start : State) (cells₀ tags₀ out₀ : List ℕ) (begin : ℕ) (cells tags out : List ℕ) (state : State) (at end : ℕ) : Type 0 where
  pub formed : well_formed state ≡ true
  pub within : at ≤ length input
  pub room : end + 13 ≤ 13 * at
  pub written : List ℕ
  pub is : lines_from (length input) start input 3 cells₀ tags₀ ≡ written ++ lines_from (length input) state input at cells tags
  pub laid : Laid written begin out₀ end out

module _ (input : List ℕ) (start : State) (cells₀ tags₀ out₀ : List ℕ) (begin : ℕ) where
  pub going_none : well_formed start ≡ true → 3 ≤ length input → begin ≤ 26 → Going input start cells₀ tags₀ out₀ begin cells₀ tags₀ out₀ start 3 begin
  going_none w l b = record { formed = w; within = l; room = omega arith; written = []; is = refl; laid = laid_none begin out₀ }

  module _ (cells tags out : List ℕ) (state : State) (at end : ℕ) (g : Going input start cells₀ tags₀ out₀ begin cells tags out state at end) where
    pub going_all : length input ≤ at → Laid (lines_from (length input) start input 3 cells₀ tags₀) begin out₀ end out
    going_all h =
        subst (λ (l : List ℕ). Laid l begin out₀ end out)
        (sym (g.is ∙ ap (λ (l : List ℕ). g.written ++ l) (lines_past (length input) state input at cells tags h) ∙ append-nil g.written)) g.laid

    module _ (more : at < length input) (done : Commanded) (cells₁ tags₁ : List ℕ) (e : ran done cells₁ tags₁ ≡ command_of state input at cells tags)
        (end₁ : ℕ) (out₁ : List ℕ) (put : Laid (line_of done.answered.code done.answered.number done.answered.tag) end out end₁ out₁)
        (short : done.answered.code < 100 → end₁ ≤ end + 26) where
      abbrev line : List ℕ
      line = line_of done.answered.code done.answered.number done.answered.tag

      fit : Used input at (ran done cells₁ tags₁)
      fit = subst (Used input at) (sym e) (command_used state input at cells tags (omega arith))

      pub cells_kept : length cells₁ ≡ length cells
      cells_kept = subst (λ (r : Ran). length r.cells ≡ length cells) (sym e) (command_sized state input at cells tags).of_cells

      pub tags_kept : length tags₁ ≡ length tags
      tags_kept = subst (λ (r : Ran). length r.tags ≡ length tags) (sym e) (command_sized state input at cells tags).of_tags

      low : done.answered.code ≤ last_refusal
      low = subst (λ (r : Ran). r.command.answered.code ≤ last_refusal) (sym e) (command_at_most state input at cells tags)

      near : end₁ ≤ end + 26
      near = short (omega (arith, low))

      split : lines_from (length input) start input 3 cells₀ tags₀
          ≡ (g.written ++ line) ++ pick (ends_session done.answered.code) [] (lines_from (length input) done.answered.state input (at + done.used) cells₁ tags₁)
      split =
          g.is ∙ ap (λ (l : List ℕ). g.written ++ l) (lines_next state input at cells tags more ∙ ap (next state input at cells tags more) (sym e))
          ∙ sym (append_assoc g.written (line_of done.answered.code done.answered.number done.answered.tag) (pick (ends_session done.answered.code) [] (lines_from (length input) done.answered.state input (at + done.used) cells₁ tags₁)))

      laid : Laid (g.written ++ line) begin out₀ end₁ out₁
      laid = laid_both g.written line begin end end₁ out₀ out out₁ g.laid put

      pub stopped : ends_session done.answered.code ≡ true → Laid (lines_from (length input) start input 3 cells₀ tags₀) begin out₀ end₁ out₁
      stopped z =
          subst (λ (l : List ℕ). Laid l begin out₀ end₁ out₁)
          (sym (split ∙ ap (λ (b : Bool). (g.written ++ line) ++ pick b [] (lines_from (length input) done.answered.state input (at + done.used) cells₁ tags₁)) z ∙ append-nil (g.written ++ line)))
          laid

      pub bounded : end₁ ≤ 13 * length input
      bounded = omega (arith, near, g.room)

      pub used_within : at + done.used ≤ length input
      used_within = fit.within

      pub used_some : ends_session done.answered.code ≡ false → 2 ≤ done.used
      used_some z = fit.some z

      pub goes_on_lem : ends_session done.answered.code ≡ false → Going input start cells₀ tags₀ out₀ begin cells₁ tags₁ out₁ done.answered.state (at + done.used) end₁
      goes_on_lem z = record {
        formed = subst (λ (r : Ran). well_formed r.command.answered.state ≡ true) (sym e) (command_keeps state input at cells tags g.formed);
        within = fit.within;
        room = omega (arith, near, g.room, used_some z);
        written = g.written ++ line;
        is = split ∙ ap (λ (b : Bool). (g.written ++ line) ++ pick b [] (lines_from (length input) done.answered.state input (at + done.used) cells₁ tags₁)) z;
        laid = laid;
      }

-- The part of zeroed memory that is lent.
pub take_zeroed : (n m : ℕ) → n ≤ m → take {A = ℕ} n (replicate m 0) ≡ replicate n 0
take_zeroed zero m h = refl
take_zeroed (suc n) zero h = let z : ⊥ = omega arith in absurd z
take_zeroed (suc n) (suc m) h = ap (λ (l : List ℕ). 0 ∷ l) (take_zeroed n m (omega arith))

pub laid_zeroed :
    (f : ℕ) (input : List ℕ) (s : State) (begin : ℕ) (out : List ℕ) (end : ℕ) (out₁ l : List ℕ) → l ≡ zeroed f
    → Laid (lines_from (length input) s input 3 l l) begin out end out₁ → Laid (lines_from (length input) s input 3 (zeroed f) (zeroed f)) begin out end out₁
laid_zeroed f input s begin out end out₁ l e = subst (λ (x : List ℕ). Laid (lines_from (length input) s input 3 x x) begin out end out₁) e

-- The line of a start that is refused.
pub refused_short : length (line_of 1 0 false) ≡ 6
unfolding line_of decimal digits
refused_short = refl

-- An input too short for V and F.
pub read_short : (input out : List ℕ) (end : ℕ) (out₁ : List ℕ) → length input < 3 → Laid (line_of 1 0 false) 0 out end out₁
    → Laid (lines_read input) 0 out end out₁ × Spared end input
unfolding lines_read
read_short input out end out₁ h put = (
  subst (λ (l : List ℕ). Laid l 0 out end out₁) (sym (ap (λ (b : Bool). pick b (line_of 1 0 false) (lines_started input (256 * get_or input 0 0 + get_or input 1 0) (get_or input 2 0))) (lt-ltb (length input) 3 h))) put,
  λ room p q. omega (arith, put.ends, refused_short),
)

-- An input that names V and F: out of range, and in range with the lines of its commands after the start's.
module _ (input : List ℕ) (v f : ℕ) (ve : v ≡ 256 * get_or input 0 0 + get_or input 1 0) (fe : f ≡ get_or input 2 0) (long : 3 ≤ length input)
    (out : List ℕ) (end : ℕ) (out₁ : List ℕ) where
  rest : List ℕ
  rest = lines_from (length input) (fresh v f) input 3 (zeroed f) (zeroed f)

  read_is : (b : Bool) → in_range v f ≡ b → lines_read input ≡ line_of (pick b 0 1) 0 false ++ pick (ends_session (pick b 0 1)) [] rest
  unfolding lines_read start_of rest
  read_is b e = rw (le-ltb (length input) 3 long, ← ve, ← fe, e)

  pub read_out : in_range v f ≡ false → Laid (line_of 1 0 false) 0 out end out₁ → Laid (lines_read input) 0 out end out₁ × Spared end input
  read_out e put = (
    subst (λ (l : List ℕ). Laid l 0 out end out₁) (sym (read_is false e ∙ append-nil (line_of 1 0 false))) put,
    λ room p q. omega (arith, put.ends, refused_short),
  )

  pub read_in : in_range v f ≡ true → Laid (line_of 0 0 false) 0 out end out₁ → (end₂ : ℕ) (out₂ : List ℕ)
      → Laid (lines_from (length input) (fresh v f) input 3 (zeroed f) (zeroed f)) end out₁ end₂ out₂ → end₂ ≤ 13 * length input
      → Laid (lines_read input) 0 out end₂ out₂ × Spared end₂ input
  unfolding rest
  read_in e put end₂ out₂ next b = (
    subst (λ (l : List ℕ). Laid l 0 out end₂ out₂) (sym (read_is true e)) (laid_both (line_of 0 0 false) rest 0 end end₂ out out₁ out₂ put next),
    λ room p q. omega arith,
  )

-- The bytes that are looked at, counted first and then taken.
pub take_within : (k : ℕ) (l : List ℕ) → length (take k l) ≤ length l
take_within zero l = omega arith
take_within (suc k) [] = omega arith
take_within (suc k) (x ∷ l) = let h : length (take k l) ≤ length l = take_within k l in omega (arith, h)

take_counted : (k : ℕ) (l : List ℕ) → take (length (take k l)) l ≡ take k l
take_counted zero l = refl
take_counted (suc k) [] = refl
take_counted (suc k) (x ∷ l) = ap (λ (y : List ℕ). x ∷ y) (take_counted k l)

pub lines_counted : (input : List ℕ) (n : ℕ) → n ≡ length (take 32768 input) → {out : List ℕ} {end : ℕ} {out₁ : List ℕ}
    → Laid (lines_read (take n input)) 0 out end out₁ × Spared end (take n input) → Laid (lines_of input) 0 out end out₁ × Spared end (take 32768 input)
unfolding lines_of
lines_counted input n e {out} {end} {out₁} =
    subst (λ (l : List ℕ). Laid (lines_read l) 0 out end out₁ × Spared end l) (ap (λ (k : ℕ). take k input) e ∙ take_counted 32768 input)

-- The lines in a buffer that they fit, and in one that they do not.
pub print_fits : (lines out : List ℕ) (end : ℕ) (after : List ℕ) → Laid lines 0 out end after → end ≤ length out → printed end after ≡ print_of lines out
unfolding print_of
print_fits lines out end after p h =
    let w : length lines ≤ length out = omega (arith, p.ends) in
    let zero_is : 0 + length lines ≡ length lines = omega arith in
    ap (λ (n : ℕ). printed n after) (p.ends ∙ zero_is)
    ∙ ap (λ (l : List ℕ). printed (length lines) l) (p.fits (omega arith) ∙ ap (λ (n : ℕ). lines ++ drop n out) zero_is)
    ∙ sym (ap (λ (b : Bool). pick b (printed (length lines) (lines ++ drop (length lines) out)) (printed 0 out)) (le-leb (length lines) (length out) w))

pub print_not : (lines out : List ℕ) (end : ℕ) → end ≡ 0 + length lines → length out < end → printed 0 out ≡ print_of lines out
unfolding print_of
print_not lines out end e h =
    sym (ap (λ (b : Bool). pick b (printed (length lines) (lines ++ drop (length lines) out)) (printed 0 out)) (lt-leb (length lines) (length out) (omega arith)))

-- What is printed lies within the buffer.
pub printed_within : (lines out : List ℕ) (n : ℕ) (after : List ℕ) → printed n after ≡ print_of lines out → n ≤ length after
unfolding print_of
printed_within lines out n after e =
    subst (λ (p : Printed). p.count ≤ length p.buffer) (sym e)
    (pick_by (λ (p : Printed). p.count ≤ length p.buffer) (leb (length lines) (length out))
    (printed (length lines) (lines ++ drop (length lines) out)) (printed 0 out)
    (λ h. simp length-append (omega arith)) (λ h. omega arith))
