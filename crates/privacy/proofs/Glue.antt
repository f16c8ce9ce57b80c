-- The claim for two lists from the claim for each call: induction on the first list, and within it on the second. Assumes nothing.
use Prim.Native.Nat.{ℕ}
use native.Mathlib.Omega.{arith}
use mathlib.Core.Bool.{Bool, true, false, not, false≢true}
use mathlib.Core.List.{List, [], ◌∷◌}
use mathlib.Core.Path.{◌≡◌, refl, sym, ap, subst, ◌∙◌}
use borrow.Author.Tests.{not-true}
use Rattle.capabilities.specs.declared.Range.{Range}
use Rattle.capabilities.specs.Lists.{pick}
use Rattle.capabilities.proofs.Choice.{pick_yes, pick_no, and_left, and_right}
use Rattle.calls.specs.declared.Call.{Call}
use Rattle.machine.specs.State.{State}
use Rattle.machine.specs.Roles.{Role, takes, collects, fills, stores, grants, receives, plain, role_of, caller_of}
use Rattle.histories.specs.Runs.{Machine, outcome, next, run}
use Rattle.privacy.specs.Rule.{collecting, strikes, housed, private, Time, lasting, over, ending, until, time_after, struck, Left, remaining, left, indiscreet, discreet, told, heard}

-- A struck call is the house's, and no collect, so that the time goes on.
pub struck_housed : (house : ℕ) (t : Time) (m : Machine) (c : Call) → struck house t m c ≡ true → housed house c ≡ true
unfolding struck
struck_housed house (lasting r) m c e = and_left (housed house c) (private r m.state c) e
struck_housed house over m c e = absurd (false≢true e)

strikes_going : (r : Range) (s : State) (p : ℕ) (role : Role) → strikes r s p role ≡ true → collecting role ≡ false
strikes_going r s p (takes base reg permissions) e = refl
strikes_going r s p collects e = absurd (false≢true e)
strikes_going r s p (fills from d) e = refl
strikes_going r s p (stores a off x) e = refl
strikes_going r s p (grants x to) e = refl
strikes_going r s p (receives d) e = refl
strikes_going r s p plain e = refl

pub struck_going : (house : ℕ) (t : Time) (m : Machine) (c : Call) → struck house t m c ≡ true → until t m c ≡ t
unfolding struck until ending
struck_going house (lasting r) m c e = rw (strikes_going r m.state (caller_of c) (role_of c).role (and_right (housed house c) (private r m.state c) e))
struck_going house over m c e = absurd (false≢true e)

-- What two lists come to, that began with equal times.
pub record Same (house : ℕ) (Rel : Time → Machine → Machine → Type 0) (t : Time) (g h : Machine) (k l : List Call) : Type 0 where
  pub answers : heard house g k ≡ heard house h l
  pub ended : time_after t g k ≡ time_after t h l
  pub related : Rel (time_after t g k) (run g k) (run h l)

-- A call that is left in both lists.
pub record Both (house : ℕ) (Rel : Time → Machine → Machine → Type 0) (t : Time) (g h : Machine) (c : Call) : Type 0 where
  pub times : until t g c ≡ until t h c
  pub related : Rel (until t g c) (next g c) (next h c)
  pub answer : housed house c ≡ false → told (outcome g c).answer ≡ told (outcome h c).answer

module _ (house : ℕ) (Ok : Time → Machine → Type 0) (Rel : Time → Machine → Machine → Type 0)
    (keeps : (t : Time) (m : Machine) (c : Call) → Ok t m → indiscreet house t m c ≡ false → Ok (until t m c) (next m c))
    (turned : (t : Time) (g h : Machine) → Rel t g h → Rel t h g)
    (alone : (t : Time) (g h : Machine) (c : Call) → Ok t g → Rel t g h → struck house t g c ≡ true → Rel t (next g c) h)
    (both : (t : Time) (g h : Machine) (c : Call) → Ok t g → Ok t h → Rel t g h → struck house t g c ≡ false → remaining house g c ≡ remaining house h c → Both house Rel t g h c) where
  -- One call of the first list alone, struck.
  first_alone : (t : Time) (g h : Machine) (c : Call) (k l : List Call) → struck house t g c ≡ true → Same house Rel t (next g c) h k l → Same house Rel t g h (c ∷ k) l
  unfolding heard time_after run
  first_alone t g h c k l s r =
      let e = struck_going house t g c s in
      let u = ap (λ x. time_after x (next g c) k) e in
      record {
        answers = pick_yes (housed house c) (heard house (next g c) k) (told (outcome g c).answer ∷ heard house (next g c) k) (struck_housed house t g c s) ∙ r.answers;
        ended = u ∙ r.ended;
        related = subst (λ x. Rel x (run (next g c) k) (run h l)) (sym u) r.related;
      }

  second_alone : (t : Time) (g h : Machine) (c : Call) (k l : List Call) → struck house t h c ≡ true → Same house Rel t g (next h c) k l → Same house Rel t g h k (c ∷ l)
  unfolding heard time_after run
  second_alone t g h c k l s r =
      record {
        answers = r.answers ∙ sym (pick_yes (housed house c) (heard house (next h c) l) (told (outcome h c).answer ∷ heard house (next h c) l) (struck_housed house t h c s));
        ended = r.ended ∙ ap (λ x. time_after x (next h c) l) (sym (struck_going house t h c s));
        related = r.related;
      }

  step_both : (t : Time) (g h : Machine) (c : Call) (k l : List Call) → Both house Rel t g h c → Same house Rel (until t g c) (next g c) (next h c) k l → Same house Rel t g h (c ∷ k) (c ∷ l)
  unfolding heard time_after run
  step_both t g h c k l b r =
      record {
        answers = go (housed house c) refl;
        ended = r.ended ∙ ap (λ x. time_after x (next h c) l) b.times;
        related = r.related;
      }
    where
      go : (x : Bool) → housed house c ≡ x → pick x (heard house (next g c) k) (told (outcome g c).answer ∷ heard house (next g c) k) ≡ pick x (heard house (next h c) l) (told (outcome h c).answer ∷ heard house (next h c) l)
      go true e = r.answers
      go false e = ap (λ a. a ∷ heard house (next g c) k) (b.answer e) ∙ ap (λ x. told (outcome h c).answer ∷ x) r.answers

  -- The first call is discreet, and so are the rest.
  discreet_first : (t : Time) (m : Machine) (c : Call) (l : List Call) → discreet house t m (c ∷ l) ≡ true → indiscreet house t m c ≡ false
  unfolding discreet
  discreet_first t m c l e = not-true (indiscreet house t m c) (and_left (not (indiscreet house t m c)) (discreet house (until t m c) (next m c) l) e)

  discreet_rest : (t : Time) (m : Machine) (c : Call) (l : List Call) → discreet house t m (c ∷ l) ≡ true → discreet house (until t m c) (next m c) l ≡ true
  unfolding discreet
  discreet_rest t m c l e = and_right (not (indiscreet house t m c)) (discreet house (until t m c) (next m c) l) e

  left_struck : (t : Time) (m : Machine) (c : Call) (l : List Call) → struck house t m c ≡ true → left house t m (c ∷ l) ≡ left house (until t m c) (next m c) l
  unfolding left
  left_struck t m c l e = pick_yes (struck house t m c) (left house (until t m c) (next m c) l) (remaining house m c ∷ left house (until t m c) (next m c) l) e

  left_kept : (t : Time) (m : Machine) (c : Call) (l : List Call) → struck house t m c ≡ false → left house t m (c ∷ l) ≡ remaining house m c ∷ left house (until t m c) (next m c) l
  unfolding left
  left_kept t m c l e = pick_no (struck house t m c) (left house (until t m c) (next m c) l) (remaining house m c ∷ left house (until t m c) (next m c) l) e

  none_left : (t : Time) (m : Machine) → left house t m [] ≡ []
  unfolding left
  none_left t m = refl

  -- What is asked of two lists.
  abbrev Joined : List Call → List Call → Type 0
  Joined k l =
      (t : Time) (g h : Machine) → Ok t g → Ok t h → Rel t g h → left house t g k ≡ left house t h l
      → discreet house t g k ≡ true → discreet house t h l ≡ true → Same house Rel t g h k l

  done : (t : Time) (g h : Machine) → Rel t g h → Same house Rel t g h [] []
  unfolding heard time_after run
  done t g h r = record { answers = refl; ended = refl; related = r }

  -- A struck call of the second list.
  skip : (k l : List Call) (d : Call) → Joined k l → (t : Time) (g h : Machine) → Ok t g → Ok t h → Rel t g h → left house t g k ≡ left house t h (d ∷ l)
      → discreet house t g k ≡ true → discreet house t h (d ∷ l) ≡ true → struck house t h d ≡ true → Same house Rel t g h k (d ∷ l)
  skip k l d more t g h a b r e p q s =
      let u = struck_going house t h d s in
      second_alone t g h d k l s
      (more t g (next h d) a (subst (λ x. Ok x (next h d)) u (keeps t h d b (discreet_first t h d l q)))
      (turned t (next h d) g (alone t h g d b (turned t g h r) s))
      (e ∙ left_struck t h d l s ∙ ap (λ x. left house x (next h d) l) u) p (ap (λ x. discreet house x (next h d) l) (sym u) ∙ discreet_rest t h d l q))

  from_nothing : (l : List Call) → Joined [] l
  from_nothing [] t g h a b r e p q = done t g h r
  from_nothing (d ∷ l) t g h a b r e p q = go (struck house t h d) refl (from_nothing l)
    where
      go : (x : Bool) → struck house t h d ≡ x → Joined [] l → Same house Rel t g h [] (d ∷ l)
      go true s more = skip [] l d more t g h a b r e p q s
      go false s more =
          let z : [] ≡ remaining house h d ∷ left house (until t h d) (next h d) l = sym (none_left t g) ∙ e ∙ left_kept t h d l s in
          absurd (let y : ◌≡◌ {A = ℕ} 0 1 = cc in omega arith)

  head_same : (x y : Left) (k l : List Left) → x ∷ k ≡ y ∷ l → x ≡ y
  head_same x y k l e = cc

  tail_same : (x y : Left) (k l : List Left) → x ∷ k ≡ y ∷ l → k ≡ l
  tail_same x y k l e = cc

  call_same : (g h : Machine) (c d : Call) → remaining house g c ≡ remaining house h d → d ≡ c
  unfolding remaining
  call_same g h c d e = sym (ap (λ x. x.call) e)

  -- The same call is left in both.
  match : (k l : List Call) (c : Call) → Joined k l → (t : Time) (g h : Machine) → Ok t g → Ok t h → Rel t g h
      → struck house t g c ≡ false → remaining house g c ≡ remaining house h c → left house (until t g c) (next g c) k ≡ left house (until t h c) (next h c) l
      → discreet house t g (c ∷ k) ≡ true → discreet house t h (c ∷ l) ≡ true → Same house Rel t g h (c ∷ k) (c ∷ l)
  match k l c more t g h a b r s e f p q =
      let w = both t g h c a b r s e in
      step_both t g h c k l w
      (more (until t g c) (next g c) (next h c) (keeps t g c a (discreet_first t g c k p))
      (subst (λ x. Ok x (next h c)) (sym w.times) (keeps t h c b (discreet_first t h c l q))) w.related
      (f ∙ ap (λ x. left house x (next h c) l) (sym w.times))
      (discreet_rest t g c k p) (ap (λ x. discreet house x (next h c) l) w.times ∙ discreet_rest t h c l q))

  -- A call of the first list that is left: the second list comes to it.
  catch : (k : List Call) (c : Call) → ((l : List Call) → Joined k l) → (l : List Call) (t : Time) (g h : Machine) → Ok t g → Ok t h → Rel t g h
      → struck house t g c ≡ false → left house t g (c ∷ k) ≡ left house t h l → discreet house t g (c ∷ k) ≡ true → discreet house t h l ≡ true
      → Same house Rel t g h (c ∷ k) l
  catch k c more [] t g h a b r s e p q =
      let z : remaining house g c ∷ left house (until t g c) (next g c) k ≡ [] = sym (left_kept t g c k s) ∙ e ∙ none_left t h in
      absurd (let y : ◌≡◌ {A = ℕ} 0 1 = cc in omega arith)
  catch k c more (d ∷ l) t g h a b r s e p q = go (struck house t h d) refl (catch k c more l)
    where
      go : (x : Bool) → struck house t h d ≡ x
          → ((t : Time) (g h : Machine) → Ok t g → Ok t h → Rel t g h
          → struck house t g c ≡ false → left house t g (c ∷ k) ≡ left house t h l → discreet house t g (c ∷ k) ≡ true → discreet house t h l ≡ true
          → Same house Rel t g h (c ∷ k) l)
          → Same house Rel t g h (c ∷ k) (d ∷ l)
      go true x again =
          let u = struck_going house t h d x in
          second_alone t g h d (c ∷ k) l x
          (again t g (next h d) a (subst (λ y. Ok y (next h d)) u (keeps t h d b (discreet_first t h d l q)))
          (turned t (next h d) g (alone t h g d b (turned t g h r) x)) s
          (e ∙ left_struck t h d l x ∙ ap (λ y. left house y (next h d) l) u) p (ap (λ y. discreet house y (next h d) l) (sym u) ∙ discreet_rest t h d l q))
      go false x again =
          let z : remaining house g c ∷ left house (until t g c) (next g c) k ≡ remaining house h d ∷ left house (until t h d) (next h d) l = sym (left_kept t g c k s) ∙ e ∙ left_kept t h d l x in
          let f = head_same (remaining house g c) (remaining house h d) (left house (until t g c) (next g c) k) (left house (until t h d) (next h d) l) z in
          let n = call_same g h c d f in
          subst (λ y. Same house Rel t g h (c ∷ k) (y ∷ l)) (sym n)
          (match k l c (more l) t g h a b r s (f ∙ ap (remaining house h) n)
          (tail_same (remaining house g c) (remaining house h d) (left house (until t g c) (next g c) k) (left house (until t h d) (next h d) l) z ∙ ap (λ y. left house (until t h y) (next h y) l) n)
          p (ap (λ y. discreet house t h (y ∷ l)) (sym n) ∙ q))

  pub glue : (k l : List Call) → Joined k l
  glue [] l t g h a b r e p q = from_nothing l t g h a b r e p q
  glue (c ∷ k) l t g h a b r e p q = go (struck house t g c) refl (glue k)
    where
      go : (x : Bool) → struck house t g c ≡ x → ((l : List Call) → Joined k l) → Same house Rel t g h (c ∷ k) l
      go true s more =
          let u = struck_going house t g c s in
          first_alone t g h c k l s
          (more l t (next g c) h (subst (λ y. Ok y (next g c)) u (keeps t g c a (discreet_first t g c k p))) b (alone t g h c a r s)
          (ap (λ y. left house y (next g c) k) (sym u) ∙ sym (left_struck t g c k s) ∙ e) (ap (λ y. discreet house y (next g c) k) (sym u) ∙ discreet_rest t g c k p) q)
      go false s more = catch k c more l t g h a b r s e p q
