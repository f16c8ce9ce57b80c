-- One call, in one history and in two. Assumes nothing.
use Rattle.std.specs.Prelude.{Some}
use Prim.Native.Nat.{ℕ, ◌+◌, ◌*◌, ◌<◌}
use native.Mathlib.Omega.{arith}
use mathlib.Core.Bool.{Bool, true, false, ◌&&◌, true≢false, false≢true}
use mathlib.Core.List.{List}
use mathlib.Core.Path.{◌≡◌, refl, sym, ap, subst, ◌∙◌}
use borrow.Author.Tests.{eqb-true, eqb-false, eq-eqb, ne_eqb}
use lib.Dec.{eqb}
use lib.ListN.{length, set, length-set}
use Rattle.capabilities.specs.declared.Range.{Range}
use Rattle.capabilities.specs.Lists.{pick}
use Rattle.capabilities.specs.Range.{inside}
use Rattle.capabilities.proofs.Choice.{and_left, and_right}
use Rattle.pages.specs.Mapping.{lookup_of}
use Rattle.pages.proofs.Formed.{Sound, sound}
use Rattle.pages.proofs.Memory.{served}
use Rattle.table.proofs.Truth.{both}
use Rattle.reservations.specs.Revocation.{revoked, core_sound}
use Rattle.reservations.proofs.CoreKept.{core_facts}
use Rattle.calls.specs.declared.Call.{Call}
use Rattle.words.specs.declared.Slot.{Slot}
use Rattle.words.specs.Words.{register_of, word_at, byte_of, stored}
use Rattle.machine.specs.State.{State}
use Rattle.machine.specs.Roles.{Asked}
use Rattle.machine.specs.Effects.{Effect}
use Rattle.machine.specs.Step.{effect_on, registers_after, mailboxes_after, written_cells, written_tags, cells_after, tags_after}
use Rattle.machine.proofs.Deeds.{aimed_at, Deed, took, recored, swept, collected_all, zeroed, filled, wrote, mailed, received, deed}
use Rattle.machine.proofs.Found.{Addressing}
use Rattle.histories.specs.Inv.{Inv}
use Rattle.histories.specs.Runs.{Machine, machine, outcome, next, granted}
use Rattle.histories.proofs.Always.{inv_step}
use Rattle.histories.proofs.Showing.{came}
use Rattle.histories.proofs.View.{written_other}
use Rattle.privacy.specs.Rule.{housed, is_collect, contains, Time, lasting, over, ending, until, aimed, strikes, private, struck, indiscreet, hidden}
use Rattle.privacy.proofs.Fate.{code_of, Granted, Fate, down, up, fate, after, next_done, next_down, code_is}
use Rattle.privacy.proofs.House.{Housed, effect_housed}
use Rattle.privacy.proofs.Relate.{Rel}
use Rattle.privacy.proofs.Sides.{fits_deed, register_safe, quiet, mailbox_safe, memory_safe, aimed_inside, store_once}
use Rattle.privacy.proofs.Tables.{around_after}
use Rattle.privacy.proofs.Words.{put_own}
use Rattle.machine.proofs.Keeps.{facts}

-- What a granted call found.
module _ (m : Machine) (c : Call) (k : Granted m c) where
  pub granted_core : core_sound m.state.core ≡ true
  granted_core = (facts m.state k.formed).core

  pub granted_layer : Sound m.state.core.pages
  granted_layer = sound m.state.core.pages (core_facts m.state.core granted_core).layer

  pub granted_cells : length m.cells ≡ 16 * m.state.core.pages.f
  granted_cells = (served m.state.core.pages (length m.cells) (length m.tags) k.served).0

  pub granted_tags : length m.tags ≡ 16 * m.state.core.pages.f
  granted_tags = (served m.state.core.pages (length m.cells) (length m.tags) k.served).1

  pub granted_next : next m c ≡ after m (effect_on m.state c m.cells m.tags)
  granted_next = next_done m c (effect_on m.state c m.cells m.tags) k.comes

pub granted_test : (m : Machine) (c : Call) → code_of m c ≡ 0 → granted m c ≡ true
granted_test m c z = eq-eqb (outcome m c).answer.code 0 (code_is m c ∙ z)

pub refused_test : (m : Machine) (c : Call) (k : ℕ) → (k ≡ 0 → ⊥) → code_of m c ≡ k → granted m c ≡ false
refused_test m c k n e = ne_eqb (outcome m c).answer.code 0 (λ z. n (sym e ∙ sym (code_is m c) ∙ z))

-- One history in the house's time.
pub record Ok (house : ℕ) (t : Time) (m : Machine) : Type 0 where
  pub inv : Inv m
  pub own : (r : Range) → t ≡ lasting r → Housed house r m

module _ (house : ℕ) (r : Range) (m : Machine) (i : Inv m) (h : Housed house r m) (c : Call) (q : indiscreet house (lasting r) m c ≡ false) (n : ending r m c ≡ false) where
  going : granted m c ≡ true → is_collect c ≡ true → contains (revoked m.state.core) r ≡ false
  unfolding ending
  going g e = go (contains (revoked m.state.core) r) refl
    where
      go : (b : Bool) → contains (revoked m.state.core) r ≡ b → contains (revoked m.state.core) r ≡ false
      go true x = absurd (true≢false (sym (both (is_collect c && granted m c) (contains (revoked m.state.core) r) (both (is_collect c) (granted m c) e g) x) ∙ n))
      go false x = x

  pub housed_next : Housed house r (next m c)
  housed_next = go (fate m c)
    where
      go : Fate m c → Housed house r (next m c)
      go (down k y e x) = subst (λ x. Housed house r x) (sym (next_down m c k x)) h
      go (up e k) =
          let ok = granted_core m c k in
          let g = granted_test m c e in
          let d = deed m.state c m.cells m.tags k.clear in
          let still = quiet house r m h c q g in
          subst (λ x. Housed house r x) (sym (granted_next m c k))
          (effect_housed house r m (effect_on m.state c m.cells m.tags) h (granted_layer m c k) (granted_cells m c k) (granted_tags m c k) (fits_deed m.state d) i.memory.free
          (came m.state ok d) (around_after m.state ok d r h.some h.around (going g)) (register_safe house r m h ok d) (mailbox_safe house r m h d still)
          (memory_safe house r m h (granted_layer m c k) d still))

-- Every call keeps it.
pub keeps : (house : ℕ) (t : Time) (m : Machine) (c : Call) → Ok house t m → indiscreet house t m c ≡ false → Ok house (until t m c) (next m c)
unfolding until
keeps house (lasting q) m c ok d = record { inv = inv_step m c ok.inv; own = λ r e. go r (ending q m c) refl e }
  where
    go : (r : Range) (b : Bool) → ending q m c ≡ b → pick b over (lasting q) ≡ lasting r → Housed house r (next m c)
    go r true x e = absurd (let z : ◌≡◌ {A = ℕ} 0 1 = cc in omega arith)
    go r false x e =
        let s : q ≡ r = cc in
        subst (λ y. Housed house y (next m c)) s (housed_next house q m ok.inv (ok.own q refl) c d x)
keeps house over m c ok d = record { inv = inv_step m c ok.inv; own = λ r e. absurd (let z : ◌≡◌ {A = ℕ} 0 1 = cc in omega arith) }

-- A change of the house's own register, and one of a hidden cell, in one history alone.
own_register : (house : ℕ) (t : Time) (g h : Machine) (p d : ℕ) (w : Slot) → Rel house t g h → p ≡ house → d < 8
    → Rel house t (machine (record { core = g.state.core; registers = set g.state.registers (8 * p + d) w; mailboxes = g.state.mailboxes }) g.cells g.tags) h
own_register house t g h p d w r e b =
    record {
      core = r.core;
      mail = r.mail;
      others = λ q x n. put_own g.state.registers p d w b q x (λ z. n (z ∙ e)) ∙ r.others q x n;
      long = length-set g.state.registers (8 * p + d) w ∙ r.long;
      of_cells = r.of_cells;
      of_tags = r.of_tags;
      words = r.words;
    }

own_write : (house : ℕ) (t : Time) (g h : Machine) (at : ℕ) (w : Slot) → Rel house t g h → ((v : ℕ) → lookup_of g.state.core.pages v ≡ Some at → hidden t v ≡ true)
    → Rel house t (machine g.state (set g.cells at w.cell) (set g.tags at (byte_of w.tag))) h
own_write house t g h at w r hid =
    record {
      core = r.core;
      mail = r.mail;
      others = r.others;
      long = r.long;
      of_cells = length-set g.cells at w.cell ∙ r.of_cells;
      of_tags = length-set g.tags at (byte_of w.tag) ∙ r.of_tags;
      words = λ v i q n. go v i q n (eqb i at) refl;
    }
  where
    go : (v i : ℕ) → lookup_of g.state.core.pages v ≡ Some i → hidden t v ≡ false → (b : Bool) → eqb i at ≡ b → word_at (set g.cells at w.cell) (set g.tags at (byte_of w.tag)) i ≡ word_at h.cells h.tags i
    go v i q n true e = absurd (true≢false (sym (hid v (q ∙ ap Some (eqb-true i at e))) ∙ n))
    go v i q n false e = written_other g.cells g.tags at w i (eqb-false i at e) ∙ r.words v i q n

module _ (house : ℕ) (r : Range) (g h : Machine) (own : Housed house r g) (rel : Rel house (lasting r) g h) (ok : Sound g.state.core.pages) where
  abbrev s : State
  s = g.state

  store_alone : (p a off x : ℕ) → p ≡ house → aimed r s p a off ≡ true → Addressing s.core (register_of s.registers p a) off
      → (v : ℕ) → lookup_of s.core.pages v ≡ Some (aimed_at s p a off) → hidden (lasting r) v ≡ true
  unfolding hidden
  store_alone p a off x e aim k v l = ap (inside r) (store_once house r g own ok p a off x k v l) ∙ aimed_inside house r g own p a off e aim k

  -- What a struck call does.
  alone_up : {cells tags : List ℕ} {a : Asked} {e : Effect} → Deed s cells tags a e → eqb a.caller house ≡ true → strikes r s a.caller a.role ≡ true → Rel house (lasting r) (after g e) h
  unfolding after registers_after mailboxes_after written_cells written_tags cells_after tags_after
  alone_up (took p base reg permissions low-p low-reg few z) e f = absurd (false≢true f)
  alone_up (recored p k x) e f = absurd (false≢true f)
  alone_up (swept p n runs) e f = absurd (false≢true f)
  alone_up (collected_all p z) e f = absurd (false≢true f)
  alone_up (zeroed p frame z) e f = absurd (false≢true f)
  alone_up (filled p d from w answer low k) e f = own_register house (lasting r) g h p d w rel (eqb-true p house e) low
  alone_up (wrote p a off x low-p low-a k) e f =
      own_write house (lasting r) g h (aimed_at s p a off) (stored s.core (register_of s.registers p x)) rel (store_alone p a off x (eqb-true p house e) f k)
  alone_up (mailed p x to t) e f = absurd (false≢true f)
  alone_up (received p d low) e f = absurd (false≢true f)

-- Alone: a struck call in one history keeps the relation.
pub alone : (house : ℕ) (t : Time) (g h : Machine) (c : Call) → Ok house t g → Rel house t g h → struck house t g c ≡ true → Rel house t (next g c) h
alone house t g h c ok rel e = go t ok.own rel e (fate g c)
  where
    parts : (r : Range) → struck house (lasting r) g c ≡ true → housed house c && private r g.state c ≡ true
    parts r e = unfold struck in e

    never : struck house over g c ≡ true → ⊥
    never e = false≢true (unfold struck in e)

    go : (t : Time) → ((r : Range) → t ≡ lasting r → Housed house r g) → Rel house t g h → struck house t g c ≡ true → Fate g c → Rel house t (next g c) h
    go t own rel e (down k n z x) = subst (λ y. Rel house t y h) (sym (next_down g c k x)) rel
    go (lasting r) own rel e (up z k) =
        let f = parts r e in
        subst (λ y. Rel house (lasting r) y h) (sym (granted_next g c k))
        (alone_up house r g h (own r refl) rel (granted_layer g c k) (deed g.state c g.cells g.tags k.clear) (and_left (housed house c) (private r g.state c) f) (and_right (housed house c) (private r g.state c) f))
    go over own rel e (up z k) = absurd (never e)
