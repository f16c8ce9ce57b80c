-- What each granted call writes in the house's time is safe: the house's discretion, and what the others cannot reach. Assumes nothing.
use Rattle.std.specs.Prelude.{Some}
use Prim.Native.Nat.{ℕ, ◌+◌, ◌*◌, ◌<◌}
use native.Mathlib.Omega.{arith}
use mathlib.Core.Bool.{Bool, true, false, not, ◌&&◌, ◌||◌, true≢false, false≢true}
use mathlib.Core.List.{List}
use mathlib.Core.Path.{◌≡◌, refl, sym, ap, subst, ◌∙◌}
use borrow.Author.Tests.{eqb-true, eqb-false, eq-eqb, ne_eqb, lt-ltb}
use lib.Dec.{eqb}
use Rattle.capabilities.specs.declared.Range.{Range}
use Rattle.capabilities.specs.Capability.{base_of, length_of, narrowed}
use Rattle.capabilities.specs.Range.{inside}
use Rattle.capabilities.proofs.Capabilities.{narrowed_base, narrowed_length}
use Rattle.capabilities.proofs.Choice.{and_right}
use Rattle.pages.specs.Mapping.{lookup_of}
use Rattle.pages.proofs.Formed.{Sound}
use Rattle.table.proofs.Cells.{inside_made}
use Rattle.table.proofs.Truth.{both, and_yes, or_right}
use Rattle.reservations.specs.Revocation.{dying, core_sound}
use Rattle.calls.specs.declared.Call.{Call}
use Rattle.words.specs.declared.Slot.{Slot}
use Rattle.words.specs.Words.{slot, named, register_of, mailbox_of, word_at, stored}
use Rattle.machine.specs.State.{State}
use Rattle.machine.specs.Roles.{Sources, stores, grants, Asked, asked, role_of}
use Rattle.machine.specs.Effects.{Effect}
use Rattle.machine.proofs.Deeds.{Filling, loads, narrows, numbers, aimed_at, Deed, took, recored, swept, collected_all, zeroed, filled, wrote, mailed, received}
use Rattle.machine.proofs.Found.{Addressing, Narrowing}
use Rattle.machine.proofs.PagesKept.{zero_clear}
use Rattle.histories.specs.Runs.{Machine, granted}
use Rattle.histories.specs.Live.{Within}
use Rattle.histories.proofs.Findings.{less_of}
use Rattle.histories.proofs.View.{seen, seen_once}
use Rattle.privacy.specs.Rule.{housed, lasting, into, capability_into, aimed, strikes, private, struck, hands_out, betrays, indiscreet}
use Rattle.privacy.proofs.House.{into_by, Meets, meets, met, Apart, Tame, Good, apart_good, empty_apart, keep_good, Housed, RegisterSafe, MailboxSafe, MemorySafe}
use Rattle.privacy.proofs.Tables.{takes, taken_apart}
use Rattle.privacy.proofs.Words.{Fits}

-- 0A: the frame lies in memory.
pub fits_deed : (s : State) {cells tags : List ℕ} {a : Asked} {e : Effect} → Deed s cells tags a e → Fits e.memory (16 * s.core.pages.f)
fits_deed s (took p base reg permissions low-p low-reg few z) = tt
fits_deed s (recored p k r) = tt
fits_deed s (swept p n runs) = tt
fits_deed s (collected_all p z) = tt
fits_deed s (zeroed p frame z) = let (low, dirty) = zero_clear s.core.pages frame z in omega arith
fits_deed s (filled p d from w answer low g) = tt
fits_deed s (wrote p a off x low-p low-a g) = tt
fits_deed s (mailed p x to t) = tt
fits_deed s (received p d low) = tt

-- No capability into the range, by the test.
pub test_apart : (r : Range) (w : Slot) → capability_into r w ≡ false → Apart r w
test_apart r w e t = go (into r w.cell) refl
  where
    go : (b : Bool) → into r w.cell ≡ b → into r w.cell ≡ false
    go true x = absurd (true≢false (sym (both w.tag (into r w.cell) t x) ∙ e))
    go false x = x

module _ (house : ℕ) (r : Range) (m : Machine) (h : Housed house r m) where
  abbrev s : State
  s = m.state

  -- Another party's word is no capability into the range.
  other_apart : (p d : ℕ) → (p ≡ house → ⊥) → Apart r (register_of s.registers p d)
  other_apart p d n = subst (λ b. Good r b (register_of s.registers p d)) (ne_eqb p house n) (h.registers p d)

  own_tame : (p d : ℕ) → p ≡ house → Tame r (register_of s.registers p d)
  own_tame p d n = subst (λ b. Good r b (register_of s.registers p d)) (eq-eqb p house n) (h.registers p d)

  -- The cell that another party reaches lies outside.
  pub outside : (p a off : ℕ) → (p ≡ house → ⊥) → Addressing s.core (register_of s.registers p a) off → inside r (base_of (register_of s.registers p a).cell + off) ≡ false
  outside p a off n k = go (inside r (base_of (register_of s.registers p a).cell + off)) refl
    where
      go : (b : Bool) → inside r (base_of (register_of s.registers p a).cell + off) ≡ b → inside r (base_of (register_of s.registers p a).cell + off) ≡ false
      go true e = absurd (true≢false (sym (into_by r (register_of s.registers p a).cell (base_of (register_of s.registers p a).cell + off) (omega arith) (omega (arith, k.short)) e) ∙ other_apart p a n k.tagged))
      go false e = e

  good_tame : (b : Bool) (w : Slot) → Good r b w → Tame r w
  good_tame true w g = g
  good_tame false w g = apart_good r true w g

  load_good : (p a off : ℕ) → Addressing s.core (register_of s.registers p a) off → (b : Bool) → eqb p house ≡ b
      → Good r b (word_at m.cells m.tags (aimed_at s p a off))
  load_good p a off k true e = good_tame (inside r (base_of (register_of s.registers p a).cell + off)) _ (h.words (base_of (register_of s.registers p a).cell + off) (aimed_at s p a off) k.place)
  load_good p a off k false e =
      subst (λ b. Good r b (word_at m.cells m.tags (aimed_at s p a off))) (outside p a off (eqb-false p house e) k)
      (h.words (base_of (register_of s.registers p a).cell + off) (aimed_at s p a off) k.place)

  -- A narrowed capability is into the range only if its source is, and lies within the source.
  narrow_good : (b : Bool) (w : Slot) (off len mask : ℕ) → Narrowing w off len → Good r b w → Good r b (slot (narrowed w.cell off len mask) true)
  narrow_good b w off len mask k g = go b g
    where
      short : len < 65536
      short = omega (arith, k.ends, less_of w.cell)

      at : base_of (narrowed w.cell off len mask) ≡ base_of w.cell + off
      at = narrowed_base w.cell off len mask short (omega (arith, k.starts))

      long : length_of (narrowed w.cell off len mask) ≡ len
      long = narrowed_length w.cell off len mask short

      source : into r (narrowed w.cell off len mask) ≡ true → into r w.cell ≡ true
      source e = let j : Meets r (narrowed w.cell off len mask) = meets r (narrowed w.cell off len mask) e in met r w.cell (record { some = omega (arith, k.some, k.ends); wide = j.wide; before = omega (arith, j.before, at); past = omega (arith, j.past, at, long, k.ends) })

      go : (b : Bool) → Good r b w → Good r b (slot (narrowed w.cell off len mask) true)
      go true g = λ t e. let j : Within r w.cell = g k.tagged (source e) in record { from = omega (arith, at, j.from); upto = omega (arith, at, long, j.upto, k.ends) }
      go false g = λ t. none (into r (narrowed w.cell off len mask)) refl
        where
          none : (x : Bool) → into r (narrowed w.cell off len mask) ≡ x → into r (narrowed w.cell off len mask) ≡ false
          none true e = absurd (true≢false (sym (source e) ∙ g k.tagged))
          none false e = e

  filling_good : (p : ℕ) {from : Sources} {w answer : Slot} → Filling s m.cells m.tags p from w answer → Good r (eqb p house) w
  filling_good p (loads a off g) = keep_good r (eqb p house) (word_at m.cells m.tags (aimed_at s p a off)) _ (load_good p a off g (eqb p house) refl)
  filling_good p (narrows x off len mask g) = narrow_good (eqb p house) (register_of s.registers p x) off len mask g (h.registers p x)
  filling_good p (numbers value) = apart_good r (eqb p house) (slot value false) (λ e. absurd (false≢true e))

  -- What is put into registers.
  pub register_safe : core_sound s.core ≡ true → {a : Asked} {e : Effect} → Deed s m.cells m.tags a e → RegisterSafe house r m e.registers
  register_safe ok (took p base reg permissions low-p low-reg few z) =
      (low-reg, apart_good r (eqb p house) _ (taken_apart s.core ok p base (takes s.core ok p base z) permissions few r h.around))
  register_safe ok (recored p k x) = tt
  register_safe ok (swept p n runs) = tt
  register_safe ok (collected_all p z) = tt
  register_safe ok (zeroed p frame z) = tt
  register_safe ok (filled p d from w answer low g) = (low, filling_good p g)
  register_safe ok (wrote p a off x low-p low-a g) = tt
  register_safe ok (mailed p x to t) = tt
  register_safe ok (received p d low) = (low, apart_good r (eqb p house) (mailbox_of s.mailboxes p) (h.mailboxes p))

  -- The house's discretion: a call of the house's that is not struck betrays nothing.
  abbrev Quiet : Asked → Type 0
  Quiet a = eqb a.caller house ≡ true → strikes r s a.caller a.role ≡ false → hands_out r s a.caller a.role ≡ false

  pub quiet : (c : Call) → indiscreet house (lasting r) m c ≡ false → granted m c ≡ true → Quiet (role_of c)
  unfolding indiscreet struck
  quiet c q b a d = go (betrays r s c) refl
    where
      unstruck : housed house c && private r s c ≡ false
      unstruck = ap (λ x. x && private r s c) a ∙ d

      go : (x : Bool) → betrays r s c ≡ x → betrays r s c ≡ false
      go true e =
          absurd (true≢false (sym (both (housed house c && granted m c) (not (housed house c && private r s c) && betrays r s c) (both (housed house c) (granted m c) a b)
          (both (not (housed house c && private r s c)) (betrays r s c) (ap not unstruck) e)) ∙ q))
      go false e = e

  grant_apart : (p x to : ℕ) → Quiet (asked p (grants x to)) → (b : Bool) → eqb p house ≡ b → Apart r (register_of s.registers p x)
  grant_apart p x to q true e = test_apart r (register_of s.registers p x) (q e refl)
  grant_apart p x to q false e = other_apart p x (eqb-false p house e)

  -- What is put into mailboxes.
  pub mailbox_safe : {cells tags : List ℕ} {a : Asked} {e : Effect} → Deed s cells tags a e → Quiet a → MailboxSafe r e.mailboxes
  mailbox_safe (took p base reg permissions low-p low-reg few z) q = tt
  mailbox_safe (recored p k x) q = tt
  mailbox_safe (swept p n runs) q = tt
  mailbox_safe (collected_all p z) q = tt
  mailbox_safe (zeroed p frame z) q = tt
  mailbox_safe (filled p d from w answer low g) q = tt
  mailbox_safe (wrote p a off x low-p low-a g) q = tt
  mailbox_safe (mailed p x to t) q = grant_apart p x to q (eqb p house) refl
  mailbox_safe (received p d low) q = empty_apart r

  -- An aimed store that is granted hits a cell of the range.
  pub aimed_inside : (p a off : ℕ) → p ≡ house → aimed r s p a off ≡ true → Addressing s.core (register_of s.registers p a) off → inside r (base_of (register_of s.registers p a).cell + off) ≡ true
  unfolding aimed
  aimed_inside p a off n e k =
      go (capability_into r (register_of s.registers p a)) refl (and_right (named p && named a) (capability_into r (register_of s.registers p a) || inside r (base_of (register_of s.registers p a).cell + off)) e)
    where
      go : (b : Bool) → capability_into r (register_of s.registers p a) ≡ b → b || inside r (base_of (register_of s.registers p a).cell + off) ≡ true → inside r (base_of (register_of s.registers p a).cell + off) ≡ true
      go true x y =
          let j : Within r (register_of s.registers p a).cell = own_tame p a n k.tagged (and_right (register_of s.registers p a).tag (into r (register_of s.registers p a).cell) x) in
          inside_made r (base_of (register_of s.registers p a).cell + off) (omega (arith, j.from)) (omega (arith, j.upto, k.short))
      go false x y = y

  not_aimed : (p a off : ℕ) → p < 8 → a < 8 → aimed r s p a off ≡ false → inside r (base_of (register_of s.registers p a).cell + off) ≡ false
  unfolding aimed
  not_aimed p a off b c e =
      or_right (capability_into r (register_of s.registers p a)) (inside r (base_of (register_of s.registers p a).cell + off))
      (sym (and_yes (named p && named a) (capability_into r (register_of s.registers p a) || inside r (base_of (register_of s.registers p a).cell + off)) (both (named p) (named a) (lt-ltb p 8 b) (lt-ltb a 8 c))) ∙ e)

  module _ (ok : Sound s.core.pages) (p a off x : ℕ) (g : Addressing s.core (register_of s.registers p a) off) where
    -- It is the one virtual cell with this place.
    pub store_once : (v : ℕ) → lookup_of s.core.pages v ≡ Some (aimed_at s p a off) → v ≡ base_of (register_of s.registers p a).cell + off
    store_once v e =
        seen_once s.core.pages ok (base_of (register_of s.registers p a).cell + off) (aimed_at s p a off)
        (seen s.core.pages (base_of (register_of s.registers p a).cell + off) (aimed_at s p a off) g.place) v
        (seen s.core.pages v (aimed_at s p a off) e)

    own_store : p < 8 → a < 8 → Quiet (asked p (stores a off x)) → p ≡ house → (b : Bool) → aimed r s p a off ≡ b → (v : ℕ) → lookup_of s.core.pages v ≡ Some (aimed_at s p a off) → Good r (inside r v) (stored s.core (register_of s.registers p x))
    own_store low-p low-a q n true e v l =
        subst (λ b. Good r b (stored s.core (register_of s.registers p x))) (sym (ap (inside r) (store_once v l) ∙ aimed_inside p a off n e g))
        (keep_good r true (register_of s.registers p x) (not (dying s.core (register_of s.registers p x).cell)) (own_tame p x n))
    own_store low-p low-a q n false e v l =
        let out = not_aimed p a off low-p low-a e in
        apart_good r (inside r v) (stored s.core (register_of s.registers p x))
        (test_apart r (stored s.core (register_of s.registers p x))
        (first_no (capability_into r (stored s.core (register_of s.registers p x))) (not (inside r (base_of (register_of s.registers p a).cell + off))) (ap not out)
        (q (eq-eqb p house n) e)))
      where
        first_no : (a b : Bool) → b ≡ true → a && b ≡ false → a ≡ false
        first_no true b e f = absurd (true≢false (sym e ∙ f))
        first_no false b e f = refl

    pub store_safe : p < 8 → a < 8 → Quiet (asked p (stores a off x)) → (b : Bool) → eqb p house ≡ b → (v : ℕ) → lookup_of s.core.pages v ≡ Some (aimed_at s p a off) → Good r (inside r v) (stored s.core (register_of s.registers p x))
    store_safe low-p low-a q true e v l = own_store low-p low-a q (eqb-true p house e) (aimed r s p a off) refl v l
    store_safe low-p low-a q false e v l =
        apart_good r (inside r v) (stored s.core (register_of s.registers p x))
        (keep_good r false (register_of s.registers p x) (not (dying s.core (register_of s.registers p x).cell)) (other_apart p x (eqb-false p house e)))

  -- What is written into memory.
  pub memory_safe : Sound s.core.pages → {cells tags : List ℕ} {a : Asked} {e : Effect} → Deed s cells tags a e → Quiet a → MemorySafe r m e.memory
  memory_safe ok (took p base reg permissions low-p low-reg few z) q = tt
  memory_safe ok (recored p k x) q = tt
  memory_safe ok (swept p n runs) q = tt
  memory_safe ok (collected_all p z) q = tt
  memory_safe ok (zeroed p frame z) q = tt
  memory_safe ok (filled p d from w answer low g) q = tt
  memory_safe ok (wrote p a off x low-p low-a g) q = (store_safe ok p a off x g low-p low-a q (eqb p house) refl, tt)
  memory_safe ok (mailed p x to t) q = tt
  memory_safe ok (received p d low) q = tt
