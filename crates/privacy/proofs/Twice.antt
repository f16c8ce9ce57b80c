-- Both: a call that is left in two histories. Assumes nothing.
use Rattle.std.specs.Prelude.{Some}
use Prim.Native.Nat.{ℕ, ◌+◌}
use mathlib.Core.Bool.{Bool, true, false, ◌&&◌, true≢false, false≢true}
use mathlib.Core.List.{List, [], ◌∷◌}
use mathlib.Core.Path.{◌≡◌, refl, sym, ap, subst, ◌∙◌}
use borrow.Author.Tests.{eqb-true, eqb-false, eq-eqb}
use lib.Dec.{eqb}
use lib.ListN.{length}
use Rattle.capabilities.specs.declared.Range.{Range}
use Rattle.capabilities.specs.Capability.{base_of}
use Rattle.capabilities.specs.Lists.{pick}
use Rattle.capabilities.specs.Range.{inside}
use Rattle.capabilities.specs.Refusals.{first}
use Rattle.capabilities.proofs.Choice.{pick_yes, and_left, and_right}
use Rattle.pages.specs.Layer.{serves}
use Rattle.pages.specs.Mapping.{lookup_of}
use Rattle.reservations.specs.Core.{Core}
use Rattle.reservations.specs.Revocation.{revoked, core_sound}
use Rattle.calls.specs.declared.Call.{Call}
use Rattle.words.specs.declared.Slot.{Slot}
use Rattle.words.specs.Words.{empty, register_of, place_number, loaded}
use Rattle.words.specs.WordReasons.{may_not_load, cell_reasons}
use Rattle.machine.specs.Roles.{Sources, from_none, from_one, from_two, from_cell, Role, takes, collects, fills, stores, grants, receives, plain, role_of, caller_of, sources_of}
use Rattle.machine.specs.Reasons.{Reads, reading, addressed, fetched, found, words_in, reads, reasons}
use Rattle.machine.specs.Step.{reasons_on, effect_on}
use Rattle.machine.proofs.Dependence.{formed_by, formed_by_lem}
use Rattle.machine.proofs.Deeds.{deed, collected_as}
use Rattle.machine.proofs.Found.{Addressing, addressing}
use Rattle.histories.proofs.Showing.{came}
use Rattle.histories.specs.Runs.{Machine, next, granted}
use Rattle.privacy.specs.Rule.{in_registers, housed, collecting, is_collect, contains, Time, lasting, over, ending, until, strikes, struck, remaining, hidden}
use Rattle.privacy.proofs.Fate.{code_of, Fate, down, up, fate, after, next_down, told_done, told_down, code_is}
use Rattle.privacy.proofs.Glue.{Both}
use Rattle.privacy.proofs.House.{Housed}
use Rattle.privacy.proofs.Relate.{Rel, effect_related}
use Rattle.privacy.proofs.Sides.{fits_deed, outside}
use Rattle.privacy.proofs.Steps.{granted_core, granted_layer, granted_cells, granted_tags, granted_next, refused_test, Ok}
use Rattle.privacy.proofs.Tables.{collect_hides}

-- What a party reads, and what a call does.
abbrev read_from : Machine → ℕ → Sources → Reads
read_from m p from = words_in m.state.core m.state.registers m.cells m.tags p from

abbrev read_of : Machine → Call → Reads
read_of m c = reads m.state.core m.state.registers m.cells m.tags c

-- The code, by what it depends on.
unfoldable code_by : Core → List Slot → ℕ → ℕ → ℕ → Reads → Call → ℕ
code_by k mail registers cells tags r c =
    pick (formed_by k mail registers) (pick (serves k.pages cells tags) (first (reasons k mail r c)) 2) 1

code_by_lem : (m : Machine) (c : Call) → code_of m c ≡ code_by m.state.core m.state.mailboxes (length m.state.registers) (length m.cells) (length m.tags) (read_of m c) c
unfolding code_of code_by
code_by_lem m c =
    ap (λ b. pick b (pick (serves m.state.core.pages (length m.cells) (length m.tags)) (first (reasons_on m.state c m.cells m.tags)) 2) 1) (formed_by_lem m.state)

-- Whether the time ends depends on the code and the core.
ending_by : (r : Range) (g h : Machine) (c : Call) → code_of g c ≡ code_of h c → g.state.core ≡ h.state.core → ending r g c ≡ ending r h c
unfolding ending
ending_by r g h c e k =
    ap (λ n. (is_collect c && eqb n 0) && contains (revoked g.state.core) r) (code_is g c ∙ e ∙ sym (code_is h c))
    ∙ ap (λ x. (is_collect c && granted h c) && contains (revoked x) r) k

until_by : (t : Time) (g h : Machine) (c : Call) → code_of g c ≡ code_of h c → g.state.core ≡ h.state.core → until t g c ≡ until t h c
unfolding until
until_by (lasting r) g h c e k = ap (λ b. pick b over (lasting r)) (ending_by r g h c e k)
until_by over g h c e k = refl

-- A refused call ends nothing.
until_refused : (t : Time) (m : Machine) (c : Call) → granted m c ≡ false → until t m c ≡ t
unfolding until ending
until_refused (lasting r) m c e = rw e (go (is_collect c))
  where
    go : (b : Bool) → pick ((b && false) && contains (revoked m.state.core) r) over (lasting r) ≡ lasting r
    go true = refl
    go false = refl
until_refused over m c e = refl

-- A collect that ends the time.
collects_by : (x : Role) → collecting x ≡ true → x ≡ collects
collects_by (takes base reg permissions) e = absurd (false≢true e)
collects_by collects e = refl
collects_by (fills from d) e = absurd (false≢true e)
collects_by (stores a off x) e = absurd (false≢true e)
collects_by (grants x to) e = absurd (false≢true e)
collects_by (receives d) e = absurd (false≢true e)
collects_by plain e = absurd (false≢true e)

hides_by : (r : Range) (m : Machine) (c : Call) (v at : ℕ) → core_sound m.state.core ≡ true → first (reasons_on m.state c m.cells m.tags) ≡ 0 → ending r m c ≡ true
    → lookup_of (effect_on m.state c m.cells m.tags).core.pages v ≡ Some at → inside r v ≡ false
unfolding ending
hides_by r m c v at ok z e q =
    let a = and_left (is_collect c && granted m c) (contains (revoked m.state.core) r) e in
    let k = collected_as m.state (deed m.state c m.cells m.tags z) (collects_by (role_of c).role (and_left (is_collect c) (granted m c) a)) in
    collect_hides m.state.core ok k.clear r v at (and_right (is_collect c && granted m c) (contains (revoked m.state.core) r) e)
    (subst (λ x. lookup_of x.core.pages v ≡ Some at) k.is q)

hides : (t : Time) (m : Machine) (c : Call) (v at : ℕ) → core_sound m.state.core ≡ true → first (reasons_on m.state c m.cells m.tags) ≡ 0
    → lookup_of (effect_on m.state c m.cells m.tags).core.pages v ≡ Some at → hidden (until t m c) v ≡ false → hidden t v ≡ false
unfolding until hidden
hides (lasting r) m c v at ok z q e = go (ending r m c) refl e
  where
    go : (b : Bool) → ending r m c ≡ b → hidden (pick b over (lasting r)) v ≡ false → inside r v ≡ false
    go true x y = hides_by r m c v at ok z x q
    go false x y = y
hides over m c v at ok z q e = e

module _ (house : ℕ) (t : Time) (g h : Machine) (own : (r : Range) → t ≡ lasting r → Housed house r g) (rel : Rel house t g h) where
  -- A call that is left is not struck by its role.
  left_by : (c : Call) → struck house t g c ≡ false → (r : Range) → t ≡ lasting r → eqb (caller_of c) house && strikes r g.state (caller_of c) (role_of c).role ≡ false
  unfolding struck
  left_by c s r e = ap (λ u. struck house u g c) (sym e) ∙ s

  -- What a call reads in lent memory is not hidden.
  abbrev Seen : ℕ → Sources → Type 0
  Seen p from_none = Unit {0}
  Seen p (from_one a) = Unit {0}
  Seen p (from_two a x) = Unit {0}
  Seen p (from_cell a off) =
      Addressing g.state.core (register_of g.state.registers p a) off → hidden t (base_of (register_of g.state.registers p a).cell + off) ≡ false

  -- The house's loads are struck while its time lasts, and what another party reaches lies outside.
  load_seen : (u : Time) → t ≡ u → (p a off : ℕ) → ((r : Range) → t ≡ lasting r → eqb p house && true ≡ false)
      → Addressing g.state.core (register_of g.state.registers p a) off → hidden u (base_of (register_of g.state.registers p a).cell + off) ≡ false
  unfolding hidden
  load_seen (lasting r) e p a off s k = outside house r g (own r e) p a off (λ n. true≢false (sym (eq-eqb p house n) ∙ no_and (eqb p house) (s r e))) k
    where
      no_and : (b : Bool) → b && true ≡ false → b ≡ false
      no_and true x = x
      no_and false x = refl
  load_seen over e p a off s k = refl

  filling_seen : (p : ℕ) (from : Sources) → ((r : Range) → t ≡ lasting r → eqb p house && true ≡ false) → Seen p from
  filling_seen p from_none s = tt
  filling_seen p (from_one a) s = tt
  filling_seen p (from_two a x) s = tt
  filling_seen p (from_cell a off) s = load_seen t refl p a off s

  seen_by : (p : ℕ) (x : Role) → ((r : Range) → t ≡ lasting r → eqb p house && strikes r g.state p x ≡ false) → Seen p (sources_of x)
  seen_by p (takes base reg permissions) s = tt
  seen_by p collects s = tt
  seen_by p (fills from d) s = filling_seen p from s
  seen_by p (stores a off x) s = tt
  seen_by p (grants x to) s = tt
  seen_by p (receives d) s = tt
  seen_by p plain s = tt

  -- A word that is read through equal registers and is not hidden is equal; where the load is refused, none is read.
  found_same : (a b : Slot) (off : ℕ) → a ≡ b → (Addressing g.state.core a off → hidden t (base_of a.cell + off) ≡ false)
      → found g.state.core g.cells g.tags a off ≡ found h.state.core h.cells h.tags b off
  unfolding found
  found_same a b off e shown =
      go (eqb (first (cell_reasons (may_not_load a) a off (addressed g.state.core a off))) 0) refl
      ∙ ap (λ k. found k h.cells h.tags a off) rel.core ∙ ap (λ x. found h.state.core h.cells h.tags x off) e
    where
      go : (x : Bool) → eqb (first (cell_reasons (may_not_load a) a off (addressed g.state.core a off))) 0 ≡ x
          → pick x (fetched g.state.core g.cells g.tags a off) empty ≡ pick x (fetched g.state.core h.cells h.tags a off) empty
      go true z =
          let k = addressing g.state.core a off (may_not_load a) (eqb-true (first (cell_reasons (may_not_load a) a off (addressed g.state.core a off))) 0 z) in
          ap (loaded g.state.core a) (rel.words (base_of a.cell + off) (place_number (addressed g.state.core a off)) k.place (shown k))
      go false z = refl

  -- So a call reads the same, if the registers that it reads are equal.
  words_same : (p : ℕ) (from : Sources) → (read_from g p from).one ≡ (read_from h p from).one → (read_from g p from).two ≡ (read_from h p from).two → Seen p from
      → read_from g p from ≡ read_from h p from
  words_same p from_none e f s = refl
  words_same p (from_one a) e f s = ap (λ w. reading w empty []) e
  words_same p (from_two a x) e f s = ap (λ w. reading w (register_of g.state.registers p x) []) e ∙ ap (λ w. reading (register_of h.state.registers p a) w []) f
  words_same p (from_cell a off) e f s =
      ap (λ w. reading w empty (read_from g p (from_cell a off)).words) e
      ∙ ap (λ w. reading (register_of h.state.registers p a) empty (w ∷ [])) (found_same (register_of g.state.registers p a) (register_of h.state.registers p a) off e s)

  -- Another party's registers are equal.
  registers_same : (p : ℕ) (from : Sources) → (p ≡ house → ⊥) → ((read_from g p from).one ≡ (read_from h p from).one) × ((read_from g p from).two ≡ (read_from h p from).two)
  registers_same p from_none n = (refl, refl)
  registers_same p (from_one a) n = (rel.others p a n, refl)
  registers_same p (from_two a x) n = (rel.others p a n, rel.others p x n)
  registers_same p (from_cell a off) n = (rel.others p a n, refl)

  -- What a call that is left reads is equal.
  reads_left : (c : Call) → struck house t g c ≡ false → remaining house g c ≡ remaining house h c → read_of g c ≡ read_of h c
  unfolding remaining
  reads_left c s e = go (housed house c) refl
    where
      from : Sources
      from = sources_of (role_of c).role

      shown : Seen (caller_of c) from
      shown = seen_by (caller_of c) (role_of c).role (left_by c s)

      go : (b : Bool) → housed house c ≡ b → read_of g c ≡ read_of h c
      go true x =
          let none = in_registers empty empty in
          let same = sym (pick_yes (housed house c) (in_registers (read_of g c).one (read_of g c).two) none x) ∙ ap (λ y. y.registers) e
          ∙ pick_yes (housed house c) (in_registers (read_of h c).one (read_of h c).two) none x in
          words_same (caller_of c) from (ap (λ y. y.one) same) (ap (λ y. y.two) same) shown
      go false x =
          let (one, two) = registers_same (caller_of c) from (eqb-false (caller_of c) house x) in
          words_same (caller_of c) from one two shown

  module _ (c : Call) (s : struck house t g c ≡ false) (e : remaining house g c ≡ remaining house h c) where
    code_same : code_of g c ≡ code_of h c
    code_same =
        let a = rel.core in
        let b = rel.mail in
        let d = rel.long in
        let x = rel.of_cells in
        let y = rel.of_tags in
        let z = reads_left c s e in
        code_by_lem g c
        ∙ (let w : code_by g.state.core g.state.mailboxes (length g.state.registers) (length g.cells) (length g.tags) (read_of g c) c
        ≡ code_by h.state.core h.state.mailboxes (length h.state.registers) (length h.cells) (length h.tags) (read_of h c) c = cc in w)
        ∙ sym (code_by_lem h c)

    effect_same : effect_on g.state c g.cells g.tags ≡ effect_on h.state c h.cells h.tags
    effect_same =
        let a = rel.core in
        let b = rel.mail in
        let z = reads_left c s e in
        cc

-- Both: a left call with equal reads keeps the relation, and is answered alike.
pub both_left : (house : ℕ) (t : Time) (g h : Machine) (c : Call) → Ok house t g → Ok house t h → Rel house t g h → struck house t g c ≡ false → remaining house g c ≡ remaining house h c → Both house (Rel house) t g h c
both_left house t g h c ok₁ ok₂ rel s e = go (fate g c) (fate h c)
  where
    same : code_of g c ≡ code_of h c
    same = code_same house t g h ok₁.own rel c s e

    times : until t g c ≡ until t h c
    times = until_by t g h c same rel.core

    go : Fate g c → Fate h c → Both house (Rel house) t g h c
    go (down k n x q) (down l o y w) =
        let j : k ≡ l = sym x ∙ same ∙ y in
        record {
          times = times;
          related = subst (λ u. Rel house u (next g c) (next h c)) (sym (until_refused t g c (refused_test g c k n x))) (subst (λ m. Rel house t m (next h c)) (sym (next_down g c k q)) (subst (λ m. Rel house t g m) (sym (next_down h c l w)) rel));
          answer = λ z. told_down g c k q ∙ ap (λ i. record { code = i; number = 0; tag = false }) j ∙ sym (told_down h c l w);
        }
    go (down k n x q) (up y w) = absurd (n (sym x ∙ same ∙ y))
    go (up x q) (down l o y w) = absurd (o (sym y ∙ sym same ∙ x))
    go (up x q) (up y w) =
        let z = effect_same house t g h ok₁.own rel c s e in
        let d = deed g.state c g.cells g.tags q.clear in
        let does = effect_on g.state c g.cells g.tags in
        let right : next h c ≡ after h does = granted_next h c w ∙ ap (after h) (sym z) in
        record {
          times = times;
          related =
              subst (λ m. Rel house (until t g c) m (next h c)) (sym (granted_next g c q))
              (subst (λ m. Rel house (until t g c) (after g does) m) (sym right)
              (effect_related house t (until t g c) g h does rel (granted_layer g c q) (granted_cells g c q) (granted_tags g c q)
              (fits_deed g.state d) ok₁.inv.memory.free ok₂.inv.memory.free
              (came g.state (granted_core g c q) d)
              (λ v at. hides t g c v at (granted_core g c q) q.clear)));
          answer =
              λ n. told_done g c does q.comes ∙ ap (λ i. record { code = 0; number = i.answer.cell; tag = i.answer.tag }) z
              ∙ sym (told_done h c (effect_on h.state c h.cells h.tags) w.comes);
        }
