-- Where each live word comes from: by the sorts of effect, a spot at a time. What holds of every live capability, and of each narrower one,
-- then holds after a call too, but for the one that a take makes. Assumes nothing.
use Rattle.std.specs.Prelude.{Some}
use Prim.Native.Nat.{ℕ, ◌+◌, ◌*◌, ◌<◌}
use native.Mathlib.Omega.{arith}
use mathlib.Core.Bool.{Bool, true, false, ◌&&◌, false≢true}
use mathlib.Core.List.{List}
use mathlib.Core.Logic.{◌⊎◌, inl, inr, ⊎_elim}
use mathlib.Core.Path.{◌≡◌, refl, sym, ap, subst, ◌∙◌}
use borrow.Author.Tests.{eqb-true, eqb-false, ltb-true, ltb-false}
use lib.Dec.{eqb, ltb}
use lib.ListN.{length, get_or, set, get_or-eq_default}
use lib.Seq.{get_or-set_same, get_or-set_other, set_out}
use Rattle.capabilities.specs.Capability.{base_of}
use Rattle.capabilities.specs.Lists.{pick}
use Rattle.capabilities.specs.Refusals.{first}
use Rattle.capabilities.proofs.Choice.{and_left}
use Rattle.pages.specs.declared.Frame.{Frame}
use Rattle.pages.specs.declared.FrameState.TheVariants.{Free}
use Rattle.pages.specs.Pages.{Pages}
use Rattle.pages.specs.Layer.{with_frame}
use Rattle.pages.specs.Mapping.{lookup_of, dirty_reasons, released_of}
use Rattle.pages.proofs.Formed.{Sound as Layered, sound as layered}
use Rattle.reservations.specs.Core.{Core}
use Rattle.reservations.specs.Revocation.{dying, revoked, collect_reasons, collect_of, core_sound}
use Rattle.reservations.proofs.CoreKept.{core_facts}
use Rattle.calls.specs.declared.Call.{Call}
use Rattle.words.specs.declared.Slot.{Slot}
use Rattle.words.specs.Words.{slot, empty, named, register_of, mailbox_of, word_at, keep_tag, byte_of, stored, collected_mailbox}
use Rattle.machine.specs.State.{State}
use Rattle.machine.specs.Roles.{Sources, Asked, role_of, caller_of}
use Rattle.machine.specs.Effects.{keep_memory, clear_frame, sweep_cells, Effect, swept_to}
use Rattle.machine.specs.Step.{done, registers_after, mailboxes_after, written_cells, written_tags, cells_after, tags_after}
use Rattle.machine.proofs.Deeds.{Recored, aimed_at, Filling, loads, narrows, numbers, Deed, took, recored, swept, collected_all, zeroed, filled, wrote, mailed, received, deed}
use Rattle.machine.proofs.Found.{Addressing}
use Rattle.machine.proofs.PagesKept.{zero_clear}
use Rattle.histories.specs.Runs.{Machine, machine, next}
use Rattle.histories.specs.Live.{Spot, register, mailbox, virtual, word_in, shown}
use Rattle.histories.specs.Inv.{Inv}
use Rattle.histories.specs.Origins.{Origin, from, made, same_spot, register_at, filled_from, origin_by, Narrower, itself, narrower, Comes, ComesBy, EachComes}
use Rattle.histories.proofs.Held.{Tagged, Narrows, OfTake}
use Rattle.histories.proofs.View.{Seen, collected_registers, collected_mailboxes, shown_by, shown_at_lem, seen, seen_once, word_none, written_here, written_other}
use Rattle.histories.proofs.Keep.{Blank, frame_lookup, place_below, clear_word, sweep_word}
use Rattle.histories.proofs.Granted.{Went, handed, went, went_or_not, went_next, went_core, went_cells, went_tags}
use Rattle.histories.proofs.Always.{inv_reached}
use Rattle.histories.proofs.Layer.{released_shows}
use Rattle.histories.proofs.Findings.{ends}
use Rattle.histories.proofs.Showing.{Came, shown_before, was_free, recored_came}

-- ---- Words
stays : (w : Slot) → Comes w w
stays w t = (t, itself)

keeps : (w : Slot) (b : Bool) → Comes w (keep_tag w b)
keeps w b t = (and_left w.tag b t, itself)

nothing : (w u : Slot) → u.tag ≡ false → Comes w u
nothing w u e t = absurd (false≢true (sym e ∙ t))

collects : (c : Core) (w : Slot) → Comes w (collected_mailbox c w)
collects c w = go (w.tag && dying c w.cell)
  where
    go : (b : Bool) → Comes w (pick b empty w)
    go true = nothing w empty refl
    go false = stays w

-- A party's register that a call reads is the word at its spot, or none.
read_from : (l : List Slot) (p r : ℕ) (u : Slot) → Comes (register_of l p r) u → Comes (get_or l (8 * p + r) empty) u
unfolding register_of
read_from l p r u = go (named p && named r)
  where
    go : (b : Bool) → Comes (pick b (get_or l (8 * p + r) empty) empty) u → Comes (get_or l (8 * p + r) empty) u
    go true k = k
    go false k = λ t. absurd (false≢true (k t).0)

-- ---- Spots, by what a granted call does
module _ (s : State) (cells tags : List ℕ) (inv : Inv (machine s cells tags)) (ok : core_sound s.core ≡ true)
    (of_cells : length cells ≡ 16 * s.core.pages.f) (of_tags : length tags ≡ 16 * s.core.pages.f) where
  abbrev m : Machine
  m = machine s cells tags

  layer : Layered s.core.pages
  layer = layered s.core.pages (core_facts s.core ok).layer

  none_comes : (a : Asked) (o : Origin) (u : Slot) → u.tag ≡ false → ComesBy m a o u
  none_comes a (from x) u e = nothing (word_in m x) u e
  none_comes a made u e = λ t. absurd (false≢true (sym e ∙ t))

  -- A word that is put at a place of a list; x is the spot of the place that is looked at.
  put_comes : (a : Asked) (o : Origin) (l : List Slot) (k : ℕ) (w : Slot) → ComesBy m a o w → (j : ℕ) (x : Spot) → word_in m x ≡ get_or l j empty
      → ComesBy m a (pick (eqb k j) o (from x)) (get_or (set l k w) j empty)
  put_comes a o l k w new j x is = go (eqb k j) refl (ltb k (length l)) refl
    where
      go : (b : Bool) → eqb k j ≡ b → (d : Bool) → ltb k (length l) ≡ d → ComesBy m a (pick b o (from x)) (get_or (set l k w) j empty)
      go true e true h = subst (ComesBy m a o) (sym (ap (λ i. get_or (set l k w) i empty) (sym (eqb-true k j e)) ∙ get_or-set_same l k w empty (ltb-true k (length l) h))) new
      go true e false h =
          let out = ltb-false k (length l) h in
          none_comes a o (get_or (set l k w) j empty)
          (ap (λ y. (get_or y j empty).tag) (set_out l k w out) ∙ ap (λ y. y.tag) (get_or-eq_default l empty (omega (arith, out, eqb-true k j e))))
      go false e d h = subst (λ y. Comes y (get_or (set l k w) j empty)) (sym is) (subst (Comes (get_or l j empty)) (sym (get_or-set_other l k j w empty (λ z. eqb-false k j e (sym z)))) (stays (get_or l j empty)))

  either : (a : Asked) (b : Bool) (x : Spot) (u : Slot) → ComesBy m a (pick b (from x) (from x)) u → Comes (word_in m x) u
  either a true x u k = k
  either a false x u k = k

  -- What is shown at a place, and by other pages, which show what was shown or what is blank.
  abbrev before : ℕ → Slot
  before v = shown s.core.pages cells tags v

  shown_comes : (v at : ℕ) → lookup_of s.core.pages v ≡ Some at → Comes (before v) (word_at cells tags at)
  shown_comes v at e = subst (Comes (before v)) (shown_at_lem s.core.pages cells tags v at e) (stays (before v))

  pages_come : (q : Pages) → ((v at : ℕ) → lookup_of q v ≡ Some at → (lookup_of s.core.pages v ≡ Some at) ⊎ Blank cells tags at) → (v : ℕ) → Comes (before v) (shown q cells tags v)
  pages_come q was v =
      shown_by (Comes (before v)) q cells tags v (nothing (before v) empty refl)
      (λ at e. ⊎_elim (shown_comes v at) (λ z. subst (Comes (before v)) (sym (word_none cells tags at z.0 z.1)) (nothing (before v) empty refl)) (was v at e))

  recored_comes : (k : Core) → Recored s.core k → (v : ℕ) → Comes (before v) (shown k.pages cells tags v)
  recored_comes k r = pages_come k.pages (λ v at e. go v at (recored_came s.core ok k r v at e))
    where
      go : (v at : ℕ) → Came s.core.pages keep_memory v at → (lookup_of s.core.pages v ≡ Some at) ⊎ Blank cells tags at
      go v at (shown_before q) = inl q
      go v at (was_free j i free low e keep) = inr (subst (Blank cells tags) (sym e) (inv.memory.free j i free low))

  collect_comes : first (collect_reasons s.core) ≡ 0 → (v : ℕ) → Comes (before v) (shown (collect_of s.core).core.pages cells tags v)
  collect_comes z v =
      let code : (collect_of s.core).code ≡ 0 = unfold collect_of in z in
      let k = ends s.core ok code in
      subst (λ x. Comes (before v) (shown x.pages cells tags v)) (sym k.parts)
      (pages_come (released_of s.core.pages (revoked s.core)) (λ u at e. inl (released_shows s.core.pages layer (revoked s.core) u at e)) v)

  -- What fills a register comes from what was read.
  filling_comes : (a : Asked) (p : ℕ) {source : Sources} {w answer : Slot} → Filling s cells tags p source w answer → ComesBy m a (filled_from m p source) w
  filling_comes a p (loads r off g) =
      let v = base_of (register_of s.registers p r).cell + off in
      λ t. shown_comes v (aimed_at s p r off) g.place (and_left (word_at cells tags (aimed_at s p r off)).tag _ t)
  filling_comes a p (narrows x off len mask g) =
      read_from s.registers p x _ (λ t. (g.tagged, narrower off len mask g.some g.ends g.starts))
  filling_comes a p (numbers value) = λ t. absurd (false≢true t)

  -- A store: one virtual cell shows the place that is written.
  stored_comes : (a : Asked) (p r off x : ℕ) → Addressing s.core (register_of s.registers p r) off → (v : ℕ)
      → ComesBy m a (pick (eqb (base_of (register_of s.registers p r).cell + off) v) (from (register_at p x)) (from (virtual v)))
      (shown s.core.pages (set cells (aimed_at s p r off) (stored s.core (register_of s.registers p x)).cell) (set tags (aimed_at s p r off) (byte_of (stored s.core (register_of s.registers p x)).tag)) v)
  stored_comes a p r off x g v = go (eqb to v) refl
    where
      to : ℕ
      to = base_of (register_of s.registers p r).cell + off

      at : ℕ
      at = aimed_at s p r off

      w : Slot
      w = stored s.core (register_of s.registers p x)

      low : at < 16 * s.core.pages.f
      low = place_below s.core cells tags inv.memory layer of_cells of_tags to at (seen s.core.pages to at g.place)

      once : (i : ℕ) → lookup_of s.core.pages v ≡ Some i → (eqb to v ≡ false) → i ≡ at → ⊥
      once i q e z = eqb-false to v e (sym (seen_once s.core.pages layer to at (seen s.core.pages to at g.place) v (subst (Seen s.core.pages v) z (seen s.core.pages v i q))))

      go : (b : Bool) → eqb to v ≡ b → ComesBy m a (pick b (from (register_at p x)) (from (virtual v))) (shown s.core.pages (set cells at w.cell) (set tags at (byte_of w.tag)) v)
      go true e =
          subst (Comes (get_or s.registers (8 * p + x) empty))
          (sym (shown_at_lem s.core.pages _ _ v at (ap (lookup_of s.core.pages) (sym (eqb-true to v e)) ∙ g.place) ∙ written_here cells tags at w (omega (arith, low)) (omega (arith, low))))
          (read_from s.registers p x w (keeps (register_of s.registers p x) _))
      go false e =
          shown_by (Comes (before v)) s.core.pages _ _ v (nothing (before v) empty refl)
          (λ i q. subst (Comes (before v)) (sym (written_other cells tags at w i (once i q e))) (shown_comes v i q))

  sweep_comes : (n v : ℕ) → Comes (before v) (shown s.core.pages cells (tags_after (sweep_cells (revoked s.core) s.core.place (swept_to s.core n)) s.core cells tags) v)
  unfolding tags_after
  sweep_comes n v =
      shown_by (Comes (before v)) s.core.pages cells _ v (nothing (before v) empty refl)
      (λ at e. sweep_word s.core cells tags inv.memory layer of_cells of_tags (swept_to s.core n) (Comes (before v)) v at e (shown_comes v at e) (nothing (before v) (slot _ false) refl))

  zero_comes : (frame : Frame) → first (dirty_reasons s.core.pages frame) ≡ 0 → (v : ℕ)
      → Comes (before v) (shown (with_frame s.core.pages frame.0 Free) (cells_after (clear_frame frame) cells) (tags_after (clear_frame frame) s.core cells tags) v)
  unfolding cells_after tags_after
  zero_comes frame z v =
      let (low, dirty) = zero_clear s.core.pages frame z in
      shown_by (Comes (before v)) (with_frame s.core.pages frame.0 Free) _ _ v (nothing (before v) empty refl)
      (λ at e.
      let q = sym (frame_lookup s.core.pages frame.0 Free v) ∙ e in
      subst (Comes (before v)) (sym (clear_word s.core cells tags inv.memory layer of_cells of_tags frame low dirty v at q)) (shown_comes v at q))

  -- Whatever a granted call does.
  pub deed_comes : {a : Asked} {e : Effect} → Deed s cells tags a e → (x : Spot) → ComesBy m a (origin_by m a.caller a.role x) (word_in (handed (done s e cells tags)) x)
  unfolding done registers_after mailboxes_after written_cells written_tags cells_after tags_after same_spot mailbox_of
  deed_comes {a} (took p base reg permissions low-p low-reg few z) (register j) =
      put_comes a made s.registers (8 * p + reg) _ (λ t. record { party = p; base = base; reg = reg; permissions = permissions; is = refl; cell = refl }) j (register j) refl
  deed_comes (took p base reg permissions low-p low-reg few z) (mailbox j) = stays _
  deed_comes (took p base reg permissions low-p low-reg few z) (virtual v) = stays _
  deed_comes (recored p k r) (register j) = stays _
  deed_comes (recored p k r) (mailbox j) = stays _
  deed_comes (recored p k r) (virtual v) = recored_comes k r v
  deed_comes (swept p n runs) (register j) = stays _
  deed_comes (swept p n runs) (mailbox j) = stays _
  deed_comes (swept p n runs) (virtual v) = sweep_comes n v
  deed_comes (collected_all p z) (register j) = subst (Comes _) (sym (collected_registers s.core s.registers j)) (keeps (get_or s.registers j empty) _)
  deed_comes (collected_all p z) (mailbox j) = subst (Comes _) (sym (collected_mailboxes s.core s.mailboxes j)) (collects s.core (get_or s.mailboxes j empty))
  deed_comes (collected_all p z) (virtual v) = collect_comes z v
  deed_comes (zeroed p frame z) (register j) = stays _
  deed_comes (zeroed p frame z) (mailbox j) = stays _
  deed_comes (zeroed p frame z) (virtual v) = zero_comes frame z v
  deed_comes {a} (filled p d source w answer low g) (register j) = put_comes a (filled_from m p source) s.registers (8 * p + d) w (filling_comes a p g) j (register j) refl
  deed_comes (filled p d source w answer low g) (mailbox j) = stays _
  deed_comes (filled p d source w answer low g) (virtual v) = stays _
  deed_comes (wrote p r off x low-p low-r g) (register j) = stays _
  deed_comes (wrote p r off x low-p low-r g) (mailbox j) = stays _
  deed_comes {a} (wrote p r off x low-p low-r g) (virtual v) = stored_comes a p r off x g v
  deed_comes (mailed p x to t) (register j) = stays _
  deed_comes {a} (mailed p x to t) (mailbox j) =
      put_comes a (from (register_at p x)) s.mailboxes to (register_of s.registers p x) (read_from s.registers p x _ (stays (register_of s.registers p x))) j (mailbox j) refl
  deed_comes (mailed p x to t) (virtual v) = stays _
  deed_comes {a} (received p d low) (register j) = put_comes a (from (mailbox p)) s.registers (8 * p + d) _ (stays (get_or s.mailboxes p empty)) j (register j) refl
  deed_comes {a} (received p d low) (mailbox j) = either a (eqb p j) (mailbox j) _ (put_comes a (from (mailbox j)) s.mailboxes p empty (nothing _ empty refl) j (mailbox j) refl)
  deed_comes (received p d low) (virtual v) = stays _

-- ---- A step
-- What each spot of a granted call's machine holds.
pub went_comes : (m : Machine) (c : Call) → Inv m → Went m c → (x : Spot) → ComesBy m (role_of c) (origin_by m (caller_of c) (role_of c).role x) (word_in (next m c) x)
went_comes m c inv w x =
    subst (λ n. ComesBy m (role_of c) (origin_by m (caller_of c) (role_of c).role x) (word_in n x)) (sym (went_next m c w))
    (deed_comes m.state m.cells m.tags inv (went_core m c w) (went_cells m c w) (went_tags m c w) (deed m.state c m.cells m.tags w.clear) x)

pub each_comes : EachComes
each_comes m r c g x = went_comes m c (inv_reached m r) (went m c g) x

-- Every live capability has a property.
abbrev pub All : (ℕ → Type 0) → Machine → Type 0
All Q m = (x : Spot) → Tagged Q (word_in m x)

-- A step, granted or refused: what holds of every live capability, and of each narrower one, holds after it, if it holds of the one that
-- a granted take makes.
pub step_came : (Q : ℕ → Type 0) → Narrows Q → (m : Machine) (c : Call) → Inv m → All Q m → (Went m c → OfTake Q m.state (role_of c)) → All Q (next m c)
step_came Q closed m c inv old new =
    ⊎_elim (λ w x. by (new w) (origin_by m (caller_of c) (role_of c).role x) (word_in (next m c) x) (went_comes m c inv w x)) (λ n. subst (All Q) (sym n.0) old) (went_or_not m c)
  where
    narrow : (c d : ℕ) → Q c → Narrower c d → Q d
    narrow c d k itself = k
    narrow c d k (narrower off len mask some ends starts) = closed c off len mask some ends starts k

    by : OfTake Q m.state (role_of c) → (o : Origin) (w : Slot) → ComesBy m (role_of c) o w → Tagged Q w
    by take (from x) w k t = let (live, less) = k t in narrow (word_in m x).cell w.cell (old x live) less
    by take made w k t = let z = k t in subst Q (sym z.cell) (take z.party z.base z.reg z.permissions z.is)
