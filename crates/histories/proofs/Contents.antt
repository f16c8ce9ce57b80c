-- What stands in a Mapped page. Of the sorts of effect three touch lent memory: a store writes one place, which is that of one virtual
-- cell; a sweep clears tags of what dies; and a zero needs a Dirty frame, which that of a Mapped page is not. Assumes nothing.
use Prim.Native.Nat.{ℕ, ◌+◌, ◌*◌, ◌/◌, ◌%◌, ◌<◌}
use native.Mathlib.Omega.{arith}
use mathlib.Core.Bool.{Bool, true, false, false≢true, and-false}
use mathlib.Core.List.{List, [], ◌∷◌}
use mathlib.Core.Logic.{◌⊎◌, inl, inr, ⊎_elim}
use mathlib.Core.Path.{◌≡◌, refl, sym, ap, subst, ◌∙◌}
use borrow.Author.Tests.{eqb-true, eqb-false}
use lib.Dec.{eqb}
use lib.ListN.{length, set}
use lib.Seq.{get_or-set_other}
use Rattle.capabilities.specs.Capability.{base_of}
use Rattle.capabilities.specs.Death.{dies}
use Rattle.capabilities.specs.Refusals.{first}
use Rattle.pages.specs.declared.Frame.{Frame}
use Rattle.pages.specs.declared.PageState.TheVariants.{Mapped}
use Rattle.pages.specs.Layer.{page_at}
use Rattle.pages.specs.Mapping.{dirty_reasons, cleared}
use Rattle.pages.proofs.Formed.{Sound as Layered, sound as layered}
use Rattle.sweep.specs.Sweep.{shown_at, swept_tags}
use Rattle.sweep.proofs.Sweeps.{swept_other}
use Rattle.claims.specs.Claims.{claimed}
use Rattle.reservations.specs.Core.{Core}
use Rattle.reservations.specs.Revocation.{revoked, dying, core_sound}
use Rattle.reservations.proofs.CoreAfter.{dying_dies}
use Rattle.reservations.proofs.CoreKept.{core_facts}
use Rattle.calls.specs.declared.Call.{Call}
use Rattle.calls.specs.declared.Call.TheVariants.{Take, Split, Merge, Give, Revoke, Sweep, Collect, Map, Unmap, Zero, Load, Store, Narrow, Number, Grant, Receive, TakeMasked, Create, Claim, Release, Destroy}
use Rattle.words.specs.declared.Slot.{Slot}
use Rattle.words.specs.Words.{register_of}
use Rattle.machine.specs.State.{State}
use Rattle.machine.specs.Roles.{stores, Asked, asked, role_of}
use Rattle.machine.specs.Reasons.{Reads}
use Rattle.machine.specs.Effects.{MemoryChange, keep_memory, write_words, clear_frame, sweep_cells, Effect, effect, swept_to}
use Rattle.machine.specs.Step.{written_cells, written_tags, cells_after, tags_after, done, effect_on}
use Rattle.machine.proofs.Deeds.{aimed_at, Deed, took, recored, swept, collected_all, zeroed, filled, wrote, mailed, received, deed}
use Rattle.machine.proofs.Found.{Addressing}
use Rattle.machine.proofs.PagesKept.{zero_clear}
use Rattle.histories.specs.Runs.{Machine, Granted, outcome, next, run}
use Rattle.histories.specs.Inv.{Memory, Inv}
use Rattle.histories.specs.Forming.{Standing}
use Rattle.histories.specs.Sharing.{claims_in, Shows, Each, no_call_numbers, each_call}
use Rattle.histories.specs.Contents.{cell_in, StoresTo, stores_to, Retags, by_store, by_sweep, ContentLeft, ContentKept, ContentKeptWhileClaimed, ContentKeptUntilLetGo}
use Rattle.histories.proofs.View.{Seen, seen, looked, seen_once}
use Rattle.histories.proofs.Keep.{place_below, clear_other}
use Rattle.histories.proofs.Frames.{page_low}
use Rattle.histories.proofs.Granted.{Went, went_or_not, went_core, went_cells, went_tags}
use Rattle.histories.proofs.Always.{inv_step, inv_reached}
use Rattle.histories.proofs.Forming.{always_formed, standing_next}
use Rattle.histories.proofs.Sharing.{step_keeps, each_claimed, run_counts}

-- Only a sweep sweeps.
abbrev sweeps : MemoryChange → Bool
sweeps keep_memory = false
sweeps (write_words writes) = false
sweeps (clear_frame f) = false
sweeps (sweep_cells r from upto) = true

data IsSweep : Call → Type 0 where
  is_sweep : (party n : ℕ) → IsSweep (Sweep party n)

only_sweeps : (k : Core) (mail : List Slot) (r : Reads) (c : Call) → sweeps (effect k mail r c).memory ≡ true → IsSweep c
unfolding effect
only_sweeps k mail r (Take p base reg) e = absurd (false≢true e)
only_sweeps k mail r (Split p base len) e = absurd (false≢true e)
only_sweeps k mail r (Merge p base) e = absurd (false≢true e)
only_sweeps k mail r (Give p base to) e = absurd (false≢true e)
only_sweeps k mail r (Revoke p base) e = absurd (false≢true e)
only_sweeps k mail r (Sweep p n) e = is_sweep p n
only_sweeps k mail r (Collect p) e = absurd (false≢true e)
only_sweeps k mail r (Map p page frame) e = absurd (false≢true e)
only_sweeps k mail r (Unmap p page) e = absurd (false≢true e)
only_sweeps k mail r (Zero p frame) e = absurd (false≢true e)
only_sweeps k mail r (Load p a off d) e = absurd (false≢true e)
only_sweeps k mail r (Store p a off x) e = absurd (false≢true e)
only_sweeps k mail r (Narrow p x off len mask d) e = absurd (false≢true e)
only_sweeps k mail r (Number p d value) e = absurd (false≢true e)
only_sweeps k mail r (Grant p x to) e = absurd (false≢true e)
only_sweeps k mail r (Receive p d) e = absurd (false≢true e)
only_sweeps k mail r (TakeMasked p base reg mask) e = absurd (false≢true e)
only_sweeps k mail r (Create p parent child limit holder) e = absurd (false≢true e)
only_sweeps k mail r (Claim p principal page) e = absurd (false≢true e)
only_sweeps k mail r (Release p principal page) e = absurd (false≢true e)
only_sweeps k mail r (Destroy p principal) e = absurd (false≢true e)

-- Cell i of a page that is Mapped to frame f.
module _ (s : State) (ok : core_sound s.core ≡ true) (k : ℕ) (f : Frame) (is : page_at s.core.pages k ≡ Mapped f) (i : ℕ) (low : i < 16) where
  layer : Layered s.core.pages
  layer = layered s.core.pages (core_facts s.core ok).layer

  here : Seen s.core.pages (16 * k + i) (16 * f.0 + i)
  here =
      let v : (16 * k + i) / 16 ≡ k = omega (arith, low) in
      let o : (16 * k + i) % 16 ≡ i = omega (arith, low) in
      record { frame = f; low = rw v (page_low s.core.pages layer k f is); page = ap (page_at s.core.pages) v ∙ is; place = rw o refl }

  -- Where a word that a store puts changes the cell, the store is to it.
  put_there : (p a off x n : ℕ) (l : List ℕ) → Addressing s.core (register_of s.registers p a) off
      → (cell_in (set l (aimed_at s p a off) n) f i ≡ cell_in l f i → ⊥) → StoresTo s (16 * k + i) (asked p (stores a off x))
  put_there p a off x n l g differs = go (eqb (16 * f.0 + i) (aimed_at s p a off)) refl
    where
      to : ℕ
      to = base_of (register_of s.registers p a).cell + off

      go : (b : Bool) → eqb (16 * f.0 + i) (aimed_at s p a off) ≡ b → StoresTo s (16 * k + i) (asked p (stores a off x))
      go true e =
          let at = subst (Seen s.core.pages to) (sym (eqb-true (16 * f.0 + i) (aimed_at s p a off) e)) (seen s.core.pages to (aimed_at s p a off) g.place) in
          stores_to p a off x (seen_once s.core.pages layer (16 * k + i) (16 * f.0 + i) here to at)
      go false e = absurd (differs (get_or-set_other l (aimed_at s p a off) (16 * f.0 + i) n 0 (eqb-false (16 * f.0 + i) (aimed_at s p a off) e)))

  module _ (cells tags : List ℕ) (mem : Memory s.core cells tags) (of_cells : length cells ≡ 16 * s.core.pages.f) (of_tags : length tags ≡ 16 * s.core.pages.f) where
    zero_keeps : (frame : Frame) → first (dirty_reasons s.core.pages frame) ≡ 0 → (l : List ℕ) → length l ≡ 16 * s.core.pages.f → cell_in (cleared frame l) f i ≡ cell_in l f i
    zero_keeps frame z l size =
        let (deep, dirty) = zero_clear s.core.pages frame z in
        clear_other s.core cells tags mem layer of_cells of_tags frame deep dirty l size (16 * k + i) (16 * f.0 + i) (looked s.core.pages (16 * k + i) (16 * f.0 + i) here)

    deed_cell : {a : Asked} {e : Effect} → Deed s cells tags a e → (cell_in (cells_after e.memory cells) f i ≡ cell_in cells f i → ⊥) → StoresTo s (16 * k + i) a
    unfolding cells_after written_cells
    deed_cell (took p base reg permissions low-p low-reg few z) differs = absurd (differs refl)
    deed_cell (recored p x r) differs = absurd (differs refl)
    deed_cell (swept p n runs) differs = absurd (differs refl)
    deed_cell (collected_all p z) differs = absurd (differs refl)
    deed_cell (zeroed p frame z) differs = absurd (differs (zero_keeps frame z cells of_cells))
    deed_cell (filled p d from w answer low-d g) differs = absurd (differs refl)
    deed_cell (wrote p a off x low-p low-a g) differs = put_there p a off x _ cells g differs
    deed_cell (mailed p x to t) differs = absurd (differs refl)
    deed_cell (received p d low-d) differs = absurd (differs refl)

    -- A sweep clears a tag where the capability's base lies in the revoked range.
    sweep_dies : (n : ℕ) → (cell_in (swept_tags s.core.pages.frames (revoked s.core) s.core.place (swept_to s.core n) cells tags) f i ≡ cell_in tags f i → ⊥)
        → dying s.core (cell_in cells f i) ≡ true
    sweep_dies n differs = dying_dies s.core (cell_in cells f i) ∙ go (dies (revoked s.core) (cell_in cells f i)) refl
      where
        below : 16 * f.0 + i < 16 * s.core.pages.f
        below = place_below s.core cells tags mem layer of_cells of_tags (16 * k + i) (16 * f.0 + i) here

        go : (b : Bool) → dies (revoked s.core) (cell_in cells f i) ≡ b → dies (revoked s.core) (cell_in cells f i) ≡ true
        go true e = e
        go false e =
            absurd (differs (swept_other s.core.pages.frames (revoked s.core) cells tags s.core.place (swept_to s.core n) (16 * f.0 + i) (omega (arith, below, of_tags)) (rw e (and-false (shown_at s.core.pages.frames ((16 * f.0 + i) / 16))))))

    deed_tag : {a : Asked} {e : Effect} → Deed s cells tags a e → (cell_in (tags_after e.memory s.core cells tags) f i ≡ cell_in tags f i → ⊥)
        → StoresTo s (16 * k + i) a ⊎ ((sweeps e.memory ≡ true) × (dying s.core (cell_in cells f i) ≡ true))
    unfolding tags_after written_tags
    deed_tag (took p base reg permissions low-p low-reg few z) differs = absurd (differs refl)
    deed_tag (recored p x r) differs = absurd (differs refl)
    deed_tag (swept p n runs) differs = inr (refl, sweep_dies n differs)
    deed_tag (collected_all p z) differs = absurd (differs refl)
    deed_tag (zeroed p frame z) differs = absurd (differs (zero_keeps frame z tags of_tags))
    deed_tag (filled p d from w answer low-d g) differs = absurd (differs refl)
    deed_tag (wrote p a off x low-p low-a g) differs = inl (put_there p a off x _ tags g differs)
    deed_tag (mailed p x to t) differs = absurd (differs refl)
    deed_tag (received p d low-d) differs = absurd (differs refl)

module _ (m : Machine) (inv : Inv m) (k : ℕ) (f : Frame) (is : Shows m k f) (i : ℕ) (low : i < 16) (c : Call) where
  retags : StoresTo m.state (16 * k + i) (role_of c) ⊎ ((sweeps (effect_on m.state c m.cells m.tags).memory ≡ true) × (dying m.state.core (cell_in m.cells f i) ≡ true))
      → Retags m k f i c
  retags = ⊎_elim by_store (λ e. go (only_sweeps m.state.core m.state.mailboxes _ c e.0) e.1)
    where
      go : {x : Call} → IsSweep x → dying m.state.core (cell_in m.cells f i) ≡ true → Retags m k f i x
      go (is_sweep p n) d = by_sweep p n d

  content_went : Went m c → ContentLeft m k f i c (outcome m c)
  content_went w =
      let of_cells = went_cells m c w in
      let of_tags = went_tags m c w in
      let does = deed m.state c m.cells m.tags w.clear in
      subst (ContentLeft m k f i c) (sym w.now)
      (unfold done in
      (record {
        of_cell = λ differs. (refl, deed_cell m.state (went_core m c w) k f is i low m.cells m.tags inv.memory of_cells of_tags does differs);
        of_tag = λ differs. (refl, retags (deed_tag m.state (went_core m c w) k f is i low m.cells m.tags inv.memory of_cells of_tags does differs));
      }))

  content_left : ContentLeft m k f i c (outcome m c)
  unfolding next
  content_left =
      ⊎_elim content_went
      (λ n. record { of_cell = λ differs. absurd (differs (ap (λ x. cell_in x.cells f i) n.0)); of_tag = λ differs. absurd (differs (ap (λ x. cell_in x.tags f i) n.0)) })
      (went_or_not m c)

pub content_kept : ContentKept
content_kept m r k f is i low c = content_left m (inv_reached m r) k f is i low c

-- A number that is not another, or is.
unless_same : (a b : ℕ) → ((a ≡ b → ⊥) → ⊥) → a ≡ b
unless_same a b h = go (eqb a b) refl
  where
    go : (x : Bool) → eqb a b ≡ x → a ≡ b
    go true e = eqb-true a b e
    go false e = absurd (h (eqb-false a b e))

module _ (v f : ℕ) (k : ℕ) (x : Frame) (i : ℕ) (low : i < 16) where
  cell_kept : (calls : List Call) (m : Machine) → Standing m v f → Inv m → Shows m k x → Each (λ n c. claimed (claims_in n) k ≡ true) m calls
      → Each (λ n c. Granted n c → StoresTo n.state (16 * k + i) (role_of c) → ⊥) m calls → cell_in (run m calls).cells x i ≡ cell_in m.cells x i
  unfolding run next
  cell_kept [] m st inv is no_call_numbers no_call_numbers = refl
  cell_kept (c ∷ calls) m st inv is (each_call claim claims) (each_call none rest) =
      cell_kept calls (next m c) (standing_next m v f c st) (inv_step m c inv) (step_keeps m v f st c k x claim is) claims rest
      ∙ unless_same _ _ (λ differs. let by = (content_left m inv k x is i low c).of_cell differs in none by.0 by.1)

  tag_kept : (calls : List Call) (m : Machine) → Standing m v f → Inv m → Shows m k x → Each (λ n c. claimed (claims_in n) k ≡ true) m calls
      → Each (λ n c. Granted n c → Retags n k x i c → ⊥) m calls → cell_in (run m calls).tags x i ≡ cell_in m.tags x i
  unfolding run next
  tag_kept [] m st inv is no_call_numbers no_call_numbers = refl
  tag_kept (c ∷ calls) m st inv is (each_call claim claims) (each_call none rest) =
      tag_kept calls (next m c) (standing_next m v f c st) (inv_step m c inv) (step_keeps m v f st c k x claim is) claims rest
      ∙ unless_same _ _ (λ differs. let by = (content_left m inv k x is i low c).of_tag differs in none by.0 by.1)

pub content_kept_while_claimed : ContentKeptWhileClaimed
content_kept_while_claimed m r k f is i low calls claims =
    let st = always_formed m r in
    let inv = inv_reached m r in
    (cell_kept r.v r.f k f i low calls m st inv is claims, tag_kept r.v r.f k f i low calls m st inv is claims)

pub content_kept_until_let_go : ContentKeptUntilLetGo
content_kept_until_let_go m r q k f h is i low calls none =
    let counted = (run_counts calls m r.v r.f (always_formed m r) q k none).1 h in
    content_kept_while_claimed m r k f is i low calls (each_claimed q k calls m counted)
