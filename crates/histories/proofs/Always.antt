-- A start has the invariant, a step keeps it, so every history has it. Assumes nothing.
use Rattle.std.specs.Prelude.{Some}
use Prim.Native.Nat.{ℕ, ◌/◌}
use native.Mathlib.Omega.{arith}
use mathlib.Core.Bool.{Bool, true, false}
use mathlib.Core.List.{List, [], ◌∷◌}
use mathlib.Core.Logic.{⊎_elim}
use mathlib.Core.Path.{◌≡◌, refl, sym, ap, subst, ◌∙◌}
use lib.ListN.{get_or}
use Rattle.capabilities.specs.Lists.{pick}
use Rattle.capabilities.proofs.Lists.{same_everywhere}
use Rattle.pages.specs.declared.FrameState.TheVariants.{Dirty, Free}
use Rattle.pages.specs.declared.PageState.TheVariants.{Unmapped, Mapped}
use Rattle.pages.specs.Entries.{page_entry, frame_entry}
use Rattle.pages.specs.Layer.{page_at, frame_at, fresh_of, in_range, blank}
use Rattle.pages.specs.Mapping.{lookup_of}
use Rattle.reservations.specs.Revocation.{fresh_core}
use Rattle.calls.specs.declared.Call.{Call}
use Rattle.words.specs.Words.{empty}
use Rattle.machine.specs.Formed.{fresh, start_of}
use Rattle.machine.proofs.Deeds.{deed}
use Rattle.histories.specs.Runs.{Machine, next, run, begun, Reached}
use Rattle.histories.specs.Inv.{Sound, Inv}
use Rattle.histories.proofs.View.{seen, shown_by}
use Rattle.histories.proofs.Keep.{none_sound}
use Rattle.histories.proofs.Granted.{went_or_not, went_next, went_core, went_cells, went_tags}
use Rattle.histories.proofs.Calls.{keep_deed}

-- A step keeps the invariant, granted or refused.
pub inv_step : (m : Machine) (c : Call) → Inv m → Inv (next m c)
inv_step m c i =
    ⊎_elim (λ w. subst Inv (sym (went_next m c w)) (keep_deed m.state m.cells m.tags i (went_core m c w) (went_cells m c w) (went_tags m c w) (deed m.state c m.cells m.tags w.clear)))
    (λ n. subst Inv (sym n.0) i) (went_or_not m c)

pub inv_run : (calls : List Call) (m : Machine) → Inv m → Inv (run m calls)
unfolding run
inv_run [] m i = i
inv_run (c ∷ calls) m i = inv_run calls (next m c) (inv_step m c i)

fresh_page : (v f p : ℕ) → page_at (fresh_of v f) p ≡ Unmapped
unfolding page_at fresh_of
fresh_page v f p = go (in_range v f)
  where
    go : (b : Bool) → (get_or (pick b (blank v f) (blank 0 0)).pages p (page_entry Unmapped)).state ≡ Unmapped
    go true = ap (λ e. e.state) (same_everywhere 256 p (page_entry Unmapped))
    go false = ap (λ e. e.state) (same_everywhere 256 p (page_entry Unmapped))

fresh_frame : (v f k : ℕ) → frame_at (fresh_of v f) k ≡ Dirty
unfolding frame_at fresh_of
fresh_frame v f k = go (in_range v f)
  where
    go : (b : Bool) → (get_or (pick b (blank v f) (blank 0 0)).frames k (frame_entry Dirty)).state ≡ Dirty
    go true = ap (λ e. e.state) (same_everywhere 128 k (frame_entry Dirty))
    go false = ap (λ e. e.state) (same_everywhere 128 k (frame_entry Dirty))

fresh_shows : (v f x at : ℕ) → lookup_of (fresh_of v f) x ≡ Some at → ⊥
fresh_shows v f x at e =
    let k = seen (fresh_of v f) x at e in
    let z : Unmapped ≡ Mapped k.frame = sym (fresh_page v f (x / 16)) ∙ k.page in
    let y : ◌≡◌ {A = ℕ} 0 1 = cc in
    omega arith

fresh_free : (v f k : ℕ) → frame_at (fresh_of v f) k ≡ Free → ⊥
fresh_free v f k e = let z : Dirty ≡ Free = sym (fresh_frame v f k) ∙ e in let y : ◌≡◌ {A = ℕ} 0 1 = cc in omega arith

-- A start: nothing is tagged, nothing Mapped, nothing Free.
pub inv_begun : (v f : ℕ) (cells tags : List ℕ) → Inv (begun v f cells tags)
unfolding begun start_of fresh fresh_core
inv_begun v f cells tags =
    record {
      registers = λ i. subst (Sound _) (sym (same_everywhere 64 i empty)) (none_sound _);
      mailboxes = λ i. subst (Sound _) (sym (same_everywhere 8 i empty)) (none_sound _);
      memory =
          record {
            confined = λ x. shown_by (Sound _) (fresh_of v f) cells tags x (none_sound _) (λ at e. absurd (fresh_shows v f x at e));
            free = λ k i e b. absurd (fresh_free v f k e);
            behind = λ x at e. absurd (fresh_shows v f x at e);
            unlent = λ x i b o h. shown_by (λ w. w ≡ empty) (fresh_of v f) cells tags x refl (λ at e. absurd (fresh_shows v f x at e));
            bytes = λ x at e. absurd (fresh_shows v f x at e);
          };
    }

-- Every history has it.
pub inv_reached : (m : Machine) → Reached m → Inv m
inv_reached m r = subst Inv (sym r.is) (inv_run r.calls (begun r.v r.f r.cells r.tags) (inv_begun r.v r.f r.cells r.tags))
