-- Where privacy begins: the refusal and the effect of a call depend only on the core, the mailboxes and what the call reads: registers, and
-- words of lent memory as loaded. Other registers and the rest of lent memory play no part. Assumes nothing.
use Prim.Native.Nat.{ℕ, ◌*◌}
use mathlib.Core.Bool.{Bool, true, not, ◌&&◌}
use mathlib.Core.List.{List, ◌∷◌}
use mathlib.Core.Path.{◌≡◌, refl, sym, ap, ◌∙◌}
use lib.ListN.{length}
use lib.Dec.{eqb}
use Rattle.capabilities.specs.Lists.{each}
use Rattle.capabilities.specs.Refusals.{first, reason}
use Rattle.pages.specs.Layer.{serves}
use Rattle.pages.proofs.Memory.{served}
use Rattle.table.specs.Rows.{live}
use Rattle.table.specs.Tiling.{takers_sound}
use Rattle.claims.specs.Sound.{claims_sound}
use Rattle.reservations.specs.Core.{Core}
use Rattle.reservations.specs.Revocation.{core_sound}
use Rattle.calls.specs.declared.Call.{Call}
use Rattle.words.specs.declared.Slot.{Slot}
use Rattle.machine.specs.State.{State}
use Rattle.words.specs.Words.{mailbox_sound}
use Rattle.machine.specs.Formed.{mailboxes_sound, formed_bare, well_formed}
use Rattle.machine.specs.Reasons.{reads, reasons}
use Rattle.machine.specs.Effects.{effect}
use Rattle.machine.specs.Step.{reasons_on, effect_on, step_of}
use Rattle.machine.proofs.Order.{step_code}

-- Whether a state is well formed depends on the core, the mailboxes and how many registers there are.
unfoldable pub formed_by : Core → List Slot → ℕ → Bool
formed_by k mail registers =
    (((core_sound k && each mailbox_sound 0 mail) && (eqb registers 64 && eqb (length mail) 8)) && claims_sound k.pages.v k.claims)
    && takers_sound (live k.table)

pub formed_by_lem : (s : State) → well_formed s ≡ formed_by s.core s.mailboxes (length s.registers)
unfolding formed_by well_formed formed_bare mailboxes_sound
formed_by_lem s = refl

-- Two states with lent memory that agree in the core, the mailboxes and what the call reads.
pub record Alike (c : Call) (s : State) (cells tags : List ℕ) (t : State) (others marks : List ℕ) : Type 0 where
  pub core : s.core ≡ t.core
  pub mailboxes : s.mailboxes ≡ t.mailboxes
  pub read : reads s.core s.registers cells tags c ≡ reads t.core t.registers others marks c

module _ (c : Call) (s : State) (cells tags : List ℕ) (t : State) (others marks : List ℕ) (a : Alike c s cells tags t others marks) where
  -- The same reasons speak against the call.
  pub same_reasons : reasons_on s c cells tags ≡ reasons_on t c others marks
  same_reasons =
      ap (λ r. reasons s.core s.mailboxes r c) a.read
      ∙ ap (λ k. reasons k s.mailboxes (reads t.core t.registers others marks c) c) a.core
      ∙ ap (λ m. reasons t.core m (reads t.core t.registers others marks c) c) a.mailboxes

  -- The call has the same effect.
  pub same_effect : effect_on s c cells tags ≡ effect_on t c others marks
  same_effect =
      ap (λ r. effect s.core s.mailboxes r c) a.read
      ∙ ap (λ k. effect k s.mailboxes (reads t.core t.registers others marks c) c) a.core
      ∙ ap (λ m. effect t.core m (reads t.core t.registers others marks c) c) a.mailboxes

  -- The codes are equal too, if the lent memories are as long and both states well formed or neither.
  pub same_code :
      well_formed s ≡ well_formed t → length cells ≡ length others → length tags ≡ length marks
      → (step_of s c cells tags).answer.code ≡ (step_of t c others marks).answer.code
  same_code w n m =
      step_code s c cells tags
      ∙ ap (λ b. first (reason 1 (not b) ∷ reason 2 (not (serves s.core.pages (length cells) (length tags))) ∷ reasons_on s c cells tags)) w
      ∙ ap (λ k. first (reason 1 (not (well_formed t)) ∷ reason 2 (not (serves k.pages (length cells) (length tags))) ∷ reasons_on s c cells tags)) a.core
      ∙ ap (λ k. first (reason 1 (not (well_formed t)) ∷ reason 2 (not (serves t.core.pages k (length tags))) ∷ reasons_on s c cells tags)) n
      ∙ ap (λ k. first (reason 1 (not (well_formed t)) ∷ reason 2 (not (serves t.core.pages (length others) k)) ∷ reasons_on s c cells tags)) m
      ∙ ap (λ l. first (reason 1 (not (well_formed t)) ∷ reason 2 (not (serves t.core.pages (length others) (length marks))) ∷ l)) same_reasons
      ∙ sym (step_code t c others marks)

  -- So for well-formed states with lent memory of the right size.
  pub same_code_served :
      well_formed s ≡ true → well_formed t ≡ true
      → serves s.core.pages (length cells) (length tags) ≡ true → serves t.core.pages (length others) (length marks) ≡ true
      → (step_of s c cells tags).answer.code ≡ (step_of t c others marks).answer.code
  same_code_served w x p q =
      let (l, m) = served s.core.pages (length cells) (length tags) p in
      let (n, o) = served t.core.pages (length others) (length marks) q in
      let f : 16 * s.core.pages.f ≡ 16 * t.core.pages.f = ap (λ k. 16 * k.pages.f) a.core in
      same_code (w ∙ sym x) (l ∙ f ∙ sym n) (m ∙ f ∙ sym o)
