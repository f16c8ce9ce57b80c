-- What stands in the arrays is what stands in the state read. Assumes nothing.
use Rattle.std.specs.Prelude.{Option, Some, None, unwrap_or}
use Prim.Native.Nat.{ℕ, ◌+◌, ◌*◌}
use mathlib.Core.Bool.{◌&&◌}
use mathlib.Core.List.{List, []}
use mathlib.Core.Path.{◌≡◌, refl, sym, ap, ◌∙◌}
use Rattle.capabilities.specs.Lists.{pick}
use Rattle.capabilities.specs.Capability.{base_of}
use Rattle.pages.specs.Mapping.{lookup_of}
use Rattle.pages.proofs.OnNumbers as layer
use Rattle.words.specs.declared.Slot.{Slot}
use Rattle.words.specs.Words.{empty, named, register_of, mailbox_of, word_at, place_number}
use Rattle.words.specs.Lent.{register_in}
use Rattle.words.proofs.Lent.{slots_get}
use Rattle.machine.specs.Reasons.{addressed}
use Rattle.arrays.specs.declared.Arrays.{Arrays}
use Rattle.arrays.specs.declared.Numbers.{Numbers}
use Rattle.arrays.specs.Reading.{core_of, state_of, Formed}
use Rattle.arrays.proofs.Facts.{lengths}
use Rattle.calls_in_place.specs.Parts.{lookup_in}

-- The number of a place, or 0.
pub unwrapped : (place : Option ℕ) → unwrap_or place 0 ≡ place_number place
unwrapped (Some at) = refl
unwrapped None = refl

pub register_read : (a : Arrays) → Formed a → (p r : ℕ) → register_of (state_of a).registers p r ≡ register_in a.words a.marks p r
unfolding register_of register_in state_of
register_read a f p r =
    let l = lengths a f in
    ap (λ w. pick (named p && named r) w empty) (slots_get a.words a.marks (8 * p + r) (l.words ∙ sym l.marks))

pub mailbox_read : (a : Arrays) → Formed a → (p : ℕ) → mailbox_of (state_of a).mailboxes p ≡ word_at a.mail a.flags p
unfolding mailbox_of state_of
mailbox_read a f p = let l = lengths a f in slots_get a.mail a.flags p (l.mail ∙ sym l.flags)

module _ (a : Arrays) where
  pub lookup_read : (cell : ℕ) → lookup_of (state_of a).core.pages cell ≡ lookup_in a.nums.v a.pages cell
  unfolding state_of core_of
  lookup_read cell = layer.lookup_read a.nums.v a.nums.f a.pages a.frames cell ∙ sym (layer.lookup_read a.nums.v 0 a.pages [] cell)

  -- The place that a call looks up, of small numbers and pages that are the arrays' own.
  pub addressed_by : (n : Numbers) (pages : List ℕ) → a.nums ≡ n → a.pages ≡ pages → (w : Slot) (off : ℕ)
      → lookup_in n.v pages (base_of w.cell + off) ≡ addressed (state_of a).core w off
  unfolding addressed
  addressed_by n pages en ep w off =
      let cell = base_of w.cell + off in
      ap (λ (o : Numbers). lookup_in o.v pages cell) (sym en) ∙ ap (λ (l : List ℕ). lookup_in a.nums.v l cell) (sym ep) ∙ sym (lookup_read cell)
