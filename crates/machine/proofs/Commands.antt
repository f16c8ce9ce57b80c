-- What holds of every call holds of every command: it is a call, or refusal 1, 2 or 3. Assumes nothing.
use Rattle.std.specs.Prelude.{Option, Some, None}
use Prim.Native.Nat.{ℕ, ◌≤◌}
use native.Mathlib.Omega.{arith}
use mathlib.Core.Bool.{true}
use mathlib.Core.List.{List}
use mathlib.Core.Path.{◌≡◌, refl, sym, subst}
use lib.ListN.{length, drop}
use Rattle.pages.specs.Layer.{serves}
use Rattle.calls.specs.declared.Call.{Call}
use Rattle.calls.specs.Reader.{read_of}
use Rattle.machine.specs.State.{State}
use Rattle.machine.specs.Formed.{well_formed}
use Rattle.machine.specs.Reasons.{last_refusal}
use Rattle.machine.specs.Step.{Outcome, outcome_with, refused, step_of}
use Rattle.machine.specs.Command.{Ran, used, on_reading, command_judged, command_of}
use Rattle.machine.proofs.Judging.{pick_by, judged_step, refused_keeps}
use Rattle.machine.proofs.Order.{code_at_most}
use Rattle.machine.specs.Demands.{Sized}
use Rattle.machine.proofs.Lengths.{refused_sized, step_sized}
use Rattle.machine.proofs.Keeps.{step_keeps}

-- What a command leaves, without the bytes that it used.
abbrev pub outcome : Ran → Outcome
outcome r = outcome_with r.command.answered r.cells r.tags

module _ (s : State) (input : List ℕ) (at : ℕ) (cells tags : List ℕ) where
  -- What holds of refusals 1 to 3, and of every call on a well-formed state, holds of a command.
  pub command_by :
      (P : Ran → Type 0) → ((k : ℕ) → (k ≡ 0 → ⊥) → k ≤ 3 → P (used 0 (refused k s cells tags)))
      → ((c : Call) (n : ℕ) → well_formed s ≡ true → P (used n (step_of s c cells tags))) → P (command_of s input at cells tags)
  unfolding command_of command_judged on_reading
  command_by P down call =
      pick_by P (well_formed s) (command_judged s input at cells tags) (used 0 (refused 1 s cells tags))
      (λ w.
      pick_by P (serves s.core.pages (length cells) (length tags)) (on_reading s (read_of (drop at input)) cells tags) (used 0 (refused 2 s cells tags))
      (λ m. go w (read_of (drop at input))) (λ m. down 2 (λ z. omega arith) (omega arith)))
      (λ w. down 1 (λ z. omega arith) (omega arith))
    where
      go : well_formed s ≡ true → (r : Option (Call × ℕ)) → P (on_reading s r cells tags)
      go w (Some (c, n)) = subst (λ o. P (used n o)) (sym (judged_step s c cells tags w)) (call c n w)
      go w None = down 3 (λ z. omega arith) (omega arith)

  -- A command keeps the state well formed, so that a run of many may go on from it.
  pub command_keeps : well_formed s ≡ true → well_formed (command_of s input at cells tags).command.answered.state ≡ true
  command_keeps w =
      command_by (λ r. well_formed r.command.answered.state ≡ true) (λ k n b. w) (λ c n h. step_keeps s c cells tags h)

  -- An answer other than 0 keeps the state and lent memory.
  pub command_refused :
      ((command_of s input at cells tags).command.answered.code ≡ 0 → ⊥)
      → outcome (command_of s input at cells tags) ≡ refused (command_of s input at cells tags).command.answered.code s cells tags
  command_refused =
      command_by (λ r. (r.command.answered.code ≡ 0 → ⊥) → outcome r ≡ refused r.command.answered.code s cells tags) (λ k n b z. refl)
      (λ c n h. refused_keeps s c cells tags)

  -- Its code is 0, or the number of a refusal.
  pub command_at_most : (command_of s input at cells tags).command.answered.code ≤ last_refusal
  command_at_most = command_by (λ r. r.command.answered.code ≤ last_refusal) (λ k n b. omega arith) (λ c n h. code_at_most s c cells tags)

  -- It keeps the numbers of registers, mailboxes, lent cells and lent tags.
  pub command_sized : Sized s cells tags (outcome (command_of s input at cells tags))
  command_sized = command_by (λ r. Sized s cells tags (outcome r)) (λ k n b. refused_sized s cells tags k) (λ c n h. step_sized s c cells tags)
