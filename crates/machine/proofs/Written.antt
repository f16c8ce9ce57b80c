-- A command on written bytes is the call that was written. Assumes nothing.
use Rattle.std.specs.Prelude.{Some}
use Prim.Native.Nat.{ℕ, ◌<◌}
use native.Mathlib.Omega.{arith}
use mathlib.Core.Bool.{Bool, true, false}
use mathlib.Core.List.{List, ◌++◌}
use mathlib.Core.Logic.{◌⊎◌, inl, inr}
use mathlib.Core.Path.{◌≡◌, refl, sym, ap, ◌∙◌}
use lib.ListN.{length, drop}
use lib.Seq.{drop_at}
use borrow.Author.Tests.{ne_eqb}
use Rattle.capabilities.specs.Lists.{pick}
use Rattle.capabilities.specs.Refusals.{first}
use Rattle.pages.specs.Layer.{serves}
use Rattle.calls.specs.declared.Call.{Call}
use Rattle.calls.specs.Commands.{bytes_of}
use Rattle.calls.specs.Reader.{read_of}
use Rattle.calls.proofs.RoundTrip.{round_trip}
use Rattle.machine.specs.State.{State}
use Rattle.machine.specs.Formed.{well_formed}
use Rattle.machine.specs.Step.{refused, reasons_on, ruled, judged, step_of}
use Rattle.machine.specs.Command.{used, on_reading, command_judged, command_of}
use Rattle.machine.specs.Demands.{used_under, CommandWritten}
use Rattle.machine.proofs.Order.{late_code, ruled_code}

-- A call judged by its own reasons answers neither 1 nor 2.
late : (s : State) (c : Call) (cells tags : List ℕ) (n : ℕ) → used_under (ruled s c cells tags).answer.code n ≡ n
late s c cells tags n = rw (ruled_code s c cells tags) (go (late_code s c cells tags))
  where
    go : (first (reasons_on s c cells tags) ≡ 0) ⊎ (3 < first (reasons_on s c cells tags)) → used_under (first (reasons_on s c cells tags)) n ≡ n
    go (inl z) = rw z
    go (inr p) = rw (ne_eqb (first (reasons_on s c cells tags)) 1 (λ z. omega (arith, p)), ne_eqb (first (reasons_on s c cells tags)) 2 (λ z. omega (arith, p)))

-- Whatever stands before and after it, a call that was written runs as that call; it uses the bytes that were written,
-- or none under refusals 1 and 2.
module _ (s : State) (c : Call) (before rest cells tags : List ℕ) where
  found : read_of (drop (length before) (before ++ (bytes_of c ++ rest))) ≡ Some (c, length (bytes_of c))
  found = ap read_of (drop_at before (bytes_of c ++ rest) (length before) refl) ∙ round_trip c rest

  judged_written :
      command_judged s (before ++ (bytes_of c ++ rest)) (length before) cells tags
      ≡ used (used_under (judged s c cells tags).answer.code (length (bytes_of c))) (judged s c cells tags)
  unfolding command_judged on_reading judged
  judged_written = rw found (go (serves s.core.pages (length cells) (length tags)) refl)
    where
      n : ℕ
      n = length (bytes_of c)

      go : (b : Bool) → serves s.core.pages (length cells) (length tags) ≡ b
          → pick b (used n (pick (serves s.core.pages (length cells) (length tags)) (ruled s c cells tags) (refused 2 s cells tags))) (used 0 (refused 2 s cells tags))
          ≡ used (used_under (pick b (ruled s c cells tags) (refused 2 s cells tags)).answer.code n) (pick b (ruled s c cells tags) (refused 2 s cells tags))
      go true e = rw e (ap (λ m. used m (ruled s c cells tags)) (sym (late s c cells tags n)))
      go false e = refl

pub command_written : CommandWritten
unfolding command_of step_of
command_written s c before rest cells tags = go (well_formed s)
  where
    go : (b : Bool) → pick b (command_judged s (before ++ (bytes_of c ++ rest)) (length before) cells tags) (used 0 (refused 1 s cells tags))
        ≡ used (used_under (pick b (judged s c cells tags) (refused 1 s cells tags)).answer.code (length (bytes_of c))) (pick b (judged s c cells tags) (refused 1 s cells tags))
    go true = judged_written s c before rest cells tags
    go false = refl
