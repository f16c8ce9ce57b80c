-- `operands::write_numbers` meets its contract: the numbers are a call, which is written, or none.
use Rattle.std.specs.Prelude.{ℕ, Option, Some, None, List}
use Rattle.std.specs.Option.{unwrap_or}
use mathlib.Core.Path.{◌≡◌, refl, ap, ◌∙◌}
use Rattle.calls.specs.Writer.{outcome_of}
use Rattle.operands.specs.Numbers.{answered, length_and_buffer}
use Rattle.operands.proofs.Answers.{tested, none_written, call_written}
use Rattle.operands.proofs.write_numbers.Goals as goal

pub returns-then-ne : goal.returns-then-ne
returns-then-ne c =
    let a = c.args in
    none_written a.numbers.now a.out.now
    (tested a.numbers.now c.call_from-call.ensures (c.numbers_of.ensures) c.ne.ensures c.if-ne.true)

-- The length, or 0 for a buffer too short.
length_told : (written : Option ℕ) (out : List ℕ) → answered (unwrap_or written 0) out ≡ length_and_buffer (outcome_of written out)
length_told (Some n) out = refl
length_told None out = refl

pub returns : goal.returns
returns c =
    let a = c.args in
    ap (λ n. answered n c.write_call.new.out) c.unwrap_or.ensures
    ∙ length_told c.write_call.result c.write_call.new.out
    ∙ call_written a.numbers.now a.out.now
    (tested a.numbers.now c.call_from-call.ensures (c.numbers_of.ensures) c.ne.ensures c.if-ne.false)
    c.call_from-call.ensures
    c.write_call.ensures
