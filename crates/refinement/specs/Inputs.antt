-- The calls that an input reads as from a place on, by the reader alone: no state is asked. They are read one after another, as many as
-- there is room for, up to the input's end or to the first bytes that read as no call. Assumes nothing.
use Rattle.std.specs.Prelude.{ℕ, zero, suc, ◌+◌, Bool, false, List, [], ◌∷◌, length, drop, ltb, Option, Some, None}
use Rattle.calls.specs.declared.Call.{Call}
use Rattle.calls.specs.Reader.{read_of}

-- The calls, the place that they end at, and whether bytes that read as no call stand there, with room for an answer.
pub record Parse : Type 0 where
  pub calls : List Call
  pub at : ℕ
  pub stuck : Bool

abbrev pub parse : List Call → ℕ → Bool → Parse
parse calls at stuck = record { calls = calls; at = at; stuck = stuck }

-- With a call before it.
abbrev pub reading : Call → Parse → Parse
reading c p = parse (c ∷ p.calls) p.at p.stuck

-- What is read at a place, and the rest of the input after it.
abbrev pub read_then : Option (Call × ℕ) → ℕ → Bool → (ℕ → Parse) → Parse
read_then (Some (c, n)) at more rest = reading c (rest (at + n))
read_then None at more rest = parse [] at more

unfoldable pub parse_from : ℕ → List ℕ → ℕ → Parse
parse_from zero input at = parse [] at false
parse_from (suc room) input at = read_then (read_of (drop at input)) at (ltb at (length input)) (λ next. parse_from room input next)
