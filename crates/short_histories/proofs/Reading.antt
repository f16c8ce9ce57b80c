-- The text read line by line: no digit is a newline, so each history's line ends where its newline stands. Assumes nothing.
use Prim.Native.Nat.{ℕ, ◌+◌, ◌/◌, ◌%◌}
use native.Mathlib.Omega.{arith}
use mathlib.Core.Bool.{Bool, true, false}
use mathlib.Core.List.{List, [], ◌∷◌, ◌++◌, map, flatten, append-nil, append_assoc}
use mathlib.Core.Path.{◌≡◌, refl, sym, ◌∙◌, ap}
use lib.Dec.{eqb, ltb}
use borrow.Author.Tests.{ne_eqb}
use Rattle.capabilities.specs.Lists.{pick}
use Rattle.calls.specs.declared.Call.{Call}
use Rattle.short_histories.specs.Text.{bytes_in, digit, digits, hex_line, lines_in, line_of}
use Rattle.short_histories.specs.Histories.{histories, text}
use Rattle.short_histories.specs.Promises.{LineByLine}

no_newline : (n : ℕ) → eqb (digit n) 10 ≡ false
unfolding digit
no_newline n = go (ltb n 10)
  where
    go : (b : Bool) → eqb (pick b (48 + n) (55 + n)) 10 ≡ false
    go true = ne_eqb (48 + n) 10 (λ e. omega arith)
    go false = ne_eqb (55 + n) 10 (λ e. omega arith)

-- A digit belongs to the line that has begun.
digit_in : (begun rest : List ℕ) (n : ℕ) → lines_in begun (digit n ∷ rest) ≡ lines_in (begun ++ (digit n ∷ [])) rest
unfolding lines_in
digit_in begun rest n = ap (λ b. pick b (begun ∷ lines_in [] rest) (lines_in (begun ++ (digit n ∷ [])) rest)) (no_newline n)

line_in : (begun xs rest : List ℕ) → lines_in begun (digits xs ++ (10 ∷ rest)) ≡ (begun ++ digits xs) ∷ lines_in [] rest
unfolding digits
line_in begun [] rest = unfold lines_in in ap (λ l. l ∷ lines_in [] rest) (sym (append-nil begun))
line_in begun (x ∷ xs) rest =
    digit_in begun (digit (x % 16) ∷ (digits xs ++ (10 ∷ rest))) (x / 16)
    ∙ digit_in (begun ++ (digit (x / 16) ∷ [])) (digits xs ++ (10 ∷ rest)) (x % 16)
    ∙ line_in ((begun ++ (digit (x / 16) ∷ [])) ++ (digit (x % 16) ∷ [])) xs rest
    ∙ ap (λ l. l ∷ lines_in [] rest)
    (append_assoc (begun ++ (digit (x / 16) ∷ [])) (digit (x % 16) ∷ []) (digits xs) ∙ append_assoc begun (digit (x / 16) ∷ []) (digit (x % 16) ∷ digits xs))

lines_in_lem : (hs : List (List Call)) → lines_in [] (flatten (map line_of hs)) ≡ map (λ calls. digits (bytes_in calls)) hs
unfolding flatten line_of hex_line
lines_in_lem [] = unfold lines_in in refl
lines_in_lem (h ∷ hs) =
    ap (lines_in []) (append_assoc (digits (bytes_in h)) (10 ∷ []) (flatten (map line_of hs)))
    ∙ line_in [] (bytes_in h) (flatten (map line_of hs)) ∙ ap (λ ls. digits (bytes_in h) ∷ ls) (lines_in_lem hs)

pub line_by_line : LineByLine
unfolding text
line_by_line = lines_in_lem histories
