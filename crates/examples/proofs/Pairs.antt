-- Two lists of calls written as one, with their answers, so that a reader sees where they differ; what they meet of what the
-- claim asks; and the law that a pair which meets all is within the claim. Assumes nothing.
use Prim.Native.Nat.{ℕ, ◌*◌}
use mathlib.Core.Bool.{Bool, true, false, not, ◌&&◌, ◌||◌, false≢true}
use mathlib.Core.List.{List, [], ◌∷◌}
use mathlib.Core.Path.{◌≡◌, refl, sym, ap, ◌∙◌}
use borrow.Author.Tests.{eqb-true}
use lib.Dec.{eqb}
use lib.ListN.{length}
use Rattle.capabilities.specs.Lists.{pick, all}
use Rattle.capabilities.proofs.Choice.{and_left, and_right}
use Rattle.calls.specs.declared.Call.{Call}
use Rattle.words.specs.declared.Slot.{Slot}
use Rattle.words.specs.Words.{slot, register_of}
use Rattle.machine.specs.Formed.{start_of}
use Rattle.machine.specs.Roles.{IsTake}
use Rattle.machine.proofs.Computing.{computing}
use Rattle.histories.specs.Runs.{Machine, outcome, next, run, begun, granted}
use Rattle.histories.specs.Live.{virtual, word_in}
use Rattle.privacy.specs.Rule.{Registers, in_registers, housed, Time, taken_range, ending, until, into, aimed, struck, Left, remaining, left, indiscreet, discreet, Told, told}
use Rattle.privacy.specs.Claim.{Within, at_take, after_take, time}

-- A call of both lists, with its answer in each; or of the first or the second alone, with its answer.
pub data Entry : Type 0 where
  in_both : Call → Told → Told → Entry
  in_one : Call → Told → Entry
  in_two : Call → Told → Entry

abbrev pub says : ℕ → ℕ → Bool → Told
says code number tag = record { code = code; number = number; tag = tag }

-- Granted, with number 0 and tag 0.
abbrev pub fine : Told
fine = says 0 0 false

-- A call of both lists, answered alike.
abbrev pub same : Call → Told → Entry
same c a = in_both c a a

unfoldable pub ones : List Entry → List Call
ones [] = []
ones (in_both c a b ∷ l) = c ∷ ones l
ones (in_one c a ∷ l) = c ∷ ones l
ones (in_two c a ∷ l) = ones l

unfoldable pub twos : List Entry → List Call
twos [] = []
twos (in_both c a b ∷ l) = c ∷ twos l
twos (in_one c a ∷ l) = twos l
twos (in_two c a ∷ l) = c ∷ twos l

abbrev alike : Bool → Bool → Bool
alike a b = pick a b (not b)

abbrev same_slot : Slot → Slot → Bool
same_slot v w = eqb v.cell w.cell && alike v.tag w.tag

abbrev same_registers : Registers → Registers → Bool
same_registers r s = same_slot r.one s.one && same_slot r.two s.two

abbrev same_told : Told → Told → Bool
same_told a b = (eqb a.code b.code && eqb a.number b.number) && alike a.tag b.tag

abbrev answers : Machine → Call → Told → Bool
answers m c a = same_told (told (outcome m c).answer) a

-- What two lists meet, each in its own run: the answers are those written; the calls left are the same (one of a single list is
-- struck, one of both is struck in both or in neither); the house's among them read equal registers.
pub record Met : Type 0 where
  pub answered : Bool
  pub calls : Bool
  pub registers : Bool

unfoldable pub walk : ℕ → Time → Machine → Time → Machine → List Entry → Met
walk house t g u h [] = record { answered = true; calls = true; registers = true }
walk house t g u h (in_both c a b ∷ l) =
    let rest = walk house (until t g c) (next g c) (until u h c) (next h c) l in
    record {
      answered = (answers g c a && answers h c b) && rest.answered;
      calls = alike (struck house t g c) (struck house u h c) && rest.calls;
      registers = (struck house t g c || same_registers (remaining house g c).registers (remaining house h c).registers) && rest.registers;
    }
walk house t g u h (in_one c a ∷ l) =
    let rest = walk house (until t g c) (next g c) u h l in
    record {
      answered = answers g c a && rest.answered;
      calls = struck house t g c && rest.calls;
      registers = rest.registers;
    }
walk house t g u h (in_two c a ∷ l) =
    let rest = walk house t g (until u h c) (next h c) l in
    record {
      answered = answers h c a && rest.answered;
      calls = struck house u h c && rest.calls;
      registers = rest.registers;
    }

-- An answer to another party differs.
unfoldable pub noticed : ℕ → List Entry → Bool
noticed house [] = false
noticed house (in_both c a b ∷ l) = (not (housed house c) && not (same_told a b)) || noticed house l
noticed house (in_one c a ∷ l) = noticed house l
noticed house (in_two c a ∷ l) = noticed house l

-- V, F and lent memory; the calls before the take; the take, with its party, which is the house, and its operands; and what comes after.
pub record Pair : Type 0 where
  pub v : ℕ
  pub f : ℕ
  pub cells : List ℕ
  pub tags : List ℕ
  pub before : List Call
  pub take : Call
  pub house : ℕ
  pub base : ℕ
  pub reg : ℕ
  pub permissions : ℕ
  pub takes : IsTake take house base reg permissions
  pub after : List Entry

abbrev time_of : Pair → Time
time_of p = time p.v p.f p.cells p.tags p.before p.take p.house p.base p.reg p.permissions

-- What the take gets, and what it leaves.
abbrev at_take_of : Pair → Machine
at_take_of p = at_take p.v p.f p.cells p.tags p.before p.take p.house p.base p.reg p.permissions

abbrev after_take_of : Pair → Machine
after_take_of p = after_take p.v p.f p.cells p.tags p.before p.take p.house p.base p.reg p.permissions

unfoldable pub met : Pair → Met
met p = walk p.house (time_of p) (after_take_of p) (time_of p) (after_take_of p) p.after

-- The house is discreet in both lists.
unfoldable pub guarded : Pair → Bool
guarded p = discreet p.house (time_of p) (after_take_of p) (ones p.after) && discreet p.house (time_of p) (after_take_of p) (twos p.after)

-- The start and the take are granted, over memory of the right size.
unfoldable pub begins : Pair → Bool
begins p =
    (eqb (start_of p.v p.f).code 0 && granted (at_take_of p) p.take)
    && (eqb (length p.cells) (16 * p.f) && eqb (length p.tags) (16 * p.f))

-- Besides, the answers are those written, and the others notice nothing; or they notice.
abbrev shows : Bool → Pair → Bool
shows b p = begins p && ((met p).answered && alike (noticed p.house p.after) b)

-- All that the claim asks is met, and the others notice nothing.
unfoldable pub unnoticed : Pair → Bool
unnoticed p = (((met p).calls && (met p).registers) && guarded p) && shows false p

-- All but the house's discretion is met, and the others notice.
unfoldable pub unguarded : Pair → Bool
unguarded p = (((met p).calls && (met p).registers) && not (guarded p)) && shows true p

-- All but that the house's calls that are left read equal registers is met, and the others notice.
unfoldable pub unequal : Pair → Bool
unequal p = (((met p).calls && not (met p).registers) && guarded p) && shows true p

-- All is met, and yet after both lists a virtual cell shows different words, and a register of the house's holds different ones.
unfoldable pub differing : ℕ → ℕ → Pair → Bool
differing v r p =
    let one = run (after_take_of p) (ones p.after) in
    let two = run (after_take_of p) (twos p.after) in
    unnoticed p
    && (not (same_slot (word_in one (virtual v)) (word_in two (virtual v)))
    && not (same_slot (register_of one.state.registers p.house r) (register_of two.state.registers p.house r)))

-- All that these tests compute with.
unfoldable pub comparing : ℕ
unfolding computing outcome next run begun taken_range ending until into aimed struck remaining indiscreet discreet ones twos walk noticed met guarded begins unnoticed unguarded unequal differing all
comparing = 0

-- Equal by the tests is equal.
alike_same : (a b : Bool) → alike a b ≡ true → a ≡ b
alike_same true true e = refl
alike_same true false e = absurd (false≢true e)
alike_same false true e = absurd (false≢true e)
alike_same false false e = refl

slot_same : (v w : Slot) → same_slot v w ≡ true → v ≡ w
slot_same v w e =
    ap (λ n. slot n v.tag) (eqb-true v.cell w.cell (and_left (eqb v.cell w.cell) (alike v.tag w.tag) e))
    ∙ ap (slot w.cell) (alike_same v.tag w.tag (and_right (eqb v.cell w.cell) (alike v.tag w.tag) e))

registers_same : (r s : Registers) → same_registers r s ≡ true → r ≡ s
registers_same r s e =
    ap (λ w. in_registers w r.two) (slot_same r.one s.one (and_left (same_slot r.one s.one) (same_slot r.two s.two) e))
    ∙ ap (in_registers s.one) (slot_same r.two s.two (and_right (same_slot r.one s.one) (same_slot r.two s.two) e))

-- One call of both lists: struck in both, or left in both with equal registers.
one_left : (x y : Bool) (c : Call) (r s : Registers) (k l : List Left) → alike x y ≡ true → x || same_registers r s ≡ true → k ≡ l
    → pick x k (record { call = c; registers = r } ∷ k) ≡ pick y l (record { call = c; registers = s } ∷ l)
one_left true true c r s k l e f g = g
one_left true false c r s k l e f g = absurd (false≢true e)
one_left false true c r s k l e f g = absurd (false≢true e)
one_left false false c r s k l e f g = ap (λ w. record { call = c; registers = w } ∷ k) (registers_same r s f) ∙ ap (λ j. record { call = c; registers = s } ∷ j) g

struck_left : (x : Bool) (w : Left) (l : List Left) → x ≡ true → pick x l (w ∷ l) ≡ l
struck_left true w l e = refl
struck_left false w l e = absurd (false≢true e)

left_same : (house : ℕ) (t : Time) (g : Machine) (u : Time) (h : Machine) (l : List Entry) → (walk house t g u h l).calls ≡ true → (walk house t g u h l).registers ≡ true
    → left house t g (ones l) ≡ left house u h (twos l)
unfolding walk left ones twos remaining
left_same house t g u h [] e f = refl
left_same house t g u h (in_both c a b ∷ l) e f =
    let n = walk house (until t g c) (next g c) (until u h c) (next h c) l in
    one_left (struck house t g c) (struck house u h c) c (remaining house g c).registers (remaining house h c).registers
    (left house (until t g c) (next g c) (ones l)) (left house (until u h c) (next h c) (twos l))
    (and_left (alike (struck house t g c) (struck house u h c)) n.calls e)
    (and_left (struck house t g c || same_registers (remaining house g c).registers (remaining house h c).registers) n.registers f)
    (left_same house (until t g c) (next g c) (until u h c) (next h c) l (and_right (alike (struck house t g c) (struck house u h c)) n.calls e)
    (and_right (struck house t g c || same_registers (remaining house g c).registers (remaining house h c).registers) n.registers f))
left_same house t g u h (in_one c a ∷ l) e f =
    let n = walk house (until t g c) (next g c) u h l in
    struck_left (struck house t g c) (remaining house g c) (left house (until t g c) (next g c) (ones l)) (and_left (struck house t g c) n.calls e)
    ∙ left_same house (until t g c) (next g c) u h l (and_right (struck house t g c) n.calls e) f
left_same house t g u h (in_two c a ∷ l) e f =
    let n = walk house t g (until u h c) (next h c) l in
    left_same house t g (until u h c) (next h c) l (and_right (struck house u h c) n.calls e) f
    ∙ sym (struck_left (struck house u h c) (remaining house h c) (left house (until u h c) (next h c) (twos l)) (and_left (struck house u h c) n.calls e))

-- A pair that meets all is within the claim.
abbrev pub WithinOf : Pair → Type 0
WithinOf p = Within p.v p.f p.cells p.tags p.before p.take p.house p.base p.reg p.permissions (ones p.after) (twos p.after)

pub within : (p : Pair) → unnoticed p ≡ true → WithinOf p
unfolding unnoticed met guarded begins
within p e =
    let same = (met p).calls && (met p).registers in
    let asked = and_left (same && guarded p) (shows false p) e in
    let left = and_left same (guarded p) asked in
    let quiet = and_right same (guarded p) asked in
    let start = and_left (begins p) ((met p).answered && alike (noticed p.house p.after) false) (and_right (same && guarded p) (shows false p) e) in
    let code = eqb (start_of p.v p.f).code 0 in
    let took = granted (at_take_of p) p.take in
    let cells = eqb (length p.cells) (16 * p.f) in
    let tags = eqb (length p.tags) (16 * p.f) in
    let grants = and_left (code && took) (cells && tags) start in
    let sized = and_right (code && took) (cells && tags) start in
    record {
      begins =
          record {
            granted = eqb-true (start_of p.v p.f).code 0 (and_left code took grants);
            of_cells = eqb-true (length p.cells) (16 * p.f) (and_left cells tags sized);
            of_tags = eqb-true (length p.tags) (16 * p.f) (and_right cells tags sized);
          };
      takes = p.takes;
      took = and_right code took grants;
      same = left_same p.house (time_of p) (after_take_of p) (time_of p) (after_take_of p) p.after (and_left (met p).calls (met p).registers left) (and_right (met p).calls (met p).registers left);
      discreet₁ = and_left (discreet p.house (time_of p) (after_take_of p) (ones p.after)) (discreet p.house (time_of p) (after_take_of p) (twos p.after)) quiet;
      discreet₂ = and_right (discreet p.house (time_of p) (after_take_of p) (ones p.after)) (discreet p.house (time_of p) (after_take_of p) (twos p.after)) quiet;
    }

abbrev pub EachWithin : List Pair → Type 0
EachWithin [] = Unit {0}
EachWithin (p ∷ l) = WithinOf p × EachWithin l

pub each_within : (l : List Pair) → all unnoticed l ≡ true → EachWithin l
unfolding all
each_within [] e = tt
each_within (p ∷ l) e = (within p (and_left (unnoticed p) (all unnoticed l) e), each_within l (and_right (unnoticed p) (all unnoticed l) e))
