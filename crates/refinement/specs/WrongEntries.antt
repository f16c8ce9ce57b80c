-- Examples, and wrong entries. A short list of uses, with what it comes to, so that no theorem here holds for want of a case; and entries
-- with one thing changed, of each of which `Bytes.Refines` is false. Assumes nothing.
use Rattle.std.specs.Prelude.{ℕ, List, [], ◌∷◌, ◌++◌, ◌≡◌, get_or, replicate}
use Rattle.calls.specs.declared.Call.TheVariants.{Take, Give, Map, Zero}
use Rattle.calls.specs.Commands.{page, frame}
use Rattle.maps.specs.declared.Question.TheVariants.{Sharing}
use Rattle.cetomuhi.specs.Lent.{Lent, lent}
use Rattle.cetomuhi.specs.Exports.{Done, done, reached, command_lent, commands_lent}
use Rattle.refinement.specs.Inputs.{parse_from}
use Rattle.refinement.specs.Uses.{Served, Use, command, commands, formed, cost, list, Entries, exported, begins, calls_of, reply, served_all, replies_of}
use Rattle.refinement.specs.Bytes.{Refines, Starts}

-- ---- A server
-- Lists of the machine's lengths, and a frame whose memory is not 0 and all tagged.
abbrev pub zeros : Lent
zeros = lent (replicate 6 0) (replicate 64 0) (replicate 64 0) (replicate 8 0) (replicate 8 0) (replicate 64 0) (replicate 256 0) (replicate 128 0) (replicate 32 0) (replicate 8192 0)

abbrev pub sevens : List ℕ
sevens = replicate 16 7

abbrev pub tagged : List ℕ
tagged = replicate 16 1

-- V = 2 and F = 1.
abbrev pub start : Served
start = begins 2 1 zeros sevens tagged

-- The frame is zeroed; in one run it is mapped, and all cells are given to party 1, and byte FF is no command; questions; party 1 takes
-- them, at place 1 of an input; and a take without room for its answer, which is not done.
abbrev pub uses : List Use
uses =
    command (10 ∷ 0 ∷ 0 ∷ []) 0 (replicate 4 9)
    ∷ commands (8 ∷ 0 ∷ 0 ∷ 0 ∷ 4 ∷ 0 ∷ 0 ∷ 0 ∷ 1 ∷ 255 ∷ []) 0 (replicate 16 9)
    ∷ formed
    ∷ cost 0
    ∷ list (Sharing 0 1) 0 (replicate 64 0)
    ∷ command (0 ∷ 1 ∷ 1 ∷ 0 ∷ 0 ∷ 2 ∷ []) 1 (replicate 4 9)
    ∷ command (1 ∷ 1 ∷ 0 ∷ 0 ∷ 3 ∷ []) 0 (replicate 3 9)
    ∷ []

-- What they come to: the calls, the replies, and register 2 of party 1, which holds base 0, length 32 and permissions 3.
pub record Comes : Type 0 where
  pub starts : Starts 2 1 zeros sevens tagged
  pub calls : calls_of uses ≡ Zero 0 (frame 0) ∷ Map 0 (page 0) (frame 0) ∷ Give 0 0 1 ∷ Take 1 0 2 ∷ []
  pub answers : replies_of exported start uses
      ≡ reply (Zero 0 (frame 0)) (0 ∷ 0 ∷ 0 ∷ 3 ∷ [])
      ∷ reply (Map 0 (page 0) (frame 0)) (0 ∷ 0 ∷ 0 ∷ 4 ∷ [])
      ∷ reply (Give 0 0 1) (0 ∷ 0 ∷ 0 ∷ 5 ∷ [])
      ∷ reply (Take 1 0 2) (0 ∷ 32 ∷ 0 ∷ 5 ∷ [])
      ∷ []
  pub word : get_or (served_all exported start uses).lent.words 10 0 ≡ 12886999040
  pub mark : get_or (served_all exported start uses).lent.marks 10 0 ≡ 1

-- ---- Wrong entries
-- Works on a copy of the arrays, and hands the old ones back; answers and memory are right.
abbrev pub uncopied : Lent → Done → Done
uncopied l d = done d.count l d.cells d.tags d.answers

abbrev pub on_copies : Entries
on_copies = record {
  command = λ l input at cells tags buffer. uncopied l (command_lent l input at cells tags buffer);
  commands = λ l input at cells tags buffer. let r = commands_lent l input at cells tags buffer in reached r.at (uncopied l r.done);
}

-- Skips the first command of a run.
abbrev pub skipping : Entries
skipping = record {
  command = command_lent;
  commands = λ l input at cells tags buffer. commands_lent l input (parse_from 1 input at).at cells tags buffer;
}

-- Does a command without putting its answer.
abbrev pub silent : Entries
silent = record {
  command = λ l input at cells tags buffer. let d = command_lent l input at cells tags buffer in done d.count d.lent d.cells d.tags buffer;
  commands = commands_lent;
}

-- Does a command for whose answer there is no room.
abbrev pub roomless : Entries
roomless = record {
  command = λ l input at cells tags buffer. command_lent l input at cells tags (buffer ++ replicate 4 0);
  commands = commands_lent;
}

pub record AllExcluded : Type 0 where
  pub on_copies_not : Refines on_copies → ⊥
  pub skipping_not : Refines skipping → ⊥
  pub silent_not : Refines silent → ⊥
  pub roomless_not : Refines roomless → ⊥
