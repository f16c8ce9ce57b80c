-- What a server does between a start and its end: a list of uses of the exported functions, by their own definitions. And what bytes
-- stand in it for: the calls that they read as, and for each the answer that the server finds in the numbers it lent. Assumes nothing.
use Rattle.std.specs.Prelude.{ℕ, ◌/◌, List, [], ◌∷◌, ◌++◌, length, take, drop, leb}
use Rattle.capabilities.specs.Lists.{pick}
use Rattle.calls.specs.declared.Call.{Call}
use Rattle.maps.specs.declared.Question.{Question}
use Rattle.cetomuhi.specs.Lent.{Lent}
use Rattle.cetomuhi.specs.Exports.{Done, done, Reached, start_lent, command_lent, commands_lent}
use Rattle.refinement.specs.Inputs.{parse_from}

-- All that is lent and kept from one use to the next.
pub record Served : Type 0 where
  pub lent : Lent
  pub cells : List ℕ
  pub tags : List ℕ

abbrev pub serving : Lent → List ℕ → List ℕ → Served
serving l cells tags = record { lent = l; cells = cells; tags = tags }

-- One command, or a run of them: an input, a place in it, and numbers lent for the answers. Or a question: whether the state is formed;
-- what a page costs; which of its own reservations lie in a range, with numbers lent for the answer; which Open one is nearest.
pub data Use : Type 0 where
  command : List ℕ → ℕ → List ℕ → Use
  commands : List ℕ → ℕ → List ℕ → Use
  formed : Use
  cost : ℕ → Use
  list : Question → ℕ → List ℕ → Use
  nearest : ℕ → ℕ → ℕ → ℕ → Use

-- The two functions that change what is lent.
pub record Entries : Type 0 where
  pub command : Lent → List ℕ → ℕ → List ℕ → List ℕ → List ℕ → Done
  pub commands : Lent → List ℕ → ℕ → List ℕ → List ℕ → List ℕ → Reached

-- Those that are exported.
abbrev pub exported : Entries
exported = record { command = command_lent; commands = commands_lent }

-- What a start lends on, with the server's cells and tags.
abbrev pub begins : ℕ → ℕ → Lent → List ℕ → List ℕ → Served
begins v f l cells tags = serving (start_lent v f l).lent cells tags

-- A question is lent everything unchangeable: it keeps all, and there is no answer to a call.
abbrev pub asked : Served → Done
asked s = done 0 s.lent s.cells s.tags []

-- The calls that a use's bytes read as: one if there is room for its answer, which is four numbers; of a run one for every four.
unfoldable pub calls_in : Use → List Call
calls_in (command input at answers) = (parse_from (pick (leb 4 (length answers)) 1 0) input at).calls
calls_in (commands input at answers) = (parse_from (length answers / 4) input at).calls
calls_in formed = []
calls_in (cost n) = []
calls_in (list q count bases) = []
calls_in (nearest cell cells found base) = []

unfoldable pub calls_of : List Use → List Call
calls_of [] = []
calls_of (u ∷ uses) = calls_in u ++ calls_of uses

-- A call and the four numbers that answer it.
pub record Reply : Type 0 where
  pub call : Call
  pub numbers : List ℕ

abbrev pub reply : Call → List ℕ → Reply
reply c numbers = record { call = c; numbers = numbers }

-- The first four of lent answers are the first call's, and so on.
unfoldable pub replies_in : List Call → List ℕ → List Reply
replies_in [] numbers = []
replies_in (c ∷ calls) numbers = reply c (take 4 numbers) ∷ replies_in calls (drop 4 numbers)

module _ (e : Entries) where
  -- What a use leaves of all that is lent.
  unfoldable pub used : Served → Use → Done
  used s (command input at answers) = e.command s.lent input at s.cells s.tags answers
  used s (commands input at answers) = (e.commands s.lent input at s.cells s.tags answers).done
  used s formed = asked s
  used s (cost n) = asked s
  used s (list q count bases) = asked s
  used s (nearest cell cells found base) = asked s

  abbrev pub served : Served → Use → Served
  served s u = serving (used s u).lent (used s u).cells (used s u).tags

  unfoldable pub served_all : Served → List Use → Served
  served_all s [] = s
  served_all s (u ∷ uses) = served_all (served s u) uses

  -- The replies to all commands that read as calls, as they stand in the lent answers after each use.
  unfoldable pub replies_of : Served → List Use → List Reply
  replies_of s [] = []
  replies_of s (u ∷ uses) = replies_in (calls_in u) (used s u).answers ++ replies_of (served s u) uses
