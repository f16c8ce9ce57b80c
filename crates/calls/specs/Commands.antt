-- Document 01, "Commands", and the requests since: the one table of commands and their operands.
use Rattle.std.specs.Prelude.{ℕ, ◌+◌, ◌-◌, List, [], ◌∷◌, map, get_or, length, ◌++◌, replicate}
use Rattle.pages.specs.declared.VirtualPage.{VirtualPage}
use Rattle.pages.specs.declared.Frame.{Frame}
use Rattle.calls.specs.Bytes.{bytes_in, numbers_at, sum, Fit}
use Rattle.calls.specs.Parts.{parts_of}
use Rattle.calls.specs.declared.Call.{Call}
use Rattle.calls.specs.declared.Call.TheVariants.{Take, Split, Merge, Give, Revoke, Sweep, Collect, Map, Unmap, Zero, Load, Store, Narrow, Number, Grant, Receive, TakeMasked, Create, Claim, Release, Destroy}

abbrev pub page : ℕ → VirtualPage
page n = record { 0 = n }

abbrev pub frame : ℕ → Frame
frame n = record { 0 = n }

-- A command: the widths of its operands in order, and the call that operands `x 0`, `x 1`, .. make.
pub record Command : Type 0 where
  pub widths : List ℕ
  pub make : (ℕ → ℕ) → Call

abbrev pub command : List ℕ → ((ℕ → ℕ) → Call) → Command
command ws f = record { widths = ws; make = f }

-- The first row. It stands apart since a byte past the table, of which nobody asks, gives it too.
abbrev pub take_command : Command
take_command = command (1 ∷ 2 ∷ 1 ∷ []) (λ x. Take (x 0) (x 1) (x 2))

-- The commands from 01 on, a row each.
abbrev pub commands : List Command
commands =
    -- 01 take P base/2 reg
    take_command
    -- 02 split P base/2 len/2
    ∷ command (1 ∷ 2 ∷ 2 ∷ []) (λ x. Split (x 0) (x 1) (x 2))
    -- 03 merge P base/2
    ∷ command (1 ∷ 2 ∷ []) (λ x. Merge (x 0) (x 1))
    -- 04 give P base/2 to
    ∷ command (1 ∷ 2 ∷ 1 ∷ []) (λ x. Give (x 0) (x 1) (x 2))
    -- 05 revoke P base/2
    ∷ command (1 ∷ 2 ∷ []) (λ x. Revoke (x 0) (x 1))
    -- 06 sweep P n/2
    ∷ command (1 ∷ 2 ∷ []) (λ x. Sweep (x 0) (x 1))
    -- 07 collect P
    ∷ command (1 ∷ []) (λ x. Collect (x 0))
    -- 08 map P page frame
    ∷ command (1 ∷ 1 ∷ 1 ∷ []) (λ x. Map (x 0) (page (x 1)) (frame (x 2)))
    -- 09 unmap P page
    ∷ command (1 ∷ 1 ∷ []) (λ x. Unmap (x 0) (page (x 1)))
    -- 0A zero P frame
    ∷ command (1 ∷ 1 ∷ []) (λ x. Zero (x 0) (frame (x 1)))
    -- 0B load P a off/2 d
    ∷ command (1 ∷ 1 ∷ 2 ∷ 1 ∷ []) (λ x. Load (x 0) (x 1) (x 2) (x 3))
    -- 0C store P a off/2 s
    ∷ command (1 ∷ 1 ∷ 2 ∷ 1 ∷ []) (λ x. Store (x 0) (x 1) (x 2) (x 3))
    -- 0D narrow P s off/2 len/2 mask d
    ∷ command (1 ∷ 1 ∷ 2 ∷ 2 ∷ 1 ∷ 1 ∷ []) (λ x. Narrow (x 0) (x 1) (x 2) (x 3) (x 4) (x 5))
    -- 0E number P d value/8
    ∷ command (1 ∷ 1 ∷ 8 ∷ []) (λ x. Number (x 0) (x 1) (x 2))
    -- 0F grant P s to
    ∷ command (1 ∷ 1 ∷ 1 ∷ []) (λ x. Grant (x 0) (x 1) (x 2))
    -- 10 receive P d
    ∷ command (1 ∷ 1 ∷ []) (λ x. Receive (x 0) (x 1))
    -- 11 take P base/2 reg mask
    ∷ command (1 ∷ 2 ∷ 1 ∷ 1 ∷ []) (λ x. TakeMasked (x 0) (x 1) (x 2) (x 3))
    -- 12 create P parent child limit/2 holder
    ∷ command (1 ∷ 1 ∷ 1 ∷ 2 ∷ 1 ∷ []) (λ x. Create (x 0) (x 1) (x 2) (x 3) (x 4))
    -- 13 claim P principal page
    ∷ command (1 ∷ 1 ∷ 1 ∷ []) (λ x. Claim (x 0) (x 1) (page (x 2)))
    -- 14 release P principal page
    ∷ command (1 ∷ 1 ∷ 1 ∷ []) (λ x. Release (x 0) (x 1) (page (x 2)))
    -- 15 destroy P principal
    ∷ command (1 ∷ 1 ∷ []) (λ x. Destroy (x 0) (x 1))
    ∷ []

-- The byte of the last command, which is how many there are.
abbrev pub last_byte : ℕ
last_byte = length commands

-- The command of a byte that is one.
abbrev pub command_of : ℕ → Command
command_of k = get_or commands (k - 1) take_command

-- The length of each command with its own byte, and 0 at 0, which is none.
abbrev pub lengths : List ℕ
lengths = 0 ∷ map (λ c. 1 + sum c.widths) commands

-- A command's length; 0 for a byte that is no command.
abbrev pub command_length : ℕ → ℕ
command_length k = get_or lengths k 0

-- The call that the operands after a command's byte make.
abbrev pub call_at : ℕ → List ℕ → Call
call_at k s = (command_of k).make (λ i. get_or (numbers_at (command_of k).widths 1 s) i 0)

-- A call's command byte.
abbrev pub byte_of : Call → ℕ
byte_of c = (parts_of c).0

-- Its operands.
abbrev pub operands_of : Call → List ℕ
operands_of c = (parts_of c).1

-- The bytes that a call is written as.
abbrev pub bytes_of : Call → List ℕ
bytes_of c = byte_of c ∷ bytes_in (command_of (byte_of c)).widths (operands_of c)

-- Each operand fits its width.
abbrev pub Fitting : Call → Type 0
Fitting c = Fit (command_of (byte_of c)).widths (operands_of c)

-- Bytes with 0 after them, up to the length of the longest command.
abbrev pub padded : List ℕ → List ℕ
padded s = s ++ replicate (11 - length s) 0
