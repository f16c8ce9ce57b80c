-- Why the claim asks for discretion and for equal registers: without either the others notice, by computing. In two pairs all but
-- discretion is met, in one all but equal registers, and an answer to party 5 differs. And why it compares neither the range before
-- its own collect nor the house's registers: in one pair all is met, and they differ. Assumes nothing.
use mathlib.Core.Bool.{true, false, ◌&&◌}
use mathlib.Core.List.{List, [], ◌∷◌}
use mathlib.Core.Path.{◌≡◌, refl}
use lib.ListN.{replicate}
use Rattle.capabilities.specs.Lists.{all}
use Rattle.calls.specs.Commands.{page, frame}
use Rattle.calls.specs.declared.Call.{Call}
use Rattle.calls.specs.declared.Call.TheVariants.{Split, Give, Revoke, Sweep, Collect, Map, Unmap, Zero, Load, Store, Number, Grant, Receive, TakeMasked}
use Rattle.examples.proofs.Pairs.{Entry, in_both, in_one, in_two, same, says, fine, Pair, unguarded, unequal, differing, comparing}

-- House 3 has page 0, and party 5 has page 1 and granted house 3 its capability, which is in register 5.
abbrev before : List Call
before =
    Zero 0 (frame 0) ∷ Map 0 (page 0) (frame 0) ∷ Zero 0 (frame 1) ∷ Map 0 (page 1) (frame 1) ∷ Split 0 0 16 ∷ Give 0 0 3 ∷ Give 0 16 5 ∷ TakeMasked 5 16 0 15
    ∷ Grant 5 0 3 ∷ Receive 3 5 ∷ []

-- The house keeps 42 or 7 in its page and in register 1; then what follows.
abbrev kept : List Entry → Pair
kept after =
    record {
      v = 2;
      f = 2;
      cells = replicate 32 0;
      tags = replicate 32 0;
      before = before;
      take = TakeMasked 3 0 0 15;
      house = 3;
      base = 0;
      reg = 0;
      permissions = 15;
      takes = refl;
      after = in_one (Number 3 1 42) fine ∷ in_two (Number 3 1 7) fine ∷ same (Store 3 0 5 1) fine ∷ after;
    }

-- The house grants its capability to party 5, which loads by it.
abbrev pub granting : Pair
granting =
    kept
    (same (Grant 3 0 5) fine
    ∷ same (Receive 5 1) (says 0 64425558016 true)
    ∷ in_both (Load 5 1 5 2) (says 0 42 false) (says 0 7 false)
    ∷ [])

-- The house stores its capability to a cell outside, where party 5 finds it and loads by it.
abbrev pub storing : Pair
storing =
    kept
    (same (Store 3 5 0 0) fine
    ∷ same (Load 5 0 0 1) (says 0 64425558016 true)
    ∷ in_both (Load 5 1 5 2) (says 0 42 false) (says 0 7 false)
    ∷ [])

-- The house stores the number itself to a cell outside: a store that is left, and reads unequal registers.
abbrev pub reading : Pair
reading =
    kept
    (same (Store 3 5 0 1) fine
    ∷ in_both (Load 5 0 0 1) (says 0 42 false) (says 0 7 false)
    ∷ [])

-- Another range is collected in the house's time: after it virtual cell 5 shows 42 or 7, and the house's register 1 holds it.
abbrev pub elsewhere : Pair
elsewhere = kept (same (Unmap 0 (page 1)) fine ∷ same (Revoke 0 16) fine ∷ same (Sweep 0 32) fine ∷ same (Collect 0) fine ∷ [])

pub all_needed : (all unguarded (granting ∷ storing ∷ []) && all unequal (reading ∷ [])) && all (differing 5 1) (elsewhere ∷ []) ≡ true
unfolding comparing
all_needed = refl
