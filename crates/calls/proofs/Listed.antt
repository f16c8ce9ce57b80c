-- Made by tools/kinds from the enum of calls: not to be changed here.
-- The calls of each kind fit their row, by computing.
use mathlib.Core.Path.{refl}
use Rattle.calls.specs.declared.Call.{Call}
use Rattle.calls.specs.declared.Call.TheVariants.{Take, Split, Merge, Give, Revoke, Sweep, Collect, Map, Unmap, Zero, Load, Store, Narrow, Number, Grant, Receive, TakeMasked, Create, Claim, Release, Destroy}
use Rattle.calls.proofs.Cases.{Listed}

pub listed : (c : Call) → Listed c
listed (Take party base reg) = record { made = refl; long = refl; shaped = refl }
listed (Split party base len) = record { made = refl; long = refl; shaped = refl }
listed (Merge party base) = record { made = refl; long = refl; shaped = refl }
listed (Give party base to) = record { made = refl; long = refl; shaped = refl }
listed (Revoke party base) = record { made = refl; long = refl; shaped = refl }
listed (Sweep party n) = record { made = refl; long = refl; shaped = refl }
listed (Collect party) = record { made = refl; long = refl; shaped = refl }
listed (Map party page frame) = record { made = refl; long = refl; shaped = refl }
listed (Unmap party page) = record { made = refl; long = refl; shaped = refl }
listed (Zero party frame) = record { made = refl; long = refl; shaped = refl }
listed (Load party a off d) = record { made = refl; long = refl; shaped = refl }
listed (Store party a off s) = record { made = refl; long = refl; shaped = refl }
listed (Narrow party s off len mask d) = record { made = refl; long = refl; shaped = refl }
listed (Number party d value) = record { made = refl; long = refl; shaped = refl }
listed (Grant party s to) = record { made = refl; long = refl; shaped = refl }
listed (Receive party d) = record { made = refl; long = refl; shaped = refl }
listed (TakeMasked party base reg mask) = record { made = refl; long = refl; shaped = refl }
listed (Create party parent child limit holder) = record { made = refl; long = refl; shaped = refl }
listed (Claim party principal page) = record { made = refl; long = refl; shaped = refl }
listed (Release party principal page) = record { made = refl; long = refl; shaped = refl }
listed (Destroy party principal) = record { made = refl; long = refl; shaped = refl }
