-- `claims::tree::leads_up`: a turn goes one parent up.
use Prim.Native.Nat.{ℕ, ◌-◌}
use mathlib.Core.List.{List}
use mathlib.Core.Path.{◌≡◌}
use Rattle.claims.specs.Tree.{leads_up, leads_within}
use Rattle.claims.specs.Numbers.{claims_in}
use Rattle.claims.proofs.tree.leads_up.Given as goal

abbrev pub invariant-loop-turn : goal.invariant-loop-turn
invariant-loop-turn l = (counts : List ℕ) → leads_up (claims_in l.principals counts) l.top l.p ≡ leads_within (31 - l._turn) (claims_in l.principals counts) l.top l.at
