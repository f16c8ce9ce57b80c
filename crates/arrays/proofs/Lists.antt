-- Lists and their entries, replaced by what a function makes of them. Assumes nothing.
use Prim.Native.Nat.{suc}
use mathlib.Core.List.{List, [], ◌∷◌, map}
use mathlib.Core.Path.{◌≡◌, refl, ap}
use lib.ListN.{length}
pub use Rattle.capabilities.proofs.Lists.{map_set, map_take, map_append, back}

pub length_map : {A B : Type 0} (f : A → B) (l : List A) → length (map f l) ≡ length l
length_map f [] = refl
length_map f (y ∷ l) = ap suc (length_map f l)
