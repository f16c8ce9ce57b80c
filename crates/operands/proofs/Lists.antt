-- Why the test whether two slices are the same is exact.
use Prim.Native.Nat.{ℕ}
use native.Mathlib.Nat.{zero-add}
use mathlib.Core.Bool.{Bool, true, false}
use mathlib.Core.List.{List}
use mathlib.Core.Path.{◌≡◌, refl, sym, subst, ◌∙◌}
use lib.Dec.{eqb}
use lib.ListN.{length, get_or}
use lib.Seq.{ext_get_or}
use borrow.Author.Tests.{eqb-true, eq-eqb}
use lib.Pointwise.{pointwise}
use Rattle.std.specs.Bool.{Decides}
use Rattle.std.proofs.lemmas.Bool.Decides.{Decides-eqb}
use Rattle.std.proofs.lemmas.Slice.Eq.{slice_eq-Decides}
use Rattle.capabilities.specs.Lists.{each}
use Rattle.capabilities.proofs.Choice.{and_left, and_right, both}
use Rattle.capabilities.proofs.Lists.{each_at, each_all}
use Rattle.operands.specs.Numbers.{agrees, same}

-- A list is the same as itself.
pub same_self : (xs : List ℕ) → same xs xs ≡ true
unfolding same
same_self xs =
    both (eqb (length xs) (length xs)) (each (agrees xs) 0 xs) (eq-eqb (length xs) (length xs) refl)
    (each_all (agrees xs) 0 xs 0 (λ i h. rw zero-add (eq-eqb (get_or xs i 0) (get_or xs i 0) refl)))

-- Lists that are the same are equal.
pub same_equal : (xs ys : List ℕ) → same xs ys ≡ true → xs ≡ ys
unfolding same
same_equal xs ys e =
    ext_get_or 0 xs ys (eqb-true (length xs) (length ys) (and_left (eqb (length xs) (length ys)) (each (agrees ys) 0 xs) e))
    (λ i h. eqb-true (get_or xs i 0) (get_or ys i 0)
    (rw zero-add at (each_at (agrees ys) 0 xs i 0 h (and_right (eqb (length xs) (length ys)) (each (agrees ys) 0 xs) e))))

-- What the library's `==` says of two lists, `same` says of them in the other order.
pub same_tested : (xs ys : List ℕ) → pointwise eqb xs ys ≡ same ys xs
same_tested xs ys = go (pointwise eqb xs ys) refl (same ys xs) refl
  where
    told : Decides (pointwise eqb xs ys) (xs ≡ ys)
    told = slice_eq-Decides Decides-eqb xs ys (pointwise eqb xs ys) refl

    go : (b : Bool) → pointwise eqb xs ys ≡ b → (r : Bool) → same ys xs ≡ r → pointwise eqb xs ys ≡ same ys xs
    go true e r f = e ∙ sym (subst (λ (s : List ℕ). same s xs ≡ true) (told.0 e) (same_self xs))
    go false e true f = told.1 (sym (same_equal ys xs f)) ∙ sym f
    go false e false f = e ∙ sym f
