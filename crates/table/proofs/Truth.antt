-- Laws of Bool tests. Assumes nothing.
use mathlib.Core.Bool.{Bool, true, false, ◌&&◌, ◌||◌, true≢false, false≢true}
use mathlib.Core.Path.{◌≡◌, refl}
pub use Rattle.capabilities.proofs.Choice.{both, same_test}

pub and_yes : (a b : Bool) → a ≡ true → a && b ≡ b
and_yes true b e = refl
and_yes false b e = absurd (false≢true e)

pub and_no : (a b : Bool) → a ≡ false → a && b ≡ false
and_no true b e = absurd (true≢false e)
and_no false b e = refl

pub or_left : (a b : Bool) → a || b ≡ false → a ≡ false
or_left true b e = e
or_left false b e = refl

pub or_right : (a b : Bool) → a || b ≡ false → b ≡ false
or_right true b e = absurd (true≢false e)
or_right false b e = e

pub or_first : (a b : Bool) → a ≡ true → a || b ≡ true
or_first true b e = refl
or_first false b e = absurd (false≢true e)

pub or_second : (a b : Bool) → b ≡ true → a || b ≡ true
or_second true b e = refl
or_second false b e = e
