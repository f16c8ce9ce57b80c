-- What a server lends for a state, and how it reads as arrays. Assumes nothing.
use Rattle.std.specs.Prelude.{ℕ, List, [], ◌∷◌, length, get_or, eqb}
use Rattle.capabilities.specs.Lists.{pick}
use Rattle.arrays.specs.declared.Arrays.{Arrays}
use Rattle.arrays.specs.declared.Numbers.{Numbers}
use Rattle.arrays.specs.Reading.{arrays}

-- The small numbers and the nine arrays: ten lists, in the order in which they cross the boundary.
pub record Lent : Type 0 where
  pub numbers : List ℕ
  pub words : List ℕ
  pub marks : List ℕ
  pub mail : List ℕ
  pub flags : List ℕ
  pub rows : List ℕ
  pub pages : List ℕ
  pub frames : List ℕ
  pub principals : List ℕ
  pub counts : List ℕ

abbrev pub lent : List ℕ → List ℕ → List ℕ → List ℕ → List ℕ → List ℕ → List ℕ → List ℕ → List ℕ → List ℕ → Lent
lent numbers words marks mail flags rows pages frames principals counts =
    record { numbers = numbers; words = words; marks = marks; mail = mail; flags = flags; rows = rows; pages = pages; frames = frames; principals = principals; counts = counts }

-- The small numbers by name.
abbrev pub small : ℕ → ℕ → ℕ → ℕ → ℕ → ℕ → Numbers
small v f count place base length = record { v = v; f = f; count = count; place = place; base = base; length = length }

-- There are six small numbers. Another count of them reads as all 0, which is no well-formed state.
unfoldable pub numbers_from : List ℕ → Numbers
numbers_from l =
    pick (eqb (length l) 6) (small (get_or l 0 0) (get_or l 1 0) (get_or l 2 0) (get_or l 3 0) (get_or l 4 0) (get_or l 5 0)) (small 0 0 0 0 0 0)

-- Small numbers written over a list of six; a list of another length is kept.
unfoldable pub numbers_over : Numbers → List ℕ → List ℕ
numbers_over n l =
    pick (eqb (length l) 6) (n.v ∷ n.f ∷ n.count ∷ n.place ∷ n.base ∷ n.length ∷ []) l

-- What is lent as arrays, and arrays written over it.
abbrev pub arrays_in : Lent → Arrays
arrays_in l = arrays (numbers_from l.numbers) l.words l.marks l.mail l.flags l.rows l.pages l.frames l.principals l.counts

abbrev pub arrays_over : Arrays → Lent → Lent
arrays_over a l = lent (numbers_over a.nums l.numbers) a.words a.marks a.mail a.flags a.rows a.pages a.frames a.principals a.counts
