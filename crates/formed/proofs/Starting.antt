-- The three ways of a start over lent arrays. Assumes nothing.
use Prim.Native.Nat.{ℕ, ◌≤◌}
use mathlib.Core.Bool.{Bool, true, false, ◌&&◌}
use mathlib.Core.List.{List}
use mathlib.Core.Path.{◌≡◌, sym, ap, ◌∙◌}
use lib.ListN.{length, set, replicate}
use lib.Dec.{eqb, ltb, leb}
use borrow.Author.Tests.{eqb-true, leb-true}
use Rattle.capabilities.specs.Lists.{pick}
use Rattle.capabilities.proofs.Choice.{pick_yes, pick_no, and_left, and_right}
use Rattle.pages.specs.Layer.{in_range}
use Rattle.machine.specs.Formed.{fresh, start_of}
use Rattle.arrays.specs.declared.Arrays.{Arrays}
use Rattle.arrays.specs.declared.Numbers.{Numbers}
use Rattle.arrays.specs.Reading.{arrays, arrays_of}
use Rattle.claims.specs.Numbers.{sized_in}
use Rattle.arrays.proofs.Starting.{begun, fresh_in, fresh_out, first_number, root_number}
use Rattle.formed.specs.Test.{sized}
use Rattle.formed.specs.Fresh.{zeros, starting, start_in}

-- The small numbers where no revocation runs.
abbrev pub numbers : ℕ → ℕ → ℕ → Numbers
numbers v f count = record { v = v; f = f; count = count; place = 0; base = 0; length = 0 }

-- Arrays with other small numbers.
abbrev pub exchanged : Numbers → Arrays → Arrays
exchanged n a = arrays n a.words a.marks a.mail a.flags a.rows a.pages a.frames a.principals a.counts

module _ (v f : ℕ) (a : Arrays) where
  pub start_unfit : sized a ≡ false → starting 1 a ≡ start_in v f a
  unfolding start_in
  start_unfit e = sym (pick_no (sized a) (starting (start_of v f).code (arrays_of (start_of v f).state)) (starting 1 a) e)

  abbrev with_numbers : Numbers → Arrays
  with_numbers n = exchanged n a

  -- The first row is that of all cells, and the first principal the root.
  abbrev with_first : Arrays → Arrays
  with_first b =
      arrays b.nums b.words b.marks b.mail b.flags (set b.rows 0 (first_number v)) b.pages b.frames (set b.principals 0 root_number) b.counts

  module _ (e : sized a ≡ true) where
    abbrev slots : Bool
    slots = (eqb (length a.words) 64 && eqb (length a.marks) 64) && (eqb (length a.mail) 8 && eqb (length a.flags) 8)

    abbrev entries : Bool
    entries = eqb (length a.rows) 64 && (eqb (length a.pages) 256 && eqb (length a.frames) 128)

    abbrev claims : Bool
    claims = sized_in a.principals a.counts

    pub of_rows : length a.rows ≡ 64
    of_rows = eqb-true (length a.rows) 64 (and_left (eqb (length a.rows) 64) _ (and_left entries claims (and_right slots (entries && claims) e)))

    pub of_principals : length a.principals ≡ 32
    of_principals =
        eqb-true (length a.principals) 32 (and_left (eqb (length a.principals) 32) _ (and_right entries claims (and_right slots (entries && claims) e)))

    -- Cleared arrays of the right lengths, with these small numbers, rows and principals.
    zeros_are : (n : Numbers) (rows principals : List ℕ)
        → arrays n (zeros a).words (zeros a).marks (zeros a).mail (zeros a).flags rows (zeros a).pages (zeros a).frames principals (zeros a).counts
        ≡ arrays n (replicate 64 0) (replicate 64 0) (replicate 8 0) (replicate 8 0) rows (replicate 256 0) (replicate 128 0) principals (replicate 8192 0)
    zeros_are n rows principals =
        let one = and_left (eqb (length a.words) 64 && eqb (length a.marks) 64) _ (and_left slots (entries && claims) e) in
        let two = and_right (eqb (length a.words) 64 && eqb (length a.marks) 64) _ (and_left slots (entries && claims) e) in
        let rest = and_right slots (entries && claims) e in
        let three = and_right (eqb (length a.rows) 64) _ (and_left entries claims rest) in
        rw (
          eqb-true (length a.words) 64 (and_left (eqb (length a.words) 64) _ one),
          eqb-true (length a.marks) 64 (and_right (eqb (length a.words) 64) _ one),
          eqb-true (length a.mail) 8 (and_left (eqb (length a.mail) 8) _ two),
          eqb-true (length a.flags) 8 (and_right (eqb (length a.mail) 8) _ two),
          eqb-true (length a.pages) 256 (and_left (eqb (length a.pages) 256) _ three),
          eqb-true (length a.frames) 128 (and_right (eqb (length a.pages) 256) _ three),
          eqb-true (length a.counts) 8192 (and_right (eqb (length a.principals) 32) _ (and_right entries claims rest)),
        )

    started : starting (pick (in_range v f) 0 1) (arrays_of (fresh v f)) ≡ start_in v f a
    unfolding start_in start_of
    started = sym (pick_yes (sized a) (starting (start_of v f).code (arrays_of (start_of v f).state)) (starting 1 a) e)

    pub start_refused : in_range v f ≡ false → (n : Numbers) → n ≡ numbers 0 0 0 → (b : Arrays) → b ≡ zeros (with_numbers n) → starting 1 b ≡ start_in v f a
    start_refused r n nn b d =
        ap (starting 1) (d ∙ ap (λ (x : Numbers). zeros (with_numbers x)) nn ∙ zeros_are _ _ _ ∙ ap (λ (x : ℕ). begun 0 0 0 (replicate x 0) (replicate (length a.principals) 0)) of_rows
        ∙ ap (λ (x : ℕ). begun 0 0 0 (replicate 64 0) (replicate x 0)) of_principals ∙ sym (fresh_out v f r))
        ∙ ap (λ (x : ℕ). starting x (arrays_of (fresh v f))) (sym (pick_no (in_range v f) 0 1 r)) ∙ started

    pub start_granted : in_range v f ≡ true → (n : Numbers) → n ≡ numbers v f 1 → (b : Arrays) → b ≡ zeros (with_numbers n) → starting 0 (with_first b) ≡ start_in v f a
    start_granted r n nn b d =
        ap (λ (x : Arrays). starting 0 (with_first x)) (d ∙ ap (λ (x : Numbers). zeros (with_numbers x)) nn)
        ∙ ap (starting 0) (zeros_are _ _ _ ∙ ap (λ (x : ℕ). begun v f 1 (set (replicate x 0) 0 (first_number v)) (set (replicate (length a.principals) 0) 0 root_number)) of_rows
        ∙ ap (λ (x : ℕ). begun v f 1 (set (replicate 64 0) 0 (first_number v)) (set (replicate x 0) 0 root_number)) of_principals ∙ sym (fresh_in v f r))
        ∙ ap (λ (x : ℕ). starting x (arrays_of (fresh v f))) (sym (pick_yes (in_range v f) 0 1 r)) ∙ started
