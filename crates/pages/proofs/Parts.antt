-- The pages of a range are a part of all: what is tested there is tested of the range, what is made there is made of the range. Assumes nothing.
use Prim.Native.Nat.{ℕ, ◌+◌, ◌-◌, ◌/◌, ◌<◌, ◌≤◌, min}
use native.Mathlib.Nat.{zero-add}
use native.Mathlib.Omega.{arith}
use mathlib.Core.Bool.{Bool, true, false, not, ◌&&◌, ◌||◌, and-true}
use mathlib.Core.List.{List, ◌++◌, map}
use mathlib.Core.Path.{◌≡◌, sym, ap, ◌∙◌}
use lib.Dec.{eqb, leb}
use lib.ListN.{length, get_or, take, drop, length-take, length-drop, take-append-drop}
use lib.Seq.{length-take-le, take_all}
use Rattle.capabilities.specs.declared.Range.{Range}
use Rattle.capabilities.specs.Lists.{pick, each, map_each}
use Rattle.capabilities.specs.Range.{page_inside}
use Rattle.capabilities.proofs.Lists.{each_more, each_map, each_parts, each_append, each_all, each_same, each_anywhere, map_each_append, map_each_same, map_each_agree, map_each_map}
use Rattle.pages.specs.Entries.{is_unmapped, is_mapped}
use Rattle.pages.specs.declared.PageState.TheVariants.{Unmapped, Freed}
use Rattle.pages.specs.Freed.{is_freed, freed_in, all_freed}
use Rattle.pages.specs.Mapping.{not_mapped_in, any_mapped}
use Rattle.pages.specs.Numbers.{page_from, page_code, page_in, layer_of, freed_number, freed_numbers, released_number, released_numbers}
use Rattle.pages.proofs.Reading.{mapped_code, freed_code_lem}
use Rattle.pages.proofs.OnNumbers.{within, before, beyond}

-- 05.
abbrev pub freed_code : ℕ → ℕ
freed_code n = pick (is_unmapped (page_from n)) (page_code Freed) n

-- A loop that tests one entry a turn.
module _ {A : Type 0} (P : ℕ → A → Bool) (xs : List A) (i : ℕ) (so : Bool) (e : so ≡ each P 0 (take i xs)) where
  pub test_more : (here : Bool) (d : A) → i < length xs → here ≡ P i (get_or xs i d) → (so && here) ≡ each P 0 (take (i + 1) xs)
  test_more here d h x = rw (e, x) (sym (each_more P xs i d h))

  pub test_whole : length xs ≤ i → so ≡ each P 0 xs
  test_whole h = e ∙ ap (each P 0) (take_all i xs h)

module _ (r : Range) (l : List ℕ) (start end : ℕ) (s : start ≡ min ((r.base + 15) / 16) end) (e : end ≡ min ((r.base + r.length + 15) / 16) (length l)) where
  abbrev part : List ℕ
  part = take (end - start) (drop start l)

  last : List ℕ
  last = drop (end - start) (drop start l)

  long : start + length part ≡ end
  long = omega (arith, length-take-le (end - start) (drop start l) (omega (arith, length-drop start l)))

  low : (k : ℕ) → k < start → page_inside r k ≡ false
  low k h = before r k (omega arith)

  here : (k : ℕ) → start ≤ k → k < end → page_inside r k ≡ true
  here k h j = within r k (omega arith) (omega arith)

  high : (k : ℕ) → end ≤ k → k < length l → page_inside r k ≡ false
  high k h j = beyond r k (omega arith)

  pub part_tested : (T : ℕ → ℕ → Bool) (Q : ℕ → Bool)
      → ((k n : ℕ) → page_inside r k ≡ false → T k n ≡ true) → ((k n : ℕ) → page_inside r k ≡ true → T k n ≡ Q n)
      → each (λ k n. Q n) 0 part ≡ each T 0 l
  unfolding last
  part_tested T Q out inn =
      let a : each T 0 (take start l) ≡ true = each_all T 0 (take start l) 0 (λ i h. out (0 + i) _ (low (0 + i) (omega (arith, h, length-take start l)))) in
      let b : each T (start + length part) last ≡ true =
      each_all T (start + length part) last 0 (λ i h. out (start + length part + i) _ (high (start + length part + i) (omega (arith, long)) (omega (arith, h, long, length-drop (end - start) (drop start l), length-drop start l)))) in
      let m : each T start part ≡ each (λ k n. Q n) 0 part =
      each_same T (λ k n. Q n) start part (λ i x h. inn (start + i) x (here (start + i) (omega arith) (omega (arith, h, long)))) ∙ each_anywhere Q start 0 part in
      sym (each_parts T start l (omega arith) ∙ ap (λ x. x && each T start (drop start l)) a
      ∙ ap (each T start) (sym (take-append-drop (end - start) (drop start l))) ∙ each_append T start part last ∙ ap (λ x. each T start part && x) b
      ∙ and-true (each T start part) ∙ m)

  pub part_made : (f : ℕ → ℕ → ℕ) (g : ℕ → ℕ)
      → ((k x : ℕ) → page_inside r k ≡ false → f k x ≡ x) → ((k x : ℕ) → page_inside r k ≡ true → f k x ≡ g x)
      → take start l ++ (map g part ++ drop (end - start) (drop start l)) ≡ map_each f 0 l
  unfolding last
  part_made f g out inn =
      let first : length (take start l) ≡ start = length-take-le start l (omega arith) in
      let a : map_each f 0 (take start l) ≡ take start l = map_each_same f 0 (take start l) (λ i x h. out (0 + i) x (low (0 + i) (omega (arith, h, length-take start l)))) in
      let b : map_each f (start + length part) last ≡ last =
      map_each_same f (start + length part) last
      (λ i x h. out (start + length part + i) x (high (start + length part + i) (omega (arith, long)) (omega (arith, h, long, length-drop (end - start) (drop start l), length-drop start l)))) in
      let m : map_each f start part ≡ map g part =
      map_each_agree f (λ k x. g x) start part (λ i x h. inn (start + i) x (here (start + i) (omega arith) (omega (arith, h, long)))) ∙ map_each_map g start part in
      sym (ap (map_each f 0) (sym (take-append-drop start l)) ∙ map_each_append f 0 (take start l) (drop start l)
      ∙ ap (λ x. x ++ map_each f (0 + length (take start l)) (drop start l)) a
      ∙ ap (λ (n : ℕ). take start l ++ map_each f n (drop start l)) (zero-add (length (take start l)) ∙ first)
      ∙ ap (λ (x : List ℕ). take start l ++ map_each f start x) (sym (take-append-drop (end - start) (drop start l)))
      ∙ ap (λ (x : List ℕ). take start l ++ x) (map_each_append f start part last ∙ ap (λ x. x ++ map_each f (start + length part) last) m ∙ ap (λ x. map g part ++ x) b))

  module _ (v f : ℕ) (frames : List ℕ) where
    pub mapped_there : not (each (λ k n. leb n 1) 0 part) ≡ any_mapped (layer_of v f l frames) r
    unfolding any_mapped not_mapped_in
    mapped_there =
        let T : ℕ → ℕ → Bool = λ k n. not (page_inside r k && is_mapped (page_from n)) in
        ap not (part_tested T (λ n. leb n 1)
        (λ k n o. ap (λ b. not (b && is_mapped (page_from n))) o)
        (λ k n o. ap (λ b. not (b && is_mapped (page_from n))) o ∙ sym (mapped_code n))
        ∙ sym (each_map (not_mapped_in r) page_in 0 l))

    pub freed_there : each (λ k n. eqb n 1) 0 part ≡ all_freed (layer_of v f l frames) r
    unfolding all_freed freed_in
    freed_there =
        let T : ℕ → ℕ → Bool = λ k n. not (page_inside r k) || is_freed (page_from n) in
        part_tested T (λ n. eqb n 1)
        (λ k n o. ap (λ b. not b || is_freed (page_from n)) o)
        (λ k n o. ap (λ b. not b || is_freed (page_from n)) o ∙ sym (freed_code_lem n))
        ∙ sym (each_map (freed_in r) page_in 0 l)

  pub free_there : take start l ++ (map freed_code part ++ drop (end - start) (drop start l)) ≡ freed_numbers r l
  unfolding freed_numbers freed_number
  free_there =
      part_made (freed_number r) freed_code
      (λ k x o. ap (λ b. pick (b && is_unmapped (page_from x)) (page_code Freed) x) o)
      (λ k x o. ap (λ b. pick (b && is_unmapped (page_from x)) (page_code Freed) x) o)

  pub release_there : take start l ++ (map (λ x. page_code Unmapped) part ++ drop (end - start) (drop start l)) ≡ released_numbers r l
  unfolding released_numbers released_number
  release_there =
      part_made (released_number r) (λ x. page_code Unmapped)
      (λ k x o. ap (λ b. pick b (page_code Unmapped) x) o)
      (λ k x o. ap (λ b. pick b (page_code Unmapped) x) o)
