-- The numbers of a range's pages, changed: what they read as, and that a layer is written so. Assumes nothing.
use Prim.Native.Nat.{ℕ, suc, ◌+◌, ◌<◌}
use native.Mathlib.Nat.{add-zero, add-suc, suc-add}
use native.Mathlib.Omega.{arith}
use mathlib.Core.Bool.{Bool, true, false, ◌&&◌}
use mathlib.Core.List.{List, [], ◌∷◌, map}
use mathlib.Core.Path.{◌≡◌, refl, sym, ap, ◌∙◌}
use lib.ListN.{length, get_or, get_or-map}
use Rattle.capabilities.specs.declared.Range.{Range}
use Rattle.capabilities.specs.Lists.{pick, map_each}
use Rattle.capabilities.specs.Range.{page_inside}
use Rattle.pages.specs.declared.PageState.TheVariants.{Unmapped, Freed}
use Rattle.pages.specs.Pages.{PageEntry}
use Rattle.pages.specs.Entries.{is_unmapped, page_entry}
use Rattle.pages.specs.Mapping.{freed_entry, freed_of, released_entry, released_of}
use Rattle.pages.specs.Numbers.{page_from, page_code, page_in, layer_of, freed_number, freed_numbers, released_number, released_numbers}

abbrev number : PageEntry → ℕ
number e = page_code e.state

-- Numbers changed by one function, and their entries by another: read after the change, or before it.
entries_each :
    (g : ℕ → ℕ → ℕ) (h : ℕ → PageEntry → PageEntry) → ((k x : ℕ) → page_in (g k x) ≡ h k (page_in x))
    → (k : ℕ) (l : List ℕ) → map page_in (map_each g k l) ≡ map_each h k (map page_in l)
unfolding map_each
entries_each g h e k [] = refl
entries_each g h e k (x ∷ l) = rw (e k x, entries_each g h e (suc k) l)

-- Written after the change.
numbers_each :
    (h : ℕ → PageEntry → PageEntry) (g : ℕ → ℕ → ℕ) (k : ℕ) (l : List ℕ)
    → ((i : ℕ) → i < length l → page_code (h (k + i) (page_in (get_or l i 0))).state ≡ g (k + i) (get_or l i 0))
    → map number (map_each h k (map page_in l)) ≡ map_each g k l
unfolding map_each
numbers_each h g k [] e = refl
numbers_each h g k (x ∷ l) e =
    rw (rw add-zero at (e 0 (omega arith)), numbers_each h g (suc k) l (λ i q. rw (suc-add, ← add-suc) (e (suc i) (omega arith))))

kept_at : (l : List ℕ) → map number (map page_in l) ≡ l → (i : ℕ) → page_code (page_from (get_or l i 0)) ≡ get_or l i 0
unfolding page_code page_from
kept_at l kept i =
    sym (get_or-map number (map page_in l) i (page_in 0) ∙ ap number (get_or-map page_in l i 0))
    ∙ ap (λ (m : List ℕ). get_or m i 0) kept

-- 05.
module _ (r : Range) where
  freed_entry_lem : (k x : ℕ) → page_in (freed_number r k x) ≡ freed_entry r k (page_in x)
  unfolding freed_number freed_entry
  freed_entry_lem k x = go (page_inside r k && is_unmapped (page_from x))
    where
      go : (b : Bool) → page_in (pick b (page_code Freed) x) ≡ pick b (page_entry Freed) (page_in x)
      go true = unfold page_from page_code in refl
      go false = refl

  freed_code_lem : (k x : ℕ) → page_code (page_from x) ≡ x → page_code (freed_entry r k (page_in x)).state ≡ freed_number r k x
  unfolding freed_number freed_entry
  freed_code_lem k x e = go (page_inside r k && is_unmapped (page_from x))
    where
      go : (b : Bool) → page_code (pick b (page_entry Freed) (page_in x)).state ≡ pick b (page_code Freed) x
      go true = refl
      go false = e

  module _ (l : List ℕ) (v f : ℕ) (frames : List ℕ) where
    pub freed_reads : layer_of v f (freed_numbers r l) frames ≡ freed_of (layer_of v f l frames) r
    unfolding freed_numbers freed_of
    freed_reads = ap (λ m. record { v = v; f = f; pages = m; frames = (layer_of v f l frames).frames }) (entries_each (freed_number r) (freed_entry r) freed_entry_lem 0 l)

    pub freed_written : map number (map page_in l) ≡ l → map number (freed_of (layer_of v f l frames) r).pages ≡ freed_numbers r l
    unfolding freed_numbers freed_of
    freed_written kept = numbers_each (freed_entry r) (freed_number r) 0 l (λ i h. freed_code_lem (0 + i) (get_or l i 0) (kept_at l kept i))

-- 07.
module _ (r : Range) where
  released_entry_lem : (k x : ℕ) → page_in (released_number r k x) ≡ released_entry r k (page_in x)
  unfolding released_number released_entry
  released_entry_lem k x = go (page_inside r k)
    where
      go : (b : Bool) → page_in (pick b (page_code Unmapped) x) ≡ pick b (page_entry Unmapped) (page_in x)
      go true = unfold page_from page_code in refl
      go false = refl

  released_code : (k x : ℕ) → page_code (page_from x) ≡ x → page_code (released_entry r k (page_in x)).state ≡ released_number r k x
  unfolding released_number released_entry
  released_code k x e = go (page_inside r k)
    where
      go : (b : Bool) → page_code (pick b (page_entry Unmapped) (page_in x)).state ≡ pick b (page_code Unmapped) x
      go true = refl
      go false = e

  module _ (l : List ℕ) (v f : ℕ) (frames : List ℕ) where
    pub released_reads : layer_of v f (released_numbers r l) frames ≡ released_of (layer_of v f l frames) r
    unfolding released_numbers released_of
    released_reads = ap (λ m. record { v = v; f = f; pages = m; frames = (layer_of v f l frames).frames }) (entries_each (released_number r) (released_entry r) released_entry_lem 0 l)

    pub released_written : map number (map page_in l) ≡ l → map number (released_of (layer_of v f l frames) r).pages ≡ released_numbers r l
    unfolding released_numbers released_of
    released_written kept = numbers_each (released_entry r) (released_number r) 0 l (λ i h. released_code (0 + i) (get_or l i 0) (kept_at l kept i))
