-- The pages of a range: freeing and releasing them keeps the layer well formed, and what is freed is Freed. Assumes nothing.
use Prim.Native.Nat.{ℕ, ◌+◌, ◌*◌, ◌<◌, ◌≤◌}
use native.Mathlib.Nat.{zero-add}
use native.Mathlib.Omega.{arith}
use mathlib.Core.Bool.{Bool, true, false, ◌&&◌, true≢false}
use mathlib.Core.Path.{◌≡◌, refl, sym, ap, ◌∙◌}
use lib.ListN.{length, get_or}
use lib.Dec.{leb, ltb}
use borrow.Author.Tests.{ltb-true, lt-ltb, not-true, not-false}
use Rattle.capabilities.specs.declared.Range.{Range}
use Rattle.capabilities.specs.Lists.{pick, map_each}
use Rattle.capabilities.specs.Range.{inside, page_inside}
use Rattle.capabilities.proofs.Choice.{pick_yes, pick_twice, and_left, and_right}
use Rattle.capabilities.proofs.Lists.{each_at, length_map_each, get_d_map_each}
use Rattle.pages.specs.Pages.{Pages}
use Rattle.pages.specs.Pages.{PageEntry}
use Rattle.pages.specs.declared.PageState.{PageState}
use Rattle.pages.specs.declared.PageState.TheVariants.{Unmapped, Freed, Mapped}
use Rattle.pages.specs.Entries.{is_unmapped, is_mapped, maps, page_entry}
use Rattle.pages.specs.Layer.{page_at, page_sound, well_formed}
use Rattle.pages.specs.Mapping.{not_mapped_in, any_mapped, freed_entry, freed_of, released_entry, released_of}
use Rattle.pages.proofs.Formed.{sound, formed, pages_changed}
use Rattle.pages.proofs.Mappings.{mappings_map_each}

pick_state : (b : Bool) (x y : PageEntry) → (pick b x y).state ≡ pick b x.state y.state
pick_state true x y = refl
pick_state false x y = refl

-- A page in a range that ends at or below 16 × V is a page below V.
pub page_below : (s : Pages) (r : Range) (p : ℕ) → r.base + r.length ≤ 16 * s.v → page_inside r p ≡ true → p < s.v
unfolding inside
page_below s r p h e = let k : 16 * p < r.base + r.length = ltb-true _ _ (and_right (leb r.base (16 * p)) _ e) in omega arith

-- Freeing an entry changes only what is Unmapped, so it maps what it mapped.
freed_maps : (r : Range) (p k : ℕ) (e : PageEntry) → maps (freed_entry r p e).state k ≡ maps e.state k
unfolding freed_entry
freed_maps r p k e = go (page_inside r p) e.state refl
  where
    go : (b : Bool) (x : PageState) → e.state ≡ x
        → maps (pick (b && is_unmapped e.state) (page_entry Freed) e).state k ≡ maps e.state k
    go true Unmapped q = rw q
    go true Freed q = rw q
    go true (Mapped g) q = rw q
    go false x q = refl

freed_sound : (s : Pages) (r : Range) (p : ℕ) (e : PageEntry) → r.base + r.length ≤ 16 * s.v
    → page_sound s.v s.f p e ≡ true → page_sound s.v s.f p (freed_entry r p e) ≡ true
unfolding freed_entry page_sound
freed_sound s r p e h q = go (page_inside r p && is_unmapped e.state) refl
  where
    go : (b : Bool) → (page_inside r p && is_unmapped e.state) ≡ b
        → page_sound s.v s.f p (pick (page_inside r p && is_unmapped e.state) (page_entry Freed) e) ≡ true
    go true t =
        rw t (pick_yes (ltb p s.v) true false (lt-ltb _ _ (page_below s r p h (and_left (page_inside r p) (is_unmapped e.state) t))))
    go false t = rw t q

pub freed_keeps :
    (s : Pages) (r : Range) → r.base + r.length ≤ 16 * s.v → well_formed s ≡ true → well_formed (freed_of s r) ≡ true
unfolding freed_of
freed_keeps s r h w =
    let q = sound s w in
    formed _
    (pages_changed s q (map_each (freed_entry r) 0 s.pages) (length_map_each (freed_entry r) 0 s.pages ∙ q.long_pages)
    (λ p b.
    rw (get_d_map_each (freed_entry r) 0 s.pages p (page_entry Unmapped) (page_entry Unmapped) (omega (arith, q.long_pages)), zero-add)
    (freed_sound s r p (get_or s.pages p (page_entry Unmapped)) h (q.page p b)))
    (λ k. mappings_map_each k (freed_entry r) 0 s.pages (page_entry Unmapped) (λ i b. freed_maps r (0 + i) k (get_or s.pages i (page_entry Unmapped)))))

-- No page of the range is Mapped: page by page.
pub none_mapped_at :
    (s : Pages) (r : Range) (p : ℕ) → p < length s.pages → any_mapped s r ≡ false → page_inside r p ≡ true → is_mapped (page_at s p) ≡ false
unfolding any_mapped not_mapped_in page_at
none_mapped_at s r p b a i =
    let n = rw zero-add at (each_at (not_mapped_in r) 0 s.pages p (page_entry Unmapped) b (not-false _ a)) in
    rw i at (not-true (page_inside r p && is_mapped (get_or s.pages p (page_entry Unmapped)).state) n)

-- Releasing an entry that maps nothing leaves one that maps nothing.
released_maps : (r : Range) (p k : ℕ) (e : PageEntry) → (page_inside r p && is_mapped e.state) ≡ false
    → maps (released_entry r p e).state k ≡ maps e.state k
unfolding released_entry
released_maps r p k e = go (page_inside r p) e.state refl
  where
    go : (b : Bool) (x : PageState) → e.state ≡ x → (b && is_mapped e.state) ≡ false
        → maps (pick b (page_entry Unmapped) e).state k ≡ maps e.state k
    go true Unmapped q n = rw q
    go true Freed q n = rw q
    go true (Mapped g) q n = absurd (true≢false (rw q at n))
    go false x q n = refl

released_sound : (s : Pages) (r : Range) (p : ℕ) (e : PageEntry) → page_sound s.v s.f p e ≡ true
    → page_sound s.v s.f p (released_entry r p e) ≡ true
unfolding released_entry page_sound
released_sound s r p e q = go (page_inside r p) refl
  where
    go : (b : Bool) → page_inside r p ≡ b → page_sound s.v s.f p (pick (page_inside r p) (page_entry Unmapped) e) ≡ true
    go true t = rw t (pick_twice (ltb p s.v) true)
    go false t = rw t q

pub released_keeps : (s : Pages) (r : Range) → any_mapped s r ≡ false → well_formed s ≡ true → well_formed (released_of s r) ≡ true
unfolding released_of any_mapped not_mapped_in
released_keeps s r a w =
    let q = sound s w in
    formed _
    (pages_changed s q (map_each (released_entry r) 0 s.pages) (length_map_each (released_entry r) 0 s.pages ∙ q.long_pages)
    (λ p b.
    rw (get_d_map_each (released_entry r) 0 s.pages p (page_entry Unmapped) (page_entry Unmapped) (omega (arith, q.long_pages)), zero-add)
    (released_sound s r p (get_or s.pages p (page_entry Unmapped)) (q.page p b)))
    (λ k.
    mappings_map_each k (released_entry r) 0 s.pages (page_entry Unmapped)
    (λ i b.
    released_maps r (0 + i) k (get_or s.pages i (page_entry Unmapped))
    (not-true (page_inside r (0 + i) && is_mapped (get_or s.pages i (page_entry Unmapped)).state)
    (each_at (not_mapped_in r) 0 s.pages i (page_entry Unmapped) b (not-false _ a))))))

-- The state of a page after freeing and after releasing.
module _ (s : Pages) (r : Range) (p : ℕ) (b : p < length s.pages) where
  pub freed_at : page_at (freed_of s r) p ≡ pick (page_inside r p && is_unmapped (page_at s p)) Freed (page_at s p)
  unfolding page_at freed_of freed_entry
  freed_at =
      ap (λ e. e.state) (get_d_map_each (freed_entry r) 0 s.pages p (page_entry Unmapped) (page_entry Unmapped) b)
      ∙ rw zero-add (pick_state (page_inside r p && is_unmapped (get_or s.pages p (page_entry Unmapped)).state) _ _)

  pub released_at : page_at (released_of s r) p ≡ pick (page_inside r p) Unmapped (page_at s p)
  unfolding page_at released_of released_entry
  released_at =
      ap (λ e. e.state) (get_d_map_each (released_entry r) 0 s.pages p (page_entry Unmapped) (page_entry Unmapped) b)
      ∙ rw zero-add (pick_state (page_inside r p) _ _)

  -- Once no page of the range is Mapped and its Unmapped pages are Freed, all are Freed.
  pub all_freed_lem : any_mapped s r ≡ false → page_inside r p ≡ true → page_at (freed_of s r) p ≡ Freed
  all_freed_lem a i = freed_at ∙ rw i (go (page_at s p) refl)
    where
      go : (x : PageState) → page_at s p ≡ x → pick (is_unmapped (page_at s p)) Freed (page_at s p) ≡ Freed
      go Unmapped e = rw e
      go Freed e = rw e
      go (Mapped g) e = absurd (true≢false (sym (ap is_mapped e) ∙ none_mapped_at s r p b a i))
