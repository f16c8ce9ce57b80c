-- How many pages map a frame: one page more, one page changed. Assumes nothing.
use Prim.Native.Nat.{ℕ, zero, suc, ◌+◌, ◌<◌, ◌≤◌}
use native.Mathlib.Nat.{add-zero, add_assoc, add-suc, suc-add}
use native.Mathlib.Numerals.{add-one}
use native.Mathlib.Omega.{arith}
use mathlib.Core.Bool.{Bool, true, false}
use mathlib.Core.List.{List, [], ◌∷◌, ◌++◌}
use mathlib.Core.Path.{◌≡◌, refl, sym, ap, ◌∙◌}
use lib.ListN.{length, get_or, take, set}
use lib.Seq.{take-suc, get_or-set_same, get_or-set_other}
use lib.Dec.{eqb}
use borrow.Author.Tests.{eqb-true, eqb-false, ne_eqb}
use Rattle.capabilities.specs.Lists.{pick, map_each}
use Rattle.capabilities.proofs.Choice.{pick_yes, pick_no, at_most}
use Rattle.pages.specs.Pages.{PageEntry}
use Rattle.pages.specs.declared.PageState.{PageState}
use Rattle.pages.specs.declared.PageState.TheVariants.{Unmapped, Freed, Mapped}
use Rattle.pages.specs.Entries.{maps, frame_number}
use Rattle.pages.specs.Layer.{mappings, Tally}

-- One if the page maps the frame, else none.
abbrev pub one : PageEntry → ℕ → ℕ
one e k = pick (maps e.state k) 1 0

pub maps_number : (s : PageState) (k : ℕ) → k < 256 → maps s k ≡ eqb (frame_number s) k
maps_number Unmapped k h = sym (ne_eqb 256 k (λ e. omega arith))
maps_number Freed k h = sym (ne_eqb 256 k (λ e. omega arith))
maps_number (Mapped f) k h = refl

mappings_snoc : (k : ℕ) (l : List PageEntry) (e : PageEntry) → mappings k (l ++ (e ∷ [])) ≡ mappings k l + one e k
unfolding mappings
mappings_snoc k [] e = omega arith
mappings_snoc k (x ∷ l) e = rw (mappings_snoc k l e) (sym (add_assoc (one x k) (mappings k l) (one e k)))

mappings_more : (k : ℕ) (l : List PageEntry) (p : ℕ) (d : PageEntry) → p < length l
    → mappings k (take (p + 1) l) ≡ mappings k (take p l) + one (get_or l p d) k
mappings_more k l p d h = rw (add-one, take-suc l p d h) (mappings_snoc k (take p l) (get_or l p d))

pub mappings_le : (k : ℕ) (l : List PageEntry) → mappings k l ≤ length l
unfolding mappings
mappings_le k [] = omega arith
mappings_le k (x ∷ l) = omega (arith, mappings_le k l, at_most (maps x.state k))

-- A page that maps no counted frame changes no count.
pub tally_miss :
    (t : List ℕ) (l : List PageEntry) (p : ℕ) (d : PageEntry) → p < length l → 128 ≤ frame_number (get_or l p d).state
    → Tally t (take p l) → Tally t (take (p + 1) l)
tally_miss t l p d h n u k j =
    let m : maps (get_or l p d).state k ≡ false =
    maps_number (get_or l p d).state k (omega arith) ∙ ne_eqb (frame_number (get_or l p d).state) k (λ e. omega arith)
    in
    rw (mappings_more k l p d h, pick_no {A = ℕ} (maps (get_or l p d).state k) 1 0 m, add-zero) (u k j)

-- A page that maps one adds one to its count.
pub tally_hit :
    (t : List ℕ) (l : List PageEntry) (p : ℕ) (d : PageEntry) (n : ℕ) → p < length l → n ≡ frame_number (get_or l p d).state → n < 128
    → length t ≡ 128 → Tally t (take p l) → Tally (set t n (get_or t n 0 + 1)) (take (p + 1) l)
tally_hit t l p d n h e b s u k j = go (eqb n k) refl
  where
    here : maps (get_or l p d).state k ≡ eqb n k
    here = rw e (maps_number (get_or l p d).state k (omega arith))

    go : (q : Bool) → eqb n k ≡ q → get_or (set t n (get_or t n 0 + 1)) k 0 ≡ mappings k (take (p + 1) l)
    go true q =
        let same : n ≡ k = eqb-true n k q in
        rw (mappings_more k l p d h, pick_yes {A = ℕ} (maps (get_or l p d).state k) 1 0 (here ∙ q), ← same, get_or-set_same t n (get_or t n 0 + 1) 0 (omega arith))
        (rw same (ap (λ x. x + 1) (u k j)))
    go false q =
        rw (mappings_more k l p d h, pick_no {A = ℕ} (maps (get_or l p d).state k) 1 0 (here ∙ q), add-zero, get_or-set_other t n k (get_or t n 0 + 1) 0 (λ x. eqb-false n k q (sym x)))
        (u k j)

-- One page's entry changed: the count loses what the old one gave and gains what the new one gives.
pub mappings_set :
    (k : ℕ) (l : List PageEntry) (p : ℕ) (d e : PageEntry) → p < length l
    → mappings k (set l p e) + one (get_or l p d) k ≡ mappings k l + one e k
unfolding mappings
mappings_set k [] p d e h = let z : ⊥ = omega arith in absurd z
mappings_set k (x ∷ l) zero d e h = omega arith
mappings_set k (x ∷ l) (suc p) d e h = omega (arith, mappings_set k l p d e (omega arith))

-- Entries changed so that each still maps what it mapped: the count stays.
pub mappings_map_each :
    (k : ℕ) (f : ℕ → PageEntry → PageEntry) (n : ℕ) (l : List PageEntry) (d : PageEntry)
    → ((i : ℕ) → i < length l → maps (f (n + i) (get_or l i d)).state k ≡ maps (get_or l i d).state k)
    → mappings k (map_each f n l) ≡ mappings k l
unfolding mappings map_each
mappings_map_each k f n [] d h = refl
mappings_map_each k f n (x ∷ l) d h =
    rw (
      rw add-zero at (h 0 (omega arith)),
      mappings_map_each k f (suc n) l d (λ i j. rw (suc-add, ← add-suc) (h (suc i) (omega arith))),
    )
