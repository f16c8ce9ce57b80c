-- Loops over numbers and counts, one entry more, and what is done by marks. Assumes nothing.
use Prim.Native.Nat.{ℕ, ◌+◌, ◌-◌, ◌*◌, ◌/◌, ◌%◌, ◌<◌, ◌≤◌, min}
use native.Mathlib.Omega.{arith}
use mathlib.Core.Bool.{Bool, true, false}
use mathlib.Core.List.{List, ◌++◌}
use mathlib.Core.Path.{◌≡◌, sym, ap, ◌∙◌}
use lib.ListN.{length, get_or, take, drop, set, replicate, length-take, length-drop, take-append-drop}
use lib.Seq.{take_all}
use Rattle.std.proofs.lemmas.List.{drop_min, set-get_or}
use Rattle.capabilities.specs.Lists.{pick, map_each}
use Rattle.capabilities.proofs.Choice.{pick_most}
use Rattle.capabilities.proofs.Lists.{map_each_agree, map_each_turn, part_next, part_turn}
use Rattle.claims.specs.declared.Principal.{Principal}
use Rattle.claims.specs.Claims.{Claims, parent_of, above, limit_of, sum}
use Rattle.claims.specs.Tree.{leads_up}
use Rattle.claims.specs.Operations.{returned}
use Rattle.claims.specs.Numbers.{principal_from, window, claims_in}
use Rattle.claims.specs.Lent.{principal_in, unspent_put, emptied, destroyed_in, cleared_in}
use Rattle.claims.proofs.Sums.{sum_same, sum_turn}
use Rattle.claims.proofs.Counting.{above_parts}
use Rattle.claims.proofs.Laid.{window_most, cleared_one}
use Rattle.claims.proofs.Reading.{parent_read, limit_read}

-- Counts in two parts, where the first may be longer than the list.
pub parts_above : (l : List ℕ) (n : ℕ) → above (take n l) + above (take (length l - n) (drop n l)) ≡ above l
parts_above l n = ap (λ (k : List ℕ). above (take n l) + above k) (take_all (length l - n) (drop n l) (omega (arith, length-drop n l))) ∙ sym (above_parts n l)

pub part_high : (v : ℕ) (l : List ℕ) (n : ℕ) → n ≡ min v (length l) → above (take (length l - n) (drop n l)) ≡ above (drop v l)
part_high v l n e = ap above (take_all (length l - n) (drop n l) (omega (arith, length-drop n l)) ∙ ap (λ (k : ℕ). drop k l) e ∙ drop_min v l)

-- No limit is above 65,535 + 256.
module _ (numbers counts : List ℕ) where
  pub limit_most : (p : ℕ) → limit_of (claims_in numbers counts) p ≤ 65791
  limit_most p = omega (arith, limit_read numbers counts p, pick_most (principal_in numbers p).being (above (window counts p)), window_most counts p, left)
    where
      left : (principal_in numbers p).unspent ≤ 65535
      left = unfold principal_from in omega arith

-- The limits of those that are marked, one principal more.
module _ (numbers counts : List ℕ) (marks : List Bool) where
  abbrev pub marked : ℕ → ℕ
  marked q = pick (get_or marks q false) (limit_of (claims_in numbers counts) q) 0

  pub marked_most : (q : ℕ) → marked q ≤ 65791
  marked_most q = omega (arith, pick_most (get_or marks q false) (limit_of (claims_in numbers counts) q), limit_most numbers counts q)

  pub marked_turn :
      (q total share spent : ℕ) (b : Bool) → get_or marks q false ≡ b → spent ≡ above (window counts q)
      → share ≡ pick b (pick (principal_in numbers q).being spent 0 + (principal_in numbers q).unspent) 0 → total ≡ sum q marked
      → total + share ≡ sum (q + 1) marked
  marked_turn q total share spent b m s e t =
      sum_turn marked q total share t
      (e ∙ ap (λ (n : ℕ). pick b (pick (principal_in numbers q).being n 0 + (principal_in numbers q).unspent) 0) s
      ∙ ap (λ (n : ℕ). pick b n 0) (sym (limit_read numbers counts q))
      ∙ ap (λ (k : Bool). pick k (limit_of (claims_in numbers counts) q) 0) (sym m))

-- The number of one principal: 0 if it is marked.
abbrev pub emptied_at : List Bool → ℕ → ℕ → ℕ
emptied_at marks q n = pick (get_or marks q false) 0 n

pub numbers_turn :
    (marks : List Bool) (l t u : List ℕ) (q : ℕ) (b : Bool) → q < length l → t ≡ map_each (emptied_at marks) 0 (take q l) ++ drop q l → get_or marks q false ≡ b
    → u ≡ pick b (set t q 0) t → u ≡ map_each (emptied_at marks) 0 (take (q + 1) l) ++ drop (q + 1) l
numbers_turn marks l t u q true h e m y =
    y ∙ map_each_turn (emptied_at marks) l t q 0 0 h e (ap (λ (b : Bool). pick b 0 (get_or t q 0)) (sym m))
numbers_turn marks l t u q false h e m y =
    y ∙ sym (set-get_or t q 0) ∙ map_each_turn (emptied_at marks) l t q 0 (get_or t q 0) h e (ap (λ (b : Bool). pick b 0 (get_or t q 0)) (sym m))

-- The counts of one principal: all 0 if it is marked.
abbrev pub cleared_by : List Bool → ℕ → ℕ → ℕ
cleared_by marks i n = pick (get_or marks (i / 256) false) 0 n

pub cleared_turn :
    (marks : List Bool) (l t u : List ℕ) (q n : ℕ) (b : Bool) → n ≡ 256 → 256 * q + 256 ≤ length l → t ≡ map_each (cleared_by marks) 0 (take (256 * q) l) ++ drop (256 * q) l
    → get_or marks q false ≡ b → u ≡ pick b (take (256 * q) t ++ (replicate (length (take n (drop (256 * q) t))) 0 ++ drop n (drop (256 * q) t))) t
    → u ≡ map_each (cleared_by marks) 0 (take (256 * (q + 1)) l) ++ drop (256 * (q + 1)) l
cleared_turn marks l t u q n b s h e m y =
    let k = 256 * q in
    let w = take 256 (drop k l) in
    let ys = pick b (replicate (length w) 0) w in
    let same : take n (drop k t) ≡ w = ap (λ (i : ℕ). take i (drop k t)) s ∙ ap (take 256) (part_next (cleared_by marks) l t k (omega arith) e) in
    let part : ys ≡ map_each (cleared_by marks) k w =
    ap (λ (c : Bool). pick c (replicate (length w) 0) w) (sym m)
    ∙ sym (cleared_one (λ (j : ℕ). get_or marks j false) q w (omega (arith, length-take 256 (drop k l)))) in
    let next : k + 256 ≡ 256 * (q + 1) = omega arith in
    y ∙ go b same ∙ ap (λ (i : ℕ). take k t ++ (ys ++ drop i (drop k t))) s ∙ part_turn (cleared_by marks) l t ys k 256 h e part
    ∙ ap (λ (i : ℕ). map_each (cleared_by marks) 0 (take i l) ++ drop i l) next
  where
    go :
        (b : Bool) → take n (drop (256 * q) t) ≡ take 256 (drop (256 * q) l)
        → pick b (take (256 * q) t ++ (replicate (length (take n (drop (256 * q) t))) 0 ++ drop n (drop (256 * q) t))) t
        ≡ take (256 * q) t ++ (pick b (replicate (length (take 256 (drop (256 * q) l))) 0) (take 256 (drop (256 * q) l)) ++ drop n (drop (256 * q) t))
    go true same = ap (λ (w : List ℕ). take (256 * q) t ++ (replicate (length w) 0 ++ drop n (drop (256 * q) t))) same
    go false same =
        sym (ap (λ (w : List ℕ). take (256 * q) t ++ (w ++ drop n (drop (256 * q) t))) (sym same)
        ∙ ap (λ (r : List ℕ). take (256 * q) t ++ r) (take-append-drop n (drop (256 * q) t)) ∙ take-append-drop (256 * q) t)

-- What is done by marks is done by the tree.
module _ (numbers counts : List ℕ) (p : ℕ) (marks : List Bool) (is : (q : ℕ) → q < 32 → get_or marks q false ≡ leads_up (claims_in numbers counts) p q) where
  abbrev all : Claims
  all = claims_in numbers counts

  pub emptied_by : length numbers ≡ 32 → map_each (emptied_at marks) 0 numbers ≡ map_each (emptied all p) 0 numbers
  emptied_by e =
      map_each_agree (emptied_at marks) (emptied all p) 0 numbers (λ i x h. ap (λ (b : Bool). pick b 0 x) (is (0 + i) (omega arith)))

  pub cleared_by_lem : length counts ≡ 8192 → map_each (cleared_by marks) 0 counts ≡ cleared_in numbers counts p
  unfolding cleared_in
  cleared_by_lem e =
      map_each_agree (cleared_by marks) (λ i n. emptied all p (i / 256) n) 0 counts (λ i x h. ap (λ (b : Bool). pick b 0 x) (is ((0 + i) / 256) (omega arith)))

  pub returned_by : sum 32 (marked numbers counts marks) ≡ returned all p
  unfolding returned
  returned_by = sum_same 32 (marked numbers counts marks) (λ q. pick (leads_up all p q) (limit_of all q) 0) (λ i h. ap (λ (b : Bool). pick b (limit_of all i) 0) (is i h))

pub destroyed_put :
    (numbers counts : List ℕ) (p : ℕ) (left : List ℕ) (q heir : Principal) (back : ℕ) → left ≡ map_each (emptied (claims_in numbers counts) p) 0 numbers
    → q ≡ principal_in numbers p → heir ≡ principal_in numbers q.parent → back ≡ returned (claims_in numbers counts) p
    → unspent_put left q.parent ((heir.unspent + back) % 65536) ≡ destroyed_in numbers counts p
unfolding destroyed_in
destroyed_put numbers counts p left q heir back e r h b =
    let parent : q.parent ≡ parent_of (claims_in numbers counts) p = sym (parent_read numbers counts p q r) in
    ap (λ (x : Principal). unspent_put left q.parent ((x.unspent + back) % 65536)) h
    ∙ ap (λ (n : ℕ). unspent_put left q.parent (((principal_in numbers q.parent).unspent + n) % 65536)) b
    ∙ ap (λ (l : List ℕ). unspent_put l q.parent (((principal_in numbers q.parent).unspent + returned (claims_in numbers counts) p) % 65536)) e
    ∙ ap (λ (k : ℕ). unspent_put (map_each (emptied (claims_in numbers counts) p) 0 numbers) k (((principal_in numbers k).unspent + returned (claims_in numbers counts) p) % 65536)) parent
