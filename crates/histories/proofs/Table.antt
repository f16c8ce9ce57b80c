-- The reservations after a granted call: a lent range is never cut, and what is Open came from what was Open. Assumes nothing.
use Prim.Native.Nat.{ℕ, zero, suc, ◌+◌, ◌-◌, ◌%◌, ◌<◌, ◌≤◌}
use native.Mathlib.Omega.{arith}
use mathlib.Core.Bool.{Bool, true, false, not, ◌&&◌, true≢false, false≢true}
use mathlib.Core.List.{List, [], ◌∷◌, ◌++◌}
use mathlib.Core.Logic.{◌⊎◌, inl, inr, ⊎_elim}
use mathlib.Core.Path.{◌≡◌, refl, sym, ap, subst, ◌∙◌}
use borrow.Author.Tests.{ltb-true, ltb-false}
use lib.Dec.{ltb}
use lib.ListN.{length, get_or, take, drop}
use Rattle.capabilities.specs.declared.Range.{Range}
use Rattle.capabilities.specs.Death.{dies}
use Rattle.capabilities.specs.Range.{inside}
use Rattle.table.specs.declared.Reservation.{Reservation}
use Rattle.table.specs.declared.ReservationState.{ReservationState}
use Rattle.table.specs.declared.ReservationState.TheVariants.{Open, Taken, Revoking}
use Rattle.table.specs.Table.{Table}
use Rattle.table.specs.Rows.{is_open, is_revoking, blank, live, range_of}
use Rattle.table.specs.Operations.{alike, joined, lower_part, upper_part, taken_row, given_row}
use Rattle.table.proofs.Cells.{inside_bounds, inside_made}
use Rattle.table.proofs.After.{Replaced}
use Rattle.table.proofs.Kept.{cut_one, cut_two}
use Rattle.table.proofs.Places.{size, low, mid, high}
use Rattle.table.proofs.Dying.{dyings, none, first_of, revoking_row_lem, revoking_none, dyings_append, dyings_not}
use Rattle.reservations.specs.Core.{Core}
use Rattle.reservations.specs.Revocation.{revoking_row, collected_row, running, revoked, dying}
use Rattle.histories.specs.Inv.{row_at}

-- A lent range has a lent reservation around it; a cell of an Open one was in an Open one.
pub record Around (u : Table) (r : Reservation) : Type 0 where
  pub row : ℕ
  pub used : row < length (live u)
  pub lent : is_open (row_at u row).state ≡ false
  pub from : (row_at u row).base ≤ r.base
  pub upto : r.base + r.length ≤ (row_at u row).base + (row_at u row).length

pub record Opened (t : Table) (v : ℕ) : Type 0 where
  pub row : ℕ
  pub used : row < length (live t)
  pub isopen : is_open (row_at t row).state ≡ true
  pub hit : inside (range_of (row_at t row)) v ≡ true

pub record Carried (t u : Table) : Type 0 where
  pub kept : (j : ℕ) → j < length (live t) → is_open (row_at t j).state ≡ false → Around u (row_at t j)
  pub came : (j v : ℕ) → j < length (live u) → is_open (row_at u j).state ≡ true → inside (range_of (row_at u j)) v ≡ true → Opened t v

pub record CarriedBut (P : Reservation → Type 0) (Q : ℕ → Type 0) (t u : Table) : Type 0 where
  pub kept : (j : ℕ) → j < length (live t) → is_open (row_at t j).state ≡ false → P (row_at t j) → Around u (row_at t j)
  pub came : (j v : ℕ) → j < length (live u) → is_open (row_at u j).state ≡ true → inside (range_of (row_at u j)) v ≡ true → Opened t v ⊎ Q v

-- One of the new rows stands around one of the replaced ones; a cell of a new Open one was in a replaced Open one.
pub record Fits (new : List Reservation) (r : Reservation) : Type 0 where
  pub row : ℕ
  pub used : row < length new
  pub lent : is_open (get_or new row blank).state ≡ false
  pub from : (get_or new row blank).base ≤ r.base
  pub upto : r.base + r.length ≤ (get_or new row blank).base + (get_or new row blank).length

pub record Was (l : List Reservation) (i k v : ℕ) : Type 0 where
  pub row : ℕ
  pub used : row < k
  pub isopen : is_open (get_or l (i + row) blank).state ≡ true
  pub hit : inside (range_of (get_or l (i + row) blank)) v ≡ true

module _ (t u : Table) (new : List Reservation) (i k : ℕ) (h : i + k ≤ length (live t)) (now : live u ≡ take i (live t) ++ (new ++ drop (i + k) (live t))) where
  abbrev l : List Reservation
  l = live t

  abbrev at_row : ℕ → Reservation
  at_row j = get_or (live u) j blank

  pub long : length (live u) ≡ i + (length new + (length l - (i + k)))
  long = ap length now ∙ size l new i k h

  pub low_row : (j : ℕ) → j < i → row_at u j ≡ row_at t j
  low_row j b = ap (λ x. get_or x j blank) now ∙ low l new i k h j b

  pub mid_row : (j : ℕ) → j < length new → row_at u (i + j) ≡ get_or new j blank
  mid_row j b = ap (λ x. get_or x (i + j) blank) now ∙ mid l new i k h j b

  pub high_row : (j : ℕ) → row_at u (i + (length new + j)) ≡ row_at t (i + k + j)
  high_row j = ap (λ x. get_or x (i + (length new + j)) blank) now ∙ high l new i k h j

  around : (j n : ℕ) → row_at u n ≡ row_at t j → n < length (live u) → is_open (row_at t j).state ≡ false → Around u (row_at t j)
  around j n e b o =
      record {
        row = n;
        used = b;
        lent = ap (λ r. is_open r.state) e ∙ o;
        from = omega (arith, ap (λ r. r.base) e);
        upto = omega (arith, ap (λ r. r.base) e, ap (λ r. r.length) e);
      }

  -- Every row of u is an old one outside of those that were replaced, or a new one.
  pub rows_after : (P : Reservation → Type 0) → ((j : ℕ) → j < length l → (j < i + k → j < i) → P (row_at t j)) → ((j : ℕ) → j < length new → P (get_or new j blank))
      → (j : ℕ) → j < length (live u) → P (row_at u j)
  rows_after P old fresh j b = go (ltb j i) refl (ltb j (i + length new)) refl
    where
      go : (x : Bool) → ltb j i ≡ x → (y : Bool) → ltb j (i + length new) ≡ y → P (row_at u j)
      go true e y f = let q : j < i = ltb-true j i e in subst P (sym (low_row j q)) (old j (omega arith) (λ z. q))
      go false e true f =
          let p : i ≤ j = ltb-false j i e in
          let q : j < i + length new = ltb-true j (i + length new) f in
          let n : i + (j - i) ≡ j = omega arith in
          subst P (sym (mid_row (j - i) (omega arith)) ∙ ap (λ m. row_at u m) n) (fresh (j - i) (omega arith))
      go false e false f =
          let p : i + length new ≤ j = ltb-false j (i + length new) f in
          let m : ℕ = j - (i + length new) in
          let n : i + (length new + m) ≡ j = omega arith in
          subst P (sym (high_row m) ∙ ap (λ x. row_at u x) n) (old (i + k + m) (omega (arith, long)) (λ z. absurd (omega arith)))

  -- Save where P fails of a lent row, or Q holds of an Open row's cell.
  pub carried_but : (P : Reservation → Type 0) (Q : ℕ → Type 0)
      → ((j : ℕ) → j < k → is_open (get_or l (i + j) blank).state ≡ false → P (get_or l (i + j) blank) → Fits new (get_or l (i + j) blank))
      → ((j v : ℕ) → j < length new → is_open (get_or new j blank).state ≡ true → inside (range_of (get_or new j blank)) v ≡ true → Was l i k v ⊎ Q v)
      → CarriedBut P Q t u
  carried_but P Q fits was = record { kept = λ j b o x. keep j b o x (ltb j i) refl (ltb j (i + k)) refl; came = λ j v. back v j }
    where
      keep : (j : ℕ) → j < length l → is_open (row_at t j).state ≡ false → P (row_at t j) → (x : Bool) → ltb j i ≡ x → (y : Bool) → ltb j (i + k) ≡ y → Around u (row_at t j)
      keep j b o z true e y f = let q : j < i = ltb-true j i e in around j j (low_row j q) (omega (arith, long)) o
      keep j b o z false e true f =
          let p : i ≤ j = ltb-false j i e in
          let q : j < i + k = ltb-true j (i + k) f in
          let n : i + (j - i) ≡ j = omega arith in
          let g : Fits new (row_at t j) = subst (λ m. Fits new (get_or l m blank)) n (fits (j - i) (omega arith) (ap (λ m. is_open (get_or l m blank).state) n ∙ o) (subst (λ m. P (get_or l m blank)) (sym n) z)) in
          let row = mid_row g.row g.used in
          record {
            row = i + g.row;
            used = omega (arith, long, g.used);
            lent = ap (λ r. is_open r.state) row ∙ g.lent;
            from = omega (arith, ap (λ r. r.base) row, g.from);
            upto = omega (arith, ap (λ r. r.base) row, ap (λ r. r.length) row, g.upto);
          }
      keep j b o z false e false f =
          let p : i + k ≤ j = ltb-false j (i + k) f in
          let n : i + k + (j - (i + k)) ≡ j = omega arith in
          around j (i + (length new + (j - (i + k)))) (high_row (j - (i + k)) ∙ ap (λ m. get_or l m blank) n) (omega (arith, long)) o

      back : (v j : ℕ) → j < length (live u) → is_open (row_at u j).state ≡ true → inside (range_of (row_at u j)) v ≡ true → Opened t v ⊎ Q v
      back v =
          rows_after (λ r. is_open r.state ≡ true → inside (range_of r) v ≡ true → Opened t v ⊎ Q v) (λ j b far o c. inl (record { row = j; used = b; isopen = o; hit = c }))
          (λ j b o c. ⊎_elim (λ g. inl (record { row = i + g.row; used = omega (arith, g.used); isopen = g.isopen; hit = g.hit })) inr (was j v b o c))

  pub carried : ((j : ℕ) → j < k → is_open (get_or l (i + j) blank).state ≡ false → Fits new (get_or l (i + j) blank))
      → ((j v : ℕ) → j < length new → is_open (get_or new j blank).state ≡ true → inside (range_of (get_or new j blank)) v ≡ true → Was l i k v)
      → Carried t u
  carried fits was =
      let but = carried_but (λ r. ℕ) (λ v. ⊥) (λ j b o z. fits j b o) (λ j v b o c. inl (was j v b o c)) in
      record { kept = λ j b o. but.kept j b o 0; came = λ j v b o c. ⊎_elim (λ x. x) (λ z. absurd z) (but.came j v b o c) }

-- A named Open row.
only : (l : List Reservation) (i j : ℕ) → j < 1 → is_open (get_or l i blank).state ≡ true → is_open (get_or l (i + j) blank).state ≡ false → ⊥
only l i j b o e = let n : i + j ≡ i = omega arith in true≢false (sym o ∙ sym (ap (λ m. is_open (get_or l m blank).state) n) ∙ e)

-- It was cell v's.
was_it : (l : List Reservation) (i v : ℕ) → is_open (get_or l i blank).state ≡ true → inside (range_of (get_or l i blank)) v ≡ true → Was l i 1 v
was_it l i v o e =
    let n : i ≡ i + 0 = omega arith in
    record { row = 0; used = omega arith; isopen = ap (λ m. is_open (get_or l m blank).state) (sym n) ∙ o; hit = ap (λ m. inside (range_of (get_or l m blank)) v) (sym n) ∙ e }

-- A wider range holds what a narrower one holds.
pub inside_wider : (a b : Range) (v : ℕ) → a.base ≤ b.base → b.base + b.length ≤ a.base + a.length → inside b v ≡ true → inside a v ≡ true
inside_wider a b v p q e = let k = inside_bounds b v e in inside_made a v (omega (arith, k.0)) (omega (arith, k.1))

-- The cells of a reservation's parts are its own, and those of two neighbours joined are theirs.
pub lower_inside : (r : Reservation) (len v : ℕ) → len ≤ r.length → inside (range_of (lower_part r len)) v ≡ true → inside (range_of r) v ≡ true
lower_inside r len v h = inside_wider (range_of r) (range_of (lower_part r len)) v (omega arith) (omega arith)

pub upper_inside : (r : Reservation) (len v : ℕ) → len ≤ r.length → r.base + r.length < 65536 → inside (range_of (upper_part r len)) v ≡ true → inside (range_of r) v ≡ true
upper_inside r len v h fits =
    let n : (r.base + len) % 65536 ≡ r.base + len = omega arith in
    inside_wider (range_of r) (range_of (upper_part r len)) v (omega arith) (omega arith)

pub joined_inside : (r s : Reservation) (v : ℕ) → s.base ≡ r.base + r.length → r.length + s.length < 65536 → inside (range_of (joined r s)) v ≡ true
    → (inside (range_of r) v ≡ true) ⊎ (inside (range_of s) v ≡ true)
joined_inside r s v seam fits e = go (ltb v (r.base + r.length)) refl
  where
    whole : (r.length + s.length) % 65536 ≡ r.length + s.length
    whole = omega arith

    go : (x : Bool) → ltb v (r.base + r.length) ≡ x → (inside (range_of r) v ≡ true) ⊎ (inside (range_of s) v ≡ true)
    go true x = inl (inside_made (range_of r) v (inside_bounds (range_of (joined r s)) v e).0 (ltb-true v (r.base + r.length) x))
    go false x = inr (inside_made (range_of s) v (omega (arith, ltb-false v (r.base + r.length) x)) (omega (arith, (inside_bounds (range_of (joined r s)) v e).1, whole)))

module _ (t u : Table) (party base i : ℕ) where
  abbrev l₀ : List Reservation
  l₀ = live t

  abbrev r₀ : Reservation
  r₀ = get_or (live t) i blank

  pub take_carried : is_open r₀.state ≡ true → Replaced t u party base i 1 (taken_row r₀ party ∷ []) → Carried t u
  take_carried o k =
      carried t u (taken_row r₀ party ∷ []) i 1 k.within k.now (λ j b e. absurd (only l₀ i j b o e)) back
    where
      back : (j v : ℕ) → j < 1 → is_open (get_or (taken_row r₀ party ∷ []) j blank).state ≡ true → inside (range_of (get_or (taken_row r₀ party ∷ []) j blank)) v ≡ true → Was l₀ i 1 v
      back zero v b e c = absurd (false≢true e)
      back (suc j) v b e c = absurd (omega arith)

  pub give_carried : (to : ℕ) → is_open r₀.state ≡ true → Replaced t u party base i 1 (given_row r₀ to ∷ []) → Carried t u
  give_carried to o k =
      carried t u (given_row r₀ to ∷ []) i 1 k.within k.now (λ j b e. absurd (only l₀ i j b o e)) back
    where
      back : (j v : ℕ) → j < 1 → is_open (get_or (given_row r₀ to ∷ []) j blank).state ≡ true → inside (range_of (get_or (given_row r₀ to ∷ []) j blank)) v ≡ true → Was l₀ i 1 v
      back zero v b e c = was_it l₀ i v o c
      back (suc j) v b e c = absurd (omega arith)

  pub revoke_carried : Replaced t u party base i 1 (revoking_row r₀ ∷ []) → Carried t u
  revoke_carried k = carried t u (revoking_row r₀ ∷ []) i 1 k.within k.now keep back
    where
      keep : (j : ℕ) → j < 1 → is_open (get_or l₀ (i + j) blank).state ≡ false → Fits (revoking_row r₀ ∷ []) (get_or l₀ (i + j) blank)
      keep j b e =
          let n : i ≡ i + j = omega arith in
          subst (λ m. Fits (revoking_row r₀ ∷ []) (get_or l₀ m blank)) n (record { row = 0; used = omega arith; lent = refl; from = omega arith; upto = omega arith })

      back : (j v : ℕ) → j < 1 → is_open (get_or (revoking_row r₀ ∷ []) j blank).state ≡ true → inside (range_of (get_or (revoking_row r₀ ∷ []) j blank)) v ≡ true → Was l₀ i 1 v
      back zero v b e c = absurd (false≢true e)
      back (suc j) v b e c = absurd (omega arith)

  pub split_carried : (len : ℕ) → r₀.base + r₀.length < 65536 → is_open r₀.state ≡ true → Replaced t u party base i 1 (lower_part r₀ len ∷ upper_part r₀ len ∷ []) → len ≤ r₀.length → Carried t u
  split_carried len fits o k small =
      carried t u (lower_part r₀ len ∷ upper_part r₀ len ∷ []) i 1 k.within k.now (λ j b e. absurd (only l₀ i j b o e)) back
    where
      back : (j v : ℕ) → j < 2 → is_open (get_or (lower_part r₀ len ∷ upper_part r₀ len ∷ []) j blank).state ≡ true
          → inside (range_of (get_or (lower_part r₀ len ∷ upper_part r₀ len ∷ []) j blank)) v ≡ true → Was l₀ i 1 v
      back zero v b e c = was_it l₀ i v o (lower_inside r₀ len v small c)
      back (suc zero) v b e c = was_it l₀ i v o (upper_inside r₀ len v small fits c)
      back (suc (suc j)) v b e c = absurd (omega arith)

alike_lent : (a b : ReservationState) → alike a b ≡ true → (is_open a ≡ is_open b)
alike_lent Open Open e = refl
alike_lent Open Taken e = absurd (false≢true e)
alike_lent Open Revoking e = absurd (false≢true e)
alike_lent Taken Open e = absurd (false≢true e)
alike_lent Taken Taken e = refl
alike_lent Taken Revoking e = absurd (false≢true e)
alike_lent Revoking b e = absurd (false≢true e)

module _ (t u : Table) (party base i : ℕ) where
  abbrev one : Reservation
  one = get_or (live t) i blank

  abbrev two : Reservation
  two = get_or (live t) (i + 1) blank

  pub merge_carried : two.base ≡ one.base + one.length → one.length + two.length < 65536 → alike one.state two.state ≡ true
      → Replaced t u party base i 2 (joined one two ∷ []) → Carried t u
  merge_carried seam fits same k = carried t u (joined one two ∷ []) i 2 k.within k.now keep back
    where
      whole : (one.length + two.length) % 65536 ≡ one.length + two.length
      whole = omega arith

      keep : (j : ℕ) → j < 2 → is_open (get_or (live t) (i + j) blank).state ≡ false → Fits (joined one two ∷ []) (get_or (live t) (i + j) blank)
      keep zero b e =
          let n : i ≡ i + 0 = omega arith in
          subst (λ m. Fits (joined one two ∷ []) (get_or (live t) m blank)) n
          (record { row = 0; used = omega arith; lent = ap (λ m. is_open (get_or (live t) m blank).state) n ∙ e; from = omega arith; upto = omega (arith, whole) })
      keep (suc zero) b e = record { row = 0; used = omega arith; lent = alike_lent one.state two.state same ∙ e; from = omega (arith, seam); upto = omega (arith, whole, seam) }
      keep (suc (suc j)) b e = absurd (omega arith)

      back : (j v : ℕ) → j < 1 → is_open (get_or (joined one two ∷ []) j blank).state ≡ true → inside (range_of (get_or (joined one two ∷ []) j blank)) v ≡ true → Was (live t) i 2 v
      back zero v b e c =
          let n : i ≡ i + 0 = omega arith in
          ⊎_elim
          (λ x. record { row = 0; used = omega arith; isopen = ap (λ m. is_open (get_or (live t) m blank).state) (sym n) ∙ e; hit = ap (λ m. inside (range_of (get_or (live t) m blank)) v) (sym n) ∙ x })
          (λ x. record { row = 1; used = omega arith; isopen = sym (alike_lent one.state two.state same) ∙ e; hit = x }) (joined_inside one two v seam fits c)
      back (suc j) v b e c = absurd (omega arith)

-- Whether a revocation runs, its range, and what dies are said by the Revoking reservations alone.
pub running_by : (c : Core) → running c ≡ not (none (dyings (live c.table)))
unfolding running
running_by c = ap not (revoking_none c.table)

pub revoked_by : (c : Core) → revoked c ≡ range_of (first_of (dyings (live c.table)))
unfolding revoked
revoked_by c = ap range_of (revoking_row_lem c.table)

abbrev dies_by : List Reservation → ℕ → Bool
dies_by d cell = not (none d) && dies (range_of (first_of d)) cell

dies_by_lem : (c : Core) (cell : ℕ) → dying c cell ≡ dies_by (dyings (live c.table)) cell
unfolding dying
dies_by_lem c cell =
    ap (λ b. b && dies (revoked c) cell) (running_by c) ∙ ap (λ r. not (none (dyings (live c.table))) && dies r cell) (revoked_by c)

pub dies_same : (c d : Core) → dyings (live d.table) ≡ dyings (live c.table) → (cell : ℕ) → dying d cell ≡ dying c cell
dies_same c d e cell = dies_by_lem d cell ∙ ap (λ x. dies_by x cell) e ∙ sym (dies_by_lem c cell)

-- Rows that are not Revoking, exchanged for others that are not.
dyings_swap : (pre old new post : List Reservation) → dyings old ≡ [] → dyings new ≡ [] → dyings (pre ++ (new ++ post)) ≡ dyings (pre ++ (old ++ post))
dyings_swap pre old new post a b = simp (dyings_append, a, b)

pub dyings_one : (t u : Table) (i : ℕ) (new : List Reservation) → i < length (live t) → live u ≡ take i (live t) ++ (new ++ drop (i + 1) (live t)) → is_revoking (row_at t i).state ≡ false → dyings new ≡ [] → dyings (live u) ≡ dyings (live t)
dyings_one t u i new h now a b =
    ap dyings now ∙ dyings_swap (take i (live t)) (row_at t i ∷ []) new (drop (i + 1) (live t)) (dyings_not (row_at t i) [] a ∙ (unfold dyings in refl)) b
    ∙ sym (ap dyings (cut_one (live t) i h))

pub dyings_two : (t u : Table) (i : ℕ) (new : List Reservation) → i + 1 < length (live t) → live u ≡ take i (live t) ++ (new ++ drop (i + 2) (live t)) → is_revoking (row_at t i).state ≡ false → is_revoking (row_at t (i + 1)).state ≡ false → dyings new ≡ [] → dyings (live u) ≡ dyings (live t)
dyings_two t u i new h now a c b =
    ap dyings now
    ∙ dyings_swap (take i (live t)) (row_at t i ∷ row_at t (i + 1) ∷ []) new (drop (i + 2) (live t)) (dyings_not (row_at t i) (row_at t (i + 1) ∷ []) a ∙ dyings_not (row_at t (i + 1)) [] c ∙ (unfold dyings in refl)) b
    ∙ sym (ap dyings (cut_two (live t) i h))

pub open_no_dying : (r : Reservation) → is_revoking r.state ≡ false → dyings (r ∷ []) ≡ []
open_no_dying r a = dyings_not r [] a ∙ (unfold dyings in refl)

-- A collect: what is lent stays lent where it holds a cell outside the revoked range; what is Open was Open or revoked.
module _ (t u : Table) (i : ℕ) (h : i < length (live t)) (now : live u ≡ take i (live t) ++ collected_row (row_at t i) ∷ drop (i + 1) (live t)) where
  back : (j v : ℕ) → j < 1 → is_open (get_or (collected_row (row_at t i) ∷ []) j blank).state ≡ true → inside (range_of (get_or (collected_row (row_at t i) ∷ []) j blank)) v ≡ true
      → Was (live t) i 1 v ⊎ (inside (range_of (row_at t i)) v ≡ true)
  back zero v x o e = inr e
  back (suc j) v x o e = absurd (omega arith)

  pub collect_kept : (b j : ℕ) → inside (range_of (row_at t i)) b ≡ false → j < length (live t) → is_open (row_at t j).state ≡ false → inside (range_of (row_at t j)) b ≡ true → Around u (row_at t j)
  collect_kept b j out = (carried_but t u (collected_row (row_at t i) ∷ []) i 1 (omega arith) now (λ r. inside (range_of r) b ≡ true) (λ v. inside (range_of (row_at t i)) v ≡ true) keep back).kept j
    where
      keep : (j : ℕ) → j < 1 → is_open (get_or (live t) (i + j) blank).state ≡ false → inside (range_of (get_or (live t) (i + j) blank)) b ≡ true → Fits (collected_row (row_at t i) ∷ []) (get_or (live t) (i + j) blank)
      keep j x o e = let n : i + j ≡ i = omega arith in absurd (false≢true (sym out ∙ sym (ap (λ m. inside (range_of (get_or (live t) m blank)) b) n) ∙ e))

  pub collect_came : (j v : ℕ) → j < length (live u) → is_open (row_at u j).state ≡ true → inside (range_of (row_at u j)) v ≡ true → Opened t v ⊎ (inside (range_of (row_at t i)) v ≡ true)
  collect_came = (carried_but t u (collected_row (row_at t i) ∷ []) i 1 (omega arith) now (λ r. ⊥) (λ v. inside (range_of (row_at t i)) v ≡ true) (λ j b o z. absurd z) back).came

  -- The revoked row is Open.
  pub collect_open : (i < length (live u)) × (is_open (row_at u i).state ≡ true) × (range_of (row_at u i) ≡ range_of (row_at t i))
  collect_open =
      let n : i + 0 ≡ i = omega arith in
      let e : row_at u i ≡ collected_row (row_at t i) = ap (λ k. row_at u k) (sym n) ∙ mid_row t u (collected_row (row_at t i) ∷ []) i 1 (omega arith) now 0 (omega arith) in
      (omega (arith, long t u (collected_row (row_at t i) ∷ []) i 1 (omega arith) now), ap (λ r. is_open r.state) e, ap (λ r. range_of r) e)
