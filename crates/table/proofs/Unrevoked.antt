-- The Revoking reservations of a table: what exchanging a row does to them, and that 01 to 04 touch none. Assumes nothing.
use Rattle.std.specs.Prelude.{Option, Some, None}
use Prim.Native.Nat.{ℕ, ◌+◌, ◌<◌}
use native.Mathlib.Numerals.{add-one}
use native.Mathlib.Omega.{arith}
use mathlib.Core.Bool.{Bool, true, false, not, ◌&&◌, false≢true}
use mathlib.Core.List.{List, ◌∷◌, ◌++◌}
use mathlib.Core.Path.{◌≡◌, refl, sym, ap, ◌∙◌}
use borrow.Author.Tests.{eqb-true}
use lib.Dec.{eqb}
use lib.ListN.{length, get_or, take, drop, set}
use lib.Seq.{set_split}
use Rattle.capabilities.specs.Lists.{pick}
use Rattle.capabilities.specs.Refusals.{first}
use Rattle.capabilities.proofs.Choice.{and_right, pick_yes, pick_no}
use Rattle.table.specs.declared.Reservation.{Reservation}
use Rattle.table.specs.declared.ReservationState.{ReservationState}
use Rattle.table.specs.declared.ReservationState.TheVariants.{Open, Taken, Revoking}
use Rattle.table.specs.Table.{Table}
use Rattle.table.specs.Rows.{is_open, is_revoking, held, blank, live}
use Rattle.table.specs.Find.{missing, find_of, begins, next_of, row_of, with_row}
use Rattle.table.specs.Operations.{open_reasons, take_reasons, taken_row, take_of, give_reasons, given_row, give_of}
use Rattle.table.specs.Operations.{lower_part, upper_part, split_reasons_at, split_reasons, split_at, split_of}
use Rattle.table.specs.Operations.{alike, joined, mergeable, merge_reasons_at, merge_reasons, merge_at, merge_of}
use Rattle.table.specs.Tiling.{table_sound}
use Rattle.table.proofs.Finding.{found_at, next_at, next_below}
use Rattle.table.proofs.Answers.{Splits, open_clear, split_clear, merge_clear, merge_next}
use Rattle.table.proofs.Inverse.{spread_live, gather_live}
use Rattle.table.proofs.Dying.{dyings, dyings_append, dyings_not}
use Rattle.table.proofs.Sound.{Sound, sound, with_made, live_made}
use Rattle.table.proofs.Kept.{cut_one, cut_two, row_live, open_still}

-- The Revoking reservations once a row is exchanged for another.
module _ (cells : ℕ) (t : Table) (s : Sound cells t) (i : ℕ) (h : i < length (live t)) (n : Reservation) where
  abbrev l : List Reservation
  l = live t

  pub with_live : live (with_row t (Some i) n) ≡ take i l ++ n ∷ drop (i + 1) l
  with_live =
      ap live (with_made cells t i n s h) ∙ live_made (set l i n) (drop t.count t.rows) ∙ set_split l i n h
      ∙ ap (λ k. take i l ++ n ∷ drop k l) (sym (add-one i))

  pub before_dyings : dyings l ≡ dyings (take i l) ++ dyings (get_or l i blank ∷ drop (i + 1) l)
  before_dyings = ap dyings (cut_one l i h) ∙ dyings_append (take i l) (get_or l i blank ∷ drop (i + 1) l)

  pub after_dyings : dyings (live (with_row t (Some i) n)) ≡ dyings (take i l) ++ dyings (n ∷ drop (i + 1) l)
  after_dyings = ap dyings with_live ∙ dyings_append (take i l) (n ∷ drop (i + 1) l)

  pub same_dyings : is_revoking (get_or l i blank).state ≡ false → is_revoking n.state ≡ false → dyings (live (with_row t (Some i) n)) ≡ dyings l
  same_dyings a b =
      after_dyings ∙ ap (λ d. dyings (take i l) ++ d) (dyings_not n (drop (i + 1) l) b ∙ sym (dyings_not (get_or l i blank) (drop (i + 1) l) a)) ∙ sym before_dyings

pub alike_still : (a b : ReservationState) → alike a b ≡ true → (is_revoking a ≡ false) × (is_revoking b ≡ false)
alike_still Open Open e = (refl, refl)
alike_still Open Taken e = (refl, refl)
alike_still Open Revoking e = absurd (false≢true e)
alike_still Taken Open e = (refl, refl)
alike_still Taken Taken e = (refl, refl)
alike_still Taken Revoking e = absurd (false≢true e)
alike_still Revoking b e = absurd (false≢true e)

-- 01 to 04 touch no Revoking reservation.
module _ (cells : ℕ) (t : Table) (ok : table_sound cells t ≡ true) where
  pub pick_same : (code : ℕ) (x : Table) → (code ≡ 0 → dyings (live x) ≡ dyings (live t)) → dyings (live (pick (eqb code 0) x t)) ≡ dyings (live t)
  pick_same code x f = go (eqb code 0) refl
    where
      go : (b : Bool) → eqb code 0 ≡ b → dyings (live (pick (eqb code 0) x t)) ≡ dyings (live t)
      go true e = ap (λ u. dyings (live u)) (pick_yes (eqb code 0) x t e) ∙ f (eqb-true code 0 e)
      go false e = ap (λ u. dyings (live u)) (pick_no (eqb code 0) x t e)

  pub with_same : (party base : ℕ) (f : Option ℕ) (n : Reservation) → find_of t party base ≡ f → is_open (row_of t f).state ≡ true → is_revoking n.state ≡ false → dyings (live (with_row t f n)) ≡ dyings (live t)
  with_same party base (Some i) n e o w =
      let h = (found_at (begins party base) (live t) i blank (unfold find_of in e)).0 in
      same_dyings cells t (sound cells t ok) i h n (open_still (get_or (live t) i blank).state (sym (ap (λ r. is_open r.state) (row_live t i h)) ∙ o)) w
  with_same party base None n e o w = unfold with_row in refl

  pub split_same : (party base len : ℕ) (f : Option ℕ) → find_of t party base ≡ f → Splits t f len → dyings (live (split_at t f len)) ≡ dyings (live t)
  unfolding split_at
  split_same party base len (Some i) e k =
      let s = sound cells t ok in
      let h = (found_at (begins party base) (live t) i blank (unfold find_of in e)).0 in
      let l = live t in
      let q = drop (i + 1) l in
      let r = get_or l i blank in
      let lo = lower_part (row_of t (Some i)) len in
      let up = upper_part (row_of t (Some i)) len in
      let still : is_revoking r.state ≡ false = open_still r.state (sym (ap (λ x. is_open x.state) (row_live t i h)) ∙ k.isopen) in
      ap dyings (spread_live cells t s i h lo up) ∙ dyings_append (take i l) (lo ∷ up ∷ q)
      ∙ ap (λ d. dyings (take i l) ++ d) (dyings_not lo (up ∷ q) refl ∙ dyings_not up q refl ∙ sym (dyings_not r q still))
      ∙ sym (dyings_append (take i l) (r ∷ q)) ∙ sym (ap dyings (cut_one l i h))
  split_same party base len None e k = refl

  pub merge_same : (party : ℕ) (f : Option ℕ) → mergeable t f party ≡ true → dyings (live (merge_at t f)) ≡ dyings (live t)
  unfolding merge_at mergeable
  merge_same party (Some i) m =
      let w = sound cells t ok in
      let h = next_below t i (merge_next t (Some i) party m) in
      let l = live t in
      let q = drop (i + 2) l in
      let r = get_or l i blank in
      let s = get_or l (i + 1) blank in
      let g = row_of t (next_of t (Some i)) in
      let j = joined (row_of t (Some i)) g in
      let row = row_live t i (omega arith) in
      let above = ap (row_of t) (next_at t i h) ∙ row_live t (i + 1) h in
      let same = alike_still (row_of t (Some i)).state g.state
      (and_right (held g party) (alike (row_of t (Some i)).state g.state) (and_right (not (missing (next_of t (Some i)))) (held g party && alike (row_of t (Some i)).state g.state) m)) in
      let still-r : is_revoking r.state ≡ false = sym (ap (λ x. is_revoking x.state) row) ∙ same.0 in
      let still-s : is_revoking s.state ≡ false = sym (ap (λ x. is_revoking x.state) above) ∙ same.1 in
      ap dyings (gather_live cells t w i h j) ∙ dyings_append (take i l) (j ∷ q)
      ∙ ap (λ d. dyings (take i l) ++ d) (dyings_not j q same.0 ∙ sym (dyings_not r (s ∷ q) still-r ∙ dyings_not s q still-s))
      ∙ sym (dyings_append (take i l) (r ∷ s ∷ q)) ∙ sym (ap dyings (cut_two l i h))
  merge_same party None m = refl

  -- The same of each call, granted or refused.
  pub take_still : (party base : ℕ) → dyings (live (take_of t party base).table) ≡ dyings (live t)
  unfolding take_of take_reasons
  take_still party base =
      let f = find_of t party base in
      pick_same (first (open_reasons f (row_of t f))) (with_row t f (taken_row (row_of t f) party))
      (λ z. with_same party base f (taken_row (row_of t f) party) refl (open_clear f (row_of t f) z).1 refl)

  pub give_still : (party base to : ℕ) → dyings (live (give_of t party base to).table) ≡ dyings (live t)
  unfolding give_of give_reasons
  give_still party base to =
      let f = find_of t party base in
      pick_same (first (open_reasons f (row_of t f))) (with_row t f (given_row (row_of t f) to))
      (λ z. let o = (open_clear f (row_of t f) z).1 in with_same party base f (given_row (row_of t f) to) refl o (open_still (row_of t f).state o))

  pub split_still : (party base len : ℕ) → dyings (live (split_of t party base len).table) ≡ dyings (live t)
  unfolding split_of split_reasons
  split_still party base len =
      let f = find_of t party base in
      pick_same (first (split_reasons_at t f len)) (split_at t f len) (λ z. split_same party base len f refl (split_clear t f len z))

  pub merge_still : (party base : ℕ) → dyings (live (merge_of t party base).table) ≡ dyings (live t)
  unfolding merge_of merge_reasons
  merge_still party base =
      let f = find_of t party base in
      pick_same (first (merge_reasons_at t f party)) (merge_at t f) (λ z. merge_same party f (merge_clear t f party z))
