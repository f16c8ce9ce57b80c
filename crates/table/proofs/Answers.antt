-- A refused operation answers its number and the table as it was; a granted one answers 0 and the new table. Assumes nothing.
use Rattle.std.specs.Prelude.{Option}
use Prim.Native.Nat.{ℕ, ◌<◌, ◌≤◌}
use native.Mathlib.Omega.{arith}
use mathlib.Core.Bool.{Bool, true, false, not}
use mathlib.Core.List.{List, [], ◌∷◌}
use mathlib.Core.Path.{◌≡◌, sym, ap, ◌∙◌}
use borrow.Author.Tests.{eq-eqb, ne_eqb, leb-false, not-true, not-false}
use lib.Dec.{eqb, leb}
use Rattle.capabilities.specs.Lists.{pick}
use Rattle.capabilities.specs.Refusals.{Reason, reason, first, number_of}
use Rattle.capabilities.specs.declared.refusal.Refusal.{Refusal}
use Rattle.capabilities.specs.declared.refusal.Refusal.TheVariants.{State, Memory, Command, Unnamed, Manager, NoReservation, ReservationState, SplitLength, TableFull, PartPage, Revocation, OutOfRange, PageState, FrameState, Untagged, Permission, Bounds, NotMapped, Mailbox, Principal, Limit, Claimed, Question}
use Rattle.capabilities.proofs.Choice.{pick_yes, kept, and_left}
use Rattle.capabilities.proofs.Refusals.{first_clear}
use Rattle.table.specs.Table.{Table}
use Rattle.table.specs.declared.Reservation.{Reservation}
use Rattle.table.specs.Rows.{is_open}
use Rattle.table.specs.Find.{missing, next_of, row_of}
use Rattle.table.specs.Operations.{open_reasons, bad_split, full, mergeable, split_reasons_at, merge_reasons_at}
use Rattle.table.proofs.Truth.{or_right}

-- A refusal's number is not the 0 of a granted call, so that it chooses what was.
refusal_counts : (r : Refusal) → 0 < number_of r
refusal_counts State = omega arith
refusal_counts Memory = omega arith
refusal_counts Command = omega arith
refusal_counts Unnamed = omega arith
refusal_counts Manager = omega arith
refusal_counts NoReservation = omega arith
refusal_counts ReservationState = omega arith
refusal_counts SplitLength = omega arith
refusal_counts TableFull = omega arith
refusal_counts PartPage = omega arith
refusal_counts Revocation = omega arith
refusal_counts OutOfRange = omega arith
refusal_counts PageState = omega arith
refusal_counts FrameState = omega arith
refusal_counts Untagged = omega arith
refusal_counts Permission = omega arith
refusal_counts Bounds = omega arith
refusal_counts NotMapped = omega arith
refusal_counts Mailbox = omega arith
refusal_counts Principal = omega arith
refusal_counts Limit = omega arith
refusal_counts Claimed = omega arith
refusal_counts Question = omega arith

pub refusal_keeps : (r : Refusal) → eqb (number_of r) 0 ≡ false
refusal_keeps r = ne_eqb (number_of r) 0 (λ z. omega (arith, refusal_counts r))

module _ {A : Type 0} (code told : ℕ) (e : code ≡ told) (x y : A) where
  pub granted : code ≡ 0 → pick (eqb told 0) x y ≡ x
  granted z = pick_yes _ _ _ (eq-eqb told 0 (sym e ∙ z))

  pub refused : (code ≡ 0 → ⊥) → pick (eqb told 0) x y ≡ y
  refused z = kept told x y (λ k. z (e ∙ k))

-- What was not refused under 8 fits.
pub split_fits : (r : Reservation) (len : ℕ) → bad_split r len ≡ false → len ≤ r.length
split_fits r len e = omega (arith, leb-false r.length len (or_right (eqb len 0) (leb r.length len) e))

-- What take, give, split and merge need of a reservation that was not refused.
pub open_clear : (f : Option ℕ) (r : Reservation) → first (open_reasons f r) ≡ 0 → (missing f ≡ false) × (is_open r.state ≡ true)
unfolding open_reasons
open_clear f r e =
    let after6 = first_clear 6 _ _ (λ z. omega arith) e in
    (after6.0, not-false _ (first_clear 7 _ _ (λ z. omega arith) after6.1).0)

-- What a granted split has found.
pub record Splits (t : Table) (f : Option ℕ) (len : ℕ) : Type 0 where
  pub found : missing f ≡ false
  pub isopen : is_open (row_of t f).state ≡ true
  pub fits : bad_split (row_of t f) len ≡ false
  pub room : full t ≡ false

pub split_clear : (t : Table) (f : Option ℕ) (len : ℕ) → first (split_reasons_at t f len) ≡ 0 → Splits t f len
unfolding split_reasons_at
split_clear t f len e =
    let after6 = first_clear 6 _ _ (λ z. omega arith) e in
    let after7 = first_clear 7 _ _ (λ z. omega arith) after6.1 in
    let after8 = first_clear 8 _ _ (λ z. omega arith) after7.1 in
    record { found = after6.0; isopen = not-false _ after7.0; fits = after8.0; room = (first_clear 9 _ _ (λ z. omega arith) after8.1).0 }

pub merge_clear : (t : Table) (f : Option ℕ) (party : ℕ) → first (merge_reasons_at t f party) ≡ 0 → mergeable t f party ≡ true
unfolding merge_reasons_at
merge_clear t f party e =
    let after6 = (first_clear 6 _ _ (λ z. omega arith) e).1 in
    not-false _ (first_clear 7 _ _ (λ z. omega arith) after6).0

pub merge_found : (t : Table) (f : Option ℕ) (party : ℕ) → first (merge_reasons_at t f party) ≡ 0 → missing f ≡ false
unfolding merge_reasons_at
merge_found t f party e = (first_clear 6 _ _ (λ z. omega arith) e).0

pub merge_next : (t : Table) (f : Option ℕ) (party : ℕ) → mergeable t f party ≡ true → missing (next_of t f) ≡ false
unfolding mergeable
merge_next t f party m = not-true _ (and_left (not (missing (next_of t f))) _ m)

-- A code as it is nested in the code is the first of a list of reasons, reason by reason.
pub judged : (number : ℕ) (applies told : Bool) (later : ℕ) (rest : List Reason) (code : ℕ) → code ≡ pick applies number later → applies ≡ told → later ≡ first rest → code ≡ first (reason number told ∷ rest)
unfolding first
judged number applies told later rest code e p q = e ∙ ap (λ b. pick b number later) p ∙ ap (pick told number) q

pub judged_last : (number : ℕ) (applies told : Bool) (code : ℕ) → code ≡ pick applies number 0 → applies ≡ told → code ≡ first (reason number told ∷ [])
unfolding first
judged_last number applies told code e p = e ∙ ap (λ b. pick b number 0) p
