-- What a call on a lent table leaves: its answer, and the table read from the numbers. Assumes nothing.
use Rattle.std.specs.Prelude.{ℕ, suc, ◌+◌, true, not, ◌&&◌, List, [], ◌∷◌, ◌++◌, ◌≡◌, length, take, drop, set, eqb, leb, Option, Some, None}
use Rattle.capabilities.specs.Lists.{pick}
use Rattle.table.specs.declared.Reservation.{Reservation}
use Rattle.table.specs.Table.{Tabled}
use Rattle.table.specs.Table.{Taken as Took}
use Rattle.capabilities.specs.Refusals.{reason, first}
use Rattle.table.specs.Rows.{is_open, held, splice}
use Rattle.table.specs.Find.{missing}
use Rattle.table.specs.Operations.{bad_split, alike}
use Rattle.table.specs.Numbers.{table_of, all_written}

-- One entry put in place of the old one; where there is none, as it was.
unfoldable pub put_at : {A : Type 0} → List A → Option ℕ → A → List A
put_at l (Some i) x = set l i x
put_at l None x = l

-- The number of a row; 0 where there is none.
unfoldable pub place_of : Option ℕ → ℕ
place_of (Some i) = i
place_of None = 0

-- Of the first n entries those from the i-th on stand one higher; the i-th stands in its old place besides.
unfoldable pub raised : {A : Type 0} → List A → ℕ → ℕ → List A
raised l i n = take (suc i) l ++ (drop i (take n l) ++ drop (suc n) l)

-- The entries above the i-th, up to the last one, stand one lower; the last one stands in its old place besides.
unfoldable pub lowered : {A : Type 0} → List A → ℕ → ℕ → List A
lowered l i last = take i l ++ (drop (suc i) (take (suc last) l) ++ drop last l)

-- Of the n entries in use, the i-th becomes two, and those above it move up.
unfoldable pub spread_at : {A : Type 0} → List A → ℕ → ℕ → A → A → List A
spread_at l n i lower upper = splice i 1 (lower ∷ upper ∷ []) (take n l) ++ drop (n + 1) l

-- Of the n entries in use, the i-th and the next one become one, those above move down, and `none` stands in the last one's place.
unfoldable pub gather_at : {A : Type 0} → List A → ℕ → ℕ → A → A → List A
gather_at l n i joined none = splice i 2 (joined ∷ []) (take n l) ++ (none ∷ drop n l)

-- A lent slice of 64 numbers is judged by the rule; of another, the call answers 1 and the table stays.
abbrev pub fitting : List ℕ → ℕ → Tabled → Tabled
fitting l count rule = pick (eqb (length l) 64) rule (record { code = 1; table = table_of l count })

-- What take answers, without the length.
abbrev pub tabled_of : Took → Tabled
tabled_of a = record { code = a.code; table = a.table }

-- What a call on the numbers l leaves, read as a table: its answer is the rule's, and the numbers m read as the rule's table. A refusal
-- keeps every number, and written numbers stay written. It follows from what Numbered.antt says of each call.
pub record Leaves (l m : List ℕ) (code count : ℕ) (rule : Tabled) : Type 0 where
  pub answers : code ≡ rule.code
  pub reads : table_of m count ≡ rule.table
  pub keeps : (code ≡ 0 → ⊥) → m ≡ l
  pub sound : all_written l ≡ true → all_written m ≡ true

-- The reasons against a split and a merge, of rows that were read.
abbrev pub split_code : Option ℕ → Reservation → ℕ → ℕ → ℕ
split_code f r len count =
    first (reason 6 (missing f) ∷ reason 7 (not (is_open r.state)) ∷ reason 8 (bad_split r len) ∷ reason 9 (leb 64 count) ∷ [])

abbrev pub merge_code : Option ℕ → Option ℕ → Reservation → Reservation → ℕ → ℕ
merge_code f g r s party =
    first (reason 6 (missing f) ∷ reason 7 (not (not (missing g) && (held s party && alike r.state s.state))) ∷ [])
