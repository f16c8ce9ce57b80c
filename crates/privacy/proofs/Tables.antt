-- The reservation around the house's range, and its capability, through each granted call. Assumes nothing.
use Rattle.std.specs.Prelude.{Some, None}
use Prim.Native.Nat.{ℕ, ◌+◌, ◌*◌, ◌%◌, ◌<◌, ◌≤◌}
use native.Mathlib.Omega.{arith}
use mathlib.Core.Bool.{Bool, true, false, true≢false}
use mathlib.Core.List.{List, [], ◌∷◌}
use mathlib.Core.Logic.{⊎_elim}
use mathlib.Core.Path.{◌≡◌, refl, sym, ap, subst, ◌∙◌}
use borrow.Author.Tests.{eqb-true, le-leb, leb-true}
use lib.Dec.{eqb, leb}
use lib.ListN.{length}
use Rattle.capabilities.specs.declared.Range.{Range}
use Rattle.capabilities.specs.Capability.{base_of, length_of, capability}
use Rattle.capabilities.specs.Range.{inside}
use Rattle.capabilities.specs.Refusals.{first}
use Rattle.capabilities.proofs.Capabilities.{made_base, made_length}
use Rattle.capabilities.proofs.Choice.{and_left, and_right}
use Rattle.pages.specs.Mapping.{lookup_of}
use Rattle.pages.proofs.Formed.{Sound, sound}
use Rattle.table.specs.Table.{Table}
use Rattle.table.specs.Find.{find_of, row_of}
use Rattle.table.specs.Operations.{take_reasons, take_of, taken_row}
use Rattle.table.specs.Rows.{is_open, held, live, range_of}
use Rattle.table.proofs.After.{Replaced, take_after}
use Rattle.table.proofs.Cells.{inside_bounds, inside_made, no_shared_cell}
use Rattle.table.proofs.Kept.{row_live}
use Rattle.table.proofs.Sound.{sound as tableFacts}
use Rattle.table.proofs.Tiled.{tiled_some}
use Rattle.table.proofs.Truth.{both}
use Rattle.reservations.specs.Core.{Core}
use Rattle.reservations.specs.Revocation.{revoked, collect_reasons, collect_of, core_sound}
use Rattle.reservations.proofs.CoreKept.{core_facts}
use Rattle.words.specs.Words.{slot}
use Rattle.machine.specs.State.{State}
use Rattle.machine.specs.Roles.{Asked}
use Rattle.machine.specs.Effects.{Effect}
use Rattle.machine.proofs.Deeds.{Deed, collected_as}
use Rattle.histories.specs.Inv.{row_at}
use Rattle.histories.proofs.Carrying.{row_fits}
use Rattle.histories.proofs.Findings.{Ends, ends, take_length}
use Rattle.histories.proofs.Between.{deed_carried, lent_as}
use Rattle.histories.proofs.Layer.{released_shows, none_shown}
use Rattle.histories.proofs.Table.{Around, Carried, collect_kept}
use Rattle.privacy.specs.Rule.{contains, collecting, into}
use Rattle.privacy.proofs.House.{Apart, into_cell}

abbrev pub Surrounds : Table → Range → Type 0
Surrounds t r = Around t (lent_as r)

around_more : (t u : Table) (r : Range) → Carried t u → Surrounds t r → Surrounds u r
around_more t u r k a = let b : Around u (row_at t a.row) = k.kept a.row a.used a.lent in record { row = b.row; used = b.used; lent = b.lent; from = omega (arith, b.from, a.from); upto = omega (arith, b.upto, a.upto) }

-- A range that contains another begins no later and ends no earlier; and the other way about.
contains_bounds : (outer inner : Range) → contains outer inner ≡ true → (outer.base ≤ inner.base) × (inner.base + inner.length ≤ outer.base + outer.length)
contains_bounds o i e = (
  leb-true o.base i.base (and_left (leb o.base i.base) (leb (i.base + i.length) (o.base + o.length)) e),
  leb-true (i.base + i.length) (o.base + o.length) (and_right (leb o.base i.base) (leb (i.base + i.length) (o.base + o.length)) e),
)

contains_by : (outer inner : Range) → outer.base ≤ inner.base → inner.base + inner.length ≤ outer.base + outer.length → contains outer inner ≡ true
contains_by o i a b = both (leb o.base i.base) (leb (i.base + i.length) (o.base + o.length)) (le-leb o.base i.base a) (le-leb (i.base + i.length) (o.base + o.length) b)

module _ (k : Core) (ok : core_sound k ≡ true) where
  abbrev t : Table
  t = k.table

  abbrev size : ℕ
  size = 16 * k.pages.v

  pub row_long : (i : ℕ) → i < length (live t) → 0 < (row_at t i).length
  row_long i h = tiled_some size (live t) 0 i (tableFacts size t (core_facts k ok).rows).tiled h

  -- Two reservations that share a cell are one.
  pub one_row : (i j v : ℕ) → i < length (live t) → j < length (live t) → inside (range_of (row_at t i)) v ≡ true → inside (range_of (row_at t j)) v ≡ true → i ≡ j
  one_row i j v = no_shared_cell size t i j v (core_facts k ok).rows

  -- A granted take names an Open reservation that begins at base.
  pub record Takes (p base : ℕ) : Type 0 where
    pub row : ℕ
    pub used : row < length (live t)
    pub isopen : is_open (row_at t row).state ≡ true
    pub begins : (row_at t row).base ≡ base
    pub long : (take_of t p base).length ≡ (row_at t row).length
    pub named : row_of t (find_of t p base) ≡ row_at t row
    pub replaced : Replaced t (take_of t p base).table p base row 1 (taken_row (row_at t row) p ∷ [])

  pub takes : (p base : ℕ) → first (take_reasons t p base) ≡ 0 → Takes p base
  takes p base z =
      let code : (take_of t p base).code ≡ 0 = unfold take_of in z in
      let (i, o, r) = take_after size t (core_facts k ok).rows p base code in
      let h : i < length (live t) = omega (arith, r.within) in
      let row : row_of t (find_of t p base) ≡ row_at t i = ap (row_of t) r.found ∙ row_live t i h in
      record {
        row = i;
        used = h;
        isopen = o;
        begins = eqb-true (row_at t i).base base (and_left (eqb (row_at t i).base base) (held (row_at t i) p) r.named);
        long = take_length t p base code ∙ ap (λ x. x.length) row;
        named = row;
        replaced = r;
      }

  module _ (p base : ℕ) (w : Takes p base) where
    low : base < 65536
    low = omega (arith, row_fits k ok w.row w.used, w.begins)

    short : (take_of t p base).length < 65536
    short = omega (arith, row_fits k ok w.row w.used, w.long)

    abbrev lent_by : ℕ → ℕ
    lent_by permissions = capability base (take_of t p base).length permissions

    pub taken_base : (permissions : ℕ) → permissions ≤ 15 → base_of (lent_by permissions) ≡ base
    taken_base permissions few = made_base base (take_of t p base).length permissions low short (omega arith)

    pub taken_length : (permissions : ℕ) → permissions ≤ 15 → length_of (lent_by permissions) ≡ (take_of t p base).length
    taken_length permissions few = made_length base (take_of t p base).length permissions low short (omega arith)

    -- Its capability is not into a range that a lent reservation contains.
    pub taken_apart : (permissions : ℕ) → permissions ≤ 15 → (r : Range) → Surrounds t r → Apart r (slot (lent_by permissions) true)
    taken_apart permissions few r a e = go (into r (lent_by permissions)) refl
      where
        go : (b : Bool) → into r (lent_by permissions) ≡ b → into r (lent_by permissions) ≡ false
        go true x =
            let (v, from, upto, hit) = into_cell r (lent_by permissions) x in
            let j = inside_bounds r v hit in
            let start = taken_base permissions few in
            let same = one_row a.row w.row v a.used w.used
            (inside_made (range_of (row_at t a.row)) v (omega (arith, j.0, a.from)) (omega (arith, j.1, a.upto)))
            (inside_made (range_of (row_at t w.row)) v (omega (arith, w.begins, start, from)) (omega (arith, w.begins, w.long, start, taken_length permissions few, upto))) in
            absurd (true≢false (sym w.isopen ∙ ap (λ i. is_open (row_at t i).state) (sym same) ∙ a.lent))
        go false x = x

  -- A granted collect of a revocation whose range does not contain all of r leaves it.
  collect_around : (r : Range) → 0 < r.length → Surrounds t r → Ends k → contains (revoked k) r ≡ false → Surrounds (collect_of k).core.table r
  collect_around r some a e n = go (inside (range_of (row_at t e.row)) r.base) refl
    where
      here : inside (range_of (row_at t a.row)) r.base ≡ true
      here = inside_made (range_of (row_at t a.row)) r.base a.from (omega (arith, a.upto))

      go : (b : Bool) → inside (range_of (row_at t e.row)) r.base ≡ b → Surrounds (collect_of k).core.table r
      go true x =
          let same = one_row a.row e.row r.base a.used e.used here x in
          let all = contains_by (range_of (row_at t a.row)) r a.from a.upto in
          absurd (true≢false (sym all ∙ ap (λ i. contains (range_of (row_at t i)) r) same ∙ sym (ap (λ q. contains q r) e.range) ∙ n))
      go false x =
          let b : Around (collect_of k).core.table (row_at t a.row) = collect_kept t (collect_of k).core.table e.row e.used e.now r.base a.row x a.used a.lent here in
          record { row = b.row; used = b.used; lent = b.lent; from = omega (arith, b.from, a.from); upto = omega (arith, b.upto, a.upto) }

  -- Once the collect came, no cell of a range that it covered is Mapped.
  pub collect_hides : first (collect_reasons k) ≡ 0 → (r : Range) (v at : ℕ) → contains (revoked k) r ≡ true → lookup_of (collect_of k).core.pages v ≡ Some at → inside r v ≡ false
  collect_hides z r v at n q = go (inside r v) refl
    where
      e : Ends k
      e = ends k ok (unfold collect_of in z)

      layer : Sound k.pages
      layer = sound k.pages (core_facts k ok).layer

      go : (b : Bool) → inside r v ≡ b → inside r v ≡ false
      go true x =
          let j = inside_bounds r v x in
          let (from, upto) = contains_bounds (revoked k) r n in
          let hit : inside (revoked k) v ≡ true = inside_made (revoked k) v (omega (arith, j.0)) (omega (arith, j.1)) in
          let none = none_shown k.pages layer (revoked k) (ap (λ y. y.base % 16) e.range ∙ e.whole_base) (ap (λ y. y.length % 16) e.range ∙ e.whole_length) e.freed v hit in
          let shown = released_shows k.pages layer (revoked k) v at (subst (λ y. lookup_of y.pages v ≡ Some at) e.parts q) in
          absurd (let y : None ≡ Some at = sym none ∙ shown in let u : ◌≡◌ {A = ℕ} 0 1 = cc in omega arith)
      go false x = x

-- What a granted call makes of the table leaves a lent reservation around the range, but for the collect that covers it.
pub around_after : (s : State) (ok : core_sound s.core ≡ true) {cells tags : List ℕ} {a : Asked} {e : Effect} → Deed s cells tags a e → (r : Range) → 0 < r.length → Surrounds s.core.table r
    → (collecting a.role ≡ true → contains (revoked s.core) r ≡ false) → Surrounds e.core.table r
around_after s ok d r some around n =
    ⊎_elim (λ carried. around_more s.core.table _ r carried around)
    (λ is.
    let c = collected_as s d is in
    subst (λ x. Surrounds x.core.table r) (sym c.is) (collect_around s.core ok r some around (ends s.core ok (unfold collect_of in c.clear)) (n (ap collecting is))))
    (deed_carried s ok d)
