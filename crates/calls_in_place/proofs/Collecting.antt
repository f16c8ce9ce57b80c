-- 07 in place. Assumes nothing.
use Rattle.std.specs.Prelude.{Some, Option, None}
use Prim.Native.Nat.{ℕ, suc, ◌+◌, ◌*◌, ◌≤◌}
use native.Mathlib.Omega.{arith}
use mathlib.Core.Bool.{Bool, true, false, not, ◌&&◌, ◌||◌, true≢false}
use mathlib.Core.List.{List, [], ◌∷◌, ◌++◌, map}
use mathlib.Core.Path.{◌≡◌, refl, sym, ap, subst, fun_ext, ◌∙◌}
use lib.ListN.{length, get_or, take, drop, length-append}
use lib.Dec.{eqb, leb}
use borrow.Author.Tests.{eq-eqb, not-true, not-false}
use Rattle.capabilities.specs.declared.Range.{Range}
use Rattle.capabilities.specs.Death.{dies}
use Rattle.capabilities.specs.Lists.{pick, each}
use Rattle.capabilities.specs.declared.refusal.Refusal.{Refusal}
use Rattle.capabilities.specs.Refusals.{number_of, first}
use Rattle.capabilities.proofs.Refusals.{number_some}
use Rattle.capabilities.proofs.Choice.{pick_yes, pick_no}
use Rattle.pages.specs.Mapping.{released_of}
use Rattle.table.specs.declared.Reservation.{Reservation}
use Rattle.table.specs.Table.{Table}
use Rattle.table.specs.Rows.{is_revoking, range_of, blank, live}
use Rattle.table.specs.Find.{missing, revoking_of, row_of, with_row}
use Rattle.table.proofs.Sound.{Sound, sound}
use Rattle.table.proofs.Finding.{found_at}
use Rattle.table.proofs.Dying.{dyings, first_of, revoking_row_lem, dyings_length, dyings_yes, dyings_not, no_dyings}
use Rattle.table.proofs.Unrevoked.{after_dyings, before_dyings}
use Rattle.table.specs.Numbers.{table_of}
use Rattle.claims.specs.Numbers.{claims_in}
use Rattle.reservations.specs.Core.{Core}
use Rattle.reservations.specs.Revocation.{running, revoked, dying, collect_reasons, collected_row, collected, collect_of}
use Rattle.reservations.specs.Lent.{collected_rows, collected_pages}
use Rattle.reservations.proofs.CoreKept.{CoreFacts, core_facts}
use Rattle.reservations.proofs.Revocations.{collected_at, collect_clear}
use Rattle.reservations.proofs.RowsAndPages.{collect_rows, collect_pages}
use Rattle.calls.specs.declared.Call.TheVariants.{Collect}
use Rattle.words.specs.declared.Slot.{Slot}
use Rattle.words.specs.Words.{empty, keep_tag, collected_register, collected_mailbox}
use Rattle.words.specs.WordReasons.{unnamed, not_manager}
use Rattle.words.specs.Lent.{slots_of, cells_of, tag_bytes, bit, collected_marks, collected_mail}
use Rattle.words.proofs.Lent.{bytes_bits, cells_collected, marks_collected, mail_collected, flags_collected}
use Rattle.machine.specs.State.{State}
use Rattle.machine.specs.Reasons.{reasons}
use Rattle.machine.specs.Effects.{effect, effect_of, collect_registers, collect_mailboxes, keep_memory}
use Rattle.machine.specs.Step.{done, reasons_on, effect_on, ruled}
use Rattle.machine.proofs.Keeps.{facts}
use Rattle.machine.proofs.Ruled.{ruled_done, done_collect}
use Rattle.arrays.specs.declared.Arrays.{Arrays}
use Rattle.arrays.specs.declared.Numbers.{Numbers}
use Rattle.arrays.specs.Reading.{arrays, numbers_of, core_of, state_of, arrays_of, Formed}
use Rattle.arrays.specs.Steps.{answer, leaving, left_of}
use Rattle.arrays.proofs.Facts.{lengths}
use Rattle.arrays.proofs.Ruling.{wrote, down}
use Rattle.calls_in_place.proofs.Cached.{cached_range, dying_cached}
use Rattle.calls_in_place.proofs.Early.{early, late}
use Rattle.calls_in_place.proofs.Revoking.{caller_code}
use Rattle.calls_in_place.proofs.Sweeping.{still_cached}

-- No reservation is Revoking once the one that was is exchanged for another.
module _ (cells : ℕ) (t : Table) (s : Sound cells t) (i : ℕ) (e : revoking_of t ≡ Some i) (n : Reservation) (still : is_revoking n.state ≡ false) where
  none_dying : dyings (live (with_row t (Some i) n)) ≡ []
  none_dying =
      let here = found_at (λ r. is_revoking r.state) (live t) i blank (unfold revoking_of in e) in
      let all : dyings (live t) ≡ dyings (take i (live t)) ++ (get_or (live t) i blank ∷ dyings (drop (i + 1) (live t))) =
      before_dyings cells t s i here.0 n ∙ ap (λ d. dyings (take i (live t)) ++ d) (dyings_yes (get_or (live t) i blank) (drop (i + 1) (live t)) here.1) in
      let size : length (dyings (take i (live t))) + suc (length (dyings (drop (i + 1) (live t)))) ≤ 1 =
      subst (λ (k : ℕ). k ≤ 1) (dyings_length (live t) ∙ ap length all ∙ length-append (dyings (take i (live t))) (get_or (live t) i blank ∷ dyings (drop (i + 1) (live t)))) s.single in
      after_dyings cells t s i here.0 n ∙ ap (λ d. d ++ dyings (n ∷ drop (i + 1) (live t))) (no_dyings (take i (live t)) (omega (arith, size)))
      ∙ dyings_not n (drop (i + 1) (live t)) still ∙ no_dyings (drop (i + 1) (live t)) (omega (arith, size))

  pub none_revoking : row_of (with_row t (Some i) n) (revoking_of (with_row t (Some i) n)) ≡ blank
  none_revoking = revoking_row_lem (with_row t (Some i) n) ∙ ap first_of none_dying

-- The small numbers after a collect: no range, no place.
abbrev pub numbers_collected : Numbers → Numbers
numbers_collected n = record { v = n.v; f = n.f; count = n.count; place = 0; base = 0; length = 0 }

same_arrays : {v f c d b l : ℕ} {w₁ w₂ k₁ k₂ m₁ m₂ g₁ g₂ r₁ r₂ p₁ p₂ f₁ f₂ q₁ q₂ n₁ n₂ : List ℕ} → c ≡ d → 0 ≡ b → 0 ≡ l → w₁ ≡ w₂ → k₁ ≡ k₂ → m₁ ≡ m₂ → g₁ ≡ g₂ → r₁ ≡ r₂ → p₁ ≡ p₂ → f₁ ≡ f₂ → q₁ ≡ q₂ → n₁ ≡ n₂
    → arrays (record { v = v; f = f; count = c; place = 0; base = 0; length = 0 }) w₁ k₁ m₁ g₁ r₁ p₁ f₁ q₁ n₁
    ≡ arrays (record { v = v; f = f; count = d; place = 0; base = b; length = l }) w₂ k₂ m₂ g₂ r₂ p₂ f₂ q₂ n₂
same_arrays e1 e2 e3 e4 e5 e6 e7 e8 e9 e10 e11 e12 = cc

same_count : (t : Table) (g : Option ℕ) (x : Reservation) → t.count ≡ (with_row t g x).count
unfolding with_row
same_count t (Some i) x = refl
same_count t None x = refl

-- What stands in the arrays after a collect, part by part.
module _ (b : Arrays) (f : Formed b) (run : running (state_of b).core ≡ true) where
  abbrev c : Core
  c = (state_of b).core

  cf : CoreFacts (state_of b).core
  cf = core_facts (state_of b).core (facts (state_of b) f.well).core

  range_gone : revoked (collected (state_of b).core) ≡ range_of blank
  unfolding revoked
  range_gone = go (revoking_of c.table) refl
    where
      go : (g : Option ℕ) → revoking_of c.table ≡ g → revoked (collected c) ≡ range_of blank
      go (Some i) e =
          ap revoked (collected_at c (Some i) e)
          ∙ ap range_of (none_revoking (16 * c.pages.v) c.table (sound (16 * c.pages.v) c.table cf.rows) i e (collected_row (row_of c.table (Some i))) refl)
      go None e = absurd (true≢false (sym (ap missing e) ∙ not-true (missing (revoking_of c.table)) (unfold running in run)))

-- Registers and mailboxes after a collect.
module _ (b : Arrays) (f : Formed b) (range : Range) (e : cached_range b ≡ range) where
  same_deaths : dying (state_of b).core ≡ dies range
  same_deaths = fun_ext (λ cell. dying_cached b f cell ∙ ap (λ (r : Range). dies r cell) e)

  bits : (l : List Slot) (marks : List ℕ) → tag_bytes l ≡ marks → each bit 0 marks ≡ true
  bits l marks k = subst (λ (m : List ℕ). each bit 0 m ≡ true) k (bytes_bits 0 l)

  collected_registers : map (collected_register (state_of b).core) (state_of b).registers ≡ map (λ (w : Slot). keep_tag w (not (dies range w.cell))) (slots_of b.words b.marks)
  unfolding state_of
  collected_registers = ap (λ (d : ℕ → Bool). map (λ (w : Slot). keep_tag w (not (d w.cell))) (slots_of b.words b.marks)) same_deaths

  collected_mailboxes : map (collected_mailbox (state_of b).core) (state_of b).mailboxes ≡ map (λ (w : Slot). pick (w.tag && dies range w.cell) empty w) (slots_of b.mail b.flags)
  unfolding state_of
  collected_mailboxes = ap (λ (d : ℕ → Bool). map (λ (w : Slot). pick (w.tag && d w.cell) empty w) (slots_of b.mail b.flags)) same_deaths

  even_words : length b.words ≡ length b.marks
  even_words = let l = lengths b f in l.words ∙ sym l.marks

  even_mail : length b.mail ≡ length b.flags
  even_mail = let l = lengths b f in l.mail ∙ sym l.flags

  words_after : cells_of (map (collected_register (state_of b).core) (state_of b).registers) ≡ b.words
  words_after = ap cells_of collected_registers ∙ cells_collected range b.words b.marks even_words

  marks_after : tag_bytes (map (collected_register (state_of b).core) (state_of b).registers) ≡ collected_marks range b.words b.marks
  unfolding arrays_of
  marks_after = ap tag_bytes collected_registers ∙ marks_collected range 0 b.words b.marks even_words (bits (state_of b).registers b.marks (ap (λ (x : Arrays). x.marks) f.kept))

  mail_after : cells_of (map (collected_mailbox (state_of b).core) (state_of b).mailboxes) ≡ collected_mail range b.mail b.flags
  mail_after = ap cells_of collected_mailboxes ∙ mail_collected range b.mail b.flags even_mail

  flags_after : tag_bytes (map (collected_mailbox (state_of b).core) (state_of b).mailboxes) ≡ collected_marks range b.mail b.flags
  unfolding arrays_of
  flags_after = ap tag_bytes collected_mailboxes ∙ flags_collected range 0 b.mail b.flags even_mail (bits (state_of b).mailboxes b.flags (ap (λ (x : Arrays). x.flags) f.kept))

-- The state after a collect, and the arrays.
abbrev pub collected_state : State → State
collected_state s = record { core = collected s.core; registers = map (collected_register s.core) s.registers; mailboxes = map (collected_mailbox s.core) s.mailboxes }

abbrev pub collected_arrays : Arrays → Range → Arrays
collected_arrays b range =
    arrays (numbers_collected b.nums) b.words (collected_marks range b.words b.marks) (collected_mail range b.mail b.flags) (collected_marks range b.mail b.flags)
    (collected_rows b.rows b.nums.count) (collected_pages b.rows b.nums.count b.pages) b.frames b.principals b.counts

module _ (b : Arrays) (f : Formed b) where
  put_collected : running (state_of b).core ≡ true → collected_arrays b (cached_range b) ≡ arrays_of (collected_state (state_of b))
  unfolding arrays_of numbers_of collected released_of state_of core_of
  put_collected run =
      let n = b.nums in
      let t = table_of b.rows n.count in
      let claims = claims_in b.principals b.counts in
      let gone = range_gone b f run in
      same_arrays (same_count t (revoking_of t) (collected_row (row_of t (revoking_of t)))) (sym (ap (λ (r : Range). r.base) gone)) (sym (ap (λ (r : Range). r.length) gone))
      (sym (words_after b f (cached_range b) refl)) (sym (marks_after b f (cached_range b) refl)) (sym (mail_after b f (cached_range b) refl)) (sym (flags_after b f (cached_range b) refl))
      (sym (collect_rows b.rows n.count b.pages n.v n.f n.place b.frames claims (ap (λ (x : Arrays). x.rows) f.kept)))
      (sym (collect_pages b.rows n.count b.pages n.v n.f n.place b.frames claims (ap (λ (x : Arrays). x.pages) f.kept)))
      (sym (ap (λ (x : Arrays). x.frames) f.kept)) (sym (ap (λ (x : Arrays). x.principals) f.kept)) (sym (ap (λ (x : Arrays). x.counts) f.kept))

  module _ (p : ℕ) (cells tags : List ℕ) where
    -- What every manager's command asks comes first.
    pub collect_early : (r : Refusal) → number_of r ≡ caller_code p
        → leaving (answer (number_of r) empty) b cells tags ≡ left_of (ruled (state_of b) (Collect p) cells tags)
    unfolding reasons first
    collect_early r e = down b f (Collect p) cells tags (number_of r) (early (unnamed p) (not_manager p) 5 r _ e) (number_some r)

    -- Then a revocation has to run, and no cell to be left.
    abbrev unswept : Bool
    unswept = eqb b.nums.length 0 || not (leb (16 * b.nums.f) b.nums.place)

    abbrev unswept_code : ℕ
    unswept_code = pick unswept 11 0

    module _ (e0 : 0 ≡ caller_code p) where
      rest_is : unswept_code ≡ first (collect_reasons (state_of b).core)
      unfolding collect_reasons first state_of core_of
      rest_is = ap (λ (x : Bool). pick (x || not (leb (16 * b.nums.f) b.nums.place)) 11 0) (sym (still_cached b f))

      code_is : unswept_code ≡ first (reasons_on (state_of b) (Collect p) cells tags)
      unfolding reasons first
      code_is =
          late (unnamed p) (not_manager p) 5 (λ x. omega (arith, x)) unswept_code e0 ∙ ap (λ (x : ℕ). pick (unnamed p) 4 (pick (not_manager p) 5 x)) rest_is

      pub collect_down : unswept ≡ true → leaving (answer 11 empty) b cells tags ≡ left_of (ruled (state_of b) (Collect p) cells tags)
      collect_down h = down b f (Collect p) cells tags 11 (sym (pick_yes unswept 11 0 h) ∙ code_is) (λ x. omega (arith, x))

      module _ (h : unswept ≡ false) where
        none : 0 ≡ unswept_code
        none = sym (pick_no unswept 11 0 h)

        clear : first (collect_reasons (state_of b).core) ≡ 0
        clear = sym (none ∙ rest_is)

        effect_is : effect_on (state_of b) (Collect p) cells tags ≡ effect_of (collected (state_of b).core) collect_registers collect_mailboxes keep_memory empty
        unfolding effect collect_of
        effect_is =
            ap (λ (x : Core). effect_of x collect_registers collect_mailboxes keep_memory empty)
            (pick_yes _ (collected (state_of b).core) (state_of b).core (eq-eqb (first (collect_reasons (state_of b).core)) 0 clear))

        done_here : leaving (answer 0 empty) (collected_arrays b (cached_range b)) cells tags ≡ left_of (ruled (state_of b) (Collect p) cells tags)
        done_here =
            let run = not-false (running (state_of b).core) (collect_clear (state_of b).core clear).0 in
            wrote 0 empty (collected_state (state_of b)) _ cells tags (put_collected run)
            ∙ ap left_of (ruled_done (state_of b) (Collect p) cells tags 0 (none ∙ code_is) refl _
            (done_collect (state_of b) (collected (state_of b).core) cells tags ∙ sym (ap (λ y. done (state_of b) y cells tags) effect_is)))

      pub collect_done : unswept ≡ false → (range : Range) → range ≡ cached_range b → (marks mail flags rows pages : List ℕ)
          → marks ≡ collected_marks range b.words b.marks → mail ≡ collected_mail range b.mail b.flags → flags ≡ collected_marks range b.mail b.flags
          → rows ≡ collected_rows b.rows b.nums.count → pages ≡ collected_pages b.rows b.nums.count b.pages
          → leaving (answer 0 empty) (arrays (numbers_collected b.nums) b.words marks mail flags rows pages b.frames b.principals b.counts) cells tags
          ≡ left_of (ruled (state_of b) (Collect p) cells tags)
      collect_done h range eg marks mail flags rows pages em el ef ew ep = rw (em, el, ef, ew, ep, eg) (done_here h)
