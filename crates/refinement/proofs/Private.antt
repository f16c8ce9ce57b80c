-- Demand 3 of the library: what two lists of uses leave is the writing of what their histories leave, and what they answer is the histories'
-- answers; of these the privacy rule speaks. That the calls of the others are the same follows from what is left, since none of them is
-- struck; that tag bytes are equal where tags are, since Mapped cells have bytes 0 and 1. Assumes nothing.
use Rattle.std.specs.Prelude.{Some}
use Prim.Native.Nat.{ℕ, zero, suc, ◌+◌, ◌*◌, ◌≤◌, ◌<◌}
use native.Mathlib.Omega.{arith}
use mathlib.Core.Bool.{Bool, true, false, not, ◌&&◌, true≢false}
use mathlib.Core.List.{List, [], ◌∷◌, ◌++◌, map}
use mathlib.Core.Path.{◌≡◌, refl, sym, ap, ap₂, subst, ◌∙◌}
use lib.ListN.{length, get_or, get_or-map}
use borrow.Author.Tests.{lt-ltb}
use Rattle.capabilities.specs.Lists.{pick, filter}
use Rattle.capabilities.proofs.Choice.{both, and_left, pick_yes, pick_no}
use Rattle.capabilities.proofs.Flatten.{filter_append}
use Rattle.pages.specs.Mapping.{lookup_of}
use Rattle.reservations.specs.Core.{Core}
use Rattle.calls.specs.declared.Call.{Call}
use Rattle.calls.specs.Commands.{bytes_of}
use Rattle.words.specs.declared.Slot.{Slot}
use Rattle.words.specs.Words.{empty, named, register_of, mailbox_of, word_at, tag_of, byte_of}
use Rattle.pages.specs.Numbers.{page_code, frame_code}
use Rattle.table.specs.Numbers.{row_code}
use Rattle.claims.specs.Numbers.{laid}
use Rattle.claims.specs.Numbers.{numbers_of as claim_numbers}
use Rattle.arrays.specs.Reading.{numbers_of, arrays_of}
use Rattle.histories.specs.Inv.{Inv}
use Rattle.histories.specs.Runs.{Machine, outcome, next, run, answers, begun}
use Rattle.histories.proofs.Always.{inv_run, inv_begun}
use Rattle.histories.proofs.Forming.{standing_run, standing_begun}
use Rattle.privacy.specs.Rule.{housed, Time, lasting, over, until, time_after, private, struck, Left, remaining, left, Told, told, heard, Sight, dark, shown, sight_at, sight, hidden, Alike}
use Rattle.privacy.specs.Claim.{time, after_take}
use Rattle.privacy.proofs.Main.{privacy, cores_unnoticed, costs_unnoticed}
use Rattle.refinement.specs.Uses.{Served, exported, begins, Reply, reply, served_all, replies_of}
use Rattle.refinement.specs.Bytes.{writing, machine_in, replying, replies}
use Rattle.refinement.specs.Private.{to_other, SameAt, Unnoticed, LibraryPrivacy}
use Rattle.cetomuhi.specs.Exports.{cost_lent}
use Rattle.refinement.proofs.Answers.{answers_written}
use Rattle.refinement.proofs.Bytes.{bytes_are_histories, machine_back}

-- A call of another party.
abbrev other : ℕ → Call → Bool
other house c = not (housed house c)

-- The calls of others, with what they have heard.
unfoldable heard_by : List Call → List Told → List Reply
heard_by [] l = []
heard_by (c ∷ calls) [] = []
heard_by (c ∷ calls) (t ∷ l) = reply c (t.code ∷ t.number ∷ byte_of t.tag ∷ length (bytes_of c) ∷ []) ∷ heard_by calls l

-- The replies to others are made of these.
others_heard : (house : ℕ) (calls : List Call) (m : Machine)
    → filter (to_other house) (replies calls (answers m calls)) ≡ heard_by (filter (other house) calls) (heard house m calls)
unfolding filter replies answers heard_by heard
others_heard house [] m = refl
others_heard house (c ∷ calls) m = go (housed house c) (others_heard house calls (next m c))
  where
    go : (b : Bool) → filter (to_other house) (replies calls (answers (next m c) calls)) ≡ heard_by (filter (other house) calls) (heard house (next m c) calls)
        → pick (not b) (replying c (outcome m c).answer ∷ filter (to_other house) (replies calls (answers (next m c) calls))) (filter (to_other house) (replies calls (answers (next m c) calls)))
        ≡ heard_by (pick (not b) (c ∷ filter (other house) calls) (filter (other house) calls))
        (pick b (heard house (next m c) calls) (told (outcome m c).answer ∷ heard house (next m c) calls))
    go true e = e
    go false e = ap (λ (l : List Reply). replying c (outcome m c).answer ∷ l) e

-- A struck call is the house's, so that those of others are all left.
struck_housed : (house : ℕ) (t : Time) (m : Machine) (c : Call) → struck house t m c ≡ true → housed house c ≡ true
unfolding struck
struck_housed house (lasting r) m c e = and_left (housed house c) (private r m.state c) e
struck_housed house over m c e = absurd (true≢false (sym e))

others_left : (house : ℕ) (calls : List Call) (t : Time) (m : Machine) → filter (other house) calls ≡ filter (other house) (map (λ (x : Left). x.call) (left house t m calls))
unfolding filter left remaining
others_left house [] t m = refl
others_left house (c ∷ calls) t m = go (struck house t m c) refl (others_left house calls (until t m c) (next m c))
  where
    go : (b : Bool) → struck house t m c ≡ b → filter (other house) calls ≡ filter (other house) (map (λ (x : Left). x.call) (left house (until t m c) (next m c) calls))
        → pick (other house c) (c ∷ filter (other house) calls) (filter (other house) calls)
        ≡ filter (other house) (map (λ (x : Left). x.call) (pick b (left house (until t m c) (next m c) calls) (remaining house m c ∷ left house (until t m c) (next m c) calls)))
    go true s e = pick_no (other house c) (c ∷ filter (other house) calls) (filter (other house) calls) (ap not (struck_housed house t m c s)) ∙ e
    go false s e = ap (λ (l : List Call). pick (other house c) (c ∷ l) l) e

-- The words of registers and mailboxes, as they are written.
word_same : (xs ys : List Slot) (i : ℕ) → get_or xs i empty ≡ get_or ys i empty
    → SameAt i (map (λ (w : Slot). w.cell) xs) (map (λ (w : Slot). w.cell) ys) × SameAt i (map (λ (w : Slot). byte_of w.tag) xs) (map (λ (w : Slot). byte_of w.tag) ys)
word_same xs ys i e = (
  get_or-map (λ (w : Slot). w.cell) xs i empty ∙ ap (λ (w : Slot). w.cell) e ∙ sym (get_or-map (λ (w : Slot). w.cell) ys i empty),
  get_or-map (λ (w : Slot). byte_of w.tag) xs i empty ∙ ap (λ (w : Slot). byte_of w.tag) e ∙ sym (get_or-map (λ (w : Slot). byte_of w.tag) ys i empty),
)

register_at : (l : List Slot) (p i : ℕ) → p < 8 → i < 8 → register_of l p i ≡ get_or l (8 * p + i) empty
unfolding register_of
register_at l p i hp hi = pick_yes (named p && named i) (get_or l (8 * p + i) empty) empty (both (named p) (named i) (lt-ltb p 8 hp) (lt-ltb i 8 hi))

-- Two bytes that are 0 or 1 and count alike are the same.
byte_same : (x y : ℕ) → x ≤ 1 → y ≤ 1 → tag_of x ≡ tag_of y → x ≡ y
byte_same zero zero hx hy e = refl
byte_same zero (suc zero) hx hy e = absurd (true≢false (sym e))
byte_same zero (suc (suc y)) hx hy e = let z : ⊥ = omega arith in absurd z
byte_same (suc zero) zero hx hy e = absurd (true≢false e)
byte_same (suc zero) (suc y) hx hy e = omega arith
byte_same (suc (suc x)) y hx hy e = let z : ⊥ = omega arith in absurd z

-- The word that is seen.
abbrev seen_in : Sight → Slot
seen_in dark = empty
seen_in (shown w) = w

-- What two histories as in the privacy rule leave, written.
module _ (house : ℕ) (t : Time) (g h : Machine) (core : g.state.core ≡ h.state.core) (alike : Alike house t g h) (inv₁ : Inv g) (inv₂ : Inv h) where
  word_at_lem : (n at : ℕ) → hidden t n ≡ false → lookup_of g.state.core.pages n ≡ Some at → word_at g.cells g.tags at ≡ word_at h.cells h.tags at
  unfolding sight word_at
  word_at_lem n at d e =
      let q : lookup_of h.state.core.pages n ≡ Some at = ap (λ (k : Core). lookup_of k.pages n) (sym core) ∙ e in
      ap seen_in (sym (ap (λ x. sight_at x g.cells g.tags) e) ∙ alike.cells n d ∙ ap (λ x. sight_at x h.cells h.tags) q)

  shown_same : (n at : ℕ) → hidden t n ≡ false → lookup_of g.state.core.pages n ≡ Some at → SameAt at g.cells h.cells × SameAt at g.tags h.tags
  unfolding word_at
  shown_same n at d e =
      let w = word_at_lem n at d e in
      let q : lookup_of h.state.core.pages n ≡ Some at = ap (λ (k : Core). lookup_of k.pages n) (sym core) ∙ e in (
        ap (λ (x : Slot). x.cell) w,
        byte_same (get_or g.tags at 0) (get_or h.tags at 0) (inv₁.memory.bytes n at e) (inv₂.memory.bytes n at q) (ap (λ (x : Slot). x.tag) w),
      )

  written_same : machine_in (writing g) ≡ g → ((n : ℕ) → cost_lent (writing g).lent n ≡ cost_lent (writing h).lent n) → (r q : List Reply) → filter (to_other house) r ≡ filter (to_other house) q → Unnoticed house t (writing g) (writing h) r q
  unfolding arrays_of mailbox_of
  written_same back costs r q e = record {
    replies = e;
    numbers = ap (λ (k : Core). (numbers_of k).v ∷ (numbers_of k).f ∷ (numbers_of k).count ∷ (numbers_of k).place ∷ (numbers_of k).base ∷ (numbers_of k).length ∷ []) core;
    rows = ap (λ (k : Core). map row_code k.table.rows) core;
    pages = ap (λ (k : Core). map (λ e. page_code e.state) k.pages.pages) core;
    frames = ap (λ (k : Core). map (λ e. frame_code e.state) k.pages.frames) core;
    principals = ap (λ (k : Core). claim_numbers k.claims) core;
    counts = ap (λ (k : Core). laid k.claims.counts) core;
    registers = λ p i hp hi n.
        word_same g.state.registers h.state.registers (8 * p + i)
        (sym (register_at g.state.registers p i hp hi) ∙ alike.registers p i n ∙ register_at h.state.registers p i hp hi);
    mailboxes = λ p n. word_same g.state.mailboxes h.state.mailboxes p (alike.mailboxes p n);
    costs = costs;
    shown = λ n at d z. shown_same n at d (ap (λ (m : Machine). lookup_of m.state.core.pages n) (sym back) ∙ z);
  }

-- The calls of the others in two whole lists.
others_same : (house : ℕ) (t : Time) (m : Machine) (before : List Call) (c : Call) (l₁ l₂ : List Call) → left house t m l₁ ≡ left house t m l₂
    → filter (other house) (before ++ c ∷ l₁) ≡ filter (other house) (before ++ c ∷ l₂)
unfolding filter
others_same house t m before c l₁ l₂ e =
    let same : filter (other house) l₁ ≡ filter (other house) l₂ =
    others_left house l₁ t m ∙ ap (λ (l : List Left). filter (other house) (map (λ (x : Left). x.call) l)) e ∙ sym (others_left house l₂ t m) in
    filter_append (other house) before (c ∷ l₁)
    ∙ ap (λ (l : List Call). filter (other house) before ++ pick (other house c) (c ∷ l) l) same
    ∙ sym (filter_append (other house) before (c ∷ l₂))

pub library_privacy : LibraryPrivacy
library_privacy v f cells tags before c house base reg permissions after₁ after₂ w l₁ l₂ s₁ s₂ uses₁ uses₂ e₁ e₂ =
    let m : Machine = begun v f cells tags in
    let calls₁ = before ++ c ∷ after₁ in
    let calls₂ = before ++ c ∷ after₂ in
    let u = privacy v f cells tags before c house base reg permissions after₁ after₂ w in
    let t = time_after (time v f cells tags before c house base reg permissions) (after_take v f cells tags before c house base reg permissions) after₁ in
    let core = cores_unnoticed v f cells tags before c house base reg permissions after₁ after₂ w in
    let b₁ = bytes_are_histories v f l₁ cells tags s₁ uses₁ in
    let b₂ = bytes_are_histories v f l₂ cells tags s₂ uses₂ in
    let left₁ : served_all exported (begins v f l₁ cells tags) uses₁ ≡ writing (run m calls₁) = b₁.left ∙ ap (λ (x : List Call). writing (run m x)) e₁ in
    let left₂ : served_all exported (begins v f l₂ cells tags) uses₂ ≡ writing (run m calls₂) = b₂.left ∙ ap (λ (x : List Call). writing (run m x)) e₂ in
    let told₁ : replies_of exported (begins v f l₁ cells tags) uses₁ ≡ replies calls₁ (answers m calls₁) = b₁.answered ∙ ap (λ (x : List Call). replies x (answers m x)) e₁ in
    let told₂ : replies_of exported (begins v f l₂ cells tags) uses₂ ≡ replies calls₂ (answers m calls₂) = b₂.answered ∙ ap (λ (x : List Call). replies x (answers m x)) e₂ in
    let heard-same : filter (to_other house) (replies calls₁ (answers m calls₁)) ≡ filter (to_other house) (replies calls₂ (answers m calls₂)) =
    others_heard house calls₁ m ∙ ap₂ heard_by (others_same house (time v f cells tags before c house base reg permissions) (after_take v f cells tags before c house base reg permissions) before c after₁ after₂ w.same) u.answers
    ∙ sym (others_heard house calls₂ m) in
    let fresh = standing_begun v f cells tags w.begins in
    let k₁ = standing_run calls₁ m v f fresh in
    let k₂ = standing_run calls₂ m v f fresh in
    let charged = costs_unnoticed v f cells tags before c house base reg permissions after₁ after₂ w in
    let there = written_same house t (run m calls₁) (run m calls₂) core u.alike (inv_run calls₁ m (inv_begun v f cells tags)) (inv_run calls₂ m (inv_begun v f cells tags))
    (machine_back (run m calls₁) v f k₁) (λ n. (answers_written (run m calls₁) v f k₁).cost n ∙ charged n ∙ sym ((answers_written (run m calls₂) v f k₂).cost n))
    (replies calls₁ (answers m calls₁)) (replies calls₂ (answers m calls₂)) heard-same in
    let x₁ = subst (λ (x : Served). Unnoticed house t x (writing (run m calls₂)) (replies calls₁ (answers m calls₁)) (replies calls₂ (answers m calls₂))) (sym left₁) there in
    let x₂ = subst (λ (x : Served). Unnoticed house t (served_all exported (begins v f l₁ cells tags) uses₁) x (replies calls₁ (answers m calls₁)) (replies calls₂ (answers m calls₂))) (sym left₂) x₁ in
    let x₃ = subst (λ (x : List Reply). Unnoticed house t (served_all exported (begins v f l₁ cells tags) uses₁) (served_all exported (begins v f l₂ cells tags) uses₂) x (replies calls₂ (answers m calls₂))) (sym told₁) x₂ in
    subst (λ (x : List Reply). Unnoticed house t (served_all exported (begins v f l₁ cells tags) uses₁) (served_all exported (begins v f l₂ cells tags) uses₂) (replies_of exported (begins v f l₁ cells tags) uses₁) x) (sym told₂) x₃
