-- A state with one entry exchanged is written as the arrays with one number exchanged. Assumes nothing.
use Prim.Native.Nat.{ℕ}
use mathlib.Core.List.{List, map}
use mathlib.Core.Path.{◌≡◌, refl, sym, ap, ◌∙◌}
use lib.ListN.{set}
use Rattle.pages.specs.declared.PageState.{PageState}
use Rattle.pages.specs.declared.FrameState.{FrameState}
use Rattle.pages.specs.Pages.{PageEntry}
use Rattle.pages.specs.Pages.{FrameEntry}
use Rattle.pages.specs.Entries.{page_entry, frame_entry}
use Rattle.pages.specs.Layer.{with_page, with_frame}
use Rattle.table.specs.Table.{Table}
use Rattle.claims.specs.Claims.{Claims}
use Rattle.claims.specs.Numbers.{laid}
use Rattle.claims.specs.Numbers.{numbers_of as claim_numbers}
use Rattle.reservations.specs.Core.{Core, with_pages as corePages, with_table as coreTable, with_claims as coreClaims}
use Rattle.reservations.specs.Revocation.{revoked}
use Rattle.words.specs.declared.Slot.{Slot}
use Rattle.words.specs.Words.{byte_of}
use Rattle.machine.specs.State.{State}
use Rattle.machine.specs.Step.{with_core}
use Rattle.arrays.specs.declared.Arrays.{Arrays}
use Rattle.pages.specs.Numbers.{page_code, frame_code}
use Rattle.table.specs.Numbers.{row_code}
use Rattle.arrays.specs.Reading.{arrays, numbers_of, state_of, arrays_of}
use Rattle.arrays.specs.Steps.{with_words, with_mail, with_pages, with_mails, with_table, with_claims, counted}
use Rattle.arrays.proofs.Lists.{map_set}

-- Arrays with equal parts are equal.
pub same_arrays : {v f c p b₁ b₂ l₁ l₂ : ℕ} {w₁ w₂ k₁ k₂ m₁ m₂ g₁ g₂ r₁ r₂ p₁ p₂ f₁ f₂ q₁ q₂ n₁ n₂ : List ℕ} → b₁ ≡ b₂ → l₁ ≡ l₂ → w₁ ≡ w₂ → k₁ ≡ k₂ → m₁ ≡ m₂ → g₁ ≡ g₂ → r₁ ≡ r₂ → p₁ ≡ p₂ → f₁ ≡ f₂ → q₁ ≡ q₂ → n₁ ≡ n₂
    → arrays (record { v = v; f = f; count = c; place = p; base = b₁; length = l₁ }) w₁ k₁ m₁ g₁ r₁ p₁ f₁ q₁ n₁
    ≡ arrays (record { v = v; f = f; count = c; place = p; base = b₂; length = l₂ }) w₂ k₂ m₂ g₂ r₂ p₂ f₂ q₂ n₂
same_arrays e1 e2 e3 e4 e5 e6 e7 e8 e9 e10 e11 = cc

module _ (s : State) where
  abbrev w : Arrays
  w = arrays_of s

  pub write_register : (i : ℕ) (x : Slot)
      → arrays_of (record { core = s.core; registers = set s.registers i x; mailboxes = s.mailboxes })
      ≡ with_words (arrays_of s) (set (arrays_of s).words i x.cell) (set (arrays_of s).marks i (byte_of x.tag))
  unfolding arrays_of
  write_register i x = rw (map_set (λ (y : Slot). y.cell) s.registers i x, map_set (λ (y : Slot). byte_of y.tag) s.registers i x)

  pub write_mailbox : (i : ℕ) (x : Slot)
      → arrays_of (record { core = s.core; registers = s.registers; mailboxes = set s.mailboxes i x })
      ≡ with_mail (arrays_of s) (set (arrays_of s).mail i x.cell) (set (arrays_of s).flags i (byte_of x.tag))
  unfolding arrays_of
  write_mailbox i x = rw (map_set (λ (y : Slot). y.cell) s.mailboxes i x, map_set (λ (y : Slot). byte_of y.tag) s.mailboxes i x)

  -- A register and a mailbox.
  pub write_words : (i : ℕ) (x : Slot) (j : ℕ) (y : Slot)
      → arrays_of (record { core = s.core; registers = set s.registers i x; mailboxes = set s.mailboxes j y })
      ≡ with_mails (arrays_of s) (set (arrays_of s).words i x.cell) (set (arrays_of s).marks i (byte_of x.tag)) (set (arrays_of s).mail j y.cell) (set (arrays_of s).flags j (byte_of y.tag))
  unfolding arrays_of
  write_words i x j y =
      rw (map_set (λ (z : Slot). z.cell) s.registers i x, map_set (λ (z : Slot). byte_of z.tag) s.registers i x, map_set (λ (z : Slot). z.cell) s.mailboxes j y, map_set (λ (z : Slot). byte_of z.tag) s.mailboxes j y)

  pub write_page : (p : ℕ) (x : PageState)
      → arrays_of (with_core s (corePages s.core (with_page s.core.pages p x)))
      ≡ with_pages (arrays_of s) (set (arrays_of s).pages p (page_code x)) (arrays_of s).frames
  unfolding arrays_of with_core with_page numbers_of revoked
  write_page p x = rw (map_set (λ (e : PageEntry). page_code e.state) s.core.pages.pages p (page_entry x))

  pub write_frame : (k : ℕ) (x : FrameState)
      → arrays_of (with_core s (corePages s.core (with_frame s.core.pages k x)))
      ≡ with_pages (arrays_of s) (arrays_of s).pages (set (arrays_of s).frames k (frame_code x))
  unfolding arrays_of with_core with_frame numbers_of revoked
  write_frame k x = rw (map_set (λ (e : FrameEntry). frame_code e.state) s.core.pages.frames k (frame_entry x))

  -- A whole table, where the revoked range stays.
  pub write_table : (t : Table)
      → revoked (coreTable s.core t) ≡ revoked s.core
      → arrays_of (with_core s (coreTable s.core t))
      ≡ with_table (arrays_of s) (counted (arrays_of s).nums t.count) (map row_code t.rows)
  unfolding arrays_of with_core numbers_of
  write_table t e = rw e

  -- Other claims.
  pub write_claims : (x : Claims)
      → arrays_of (with_core s (coreClaims s.core x)) ≡ with_claims (arrays_of s) (claim_numbers x) (laid x.counts)
  unfolding arrays_of with_core numbers_of revoked
  write_claims x = refl

-- A core and a register.
pub write_core_register : (s : State) (c : Core) (i : ℕ) (x : Slot)
    → with_words (arrays_of (with_core s c)) (set (arrays_of (with_core s c)).words i x.cell) (set (arrays_of (with_core s c)).marks i (byte_of x.tag))
    ≡ arrays_of (record { core = c; registers = set s.registers i x; mailboxes = s.mailboxes })
unfolding with_core
write_core_register s c i x = sym (write_register (with_core s c) i x)

-- The same of arrays that are what their state is written as.
module _ (a : Arrays) (e : arrays_of (state_of a) ≡ a) where
  pub put_register_lem : (i : ℕ) (x : Slot)
      → with_words a (set a.words i x.cell) (set a.marks i (byte_of x.tag))
      ≡ arrays_of (record { core = (state_of a).core; registers = set (state_of a).registers i x; mailboxes = (state_of a).mailboxes })
  put_register_lem i x =
      ap (λ b. with_words b (set b.words i x.cell) (set b.marks i (byte_of x.tag))) (sym e) ∙ sym (write_register (state_of a) i x)

  pub put_mailbox_lem : (i : ℕ) (x : Slot)
      → with_mail a (set a.mail i x.cell) (set a.flags i (byte_of x.tag))
      ≡ arrays_of (record { core = (state_of a).core; registers = (state_of a).registers; mailboxes = set (state_of a).mailboxes i x })
  put_mailbox_lem i x =
      ap (λ b. with_mail b (set b.mail i x.cell) (set b.flags i (byte_of x.tag))) (sym e) ∙ sym (write_mailbox (state_of a) i x)

  pub put_words : (i : ℕ) (x : Slot) (j : ℕ) (y : Slot)
      → with_mails a (set a.words i x.cell) (set a.marks i (byte_of x.tag)) (set a.mail j y.cell) (set a.flags j (byte_of y.tag))
      ≡ arrays_of (record { core = (state_of a).core; registers = set (state_of a).registers i x; mailboxes = set (state_of a).mailboxes j y })
  put_words i x j y =
      ap (λ b. with_mails b (set b.words i x.cell) (set b.marks i (byte_of x.tag)) (set b.mail j y.cell) (set b.flags j (byte_of y.tag))) (sym e)
      ∙ sym (write_words (state_of a) i x j y)

  abbrev c : Core
  c = (state_of a).core

  pub put_table : (t : Table) → revoked (coreTable c t) ≡ revoked c
      → with_table a (counted a.nums t.count) (map row_code t.rows) ≡ arrays_of (with_core (state_of a) (coreTable c t))
  put_table t k = ap (λ b. with_table b (counted b.nums t.count) (map row_code t.rows)) (sym e) ∙ sym (write_table (state_of a) t k)

  -- A page and a frame: the two one after the other.
  pub put_both : (p k : ℕ) (x : PageState) (y : FrameState)
      → with_pages a (set a.pages p (page_code x)) (set a.frames k (frame_code y))
      ≡ arrays_of (with_core (state_of a) (corePages c (with_frame (with_page c.pages p x) k y)))
  put_both p k x y =
      let s = with_core (state_of a) (corePages c (with_page c.pages p x)) in
      ap (λ b. with_pages b (set b.pages p (page_code x)) (set b.frames k (frame_code y))) (sym e)
      ∙ ap (λ b. with_pages b b.pages (set b.frames k (frame_code y))) (sym (write_page (state_of a) p x))
      ∙ sym (unfold with_core in write_frame s k y)

  pub put_claims : (x : Claims)
      → with_claims a (claim_numbers x) (laid x.counts) ≡ arrays_of (with_core (state_of a) (coreClaims c x))
  put_claims x = ap (λ b. with_claims b (claim_numbers x) (laid x.counts)) (sym e) ∙ sym (write_claims (state_of a) x)
