-- Document 02, 2026-04: a step of the machine, its takers forgotten, is the step of the machine without takers. For no reason against a
-- call and no effect of one looks at a taker but to write a taker, and what is written so is forgotten on both sides. Assumes nothing.
use Prim.Native.Nat.{ℕ, ◌*◌}
use mathlib.Core.Bool.{Bool, true, false, not, ◌&&◌, ◌||◌, and-true}
use mathlib.Core.List.{List, [], ◌∷◌, map}
use mathlib.Core.Path.{◌≡◌, refl, sym, ap, subst, ◌∙◌}
use lib.Dec.{eqb}
use lib.ListN.{length, replicate}
use Rattle.capabilities.specs.Capability.{capability, permitted, permits}
use Rattle.capabilities.specs.Lists.{pick}
use Rattle.capabilities.specs.Refusals.{reason, first}
use Rattle.capabilities.proofs.Choice.{pick_no, and_left, and_right}
use Rattle.pages.specs.Pages.{Pages}
use Rattle.pages.specs.Layer.{in_range, serves}
use Rattle.table.specs.Table.{Table}
use Rattle.table.specs.Rows.{blank, table, forget_table, live}
use Rattle.table.specs.Tiling.{takers_sound, fresh_table}
use Rattle.table.specs.Operations.{take_of}
use Rattle.table.proofs.Truth.{both}
use Rattle.table.proofs.Forgetting.{pick_like, granted_like, table_twice, take_reasons_lem, take_length, take_forgets, split_reasons_lem, split_forgets, merge_reasons_lem, merge_forgets, give_reasons_lem, give_forgets}
use Rattle.claims.specs.Claims.{Claims}
use Rattle.claims.specs.Sound.{claims_sound}
use Rattle.reservations.specs.Core.{Core, core, with_table}
use Rattle.reservations.specs.Revocation.{forget_core, fresh_core, core_sound}
use Rattle.reservations.proofs.Forgetting.{core_twice, running_forgets, revoked_forgets, dying_forgets, revoke_reasons_lem, revoke_forgets, collect_reasons_lem, collect_forgets, core_forgets}
use Rattle.calls.specs.declared.Call.{Call}
use Rattle.calls.specs.declared.Call.TheVariants.{Take, Split, Merge, Give, Revoke, Sweep, Collect, Map, Unmap, Zero, Load, Store, Narrow, Number, Grant, Receive, TakeMasked, Create, Claim, Release, Destroy}
use Rattle.words.specs.declared.Slot.{Slot}
use Rattle.words.specs.WordReasons.{unnamed, not_manager, may_not_load, cell_reasons}
use Rattle.words.specs.Words.{slot, empty, register_of, keep_tag, word_at, place_number}
use Rattle.machine.specs.State.{State}
use Rattle.machine.specs.Roles.{Sources, from_none, from_one, from_two, from_cell, plain_permissions, role_of, caller_of, sources_of}
use Rattle.machine.specs.Formed.{mailboxes_sound, sized, formed_bare, well_formed, fresh, start_of}
use Rattle.machine.specs.Reasons.{Reads, reading, addressed, found, words_in, reads, reasons}
use Rattle.machine.specs.Effects.{RegisterChange, keep_registers, put_register, collect_registers, MailboxChange, keep_mailboxes, put_mailbox, collect_mailboxes, MemoryChange, keep_memory, write, write_words, clear_frame, sweep_cells, Effect, effect_of, sweeping, swept_to, taking, effect}
use Rattle.machine.specs.Step.{refused, registers_after, mailboxes_after, tags_after, done, reasons_on, effect_on, ruled, judged, step_of}
use Rattle.machine.specs.Forgetting.{forget, forget_outcome, step_bare}
use Rattle.machine.proofs.Keeps.{step_keeps, start_formed}

-- An effect without takers.
abbrev pub forget_effect : Effect → Effect
forget_effect e = effect_of (forget_core e.core) e.registers e.mailboxes e.memory e.answer

-- Effects with the same core, and cores with the same table.
like : {x y : Core} {a : RegisterChange} {m : MailboxChange} {l : MemoryChange} {w : Slot} → x ≡ y → effect_of x a m l w ≡ effect_of y a m l w
like {a} {m} {l} {w} e = ap (λ k. effect_of k a m l w) e

tabled : {pages : Pages} {x y : Table} {place : ℕ} {claims : Claims} → x ≡ y → core pages x place claims ≡ core pages y place claims
tabled {pages} {place} {claims} e = ap (λ t. core pages t place claims) e

module _ (c : Core) (mail : List Slot) (r : Reads) where
  -- The same reasons speak against a call, whatever takers stand in the core.
  pub reasons_forget : (call : Call) → reasons (forget_core c) mail r call ≡ reasons c mail r call
  unfolding reasons addressed
  reasons_forget (Take p base reg) = ap (λ l. reason 4 (unnamed p || unnamed reg) ∷ l) (take_reasons_lem c.table p base)
  reasons_forget (Split p base len) = ap (λ l. reason 4 (unnamed p) ∷ l) (split_reasons_lem c.table p base len)
  reasons_forget (Merge p base) = ap (λ l. reason 4 (unnamed p) ∷ l) (merge_reasons_lem c.table p base)
  reasons_forget (Give p base to) = ap (λ l. reason 4 (unnamed p || unnamed to) ∷ l) (give_reasons_lem c.table p base)
  reasons_forget (Revoke p base) = ap (λ l. reason 4 (unnamed p) ∷ reason 5 (not_manager p) ∷ l) (revoke_reasons_lem c p base)
  reasons_forget (Sweep p n) = ap (λ b. reason 4 (unnamed p) ∷ reason 5 (not_manager p) ∷ reason 11 (not b) ∷ []) (running_forgets c)
  reasons_forget (Collect p) = ap (λ l. reason 4 (unnamed p) ∷ reason 5 (not_manager p) ∷ l) (collect_reasons_lem c)
  reasons_forget (Map p page frame) = refl
  reasons_forget (Unmap p page) = refl
  reasons_forget (Zero p frame) = refl
  reasons_forget (Load p a off d) = refl
  reasons_forget (Store p a off s) = refl
  reasons_forget (Narrow p s off len mask d) = refl
  reasons_forget (Number p d value) = refl
  reasons_forget (Grant p s to) = refl
  reasons_forget (Receive p d) = refl
  reasons_forget (TakeMasked p base reg mask) = ap (λ l. reason 4 (unnamed p || unnamed reg) ∷ l) (take_reasons_lem c.table p base)
  reasons_forget (Create p parent child limit holder) = refl
  reasons_forget (Claim p principal page) = refl
  reasons_forget (Release p principal page) = refl
  reasons_forget (Destroy p principal) = refl

  taking_forgets : (p base reg permissions : ℕ) → forget_effect (taking (forget_core c) p base reg permissions) ≡ forget_effect (taking c p base reg permissions)
  taking_forgets p base reg permissions =
      like (tabled (take_forgets c.table p base))
      ∙ ap (λ n. forget_effect (effect_of (with_table c (take_of c.table p base).table) (put_register p reg (slot (capability base n permissions) true)) keep_mailboxes keep_memory (slot n false)))
      (take_length c.table p base)

  -- A call has the same effect, but for the takers that it leaves.
  pub effect_forgets : (call : Call) → forget_effect (effect (forget_core c) mail r call) ≡ forget_effect (effect c mail r call)
  unfolding effect addressed
  effect_forgets (Take p base reg) = taking_forgets p base reg plain_permissions
  effect_forgets (TakeMasked p base reg mask) = taking_forgets p base reg (permitted mask)
  effect_forgets (Split p base len) = like (tabled (split_forgets c.table p base len))
  effect_forgets (Merge p base) = like (tabled (merge_forgets c.table p base))
  effect_forgets (Give p base to) = like (tabled (give_forgets c.table p base to))
  effect_forgets (Revoke p base) = like (revoke_forgets c p base)
  effect_forgets (Sweep p n) =
      like (tabled (table_twice c.table))
      ∙ ap (λ x. forget_effect (effect_of (sweeping c n).core keep_registers keep_mailboxes (sweep_cells x c.place (swept_to c n)) (sweeping c n).answer)) (revoked_forgets c)
  effect_forgets (Collect p) = like (collect_forgets c)
  effect_forgets (Map p page frame) = like (tabled (table_twice c.table))
  effect_forgets (Unmap p page) = like (tabled (table_twice c.table))
  effect_forgets (Zero p frame) = like (tabled (table_twice c.table))
  effect_forgets (Load p a off d) = like (core_twice c)
  effect_forgets (Store p a off s) =
      like (core_twice c)
      ∙ ap (λ die. forget_effect (effect_of c keep_registers keep_mailboxes (write_words (write (place_number (addressed c r.one off)) (keep_tag r.two (not (die r.two.cell))) ∷ [])) empty)) (dying_forgets c)
  effect_forgets (Narrow p s off len mask d) = like (core_twice c)
  effect_forgets (Number p d value) = like (core_twice c)
  effect_forgets (Grant p s to) = like (core_twice c)
  effect_forgets (Receive p d) = like (core_twice c)
  effect_forgets (Create p parent child limit holder) = like (tabled (table_twice c.table))
  effect_forgets (Claim p principal page) = like (tabled (table_twice c.table))
  effect_forgets (Release p principal page) = like (tabled (table_twice c.table))
  effect_forgets (Destroy p principal) = like (tabled (table_twice c.table))

-- What a call reads does not go by takers: by the core go only the places of cells, and the capabilities that die.
module _ (c : Core) (registers : List Slot) (cells tags : List ℕ) where
  found_forgets : (a : Slot) (off : ℕ) → found (forget_core c) cells tags a off ≡ found c cells tags a off
  unfolding found addressed
  found_forgets a off =
      let place = addressed c a off in
      let w = word_at cells tags (place_number place) in
      let free = eqb (first (cell_reasons (may_not_load a) a off place)) 0 in
      ap (λ die. pick free (keep_tag w (permits a.cell 4 && not (die w.cell))) empty) (dying_forgets c)

  words_forget : (p : ℕ) (from : Sources) → words_in (forget_core c) registers cells tags p from ≡ words_in c registers cells tags p from
  words_forget p from_none = refl
  words_forget p (from_one a) = refl
  words_forget p (from_two a b) = refl
  words_forget p (from_cell a off) = let from = register_of registers p a in ap (λ w. reading from empty (w ∷ [])) (found_forgets from off)

  reads_forget : (call : Call) → reads (forget_core c) registers cells tags call ≡ reads c registers cells tags call
  reads_forget call = words_forget (caller_of call) (sources_of (role_of call).role)

-- What is done to a state does not go by its takers: by its core go only the capabilities that die, and the frames.
module _ (s : State) where
  registers_forget : (ch : RegisterChange) → registers_after ch (forget s) ≡ registers_after ch s
  unfolding registers_after
  registers_forget keep_registers = refl
  registers_forget (put_register p r w) = refl
  registers_forget collect_registers = ap (λ die. map (λ w. keep_tag w (not (die w.cell))) s.registers) (dying_forgets s.core)

  mailboxes_forget : (ch : MailboxChange) → mailboxes_after ch (forget s) ≡ mailboxes_after ch s
  unfolding mailboxes_after
  mailboxes_forget keep_mailboxes = refl
  mailboxes_forget (put_mailbox p w) = refl
  mailboxes_forget collect_mailboxes = ap (λ die. map (λ w. pick (w.tag && die w.cell) empty w) s.mailboxes) (dying_forgets s.core)

  tags_forget : (ch : MemoryChange) (cells tags : List ℕ) → tags_after ch (forget_core s.core) cells tags ≡ tags_after ch s.core cells tags
  unfolding tags_after
  tags_forget keep_memory cells tags = refl
  tags_forget (write_words writes) cells tags = refl
  tags_forget (clear_frame f) cells tags = refl
  tags_forget (sweep_cells r from upto) cells tags = refl

  -- A state forgotten twice is forgotten once.
  pub state_twice : forget (forget s) ≡ forget s
  state_twice = ap (λ c. record { core = c; registers = s.registers; mailboxes = s.mailboxes }) (core_twice s.core)

  pub formed_forgets : well_formed s ≡ true → formed_bare (forget s) ≡ true
  unfolding well_formed formed_bare mailboxes_sound
  formed_forgets w =
      let boxes = mailboxes_sound s in
      let claims = claims_sound s.core.pages.v s.core.claims in
      let bare = and_left (formed_bare s) (takers_sound (live s.core.table)) w in
      let lines = and_left ((core_sound s.core && boxes) && sized s) claims bare in
      let front = and_left (core_sound s.core && boxes) (sized s) lines in
      both ((core_sound (forget_core s.core) && boxes) && sized s) claims
      (both (core_sound (forget_core s.core) && boxes) (sized s)
      (both (core_sound (forget_core s.core)) boxes (core_forgets s.core (and_left (core_sound s.core) boxes front)) (and_right (core_sound s.core) boxes front))
      (and_right (core_sound s.core && boxes) (sized s) lines))
      (and_right ((core_sound s.core && boxes) && sized s) claims bare)

module _ (s : State) (c : Call) (cells tags : List ℕ) where
  abbrev read : Reads
  read = reads s.core s.registers cells tags c

  same_read : reads (forget_core s.core) s.registers cells tags c ≡ read
  same_read = reads_forget s.core s.registers cells tags c

  done_forgets : forget_outcome (done (forget s) (effect_on (forget s) c cells tags) cells tags) ≡ forget_outcome (done s (effect_on s c cells tags) cells tags)
  unfolding done
  done_forgets =
      let e = effect_on s c cells tags in
      ap (λ r. forget_outcome (done (forget s) (effect (forget_core s.core) s.mailboxes r c) cells tags)) same_read
      ∙ ap (λ x. done (forget s) x cells tags) (effect_forgets s.core s.mailboxes read c)
      ∙ cc (registers_forget s e.registers, mailboxes_forget s e.mailboxes, tags_forget s e.memory cells tags)

  refused_forgets : (k : ℕ) → forget_outcome (refused k (forget s) cells tags) ≡ forget_outcome (refused k s cells tags)
  refused_forgets k = ap (λ x. refused k x cells tags) (state_twice s)

  ruled_forgets : forget_outcome (ruled (forget s) c cells tags) ≡ forget_outcome (ruled s c cells tags)
  unfolding ruled
  ruled_forgets =
      let same = ap (λ r. reasons (forget_core s.core) s.mailboxes r c) same_read ∙ reasons_forget s.core s.mailboxes read c in
      granted_like forget_outcome same done_forgets (ap (λ l. forget_outcome (refused (first l) (forget s) cells tags)) same ∙ refused_forgets (first (reasons_on s c cells tags)))

  judged_forgets : forget_outcome (judged (forget s) c cells tags) ≡ forget_outcome (judged s c cells tags)
  unfolding judged
  judged_forgets = pick_like forget_outcome {a = serves s.core.pages (length cells) (length tags)} refl ruled_forgets (refused_forgets 2)

  -- A step without takers is the step, its takers forgotten.
  pub step_forgets : well_formed s ≡ formed_bare (forget s) → forget_outcome (step_of s c cells tags) ≡ step_bare (forget s) c cells tags
  unfolding step_of step_bare
  step_forgets e = sym (pick_like forget_outcome (sym e) judged_forgets (refused_forgets 1))

-- Both machines ask for the same of a state. So it is from a start on: where V and F are in range the start is well formed, and every step
-- keeps it so; where they are not, there is no reservation that could have a taker, and refusal 1 keeps the state.
abbrev pub Agree : State → Type 0
Agree s = well_formed s ≡ formed_bare (forget s)

agree_formed : (s : State) → well_formed s ≡ true → Agree s
agree_formed s w = w ∙ sym (formed_forgets s w)

-- With no reservation there is no taker.
abbrev no_rows : Table
no_rows = table (replicate 64 blank) 0

agree_none : (s : State) → s.core.table ≡ no_rows → Agree s
unfolding well_formed live takers_sound
agree_none s e =
    ap (λ t. formed_bare s && takers_sound (live t)) e ∙ and-true (formed_bare s)
    ∙ ap (λ t. formed_bare (record { core = with_table s.core t; registers = s.registers; mailboxes = s.mailboxes })) (e ∙ sym (ap forget_table e))

pub agree_start : (v f : ℕ) → Agree (start_of v f).state
unfolding start_of fresh fresh_core fresh_table
agree_start v f = go (in_range v f) refl
  where
    go : (b : Bool) → in_range v f ≡ b → Agree (start_of v f).state
    go true e = agree_formed (start_of v f).state (start_formed v f (ap (λ b. pick b 0 1) e))
    go false e = agree_none (start_of v f).state (ap (λ b. fresh_table (pick b (16 * v) 0)) e)

pub agree_step : (s : State) (c : Call) (cells tags : List ℕ) → Agree s → Agree (step_of s c cells tags).answer.state
unfolding step_of
agree_step s c cells tags a = go (well_formed s) refl
  where
    go : (b : Bool) → well_formed s ≡ b → Agree (step_of s c cells tags).answer.state
    go true w = agree_formed (step_of s c cells tags).answer.state (step_keeps s c cells tags w)
    go false w = subst (λ o. Agree o.answer.state) (sym (pick_no (well_formed s) (judged s c cells tags) (refused 1 s cells tags) w)) a
