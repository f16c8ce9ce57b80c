-- What lent memory holds plays no part: no listed command reads a word of it, and nothing else of it reaches a state or an answer.
-- Assumes nothing.
use Prim.Native.Nat.{ℕ}
use mathlib.Core.Bool.{Bool, true, false, ◌&&◌, true≢false}
use mathlib.Core.List.{List, [], ◌∷◌, map, flatten}
use mathlib.Core.Path.{◌≡◌, refl, sym, ◌∙◌, ap, subst}
use lib.Dec.{eqb}
use Rattle.capabilities.specs.Lists.{pick, map_each, all, Every, In}
use Rattle.capabilities.specs.Refusals.{first}
use Rattle.capabilities.proofs.Lists.{every}
use Rattle.capabilities.proofs.Flatten.{filter_agrees}
use Rattle.capabilities.proofs.Members.{of_every, from_flatten, from_map}
use Rattle.calls.specs.declared.Call.{Call}
use Rattle.words.specs.Words.{empty}
use Rattle.machine.specs.State.{State, Answered}
use Rattle.machine.specs.Roles.{Sources, from_none, from_one, from_two, from_cell, role_of, caller_of, sources_of}
use Rattle.machine.specs.Reasons.{Reads, words_in, reads, reasons}
use Rattle.machine.specs.Formed.{start_of, answered}
use Rattle.machine.specs.Effects.{effect}
use Rattle.machine.specs.Step.{registers_after, mailboxes_after, done, refused, reasons_on, effect_on, ruled}
use Rattle.histories.specs.Runs.{Machine, outcome, next, begun}
use Rattle.histories.specs.Forming.{Standing}
use Rattle.histories.proofs.Forming.{standing_next, standing_ruled, standing_begun}
use Rattle.short_histories.specs.Listed.{choices, operands, listed}
use Rattle.short_histories.specs.Histories.{fresh_one, grants_all, sequences, counts, histories}
use Rattle.short_histories.specs.Promises.{MemoryUnseen}
use Rattle.short_histories.proofs.Choosing.{from_choices}
use Rattle.short_histories.proofs.Continuing.{fresh_standing}

-- No word of lent memory is read.
unfoldable unread : Sources → Bool
unread from_none = true
unread (from_one a) = true
unread (from_two a s) = true
unread (from_cell a off) = false

abbrev blind : Call → Bool
blind c = unread (sources_of (role_of c).role)

-- By computing.
listed_blind : all blind listed ≡ true
unfolding all unread listed choices operands flatten map_each
listed_blind = refl

module _ (s : State) where
  -- What a call is answered, and the state it leaves, by what it reads.
  abbrev answer_by : Call → Reads → Answered
  answer_by c r =
      let code = first (reasons s.core s.mailboxes r c) in
      let e = effect s.core s.mailboxes r c in
      pick (eqb code 0)
      (answered 0 e.answer (record { core = e.core; registers = registers_after e.registers s; mailboxes = mailboxes_after e.mailboxes s })) (answered code empty s)

  ruled_by_reads : (c : Call) (cells tags : List ℕ) → (ruled s c cells tags).answer ≡ answer_by c (reads s.core s.registers cells tags c)
  unfolding ruled done
  ruled_by_reads c cells tags = go (eqb (first (reasons_on s c cells tags)) 0) where
    go : (b : Bool) → (pick b (done s (effect_on s c cells tags) cells tags) (refused (first (reasons_on s c cells tags)) s cells tags)).answer
        ≡ pick b (done s (effect_on s c cells tags) cells tags).answer (answered (first (reasons_on s c cells tags)) empty s)
    go true = refl
    go false = refl

  module _ (cells tags others marks : List ℕ) where
    words_same : (p : ℕ) (from : Sources) → unread from ≡ true → words_in s.core s.registers cells tags p from ≡ words_in s.core s.registers others marks p from
    unfolding unread
    words_same p from_none u = refl
    words_same p (from_one a) u = refl
    words_same p (from_two a b) u = refl
    words_same p (from_cell a off) u = absurd (true≢false (sym u))

    ruled_same : (c : Call) → blind c ≡ true → (ruled s c cells tags).answer ≡ (ruled s c others marks).answer
    ruled_same c u =
        ruled_by_reads c cells tags ∙ ap (answer_by c) (words_same (caller_of c) (sources_of (role_of c).role) u) ∙ sym (ruled_by_reads c others marks)

-- ---- Histories
-- Two that agree in their state go on alike, whatever their memories hold.
module _ (v f : ℕ) where
  answer_same : (m o : Machine) → Standing m v f → Standing o v f → m.state ≡ o.state → (c : Call) → In c listed → (outcome m c).answer ≡ (outcome o c).answer
  answer_same m o p q e c i =
      ap (λ x. x.answer) (standing_ruled m v f c p)
      ∙ ruled_same m.state m.cells m.tags o.cells o.tags c
      (of_every (λ c. blind c ≡ true) listed c (every blind (λ c. blind c ≡ true) (λ c u. u) listed listed_blind) i)
      ∙ ap (λ s. (ruled s c o.cells o.tags).answer) e
      ∙ ap (λ x. x.answer) (sym (standing_ruled o v f c q))

  grants_same : (calls : List Call) (m o : Machine) → Standing m v f → Standing o v f → m.state ≡ o.state → Every (λ c. In c listed) calls
      → grants_all m calls ≡ grants_all o calls
  unfolding grants_all Every
  grants_same [] m o p q e l = refl
  grants_same (c ∷ calls) m o p q e l =
      let a = answer_same m o p q e c l.0 in
      let rest = grants_same calls (next m c) (next o c) (standing_next m v f c p) (standing_next o v f c q) (unfold next in ap (λ x. x.state) a) l.1 in
      λ i. eqb (a i).code 0 && rest i

of_listed : (calls : List Call) → In calls (flatten (map sequences counts)) → Every (λ c. In c listed) calls
unfolding sequences
of_listed calls i =
    let (block, (j, p)) = from_flatten (map sequences counts) calls i in
    let (m, (q, is)) = from_map sequences counts block j in
    (from_choices listed m calls (subst (In calls) (sym is) p)).1

pub memory_unseen : MemoryUnseen
unfolding histories
memory_unseen cells tags n k =
    filter_agrees (grants_all (begun 1 1 cells tags)) (grants_all fresh_one) (flatten (map sequences counts))
    (λ calls i. grants_same 1 1 calls (begun 1 1 cells tags) fresh_one begins fresh_standing (unfold begun fresh_one in refl) (of_listed calls i))
  where
    begins : Standing (begun 1 1 cells tags) 1 1
    begins = standing_begun 1 1 cells tags (record { granted = unfold start_of in refl; of_cells = n; of_tags = k })
