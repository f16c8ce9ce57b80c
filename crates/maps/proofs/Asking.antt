-- The walks one after the other come to the rule: the survey tells whether 25 comes (maps:Surveying), the list is written where it does not
-- (maps:Listing), and the nearest is the survey's (maps:Nearing).
use mathlib.Core.Path.{◌≡◌, refl, sym, ◌∙◌, ap}
use Prim.Native.Nat.{ℕ, ◌≤◌}
use native.Mathlib.Omega.{arith}
use native.Mathlib.Nat.{zero-add}
use mathlib.Core.Bool.{Bool, true, false, not, ◌&&◌, ◌||◌}
use mathlib.Core.List.{List, [], ◌++◌}
use lib.ListN.{length, drop}
use lib.Dec.{eqb, leb, ltb}
use borrow.Author.Tests.{ltb-false, leb-true, le-ltb, lt-ltb, leb-false}
use Rattle.std.specs.Prelude.{Option, Some, None, Result, Ok, Err, ⊤, is_some, unwrap_or}
use Rattle.capabilities.specs.Lists.{pick, filter}
use Rattle.capabilities.specs.Refusals.{number_of}
use Rattle.capabilities.specs.declared.refusal.Refusal.{Refusal}
use Rattle.capabilities.specs.declared.refusal.Refusal.TheVariants as refusal
use Rattle.capabilities.proofs.Choice.{or_false}
use Rattle.table.specs.declared.Reservation.{Reservation}
use Rattle.maps.specs.declared.Question.{Question}
use Rattle.maps.specs.declared.Question.TheVariants.{Sharing, Within, Nearest}
use Rattle.maps.specs.declared.Found.{Found}
use Rattle.maps.specs.declared.Near.{Near}
use Rattle.maps.specs.declared.Seen.{Seen}
use Rattle.maps.specs.Cells.{span, beyond}
use Rattle.maps.specs.Records.{tile_from, cells_of, bad_records}
use Rattle.maps.specs.Questions.{bases_of, candidate, Answer, answer, answer_of, nearest_answer_of, found, bad_list, bad_question, Response, response, put, granted_answer, is_refused, ask_of}
use Rattle.maps.specs.Walks.{nothing, nearest_with, seen_over, judge_with, Listing, listing, list_over, base_of, answer_with}
use Rattle.maps.proofs.Surveying.{sound_from, ends_lem, goes_on_lem}
use Rattle.maps.proofs.Listing.{all_listed, none_listed}
use Rattle.maps.proofs.Nearing.{nearest_over, lists_find_none, told, told_alone, found_after}

-- What is judged of a survey.
abbrev pub judged : List Reservation → Question → ℕ → Result ⊤ Refusal
judged l q room = judge_with q (seen_over q nothing l).end (length l) room

-- What is answered and left of a granted question.
abbrev pub closing : List Reservation → Question → List ℕ → Response
closing l q bases =
    let s = list_over q (listing 0 bases) l in response (answer_of (Ok (answer_with (seen_over q nothing l) s.count))) s.bases

-- What the walks leave, as the code puts them together.
abbrev pub by_judged : Result ⊤ Refusal → List Reservation → Question → List ℕ → Response
by_judged (Ok u) l q bases = closing l q bases
by_judged (Err e) l q bases = response (answer (number_of e) 0 0) bases

abbrev pub asking : List Reservation → Question → List ℕ → Response
asking l q bases = by_judged (judged l q (length bases)) l q bases

-- A granted question lists from every record, a refused one from none.
abbrev pub listed_from : Result ⊤ Refusal → List Reservation → List Reservation
listed_from (Ok u) l = l
listed_from (Err e) l = []

-- What a function gives for it.
abbrev pub result_with : Result ⊤ Refusal → Seen → ℕ → Result Found Refusal
result_with (Ok u) s count = Ok (answer_with s count)
result_with (Err e) s count = Err e

-- ---- Whether 25 comes
not_sound : (a : Bool) (n : ℕ) → not (a && leb n 4096) ≡ (not a || ltb 4096 n)
not_sound true n = go (leb n 4096) refl
  where
    go : (t : Bool) → leb n 4096 ≡ t → not t ≡ ltb 4096 n
    go true e = sym (le-ltb 4096 n (leb-true n 4096 e))
    go false e = sym (lt-ltb 4096 n (leb-false n 4096 e))
not_sound false n = refl

abbrev size : List Reservation → Bool
size l = eqb (length l) 0 || ltb 64 (length l)

bad_by_survey : (q : Question) (l : List Reservation) → (size l || not (is_some (seen_over q nothing l).end)) ≡ bad_records l
unfolding bad_records sound_from
bad_by_survey q l =
    ap (λ (t : Bool). size l || not t) (goes_on_lem q nothing 0 l refl (omega arith))
    ∙ ap (λ (k : ℕ). size l || not (tile_from 0 l && leb k 4096)) (zero-add (cells_of l)) ∙ ap (λ (t : Bool). size l || t) (not_sound (tile_from 0 l) (cells_of l))

-- A survey that goes on to the end ends where the records do.
ends_there : (q : Question) (l : List Reservation) → unwrap_or (seen_over q nothing l).end (cells_of l) ≡ cells_of l
ends_there q l =
    ap (λ (e : Option ℕ). unwrap_or e (cells_of l)) (ends_lem q 0 None l (omega arith))
    ∙ ap (λ (k : ℕ). unwrap_or (pick (sound_from 0 l) (Some k) None) (cells_of l)) (zero-add (cells_of l))
    ∙ go (sound_from 0 l)
  where
    go : (t : Bool) → unwrap_or (pick t (Some (cells_of l)) None) (cells_of l) ≡ cells_of l
    go true = refl
    go false = refl

abbrev verdict : Bool → Result ⊤ Refusal
verdict t = pick t (Err refusal.Question) (Ok tt)

-- The question's part is judged by the survey's end, which is that of the records where they go on.
judged_refused : (l : List Reservation) (q : Question) (room : ℕ) → judged l q room ≡ verdict (is_refused l q room)
unfolding is_refused
judged_refused l q room =
    go (seen_over q nothing l).end (ends_there q l) ∙ ap (λ (t : Bool). verdict (t || bad_question q (cells_of l) room)) (bad_by_survey q l)
  where
    none : (s : Bool) → s ≡ (s || false)
    none true = refl
    none false = refl

    all : (s b : Bool) → Err refusal.Question ≡ verdict ((s || true) || b)
    all true b = refl
    all false b = refl

    go : (e : Option ℕ) → unwrap_or e (cells_of l) ≡ cells_of l → judge_with q e (length l) room ≡ verdict ((size l || not (is_some e)) || bad_question q (cells_of l) room)
    go (Some k) there = ap (λ (n : ℕ). judge_with q (Some n) (length l) room) there ∙ ap (λ (s : Bool). verdict (s || bad_question q (cells_of l) room)) (none (size l))
    go None there = all (size l) (bad_question q (cells_of l) room)

-- ---- What is left
-- A question for a list.
ends_list : (l : List Reservation) (q : Question) (bases : List ℕ) → ((n : Option Near) (r : Reservation) → nearest_with q n r ≡ n)
    → length l ≤ length bases → closing l q bases ≡ put (bases_of q l) bases
unfolding put
ends_list l q bases same w =
    ap (λ (p : Listing). response (answer_of (Ok (answer_with (seen_over q nothing l) p.count))) p.bases) (all_listed q l bases w)
    ∙ ap (λ (m : Option Near). response (answer_of (Ok (answer_with (record { end = (seen_over q nothing l).end; nearest = m }) (length (bases_of q l))))) (bases_of q l ++ drop (length (bases_of q l)) bases))
    (nearest_over q nothing l ∙ lists_find_none q None l same)

ends_nearest : (l : List Reservation) (c n : ℕ) (bases : List ℕ) → closing l (Nearest c n) bases ≡ response (found c (filter (candidate n) l)) bases
ends_nearest l c n bases =
    ap (λ (p : Listing). response (answer_of (Ok (answer_with (seen_over (Nearest c n) nothing l) p.count))) p.bases) (none_listed c n (listing 0 bases) l)
    ∙ ap (λ (m : Option Near). response (told m) bases) (nearest_over (Nearest c n) nothing l) ∙ ap (λ (a : Answer). response a bases) (found_after c n l)

-- A granted list has room for every record.
has_room : (l : List Reservation) (q : Question) (room : ℕ) → is_refused l q room ≡ false → ltb room 64 ≡ false → length l ≤ room
unfolding is_refused bad_records
has_room l q room e r =
    let bad = (or_false (bad_records l) (bad_question q (cells_of l) room) e).0 in
    let some = (or_false (size l) (not (tile_from 0 l) || ltb 4096 (cells_of l)) bad).0 in
    let few = ltb-false 64 (length l) (or_false (eqb (length l) 0) (ltb 64 (length l)) some).1 in
    let wide = ltb-false room 64 r in
    omega (arith, few, wide)

list_room : (l : List Reservation) (q : Question) (first cells room : ℕ) → bad_question q (cells_of l) room ≡ bad_list (cells_of l) (span first cells) room → is_refused l q room ≡ false → ltb room 64 ≡ false
unfolding is_refused
list_room l q first cells room same e =
    (or_false (eqb cells 0 || beyond (cells_of l) (span first cells)) (ltb room 64) (sym same ∙ (or_false (bad_records l) (bad_question q (cells_of l) room) e).1)).1

ends_granted : (l : List Reservation) (q : Question) (bases : List ℕ) → is_refused l q (length bases) ≡ false → closing l q bases ≡ granted_answer l q bases
unfolding granted_answer bad_question
ends_granted l (Sharing first cells) bases e =
    ends_list l (Sharing first cells) bases (λ n r. refl) (has_room l (Sharing first cells) (length bases) e (list_room l (Sharing first cells) first cells (length bases) refl e))
ends_granted l (Within first cells) bases e =
    ends_list l (Within first cells) bases (λ n r. refl) (has_room l (Within first cells) (length bases) e (list_room l (Within first cells) first cells (length bases) refl e))
ends_granted l (Nearest cell cells) bases e = ends_nearest l cell cells bases

-- The walks leave what the rule says.
pub asks_rule : (l : List Reservation) (q : Question) (bases : List ℕ) → asking l q bases ≡ ask_of l q bases
unfolding ask_of
asks_rule l q bases = ap (λ (j : Result ⊤ Refusal). by_judged j l q bases) (judged_refused l q (length bases)) ∙ go (is_refused l q (length bases)) refl
  where
    go : (t : Bool) → is_refused l q (length bases) ≡ t → by_judged (verdict t) l q bases ≡ pick t (response (answer 25 0 0) bases) (granted_answer l q bases)
    go true e = refl
    go false e = ends_granted l q bases e

module _ (l : List Reservation) (q : Question) (bases : List ℕ) (s : Seen) (j : Result ⊤ Refusal) (known : s ≡ seen_over q nothing l) (told : j ≡ judge_with q s.end (length l) (length bases)) where
  -- What was judged, from the records alone.
  judged_so : by_judged j l q bases ≡ ask_of l q bases
  judged_so = ap (λ (t : Result ⊤ Refusal). by_judged t l q bases) (told ∙ ap (λ (t : Seen). judge_with q t.end (length l) (length bases)) known) ∙ asks_rule l q bases

  pub asked_refused : (e : Refusal) → j ≡ Err e → response (answer (number_of e) 0 0) bases ≡ ask_of l q bases
  asked_refused e refused = ap (λ (t : Result ⊤ Refusal). by_judged t l q bases) (sym refused) ∙ judged_so

  pub asked_granted : (u : ⊤) (count : ℕ) (after : List ℕ) (f : Found) → j ≡ Ok u → listing count after ≡ list_over q (listing 0 bases) l → f ≡ answer_with s count
      → response (answer_of (Ok f)) after ≡ ask_of l q bases
  asked_granted u count after f granted e g =
      ap (λ (x : Found). response (answer_of (Ok x)) after) g
      ∙ (λ i. response (answer_of (Ok (answer_with (known i) (e i).count))) (e i).bases)
      ∙ ap (λ (t : Result ⊤ Refusal). by_judged t l q bases) (sym granted) ∙ judged_so

  -- What the walks' promises come to, one after the other, whatever was judged.
  pub asked : (count : ℕ) (after : List ℕ) (a : Result Found Refusal) → listing count after ≡ list_over q (listing 0 bases) (listed_from j l) → a ≡ result_with j s count
      → response (answer_of a) after ≡ ask_of l q bases
  asked count after a e f = ap (λ (x : Result Found Refusal). response (answer_of x) after) f ∙ go j refl e
    where
      go : (t : Result ⊤ Refusal) → j ≡ t → listing count after ≡ list_over q (listing 0 bases) (listed_from t l) → response (answer_of (result_with t s count)) after ≡ ask_of l q bases
      go (Ok u) is e = asked_granted u count after (answer_with s count) is e refl
      go (Err r) is e = ap (λ (p : Listing). response (answer (number_of r) 0 0) p.bases) e ∙ asked_refused r is

-- The nearest is asked without a walk for a list.
pub asked_nearest : (l : List Reservation) (c n : ℕ) (s : Seen) (j : Result ⊤ Refusal) (u : ⊤) (b : Option ℕ) → s ≡ seen_over (Nearest c n) nothing l
    → j ≡ judge_with (Nearest c n) s.end (length l) 0 → j ≡ Ok u → b ≡ base_of s.nearest → response (nearest_answer_of (Ok b)) [] ≡ ask_of l (Nearest c n) []
asked_nearest l c n s j u b known judge granted e =
    ap (λ (m : Option ℕ). response (nearest_answer_of (Ok m)) []) e ∙ ap (λ (a : Answer). response a []) (told_alone s.nearest)
    ∙ asked_granted l (Nearest c n) [] s j known judge u 0 [] (answer_with s 0) granted (sym (none_listed c n (listing 0 []) l)) refl

-- No slice has a part in it.
pub no_slice : (l : List Reservation) (c n : ℕ) (bases : List ℕ) → (ask_of l (Nearest c n) bases).answer ≡ (ask_of l (Nearest c n) []).answer
unfolding ask_of is_refused bad_question granted_answer
no_slice l c n bases = go (bad_records l || eqb n 0)
  where
    go : (t : Bool) → (pick t (response (answer 25 0 0) bases) (response (found c (filter (candidate n) l)) bases)).answer ≡ (pick t (response (answer 25 0 0) []) (response (found c (filter (candidate n) l)) [])).answer
    go true = refl
    go false = refl
