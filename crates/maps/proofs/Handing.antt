-- A function that makes a question of two numbers and hands it to `maps::records::ask`, as `sharing` and `within` do: one walk for both, by
-- the number of the question's variant. The slice for the list is not used after the call, so it goes there at its own lifetime.
--     function         the MIR, for the variant with the number k
--     clauses          the contract, for the question that `make` makes
--     hands_meets      the MIR meets the contract, where k is the number of the variants that `make` makes
use mathlib.Core.Path.{◌≡◌, refl}
use Prim.Native.Nat.{ℕ, ◌<◌, ◌^◌}
use mathlib.Core.List.{List, [], ◌∷◌}
use lib.Dec.{T as Holds, ltb}
use lib.ListN.{length}
use seplogic.Ra.Ura.{Ura}
use base.Fraction.{full_share}
use mir.Syntax.{Ty, Fn, Body, named, imm, mut, erased, local, value_local, place, field, deref, copy, int, assign, aggregate, addr_of, call, return, seq, w8, w16, w64, ty_int, ty_ref}
use mir.Val.{Val, vint, vstruct, vnil, vcons}
use base.Logic.{SProp, ent, sep, emp, via, fst∗, id⊢}
use base.Fml.{Lft, GName, Share, Fml, ftrue, fat, froom, fdies, flft, fbor}
use prog.Memory.{Memory}
use prog.Routine.{Routine}
use prog.Wp.{Env, Calls, Loops, WpFn, Tables}
use types.Logic.{Logic, sem}
use contract.Monad.{Fun, fact}
use types.Kit.{Item, Sq, mean, runs, at_ret, ‵, raw, ◌⊛◌, ⋆, some, later, ◌$◌, ◌∵◌, !, qed, by, move, keep, drop, use1, use3, split, join, pick, fsplit, fjoin, feq_l, suffices, frame, await, done}
use types.Part.{agg, whole, sub, look_in}
use types.Run.{look, init, forget, stop, hop, fld, from, load, lit, addr, and_then, no_more, assigns, land, returns, enter, alloc1, alloc0, params1, pass1, pass0, free1, free0}
use sound.WpLaws.{fm_of, WpFn-mono}
use denote.RattleType.{RattleType, owns}
use denote.Laws.{Is, shows}
use types.SemTy.{Arr, Body as Lent}
use types.Hole.{Holey}
use denote.Memory.{mem as stored, lone, pointee}
use denote.Plain.{uint_Makes, uint_vals, uint_Tells}
use denote.Builtin.{u16, u64}
use denote.Ref.{Bor, MutBor}
use denote.Signature.{plain}
use denote.Slice.{slice_ty, slice_val, shr_slice_vals, mut_slice_vals, ShrSlice, MutSlice, finally, shr_slice_Tells, mut_slice_Tells, shr_slice_Lawful, mut_slice_Lawful, shr_slice_copy}
use denote.Steps.{owned, facts, heard, nothing}
use denote.Enum.Laws as EL
use denote.Triple.Statement.{Contract, Triple}
use denote.Triple.Call.{calls_at}
use denote.Triple.Entry.{Vals, on_entry}
use denote.Triple.Spec.{Meets, triple_of}
use denote.Triple.Walked.{says, Stays, stay_none, stay_none_slice, gave_slice, walk_of, Goes-none, Goes-none_slice, Goes-gave_slice, Walks, ends_at, walked, walk_Meets}
use denote.Triple.Clauses.{Clauses, closing, ensured, lasts}
use denote.Exit.{yes}
use Rattle.table.specs.declared.Reservation.{Reservation}
use Rattle.table.specs.contracts.Reservation as R
use Rattle.table.proofs.Reservation.TheLaws as R'
use Rattle.maps.specs.declared.Question.{Question}
use Rattle.maps.specs.declared.Found.{Found}
use Rattle.maps.specs.Questions.{response, answer_of, ask_of}
use Rattle.maps.specs.contracts.Question as Q
use Rattle.maps.proofs.Question.TheLaws as Q'
use Rattle.maps.specs.contracts.Found as F
use Rattle.maps.proofs.Found.TheLaws as F'
use Rattle.capabilities.specs.declared.refusal.Refusal.{Refusal}
use Rattle.capabilities.specs.contracts.refusal.Refusal as N
use Rattle.capabilities.proofs.refusal.Refusal.TheLaws as N'
use Rattle.std.specs.declared.result.Result.{Result}
use Rattle.std.specs.contracts.result.Result as B
use Rattle.std.proofs.result.Result.TheLaws as B'
use Rattle.maps.specs.contracts.records.ask as ask
use Rattle.maps.proofs.records.ask.Symbol.{name as #ask}
use Rattle.maps.specs.contracts.records.sharing as sharing

-- what is answered: its row, the laws of it, and its MIR type
abbrev answered : RattleType
answered = B.the_row F.the_row N.the_row

abbrev answered_laws : EL.Laws (B.the_type F.the_row N.the_row)
answered_laws = B'.the_laws F.the_row N.the_row F'.the_row_laws N'.the_row_laws F'.the_told N'.the_told

abbrev answered_mir : Ty
answered_mir = lone answered.mir

abbrev word : Ty
word = ty_int w64

abbrev slice : Ty
slice = slice_ty (ty_ref (named 0) imm (pointee (R.the_row).written))

-- the slice for the list, as it is passed, and as it is handed on
abbrev pointer : Ty
pointer = ty_ref erased mut (ty_int w16)

abbrev room_slice : Ty
room_slice = slice_ty (ty_ref (named 1) mut (ty_int w16))

abbrev again_slice : Ty
again_slice = slice_ty pointer

-- what a function of this shape promises
abbrev pub clauses : (ℕ → ℕ → Question) → {M : Type 1} (𝓤 : Ura M) → Clauses 𝓤 sharing.ended
clauses make 𝓤 κs a = record { ghost = Unit {0}; requires = λ _. emp 𝓤; ensures = λ _ r e. fact 𝓤 (response (answer_of r) e.1.1.1.0.now ≡ ask_of a.0.now (make a.1.0 a.1.1.0) a.1.1.1.0.now) }

abbrev finish : Body
finish = seq (call #ask (copy (place 1 []) ∷ copy (place 5 []) ∷ copy (place 7 []) ∷ []) (place 0 [])) return

abbrev start : ℕ → Body
start k =
    seq (assign (place 5 []) (aggregate (int w8 k ∷ copy (place 2 []) ∷ copy (place 3 []) ∷ [])))
    (seq (assign (place 6 []) (addr_of (place 4 (field 0 ∷ deref (ty_int w16) ∷ []))))
    (seq (assign (place 7 []) (aggregate (copy (place 6 []) ∷ copy (place 4 (field 1 ∷ [])) ∷ []))) finish))

abbrev pub function : ℕ → Fn
function k = record {
  lifetimes = 2;
  outlives = [];
  ty_params = [];
  givens = 0;
  params = 4;
  locals = local answered_mir value_local ∷ local slice value_local ∷ local word value_local ∷ local word value_local ∷ local room_slice value_local ∷ local Q'.mir value_local ∷ local pointer value_local ∷ local again_slice value_local ∷ [];
  body = start k;
}

abbrev stayed : Stays (sharing.ended).signature.params (sharing.ended).kept
stayed = (stay_none_slice (0 ∷ []) tt (plain (λ _. R.the_row)) yes, (stay_none (λ _. u64) yes, (stay_none (λ _. u64) yes, (gave_slice (1 ∷ []) tt (plain (λ _. u16)), tt))))

-- the last values of `ask`'s parameters: of the slice its list
abbrev Ends : Type 0
Ends = Unit {0} × (Unit {0} × (List ℕ × Unit {0}))

module _ (k : ℕ) (small : Holds (ltb k (2 ^ 8))) (make : ℕ → ℕ → Question)
    (made : (first cells : ℕ) → first < 2 ^ 64 → cells < 2 ^ 64 → Is Q.the_row (make first cells) (vstruct (vcons (vint w8 k) (vcons (vint w64 first) (vcons (vint w64 cells) vnil))) ∷ [])) where
  module _ {M : Type 1} {𝓤 : Ura M} (𝓛 : Logic 𝓤) (mem : Memory → SProp 𝓤) (run : Routine → Fun 𝓤) where
    -- the contract that the proof cites
    abbrev pub Ask : Contract 𝓤
    Ask = triple_of 𝓛 ask.signature (ask.spec 𝓛 mem run)

  module _ {M : Type 1} {𝓤 : Ura M} (𝓛 : Logic 𝓤) (mem : Memory → SProp 𝓤) (run : Routine → Fun 𝓤) (κ κ' : Lft) (q q' : Share) (b o : ℕ) (ys : List Reservation) (first cells : ℕ) (gf : first < 2 ^ 64) (gs : cells < 2 ^ 64) (b' o' : ℕ) (γ' : GName) (cs : List ℕ) where
    open 𝓛 use {H}

    abbrev x : Bor (List Reservation)
    x = record { ref_ptr = (b, o); now = ys }

    abbrev y : MutBor (List ℕ)
    y = record { ref_ptr = (b', o'); ghost_name = γ'; now = cs }

    abbrev v : Val
    v = slice_val (b, o) (length ys)

    abbrev v' : Val
    v' = slice_val (b', o') (length cs)

    abbrev qn : Question
    qn = make first cells

    abbrev qv : Val
    qv = vstruct (vcons (vint w8 k) (vcons (vint w64 first) (vcons (vint w64 cells) vnil)))

    isq : Is Q.the_row qn (qv ∷ [])
    isq = made first cells gf gs

    abbrev at : Vals sharing.signature (κ, (κ', tt))
    at = (v ∷ [], (vint w64 first ∷ [], (vint w64 cells ∷ [], (v' ∷ [], tt))))

    abbrev bound : (walk_of 𝓛 sharing.ended stayed (clauses make 𝓤)).Ghost
    bound = (((κ, (κ', tt)), (q, (q', tt)), tt, (x, (first, (cells, (y, tt)))), at), tt)

    abbrev Post : Val → SProp 𝓤
    Post = (walk_of 𝓛 sharing.ended stayed (clauses make 𝓤)).post bound

    abbrev Own : Fml
    Own = (ShrSlice (named 0) κ R.the_row).own_val x (v ∷ [])

    abbrev Bases : Fml
    Bases = (MutSlice (named 1) κ' u16).own_val y (v' ∷ [])

    -- the borrow of the list's elements, which `ask` hands back
    abbrev Back : Fml
    Back = fbor κ' (Lent (Arr (Holey (stored u16)) (length cs)) b' o' γ')

    abbrev Tokens : Item 𝓤
    Tokens = ‵ (flft κ q) ⊛ ‵ (flft κ' q') ⊛ ‵ ftrue

    exits : (a : Result Found Refusal) (u : Val) (bs : List ℕ) → length bs ≡ length cs → response (answer_of a) bs ≡ ask_of ys qn cs → Is answered a (u ∷ []) → ent 𝓤 (⋆ 𝓛 (Tokens ∷ ‵ (finally u16 γ' bs) ∷ ‵ Back ∷ ‵ Own ∷ [])) (Post u)
    exits a u bs same e is =
        qed 𝓛 (Tokens ∷ ‵ (finally u16 γ' bs) ∷ ‵ Back ∷ ‵ Own ∷ []) ∵
        suffices ! _ (ends_at 𝓛 sharing.ended stayed (clauses make 𝓤) bound u a (tt, (tt, (tt, (bs, tt)))) (tt, (tt, (tt, (same, tt))))) $ says ! e $ frame ! $
        fjoin ! $ nothing ! $ move ! (1 ∷ 0 ∷ []) $ fjoin ! $ owned ! u64 (Is u64) (uint_Makes 𝓛 w64) cells _ (refl, gs) $ fjoin ! $ owned ! u64 (Is u64) (uint_Makes 𝓛 w64) first _ (refl, gf) $ fjoin ! $ move ! (1 ∷ 0 ∷ []) $ fjoin ! $ frame ! $
        owned ! answered (Is answered) (EL.makes (B.the_type F.the_row N.the_row) (B'.the_plain F.the_row N.the_row F'.the_row_plain N'.the_row_plain) 𝓛) a _ is $ done !

    -- the call of `ask`
    abbrev given_to : Bor (List Reservation) × (Question × (MutBor (List ℕ) × Unit {0}))
    given_to = (x, (qn, (y, tt)))

    abbrev to : (Ask 𝓛 mem run).Ghost
    to = (((κ, (κ', tt)), (q, (q', tt)), tt, given_to, (v ∷ [], (qv ∷ [], (v' ∷ [], tt)))), tt)

    asks : ent 𝓤 (sep 𝓤 (mean 𝓛 Tokens) (sep 𝓤 (sem 𝓛 Own) (sem 𝓛 Bases))) ((Ask 𝓛 mem run).pre to)
    asks =
        qed 𝓛 (Tokens ∷ ‵ Own ∷ ‵ Bases ∷ []) ∵ nothing ! $ move ! (3 ∷ 0 ∷ []) $ fjoin ! $ owned ! Q.the_row (Is Q.the_row) (EL.makes Q.the_type Q'.the_plain 𝓛) qn _ isq $ fjoin ! $ move ! (2 ∷ 0 ∷ []) $ fjoin ! $ move ! (1 ∷ 0 ∷ []) $ join ! $ frame ! $ done !

    module _ (𝓣 : Tables 𝓤 H) (known : Triple 𝓤 (𝓣.C #ask) (Ask 𝓛 mem run)) where
      module _ (gm : length cs < 2 ^ 64) (l₀ l₁ l₂ l₃ l₄ l₅ l₆ l₇ : ℕ) where
        abbrev C : Calls 𝓤 H
        C = 𝓣.C

        abbrev Λ : Loops 𝓤 H
        Λ = 𝓣.Λ

        abbrev En : Env 𝓤 H
        En = (answered_mir, l₀) ∷ (slice, l₁) ∷ (word, l₂) ∷ (word, l₃) ∷ (room_slice, l₄) ∷ (Q'.mir, l₅) ∷ (pointer, l₆) ∷ (again_slice, l₇) ∷ []

        abbrev Start : List (Item 𝓤)
        Start = Tokens ∷ ‵ Own ∷ ‵ Bases ∷ ‵ Own
            ∷ ‵ (froom again_slice l₇ 0) ∷ ‵ (fdies again_slice l₇) ∷ ‵ (froom pointer l₆ 0) ∷ ‵ (fdies pointer l₆) ∷ ‵ (froom Q'.mir l₅ 0) ∷ ‵ (fdies Q'.mir l₅) ∷ ‵ (fat full_share room_slice l₄ 0 (v')) ∷ ‵ (fdies room_slice l₄)
            ∷ ‵ (fat full_share word l₃ 0 (vint w64 cells)) ∷ ‵ (fdies word l₃) ∷ ‵ (fat full_share word l₂ 0 (vint w64 first)) ∷ ‵ (fdies word l₂) ∷ ‵ (fat full_share slice l₁ 0 (v)) ∷ ‵ (fdies slice l₁) ∷ ‵ (froom answered_mir l₀ 0) ∷ ‵ (fdies answered_mir l₀) ∷ []

        starts : Sq 𝓛 Start (runs C Λ En (start k) (at_ret En Post))
        starts =
            assigns ! (agg ! (and_then ! (lit ! small) (and_then ! (load ! (from ! (stop !)) (look ! 14 refl)) (and_then ! (load ! (from ! (stop !)) (look ! 12 refl)) (no_more !))))) (from ! (stop !))
            (init ! 8 refl ((EL.lawful Q.the_type Q'.the_laws 𝓛 tt).typed qn _ isq).0) $
            assigns ! (addr ! (from ! (fld ! refl (hop ! (look_in ! 10 (sub ! 0 refl (whole !))) (stop !))))) (from ! (stop !)) (init ! 6 refl (tt, tt)) $
            assigns ! (agg ! (and_then ! (load ! (from ! (stop !)) (look ! 6 refl)) (and_then ! (load ! (from ! (fld ! refl (stop !))) (look_in ! 10 (sub ! 1 refl (whole !)))) (no_more !)))) (from ! (stop !)) (init ! 4 refl (tt, (tt, (record { fits = gm }, tt)))) $
            use3 𝓛 (raw ((Ask 𝓛 mem run).pre to)) asks $
            calls_at ! (fm_of 𝓤 H 𝓛.laws 𝓣) (Ask 𝓛 mem run) known to
            (and_then ! (load ! (from ! (stop !)) (look ! 14 refl)) (and_then ! (load ! (from ! (stop !)) (look ! 6 refl)) (and_then ! (load ! (from ! (stop !)) (look ! 2 refl)) (no_more !)))) (λ u.
            use1 𝓛 (later (some (λ (a : Result Found Refusal). (Tokens ⊛ ‵ (answered.own_val a (u ∷ []))) ⊛ raw (ensured 𝓛 ask.ended (ask.clauses 𝓛 mem run) (κ, (κ', tt)) given_to tt a)))) (id⊢ 𝓤 _) $ await ! tt $ pick ! (λ a.
            split ! $ move ! (1 ∷ []) $ use1 𝓛 (some (λ (ws : Ends). ‵ (lasts ask.ended (κ, (κ', tt)) given_to ws) ⊛ raw (fact 𝓤 (response (answer_of a) ws.1.1.0 ≡ ask_of ys qn cs)))) (id⊢ 𝓤 _) $ pick ! (λ ws.
            split ! $ move ! (1 ∷ []) $ heard ! (response (answer_of a) ws.1.1.0 ≡ ask_of ys qn cs) (λ e.
            -- [what is said of the last values; the tokens and the result; what the records own; the locals]
            fsplit ! $ drop ! $ fsplit ! $ drop ! $ fsplit ! $ fsplit ! $ fsplit ! $ move ! (1 ∷ []) $ feq_l ! (λ same. move ! (2 ∷ []) $ drop ! $ move ! (2 ∷ []) $ split ! $ move ! (1 ∷ []) $
            facts ! answered (Is answered) (shows 𝓛 answered) a (u ∷ []) (λ is.
            land ! (from ! (stop !)) (init ! 18 refl ((EL.lawful (B.the_type F.the_row N.the_row) answered_laws 𝓛 tt).typed a _ is).0) $
            returns ! (look ! 18 refl) $ forget ! 4 refl $ forget ! 6 refl $ forget ! 8 refl $ forget ! 10 refl $ forget ! 12 refl $ forget ! 14 refl $ forget ! 16 refl $ forget ! 18 refl $
            move ! (18 ∷ 19 ∷ []) $ free1 ! $ move ! (16 ∷ 17 ∷ []) $ free1 ! $ move ! (14 ∷ 15 ∷ []) $ free1 ! $ move ! (12 ∷ 13 ∷ []) $ free1 ! $ move ! (10 ∷ 11 ∷ []) $ free1 ! $ move ! (8 ∷ 9 ∷ []) $ free1 ! $ move ! (6 ∷ 7 ∷ []) $ free1 ! $ move ! (4 ∷ 5 ∷ []) $ free1 ! $ free0 ! $
            by ! (exits a u ws.1.1.0 same e is)))))))

      walk : Is (ShrSlice (named 0) κ R.the_row) x (v ∷ []) → Is (MutSlice (named 1) κ' u16) y (v' ∷ [])
          → ent 𝓤 (on_entry 𝓛 sharing.signature (κ, (κ', tt)) (q, (q', tt)) (x, (first, (cells, (y, tt)))) at) (WpFn 𝓤 H 𝓣.C 𝓣.Λ (function k) (v ∷ vint w64 first ∷ vint w64 cells ∷ v' ∷ []) Post)
      walk p p' =
          qed 𝓛 (Tokens ∷ ‵ (owns (ShrSlice (named 0) κ R.the_row ∷ u64 ∷ u64 ∷ MutSlice (named 1) κ' u16 ∷ []) (x, (first, (cells, (y, tt)))) at) ∷ []) ∵ enter ! 𝓣.C 𝓣.Λ (function k) (v ∷ vint w64 first ∷ vint w64 cells ∷ v' ∷ []) _ $
          alloc1 ! (λ l₀. alloc1 ! (λ l₁. alloc1 ! (λ l₂. alloc1 ! (λ l₃. alloc1 ! (λ l₄. alloc1 ! (λ l₅. alloc1 ! (λ l₆. alloc1 ! (λ l₇. alloc0 ! $ params1 ! $
          pass1 ! (init ! 12 refl ((shr_slice_Lawful 𝓛 (named 0) κ R.the_row).typed x (v ∷ []) p).0) $ pass1 ! (init ! 10 refl (tt, record { fits = gf })) $ pass1 ! (init ! 8 refl (tt, record { fits = gs })) $
          pass1 ! (init ! 6 refl ((mut_slice_Lawful 𝓛 (named 1) κ' u16).typed y (v' ∷ []) p').0) $ pass0 ! $
          -- what the records own is had twice: for the call, and for the exit
          move ! (17 ∷ []) $ fsplit ! $ use1 𝓛 (‵ Own ⊛ ‵ Own) ((shr_slice_copy 𝓛 (named 0) κ R.the_row (R'.the_row_laws).shr_laws).twice x (v ∷ [])) $ split ! $
          move ! (2 ∷ []) $ fsplit ! $ drop ! $ fsplit ! $ drop ! $ fsplit ! $
          -- [what the slice for the list owns; …; what the records own, twice; the locals; the tokens]
          keep ! (20 ∷ 2 ∷ 0 ∷ 3 ∷ 4 ∷ 5 ∷ 6 ∷ 7 ∷ 8 ∷ 9 ∷ 10 ∷ 11 ∷ 12 ∷ 13 ∷ 14 ∷ 15 ∷ 16 ∷ 17 ∷ 18 ∷ 19 ∷ []) $ starts p'.0.1.0 l₀ l₁ l₂ l₃ l₄ l₅ l₆ l₇))))))))

  module _ {M : Type 1} {𝓤 : Ura M} (𝓛 : Logic 𝓤) (mem : Memory → SProp 𝓤) (run : Routine → Fun 𝓤) (𝓣 : Tables 𝓤 𝓛.H) (known : Triple 𝓤 (𝓣.C #ask) (Ask 𝓛 mem run)) where
    open 𝓛 use {H}

    hands_walks : Walks 𝓛 sharing.ended stayed (WpFn 𝓤 H 𝓣.C 𝓣.Λ (function k)) (clauses make 𝓤)
    hands_walks = walked 𝓛 sharing.ended stayed (clauses make 𝓤) (WpFn 𝓤 H 𝓣.C 𝓣.Λ (function k))
        (λ κs. (shr_slice_vals, (uint_vals w64, (uint_vals w64, (mut_slice_vals, tt))))) (λ κs. (shr_slice_Tells (named 0) κs.0 R.the_row, (uint_Tells w64, (uint_Tells w64, (mut_slice_Tells (named 1) κs.1.0 u16, tt)))))
        (λ κs qs bounds a g are. via 𝓤 _ (fst∗ 𝓤 _ (emp 𝓤)) (walk 𝓛 mem run κs.0 κs.1.0 qs.0 qs.1.0 a.0.ref_ptr.0 a.0.ref_ptr.1 a.0.now a.1.0 a.1.1.0 are.1.0.1 are.1.1.0.1
        a.1.1.1.0.ref_ptr.0 a.1.1.1.0.ref_ptr.1 a.1.1.1.0.ghost_name a.1.1.1.0.now 𝓣 known are.0 are.1.1.1.0))

    pub hands_meets : Meets 𝓛 sharing.signature (WpFn 𝓤 H 𝓣.C 𝓣.Λ (function k)) (closing 𝓛 sharing.ended (clauses make 𝓤))
    hands_meets = walk_Meets 𝓛 sharing.ended stayed
        (Goes-none_slice 𝓛 2 (0 ∷ []) tt (plain (λ _. R.the_row)) yes, (Goes-none 𝓛 2 (λ _. u64) yes (λ κs x f. refl), (Goes-none 𝓛 2 (λ _. u64) yes (λ κs x f. refl), (Goes-gave_slice 𝓛 2 1 tt (plain (λ _. u16)), tt))))
        (clauses make 𝓤) (WpFn 𝓤 H 𝓣.C 𝓣.Λ (function k)) (WpFn-mono 𝓤 H 𝓛.laws 𝓣 (function k)) hands_walks
