-- The calls of `survey`, `judge_with` and `answer_with`, as `ask` and `nearest` make them: the contract that is cited, what the call is passed,
-- that what it asks is had, and what it says of its result.
use mathlib.Core.Path.{◌≡◌, refl}
use Prim.Native.Nat.{ℕ, ◌<◌, ◌^◌}
use mathlib.Core.List.{List, [], ◌∷◌}
use seplogic.Ra.Ura.{Ura}
use mir.Syntax.{Dict, named, w64}
use mir.Val.{Val, vint}
use base.Fraction.{left, right}
use base.Logic.{SProp, ent, sep, emp, via, mono_l, mono_r, emp∗, comm∗, snd∗, ex_e}
use base.Fml.{Lft, Share, Fml, ftrue, flft}
use prog.Memory.{Memory}
use prog.Routine.{Routine}
use types.Logic.{Logic, sem}
use contract.Monad.{Fun, fact, fact_i}
use types.Kit.{Item, mean, ◌⊛◌, ‵, ◌$◌, ◌∵◌, !, qed, move, join, fjoin, frame, done}
use denote.Laws.{Is}
use denote.Plain.{uint_Makes}
use denote.Builtin.{u32, usize}
use denote.RattleType.{RattleType}
use denote.Param.{param}
use contract.BorrowLft.{◌⊑◌, ⊑_refl}
use denote.Ref.{Bor}
use denote.Slice.{shr_slice_vals, ShrSlice}
use denote.Steps.{owned, nothing}
use denote.Struct.Laws as LL
use denote.Struct.Laws.{u32-plain}
use denote.Enum.Laws as EL
use denote.Triple.Statement.{Contract}
use denote.Triple.Spec.{triple_of}
use denote.Triple.Clauses.{ensured, lasts}
use denote.Triple.Entry.{on_entry}
use Rattle.maps.specs.declared.Question.{Question}
use Rattle.maps.specs.declared.Seen.{Seen}
use Rattle.maps.specs.declared.Found.{Found}
use Rattle.maps.specs.declared.walk.Record.{Ghosts}
use Rattle.std.specs.Prelude.{Option, Result, ⊤, map}
use Rattle.capabilities.specs.declared.refusal.Refusal.{Refusal}
use Rattle.std.specs.contracts.option.Option as O
use Rattle.std.proofs.option.Option.TheLaws as O'
use Rattle.maps.specs.Walks.{seen_over, nothing as none_seen, judge_with, answer_with}
use Rattle.maps.specs.contracts.Question as Q
use Rattle.maps.proofs.Question.TheLaws as Q'
use Rattle.maps.specs.contracts.Seen as E
use Rattle.maps.proofs.Seen.TheLaws as E'
use Rattle.maps.specs.contracts.walk.survey as survey
use Rattle.maps.specs.contracts.steps.judge_with as judge-with
use Rattle.maps.specs.contracts.steps.answer_with as answer-with

module _ {M : Type 1} {𝓤 : Ura M} (𝓛 : Logic 𝓤) (mem : Memory → SProp 𝓤) (run : Routine → Fun 𝓤) where
  -- whatever the records lie as
  abbrev pub Survey : (R : RattleType) → Ghosts R.Denot → Dict → Contract 𝓤
  Survey R G d = triple_of 𝓛 (survey.signature R) (survey.spec R G d 𝓛 mem run)

  abbrev pub JudgeWith : Contract 𝓤
  JudgeWith = triple_of 𝓛 judge-with.signature (judge-with.spec 𝓛 mem run)

  abbrev pub AnswerWith : Contract 𝓤
  AnswerWith = triple_of 𝓛 answer-with.signature (answer-with.spec 𝓛 mem run)

-- a question, and its machine value
abbrev pub question_val : Question → Val
question_val = EL.val Q.the_type Q'.the_laws

module _ {M : Type 1} {𝓤 : Ura M} (𝓛 : Logic 𝓤) (mem : Memory → SProp 𝓤) (run : Routine → Fun 𝓤) (qn : Question) where
  open 𝓛 use {A}

  -- the records, and the lifetime that their type is known to outlive
  module _ (R : RattleType) (G : Ghosts R.Denot) (d : Dict) (κ κ' : Lft) (q q' : Share) (x : Bor (List R.Denot)) (out : κ ⊑ κ') (lives : κ' ⊑ R.lives) where
    abbrev Own : Fml
    Own = (ShrSlice (named 0) κ (param 0 R)).own_val x (shr_slice_vals x)

    abbrev pub to_survey : (Survey 𝓛 mem run R G d).Ghost
    to_survey = (((κ, (κ', tt)), (q, (q', tt)), (out, tt), (x, (qn, tt)), (shr_slice_vals x, (question_val qn ∷ [], tt))), tt)

    abbrev Tokens : Item 𝓤
    Tokens = ‵ (flft κ q) ⊛ ‵ (flft κ' q') ⊛ ‵ ftrue

    pub asks_survey : Is Q.the_row qn (question_val qn ∷ []) → ent 𝓤 (sep 𝓤 (mean 𝓛 Tokens) (sem 𝓛 Own)) ((Survey 𝓛 mem run R G d).pre to_survey)
    asks_survey isq = via 𝓤 (sep 𝓤 entry (emp 𝓤)) had (mono_r 𝓤 entry (via 𝓤 (sep 𝓤 (emp 𝓤) (emp 𝓤)) (emp∗ 𝓤 (emp 𝓤)) (mono_l 𝓤 (emp 𝓤) (fact_i 𝓤 (κ' ⊑ R.lives) (emp 𝓤) lives))))
      where
        entry : SProp 𝓤
        entry = on_entry 𝓛 (survey.signature R) (κ, (κ', tt)) (q, (q', tt)) (x, (qn, tt)) (shr_slice_vals x, (question_val qn ∷ [], tt))

        had : ent 𝓤 (sep 𝓤 (mean 𝓛 Tokens) (sem 𝓛 Own)) (sep 𝓤 entry (emp 𝓤))
        had =
            qed 𝓛 (Tokens ∷ ‵ Own ∷ []) ∵ nothing ! $ owned ! Q.the_row (Is Q.the_row) (EL.makes Q.the_type Q'.the_plain 𝓛) qn _ isq $ fjoin ! $ move ! (2 ∷ 0 ∷ []) $ fjoin ! $
            move ! (1 ∷ 0 ∷ []) $ join ! $ frame ! $ done !

    abbrev pub Surveyed : Seen → SProp 𝓤
    Surveyed s = ensured 𝓛 (survey.ended R G d) (survey.clauses R G d 𝓛 mem run) (κ, (κ', tt)) (x, (qn, tt)) tt s

    pub survey_said : (s : Seen) → ent 𝓤 (Surveyed s) (fact 𝓤 (s ≡ seen_over qn none_seen (map G.reads x.now)))
    survey_said s = ex_e 𝓤 _ (λ ws. snd∗ 𝓤 (sem 𝓛 (lasts (survey.ended R G d) (κ, (κ', tt)) (x, (qn, tt)) ws)) (fact 𝓤 (s ≡ seen_over qn none_seen (map G.reads x.now))))

  -- of records that outlive the slice's own lifetime, its token alone: in two parts
  module _ (R : RattleType) (G : Ghosts R.Denot) (d : Dict) (κ : Lft) (q : Share) (x : Bor (List R.Denot)) (lives : κ ⊑ R.lives) where
    abbrev Lent : SProp 𝓤
    Lent = sem 𝓛 ((ShrSlice (named 0) κ (param 0 R)).own_val x (shr_slice_vals x))

    pub asks_survey_once : Is Q.the_row qn (question_val qn ∷ [])
        → ent 𝓤 (sep 𝓤 (A.lft κ q) Lent) ((Survey 𝓛 mem run R G d).pre (to_survey R G d κ κ (left q) (right q) x (⊑_refl κ) lives))
    asks_survey_once isq =
        via 𝓤 (sep 𝓤 (mean 𝓛 (‵ (flft κ (left q)) ⊛ ‵ (flft κ (right q)) ⊛ ‵ ftrue)) Lent)
        (mono_l 𝓤 Lent (via 𝓤 (sep 𝓤 (A.lft κ (left q)) (A.lft κ (right q))) (𝓛.lfts.lft_split κ q)
        (mono_r 𝓤 (A.lft κ (left q)) (via 𝓤 (sep 𝓤 (emp 𝓤) (A.lft κ (right q))) (emp∗ 𝓤 (A.lft κ (right q))) (comm∗ 𝓤 (emp 𝓤) (A.lft κ (right q)))))))
        (asks_survey R G d κ κ (left q) (right q) x (⊑_refl κ) lives isq)

  -- where the records end, how many they are, and a slice for the list of m
  module _ (end : Option ℕ) (n m : ℕ) (u : Val) where
    abbrev pub to_judge : (JudgeWith 𝓛 mem run).Ghost
    to_judge = ((tt, tt, tt, (qn, (end, (n, (m, tt)))), (question_val qn ∷ [], (u ∷ [], (vint w64 n ∷ [], (vint w64 m ∷ [], tt))))), tt)

    pub asks_judge : Is Q.the_row qn (question_val qn ∷ []) → n < 2 ^ 64 → m < 2 ^ 64 → Is (O.the_row u32) end (u ∷ []) → ent 𝓤 (emp 𝓤) ((JudgeWith 𝓛 mem run).pre to_judge)
    asks_judge isq gn gm is =
        qed 𝓛 [] ∵ nothing ! $ owned ! usize (Is usize) (uint_Makes 𝓛 w64) m _ (refl, gm) $ fjoin ! $ owned ! usize (Is usize) (uint_Makes 𝓛 w64) n _ (refl, gn) $ fjoin ! $
        owned ! (O.the_row u32) (Is (O.the_row u32)) (EL.makes (O.the_type u32) (O'.the_plain u32 u32-plain) 𝓛) end _ is $ fjoin ! $ owned ! Q.the_row (Is Q.the_row) (EL.makes Q.the_type Q'.the_plain 𝓛) qn _ isq $ fjoin ! $ nothing ! $ join ! $ frame ! $ done !

    abbrev pub Judging : Result ⊤ Refusal → SProp 𝓤
    Judging j = ensured 𝓛 judge-with.ended (judge-with.clauses 𝓛 mem run) tt (qn, (end, (n, (m, tt)))) tt j

    pub judge_said : (j : Result ⊤ Refusal) → ent 𝓤 (Judging j) (fact 𝓤 (j ≡ judge_with qn end n m))
    judge_said j = ex_e 𝓤 _ (λ ws. snd∗ 𝓤 (sem 𝓛 (lasts judge-with.ended tt (qn, (end, (n, (m, tt)))) ws)) (fact 𝓤 (j ≡ judge_with qn end n m)))

module _ {M : Type 1} {𝓤 : Ura M} (𝓛 : Logic 𝓤) (mem : Memory → SProp 𝓤) (run : Routine → Fun 𝓤) (s : Seen) (u : Val) (c : ℕ) where
  abbrev pub to_answer : (AnswerWith 𝓛 mem run).Ghost
  to_answer = ((tt, tt, tt, (s, (c, tt)), (u ∷ [], (vint w64 c ∷ [], tt))), tt)

  pub asks_answer : Is E.the_row s (u ∷ []) → c < 2 ^ 64 → ent 𝓤 (emp 𝓤) ((AnswerWith 𝓛 mem run).pre to_answer)
  asks_answer is gc =
      qed 𝓛 [] ∵ nothing ! $ owned ! usize (Is usize) (uint_Makes 𝓛 w64) c _ (refl, gc) $ fjoin ! $ owned ! E.the_row (Is E.the_row) (LL.makes E.the_type E'.the_plain 𝓛) s _ is $ fjoin ! $
      nothing ! $ join ! $ frame ! $ done !

  abbrev pub Answering : Found → SProp 𝓤
  Answering a = ensured 𝓛 answer-with.ended (answer-with.clauses 𝓛 mem run) tt (s, (c, tt)) tt a

  pub answer_said : (a : Found) → ent 𝓤 (Answering a) (fact 𝓤 (a ≡ answer_with s c))
  answer_said a = ex_e 𝓤 _ (λ ws. snd∗ 𝓤 (sem 𝓛 (lasts answer-with.ended tt (s, (c, tt)) ws)) (fact 𝓤 (a ≡ answer_with s c)))
