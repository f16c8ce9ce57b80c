-- 08, 09 and 0A in place: what the layer's function leaves is what the rules say. Assumes nothing.
use Prim.Native.Nat.{ℕ, ◌*◌, ◌<◌}
use native.Mathlib.Omega.{arith}
use mathlib.Core.Bool.{Bool}
use mathlib.Core.List.{List}
use mathlib.Core.Path.{◌≡◌, refl, sym, ap, ap₂, ◌∙◌}
use lib.ListN.{length, get_or, set}
use lib.Dec.{eqb}
use borrow.Author.Tests.{eq-eqb}
use Rattle.std.specs.Prelude.{Result, Ok, Err, is_ok}
use Rattle.capabilities.specs.Lists.{pick}
use Rattle.capabilities.specs.Refusals.{first, code, number_of}
use Rattle.capabilities.specs.declared.refusal.Refusal.{Refusal}
use Rattle.capabilities.proofs.Choice.{pick_yes}
use Rattle.capabilities.proofs.Refusals.{number_some}
use Rattle.pages.specs.declared.Frame.{Frame}
use Rattle.pages.specs.declared.VirtualPage.{VirtualPage}
use Rattle.pages.specs.Pages.{Pages}
use Rattle.pages.specs.declared.PageState.{PageState}
use Rattle.pages.specs.declared.PageState.TheVariants.{Freed, Mapped}
use Rattle.pages.specs.declared.FrameState.{FrameState}
use Rattle.pages.specs.declared.FrameState.TheVariants.{Dirty, Free, Mapped as Shown}
use Rattle.pages.specs.Entries.{frame_number}
use Rattle.pages.specs.Layer.{with_page, with_frame}
use Rattle.pages.specs.Mapping.{map_reasons, mapped, map_of, unmap_reasons, unmapped, unmap_of, dirty_reasons, zero_reasons, cleared}
use Rattle.pages.specs.Numbers.{page_from, page_code, frame_code, layer_of}
use Rattle.pages.proofs.Reading.{page_read}
use Rattle.pages.proofs.OnNumbers.{unmap_put, zero_reasons_lem}
use Rattle.claims.specs.Claims.{claimed}
use Rattle.claims.specs.Lent.{any_counts}
use Rattle.reservations.specs.Core.{Core, with_pages as corePages}
use Rattle.calls.specs.declared.Call.{Call}
use Rattle.calls.specs.declared.Call.TheVariants.{Map, Unmap, Zero}
use Rattle.words.specs.Words.{empty}
use Rattle.words.specs.WordReasons.{unnamed, not_manager}
use Rattle.machine.specs.Reasons.{reasons}
use Rattle.machine.specs.Effects.{effect, effect_of, keep_registers, keep_mailboxes, keep_memory, clear_frame}
use Rattle.machine.specs.Step.{done, with_core, reasons_on, effect_on, ruled}
use Rattle.machine.proofs.Ruled.{ruled_done, done_clear}
use Rattle.arrays.specs.declared.Arrays.{Arrays}
use Rattle.arrays.specs.Reading.{core_of, state_of, arrays_of, Formed}
use Rattle.arrays.specs.Steps.{answer, leaving, left_of, with_pages}
use Rattle.arrays.proofs.Writing.{put_both, write_frame}
use Rattle.arrays.proofs.Ruling.{wrote, down, cored}
use Rattle.calls_in_place.proofs.Early.{CheckedTwo, early, late}
use Rattle.calls_in_place.proofs.Claiming.{claimed_is}

module _ (b : Arrays) (f : Formed b) (p : ℕ) (cells tags : List ℕ) where
  abbrev s : Pages
  s = (state_of b).core.pages

  abbrev with_layer : Pages → Core
  with_layer n = corePages (state_of b).core n

  -- A manager's command: 4 and 5 before all others.
  abbrev Early : ℕ → Type 0
  Early k = CheckedTwo k (unnamed p) (not_manager p) 5

  pub map_early : (page : VirtualPage) (frame : Frame) (r : Refusal) → Early (number_of r)
      → leaving (answer (number_of r) empty) b cells tags ≡ left_of (ruled (state_of b) (Map p page frame) cells tags)
  unfolding reasons first
  map_early page frame r e = down b f (Map p page frame) cells tags (number_of r) (early (unnamed p) (not_manager p) 5 r _ e) (number_some r)

  pub unmap_early : (page : VirtualPage) (r : Refusal) → Early (number_of r)
      → leaving (answer (number_of r) empty) b cells tags ≡ left_of (ruled (state_of b) (Unmap p page) cells tags)
  unfolding reasons first
  unmap_early page r e = down b f (Unmap p page) cells tags (number_of r) (early (unnamed p) (not_manager p) 5 r _ e) (number_some r)

  pub zero_early : (frame : Frame) (r : Refusal) → Early (number_of r)
      → leaving (answer (number_of r) empty) b cells tags ≡ left_of (ruled (state_of b) (Zero p frame) cells tags)
  unfolding reasons first
  zero_early frame r e = down b f (Zero p frame) cells tags (number_of r) (early (unnamed p) (not_manager p) 5 r _ e) (number_some r)

  -- A call that changes pages and frames alone: refused, or its one page and one frame put.
  module _ (call : Call) (at on : ℕ) (x : PageState) (y : FrameState) where
    paged_left : (r : Result Unit Refusal) → code r ≡ first (reasons_on (state_of b) call cells tags)
        → (code r ≡ 0 → effect_on (state_of b) call cells tags ≡ effect_of (with_layer (with_frame (with_page s at x) on y)) keep_registers keep_mailboxes keep_memory empty)
        → (pages frames : List ℕ) → pages ≡ pick (is_ok r) (set b.pages at (page_code x)) b.pages → frames ≡ pick (is_ok r) (set b.frames on (frame_code y)) b.frames
        → leaving (answer (code r) empty) (with_pages b pages frames) cells tags ≡ left_of (ruled (state_of b) call cells tags)
    paged_left (Ok _) e g pages frames u w =
        ap₂ (λ (n m : List ℕ). leaving (answer 0 empty) (with_pages b n m) cells tags) u w
        ∙ cored b f call cells tags 0 e (with_layer (with_frame (with_page s at x) on y)) _ refl (g refl) (put_both b f.kept at on x y)
    paged_left (Err r) e g pages frames u w =
        ap₂ (λ (n m : List ℕ). leaving (answer (number_of r) empty) (with_pages b n m) cells tags) u w ∙ down b f call cells tags (number_of r) e (number_some r)

  module _ (passed : Early 0) where
    after_early : (k rest : ℕ) → k ≡ rest → k ≡ pick (unnamed p) 4 (pick (not_manager p) 5 rest)
    after_early k rest e = e ∙ late (unnamed p) (not_manager p) 5 (λ x. omega (arith, x)) rest passed

    module _ (v h : ℕ) (ev : b.nums.v ≡ v) (eh : b.nums.f ≡ h) (r : Result Unit Refusal) where
      layer_is : layer_of v h b.pages b.frames ≡ s
      unfolding state_of core_of
      layer_is = ap (λ n. layer_of n h b.pages b.frames) (sym ev) ∙ ap (λ n. layer_of b.nums.v n b.pages b.frames) (sym eh)

      module _ (page : VirtualPage) (frame : Frame) (e : code r ≡ first (map_reasons (layer_of v h b.pages b.frames) page frame)) where
        map_told : code r ≡ first (map_reasons s page frame)
        map_told = e ∙ ap (λ n. first (map_reasons n page frame)) layer_is

        map_code : code r ≡ first (reasons_on (state_of b) (Map p page frame) cells tags)
        unfolding reasons first
        map_code = after_early _ _ map_told

        map_effect : code r ≡ 0 → effect_on (state_of b) (Map p page frame) cells tags ≡ effect_of (with_layer (with_frame (with_page s page.0 (Mapped frame)) frame.0 Shown)) keep_registers keep_mailboxes keep_memory empty
        unfolding effect map_of mapped
        map_effect o =
            ap (λ n. effect_of (with_layer n) keep_registers keep_mailboxes keep_memory empty)
            (pick_yes (eqb (first (map_reasons s page frame)) 0) (mapped s page frame) s (eq-eqb (first (map_reasons s page frame)) 0 (sym map_told ∙ o)))

        pub map_left : (pages frames : List ℕ) → pages ≡ pick (is_ok r) (set b.pages page.0 (page_code (Mapped frame))) b.pages
            → frames ≡ pick (is_ok r) (set b.frames frame.0 (frame_code Shown)) b.frames
            → leaving (answer (code r) empty) (with_pages b pages frames) cells tags ≡ left_of (ruled (state_of b) (Map p page frame) cells tags)
        map_left = paged_left (Map p page frame) page.0 frame.0 (Mapped frame) Shown r map_code map_effect

      module _ (page : VirtualPage) (low : page.0 < 256) (told : Bool) (seen : told ≡ any_counts 32 b.counts page.0)
          (e : code r ≡ first (unmap_reasons (layer_of v h b.pages b.frames) page told)) where
        abbrev held : Bool
        held = claimed (state_of b).core.claims page.0

        unmap_told : code r ≡ first (unmap_reasons s page held)
        unmap_told = e ∙ ap (λ n. first (unmap_reasons n page told)) layer_is ∙ ap (λ t. first (unmap_reasons s page t)) (seen ∙ sym (claimed_is b f page.0 low))

        unmap_code : code r ≡ first (reasons_on (state_of b) (Unmap p page) cells tags)
        unfolding reasons first
        unmap_code = after_early _ _ unmap_told

        abbrev shown : ℕ
        shown = frame_number (page_from (get_or b.pages page.0 0))

        unmap_effect : code r ≡ 0 → effect_on (state_of b) (Unmap p page) cells tags ≡ effect_of (with_layer (with_frame (with_page s page.0 Freed) shown Dirty)) keep_registers keep_mailboxes keep_memory empty
        unfolding effect unmap_of state_of core_of
        unmap_effect o =
            let none : first (unmap_reasons s page held) ≡ 0 = sym unmap_told ∙ o in
            ap (λ n. effect_of (with_layer n) keep_registers keep_mailboxes keep_memory empty)
            (pick_yes (eqb (first (unmap_reasons s page held)) 0) (unmapped s page) s (eq-eqb (first (unmap_reasons s page held)) 0 none) ∙ unmap_put s page held none
            ∙ ap (λ (x : PageState). with_frame (with_page s page.0 Freed) (frame_number x) Dirty) (page_read b.nums.v b.nums.f b.pages b.frames page.0))

        pub unmap_left : (pages frames : List ℕ) → pages ≡ pick (is_ok r) (set b.pages page.0 (page_code Freed)) b.pages
            → frames ≡ pick (is_ok r) (set b.frames (frame_number (page_from (get_or b.pages page.0 0))) (frame_code Dirty)) b.frames
            → leaving (answer (code r) empty) (with_pages b pages frames) cells tags ≡ left_of (ruled (state_of b) (Unmap p page) cells tags)
        unmap_left = paged_left (Unmap p page) page.0 shown Freed Dirty r unmap_code unmap_effect

    -- 0A: the frame and its part of memory.
    module _ (h : ℕ) (eh : b.nums.f ≡ h) (lc : length cells ≡ 16 * h) (lt : length tags ≡ 16 * h) (frame : Frame) where
      abbrev call : Call
      call = Zero p frame

      zero_told : (k : ℕ) → k ≡ first (zero_reasons (layer_of b.nums.v h b.pages b.frames) frame (length cells) (length tags)) → k ≡ first (dirty_reasons s frame)
      unfolding state_of core_of
      zero_told k e =
          e ∙ zero_reasons_lem (layer_of b.nums.v h b.pages b.frames) frame (length cells) (length tags) lc lt
          ∙ ap (λ n. first (dirty_reasons (layer_of b.nums.v n b.pages b.frames) frame)) (sym eh)

      zero_code : (k : ℕ) → k ≡ first (zero_reasons (layer_of b.nums.v h b.pages b.frames) frame (length cells) (length tags)) → k ≡ first (reasons_on (state_of b) call cells tags)
      unfolding reasons first
      zero_code k e = after_early _ _ (zero_told k e)

      abbrev after : Core
      after = with_layer (with_frame s frame.0 Free)

      put_frame : with_pages b b.pages (set b.frames frame.0 (frame_code Free)) ≡ arrays_of (with_core (state_of b) after)
      put_frame = ap (λ a. with_pages a a.pages (set a.frames frame.0 (frame_code Free))) (sym f.kept) ∙ sym (write_frame (state_of b) frame.0 Free)

      zero_effect : effect_on (state_of b) call cells tags ≡ effect_of after keep_registers keep_mailboxes (clear_frame frame) empty
      unfolding effect
      zero_effect = refl

      pub zero_left : (r : Result Unit Refusal) → code r ≡ first (zero_reasons (layer_of b.nums.v h b.pages b.frames) frame (length cells) (length tags))
          → (frames cells' tags' : List ℕ) → frames ≡ pick (is_ok r) (set b.frames frame.0 (frame_code Free)) b.frames
          → cells' ≡ pick (is_ok r) (cleared frame cells) cells → tags' ≡ pick (is_ok r) (cleared frame tags) tags
          → leaving (answer (code r) empty) (with_pages b b.pages frames) cells' tags' ≡ left_of (ruled (state_of b) call cells tags)
      zero_left (Ok _) e frames cells' tags' u w x =
          ap (λ (n : List ℕ). leaving (answer 0 empty) (with_pages b b.pages n) cells' tags') u
          ∙ ap₂ (λ (n m : List ℕ). leaving (answer 0 empty) (with_pages b b.pages (set b.frames frame.0 (frame_code Free))) n m) w x
          ∙ wrote 0 empty (with_core (state_of b) after) _ (cleared frame cells) (cleared frame tags) put_frame
          ∙ ap left_of (ruled_done (state_of b) call cells tags 0 (zero_code 0 e) refl _ (done_clear (state_of b) after empty cells tags frame ∙ sym (ap (λ y. done (state_of b) y cells tags) zero_effect)))
      zero_left (Err r) e frames cells' tags' u w x =
          ap (λ (n : List ℕ). leaving (answer (number_of r) empty) (with_pages b b.pages n) cells' tags') u
          ∙ ap₂ (λ (n m : List ℕ). leaving (answer (number_of r) empty) (with_pages b b.pages b.frames) n m) w x
          ∙ down b f call cells tags (number_of r) (zero_code _ e) (number_some r)
