-- Command 06 over lent memory. Assumes nothing.
use Rattle.std.specs.Prelude.{ℕ, ◌+◌, ◌-◌, ◌*◌, ◌/◌, min, Bool, ◌&&◌, List, length, get_or, leb, ltb, Result, Ok, Err}
use Rattle.capabilities.specs.declared.Range.{Range}
use Rattle.capabilities.specs.declared.refusal.Refusal.{Refusal}
use Rattle.capabilities.specs.Refusals.{number_of}
use Rattle.capabilities.specs.Death.{dies}
use Rattle.capabilities.specs.Lists.{pick, map_each}
use Rattle.pages.specs.Pages.{Pages}
use Rattle.pages.specs.Pages.{FrameEntry}
use Rattle.pages.specs.declared.FrameState.TheVariants.{Dirty}
use Rattle.pages.specs.Entries.{is_shown, frame_entry}
use Rattle.pages.specs.Layer.{serves}
use Rattle.sweep.specs.declared.Swept.{Swept}

-- "Passes the next n cells of lent memory, or as many as are left."
unfoldable pub passed : Pages → ℕ → ℕ → ℕ
passed s place n = min n (16 * s.f - place)

-- The place that a sweep of n cells reaches, and the cells left from a place on.
abbrev pub reached : Pages → ℕ → ℕ → ℕ
reached s place n = place + passed s place n

abbrev pub cells_left : Pages → ℕ → ℕ
cells_left s place = 16 * s.f - place

abbrev pub shown_at : List FrameEntry → ℕ → Bool
shown_at frames k = is_shown (get_or frames k (frame_entry Dirty)).state

-- "In a Mapped frame, a tag is cleared where the capability's base lies in the revoked range .. Cells of other
-- frames are passed untouched." Of cell i, whose tag is t, once the cells from one place up to another are passed.
unfoldable pub swept_tag : List FrameEntry → Range → ℕ → ℕ → List ℕ → ℕ → ℕ → ℕ
swept_tag frames r from upto cells i t =
    pick ((leb from i && ltb i upto) && (shown_at frames (i / 16) && dies r (get_or cells i 0))) 0 t

unfoldable pub swept_tags : List FrameEntry → Range → ℕ → ℕ → List ℕ → List ℕ → List ℕ
swept_tags frames r from upto cells tags = map_each (swept_tag frames r from upto cells) 0 tags

-- What a sweep answers: 0 or the refusal's number, the cells left and the place reached.
pub record Answer : Type 0 where
  pub code : ℕ
  pub left : ℕ
  pub place : ℕ

-- The same, together with the tags after it.
pub record Passed : Type 0 where
  pub answer : Answer
  pub tags : List ℕ

abbrev pub swept : ℕ → ℕ → ℕ → Answer
swept code left place = record { code = code; left = left; place = place }

abbrev pub passing : Answer → List ℕ → Passed
passing answer tags = record { answer = answer; tags = tags }

-- The answer that a result says; refused, no cells are left and the place is as it was.
abbrev pub answered : Result Swept Refusal → ℕ → Answer
answered (Ok s) place = swept 0 s.left s.place
answered (Err refusal) place = swept (number_of refusal) 0 place

-- The place that a granted sweep of n cells reaches; and it "answers the cells left".
abbrev pub swept_from : Pages → ℕ → ℕ → Answer
swept_from s place n = swept 0 (cells_left s (reached s place n)) (reached s place n)

-- The sweep over lent memory, of which one of another size is refusal 2.
unfoldable pub sweep_of : Pages → Range → ℕ → ℕ → List ℕ → List ℕ → Passed
sweep_of s r place n cells tags =
    let a = swept_from s place n in
    pick (serves s (length cells) (length tags)) (passing a (swept_tags s.frames r place a.place cells tags)) (passing (swept 2 0 place) tags)
