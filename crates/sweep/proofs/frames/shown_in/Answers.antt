-- `sweep::frames::shown_in`: past the array's end the frame counts as an unused one, which is not Mapped.
use Rattle.std.proofs.Common.{◌≡◌, refl, sym, ap, ◌∙◌}
use lib.ListN.{get_or-map}
use denote.Enum.Bare.{sameb}
use Rattle.pages.specs.contracts.FrameState.{the_type}
use Rattle.pages.specs.declared.FrameState.{FrameState}
use Rattle.pages.specs.declared.FrameState.TheVariants.{Dirty, Free, Mapped}
use Rattle.pages.specs.Pages.{FrameEntry}
use Rattle.pages.specs.Entries.{is_shown}
use Rattle.pages.specs.Numbers.{frame_from, frame_in}
use Rattle.sweep.proofs.frames.shown_in.Goals as goal

same_shown : (s : FrameState) → sameb the_type s Mapped ≡ is_shown s
same_shown Dirty = refl
same_shown Free = refl
same_shown Mapped = refl

pub returns : goal.returns
unfolding frame_from
returns c =
    c.eq.ensures ∙ same_shown c.from.result ∙ ap is_shown (c.from.ensures ∙ ap frame_from c.at_or.ensures)
    ∙ sym (ap (λ (e : FrameEntry). is_shown e.state) (get_or-map frame_in c.args.frames.now c.args.frame 0))
