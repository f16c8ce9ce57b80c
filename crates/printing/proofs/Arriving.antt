-- The session's loop on arrays: how far it has come, what one turn adds, and the arrays that it begins with. Assumes nothing.
use Prim.Native.Nat.{ℕ, ◌+◌, ◌*◌, ◌≤◌, ◌<◌}
use native.Mathlib.Omega.{arith}
use mathlib.Core.Bool.{Bool, true, false, ◌&&◌}
use mathlib.Core.List.{List}
use mathlib.Core.Path.{◌≡◌, sym, ap, subst, ◌∙◌}
use lib.ListN.{length, take, set, replicate, length-replicate}
use lib.Dec.{ltb, leb}
use borrow.Author.Tests.{leb-true}
use Rattle.capabilities.specs.Lists.{pick}
use Rattle.capabilities.proofs.Choice.{and_right}
use Rattle.pages.specs.Layer.{in_range}
use Rattle.machine.specs.Formed.{well_formed, fresh, start_of}
use Rattle.machine.specs.Command.{ran, command_of}
use Rattle.machine.proofs.Keeps.{start_formed}
use Rattle.arrays.specs.declared.Arrays.{Arrays}
use Rattle.arrays.specs.declared.Answer.{Answer}
use Rattle.arrays.specs.Reading.{state_of, arrays_of, Formed}
use Rattle.arrays.specs.Steps.{leaving}
use Rattle.arrays.proofs.RoundTrip.{state_back_again, written_formed}
use Rattle.arrays.proofs.Starting.{begun, first_number, root_number, fresh_in}
use Rattle.lines.specs.Laid.{Laid, laid_in}
use Rattle.lines.specs.Lines.{line_of}
use Rattle.lines.proofs.Laying.{laid_in_lem}
use Rattle.session_rules.specs.Session.{ends_session, zeroed, lines_from}
use Rattle.session_rules.proofs.Sessions as sessions
use Rattle.session_rules.proofs.Sessions.{Going, going_none, going_all, goes_on_lem, take_zeroed}
use Rattle.step.specs.Entries.{ran_on, command_judged_on}
use Rattle.step.proofs.Running.{commanded, ran_formed, ran_on_lem, ran_sized}

-- How far a session on arrays has come.
pub record Arriving (input : List ℕ) (a₀ : Arrays) (cells₀ tags₀ out₀ : List ℕ) (begin : ℕ) (a : Arrays) (cells tags out : List ℕ) (at end : ℕ) : Type 0 where
  pub formed : Formed a
  pub fits : (length cells ≡ 16 * a.nums.f) × (length tags ≡ 16 * a.nums.f)
  pub going : Going input (state_of a₀) cells₀ tags₀ out₀ begin cells tags out (state_of a) at end

pub arriving : (input : List ℕ) (a : Arrays) (cells tags out : List ℕ) (begin : ℕ) → Formed a → (length cells ≡ 16 * a.nums.f) × (length tags ≡ 16 * a.nums.f)
    → 3 ≤ length input → begin ≤ 26 → Arriving input a cells tags out begin a cells tags out 3 begin
arriving input a cells tags out begin f m h b =
    record { formed = f; fits = m; going = going_none input (state_of a) cells tags out begin f.well h b }

module _ {input : List ℕ} {a₀ : Arrays} {cells₀ tags₀ out₀ : List ℕ} {begin : ℕ} {a : Arrays} {cells tags out : List ℕ} {at end : ℕ}
    (v : Arriving input a₀ cells₀ tags₀ out₀ begin a cells tags out at end) where
  abbrev g : Going input (state_of a₀) cells₀ tags₀ out₀ begin cells tags out (state_of a) at end
  g = v.going

  pub arrived : length input ≤ at → Laid (lines_from (length input) (state_of a₀) input 3 cells₀ tags₀) begin out₀ end out × (end ≤ 13 * length input)
  arrived h = (going_all input (state_of a₀) cells₀ tags₀ out₀ begin cells tags out (state_of a) at end g h, omega (arith, g.room, g.within))

  pub near : length input ≤ 32768 → end < 4294967296
  near h = omega (arith, g.room, g.within)

  -- One turn of the loop.
  module _ (more : at < length input) {r : Answer} {a' : Arrays} {cells' tags' : List ℕ} {n : ℕ}
      (e : ran_on (leaving r a' cells' tags') n ≡ command_judged_on a input at cells tags)
      {end₁ : ℕ} {out₁ : List ℕ} (ends : end₁ ≡ end + length (line_of r.code r.number r.tag))
      (lies : out₁ ≡ laid_in (line_of r.code r.number r.tag) end out) (short : r.code < 100 → end₁ ≤ end + 26) where
    put : Laid (line_of r.code r.number r.tag) end out end₁ out₁
    put = laid_in_lem (line_of r.code r.number r.tag) end end₁ out ends lies

    abbrev on : ran (commanded r a' n) cells' tags' ≡ command_of (state_of a) input at cells tags
    on = ran_on_lem a v.formed input at cells tags r a' cells' tags' n e

    pub turn_stopped : ends_session r.code ≡ true → Laid (lines_from (length input) (state_of a₀) input 3 cells₀ tags₀) begin out₀ end₁ out₁ × (end₁ ≤ 13 * length input)
    turn_stopped z = (
      sessions.stopped input (state_of a₀) cells₀ tags₀ out₀ begin cells tags out (state_of a) at end g more (commanded r a' n) cells' tags' on end₁ out₁ put short z,
      sessions.bounded input (state_of a₀) cells₀ tags₀ out₀ begin cells tags out (state_of a) at end g more (commanded r a' n) cells' tags' on end₁ out₁ put short,
    )

    pub turn_within : at + n ≤ length input
    turn_within = sessions.used_within input (state_of a₀) cells₀ tags₀ out₀ begin cells tags out (state_of a) at end g more (commanded r a' n) cells' tags' on end₁ out₁ put short

    pub turn_some : ends_session r.code ≡ false → 2 ≤ n
    turn_some z = sessions.used_some input (state_of a₀) cells₀ tags₀ out₀ begin cells tags out (state_of a) at end g more (commanded r a' n) cells' tags' on end₁ out₁ put short z

    cells_same : length cells' ≡ length cells
    cells_same = sessions.cells_kept input (state_of a₀) cells₀ tags₀ out₀ begin cells tags out (state_of a) at end g more (commanded r a' n) cells' tags' on end₁ out₁ put short

    tags_same : length tags' ≡ length tags
    tags_same = sessions.tags_kept input (state_of a₀) cells₀ tags₀ out₀ begin cells tags out (state_of a) at end g more (commanded r a' n) cells' tags' on end₁ out₁ put short

    abbrev f_same : a'.nums.f ≡ a.nums.f
    f_same = ran_sized a v.formed input at cells tags r a' cells' tags' n e

    pub turn_on : ends_session r.code ≡ false → Arriving input a₀ cells₀ tags₀ out₀ begin a' cells' tags' out₁ (at + n) end₁
    turn_on z = record {
      formed = ran_formed a v.formed input at cells tags r a' cells' tags' n e;
      fits = (cells_same ∙ v.fits.0 ∙ ap (λ (x : ℕ). 16 * x) (sym f_same), tags_same ∙ v.fits.1 ∙ ap (λ (x : ℕ). 16 * x) (sym f_same));
      going = goes_on_lem input (state_of a₀) cells₀ tags₀ out₀ begin cells tags out (state_of a) at end g more (commanded r a' n) cells' tags' on end₁ out₁ put short z;
    }

-- The arrays that a fresh state begins with.
module _ (v f : ℕ) (e : in_range v f ≡ true) where
  fresh_well : well_formed (fresh v f) ≡ true
  unfolding start_of
  fresh_well = start_formed v f (ap (λ (b : Bool). pick b 0 1) e)

  pub frames_most : 16 * f ≤ 2048
  frames_most = let small : f ≤ 128 = leb-true f 128 (and_right (ltb 0 f) (leb f 128) (and_right (ltb 0 v && leb v 256) (ltb 0 f && leb f 128) e)) in omega (arith, small)

  pub lent_zeroed : take {A = ℕ} (16 * f) (replicate 2048 0) ≡ zeroed f
  lent_zeroed = take_zeroed (16 * f) 2048 frames_most

  pub lent_long : length (take {A = ℕ} (16 * f) (replicate 2048 0)) ≡ 16 * f
  lent_long = ap length lent_zeroed ∙ length-replicate (16 * f) 0

  module _ (a : Arrays) (opens : a ≡ begun v f 1 (set (replicate 64 0) 0 (first_number v)) (set (replicate 32 0) 0 root_number)) where
    written : a ≡ arrays_of (fresh v f)
    written = opens ∙ sym (fresh_in v f e)

    pub begun_formed : Formed a
    begun_formed = subst Formed (sym written) (written_formed (fresh v f) fresh_well)

    pub begun_frames : a.nums.f ≡ f
    begun_frames = ap (λ (x : Arrays). x.nums.f) opens

    pub begun_state : state_of a ≡ fresh v f
    begun_state = ap state_of written ∙ state_back_again (fresh v f) fresh_well
