-- Every theorem of histories is one of the library. Assumes nothing.
use mathlib.Core.Path.{refl}
use Rattle.histories.specs.Runs.{Reached}
use Rattle.histories.proofs.Lending.{lent_once, lent_by_capability}
use Rattle.histories.proofs.Crossing.{mapped_is_zero}
use Rattle.histories.proofs.Cleaning.{cleaned_between}
use Rattle.histories.proofs.Survivors.{no_survivor}
use Rattle.histories.proofs.Later.{no_survivor_until_taken}
use Rattle.histories.proofs.Losing.{always_tiled}
use Rattle.histories.proofs.Restoring.{nothing_lost}
use Rattle.refinement.specs.Uses.{exported, begins, calls_of, served_all}
use Rattle.refinement.specs.Bytes.{machine_in}
use Rattle.refinement.specs.Checklist.{FromHistories, LibraryLentOnce, LibraryLentByCapability, LibraryMappedIsZero, LibraryCleanedBetween, LibraryNoSurvivor, LibraryNoSurvivorUntilTaken, LibraryTiled, LibraryNothingLost}
use Rattle.refinement.proofs.Bytes.{start_begins, bytes_reach}

pub from_histories : FromHistories
from_histories P theorem v f l cells tags s uses =
    let r : Reached (machine_in (served_all exported (begins v f l cells tags) uses)) =
    record { v = v; f = f; cells = cells; tags = tags; begins = start_begins v f l cells tags s; calls = calls_of uses; is = bytes_reach v f l cells tags s uses } in
    record { reached = r; of_v = refl; of_f = refl; by = refl; holds = theorem _ r }

pub library_lent_once : LibraryLentOnce
library_lent_once = from_histories _ (λ m r. lent_once m r)

pub library_lent_by_capability : LibraryLentByCapability
library_lent_by_capability = from_histories _ (λ m r. lent_by_capability m r)

pub library_mapped_is_zero : LibraryMappedIsZero
library_mapped_is_zero = from_histories _ (λ m r. mapped_is_zero m r)

pub library_cleaned_between : LibraryCleanedBetween
library_cleaned_between = from_histories _ (λ m r. cleaned_between m r)

pub library_no_survivor : LibraryNoSurvivor
library_no_survivor = from_histories _ (λ m r. no_survivor m r)

pub library_no_survivor_until_taken : LibraryNoSurvivorUntilTaken
library_no_survivor_until_taken = from_histories _ (λ m r. no_survivor_until_taken m r)

pub library_tiled : LibraryTiled
library_tiled = from_histories _ (λ m r. always_tiled m r)

pub library_nothing_lost : LibraryNothingLost
library_nothing_lost = from_histories _ (λ m r. nothing_lost m r)
