-- Every definition that the start and the step compute with, named once. A proof by computing says `unfolding computing` and
-- names only its own definitions besides: to unfold a definition is to unfold what its own line names. Assumes nothing.
use Prim.Native.Nat.{ℕ}
use Rattle.capabilities.specs.Lists.{each, map_each}
use Rattle.capabilities.specs.Death.{dies}
use Rattle.capabilities.specs.Range.{inside}
use Rattle.capabilities.specs.Refusals.{first}
use Rattle.pages.specs.Freed.{freed_in, all_freed}
use Rattle.pages.specs.Layer.{page_at, frame_at, with_page, with_frame, fresh_of, mappings, page_sound, frame_sound, well_formed as layerFormed}
use Rattle.pages.specs.Mapping.{map_reasons, mapped, map_of, unmap_reasons, soiled, unmapped, unmap_of, dirty_reasons, cleared, lookup_of, not_mapped_in, any_mapped, freed_entry, freed_of, released_entry, released_of}
use Rattle.sweep.specs.Sweep.{passed, swept_tag, swept_tags, sweep_of}
use Rattle.table.specs.Find.{seek, find_of, next_of, revoking_of, row_of, with_row}
use Rattle.table.specs.Operations.{open_reasons, take_reasons, take_of, split_reasons_at, split_reasons, split_at, split_of, mergeable, merge_reasons_at, merge_reasons, merge_at, merge_of, give_reasons, give_of}
use Rattle.table.specs.Rows.{live, splice, spread, gather}
use Rattle.table.specs.Tiling.{tiles, all_blank, revokings, sized, takers_sound, table_sound, fresh_table}
use Rattle.claims.specs.Claims.{principal_at, counts_of, above, sum, any_above, with_principal, with_counts}
use Rattle.claims.specs.Tree.{leads_within}
use Rattle.claims.specs.Operations.{create_reasons, create_of, claim_reasons, claim_of, release_reasons, release_of, destroy_reasons, returned, destroy_of}
use Rattle.claims.specs.Sound.{principal_sound, counts_sound, claims_sound, fresh_claims}
use Rattle.reservations.specs.Revocation.{fresh_core, running, revoked, dying, revoke_reasons_at, revoke_reasons, revoke_at, revoke_of, collect_reasons, collected, collect_of, revocation_sound, core_sound}
use Rattle.words.specs.Words.{register_of, mailbox_of, word_at}
use Rattle.machine.specs.Formed.{mailboxes_sound, formed_bare, well_formed, fresh, start_of}
use Rattle.machine.specs.Reasons.{addressed, found, reasons}
use Rattle.machine.specs.Effects.{effect}
use Rattle.machine.specs.Step.{registers_after, mailboxes_after, written_cells, written_tags, cells_after, tags_after, done, ruled, judged, step_of, with_core}

unfoldable pub computing : ℕ
unfolding each map_each inside dies first freed_in all_freed page_at frame_at with_page with_frame fresh_of mappings page_sound frame_sound layerFormed map_reasons mapped map_of unmap_reasons soiled unmapped unmap_of dirty_reasons cleared lookup_of not_mapped_in any_mapped freed_entry freed_of released_entry released_of passed swept_tag swept_tags sweep_of seek find_of next_of revoking_of row_of with_row open_reasons take_reasons take_of split_reasons_at split_reasons split_at split_of mergeable merge_reasons_at merge_reasons merge_at merge_of give_reasons give_of live splice spread gather tiles all_blank revokings sized takers_sound table_sound fresh_table fresh_core running revoked dying revoke_reasons_at revoke_reasons revoke_at revoke_of collect_reasons collected collect_of revocation_sound core_sound principal_at counts_of above sum any_above with_principal with_counts leads_within create_reasons create_of claim_reasons claim_of release_reasons release_of destroy_reasons returned destroy_of principal_sound counts_sound claims_sound fresh_claims register_of mailbox_of word_at mailboxes_sound formed_bare well_formed fresh start_of addressed found reasons effect registers_after mailboxes_after written_cells written_tags cells_after tags_after done ruled judged step_of with_core
computing = 0
