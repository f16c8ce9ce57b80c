-- `maps::walk::survey` meets its contract: each part is walked by itself (maps:Turning.seen_parts).
use Rattle.std.proofs.Common.{map, sym, ap, ◌∙◌}
use Rattle.maps.specs.declared.Question.TheVariants.{Nearest}
use Rattle.maps.specs.Walks.{seen, nothing, seen_over}
use Rattle.maps.proofs.Turning.{seen_parts, no_nearest, list_parts}
use Rattle.maps.proofs.walk.survey.Goals as goal

pub returns-in-Nearest : goal.returns-in-Nearest
returns-in-Nearest g c =
    let found = c.in-Nearest in
    let records = map g.R.Record.reads c.args.records.now in
    (λ j. seen (c.ends.ensures j) (c.nearest.ensures j)) ∙ sym (seen_parts (Nearest found.cell found.cells) nothing records) ∙ ap (λ q. seen_over q nothing records) (sym found.is)

pub returns-in-Sharing : goal.returns-in-Sharing
returns-in-Sharing g c =
    let q = c.args.question in list_parts q (map g.R.Record.reads c.args.records.now) c.ends.result (no_nearest q c.in-Sharing.is) c.ends.ensures
