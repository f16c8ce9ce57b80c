-- `lines::put_tag` meets its contract. Three stores.
use mathlib.Core.Path.{◌∙◌}
use Rattle.capabilities.proofs.Choice.{byte_pick}
use Rattle.lines.proofs.Laying.{laid_tag}
use Rattle.lines.proofs.put_tag.Goals as goal

pub returns : goal.returns
returns c = laid_tag c.args.tag _ c.args.at c.args.out.now (c.from.ensures ∙ byte_pick c.args.tag) c.requires
