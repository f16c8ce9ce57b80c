-- `pages::sound::frame_counted` meets its contract: a flag as a number.
use Rattle.capabilities.proofs.Choice.{byte_pick}
use Rattle.pages.specs.Numbers.{frame_code}
use Rattle.pages.proofs.sound.frame_counted.Goals as goal

pub returns : goal.returns
unfolding frame_code
returns c = rw (byte_pick, c.number-mapped.ensures)
