-- Reading entry by entry commutes with what moves entries: laws of lists, passed on. Assumes nothing.
pub use Rattle.capabilities.proofs.Lists.{map_append, map_take, map_drop, map_set}
