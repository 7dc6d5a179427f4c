-- The order of costs under the names by which crates above import it: the lemmas stand in `network`. Assumes nothing.
pub use Rattle.network.proofs.Order.{le_trans}
