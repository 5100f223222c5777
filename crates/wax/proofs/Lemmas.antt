-- Lemmas for the proofs of callers.
pub use Rattle.wax_exclude.proofs.Unslashed.{unslashed}
pub use Rattle.wax_fold.proofs.Picking.{all_picked}
