-- How a walk that was collected ended: with all that was to come, or with one error.
pub use Rattle.wax_walk.specs.Collected.{Yielded, lacks_memory, over_budget, whole}
