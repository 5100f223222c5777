-- What the proof of a call that follows, frees or makes a handle cites.
pub use Rattle.std.proofs.Common.{◌≡◌, refl, pos, Some, None}
pub use Rattle.wax_c.proofs.{Following.{follows, passed, mut_at, shr_at}, Lending.{by_mut, by_shr}}
pub use Rattle.wax_c.proofs.Shapes.{alone, path, facts, placing, items, writing, listing, captures, parts}
pub use Rattle.wax_c.proofs.{Held.{glob, set, list}, Freeing.{frees, boxes}, Making.{holds, nulls}}
pub use denote.{Builtin.{u8, usize}, RawPtr.{block_ptr, null_ptr}}
