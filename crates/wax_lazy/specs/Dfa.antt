-- What a lazy DFA knows of a program.
pub use Rattle.wax_lazy.specs.inner.Cached.{IsDfaOf, KnowsAhead}
