-- Words of contracts on patterns and on sets that are built from them.
pub use Rattle.wax_set.specs.Patterns.{AreOversized, IsAnyOf, IsFirstRefused, IsOnly, LacksMemory, NoSet}
pub use Rattle.wax_set.specs.Patterns.{NumberMeans, OneMeans, RefusesOk, SpellEach, SpellsOk}
pub use Rattle.wax_rule.specs.Expressions.{Refuses, Spells}
