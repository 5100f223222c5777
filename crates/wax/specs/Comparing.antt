-- What is found of two globs, sets or ignore lists, of a set's patterns, and of the lines of an ignore list.
pub use Rattle.wax_compare.specs.Comparison.{AsWanted, IsAnswer, IsShortest, IsWanted}
pub use Rattle.wax_compare.specs.Limit.{AreAllPairs, AreExplored, Explored, IsMoreThan, IsReachedPair}
pub use Rattle.wax_compare.specs.Limit.{IsReachedState, KeepsLimit, KeepsLimitBy, PairOfStates, ReachesMore}
pub use Rattle.wax_compare.specs.Selected.{CanSelect, HasOddLast, IsSelected, SelectsTexts}
pub use Rattle.wax_compare.specs.Texts.{HasTwoSlashes, IsAmongTexts, PlainPathLaw}
pub use Rattle.wax_exclude.specs.Idle.{AllIdleLinesCanGo, AreIdle, AreIdleAmong, DecidesNothing, DecidesSome}
pub use Rattle.wax_exclude.specs.Idle.{HasEffect, IdleLinesCanGo, IdleLinesCanGoTogether, IsCoveredBy}
pub use Rattle.wax_exclude.specs.Idle.{IsLastOfSome, IsPath, IsReason, IsTakenBack, LineIgnores, LineMeans}
pub use Rattle.wax_exclude.specs.Idle.{TakesNothing}
pub use Rattle.wax_exclude.specs.Tidy.{AreAt, CanGoAfter, GoInTurn, IsTidy, Removes, StillIgnores, StillMeans}
pub use Rattle.wax_exclude.specs.Tidy.{TidiesUp, indexes_of}
pub use Rattle.wax_exclude.specs.Undecided.{AreGlobsAt, AreTooLarge, AreUndecided, IsGlobAt, IsUndecided}
pub use Rattle.wax_exclude.specs.Undecided.{SomeLineMeans}
pub use Rattle.wax_set.specs.Conflicts.{AreConflicts, IsAmongConflicts, IsConflict, IsEarlierPair}
pub use Rattle.wax_set.specs.Conflicts.{IsSharedPath, PatternPair, pair_of, pattern_total}
