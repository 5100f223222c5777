-- Words of contracts on matching texts and lines, and programs that accept what a glob means.
use Rattle.std.specs.Prelude.{◌↔◌, ℕ, List}
use Rattle.wax.specs.GlobView.{GlobView, IsMeant}
pub use Rattle.wax_query.specs.Matched.{IsMatchOf, MatchedView, cube_visits, texts}
pub use Rattle.wax_query.specs.Parts.{IsPart, NoLineEndsBefore, cut}
pub use Rattle.wax_query.specs.Below.{AreNames, IsBelow, IsBelowWithin, IsPathWithin, IsPlainPath}
pub use Rattle.wax_query.specs.Below.{folder_text, ends_open, joined_names, slashed}
pub use Rattle.wax_capture.specs.Captures.{Captured, CapturedAt, First}
pub use Rattle.wax_capture.specs.Matched.{AreOnly, AreSpans, IsMatched, ends_of, square_visits}
pub use Rattle.wax_capture.specs.Pieces.{ArePieces}
pub use Rattle.wax_prefilter.specs.Below.{MeansBelow, MeansWithin, goes_test, goes_tested}
pub use Rattle.wax_lazy.specs.Cost.{first_visits, list_visits, match_visits, most_kept, path_visits}
pub use Rattle.wax_lazy.specs.Numbers.{AreNumbers, AreNumbersFrom, IsLastNumber, IsLastNumberFrom}
pub use Rattle.wax_lazy.specs.{Numbers.IsLastWhere, Verdict.{AcceptsBelow, IsVerdict}}
pub use Rattle.wax_match.specs.Numbered.{MeansNumbered, numbered_length}
pub use Rattle.wax_lines.specs.Counts.{greatest_count}
pub use Rattle.wax_lines.specs.Lines.{Filtered, Filters, Stopped, StoppedShort, WritesCaptures, WritesMeant}
pub use Rattle.wax_lines.specs.{Lines.lines, Written.WritesPart}
pub use Rattle.wax_program.specs.{Closed.{IsClosed, LeadsWithin}, Machine.{Accepts, mark}, Meter.most_ticks}
pub use Rattle.wax_program.specs.{Visits.onward_visits, declared.instruction.Instruction.Instruction}
pub use Rattle.wax_set.specs.Sets.{AcceptsText, AreMatches, IsAlternation, IsCompiledAny, IsNumbered, IsWhole}
pub use Rattle.wax_set.specs.Sets.{MeansAt, MeansText, any_code}

-- the program accepts exactly the texts that the glob means
abbrev pub AcceptsMeant : List Instruction → GlobView → Type 0
AcceptsMeant code g = (text : List ℕ) → Accepts code 0 text ↔ IsMeant g text
