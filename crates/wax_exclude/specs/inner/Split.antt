-- Lines with the alternatives of their globs.
use Rattle.wax_facts.specs.Alternatives.{alternatives}
use Rattle.wax_token.specs.Reads.{Span}
use Rattle.wax_exclude.specs.{Ignored.Line, declared.split.SplitLine.SplitLine}

-- a line with the alternatives of its glob
abbrev pub split_of : Line Span → SplitLine
split_of line = record { ignores = line.ignores; alternatives = alternatives line.glob }
