use Rattle.std.proofs.Common.{◌+◌, ◌∙◌, ◌≤◌, ap, map, subst, sym}
use Rattle.wax_facts.specs.Alternatives.{alternatives}
use Rattle.wax_prefilter.specs.Known.{MatchesPass}
use Rattle.wax_token.specs.{Cost.program_length, Reads.Span, Words.members}
use Rattle.wax_exclude.proofs.{Excluding.says_pattern, ListLengths.alternatives_shorter}
use Rattle.wax_exclude.specs.{Excluded.excluded_mark, Ignored.Line, Length.alternatives_length}
use Rattle.wax_exclude.specs.{inner.Numbers.KnowsLines, inner.Split.split_of}
use Rattle.wax_exclude.proofs.exclusions.Exclusion.new.Goals as goal

pub invariant_of-result : goal.invariant_of-result
invariant_of-result c = record {
  ignores = ap (λ line. line.ignores) c.in-Ok.ensures.line;
  lines = subst (λ lines. KnowsLines (map split_of lines) c.in_ok-numbered.numbered)
      c.from_ref.ensures.value c.in_ok-numbered.ensures;
  passes = subst (λ ts. MatchesPass ts c.in_ok-prefilter.prefilter)
      (c.concatenation.ensures ∙ ap members c.glob.ensures) c.in_ok-prefilter.ensures;
}

pub returns-clause-says : goal.returns-clause-says
returns-clause-says c =
    ap (λ line. excluded_mark (alternatives line.glob)) c.in-Ok.ensures.line ∙ says_pattern c.args.pattern

pub returns-clause-length : goal.returns-clause-length
returns-clause-length c =
    subst
    (λ (line : Line Span). alternatives_length (alternatives line.glob) ≤ program_length c.args.pattern + 3)
    (sym c.in-Ok.ensures.line) (alternatives_shorter c.args.pattern)
