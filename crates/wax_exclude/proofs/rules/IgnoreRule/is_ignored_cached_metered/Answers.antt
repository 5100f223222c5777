use Rattle.std.proofs.Common.{◌∙◌, ap, chars, map, subst}
use Rattle.wax_walk.specs.Candidates.{in_characters}
use Rattle.wax_exclude.proofs.{ListingLines.split_mark, ListLengths.lines_within}
use Rattle.wax_exclude.proofs.Remembered.{excluded_if_ignored}
use Rattle.wax_exclude.specs.{Ignored.is_ignored, inner.Numbers.KnowsLines, inner.Split.split_of}
use Rattle.wax_exclude.proofs.rules.IgnoreRule.is_ignored_cached_metered.Goals as goal

pub residue-requires : goal.residue-requires
residue-requires c = c.self.invariant.closed

pub returns-clause-decides : goal.returns-clause-decides
returns-clause-decides c =
    let lines = c.args.self.now in
    let candidate = in_characters c.path_candidate.result in
    let knows = subst (λ ls. KnowsLines (map split_of ls) c.self.inside.numbered) c.self.view_is
    c.self.invariant in
    c.is_some.ensures
    ∙ excluded_if_ignored lines candidate c.in_ok-residue.residue
    (c.in_ok-residue.ensures.says (map split_of lines) knows ∙ split_mark lines candidate)
    ∙ ap (λ s. is_ignored lines s) c.path_candidate.ensures

pub returns-in_err-residue-clause-above : goal.returns-in_err-residue-clause-above
returns-in_err-residue-clause-above c =
    let knows = subst (λ ls. KnowsLines (map split_of ls) c.self.inside.numbered) c.self.view_is
    c.self.invariant in
    lines_within c.args.self.now c.self.inside.numbered (chars c.path_candidate.result.path.now)
    c.args.path.now c.args.meter.now c.residue.new.meter knows c.path_candidate.ensures
    c.residue.ensures.above

pub returns-clause-above : goal.returns-clause-above
returns-clause-above c =
    let knows = subst (λ ls. KnowsLines (map split_of ls) c.self.inside.numbered) c.self.view_is
    c.self.invariant in
    lines_within c.args.self.now c.self.inside.numbered (chars c.path_candidate.result.path.now)
    c.args.path.now c.args.meter.now c.residue.new.meter knows c.path_candidate.ensures
    c.residue.ensures.above
