use Rattle.std.proofs.Common.{◌+◌, ◌≤◌, ap, length, subst, sym}
use Rattle.wax_exclude.specs.{Excluded.excluded_mark, Ignored.ignore_mark}
use Rattle.wax_lazy.specs.Cost.{path_visits}
use Rattle.wax_walk.specs.{Candidates.Candidate, Given.Mark}
use Rattle.wax.proofs.Filters.{filter_below, filter_covers}
use Rattle.wax.specs.{Exclusions.{filter_length, rule_by}, declared.walk_filter.WalkFilter.WalkFilter}
use Rattle.wax.proofs.walk_filter.WalkFilter.excludes_below_metered.Goals as goal

-- the rule of a filter
abbrev rule : WalkFilter → Candidate → Mark
rule filter = rule_by (λ e c. excluded_mark e c) (λ lines c. ignore_mark lines c) filter

pub returns-in-Not-clause-covers : goal.returns-in-Not-clause-covers
returns-in-Not-clause-covers c =
    filter_covers c.excludes_below_metered.result _ (rule c.args.self.now) (ap rule (sym c.in-Not.is))
    c.args.path.now c.excludes_below_metered.ensures.says

pub returns-in-Not-clause-below : goal.returns-in-Not-clause-below
returns-in-Not-clause-below c =
    filter_below c.excludes_below_metered.result _ (rule c.args.self.now) (ap rule (sym c.in-Not.is))
    c.args.path.now c.excludes_below_metered.ensures.says

pub returns-in-Ignore-clause-covers : goal.returns-in-Ignore-clause-covers
returns-in-Ignore-clause-covers c =
    filter_covers c.ignores_below_metered.result _ (rule c.args.self.now) (ap rule (sym c.in-Ignore.is))
    c.args.path.now c.ignores_below_metered.ensures.says

pub returns-in-Ignore-clause-below : goal.returns-in-Ignore-clause-below
returns-in-Ignore-clause-below c =
    filter_below c.ignores_below_metered.result _ (rule c.args.self.now) (ap rule (sym c.in-Ignore.is))
    c.args.path.now c.ignores_below_metered.ensures.says

pub returns-in-Not-clause-above : goal.returns-in-Not-clause-above
returns-in-Not-clause-above c =
    subst (λ size. c.excludes_below_metered.new.meter
    ≤ c.args.meter.now + path_visits size (length c.args.path.now) + size)
    (ap filter_length (sym c.in-Not.is)) c.excludes_below_metered.ensures.above

pub returns-in-Ignore-clause-above : goal.returns-in-Ignore-clause-above
returns-in-Ignore-clause-above c =
    subst (λ size. c.ignores_below_metered.new.meter
    ≤ c.args.meter.now + path_visits size (length c.args.path.now) + size)
    (ap filter_length (sym c.in-Ignore.is)) c.ignores_below_metered.ensures.above
