use Rattle.std.specs.Fn.{FnReturnsAt}
use Rattle.wax_command_line.specs.WalkArguments.{asked_by}
use Rattle.wax_commands.proofs.Leaving.{so_far_all, so_far_more, so_far_none, so_far_refused}
use Rattle.wax_commands.proofs.Adding.{passed_on}
use Rattle.wax_commands.proofs.building.filters_of.Goals as goal

pub loop-option-init : goal.loop-option-init
loop-option-init g c = rw c.new-filters.ensures.items
    (λ asked h. so_far_none (FnReturnsAt g.B.Fn c.args.read.now) c.args.options.now asked h)

pub loop-option-preserved : goal.loop-option-preserved
loop-option-preserved g c asked h =
    so_far_more (FnReturnsAt g.B.Fn c.args.read.now) c.loop-option.rest.now c.in-Some.after.now
    (asked_by c.in-Some.option) asked _ (c.loop-option.invariant asked h) c.in-Some.ensures.some _
    c.in_ok-add_filter.ensures.ok

pub returns-in_err-add_filter-clause-err : goal.returns-in_err-add_filter-clause-err
returns-in_err-add_filter-clause-err g c =
    let answers = FnReturnsAt g.B.Fn c.args.read.now in
    passed_on c.from_residual.result _ _ c.from_residual.ensures.1
    (λ differs asked h. so_far_refused answers c.loop-option.rest.now c.in-Some.after.now
    (asked_by c.in-Some.option) asked _ (c.loop-option.invariant asked h) c.in-Some.ensures.some
    (c.in_err-add_filter.ensures.err differs))

pub returns-clause-ok : goal.returns-clause-ok
returns-clause-ok g c asked h = so_far_all (FnReturnsAt g.B.Fn c.args.read.now) c.loop-option.rest.now asked _
    (c.loop-option.invariant asked h) c.in_default.ensures.none
