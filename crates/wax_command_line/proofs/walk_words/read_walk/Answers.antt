use Rattle.std.proofs.Common.{refl, sym, ap, rules, ◌≡◌, ◌∙◌}
use Rattle.std.specs.Prelude.{codes, unwrap_or, slice_get}
use Rattle.wax_command_line.specs.Commands.{AsksWalk, WalkRequest}
use Rattle.wax_command_line.proofs.OptionWords.{bounds_so, said_bounds, said_lists, doubled, first_in}
use Rattle.wax_command_line.proofs.OptionWords.{none_holds, same_options, says_walk}
use Rattle.wax_command_line.proofs.walk_words.read_walk.Goals as goal

pub returns-then-ne-clause-none : goal.returns-then-ne-clause-none
returns-then-ne-clause-none c asked h =
    let said = (says_walk _ _ _ _ asked _ _ _ c.in_ok-command.ensures.some c.in_ok-start.ensures.some
    c.in_ok-expression.ensures.some).0 h.says in
    let other : c.in_ok-command.command.now ≡ codes "walk" → ⊥ = search rules in
    other said.0

pub returns-in_err-read_options-clause-none : goal.returns-in_err-read_options-clause-none
returns-in_err-read_options-clause-none c =
    let nothing : (asked : WalkRequest) → AsksWalk c.args.words.now asked → ⊥ = λ asked h.
    let said = (says_walk _ _ _ _ asked _ _ _ c.in_ok-command.ensures.some c.in_ok-start.ensures.some
    c.in_ok-expression.ensures.some).0 h.says in
    doubled _ _ _ (c.in_err-read_options.ensures.none asked.options said.3) h.bounds h.lists in
    none_holds _ nothing

pub returns-in_err-depth-clause-none : goal.returns-in_err-depth-clause-none
returns-in_err-depth-clause-none c =
    let nothing : (asked : WalkRequest) → AsksWalk c.args.words.now asked → ⊥ = λ asked h.
    let said = (says_walk _ _ _ _ asked _ _ _ c.in_ok-command.ensures.some c.in_ok-start.ensures.some
    c.in_ok-expression.ensures.some).0 h.says in
    let read = c.in_ok-read_options.ensures.some in
    let same = same_options c.in_ok-expression.options.now asked.options read.0 said.3 read.1 in
    c.in_err-depth.ensures.none (bounds_so _ asked.options read.0 same read.2 h.bounds) in
    none_holds _ nothing

pub returns-clause-some : goal.returns-clause-some
returns-clause-some c =
    let read = c.in_ok-read_options.ensures.some in
    let depth = c.in_ok-depth.ensures.some in
    let asked : WalkRequest = record {
      start = c.in_ok-start.start.now;
      expression = c.in_ok-expression.expression.now;
      options = read.0;
    } in
    let walk : c.in_ok-command.command.now ≡ codes "walk" = search rules in
    let bounds = c.in_ok-read_options.field-0 in (
      asked,
      record {
        says = (says_walk _ _ _ _ asked _ _ _ c.in_ok-command.ensures.some c.in_ok-start.ensures.some
            c.in_ok-expression.ensures.some).1 (walk, refl, refl, read.1);
        bounds = said_bounds _ read.0 read.2 depth.0;
        lists = said_lists _ read.0 read.2;
      },
      record {
        start = refl;
        expression = refl;
        options = read.1;
        lower = depth.1
            ∙ ap (λ v. unwrap_or v 0) (sym (ap (λ v. slice_get v 0) read.2.least ∙ first_in bounds.lower));
        upper = depth.2 ∙ sym (ap (λ v. slice_get v 0) read.2.greatest ∙ first_in bounds.upper);
      },
    )
